-- A bit set in a word, and in a row of words: which bits are set then, and how many.
use Rattle.std.proofs.Common.{◌≡◌, ℕ, ◌+◌, ◌*◌, ◌/◌, ◌%◌, ◌^◌, ◌<◌, ◌≤◌, false, cond, ◌||◌, eqb, List, length, get_or, set, replicate, sym, refl, ap, ◌∙◌, inl, inr, w64, arith}
use lib.Bits.{bit_or}
use lib.Count.{ones, ones_step, ones_cat, ones-ones}
use Rattle.std.proofs.lemmas.Nat.{pow_pos, shr_split, mod_below, one_shl, or_disjoint}
use Rattle.std.proofs.lemmas.Nat.Bits.{bit_at-zero, bit_at_or, bit_at-pow_same, bit_at-pow_other, bit_at_set_same, bit_at_set_other, and_pow, same_from_bits}
use Rattle.std.specs.Int.{bit_at}
use Rattle.std.proofs.lemmas.Bool.{eq-eqb, ne_eqb, cases_eq, cases_lt, cases_Bool, eqb-true, eqb-false, or_left}
use Rattle.std.proofs.lemmas.List.{get_or-set_same, get_or-set_other, get_or_past, get_or-replicate, length-replicate}
use Rattle.std.proofs.lemmas.List.Folds.{sum_by-replicate}
use Rattle.std.proofs.lemmas.List.Sums.{sum_by-set}
use Rattle.bits.specs.Marks.{bit, marked, count, MarksPlace}

-- a bit that is set is set again to no effect
or_set : (w k : ℕ) → bit_at w k ≡ 1 → bit_or w (2 ^ k) ≡ w
or_set w k h = same_from_bits _ w (λ i. bit_at_or w (2 ^ k) i ∙ elim (cases_eq i k) [
  | inl e ↦ rw (e, h, bit_at-pow_same k) refl
  | inr ne ↦ rw (bit_at-pow_other k i ne) (omega arith)
])

-- a set bit is one more, unless it was set
ones_set : (w k : ℕ) → ones (bit_or w (2 ^ k)) ≡ ones w + cond (bit w k) 0 1
ones_set w k = elim (cases_Bool (bit w k)) [
  | inl t ↦ rw (t, or_set w k (eqb-true _ 1 t)) (omega arith)
  | inr t ↦
      let q = w / 2 ^ k in
      let r = w % 2 ^ k in
      let even : q % 2 ≡ 0 = let n = eqb-false (q % 2) 1 t in omega (arith, n) in
      let split : w ≡ q * 2 ^ k + r = sym (shr_split w k) in
      let sum : bit_or w (2 ^ k) ≡ (q + 1) * 2 ^ k + r = or_disjoint w (2 ^ k) (and_pow w k ∙ rw even (omega arith)) ∙ omega arith in
      let rl : r < 2 ^ k = mod_below w (2 ^ k) (pow_pos k) in
      let half : (q + 1) / 2 ≡ q / 2 = omega arith in
      rw t (omega (arith, ap ones sum ∙ ones_cat k (q + 1) r rl, ap ones split ∙ ones_cat k q r rl, ones_step q, ones_step (q + 1), ap ones half))
]

-- a word with bit k set, as the code sets it
abbrev with_bit : ℕ → ℕ → ℕ
with_bit w k = bit_or w (1 * 2 ^ k % 2 ^ 64)

-- the row of words after a place was marked
abbrev pub with_mark : List ℕ → ℕ → List ℕ
with_mark ws p = set ws (p / 64) (with_bit (get_or ws (p / 64) 0) (p % 64))

marked_set : (ws : List ℕ) (p q : ℕ) → p / 64 < length ws → marked (with_mark ws p) q ≡ (eqb q p || marked ws q)
unfolding marked
marked_set ws p q h =
    let w = get_or ws (p / 64) 0 in
    let v = with_bit w (p % 64) in
    elim (cases_eq q p) [
      | inl e ↦
          rw (e, get_or-set_same ws (p / 64) v 0 h)
          (eq-eqb _ 1 (bit_at_set_same w64 w (p % 64) (omega arith)) ∙ sym (or_left _ _ (eq-eqb p p refl)))
      | inr ne ↦
          rw (ne_eqb q p ne)
          (elim (cases_eq (q / 64) (p / 64)) [
            | inl e ↦
                rw (e, get_or-set_same ws (p / 64) v 0 h)
                (ap (λ n. eqb n 1) (bit_at_set_other w64 w (p % 64) (omega arith) (q % 64) (λ m. ne (omega arith))))
            | inr d ↦ ap (λ w. bit w (q % 64)) (get_or-set_other ws (p / 64) (q / 64) v 0 d)
          ])
    ]

count_set : (ws : List ℕ) (p : ℕ) → p / 64 < length ws → count (with_mark ws p) ≡ count ws + cond (marked ws p) 0 1
unfolding count marked
count_set ws p h =
    let w = get_or ws (p / 64) 0 in
    let e : with_bit w (p % 64) ≡ bit_or w (2 ^ (p % 64)) = ap (bit_or w) (one_shl (p % 64) 64 (omega arith)) in
    omega (arith, sum_by-set ones ws (p / 64) (with_bit w (p % 64)) 0 h, ap ones e ∙ ones_set w (p % 64))

pub marks_place : (ws : List ℕ) (p : ℕ) → p / 64 < length ws → MarksPlace p ws (with_mark ws p)
marks_place ws p h = record { marks = λ q. marked_set ws p q h; counts = count_set ws p h }

-- past the last word, and in words of nought, nothing is marked
no_bit : (k : ℕ) → bit 0 k ≡ false
no_bit k = ap (λ n. eqb n 1) (bit_at-zero k)

pub marked_past : (ws : List ℕ) (p : ℕ) → length ws ≤ p / 64 → marked ws p ≡ false
unfolding marked
marked_past ws p h = rw (get_or_past ws (p / 64) 0 h) (no_bit (p % 64))

pub marked_none : (n p : ℕ) → marked (replicate n 0) p ≡ false
unfolding marked
marked_none n p = elim (cases_lt (p / 64) n) [
  | inl l ↦ rw (get_or-replicate {A = ℕ} n (p / 64) 0 0 l) (no_bit (p % 64))
  | inr l ↦ marked_past (replicate n 0) p (rw (length-replicate {A = ℕ} n 0) l)
]

pub count_none : (n : ℕ) → count (replicate n 0) ≡ 0
unfolding count
count_none n = sum_by-replicate ones n 0 ∙ ap (λ m. n * m) (ones-ones 0) ∙ omega arith
