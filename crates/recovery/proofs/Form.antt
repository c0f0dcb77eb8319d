-- What damage can do to what is found, over any form of block that keeps the laws, where up to so many of each name are found.
use Rattle.std.proofs.Common.{◌≡◌, ℕ, ◌+◌, ◌-◌, ◌<◌, ◌≤◌, Bool, true, ◌⊎◌, List, length, sym, ◌∙◌, inl, inr, arith}
use Rattle.block.specs.Cell.{mark}
use Rattle.block.specs.Block.{at}
use Rattle.recovery.proofs.Places.{count, count_up, more_in, differ}
use Rattle.recovery.proofs.Scan.{of_name, Taken, scan, Counted, scan_taken, taken_scan}
use Rattle.std.proofs.lemmas.Bool.{both_ways, eqb-true, eq-eqb, and_parts, and_from, cases_lt}

-- a form of block: where one in use stands, how many cells it has, of what name it is, and the laws of these
pub record Form : Type 0 where
  pub used : List ℕ → ℕ → Bool
  pub size : List ℕ → ℕ → ℕ
  pub name : List ℕ → ℕ → ℕ
  -- it has a cell at least, and ends on the shelf
  pub pos : (a : List ℕ) (i : ℕ) → used a i ≡ true → 1 ≤ size a i
  pub fits : (a : List ℕ) (i : ℕ) → used a i ≡ true → i + size a i ≤ length a
  -- its first cell is a head's, and no other cell is
  pub head : (a : List ℕ) (i : ℕ) → used a i ≡ true → mark ≤ at a i
  pub tail : (a : List ℕ) (i k : ℕ) → used a i ≡ true → i < k → k < i + size a i → at a k < mark
  -- it is told by its own cells
  pub local : (a b : List ℕ) (i : ℕ) → length b ≡ length a → used a i ≡ true → ((k : ℕ) → i ≤ k → k < i + size a i → at b k ≡ at a k) →
      (used b i ≡ true) × (name b i ≡ name a i)

pub form_apart : (F : Form) (a : List ℕ) (i j : ℕ) → F.used a i ≡ true → F.used a j ≡ true → i < j → i + F.size a i ≤ j
form_apart F a i j h k l = elim (cases_lt j (i + F.size a i)) [
  | inr e ↦ e
  | inl e ↦ let t = F.tail a i j h l e in let u = F.head a j k in let z : ⊥ = omega arith in absurd z
]

module _ (F : Form) (cap : ℕ → ℕ) where
  -- what a scan finds that takes up to `cap` of each name
  abbrev pub form_found : List ℕ → ℕ → Bool
  form_found b p = scan (length b) (F.used b) (F.size b) (F.name b) cap (length b) (λ w. 0) 0 p

  -- how many of a name stand before a place
  abbrev pub before : List ℕ → ℕ → ℕ → ℕ
  before b w p = count (of_name (F.used b) (F.name b) w) p

  none_yet : (b : List ℕ) → Counted (length b) (F.used b) (F.size b) (F.name b) cap (λ w. 0) 0
  unfolding count
  none_yet b w = omega arith

  pub found_taken : (b : List ℕ) (p : ℕ) → form_found b p ≡ true → Taken (length b) (F.used b) (F.name b) cap p
  found_taken b p h = scan_taken (length b) (F.used b) (F.size b) (F.name b) cap (F.pos b) (form_apart F b) (length b) (λ w. 0) 0 p (none_yet b) h

  pub taken_found : (b : List ℕ) (p w : ℕ) → F.used b p ≡ true → F.name b p ≡ w → before b w p < cap w → form_found b p ≡ true
  taken_found b p w u n few =
      let s = F.pos b p u in
      let t = F.fits b p u in
      taken_scan (length b) (F.used b) (F.size b) (F.name b) cap (F.pos b) (form_apart F b) (length b) (λ w. 0) 0 p (none_yet b) (omega arith) (omega arith)
      (record { below = omega arith; here = u; few = rw n few })

  -- a cell of what stands in b at j is not what it was
  abbrev pub Hit : List ℕ → List ℕ → ℕ → Type 0
  Hit a b j = (k : ℕ) × (j ≤ k) × (k < j + F.size b j) × (at b k ≡ at a k → ⊥)

  module _ (a b : List ℕ) (len : length b ≡ length a) where
    -- what stands in b and has no hit cell stood in a
    pub stood : (j : ℕ) → F.used b j ≡ true →
        ((F.used a j ≡ true) × (F.name a j ≡ F.name b j) × ((k : ℕ) → j ≤ k → k < j + F.size b j → at a k ≡ at b k)) ⊎ Hit a b j
    stood j u = elim (differ (at b) (at a) j (F.size b j)) [
      | inr r ↦ inr r
      | inl all ↦
          let e : (k : ℕ) → j ≤ k → k < j + F.size b j → at a k ≡ at b k = λ k l h. sym (all k l h) in
          let r = F.local b a j (sym len) u e in
          inl (r.0, r.1, e)
    ]

    -- what has no hit cell is found, unless what was hit is found before it under its name
    pub saves : (i w : ℕ) → F.used a i ≡ true → F.name a i ≡ w → before a w i < cap w → ((k : ℕ) → i ≤ k → k < i + F.size a i → at b k ≡ at a k) →
        (form_found b i ≡ true) ⊎ ((j : ℕ) × (j < i) × (form_found b j ≡ true) × (F.name b j ≡ w) × Hit a b j)
    saves i w u nm few cells =
        let r = F.local a b i len u cells in
        elim (cases_lt (before b w i) (cap w)) [
          | inl l ↦ inl (taken_found b i w r.0 (r.1 ∙ nm) l)
          | inr l ↦
              let m = more_in (of_name (F.used b) (F.name b) w) (of_name (F.used a) (F.name a) w) i (omega arith) in
              let j = m.0 in
              let c = and_parts (F.used b j) _ m.2 in
              let n = eqb-true (F.name b j) w c.1 in
              let e : j + (i - j) ≡ i = let q = m.1 in omega arith in
              let up = rw e at (count_up (of_name (F.used a) (F.name a) w) j (i - j)) in
              let le = m.4 in
              let hit : Hit a b j = elim (stood j c.0) [
                | inr h ↦ h
                | inl s ↦ absurd (both_ways _ m.3 (and_from _ _ s.0 (eq-eqb _ _ (s.1 ∙ n))))
              ] in
              inr (j, m.1, taken_found b j w c.0 n (omega arith), n, hit)
        ]
