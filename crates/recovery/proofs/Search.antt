-- A search along the shelf: what it knows at its start, after each step and at its end.
use Rattle.std.proofs.Common.{◌≡◌, ℕ, ◌+◌, ◌<◌, ◌≤◌, true, false, ◌&&◌, ◌||◌, eqb, ltb, List, length, Option, Some, subst, sym, refl, ap, ◌∙◌, inl, inr, arith}
use Rattle.std.proofs.lemmas.Bool.{both_ways, and_parts, and_from, and_left, and_right, or_cases, ltb-true, lt-ltb, le-ltb, eqb-true, eq-eqb, ne_eqb, cases_Bool, cases_lt, cases_order}
use Rattle.block.specs.Block.{long, whose, size, used}
use Rattle.block.proofs.Blocks.{size_is}
use Rattle.bits.specs.Marks.{marked, MarksPlace}
use Rattle.bits.specs.Filter.{may_have, Adds}
use Rattle.recovery.specs.Found.{found}
use Rattle.recovery.specs.Search.{MarkedAs, NoneUsed, NextUsed, SoFar}
use Rattle.recovery.proofs.Places.{earliest, same_place}
use Rattle.recovery.proofs.Promises.{used_fits, used_apart, found_is_first, found_used, apart}

-- what is found ends on the shelf
pub found_fits : (a : List ℕ) (p : ℕ) → found a p ≡ true → p + size a p ≤ length a
found_fits a p h = used_fits a p (found_used a p h)

pub found_within : (a : List ℕ) (p : ℕ) → found a p ≡ true → p < length a
found_within a p h = let f = found_fits a p h in let s = size_is (long a p) in omega arith

-- somebody who has a block in use before i is found before i
found_before : (a : List ℕ) (w i j : ℕ) → j < i → used a j ≡ true → whose a j ≡ w → (p : ℕ) × (p < i) × (found a p ≡ true) × (whose a p ≡ w)
found_before a w i j l u e = elim (earliest (λ q. used a q && eqb (whose a q) w) i) [
  | inr none ↦ absurd (none j l (and_from _ _ u (eq-eqb _ _ e)))
  | inl r ↦
      let c = and_parts (used a r.0) _ r.2 in
      let n = eqb-true (whose a r.0) w c.1 in
      (r.0, r.1, (found_is_first a r.0).1 (record { here = c.0; first = λ q m v d. r.3 q m (and_from _ _ v (eq-eqb _ _ (d ∙ n))) }), n)
]

module _ (a ms fs : List ℕ) (i : ℕ) (far : SoFar a ms fs i) where
  marked_found : (p : ℕ) → marked ms p ≡ true → (p < i) × (found a p ≡ true)
  marked_found p m = let c = and_parts (ltb p i) (found a p) (sym (far.places p) ∙ m) in (ltb-true p i c.0, c.1)

  -- who was marked before is not found again
  pub found_again : (j : ℕ) → MarkedAs ms a (whose a i) 0 j → found a i ≡ false
  found_again j r = elim (cases_Bool (found a i)) [
    | inr e ↦ e
    | inl e ↦
        let m = marked_found r.0 r.3 in
        absurd (((found_is_first a i).0 e).first r.0 m.0 (found_used a r.0 m.1) r.4)
  ]

  -- and who was not is found
  pub found_new : used a i ≡ true → (MarkedAs ms a (whose a i) 0 i → ⊥) → found a i ≡ true
  found_new u new =
      (found_is_first a i).1 (record {
        here = u;
        first = λ j l v e.
            let r = found_before a (whose a i) i j l v e in
            new (r.0, omega arith, r.1, far.places r.0 ∙ and_from _ _ (lt-ltb r.0 i r.1) r.2, r.3);
      })

  -- the filter's no is an answer
  pub filter_new : may_have fs (whose a i) ≡ false → MarkedAs ms a (whose a i) 0 i → ⊥
  filter_new no_bits r = both_ways _ no_bits (rw r.4 at (far.owners r.0 r.3))

  -- as far as a place before which nothing is found
  pub far_past : (j : ℕ) → i ≤ j → ((p : ℕ) → i ≤ p → p < j → found a p ≡ false) → SoFar a ms fs j
  far_past j l none = record {
    places = λ p. far.places p ∙ elim (cases_lt p i) [
      | inl m ↦ rw (lt-ltb p i m, lt-ltb p j (omega arith))
      | inr m ↦ elim (cases_lt p j) [
        | inl n ↦ rw (none p m n) (and_right (ltb p i) false refl ∙ sym (and_right (ltb p j) false refl))
        | inr n ↦ rw (le-ltb p i m, le-ltb p j n)
      ]
    ];
    owners = far.owners;
  }

  pub far_found : (ms' fs' : List ℕ) → found a i ≡ true → MarksPlace i ms ms' → Adds (whose a i) fs fs' → SoFar a ms' fs' (i + size a i)
  far_found ms' fs' e m d = record {
    places = λ p. m.marks p ∙ (ap (λ b. eqb p i || b) (far.places p) ∙ elim (cases_order p i) [
      | inl q ↦ rw (q, eq-eqb i i refl, e, lt-ltb i (i + size a i) (let s = size_is (long a i) in omega arith))
      | inr (inl l) ↦ rw (ne_eqb p i (λ q. omega arith), lt-ltb p i l, lt-ltb p (i + size a i) (omega arith))
      | inr (inr l) ↦ rw (ne_eqb p i (λ q. omega arith), le-ltb p i (omega arith)) (sym (between p l))
    ]);
    owners = λ p t. elim (or_cases (eqb p i) (marked ms p) (sym (m.marks p) ∙ t)) [
      | inl q ↦ rw (eqb-true p i q) d.has
      | inr q ↦ d.keeps (whose a p) (far.owners p q)
    ];
  }
    where
      between : (p : ℕ) → i < p → (ltb p (i + size a i) && found a p) ≡ false
      between p l = elim (cases_Bool (found a p)) [
        | inr f ↦ and_right _ _ f
        | inl f ↦ let x = apart a i p e f l in and_left _ _ (le-ltb p (i + size a i) x)
      ]

-- what stands from i on is none of what is found
unused_passed : (a : List ℕ) (p : ℕ) → used a p ≡ false → found a p ≡ false
unused_passed a p u = elim (cases_Bool (found a p)) [ inl e ↦ absurd (both_ways _ u (found_used a p e)) | inr e ↦ e ]

-- nothing is found inside a block that stands
inside_passed : (a : List ℕ) (i p : ℕ) → used a i ≡ true → i < p → p < i + size a i → found a p ≡ false
inside_passed a i p u l m = unused_passed a p (elim (cases_Bool (used a p)) [
  | inl e ↦ let x = used_apart a i p u e l in absurd (omega arith)
  | inr e ↦ e
])

module _ {a b c : List ℕ} {i j : ℕ} (e : b ≡ a) where
  -- the next block in use of a row that is the same
  pub same_next : {r : Option ℕ} → NextUsed b i r c j → NextUsed a i r c j
  same_next {r = r} n = subst (λ x. NextUsed x i r c j) e n

  -- and it has room for a head
  pub next_within : {p : ℕ} → NextUsed b i (Some p) c j → p + 3 ≤ length a
  next_within {p = p} n = let f = used_fits a p (same_next n).first.1 in let s = size_is (long a p) in omega arith

module _ (a ms fs : List ℕ) (i : ℕ) (far : SoFar a ms fs i) where
  -- as far as the next block in use
  pub far_next : (p : ℕ) → i ≤ p → NoneUsed a i p → SoFar a ms fs p
  far_next p l none = far_past a ms fs i far p l (λ q m n. unused_passed a q (none q m n))

  -- and behind it, where somebody's was found before
  pub far_skip : used a i ≡ true → found a i ≡ false → SoFar a ms fs (i + size a i)
  far_skip u e = far_past a ms fs i far (i + size a i) (omega arith) (λ p l m. elim (cases_lt i p) [
    | inl n ↦ inside_passed a i p u n m
    | inr n ↦ let q = same_place p i l n in rw q e
  ])

  -- where none is left all that is found is marked
  pub far_end : NoneUsed a i (length a) → (p : ℕ) → marked ms p ≡ found a p
  far_end none p = far.places p ∙ elim (cases_Bool (found a p)) [
    | inr e ↦ rw e (and_right (ltb p i) false refl)
    | inl e ↦
        let w = found_within a p e in
        let m : p < i = elim (cases_lt p i) [ inl m ↦ m | inr m ↦ absurd (both_ways _ (none p m w) (found_used a p e)) ] in
        rw (e, lt-ltb p i m)
  ]
