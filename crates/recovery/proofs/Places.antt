-- Tests over places: the first that passes, how many do below a place, and where two rows of cells differ.
use Rattle.std.proofs.Common.{◌≡◌, ℕ, zero, suc, ◌+◌, ◌-◌, ◌<◌, ◌≤◌, Bool, true, false, cond, not, ◌&&◌, ◌⊎◌, ap, ◌∙◌, inl, inr, add-zero, add-suc, zero-add, add-one, arith}
use Rattle.std.proofs.lemmas.Bool.{both_ways, and_parts, and_from, not-true, not_from_false, cases_Bool, cases_lt, cases_eq}

pub same_place : (q i : ℕ) → i ≤ q → q ≤ i → q ≡ i
same_place q i a b = omega arith

-- the first place below p at which a test holds, or none
pub earliest : (P : ℕ → Bool) (p : ℕ) →
    ((j : ℕ) × (j < p) × (P j ≡ true) × ((q : ℕ) → q < j → P q ≡ true → ⊥)) ⊎ ((q : ℕ) → q < p → P q ≡ true → ⊥)
earliest P zero = inr (λ q l e. omega arith)
earliest P (suc p) = elim (earliest P p) [
  | inl r ↦ inl (r.0, omega arith, r.2, r.3)
  | inr none ↦ elim (cases_Bool (P p)) [
    | inl e ↦ inl (p, omega arith, e, none)
    | inr e ↦ inr (λ q l t. elim (cases_lt q p) [ inl m ↦ none q m t | inr m ↦ both_ways _ (ap P (same_place q p m (omega arith)) ∙ e) t ])
  ]
]

-- two rows agree on m cells from i on, or differ at one of them
pub differ : (f g : ℕ → ℕ) (i m : ℕ) → ((k : ℕ) → i ≤ k → k < i + m → f k ≡ g k) ⊎ ((k : ℕ) × (i ≤ k) × (k < i + m) × (f k ≡ g k → ⊥))
differ f g i zero = inl (λ k l h. let z : ⊥ = omega arith in absurd z)
differ f g i (suc m) = elim (differ f g i m) [
  | inr r ↦ inr (r.0, r.1, omega arith, r.3)
  | inl all ↦ elim (cases_eq (f (i + m)) (g (i + m))) [
    | inl e ↦ inl (λ k l h. elim (cases_lt k (i + m)) [ inl s ↦ all k l s | inr s ↦ let q = same_place k (i + m) s (omega arith) in rw q e ])
    | inr e ↦ inr (i + m, omega arith, omega arith, e)
  ]
]

-- how many places below n pass a test
unfoldable pub count : (ℕ → Bool) → ℕ → ℕ
count P zero = 0
count P (suc n) = cond (P n) (suc (count P n)) (count P n)

module _ (P : ℕ → Bool) where
  pub count_fails : (n : ℕ) → P n ≡ false → count P (n + 1) ≡ count P n
  unfolding count
  count_fails n h = rw (add-one n, h)

  pub count_passes : (n : ℕ) → P n ≡ true → count P (n + 1) ≡ suc (count P n)
  unfolding count
  count_passes n h = rw (add-one n, h)

  pub count_skip : (i k : ℕ) → ((q : ℕ) → i ≤ q → q < i + k → P q ≡ false) → count P (i + k) ≡ count P i
  unfolding count
  count_skip i zero h = rw (add-zero i)
  count_skip i (suc k) h = rw (add-suc i k, h (i + k) (omega arith) (omega arith)) (count_skip i k (λ q l m. h q l (omega arith)))

  pub count_none : (n : ℕ) → ((q : ℕ) → q < n → P q ≡ true → ⊥) → count P n ≡ 0
  unfolding count
  count_none n h =
      let e : (q : ℕ) → 0 ≤ q → q < 0 + n → P q ≡ false = λ q l m. elim (cases_Bool (P q)) [ inl t ↦ absurd (h q (omega arith) t) | inr t ↦ t ] in
      rw zero-add at (count_skip 0 n e)

  pub count_up : (i k : ℕ) → count P i ≤ count P (i + k)
  unfolding count
  count_up i zero = rw (add-zero i) (omega arith)
  count_up i (suc k) =
      let r = count_up i k in
      elim (cases_Bool (P (i + k))) [ inl e ↦ rw (add-suc i k, e) (omega arith) | inr e ↦ rw (add-suc i k, e) r ]

  -- what passes below n is counted there
  pub count_some : (q n : ℕ) → q < n → P q ≡ true → count P n ≡ 0 → ⊥
  count_some q n l t z =
      let e : q + 1 + (n - (q + 1)) ≡ n = omega arith in
      let o = count_passes q t in
      let u = rw e at (count_up (q + 1) (n - (q + 1))) in
      omega arith

  module _ (Q : ℕ → Bool) where
    pub count_mono : (n : ℕ) → ((q : ℕ) → q < n → P q ≡ true → Q q ≡ true) → count P n ≤ count Q n
    unfolding count
    count_mono zero h = omega arith
    count_mono (suc n) h =
        let r = count_mono n (λ q l e. h q (omega arith) e) in
        elim (cases_Bool (P n)) [
          | inl e ↦ rw (e, h n (omega arith) e) (omega arith)
          | inr e ↦ elim (cases_Bool (Q n)) [ inl f ↦ rw (e, f) (omega arith) | inr f ↦ rw (e, f) r ]
        ]

    -- where more pass one test than another, the first that passes it alone has no more of it before it
    pub more_in : (n : ℕ) → count Q n < count P n → (j : ℕ) × (j < n) × (P j ≡ true) × (Q j ≡ false) × (count P j ≤ count Q j)
    more_in n h = elim (earliest (λ q. P q && not (Q q)) n) [
      | inr none ↦ let r = count_mono n (λ q l e. also q e (none q l)) in let z : ⊥ = omega arith in absurd z
      | inl r ↦
          let p = and_parts (P r.0) _ r.2 in
          (r.0, r.1, p.0, not-true _ p.1, count_mono r.0 (λ q l e. also q e (r.3 q l)))
    ]
      where
        also : (q : ℕ) → P q ≡ true → ((P q && not (Q q)) ≡ true → ⊥) → Q q ≡ true
        also q e never = elim (cases_Bool (Q q)) [ inl f ↦ f | inr f ↦ absurd (never (and_from _ _ e (not_from_false _ f))) ]
