-- What a scan from the left finds that takes up to so many of each name: whatever stands with fewer of its name before it. No cells here.
use Rattle.std.proofs.Common.{◌≡◌, ℕ, zero, suc, ◌+◌, ◌-◌, ◌<◌, ◌≤◌, min, Bool, true, false, cond, ◌&&◌, ◌||◌, eqb, ltb, sym, refl, ◌∙◌, inl, inr, arith}
use Rattle.recovery.proofs.Places.{count, count_fails, count_passes, count_skip}
use Rattle.std.proofs.lemmas.Bool.{both_ways, ltb-true, ltb-false, eqb-true, eqb-false, lt-ltb, le-ltb, eq-eqb, ne_eqb, and_parts, cases_Bool, and_from, and_cases, and_left, and_right, or_cases, or_left, or_right}

-- one more of a name
abbrev pub more : (ℕ → ℕ) → ℕ → (ℕ → ℕ)
more s v = λ w. cond (eqb w v) (suc (s w)) (s w)

-- those that stand and have the name w
abbrev pub of_name : (ℕ → Bool) → (ℕ → ℕ) → ℕ → ℕ → Bool
of_name stands name w q = stands q && eqb (name q) w

-- something stands at p, and fewer of its name than are taken stand before it
pub record Taken (n : ℕ) (stands : ℕ → Bool) (name cap : ℕ → ℕ) (p : ℕ) : Type 0 where
  pub below : p < n
  pub here : stands p ≡ true
  pub few : count (of_name stands name (name p)) p < cap (name p)

-- what a scan does at i, with what it knows then
data Step (n : ℕ) (stands : ℕ → Bool) (name cap s : ℕ → ℕ) (i : ℕ) : Type 0 where
  stop : n ≤ i → Step n stands name cap s i
  find : i < n → stands i ≡ true → s (name i) < cap (name i) → Step n stands name cap s i
  skip : i < n → (stands i && ltb (s (name i)) (cap (name i))) ≡ false → (stands i ≡ true → cap (name i) ≤ s (name i)) → Step n stands name cap s i

module _ (n : ℕ) (stands : ℕ → Bool) (size name cap : ℕ → ℕ) where
  -- with f steps left and s of each name found, is something found at p from i on
  unfoldable pub scan : ℕ → (ℕ → ℕ) → ℕ → ℕ → Bool
  scan zero s i p = false
  scan (suc f) s i p =
      cond (ltb i n) (cond (stands i && ltb (s (name i)) (cap (name i))) (eqb p i || scan f (more s (name i)) (i + size i) p) (scan f s (i + 1) p)) false

  step : (s : ℕ → ℕ) (i : ℕ) → Step n stands name cap s i
  step s i = elim (cases_Bool (ltb i n)) [
    | inr e ↦ stop (ltb-false i n e)
    | inl e ↦ elim (cases_Bool (stands i && ltb (s (name i)) (cap (name i)))) [
      | inl t ↦ let u = and_parts (stands i) (ltb (s (name i)) (cap (name i))) t in find (ltb-true i n e) u.0 (ltb-true _ _ u.1)
      | inr t ↦
          skip (ltb-true i n e) t
          (λ h. elim (and_cases (stands i) (ltb (s (name i)) (cap (name i))) t) [ inl k ↦ absurd (both_ways _ k h) | inr k ↦ ltb-false _ _ k ])
    ]
  ]

  scan_stop : (f : ℕ) (s : ℕ → ℕ) (i p : ℕ) → n ≤ i → scan f s i p ≡ false
  unfolding scan
  scan_stop zero s i p h = refl
  scan_stop (suc f) s i p h = rw (le-ltb i n h)

  scan_find : (f : ℕ) (s : ℕ → ℕ) (i p : ℕ) → i < n → stands i ≡ true → s (name i) < cap (name i) →
      scan (suc f) s i p ≡ (eqb p i || scan f (more s (name i)) (i + size i) p)
  unfolding scan
  scan_find f s i p h t u = rw (lt-ltb i n h, t, lt-ltb (s (name i)) (cap (name i)) u)

  scan_skip : (f : ℕ) (s : ℕ → ℕ) (i p : ℕ) → i < n → (stands i && ltb (s (name i)) (cap (name i))) ≡ false → scan (suc f) s i p ≡ scan f s (i + 1) p
  unfolding scan
  scan_skip f s i p h t = rw (lt-ltb i n h, t)

  -- what has been found of each name is what stands before i, up to its cap
  abbrev pub Counted : (ℕ → ℕ) → ℕ → Type 0
  Counted s i = (w : ℕ) → s w ≡ min (cap w) (count (of_name stands name w) i)

  module _ (pos : (i : ℕ) → stands i ≡ true → 1 ≤ size i) (apart : (i j : ℕ) → stands i ≡ true → stands j ≡ true → i < j → i + size i ≤ j) where
    jump : (i w : ℕ) → stands i ≡ true → count (of_name stands name w) (i + size i) ≡ count (of_name stands name w) (i + 1)
    jump i w t =
        let g = pos i t in
        let e : i + size i ≡ i + 1 + (size i - 1) = omega arith in
        let idle : (q : ℕ) → i + 1 ≤ q → q < i + 1 + (size i - 1) → stands q ≡ false = λ q l m. elim (cases_Bool (stands q)) [
          | inr k ↦ k
          | inl k ↦ let a = apart i q t k (omega arith) in let z : ⊥ = omega arith in absurd z
        ] in
        rw e (count_skip (of_name stands name w) (i + 1) (size i - 1) (λ q l m. and_left (stands q) (eqb (name q) w) (idle q l m)))

    counted_find : (s : ℕ → ℕ) (i : ℕ) → stands i ≡ true → s (name i) < cap (name i) → Counted s i → Counted (more s (name i)) (i + size i)
    counted_find s i t u v w =
        let j = jump i w t in
        let x = v w in
        elim (cases_Bool (eqb w (name i))) [
          | inl e ↦
              let e' = eqb-true w (name i) e in
              let o = count_passes (of_name stands name w) i (and_from _ _ t (eq-eqb _ _ (sym e'))) in
              let u' : s w < cap w = rw e' u in
              rw e (omega arith)
          | inr e ↦
              let ne = eqb-false w (name i) e in
              let o = count_fails (of_name stands name w) i (and_right (stands i) _ (ne_eqb (name i) w (λ d. ne (sym d)))) in
              rw e (omega arith)
        ]

    counted_skip : (s : ℕ → ℕ) (i : ℕ) → (stands i ≡ true → cap (name i) ≤ s (name i)) → Counted s i → Counted s (i + 1)
    counted_skip s i u v w =
        let x = v w in
        elim (cases_Bool (of_name stands name w i)) [
          | inr e ↦ let o = count_fails (of_name stands name w) i e in omega arith
          | inl e ↦
              let p = and_parts (stands i) _ e in
              let d = eqb-true (name i) w p.1 in
              let y : cap w ≤ s w = rw d at (u p.0) in
              let o = count_passes (of_name stands name w) i e in
              omega arith
        ]

    pub scan_taken : (f : ℕ) (s : ℕ → ℕ) (i p : ℕ) → Counted s i → scan f s i p ≡ true → Taken n stands name cap p
    unfolding scan
    scan_taken zero s i p v h = absurd (both_ways false refl h)
    scan_taken (suc f) s i p v h = elim (step s i) [
      | stop k ↦ absurd (both_ways _ (scan_stop (suc f) s i p k) h)
      | find k t u ↦ elim (or_cases (eqb p i) (scan f (more s (name i)) (i + size i) p) (sym (scan_find f s i p k t u) ∙ h)) [
        | inl e ↦ let x = v (name i) in rw (eqb-true p i e) (record { below = k; here = t; few = omega arith })
        | inr e ↦ scan_taken f (more s (name i)) (i + size i) p (counted_find s i t u v) e
      ]
      | skip k t u ↦ scan_taken f s (i + 1) p (counted_skip s i u v) (sym (scan_skip f s i p k t) ∙ h)
    ]

    pub taken_scan : (f : ℕ) (s : ℕ → ℕ) (i p : ℕ) → Counted s i → n ≤ i + f → i ≤ p → Taken n stands name cap p → scan f s i p ≡ true
    taken_scan zero s i p v m l r = let z : ⊥ = omega arith in absurd z
    taken_scan (suc f) s i p v m l r = elim (step s i) [
      | stop k ↦ let z : ⊥ = omega arith in absurd z
      | find k t u ↦ scan_find f s i p k t u ∙ elim (cases_Bool (eqb p i)) [
        | inl e ↦ or_left _ _ e
        | inr e ↦
            let g = pos i t in
            let ne = eqb-false p i e in
            or_right _ _ (taken_scan f (more s (name i)) (i + size i) p (counted_find s i t u v) (omega arith) (apart i p t r.here (omega arith)) r)
      ]
      | skip k t u ↦
          let ne : p ≡ i → ⊥ = λ d. let x = v (name i) in let y = rw d at r.few in let c = u (rw d at r.here) in omega arith in
          scan_skip f s i p k t ∙ taken_scan f s (i + 1) p (counted_skip s i u v) (omega arith) (omega arith) r
    ]
