-- What is spelled, digit by digit.
use Rattle.std.proofs.Common.{◌≡◌, ℕ, ◌+◌, ◌-◌, ◌*◌, ◌^◌, ◌<◌, ◌≤◌, Bool, true, false, cond, ◌&&◌, ltb, List, [], ◌∷◌, length, Some, None, Option, sym, refl, ◌∙◌, inl, inr, arith}
use Rattle.std.proofs.lemmas.Bool.{le-ltb, lt-ltb, ltb-true, ltb-false, cases_Bool, and_parts, and_right, cond-false}
use Rattle.std.proofs.lemmas.Option.{cond_some}
use Rattle.std.specs.Option.{option_and_then}
use Rattle.text.proofs.Folds.{folded}
use Rattle.text.specs.Spelling.{is_digit, with_digit, all_digits, value_after, spelled}

-- what digits spell behind those of n
unfoldable pub spelled_after : ℕ → List ℕ → Option ℕ
spelled_after n cs = cond (all_digits cs && ltb (value_after n cs) (2 ^ 64)) (Some (value_after n cs)) None

spelled_all : (n : ℕ) → n < 2 ^ 64 → spelled_after n [] ≡ Some n
unfolding spelled_after all_digits value_after
spelled_all n h = rw (lt-ltb n (2 ^ 64) h) refl

value_grows : (n : ℕ) (cs : List ℕ) → n ≤ value_after n cs
unfolding value_after
value_grows n [] = omega arith
value_grows n (c ∷ cs) = let more = value_grows (n * 10 + (c - 48)) cs in omega arith

too_large : (n : ℕ) (cs : List ℕ) → 2 ^ 64 ≤ n → spelled_after n cs ≡ None
unfolding spelled_after
too_large n cs h =
    let large : 2 ^ 64 ≤ value_after n cs = omega (arith, value_grows n cs) in
    cond-false (all_digits cs && ltb (value_after n cs) (2 ^ 64)) _ _ (and_right (all_digits cs) _ (le-ltb _ _ large))

none_made : (b : Bool) (m : ℕ) → cond b (Some m) None ≡ None → b ≡ false
none_made true m e = let z : ◌≡◌ {A = ℕ} 0 1 = cc in absurd (omega arith)
none_made false m e = refl

spelled_more : (n c m : ℕ) (cs : List ℕ) → with_digit n c ≡ Some m → spelled_after n (c ∷ cs) ≡ spelled_after m cs
unfolding spelled_after all_digits value_after
spelled_more n c m cs e =
    let made = cond_some _ _ _ e in
    let is = (and_parts (is_digit c) _ made.0).0 in
    rw (is, ← made.1) refl

-- a byte that is no digit, or one too many
spelled_none : (n c : ℕ) (cs : List ℕ) → with_digit n c ≡ None → spelled_after n (c ∷ cs) ≡ None
unfolding spelled_after all_digits value_after
spelled_none n c cs e =
    let none = none_made _ (n * 10 + (c - 48)) e in
    elim (cases_Bool (is_digit c)) [
      | inl is ↦ rw is (too_large (n * 10 + (c - 48)) cs (ltb-false _ _ (rw is at none)))
      | inr odd ↦ rw odd refl
    ]

one_digit : (n c : ℕ) (cs : List ℕ) → ((m : ℕ) → m < 2 ^ 64 → folded with_digit m cs ≡ spelled_after m cs)
    → (o : Option ℕ) → with_digit n c ≡ o → option_and_then (λ m. folded with_digit m cs) o ≡ spelled_after n (c ∷ cs)
one_digit n c cs rest None e = sym (spelled_none n c cs e)
one_digit n c cs rest (Some m) e =
    let made = cond_some _ _ _ e in
    let fits = ltb-true _ _ (and_parts (is_digit c) _ made.0).1 in
    rest m (omega arith) ∙ sym (spelled_more n c m cs e)

-- digit by digit, from n
folded_digits : (n : ℕ) (cs : List ℕ) → n < 2 ^ 64 → folded with_digit n cs ≡ spelled_after n cs
folded_digits n [] h = sym (spelled_all n h)
folded_digits n (c ∷ cs) h = one_digit n c cs (λ m l. folded_digits m cs l) (with_digit n c) refl

pub spelled_folded : (w : List ℕ) → (length w ≡ 0 → ⊥) → folded with_digit 0 w ≡ spelled w
unfolding spelled_after
spelled_folded w h = let some : 0 < length w = omega arith in folded_digits 0 w (omega arith) ∙ rw (lt-ltb 0 (length w) some) refl
