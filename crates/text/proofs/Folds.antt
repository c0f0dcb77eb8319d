-- What `try_fold` gives over a slice of numbers.
use Rattle.std.proofs.Common.{◌≡◌, ℕ, List, [], ◌∷◌, Some, None, Option, Bor, Iter, MatchOption, sym, refl, ap, subst, ◌∙◌}
use Rattle.std.specs.Fn.{Called}
use Rattle.std.specs.List.{FoldsTo}
use Rattle.std.specs.Iterator.{Yields, TryFoldTurn, TryFoldsItems}
use Rattle.std.specs.Option.{option_and_then}
use Rattle.std.specs.ControlFlow.{continue_value}
use Rattle.std.proofs.lemmas.Fn.{fronts}
use Rattle.std.proofs.lemmas.List.{nil_from_length}
use denote.Param.Members.{Mut}

-- a fold that ends at the first step that gives no total
abbrev pub folded : (ℕ → ℕ → Option ℕ) → ℕ → List ℕ → Option ℕ
folded h n [] = Some n
folded h n (c ∷ cs) = option_and_then (λ m. folded h m cs) (h n c)

module _ {F : Type 0} (E : Type 0) (g : Mut F (ℕ × (Bor ℕ × Unit {0})) (Option ℕ)) (h : ℕ → ℕ → Option ℕ) (f : F) (gives : (n : ℕ) (x : Bor ℕ) (v : Option ℕ) (q : F) → Called g f (n, (x, tt)) v q → (q ≡ f) × (v ≡ h n x.now)) where
  goes_on : (xs : List (Bor ℕ)) (s t : Iter ℕ) (n a : ℕ) (p q : F) → p ≡ f → Yields fronts s xs t
      → FoldsTo {P = F × ℕ} (TryFoldTurn {E = E} g (λ v c. v ≡ continue_value c)) (p, n) xs (q, a) → (q ≡ f) × (folded h n s.rest.now ≡ folded h a t.rest.now)
  goes_on [] s t n a p q e y k =
      (sym (ap (λ (z : F × ℕ). z.0) k) ∙ e, ap (λ (i : Iter ℕ). folded h n i.rest.now) y ∙ ap (λ (z : F × ℕ). folded h z.1 t.rest.now) k)
  goes_on (x ∷ xs) s t n a p q e y k =
      let call = gives n x k.1.0 k.0.0 (subst (λ i. Called g i (n, (x, tt)) k.1.0 k.0.0) e k.1.1) in
      let more = goes_on xs y.0 t k.0.1 a k.0.0 q call.0 y.2 k.2 in
      (more.0, ap (folded h n) y.1 ∙ ap (option_and_then (λ m. folded h m y.0.rest.now)) (sym call.1 ∙ k.1.2) ∙ more.1)

  ends : (xs : List (Bor ℕ)) (o : Option (Bor ℕ)) (s t u : Iter ℕ) (n a : ℕ) (q : F) (r : Option ℕ)
      → (q ≡ f) × (folded h n s.rest.now ≡ folded h a t.rest.now) → fronts t o u
      → MatchOption o (r ≡ Some a) (λ x. (v : Option ℕ) × (j : F) × (e : E) × Called g q (a, (x, tt)) v j × (v ≡ None) × (r ≡ None)) → r ≡ folded h n s.rest.now
  ends xs None s t u n a q r m y k = k ∙ sym (m.1 ∙ ap (folded h a) (nil_from_length t.rest.now y.0))
  ends xs (Some x) s t u n a q r m y k =
      let call = gives a x k.0 k.1 (subst (λ i. Called g i (a, (x, tt)) k.0 k.1) m.0 k.3) in
      k.5 ∙ sym (m.1 ∙ ap (folded h a) y ∙ ap (option_and_then (λ z. folded h z u.rest.now)) (sym call.1 ∙ k.4))

  pub folded_from_try_fold : (s u : Iter ℕ) (n : ℕ) (r : Option ℕ) → TryFoldsItems fronts g (λ v c. v ≡ continue_value c) (λ (e : E) k. k ≡ None) s f n r u → r ≡ folded h n s.rest.now
  folded_from_try_fold s u n r d =
      ends d.0 d.1 s d.4.0 u n d.3 d.2 r (goes_on d.0 s d.4.0 n d.3 f d.2 refl d.4.1 d.5) d.4.2 d.6
