-- A plan as the code makes it is the plan of the definitions.
use Rattle.std.proofs.Common.{◌≡◌, ℕ, suc, ◌<◌, ◌≤◌, true, ◌⊎◌, List, length, nat_lt, Some, None, Option, Ok, Err, Result, refl, ap, ◌∙◌, inl, inr, arith}
use Rattle.std.proofs.lemmas.Bool.{cases_Bool, cases_lt, ltb-true, lt-ltb, le-ltb}
use Rattle.std.proofs.lemmas.Result.{err_from_is_err_and}
use Rattle.std.proofs.lemmas.Option.{MatchOption-at_some, MatchOption-at_none}
use Rattle.std.specs.Option.{ok_or, MatchOption, IsSomeAnd}
use Rattle.std.specs.Result.{IsErrAnd}
use Rattle.block.specs.Cell.{limit}
use Rattle.block.specs.Block.{size}
use Rattle.shelf.specs.Walk.{next, find, room, on_shelf}
use Rattle.requests.specs.Answers.{refused_by}
use Rattle.requests.specs.Entry.{usable, take_refusal, give_refusal, set_refusal}
use Rattle.requests.specs.Plans.{unless, within_limit, admitted, take_plan, give_plan, set_plan, idle_start, idle_end}
use Rattle.requests.specs.declared.plans.Taking.{Taking}
use Rattle.requests.specs.declared.refusal.Refusal.{Refusal}
use Rattle.requests.specs.declared.refusal.Refusal.TheVariants.{HoldsNone}

-- what a plan that was made, or none, tells
pub same_ok : {P : Type 0} {p q : P} → ◌≡◌ {A = Result P Refusal} (Ok p) (Ok q) → p ≡ q
same_ok h = cc

pub ok_not_err : {P : Type 0} {p : P} {e : Refusal} → ◌≡◌ {A = Result P Refusal} (Ok p) (Err e) → ⊥
ok_not_err h = let z : ◌≡◌ {A = ℕ} 0 1 = cc in omega arith

-- what is known of a number below the limit, and of an owner who was let in
pub small_is : (n x : ℕ) → Ok x ≡ within_limit n → (n < limit) × (x ≡ n)
small_is n x h = elim (cases_Bool (nat_lt n limit)) [
  | inl y ↦ (ltb-true _ _ y, same_ok (rw y at h))
  | inr y ↦ absurd (ok_not_err (rw y at h))
]

pub admitted_is : (a : List ℕ) (w x : ℕ) → Ok x ≡ admitted a w → (usable a ≡ true) × (w < limit) × (x ≡ w)
admitted_is a w x h = elim (cases_Bool (usable a)) [
  | inl y ↦ let s = small_is w x (rw y at h) in (y, s.0, s.1)
  | inr y ↦ absurd (ok_not_err (rw y at h))
]

-- what a look for a block that fails is turned away with
pub none_held : {P : Type 0} (r : Result P Refusal) (o : Option ℕ) (e : Refusal) → IsErrAnd r (λ x. x ≡ e) → Err e ≡ ok_or o HoldsNone → o ≡ None → r ≡ Err HoldsNone
none_held r o e h v n = let p = err_from_is_err_and r h in p.1 ∙ ap Err (p.2 ∙ same_error (v ∙ ap (λ x. ok_or x HoldsNone) n))
  where
    same_error : {x y : Refusal} → ◌≡◌ {A = Result ℕ Refusal} (Err x) (Err y) → x ≡ y
    same_error h = cc

pub refused_plan : {P : Type 0} (r f : ℕ) (p : Result P Refusal) → r ≡ suc f → Err (refused_by (suc f)) ≡ unless r p
refused_plan r f p e = rw e

-- what a look for a place is made into, by a function of which L tells
pub look_mapped : {P : Type 0} (a : List ℕ) (q : ℕ) (o : Option ℕ) (r : Option P) (L : ℕ → P → Type 0) → o ≡ on_shelf a q → MatchOption o (r ≡ None) (λ x. IsSomeAnd r (L x)) →
    ((q < length a) × ((t : P) × (r ≡ Some t) × L q t)) ⊎ ((length a ≤ q) × (r ≡ None))
look_mapped a q o r L e m = elim (cases_lt q (length a)) [
  | inl l ↦ inl (l, is_some_and r (L q) (MatchOption-at_some _ _ q (e ∙ rw (lt-ltb q (length a) l)) m))
  | inr l ↦ inr (l, MatchOption-at_none _ _ (e ∙ rw (le-ltb q (length a) l)) m)
]
  where
    is_some_and : {P : Type 0} (r : Option P) (Q : P → Type 0) → IsSomeAnd r Q → (t : P) × (r ≡ Some t) × Q t
    is_some_and None Q h = absurd h
    is_some_and (Some t) Q h = (t, refl, h)

pub take_planned : (a : List ℕ) (w n : ℕ) (o : Option ℕ) (r : Option Taking) (L : ℕ → Taking → Type 0) → take_refusal a w n ≡ 0 → o ≡ on_shelf a (room a n) → MatchOption o (r ≡ None) (λ x. IsSomeAnd r (L x)) →
    ((x : ℕ) (t : Taking) → L x t → t ≡ record { place = x; size = size a x; owner = w; long = n }) → Ok r ≡ take_plan a w n
take_planned a w n o r L z e m tells = elim (look_mapped a (room a n) o r L e m) [
  | inl h ↦ rw (z, lt-ltb (room a n) (length a) h.0) (ap Ok (h.1.1 ∙ ap Some (tells (room a n) h.1.0 h.1.2)))
  | inr h ↦ rw (z, le-ltb (room a n) (length a) h.0) (ap Ok h.1)
]

pub give_planned : (a : List ℕ) (w p from n end : ℕ) → give_refusal a w ≡ 0 → p ≡ find a w → from ≡ idle_start (length a) a p 0 0 → n ≡ next a p → end ≡ idle_end (length a) a n →
    Ok (record { place = p; from = from; end = end }) ≡ give_plan a w
give_planned a w p from n end r ep ef en ee =
    rw r (λ j. Ok (record { place = ep j; from = (ef ∙ ap (λ q. idle_start (length a) a q 0 0) ep) j; end = (ee ∙ ap (idle_end (length a) a) (en ∙ ap (next a) ep)) j }))

pub set_planned : (a : List ℕ) (w k x p s : ℕ) → set_refusal a w k x ≡ 0 → p ≡ find a w → s ≡ size a p → Ok (record { place = p; size = s; cell = k; to = x }) ≡ set_plan a w k x
set_planned a w k x p s r ep es = rw r (λ j. Ok (record { place = ep j; size = (es ∙ ap (size a) ep) j; cell = k; to = x }))
