-- Each request, and each run of them, does what a plain list of who holds what says.
use Rattle.std.proofs.Common.{◌≡◌, ℕ, zero, suc, ◌<◌, ◌≤◌, Bool, true, false, cond, ◌&&◌, ltb, leb, ◌⊎◌, List, [], ◌∷◌, length, set, Ok, Err, Result, sym, refl, ap, ◌∙◌, subst, inl, inr, arith}
use Rattle.std.proofs.lemmas.Bool.{cases_Bool, cases_eq, false≢true, and_parts, and_from, leb-true, le-leb, eq-eqb, ne_eqb, ltb-true}
use Rattle.block.specs.Cell.{limit, most}
use Rattle.block.specs.Block.{content}
use Rattle.shelf.specs.Walk.{find, Held, none, held, holds}
use Rattle.shelf.specs.Sound.{sound}
use Rattle.requests.specs.Answers.{number, refused_by}
use Rattle.requests.specs.Entry.{is_held, usable, Others, take_refusal, TakeSays, give_refusal, GiveSays, set_refusal, SetSays}
use Rattle.requests.specs.Free.{noughts}
use Rattle.requests.specs.declared.Done.{Done}
use Rattle.requests.specs.declared.Done.TheVariants.{Taken, NoRoom, Given, Set as WasSet, Saved}
use Rattle.requests.specs.declared.Refusal.{Refusal}
use Rattle.requests.proofs.Holding.{is_held_is, holds_is}
use Rattle.requests.proofs.Says.{take_says, take_number, give_says, give_number, set_says, set_number}
use Rattle.recovery.specs.Mend.{mended, mend_refusal, mend_answer, mend_cells}
use Rattle.recovery.proofs.Mended.{mended_is}
use Rattle.recovery.proofs.Canonical.{kept_by_mending}
use Rattle.dispatch.specs.Asking.{done_of, cells_after}
use Rattle.dispatch.specs.Ledger.{Ledger, enter, set_in, ledger_after, ledger_refusal, Follows, ledger_run, AsListed, WholeRuns}
use Rattle.dispatch.specs.declared.asking.Request.{Request}
use Rattle.dispatch.specs.declared.asking.Request.TheVariants.{Take, Give, Set, Mend}

usable_from : (b : List ℕ) → sound b ≡ true → length b ≤ most → usable b ≡ true
usable_from b s l = and_from _ _ s (le-leb _ _ l)

short : (a : List ℕ) → usable a ≡ true → length a ≤ most
short a u = leb-true _ _ (and_parts (sound a) _ u).1

-- one entry is new, and all others stand
entered : (a b : List ℕ) (w : ℕ) (h : Held) → Others a b w → holds b w ≡ h → (v : ℕ) → holds b v ≡ enter (holds a) w h v
entered a b w h o e v = elim (cases_eq v w) [
  | inl s ↦ rw (eq-eqb v w s) (ap (holds b) s ∙ e)
  | inr s ↦ rw (ne_eqb v w s) (o.row v s)
]

not_no_room : (d : Result Done Refusal) (e : Refusal) → d ≡ Err e → d ≡ Ok NoRoom → ⊥
not_no_room d e h k = let z : ◌≡◌ {A = ℕ} 0 1 = cc in omega arith

-- what a request that is turned away leaves
turned_away : (a : List ℕ) (q : Request) (x : Refusal) (d : Result Done Refusal) (b : List ℕ) → usable a ≡ true → ((m : Ledger) → ledger_after m q (Err x) ≡ m) → d ≡ Err x → b ≡ a → number d ≡ ledger_refusal (length a) (holds a) q → Follows a q d b
turned_away a q x d b u same e k r = record {
  stays_usable = rw k u;
  holding = λ v. rw (e, k) (ap (λ m. m v) (sym (same (holds a))));
  refused_as = r;
  no_room = λ h. absurd (not_no_room d x e h);
}

taking : (a : List ℕ) (w n : ℕ) (d : Result Done Refusal) (b : List ℕ) (r : ℕ) → usable a ≡ true → TakeSays r a w n d b → number d ≡ ledger_refusal (length a) (holds a) (Take w n) → Follows a (Take w n) d b
taking a w n d b (suc f) u s e = turned_away a (Take w n) (refused_by (suc f)) d b u (λ m. refl) s.0 s.1 e
taking a w n d b zero u (inl s) e = record {
  stays_usable = usable_from b s.1.stays_sound (rw s.1.others.long (short a u));
  holding = λ v. rw s.0 (entered a b w (held (noughts n)) s.1.others s.1.holding v);
  refused_as = e;
  no_room = λ h. let z : ◌≡◌ {A = ℕ} 0 1 = clash s.0 h in absurd (omega arith);
}
  where
    clash : d ≡ Ok Taken → d ≡ Ok NoRoom → ◌≡◌ {A = ℕ} 0 1
    clash p q = cc
taking a w n d b zero u (inr s) e = record {
  stays_usable = rw s.2 u;
  holding = λ v. rw (s.0, s.2);
  refused_as = e;
  no_room = λ h. s.1;
}

giving : (a : List ℕ) (w : ℕ) (d : Result Done Refusal) (b : List ℕ) (r : ℕ) → usable a ≡ true → GiveSays r a w d b → number d ≡ ledger_refusal (length a) (holds a) (Give w) → Follows a (Give w) d b
giving a w d b (suc f) u s e = turned_away a (Give w) (refused_by (suc f)) d b u (λ m. refl) s.0 s.1 e
giving a w d b zero u s e = record {
  stays_usable = usable_from b s.1.stays_sound (rw s.1.others.long (short a u));
  holding = λ v. rw s.0 (entered a b w none s.1.others s.1.holding v);
  refused_as = e;
  no_room = λ h. let z : ◌≡◌ {A = ℕ} 0 1 = clash s.0 h in absurd (omega arith);
}
  where
    clash : d ≡ Ok Given → d ≡ Ok NoRoom → ◌≡◌ {A = ℕ} 0 1
    clash p q = cc

-- what is held is told by the block, where there is one
held_is : (a : List ℕ) (w : ℕ) (c : List ℕ) → holds a w ≡ held c → content a (find a w) ≡ c
held_is a w c h =
    let l : find a w < length a = ltb-true _ _ (sym (is_held_is a w) ∙ ap is_held h) in
    same_row (sym (holds_is a w l) ∙ h)
  where
    same_row : {x y : List ℕ} → held x ≡ held y → x ≡ y
    same_row e = cc

set_row : (a : List ℕ) (w k x : ℕ) (h : Held) → holds a w ≡ h → is_held h ≡ true → held (set (content a (find a w)) k x) ≡ set_in h k x
set_row a w k x none e y = absurd (false≢true y)
set_row a w k x (held c) e y = ap (λ r. held (set r k x)) (held_is a w c e)

setting : (a : List ℕ) (w k x : ℕ) (d : Result Done Refusal) (b : List ℕ) (r : ℕ) → usable a ≡ true → is_held (holds a w) ≡ true ⊎ (r ≡ 0 → ⊥) → SetSays r a w k x d b → number d ≡ ledger_refusal (length a) (holds a) (Set w k x) → Follows a (Set w k x) d b
setting a w k x d b (suc f) u i s e = turned_away a (Set w k x) (refused_by (suc f)) d b u (λ m. refl) s.0 s.1 e
setting a w k x d b zero u (inr i) s e = absurd (i refl)
setting a w k x d b zero u (inl i) s e = record {
  stays_usable = usable_from b s.1.stays_sound (rw s.1.others.long (short a u));
  holding = λ v. rw s.0 (entered a b w (set_in (holds a w) k x) s.1.others (s.1.holding ∙ set_row a w k x (holds a w) refl i) v);
  refused_as = e;
  no_room = λ h. let z : ◌≡◌ {A = ℕ} 0 1 = clash s.0 h in absurd (omega arith);
}
  where
    clash : d ≡ Ok WasSet → d ≡ Ok NoRoom → ◌≡◌ {A = ℕ} 0 1
    clash p q = cc

mending : (a : List ℕ) (r : ℕ) → usable a ≡ true → number (mend_answer r) ≡ ledger_refusal (length a) (holds a) Mend → Follows a Mend (mend_answer r) (mend_cells r a)
mending a (suc f) u e = turned_away a Mend (refused_by (suc f)) (Err (refused_by (suc f))) a u (λ m. refl) refl refl e
mending a zero u e =
    let s = (and_parts (sound a) _ u).0 in
    let m = mended_is a (short a u) in
    let k = kept_by_mending a (short a u) in
    record {
      stays_usable = usable_from (mended a) m.is_sound (rw m.long (short a u));
      holding = λ v. (k.stays s v).row;
      refused_as = e;
      no_room = λ h. let z : ◌≡◌ {A = ℕ} 0 1 = clash h in absurd (omega arith);
    }
  where
    clash : ◌≡◌ {A = Result Done Refusal} (Ok Saved) (Ok NoRoom) → ◌≡◌ {A = ℕ} 0 1
    clash h = cc

mend_number : (b : Bool) → number (mend_answer (cond b 0 1)) ≡ cond b 0 1
mend_number true = refl
mend_number false = refl

-- whoever holds none is turned away from setting
held_or_refused : (a : List ℕ) (w k x : ℕ) → (is_held (holds a w) ≡ true) ⊎ (set_refusal a w k x ≡ 0 → ⊥)
held_or_refused a w k x = elim (cases_Bool (is_held (holds a w))) [
  | inl h ↦ inl h
  | inr h ↦ inr (λ e. never (usable a) (ltb w limit && ltb x limit) (rw h at e))
]
  where
    never : (b c : Bool) → ◌≡◌ {A = ℕ} (cond b (cond c 5 2) 1) 0 → ⊥
    never true true e = omega arith
    never true false e = omega arith
    never false c e = omega arith

pub follows : (a : List ℕ) (q : Request) → usable a ≡ true → Follows a q (done_of a q) (cells_after a q)
follows a (Take w n) u = taking a w n _ _ (take_refusal a w n) u (take_says a w n _ refl) (take_number a w n ∙ rw u)
follows a (Give w) u = giving a w _ _ (give_refusal a w) u (give_says a w _ refl) (give_number a w ∙ rw u)
follows a (Set w k x) u = setting a w k x _ _ (set_refusal a w k x) u (held_or_refused a w k x) (set_says a w k x _ refl) (set_number a w k x ∙ rw u)
follows a Mend u =
    let l = (and_parts (sound a) _ u).1 in
    mending a (mend_refusal a) u (mend_number (leb 3 (length a) && leb (length a) most) ∙ rw l (one (leb 3 (length a))))
  where
    one : (b : Bool) → ◌≡◌ {A = ℕ} (cond (b && true) 0 1) (cond b 0 1)
    one true = refl
    one false = refl

-- a run, request by request
pub whole_runs : WholeRuns
whole_runs a [] u = record { stays_usable = u; holding = λ v. refl; as_listed = tt }
whole_runs a (q ∷ qs) u =
    let s = follows a q u in
    let r = whole_runs (cells_after a q) qs s.stays_usable in
    let same : holds (cells_after a q) ≡ ledger_after (holds a) q (done_of a q) = (λ j v. s.holding v j) in
    record {
      stays_usable = r.stays_usable;
      holding = λ v. r.holding v ∙ ap (λ m. ledger_run (cells_after a q) m qs v) same;
      as_listed = (s.refused_as, subst (λ m. AsListed (cells_after a q) m qs) same r.as_listed);
    }
