-- What each plan leaves is what its request promises, and each plan fits the shelf that it is of.
use Rattle.std.proofs.Common.{◌≡◌, ℕ, zero, suc, ◌+◌, ◌<◌, ◌≤◌, Bool, true, false, cond, ◌&&◌, ltb, leb, List, ◌∷◌, length, take, drop, Some, None, Option, Ok, Result, sym, refl, ap, ◌∙◌, subst, inl, inr, arith}
use Rattle.std.proofs.lemmas.Bool.{cases_lt, and_parts, ltb-true, ltb-false, leb-true, lt-ltb, le-ltb}
use Rattle.std.proofs.lemmas.Option.{same_Some, none-some}
use Rattle.block.specs.Cell.{limit, most}
use Rattle.block.specs.Block.{long, size_for, size, content, block_cells}
use Rattle.block.proofs.Blocks.{size_is, size_pos, tail}
use Rattle.shelf.specs.Walk.{find, room, holds}
use Rattle.shelf.specs.Sound.{sound}
use Rattle.shelf.specs.Pieces.{blk}
use Rattle.requests.specs.Answers.{number}
use Rattle.requests.specs.Entry.{is_held, usable, within, take_refusal, TakeSays, give_refusal, GiveSays, set_refusal, SetSays}
use Rattle.requests.specs.Plans.{unless, taking_of, take_plan, taken, giving_of, give_plan, given, setting_of, set_plan, set_to, answer, after, take_answer, where_room, FitsTaking, FitsGiving, FitsSetting}
use Rattle.requests.specs.declared.done.Done.{Done}
use Rattle.requests.specs.declared.done.Done.TheVariants.{Given, Set}
use Rattle.requests.specs.declared.plans.Taking.{Taking}
use Rattle.requests.specs.declared.plans.Giving.{Giving}
use Rattle.requests.specs.declared.plans.Setting.{Setting}
use Rattle.requests.specs.declared.refusal.Refusal.{Refusal}
use Rattle.requests.proofs.Numbers.{numbered}
use Rattle.requests.proofs.Planned.{same_ok, ok_not_err}
use Rattle.requests.proofs.Holding.{is_held_is, Mine, mine, size_mine, part_mine, within_mine}
use Rattle.requests.proofs.Edits.{total_append}
use Rattle.requests.proofs.Takes.{spare, room_tells, take_done}
use Rattle.requests.proofs.Sets.{set_done}
use Rattle.requests.proofs.Around.{around}
use Rattle.requests.proofs.Gives.{give_done}

-- a choice of numbers that came out nought
zero_then : (b : Bool) (x y : ℕ) → cond b x (suc y) ≡ 0 → (b ≡ true) × (x ≡ 0)
zero_then true x y h = (refl, h)
zero_then false x y h = absurd (omega arith)

zero_else : (b : Bool) (x y : ℕ) → cond b (suc x) y ≡ 0 → (b ≡ false) × (y ≡ 0)
zero_else true x y h = absurd (omega arith)
zero_else false x y h = (refl, h)

-- a shelf that can be used
pub record Usable (a : List ℕ) : Type 0 where
  pub is_sound : sound a ≡ true
  pub short : length a ≤ most

usable_parts : (a : List ℕ) → usable a ≡ true → Usable a
usable_parts a h = let p = and_parts (sound a) _ h in record { is_sound = p.0; short = leb-true _ _ p.1 }

-- what is known where nobody is turned away
pub record MayTake (a : List ℕ) (w n : ℕ) : Type 0 where
  pub can : Usable a
  pub owner : w < limit
  pub nobody : length a ≤ find a w
  pub few : n ≤ most

pub may_take : (a : List ℕ) (w n : ℕ) → take_refusal a w n ≡ 0 → MayTake a w n
may_take a w n h =
    let p = zero_then (usable a) _ _ h in
    let q = zero_then (ltb w limit) _ _ p.1 in
    let r = zero_else (is_held (holds a w)) _ _ q.1 in
    let s = zero_then (leb n most) _ _ r.1 in
    record { can = usable_parts a p.0; owner = ltb-true _ _ q.0; nobody = ltb-false _ _ (sym (is_held_is a w) ∙ r.0); few = leb-true _ _ s.0 }

record MayGive (a : List ℕ) (w : ℕ) : Type 0 where
  pub can : Usable a
  mine_is : Mine a w

held_mine : (a : List ℕ) (w : ℕ) → Usable a → is_held (holds a w) ≡ true → Mine a w
held_mine a w u h = mine a w u.is_sound (ltb-true _ _ (sym (is_held_is a w) ∙ h))

may_give : (a : List ℕ) (w : ℕ) → give_refusal a w ≡ 0 → MayGive a w
may_give a w h =
    let p = zero_then (usable a) _ _ h in
    let q = zero_then (ltb w limit) _ _ p.1 in
    let r = zero_then (is_held (holds a w)) _ _ q.1 in
    let u = usable_parts a p.0 in
    record { can = u; mine_is = held_mine a w u r.0 }

record MaySet (a : List ℕ) (w k x : ℕ) : Type 0 where
  pub can : Usable a
  mine_is : Mine a w
  inside : k < length mine_is.row
  small : x < limit

may_set : (a : List ℕ) (w k x : ℕ) → set_refusal a w k x ≡ 0 → MaySet a w k x
may_set a w k x h =
    let p = zero_then (usable a) _ _ h in
    let q = zero_then (ltb w limit && ltb x limit) _ _ p.1 in
    let r = zero_then (is_held (holds a w)) _ _ q.1 in
    let s = zero_then (within (holds a w) k) _ _ r.1 in
    let u = usable_parts a p.0 in
    let m = held_mine a w u r.0 in
    record { can = u; mine_is = m; inside = ltb-true _ _ (sym (within_mine a w m k) ∙ s.0); small = ltb-true _ _ (and_parts (ltb w limit) _ q.0).1 }

-- a plan that is made is the one of the definitions, where nobody is turned away
plan_made : {P : Type 0} (r : ℕ) (p : P) (c : Result P Refusal) → Ok p ≡ unless r c → (r ≡ 0) × (Ok p ≡ c)
plan_made zero p c h = (refl, h)
plan_made (suc f) p c h = absurd (ok_not_err h)

-- the number of the answer is that of the refusal
few : (b : Bool) (x y : ℕ) → x ≤ 6 → y ≤ 6 → cond b x y ≤ 6
few true x y l m = l
few false x y l m = m

plan_number : {P : Type 0} (r : ℕ) (d : Done) (p : P) → r ≤ 6 → number (answer d (unless r (Ok p))) ≡ r
plan_number zero d p l = refl
plan_number (suc f) d p l = numbered (suc f) (omega arith) l

take_plan_number : (r : ℕ) (p : Option Taking) → r ≤ 6 → number (take_answer (unless r (Ok p))) ≡ r
take_plan_number zero (Some p) l = refl
take_plan_number zero None l = refl
take_plan_number (suc f) p l = numbered (suc f) (omega arith) l

-- taking
module _ (a : List ℕ) (w n : ℕ) where
  took : (r : ℕ) → take_refusal a w n ≡ r → TakeSays r a w n (take_answer (take_plan a w n)) (after (where_room taken) (take_plan a w n) a)
  took (suc f) e = rw e (refl, refl)
  took zero e =
      let m = may_take a w n e in
      elim (cases_lt (room a n) (length a)) [
        | inl l ↦ rw (e, lt-ltb (room a n) (length a) l) (inl (refl, take_done a w n (spare a n m.can.is_sound l) m.owner m.few m.can.short m.nobody))
        | inr l ↦ rw (e, le-ltb (room a n) (length a) l) (inr (refl, room_tells a n ∙ le-ltb _ _ l, refl))
      ]

  pub take_says : (p : Result (Option Taking) Refusal) → p ≡ take_plan a w n → TakeSays (take_refusal a w n) a w n (take_answer p) (after (where_room taken) p a)
  take_says p e = subst (λ q. TakeSays (take_refusal a w n) a w n (take_answer q) (after (where_room taken) q a)) (sym e) (took (take_refusal a w n) refl)

  pub take_number : number (take_answer (take_plan a w n)) ≡ take_refusal a w n
  take_number = take_plan_number (take_refusal a w n) _ (few (usable a) _ 1 (few _ _ 2 (few _ 3 _ (omega arith) (few _ 0 4 (omega arith) (omega arith))) (omega arith)) (omega arith))

  pub take_fits : (p : Taking) → Ok (Some p) ≡ take_plan a w n → FitsTaking p a
  take_fits p h =
      let e = plan_made (take_refusal a w n) (Some p) _ h in
      let m = may_take a w n e.0 in
      elim (cases_lt (room a n) (length a)) [
        | inr l ↦ absurd (none-some p (sym (same_ok (rw (le-ltb (room a n) (length a) l) at e.1))))
        | inl l ↦
            let q : p ≡ taking_of a w n = same_Some _ _ (same_ok (rw (lt-ltb (room a n) (length a) l) at e.1)) in
            let s = spare a n m.can.is_sound l in
            let long_is : size a (room a n) ≡ size_for (length s.row) = ap size_for (ap (long a) s.place ∙ s.here.long_is) in
            let x = size_is (length s.row) in
            let y = size_is n in
            rw q (record { inside = omega (arith, s.fits, s.place); fits = omega (arith, s.enough); short = m.can.short })
      ]

-- giving back
module _ (a : List ℕ) (w : ℕ) where
  gave : (r : ℕ) → give_refusal a w ≡ r → GiveSays r a w (answer Given (give_plan a w)) (after given (give_plan a w) a)
  gave (suc f) e = rw e (refl, refl)
  gave zero e = let m = may_give a w e in rw e (refl, give_done a w _ _ (around a w m.mine_is) m.can.short)

  pub give_says : (p : Result Giving Refusal) → p ≡ give_plan a w → GiveSays (give_refusal a w) a w (answer Given p) (after given p a)
  give_says p e = subst (λ q. GiveSays (give_refusal a w) a w (answer Given q) (after given q a)) (sym e) (gave (give_refusal a w) refl)

  pub give_number : number (answer Given (give_plan a w)) ≡ give_refusal a w
  give_number = plan_number (give_refusal a w) Given (giving_of a w) (few (usable a) _ 1 (few _ _ 2 (few _ 0 5 (omega arith) (omega arith)) (omega arith)) (omega arith))

  pub give_fits : (p : Giving) → Ok p ≡ give_plan a w → FitsGiving p a
  give_fits p h =
      let e = plan_made (give_refusal a w) p _ h in
      let m = may_give a w e.0 in
      let o = around a w m.mine_is in
      let s = size_pos (length o.row) in
      let t = total_append o.front (blk true w o.row ∷ o.back) in
      rw (same_ok e.1) (record { before = omega (arith, o.start, o.place); behind = omega (arith, o.place, o.finish); inside = o.fits; short = m.can.short })

-- setting
module _ (a : List ℕ) (w k x : ℕ) where
  was_set : (r : ℕ) → set_refusal a w k x ≡ r → SetSays r a w k x (answer Set (set_plan a w k x)) (after (λ p b. set_to p w b) (set_plan a w k x) a)
  was_set (suc f) e = rw e (refl, refl)
  was_set zero e = let m = may_set a w k x e in rw e (refl, set_done a w k x m.mine_is m.small)

  pub set_says : (p : Result Setting Refusal) → p ≡ set_plan a w k x → SetSays (set_refusal a w k x) a w k x (answer Set p) (after (λ q b. set_to q w b) p a)
  set_says p e = subst (λ q. SetSays (set_refusal a w k x) a w k x (answer Set q) (after (λ s b. set_to s w b) q a)) (sym e) (was_set (set_refusal a w k x) refl)

  pub set_number : number (answer Set (set_plan a w k x)) ≡ set_refusal a w k x
  set_number = plan_number (set_refusal a w k x) Set (setting_of a w k x) (few (usable a) _ 1 (few (ltb w limit && ltb x limit) _ 2 (few (is_held (holds a w)) _ 5 (few (within (holds a w) k) 0 4 (omega arith) (omega arith)) (omega arith)) (omega arith)) (omega arith))

  pub set_fits : (p : Setting) → Ok p ≡ set_plan a w k x → FitsSetting p a
  set_fits p h =
      let e = plan_made (set_refusal a w k x) p _ h in
      let m = may_set a w k x e.0 in
      let mi = m.mine_is in
      let s = size_mine a w mi in
      let y = size_is (length mi.row) in
      let z = size_is k in
      let small = tail a (find a w) (find a w + size_for k) mi.here.stands (omega arith) (omega (arith, m.inside)) in
      rw (same_ok e.1) (record { inside = omega (arith, mi.fits); fits = omega (arith, m.inside); small = small; short = m.can.short })

  -- the part that is lent is the block, and what is written is what the definitions say
  pub set_part : (p : Setting) → Ok p ≡ set_plan a w k x → take p.size (drop p.place a) ≡ block_cells true w (content a p.place)
  set_part p h =
      let e = plan_made (set_refusal a w k x) p _ h in
      let m = may_set a w k x e.0 in
      rw (same_ok e.1) (part_mine a w m.mine_is ∙ ap (block_cells true w) (sym m.mine_is.here.content_is))
