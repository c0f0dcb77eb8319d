-- `find`, and `any` whole and by chunks of 64, over a range: said of the places in it and not of a list.
use Rattle.std.proofs.Common.{◌≡◌, ℕ, ◌+◌, ◌-◌, ◌*◌, ◌/◌, ◌<◌, ◌≤◌, min, Bool, true, false, Option, None, Some, List, length, Decides, MatchBool, MatchOption, IfSome, IsSomeAnd, subst, ap, refl, sym, ◌∙◌, arith}
use Rattle.std.specs.declared.ops.Range.{Range}
use Rattle.std.specs.declared.iter.StepBy.{StepBy}
use Rattle.std.specs.Bool.{⊤}
use Rattle.std.specs.Fn.{Called, CalledAt}
use Rattle.std.specs.Iterator.{YieldsThen}
use Rattle.std.specs.Iterator.Adapters.{step_by_steps}
use Rattle.std.specs.Iterator.Runs.{SomeRun, EachRunFrom, IsStepByRun, AnyItemGives, AllItemsGive}
use Rattle.std.specs.List.{range_with_len, FoldsTo, HoldsAt, AllWithin}
use Rattle.std.specs.Option.{option_map, unwrap_or}
use Rattle.std.proofs.iter.Yields.{nat_range_steps}
use Rattle.std.proofs.iter.runs.Sources.{range_runs}
use Rattle.std.proofs.lemmas.Iterator.{cases_from_any, first_from_Range, YieldsList-from_range}
use Rattle.std.proofs.lemmas.List.FromFn.{length-range_with_len, get_or-range_with_len}
use Rattle.std.proofs.lemmas.Bool.{both_ways}
use Rattle.block.specs.Block.{whose}
use Rattle.bits.specs.Marks.{marked}
use Rattle.recovery.specs.Search.{MarkedAs}
use denote.Param.Members.{Mut}
use denote.Ref.{Bor}

by_option : (P : ℕ → Bool) (i j : ℕ) (r : Option ℕ) → MatchOption r ((p : ℕ) → i ≤ p → p < j → P p ≡ false) (λ p. (i ≤ p) × (p < j) × (P p ≡ true) × ((q : ℕ) → i ≤ q → q < p → P q ≡ false)) →
    IfSome r (λ p. (i ≤ p) × (p < j) × (P p ≡ true)) × ((p : ℕ) → i ≤ p → p < unwrap_or r j → P p ≡ false)
by_option P i j None h = (tt, h)
by_option P i j (Some p) h = ((h.0, h.1, h.2), h.3)

-- what `find` over a range answers, where each call computes P of the place
pub first_in_range : {F : Type 0} {g : Mut F (Bor ℕ × Unit {0}) Bool} (P : ℕ → Bool) (i j : ℕ) (f : F) (u : Range ℕ) (r : Option ℕ) →
    (xs : List ℕ) × (q : F) × YieldsThen nat_range_steps (record { start = i; end = j }) xs r u × FoldsTo (λ p x q. CalledAt g p x false q) f xs q × MatchOption r ⊤ (λ x. (h : F) × CalledAt g q x true h) →
    ((p : ℕ) (b : Bool) (q : F) → CalledAt g f p b q → (q ≡ f) × (b ≡ P p)) → IfSome r (λ p. (i ≤ p) × (p < j) × (P p ≡ true)) × ((p : ℕ) → i ≤ p → p < unwrap_or r j → P p ≡ false)
first_in_range P i j f u r ran tells =
    by_option P i j r (first_from_Range (record { start = i; end = j }) u f r (λ p. P p ≡ true) (λ p. P p ≡ false) ran (λ p q k. sym (tells p true q k).1) (λ p q k. let t = tells p false q k in (t.0, sym t.1)))

some_of : {P : ℕ → Type 0} (o : Option ℕ) → IsSomeAnd o P → (x : ℕ) × P x
some_of None h = absurd h
some_of (Some x) h = (x, h)

item_at : (Q : ℕ → Type 0) (o : Option ℕ) (x : ℕ) → option_map (λ y. y) o ≡ Some x → IfSome o Q → Q x
item_at Q None x e k = absurd (cc)
item_at Q (Some y) x e k = let d : y ≡ x = cc in subst Q d k

module _ (ms a : List ℕ) (w : ℕ) where
  -- the block at a place is marked and this owner's
  abbrev pub Theirs : ℕ → Type 0
  Theirs p = (marked ms p ≡ true) × (whose a p ≡ w)

  in_list : (i j : ℕ) (r : Bool) → let xs = range_with_len i (j - i) in
      MatchBool r ((k : ℕ) × (k < length xs) × HoldsAt Theirs xs k) (AllWithin (λ p. Theirs p → ⊥) xs 0 (length xs)) → Decides r (MarkedAs ms a w i j)
  in_list i j true h =
      let l = length-range_with_len i (j - i) in
      let e = get_or-range_with_len i (j - i) h.0 0 (omega arith) in
      let t = rw e at (h.2 0) in
      (λ _. (i + h.0, omega arith, omega arith, t.0, t.1), λ _. refl)
  in_list i j false h =
      let l = length-range_with_len i (j - i) in (
        λ e. absurd (both_ways _ refl e),
        λ r.
            let e : i + (r.0 - i) ≡ r.0 = omega arith in
            let g = get_or-range_with_len i (j - i) (r.0 - i) 0 (omega arith) in
            absurd (h (r.0 - i) 0 (omega arith) (omega arith) (rw (g, e) (r.3, r.4))),
      )

  module _ {F : Type 0} {g : Mut F (ℕ × Unit {0}) Bool} (f : F) where
    -- where each call tells whether the block at a place is marked and this owner's
    pub any_in_range : (i j : ℕ) (u : Range ℕ) (r : Bool) →
        (xs : List ℕ) × (o : Option ℕ) × (q : F) × YieldsThen nat_range_steps (record { start = i; end = j }) xs o u × FoldsTo (λ p x q. Called g p (x, tt) false q) f xs q
        × MatchOption o (r ≡ false) (λ x. (r ≡ true) × ((h : F) × Called g q (x, tt) true h)) →
        ((x : ℕ) (q : F) → Called g f (x, tt) true q → Theirs x) → ((x : ℕ) (q : F) → Called g f (x, tt) false q → (q ≡ f) × (Theirs x → ⊥)) →
        Decides r (MarkedAs ms a w i j)
    any_in_range i j u r ran hit miss =
        in_list i j r (cases_from_any u f r Theirs (λ p. Theirs p → ⊥) ran (YieldsList-from_range i j (j - i) refl refl) hit miss)

    -- where each call tells that of the next 64 places before the end
    pub any_in_chunks : (end : ℕ) (s : StepBy (Range ℕ)) (r : Bool) →
        EachRunFrom (step_by_steps nat_range_steps) s (λ p. SomeRun nat_range_steps (record { start = 0; end = end }) (λ q. IsStepByRun p q 64)) →
        SomeRun (step_by_steps nat_range_steps) s (λ p. MatchBool r (AnyItemGives p g f true) ((p.whole ≡ true) × AllItemsGive p g f false)) →
        ((x : ℕ × Unit {0}) (b : Bool) (q : F) → Called g f x b q → q ≡ f) → ((x : ℕ) (b : Bool) → Called g f (x, tt) b f → Decides b (MarkedAs ms a w x (min end (x + 64)))) →
        Decides r (MarkedAs ms a w 0 end)
    any_in_chunks end s true strides ran keeps tells =
        let item = some_of (ran.0.at (ran.2 keeps).0) (ran.2 keeps).2 in
        let m = (tells item.0 true item.1).0 refl in
        (λ _. (m.0, omega arith, omega arith, m.3, m.4), λ _. refl)
    any_in_chunks end s false strides ran keeps tells =
        let p = ran.0 in
        let q = strides p p.seen ran.1 in
        let up = range_runs q.0 q.0.seen in
        let len = up.1 (q.2.0 ∙ ran.2.0) in
        let start : q.0.from.start ≡ 0 = ap (λ (s : Range ℕ). s.start) q.1 in
        let stop : q.0.from.end ≡ end = ap (λ (s : Range ℕ). s.end) q.1 in (
          λ e. absurd (both_ways _ refl e),
          λ m.
              let k = m.0 / 64 in
              let below : k < p.len = omega (arith, q.2.2) in
              let at : option_map (λ y. y) (p.at k) ≡ Some (0 + k * 64) = rw (q.2.4 k) (up.3 (k * 64) (omega arith) ∙ ap (λ n. Some (n + k * 64)) start) in
              let call = item_at (λ x. Called g f (x, tt) false f) (p.at k) (0 + k * 64) at (ran.2.1 keeps k) in
              absurd (both_ways _ refl ((tells (0 + k * 64) false call).1 (m.0, omega arith, omega arith, m.3, m.4))),
        )
