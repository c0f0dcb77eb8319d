-- The filter of owners along the walk: whoever it can't have is not met before.
use Rattle.std.proofs.Common.{◌≡◌, ℕ, zero, suc, ◌+◌, ◌<◌, ◌≤◌, Bool, true, false, not, ◌&&◌, ltb, ◌⊎◌, List, length, get_or, take, is_some, Some, None, Option, sym, refl, ap, ◌∙◌, inl, inr, arith, length-take, get_or-take}
use Rattle.std.proofs.lemmas.Bool.Decides.{nat_tests}
use Rattle.std.proofs.lemmas.Bool.{both_ways, cases_Bool, cases_lt, le-ltb}
use Rattle.block.specs.Block.{in_use, whose}
use Rattle.bits.specs.Filter.{may_have}
use Rattle.shelf.specs.Compared.{has_cell}
use Rattle.shelf.specs.Walk.{is_dead, next, first_from, theirs, find}
use Rattle.shelf.specs.Sound.{sound, met_before, sound_at, unsound_from, first_unsound}
use Rattle.shelf.specs.Meeting.{Knows, Notes}
use Rattle.shelf.proofs.Along.{next_more, onward, stops, first_on, unsound_on, unsound_here, unsound_end, all_cells_from}
use Rattle.shelf.proofs.Compared.{has_at}
use Rattle.shelf.proofs.Faults.{fault_is_unsound}

-- each owner may be in the filter, or what is left of the walk finds their block
abbrev pub Met : List ℕ → ℕ → List ℕ → Type 0
Met a i ws = (w : ℕ) → (may_have ws w ≡ true) ⊎ ((f : ℕ) × (length a ≤ i + f) × (first_from (theirs a w) f a i ≡ find a w))

pub met_starts : (a ws : List ℕ) → Met a 0 ws
unfolding find
met_starts a ws w = inr (length a, omega arith, refl)

-- a look finds nothing before where it begins
not_before : (t : ℕ → Bool) (f : ℕ) (a : List ℕ) (i : ℕ) → (i ≤ first_from t f a i) ⊎ (first_from t f a i ≡ length a)
unfolding first_from
not_before t zero a i = inr refl
not_before t (suc f) a i = elim (cases_Bool (ltb i (length a))) [
  | inr e ↦ rw e (inr refl)
  | inl e ↦ elim (cases_Bool (t i)) [
    | inl b ↦ rw (e, b) (inl (omega arith))
    | inr b ↦
        let n = next_more a i in
        rw (e, b) (elim (not_before t f a (next a i)) [ inl h ↦ inl (omega arith) | inr h ↦ inr h ])
  ]
]

-- where a look stops on the shelf, its test holds
stops_where : (t : ℕ → Bool) (f : ℕ) (a : List ℕ) (i : ℕ) → first_from t f a i < length a → t (first_from t f a i) ≡ true
unfolding first_from
stops_where t zero a i h = absurd (omega arith)
stops_where t (suc f) a i h = elim (cases_Bool (ltb i (length a))) [
  | inr e ↦ let z : length a < length a = rw e at h in absurd (omega arith)
  | inl e ↦ elim (cases_Bool (t i)) [ inl b ↦ rw (e, b) b | inr b ↦ rw (e, b) (stops_where t f a (next a i) (rw (e, b) at h)) ]
]

-- nobody's block stands before a place if no cell up to it is their number
pub not_seen : (a : List ℕ) (w i : ℕ) → i < length a → has_cell w (take (i + 1) a) ≡ false → i ≤ find a w
unfolding find
not_seen a w i l none = elim (cases_lt (find a w) i) [
  | inr h ↦ h
  | inl h ↦
      let p = find a w in
      let t : theirs a w p ≡ true = stops_where (theirs a w) (length a) a 0 (omega arith) in
      let e : whose a p ≡ w = grind (arith, nat_tests) in
      let cell : get_or (take (i + 1) a) (p + 1) 0 ≡ w = rw (get_or-take (i + 1) a (p + 1) 0 (omega arith)) e in
      let n : p + 1 < length (take (i + 1) a) = simp length-take (omega arith) in
      absurd (both_ways _ none (has_at w (take (i + 1) a) (p + 1) n cell))
]

-- whoever is not in the filter has none before a place, and whoever has none was not met there
pub unknown : (a : List ℕ) (i : ℕ) (ws : List ℕ) (w : ℕ) → Knows a i ws → false ≡ may_have ws w → i ≤ find a w
unknown a i ws w k h = elim (cases_lt (find a w) i) [ inr l ↦ l | inl l ↦ absurd (both_ways _ (sym h) (k w l)) ]

pub not_met : (a : List ℕ) (p w : ℕ) → whose a p ≡ w → p ≤ find a w → met_before a p ≡ false
not_met a p w e l = rw (e, le-ltb (find a w) p l) (and_false (not (is_dead a p)) (in_use a p))
  where
    and_false : (b c : Bool) → (b && (c && false)) ≡ false
    and_false true true = refl
    and_false true false = refl
    and_false false c = refl

pub met_knows : (a : List ℕ) (i : ℕ) (ws : List ℕ) → i ≤ length a → Met a i ws → Knows a i ws
met_knows a i ws l m w h = elim (m w) [
  | inl e ↦ e
  | inr e ↦ let q = e.2 in elim (not_before (theirs a w) e.0 a i) [ inl n ↦ absurd (omega arith) | inr n ↦ absurd (omega arith) ]
]

pub met_goes_on : (a : List ℕ) (i n : ℕ) (ws vs : List ℕ) → n ≡ next a i → i < length a → Notes a i ws vs → Met a i ws → Met a n vs
met_goes_on a i n ws vs e l k m w = elim (m w) [
  | inl h ↦ inl (k.keeps w h)
  | inr h ↦ elim (cases_Bool (theirs a w i)) [
    | inl t ↦ inl (k.has w t)
    | inr t ↦ inr (onward (first_from (theirs a w)) a i n h.0 _ e l h.1 (first_on (theirs a w) a i l t) h.2)
  ]
]

-- what is left of the walk is at fault where the whole is
abbrev pub Checking : List ℕ → ℕ → Type 0
Checking a i = (f : ℕ) × (length a ≤ i + f) × (unsound_from f a i ≡ first_unsound a)

pub checking_starts : (a : List ℕ) → Checking a 0
unfolding first_unsound
checking_starts a = (length a, omega arith, refl)

pub checking_goes_on : (a : List ℕ) (i n : ℕ) → n ≡ next a i → i < length a → true ≡ sound_at a i → Checking a i → Checking a n
checking_goes_on a i n e l h k = onward unsound_from a i n k.0 _ e l k.1 (unsound_on a i l (sym h)) k.2

-- the answer at a place at fault, and at the end
pub checking_stops : (a : List ℕ) (i : ℕ) → i < length a → false ≡ sound_at a i → Checking a i → Some i ≡ first_unsound a
checking_stops a i l h k = stops unsound_from a i k.0 _ (Some i) l k.1 (unsound_here a i l (sym h)) k.2

pub checking_ends : (a : List ℕ) (i : ℕ) → length a ≤ i → Checking a i → None ≡ first_unsound a
checking_ends a i l k = sym (unsound_end a i l k.0) ∙ k.2

pub checked : (a : List ℕ) (r : Option ℕ) → ((i : ℕ) → get_or a i 0 < 4294967296) → r ≡ first_unsound a → is_some r ≡ not (sound a)
checked a r typed e = ap is_some e ∙ fault_is_unsound a (all_cells_from a typed)
