-- A head's first cell, to and from what it tells.
use Rattle.std.proofs.Common.{◌≡◌, ℕ, ◌+◌, ◌*◌, ◌%◌, ◌<◌, ◌≤◌, Bool, true, false, inl, inr, arith}
use mir.Val.{bool_byte}
use Rattle.std.proofs.lemmas.Bool.{eq-eqb, ne_eqb, cases_eq, and_parts, and_from, leb-true, ltb-true, le-leb, lt-ltb}
use Rattle.block.specs.Cell.{mark, dead, is_first, first_cell, row_length, is_used}

pub first_cell_length : (n : ℕ) (u : Bool) → row_length (first_cell n u) ≡ n
unfolding first_cell row_length
first_cell_length n true = omega arith
first_cell_length n false = omega arith

pub first_cell_used : (n : ℕ) (u : Bool) → is_used (first_cell n u) ≡ u
unfolding first_cell is_used
first_cell_used n true = eq-eqb _ 1 (omega arith)
first_cell_used n false = ne_eqb _ 1 (λ e. omega arith)

pub first_cell_back : (c : ℕ) → mark ≤ c → first_cell (row_length c) (is_used c) ≡ c
unfolding first_cell row_length is_used
first_cell_back c h = elim (cases_eq (c % 2) 1) [ inl e ↦ rw (eq-eqb (c % 2) 1 e) (omega arith) | inr e ↦ rw (ne_eqb (c % 2) 1 e) (omega arith) ]

-- the same as the code adds it up
pub first_cell_sum : (n : ℕ) (u : Bool) → mark + 2 * n + bool_byte u ≡ first_cell n u
unfolding first_cell
first_cell_sum n true = omega arith
first_cell_sum n false = omega arith

pub first_cell_least : (n : ℕ) (u : Bool) → mark ≤ first_cell n u
unfolding first_cell
first_cell_least n u = omega arith

-- every length that a shelf can hold has its cell
pub first_cell_live : (n : ℕ) (u : Bool) → n < 1073741823 → first_cell n u < dead
unfolding first_cell
first_cell_live n true h = omega arith
first_cell_live n false h = omega arith

pub is_first_parts : (c : ℕ) → is_first c ≡ true → (mark ≤ c) × (c < dead)
is_first_parts c h = let p = and_parts _ _ h in (leb-true _ _ p.0, ltb-true _ _ p.1)

pub is_first_from : (c : ℕ) → mark ≤ c → c < dead → is_first c ≡ true
is_first_from c h l = and_from _ _ (le-leb _ _ h) (lt-ltb _ _ l)
