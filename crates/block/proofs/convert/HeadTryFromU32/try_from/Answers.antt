use Rattle.std.proofs.Common.{◌%◌, sym, refl, inl, inr, arith}
use Rattle.std.proofs.lemmas.Bool.{eq-eqb, ne_eqb, cases_eq}
use Rattle.block.specs.Cell.{first_cell, row_length, is_used}
use Rattle.block.proofs.Cells.{first_cell_back, is_first_from}
use Rattle.block.proofs.convert.HeadTryFromU32.try_from.Goals as goal

-- names no length, so that it holds for any that is less
pub invariant_of-result : goal.invariant_of-result
unfolding first_cell
invariant_of-result c = record { live = elim (cases_eq (c.args.cell % 2) 1) [ inl e ↦ rw (eq-eqb (c.args.cell % 2) 1 e) (omega arith) | inr e ↦ rw (ne_eqb (c.args.cell % 2) 1 e) (omega arith) ] }

pub returns : goal.returns
unfolding row_length is_used
returns c = record {
  first = is_first_from c.args.cell (omega arith) (omega arith);
  value = sym (first_cell_back c.args.cell (omega arith));
  length = refl;
  in_use = refl;
}
