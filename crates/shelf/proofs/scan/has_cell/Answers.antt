use Rattle.std.proofs.Common.{◌≡◌, ℕ, Bool, true, false, ◌||◌, eqb, List, [], ◌∷◌, fold, refl, ◌∙◌, rules, tests}
use Rattle.std.proofs.lemmas.Iterator.{YieldsList-from_slice}
use Rattle.std.proofs.lemmas.Iterator.Consumers.{fold_from_yields_List}
use Rattle.shelf.specs.Compared.{has_cell}
use Rattle.shelf.proofs.scan.has_cell.Goals as goal

found : (v : ℕ) (xs : List ℕ) (b : Bool) → fold (λ has x. has || eqb x v) b xs ≡ (b || has_cell v xs)
unfolding has_cell
found v [] true = refl
found v [] false = refl
found v (x ∷ xs) true = found v xs true
found v (x ∷ xs) false = found v xs (eqb x v)

pub returns : goal.returns
returns c = fold_from_yields_List _ (λ has x. has || eqb x c.args.value) false c.fold.result c.fold.ensures.ran (YieldsList-from_slice c.args.cells.now cc) (λ a x b q k. search (rules, tests)) ∙ found c.args.value c.args.cells.now false
