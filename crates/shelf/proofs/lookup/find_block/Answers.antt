use Rattle.std.proofs.Common.{rules, ◌≡◌, ◌∙◌}
use Rattle.std.specs.Option.{option_map}
use Rattle.std.proofs.lemmas.Iterator.Search.{find_from_yields_List}
use Rattle.shelf.specs.Walk.{theirs, find}
use Rattle.shelf.specs.Standing.{is_of, place_of}
use Rattle.shelf.proofs.Items.{walk_gives}
use Rattle.shelf.proofs.Seeking.{place_found}
use Rattle.shelf.proofs.Items.{is_of_item}
use Rattle.shelf.proofs.lookup.find_block.Goals as goal

pub returns : goal.returns
unfolding find
returns c =
    let a = c.args.shelf.now in
    let w = c.args.owner in
    let found = find_from_yields_List (is_of w) c.find.new.self _ c.find.result c.find.ensures.ran (walk_gives a 0 c.new.ensures.shelf c.new.ensures.at) (λ x b q k. search rules) in
    let place : c.map.result ≡ option_map place_of c.find.result = search rules in
    place ∙ place_found a (theirs a w) (is_of w) (is_of_item a w) c.find.result found
