use Rattle.std.proofs.Common.{rules, ◌≡◌, ◌∙◌}
use Rattle.std.specs.Option.{option_map}
use Rattle.std.proofs.lemmas.Iterator.Search.{find_from_yields_List}
use Rattle.shelf.specs.Walk.{roomy, room}
use Rattle.shelf.specs.Standing.{has_room_for, place_of}
use Rattle.shelf.proofs.Items.{walk_gives}
use Rattle.shelf.proofs.Seeking.{place_found}
use Rattle.shelf.proofs.Items.{has_room_for_item}
use Rattle.shelf.proofs.Seeking.{room_test}
use Rattle.shelf.proofs.lookup.find_room.Goals as goal

pub returns : goal.returns
unfolding room
returns c =
    let a = c.args.shelf.now in
    let n = c.args.long in
    let found = find_from_yields_List (has_room_for n) c.find.new.self _ c.find.result c.find.ensures.ran (walk_gives a 0 c.new.ensures.shelf c.new.ensures.at) (λ x b q k. search rules) in
    let place : c.map.result ≡ option_map place_of c.find.result = search rules in
    let e = place ∙ place_found a (roomy a n) (has_room_for n) (has_room_for_item a n) c.find.result found in
    record { place = e; test = room_test a n _ e }
