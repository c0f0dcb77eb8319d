use Rattle.std.proofs.Common.{ap, ◌∙◌, rules}
use Rattle.std.specs.Prelude.{Err}
use Rattle.requests.specs.Answers.{number_of}
use Rattle.dispatch.specs.Places.{refusal_place_of}
use Rattle.dispatch.proofs.Keeps.{refused_keeps}
use Rattle.laztimur.specs.Answering.{refused_for, told}
use Rattle.laztimur.proofs.answering.ask.Goals as goal

-- what is refused changes no cell, so the place is told of the shelf as it was
pub returns-in-Err : goal.returns-in-Err
returns-in-Err c =
    let a = c.args.shelf.now in
    let q = c.args.request in
    let why = c.in-Err.why in
    let e = c.in-Err.ensures.answer in
    let k = c.carried.ensures.after ∙ refused_keeps a q why e in
    let p = c.refused_at.ensures ∙ ap (λ b. refusal_place_of b q (number_of why)) k in
    record { answer = ap Err (c.refused.ensures ∙ ap (refused_for why) p) ∙ ap (told a q) e; after = search rules }
