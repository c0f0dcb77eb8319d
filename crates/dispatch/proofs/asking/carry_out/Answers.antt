use Rattle.dispatch.proofs.Follow.{follows}
use Rattle.dispatch.proofs.asking.carry_out.Goals as goal

pub returns : goal.returns
returns c =
    let e = c.ask_entry.ensures in
    record {
      answer = e.answer;
      cells = e.cells;
      refusal = e.refusal;
      says = e.says;
      follows = λ u. rw (e.answer, e.cells) (follows c.args.book.now.cells.now c.args.request u);
      lender = e.lender;
    }
