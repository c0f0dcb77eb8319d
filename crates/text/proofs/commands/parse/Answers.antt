use Rattle.std.proofs.Common.{rules}
use Rattle.text.proofs.Laws.{reads_back}
use Rattle.text.proofs.commands.parse.Goals as goal

pub returns-in_default-clause-back : goal.returns-in_default-clause-back
returns-in_default-clause-back c = reads_back _ _ (search rules)

pub returns-in_err-command-clause-back : goal.returns-in_err-command-clause-back
returns-in_err-command-clause-back c = reads_back _ _ (search rules)

pub returns-clause-back : goal.returns-clause-back
returns-clause-back c = reads_back _ _ (search rules)
