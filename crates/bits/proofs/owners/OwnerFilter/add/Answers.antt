use Rattle.std.proofs.Common.{arith}
use Rattle.bits.specs.Filter.{slot}
use Rattle.bits.proofs.Probes.{may_have_decides}
use Rattle.bits.proofs.owners.OwnerFilter.add.Goals as goal

pub returns : goal.returns
returns c =
    let before = may_have_decides c.args.self.now.words in
    let after = may_have_decides c.loop-k.self.words in
    record {
      has = (after c.args.owner).1 (λ k l. c.loop-k.invariant.set k (omega arith));
      keeps = λ w e. (after w).1 (λ k l. c.loop-k.invariant.kept (slot w k) ((before w).0 e k l));
    }
