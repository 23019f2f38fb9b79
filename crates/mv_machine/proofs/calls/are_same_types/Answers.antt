use Rattle.mv_machine.proofs.Signatures.{types-differ}
use Rattle.mv_machine.proofs.calls.are_same_types.Goals as goal

pub returns-then-a-b : goal.returns-then-a-b
returns-then-a-b c = types-differ c.args.a.now c.args.b.now c.if-a-b.true
