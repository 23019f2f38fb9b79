use Rattle.std.proofs.Common.{◌*◌}
use Rattle.mv_inspect.proofs.Threes.{IsSoFar}
use Rattle.mv_inspect.proofs.naming.updates_at.Given as goal

abbrev pub invariant-loop-number : goal.invariant-loop-number
invariant-loop-number g l = IsSoFar (g.F.Files.content l.fn.files) (g.F.Files.content l.files) (g.F.Files.faults l.fn.files) (g.F.Files.faults l.files) l.names (3 * l.number) l.updates.items
