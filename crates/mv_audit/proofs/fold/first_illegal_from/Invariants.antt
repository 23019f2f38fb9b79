use Rattle.std.proofs.Common.{drop}
use Rattle.mv_audit.specs.Audit.{world_of}
use Rattle.mv_audit.proofs.FoldLaws.{IsFolded}
use Rattle.mv_audit.proofs.fold.first_illegal_from.Given as goal

-- the entries so far may come, and led to this world
abbrev pub invariant-loop-i : goal.invariant-loop-i
invariant-loop-i g l = IsFolded g.V.Version.behaviour l.updates.list (world_of g.V.Version.behaviour l.fn.audit) l.entries l.i (drop l.i l.entries) (world_of g.V.Version.behaviour l.audit)
