use Rattle.std.proofs.Common.{◌≡◌, ◌++◌, ◌≤◌, drop}
use Rattle.mv_syntax.specs.LocalRuns.{spread, AreRising}
use Rattle.mv_writer.specs.Written.{runs_of}
use Rattle.mv_writer.proofs.Pending.{pending}
use Rattle.mv_writer.proofs.runs.runs_of.Given as goal

abbrev pub invariant-loop-run : goal.invariant-loop-run
invariant-loop-run l = (l.count ≤ l.start) × AreRising l.start (drop l.run-index l.run-items) × (l.runs.items ++ pending l.count l.vtype (runs_of (spread l.start (drop l.run-index l.run-items))) ≡ runs_of l.fn.locals)
