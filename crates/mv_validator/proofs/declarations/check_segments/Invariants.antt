use Rattle.std.proofs.Common.{◌≡◌}
use Rattle.mv_validator.specs.Checks.{DataOf}
use Rattle.mv_validator.proofs.Scans.{Before, PassesAt}
use Rattle.mv_validator.proofs.declarations.check_segments.Given as goal

abbrev pub invariant-loop-item : goal.invariant-loop-item
invariant-loop-item l = (l.segment-items ≡ l.«module».segments) × Before (PassesAt l.«module» (λ n x. DataOf x)) l.segment-items l.item
