use Rattle.std.proofs.Common.{◌≡◌}
use Rattle.mv_validator.specs.Checks.{BodyOf}
use Rattle.mv_validator.proofs.Scans.{Before, PassesAt}
use Rattle.mv_validator.proofs.valid.check_bodies.Given as goal

abbrev pub invariant-loop-item : goal.invariant-loop-item
invariant-loop-item l = (l.func-items ≡ l.«module».funcs) × Before (PassesAt l.«module» (λ n x. BodyOf x)) l.func-items l.item
