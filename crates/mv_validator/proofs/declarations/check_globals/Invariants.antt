use Rattle.std.proofs.Common.{◌≡◌}
use Rattle.mv_validator.specs.Checks.{GlobalInit}
use Rattle.mv_validator.proofs.Scans.{Before, PassesAt}
use Rattle.mv_validator.proofs.declarations.check_globals.Given as goal

abbrev pub invariant-loop-item : goal.invariant-loop-item
invariant-loop-item l = (l.global-items ≡ l.«module».globals) × Before (PassesAt l.«module» (λ n x. GlobalInit x)) l.global-items l.item
