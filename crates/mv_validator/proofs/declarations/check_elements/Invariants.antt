use Rattle.std.proofs.Common.{◌≡◌}
use Rattle.mv_validator.specs.Checks.{ElementsOf}
use Rattle.mv_validator.proofs.Scans.{Before, PassesAt}
use Rattle.mv_validator.proofs.declarations.check_elements.Given as goal

abbrev pub invariant-loop-item : goal.invariant-loop-item
invariant-loop-item l = (l.element-items ≡ l.«module».elements) × Before (PassesAt l.«module» (λ n x. ElementsOf x)) l.element-items l.item
