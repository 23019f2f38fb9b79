use Rattle.std.proofs.Common.{◌≡◌}
use Rattle.mv_validator.specs.Checks.{TypeOfImport}
use Rattle.mv_validator.proofs.Scans.{Before, PassesAt}
use Rattle.mv_validator.proofs.declarations.check_imports.Given as goal

abbrev pub invariant-loop-item : goal.invariant-loop-item
invariant-loop-item l = (l.import-items ≡ l.«module».imports) × Before (PassesAt l.«module» (λ n x. TypeOfImport x)) l.import-items l.item
