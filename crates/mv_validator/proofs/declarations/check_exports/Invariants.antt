use Rattle.std.proofs.Common.{◌≡◌, take}
use Rattle.mv_validator.specs.Checks.{ExportedAs}
use Rattle.mv_validator.proofs.Names.{AreNamesOf}
use Rattle.mv_validator.proofs.Scans.{Before, PassesAt}
use Rattle.mv_validator.proofs.declarations.check_exports.Given as goal

abbrev pub invariant-loop-item : goal.invariant-loop-item
invariant-loop-item l = (l.export-items ≡ l.«module».exports) × AreNamesOf (take l.item l.export-items) l.names × Before (PassesAt l.«module» (λ n x. ExportedAs n x)) l.export-items l.item
