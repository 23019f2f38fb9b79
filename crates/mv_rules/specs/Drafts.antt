-- What holds of a rule while its text is read.
use Rattle.std.specs.Prelude.{◌≡◌, true, ◌≤◌, [], length}
use Rattle.mv_rules.specs.declared.rule.Pattern.{Pattern}
use Rattle.mv_rules.specs.declared.rule.Rule.{Rule}
use Rattle.mv_scan.specs.declared.found.Found.{Found}
use Rattle.mv_scan.specs.declared.found.Found.TheVariants.{Other, OutOfRange, Is}
use Rattle.mv_rules.specs.declared.line.Line.{Line}
use Rattle.mv_rules.specs.declared.line.Line.TheVariants as lines
use Rattle.mv_rules.specs.declared.reading.Phase.{Phase}
use Rattle.mv_rules.specs.declared.reading.Phase.TheVariants.{Outside, InLeft, InRight}
use Rattle.mv_rules.specs.Shape.{errno_counts, IsShaped}

-- a left side with no right one yet
pub record IsLeft (rule : Rule) : Type 0 where
  pub left : length rule.left ≤ 8
  pub guards : length rule.guards ≤ 8
  pub right : rule.right ≡ []

abbrev pub IsDraft : Phase → Type 0
IsDraft Outside = Unit {0}
IsDraft (InLeft rule) = IsLeft rule
IsDraft (InRight rule) = IsShaped rule

-- an error number that is found is at least 1
abbrev pub Counts : Found Pattern → Type 0
Counts Other = Unit {0}
Counts OutOfRange = Unit {0}
Counts (Is pattern) = errno_counts pattern ≡ true

abbrev pub LineCounts : Line → Type 0
LineCounts (lines.Item found) = Counts found
LineCounts line = Unit {0}
