-- How large a rule is, and which error numbers it makes (docs/FORMATS.md, "Rewrite rules").
use Rattle.std.specs.Prelude.{Bool, true, nat_lt, ◌<◌, ◌≤◌, List, [], ◌∷◌, length}
use Rattle.std.specs.List.{AllPass}
use Rattle.mv_rules.specs.declared.rule.Pattern.{Pattern}
use Rattle.mv_rules.specs.declared.rule.Pattern.TheVariants.{ReadErrno, WriteErrno, AcceptErrno, CloseErrno, ShutdownErrno}
use Rattle.mv_rules.specs.declared.rule.Rule.{Rule}

-- an error number is at least 1
abbrev pub errno_counts : Pattern → Bool
errno_counts (ReadErrno fd errno) = nat_lt 0 errno
errno_counts (WriteErrno fd bytes errno) = nat_lt 0 errno
errno_counts (AcceptErrno listener flags errno) = nat_lt 0 errno
errno_counts (CloseErrno fd errno) = nat_lt 0 errno
errno_counts (ShutdownErrno fd how errno) = nat_lt 0 errno
errno_counts pattern = true

-- one to eight items on the left, at most eight guards, at most sixteen items on the right
pub record IsShaped (rule : Rule) : Type 0 where
  pub some : 0 < length rule.left
  pub left : length rule.left ≤ 8
  pub guards : length rule.guards ≤ 8
  pub right : length rule.right ≤ 16
  pub errnos : AllPass errno_counts rule.right

abbrev pub AreShaped : List Rule → Type 0
AreShaped [] = Unit {0}
AreShaped (rule ∷ rules) = IsShaped rule × AreShaped rules
