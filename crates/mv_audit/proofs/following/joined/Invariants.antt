use Rattle.std.proofs.Common.{◌≡◌, ◌++◌, drop}
use Rattle.mv_rewrite.specs.Deciding.{joined}
use Rattle.mv_audit.proofs.following.joined.Given as goal

-- what is there, and what is left
abbrev pub invariant-loop-group : goal.invariant-loop-group
invariant-loop-group l = l.all.items ++ joined (drop l.group-index l.groups) ≡ joined l.groups
