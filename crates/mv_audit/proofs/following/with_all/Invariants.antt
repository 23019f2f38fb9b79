use Rattle.std.proofs.Common.{◌≡◌, ◌++◌, drop}
use Rattle.mv_audit.proofs.following.with_all.Given as goal

-- what is there, and what is left
abbrev pub invariant-loop-item : goal.invariant-loop-item
invariant-loop-item l = l.all.items ++ drop l.item-index l.items ≡ l.initial.all.items ++ l.items
