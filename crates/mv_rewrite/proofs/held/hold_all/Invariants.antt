use Rattle.std.proofs.Common.{◌≡◌, take}
use Rattle.mv_rewrite.proofs.held.hold_all.Given as goal

-- the items so far
abbrev pub invariant-loop-item : goal.invariant-loop-item
invariant-loop-item l = l.held.items ≡ take l.item-index l.items
