use Rattle.std.proofs.Common.{◌≡◌, drop}
use Rattle.mv_rewrite.proofs.rewriter.drop_front.Given as goal

-- as many items as turns are gone
abbrev pub invariant-loop : goal.invariant-loop
invariant-loop l = l.held.items ≡ drop l.counter l.fn.held.items
