use Rattle.std.proofs.Common.{◌≡◌}
use Rattle.mv_rewrite.proofs.tests.given.Given as goal

-- whether more items may come stays
abbrev pub invariant-loop : goal.invariant-loop
invariant-loop l = l.rewriter.finished ≡ l.fn.rewriter.finished
