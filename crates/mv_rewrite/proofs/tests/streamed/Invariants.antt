use Rattle.std.proofs.Common.{◌≡◌, false}
use Rattle.mv_rewrite.proofs.tests.streamed.Given as goal

-- more items may come
abbrev pub invariant-loop-item : goal.invariant-loop-item
invariant-loop-item l = l.rewriter.finished ≡ false
