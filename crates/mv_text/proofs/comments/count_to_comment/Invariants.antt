use Rattle.std.proofs.Common.{◌≡◌, ◌+◌, length}
use Rattle.mv_text.specs.declared.comments.Quoting.TheVariants.{Gap}
use Rattle.mv_text.specs.Comments.{before_comment}
use Rattle.mv_text.proofs.comments.count_to_comment.Given as goal

abbrev pub invariant-loop-rest : goal.invariant-loop-rest
invariant-loop-rest l = record {
  whole : length (before_comment Gap l.line) ≡ l.count + length (before_comment l.place l.rest);
  within : l.count + length l.rest ≡ length l.line;
}

abbrev pub decreases-loop-rest : goal.decreases-loop-rest
decreases-loop-rest l = length l.rest
