use Rattle.std.proofs.Common.{ℕ, take, ap, ◌∙◌}
use Rattle.mv_text.specs.declared.comments.Quoting.TheVariants.{Gap}
use Rattle.mv_text.proofs.Contents.{front_is}
use Rattle.mv_text.proofs.comments.content_of.Goals as goal

pub returns : goal.returns
returns c = c.split_at.ensures.front ∙ ap (λ (n : ℕ). take n c.args.line.now) c.count_to_comment.ensures.count ∙ front_is Gap c.args.line.now
