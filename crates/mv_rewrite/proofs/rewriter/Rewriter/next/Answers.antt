use Rattle.std.proofs.lemmas.Result.{IfOk-weaker}
use Rattle.mv_rewrite.proofs.RewriterLaws.{gives_next, next_few, next_none, next_bounded}
use Rattle.mv_rewrite.proofs.rewriter.Rewriter.next.Goals as goal

pub returns-clause-given : goal.returns-clause-given
returns-clause-given c =
    IfOk-weaker c.advance.result _ _ (λ group a. gives_next c.args.self.now group c.advance.new.self c.advance.ensures.shaped a) c.advance.ensures.advances

pub returns-clause-few : goal.returns-clause-few
returns-clause-few c =
    IfOk-weaker c.advance.result _ _ (λ group a. next_few c.args.self.now group c.advance.new.self c.advance.ensures.shaped a) c.advance.ensures.advances

pub returns-clause-none : goal.returns-clause-none
returns-clause-none c =
    IfOk-weaker c.advance.result _ _ (λ group a. next_none c.args.self.now group c.advance.new.self a) c.advance.ensures.advances

pub returns-clause-size : goal.returns-clause-size
returns-clause-size c =
    IfOk-weaker c.advance.result _ _ (λ group a. next_bounded c.args.self.now group c.advance.new.self c.advance.ensures.shaped a) c.advance.ensures.advances
