use Rattle.std.proofs.Common.{◌≡◌, Some, ap, ◌∙◌, sym}
use Rattle.mv_rewrite.specs.Decisions.{decision_seen}
use Rattle.mv_rewrite.specs.Rewriting.{decide}
use Rattle.mv_rewrite.proofs.FrontRules.{whole_step}
use Rattle.mv_rewrite.proofs.whole.rewrite_whole.Goals as goal

pub loop-rest-preserved : goal.loop-rest-preserved
loop-rest-preserved c =
    let next : decide c.args.more c.args.rules.now c.loop-rest.rest.now ≡ Some (c.in-Replace.made, c.in-Replace.count) =
    sym c.in_ok-decide_front.ensures.decided ∙ ap (λ d. decision_seen d c.loop-rest.rest.now) c.in-Replace.is in
    rw (c.in_ok-push-in-Replace.ensures.items, c.split_at.ensures.back)
    (whole_step c.args.more c.args.rules.now c.loop-rest.given.items c.loop-rest.rest.now c.in-Replace.made c.in-Replace.count _
    c.requires c.loop-rest.invariant next)
