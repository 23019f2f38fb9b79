use Rattle.std.proofs.Common.{◌∙◌, ap, [], ◌∷◌, ◌++◌}
use Rattle.mv_calls.specs.declared.calls.Call.{Call}
use Rattle.mv_calls.specs.declared.calls.Reply.{Reply}
use Rattle.mv_rewrite.proofs.Changes.{feed_stands}
use Rattle.mv_rewrite.proofs.rewriter.Rewriter.feed.Goals as goal

pub returns-clause-stands : goal.returns-clause-stands
returns-clause-stands c =
    feed_stands c.self.inside.rules c.self.inside.held.items c.push.new.self.items c.self.inside.finished c.args.item c.args.self.now
    c.self.view_is c.self.invariant c.requires.running (c.push.ensures.items ∙ ap (λ (i : Call × Reply). c.self.inside.held.items ++ i ∷ []) c.new.ensures)
