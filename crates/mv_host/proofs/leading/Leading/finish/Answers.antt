use Rattle.std.proofs.Common.{refl, sym, ap, subst, ◌∙◌}
use Rattle.mv_core.specs.Cuts.{is_cut}
use Rattle.mv_rehearse.specs.Linked.{LineWaits}
use Rattle.mv_host.proofs.Leads.{over}
use Rattle.mv_host.proofs.leading.Leading.finish.Goals as goal

pub unreachable-requires : goal.unreachable-requires
unreachable-requires g c =
    let at = over c.self.inside.book.total c.args.over.share.amount c.self.inside.core.status.ended c.args.over.one (c.audit.ensures.whole (c.args.over.whole ∙ c.requires.parts)) c.self.invariant.counted in
    c.in_default.not-Ended at.0 ((c.turn.ensures.ended at.0).1 at.1)

pub end_run-requires : goal.end_run-requires
end_run-requires g c =
    let same = (c.in-Ended.ensures.idle tt).0 in
    record {
      ended = ap (λ w. w.status.ended) same ∙ (c.in-Ended.ensures.ended c.in-Ended.how).0 refl;
      uncut = ap (λ w. is_cut w.status.ended) same ∙ c.self.invariant.uncut;
      line = subst (λ w. LineWaits w.status w.line) (sym same) c.self.invariant.line;
      asks = ap (λ w. w.orders) same ∙ c.self.invariant.asks;
    }
