use Rattle.std.proofs.Common.{sym, ap, ◌∙◌}
use Rattle.mv_core.specs.Cuts.{is_cut}
use Rattle.mv_ring.specs.Halves.{note_list, put_list}
use Rattle.mv_host.specs.Keeps.{ended_count}
use Rattle.mv_host.proofs.Leads.{line_kept, puts_more, puts_sent, shown_whole}
use Rattle.mv_host.proofs.leading.Leading.judge.Goals as goal

pub judge-requires-clause-feed : goal.judge-requires-clause-feed
judge-requires-clause-feed g c = puts_sent g.V.Version.behaviour c.self.inside.core.log c.meet.new.self (λ first started. c.self.invariant.puts first started ∙ sym c.meet.ensures.same.1)

pub judge-requires-clause-shown : goal.judge-requires-clause-shown
judge-requires-clause-shown g c first started =
    shown_whole g.V.Version.behaviour g.met.V.Version.settled c.self.inside.core.log first (put_list c.meet.new.self) (note_list c.args.note) _ c.args.update c.args.verdict started
    (c.self.invariant.puts first started ∙ sym c.meet.ensures.same.1) c.meet.ensures.met.0 c.meet.ensures.met.1 c.requires.shown

pub invariant_of-self : goal.invariant_of-self
invariant_of-self g c = record {
  of_ring = c.judge.ensures.same.0.0 ∙ c.meet.ensures.same.0.0 ∙ c.self.invariant.of_ring;
  puts = puts_more g.V.Version.behaviour c.self.inside.core.log c.judge.new.self.log c.meet.new.self c.judge.new.feed c.judge.ensures.start.0 c.judge.ensures.feed (λ first started. c.self.invariant.puts first started ∙ sym c.meet.ensures.same.1);
  uncut = ap is_cut c.judge.ensures.ended ∙ c.self.invariant.uncut;
  asks = c.judge.ensures.rest.3 ∙ c.self.invariant.asks;
  line = line_kept c.self.inside.core.status c.judge.new.self.status c.self.inside.core.line c.judge.new.self.line c.judge.ensures.ended c.judge.ensures.rest.5 c.self.invariant.line;
  counted = c.self.invariant.counted ∙ ap ended_count (sym c.judge.ensures.ended);
}
