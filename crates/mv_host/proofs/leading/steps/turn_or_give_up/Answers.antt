use Rattle.std.proofs.Common.{inr, ap, ◌∙◌}
use Rattle.mv_core.specs.Whole.{seen}
use Rattle.mv_rehearse.proofs.Leading.{line_led}
use Rattle.mv_host.proofs.Leads.{ended_by, puts_end, puts_more, runs_by, start_by, stays_ended}
use Rattle.mv_host.proofs.leading.steps.turn_or_give_up.Goals as goal

pub give_up-requires : goal.give_up-requires
give_up-requires g c = record { runs = runs_by c.args.core.now.status.ended c.turn-turn.new.self.status.ended c.turn-turn.result c.in-Memory.is c.turn-turn.ensures.ended (λ h. ap (λ st. st.ended) (c.turn-turn.ensures.did_not h).status_is) }

pub returns-in-Memory-clause-puts : goal.returns-in-Memory-clause-puts
returns-in-Memory-clause-puts g c =
    puts_end g.V.Version.behaviour c.turn-turn.new.self.log c.give_up.new.self.log c.turn-turn.new.feed c.give_up.ensures.start.0 c.give_up.ensures.start.1 c.give_up.ensures.log
    (puts_more g.V.Version.behaviour c.args.core.now.log c.turn-turn.new.self.log c.args.feed.now c.turn-turn.new.feed (c.in-Memory.ensures.did_not (λ bad. cc)).start_is c.turn-turn.ensures.feed c.requires.puts)

pub returns-in-Memory-clause-line : goal.returns-in-Memory-clause-line
returns-in-Memory-clause-line g c = inr c.give_up.ensures.ended

pub returns-in-Memory-clause-asks : goal.returns-in-Memory-clause-asks
returns-in-Memory-clause-asks g c = c.give_up.ensures.rest.3 ∙ (c.turn-turn.ensures.asked.orders_same ∙ c.requires.asks)

pub returns-in_default : goal.returns-in_default
returns-in_default g c = record {
  puts = puts_more g.V.Version.behaviour c.args.core.now.log c.turn-turn.new.self.log c.args.feed.now c.turn-turn.new.feed
      (start_by c.args.core.now.log c.turn-turn.new.self.log c.turn-turn.result (λ h. (c.turn-turn.ensures.did h).start_is) (λ h. (c.turn-turn.ensures.did_not h).start_is)) c.turn-turn.ensures.feed c.requires.puts;
  uncut = c.turn-turn.ensures.uncut c.requires.uncut;
  line = line_led
      (seen g.K.Kernel.done g.K.Kernel.faults g.C.Console.coming g.C.Console.said g.C.Console.faults g.F.Files.content g.F.Files.faults c.args.core.now)
      (seen g.K.Kernel.done g.K.Kernel.faults g.C.Console.coming g.C.Console.said g.C.Console.faults g.F.Files.content g.F.Files.faults c.turn-turn.new.self)
      c.turn-turn.result c.requires.line c.turn-turn.ensures.line c.turn-turn.ensures.ended (λ h. ap (seen g.K.Kernel.done g.K.Kernel.faults g.C.Console.coming g.C.Console.said g.C.Console.faults g.F.Files.content g.F.Files.faults) (c.turn-turn.ensures.idle h).0) c.in_default.not-Memory;
  asks = c.turn-turn.ensures.asked.orders_same ∙ c.requires.asks;
  ring = c.turn-turn.ensures.same.0.0;
  ended = ended_by c.args.core.now.status.ended c.turn-turn.new.self.status.ended c.turn-turn.result c.turn-turn.ensures.ended (λ h. ap (λ st. st.ended) (c.turn-turn.ensures.did_not h).status_is);
  stays = stays_ended c.args.core.now.status.ended c.turn-turn.new.self.status.ended c.turn-turn.result c.turn-turn.ensures.ended (λ h. ap (λ st. st.ended) (c.turn-turn.ensures.did_not h).status_is);
}
