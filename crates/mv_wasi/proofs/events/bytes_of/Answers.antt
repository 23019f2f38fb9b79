use Rattle.std.proofs.Common.{arith}
use Rattle.mv_calls.specs.declared.happenings.Happened.{Happened}
use Rattle.mv_wasi.proofs.EventBytes.{events-more, events-all, subs-first}
use Rattle.mv_wasi.proofs.events.bytes_of.Goals as goal

pub loop-event-preserved : goal.loop-event-preserved
loop-event-preserved c =
    let none : Happened = record { sub = 0; error = 0; nbytes = 0; flags = 0 } in
    record {
      len = omega (arith, c.push_event.ensures.len, c.loop-event.invariant.len);
      within = (subs-first c.args.memory.now.bytes c.args.subs c.loop-event.event-index c.args.happened.now none (omega arith) c.loop-event.invariant.within).1;
      whole = events-more c.args.memory.now.bytes c.args.subs c.loop-event.event-index c.args.happened.now none c.loop-event.bytes.items c.push_event.new.bytes.items _ (omega arith) c.push_event.ensures.bytes c.loop-event.invariant.whole;
    }

pub returns-clause-bytes : goal.returns-clause-bytes
returns-clause-bytes c = events-all c.args.memory.now.bytes c.args.subs c.loop-event.event-index c.args.happened.now c.loop-event.bytes.items _ (omega arith) c.loop-event.invariant.whole
