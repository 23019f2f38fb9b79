use Rattle.std.proofs.Common.{◌∙◌, sym, subst, arith}
use Rattle.mv_wasi.specs.Known.{AreKnown}
use Rattle.mv_guest.proofs.Meets.{some-of, none-of, fewer-of}
use Rattle.mv_guest.proofs.advance.next_event.Goals as goal

pub returns-in-Some-clause-event : goal.returns-in-Some-clause-event
returns-in-Some-clause-event c =
    (some-of c.args.machine.now.parts c.loop-event.machine.parts c.args.args.now c.args.machine.now.config c.loop-event.machine.config c.advance.new.machine.config c.in_ok-event.event c.in-Some.event c.loop-event.invariant.parts c.loop-event.invariant.same c.in_ok-event.ensures.advanced c.in-Some.is).0

pub returns-in-Some-clause-there : goal.returns-in-Some-clause-there
returns-in-Some-clause-there c =
    (some-of c.args.machine.now.parts c.loop-event.machine.parts c.args.args.now c.args.machine.now.config c.loop-event.machine.config c.advance.new.machine.config c.in_ok-event.event c.in-Some.event c.loop-event.invariant.parts c.loop-event.invariant.same c.in_ok-event.ensures.advanced c.in-Some.is).1

pub returns-in-Some-clause-again : goal.returns-in-Some-clause-again
returns-in-Some-clause-again c =
    (some-of c.args.machine.now.parts c.loop-event.machine.parts c.args.args.now c.args.machine.now.config c.loop-event.machine.config c.advance.new.machine.config c.in_ok-event.event c.in-Some.event c.loop-event.invariant.parts c.loop-event.invariant.same c.in_ok-event.ensures.advanced c.in-Some.is).2

pub loop-event-smaller : goal.loop-event-smaller
loop-event-smaller c =
    let h = fewer-of c.loop-event.machine.parts c.args.args.now c.loop-event.machine.config c.advance.new.machine.config c.in_ok-event.event c.in_ok-event.ensures.advanced c.in-None.is in
    omega (arith, h)

pub loop-event-preserved : goal.loop-event-preserved
loop-event-preserved c = record {
  same = none-of c.args.machine.now.parts c.loop-event.machine.parts c.args.args.now c.args.machine.now.config c.loop-event.machine.config c.advance.new.machine.config c.in_ok-event.event c.loop-event.invariant.parts c.loop-event.invariant.same c.in_ok-event.ensures.advanced c.in-None.is;
  parts = c.in_ok-event.ensures.parts ∙ c.loop-event.invariant.parts;
  known = subst AreKnown (sym c.in_ok-event.ensures.parts) c.loop-event.invariant.known;
}
