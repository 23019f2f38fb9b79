-- One subscription more.
use Rattle.std.proofs.Common.{rules}
use Rattle.mv_calls.specs.declared.subs.Sub.TheVariants as sub
use Rattle.mv_kernmem.proofs.ScriptLaws.{events_step}
use Rattle.mv_kernmem.proofs.scripted.Scripted.reply_to_poll.Goals as goal

pub loop-number-preserved : goal.loop-number-preserved
loop-number-preserved c = (
  events_step c.args.self.now c.args.subs.now c.loop-number.number (sub.Clock 0 0 0) c.loop-number.events.items c.add.new.events.items c.event_of.result
      c.loop-number-test.true c.loop-number.invariant.0 c.event_of.ensures c.add.ensures.items,
  search rules,
  search rules,
)
