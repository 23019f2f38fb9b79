use Rattle.mv_machine.proofs.SameCalls.{same-more}
use Rattle.mv_machine.proofs.copy.copy_frames.Goals as goal

pub loop-frame-preserved : goal.loop-frame-preserved
loop-frame-preserved c = same-more c.args.frames.now c.loop-frame.copies.items c.push.new.self.items c.loop-frame.frame-index c.frame-item.result c.in_ok-copy_frame.field-0 c.loop-frame.invariant c.loop-frame-test.true c.frame-item.is c.in_ok-copy_frame.ensures c.in_ok-push.ensures.items
