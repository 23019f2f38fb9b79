use Rattle.std.proofs.Common.{take}
use Rattle.mv_machine.specs.Copies.{AreSameFrames}
use Rattle.mv_machine.proofs.copy.copy_frames.Given as goal

abbrev pub invariant-loop-frame : goal.invariant-loop-frame
invariant-loop-frame l = AreSameFrames (take l.frame-index l.frames) l.copies.items
