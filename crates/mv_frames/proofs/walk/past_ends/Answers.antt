use Rattle.std.proofs.Common.{arith, ◌∙◌, ap, sym, Some}
use Rattle.mv_syntax.proofs.TreeLaws.{walk_step, depth-below}
use Rattle.mv_frames.proofs.walk.past_ends.Goals as goal

pub depth_after-depth-requires-clause-below : goal.depth_after-depth-requires-clause-below
depth_after-depth-requires-clause-below c =
    let i = c.loop-depth.invariant in
    omega (arith, depth-below c.args.code.now c.loop-depth.at c.loop-depth.depth i.0 i.1 i.2)

pub loop-depth-preserved : goal.loop-depth-preserved
loop-depth-preserved c =
    let i = c.loop-depth.invariant in
    let s = walk_step c.args.code.now c.loop-depth.at c.loop-depth.depth c.index-code-at.result i.0 c.index-code-at.is i.1 c.loop-depth-test.true i.2 in
    (s.0, s.1, rw c.depth_after-depth.ensures s.2, rw c.depth_after-depth.ensures (i.3 ∙ ap Some (sym s.3)))
