use Rattle.std.proofs.Common.{arith, ◌≡◌, ◌∙◌, ap, sym, Some, false}
use Rattle.mv_syntax.specs.Tree.{ends_list}
use Rattle.mv_syntax.proofs.TreeLaws.{list_step, depth-below}
use Rattle.mv_frames.proofs.walk.other_list.Goals as goal
use Rattle.mv_frames.proofs.walk.other_list.Goals.{else-inner-eq0-via-then-inner-eq0+else-is_list_end, else-inner-eq0-via-else-inner-eq0}

pub depth_after-inner-requires-clause-below : goal.depth_after-inner-requires-clause-below
depth_after-inner-requires-clause-below c =
    let i = c.loop-inner.invariant in
    omega (arith, depth-below c.args.code.now c.loop-inner.at c.loop-inner.inner i.0 i.1 (omega (arith, i.2)))

pub loop-inner-preserved : goal.loop-inner-preserved
loop-inner-preserved c =
    let i = c.loop-inner.invariant in
    let goes_on : c.loop-inner.inner ≡ 0 → ends_list c.index-code-at.result ≡ false = λ z. elim c.else-inner-eq0.branch [ else-inner-eq0-via-then-inner-eq0+else-is_list_end w ↦ cc | else-inner-eq0-via-else-inner-eq0 w ↦ absurd (omega arith) ] in
    let s = list_step c.args.code.now c.loop-inner.at c.loop-inner.inner c.index-code-at.result i.0 c.index-code-at.is i.1 i.2 goes_on in
    (s.0, s.1, rw c.depth_after-inner.ensures s.2, rw c.depth_after-inner.ensures (i.3 ∙ ap Some (sym s.3)))
