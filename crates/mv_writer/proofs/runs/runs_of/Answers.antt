use Rattle.std.proofs.Common.{sym, ◌∙◌, arith}
use Rattle.mv_writer.proofs.Pending.{rising_step, same_kept, other_kept}
use Rattle.mv_writer.proofs.runs.runs_of.Goals as goal
use Rattle.mv_writer.proofs.runs.runs_of.Goals.{then-same_type, else-same_type+in_ok-push_run}

pub loop-run-preserved : goal.loop-run-preserved
loop-run-preserved c =
    let kept = c.runs-run-items.result.now in
    let i = c.loop-run.run-index in
    let front = c.loop-run.runs.items in
    let start = c.loop-run.start in
    let n = c.loop-run.count in
    let t = c.loop-run.vtype in
    let up = rising_step kept i _ (omega arith) start c.loop-run.invariant.1 in
    elim c.if-same_type.branch [
      | then-same_type w ↦ (omega arith, up.1, rw (w.runs-is, w.count-is, w.vtype-is) (same_kept kept i _ (omega arith) front start n t _ (sym c.same_type.ensures ∙ w.if-same_type.true) c.loop-run.invariant.2))
      | else-same_type+in_ok-push_run w ↦ (omega arith, up.1, rw (w.runs-is, w.count-is, w.vtype-is, w.in_ok-push_run.ensures) (other_kept kept i _ (omega arith) front start n t _ up.0 (sym c.same_type.ensures ∙ w.if-same_type.false) c.loop-run.invariant.2))
    ]
