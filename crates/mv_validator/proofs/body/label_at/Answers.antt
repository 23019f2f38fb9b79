use Rattle.std.proofs.Common.{◌∙◌, ap, sym, arith, Some, ◌<◌}
use Rattle.mv_validator.specs.Views.{frame_of}
use Rattle.mv_validator.proofs.Flat.{label-at, label-none}
use Rattle.mv_validator.proofs.body.label_at.Goals as goal

pub returns-then-n-outer : goal.returns-then-n-outer
returns-then-n-outer c =
    let some : 0 < c.args.n = omega arith in
    ap Some c.label_of-then-n-outer.ensures ∙ sym (label-at (frame_of c.args.frame.now) c.args.outer.now c.args.n c.index-outer-outer.result some c.if-n-outer.true c.index-outer-outer.is)

pub returns-else-n-outer : goal.returns-else-n-outer
returns-else-n-outer c =
    let some : 0 < c.args.n = omega arith in
    sym (label-none (frame_of c.args.frame.now) c.args.outer.now c.args.n some c.if-n-outer.false)
