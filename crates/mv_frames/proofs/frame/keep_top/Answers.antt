use Rattle.std.proofs.Common.{arith, ◌∙◌, ◌≡◌, ◌+◌, ◌≤◌, vec_len, length}
use Rattle.mv_frames.proofs.Lists.{reverse-kept, reverse-take}
use Rattle.mv_frames.proofs.frame.keep_top.Goals as goal

pub returns-then-carries : goal.returns-then-carries
returns-then-carries c =
    let l : c.len.result ≡ length c.args.operands.now.items = c.len.ensures ∙ c.args.operands.now.ok.0 in
    let top = rw l at c.index-top.ensures in
    let le : c.args.height + 1 ≤ vec_len c.args.operands.now = rw c.if-carries.true at c.requires in
    rw (c.truncate.ensures.items, c.if-carries.true, c.args.operands.now.ok.0) (reverse-kept c.args.operands.now.items c.args.height c.index-top.result.now top (omega (arith, le, c.args.operands.now.ok.0)))

pub returns-else-carries : goal.returns-else-carries
returns-else-carries c = rw (c.truncate-else-carries.ensures.items, c.if-carries.false, c.args.operands.now.ok.0) (reverse-take c.args.height c.args.operands.now.items)
