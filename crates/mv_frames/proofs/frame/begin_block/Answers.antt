use Rattle.std.proofs.Common.{◌≡◌, ◌∙◌, ap, sym, arith, length, reverse, Some, None, false, subst, ◌+◌, refl}
use Rattle.std.specs.Prelude.{is_some, OnOk}
use Rattle.std.proofs.lemmas.Option.{slice_get-get_or}
use Rattle.mv_syntax.specs.declared.instr.Instr.TheVariants.{Block, Loop}
use Rattle.mv_frames.specs.declared.frame.Label.{Label}
use Rattle.mv_frames.specs.Blocks.{began_block}
use Rattle.mv_frames.specs.Frames.{frame_of, IsPlaced}
use Rattle.mv_frames.proofs.Advances.{advanced-top, at-within, reads-as, enter-block, enter-loop, enter-done, begins-none, Enters}
use Rattle.mv_frames.proofs.frame.begin_block.Goals as goal
use Rattle.mv_frames.proofs.frame.begin_block.Goals.{After-enter, After-enter-in-Loop}

pub offset_bounds-code-at : goal.offset_bounds-code-at
offset_bounds-code-at c =
    omega (arith, at-within c.args.code.now c.args.frame.now (advanced-top c.args.code.now c.args.frame.now c.requires.placed c.requires.runs))

pub bounds-code-at : goal.bounds-code-at
bounds-code-at c = at-within c.args.code.now c.args.frame.now (advanced-top c.args.code.now c.args.frame.now c.requires.placed c.requires.runs)

pub overflow_add-next : goal.overflow_add-next
overflow_add-next c =
    omega (arith, at-within c.args.code.now c.args.frame.now (advanced-top c.args.code.now c.args.frame.now c.requires.placed c.requires.runs))

pub enter_if-requires-clause-here : goal.enter_if-requires-clause-here
enter_if-requires-clause-here c =
    let lt = at-within c.args.code.now c.args.frame.now (advanced-top c.args.code.now c.args.frame.now c.requires.placed c.requires.runs) in
    (c.in-If.result, slice_get-get_or c.args.code.now c.args.frame.now.at c.index-code-at.result lt ∙ ap Some (sym c.index-code-at.is ∙ c.in-If.is), c.is_some-in-If.ensures)

pub unreachable-requires : goal.unreachable-requires
unreachable-requires c =
    let t = advanced-top c.args.code.now c.args.frame.now c.requires.placed c.requires.runs in
    begins-none c.args.code.now c.args.frame.now c.index-code-at.result t c.index-code-at.is c.requires.runs c.in_default.not-Block c.in_default.not-Loop c.in_default.not-If

block-done : (c : After-enter) → OnOk c.enter.result (began_block (frame_of c.args.code.now c.args.frame.now) ≡ Some (frame_of c.args.code.now c.enter.new.frame)) × IsPlaced c.args.code.now c.enter.new.frame
block-done c =
    let code = c.args.code.now in
    let f = c.args.frame.now in
    let t = advanced-top code f c.requires.placed c.requires.runs in
    let e = enter-block code f c.in-Block.result t (reads-as code f.at c.index-code-at.result (Block c.in-Block.result) c.index-code-at.is c.in-Block.is) in
    let n : length f.operands.items ≡ c.len.result = sym (c.len.ensures ∙ f.operands.ok.0) in
    let l : record { carries = is_some c.in-Block.result; height = length f.operands.items; start = None } ≡ record { carries = c.is_some.result; height = c.len.result; start = None } = rw (n, c.is_some.ensures) refl in
    enter-done code f c.enter.new.frame (f.at + 1) _ c.enter.result c.requires.placed (subst (λ (x : Label). Enters code f (f.at + 1) x (reverse f.operands.items)) l e) c.enter.ensures.ok c.enter.ensures.err

pub returns-in-Block-clause-ok : goal.returns-in-Block-clause-ok
returns-in-Block-clause-ok c = (block-done c).0

pub returns-in-Block-clause-placed : goal.returns-in-Block-clause-placed
returns-in-Block-clause-placed c = (block-done c).1

loop-done : (c : After-enter-in-Loop) → OnOk c.enter-in-Loop.result (began_block (frame_of c.args.code.now c.args.frame.now) ≡ Some (frame_of c.args.code.now c.enter-in-Loop.new.frame)) × IsPlaced c.args.code.now c.enter-in-Loop.new.frame
loop-done c =
    let code = c.args.code.now in
    let f = c.args.frame.now in
    let t = advanced-top code f c.requires.placed c.requires.runs in
    let e = enter-loop code f c.in-Loop.field-0 t (reads-as code f.at c.index-code-at.result (Loop c.in-Loop.field-0) c.index-code-at.is c.in-Loop.is) in
    let n : length f.operands.items ≡ c.len-in-Loop.result = sym (c.len-in-Loop.ensures ∙ f.operands.ok.0) in
    let l : record { carries = false; height = length f.operands.items; start = Some (f.at + 1) } ≡ record { carries = false; height = c.len-in-Loop.result; start = Some (f.at + 1) } = rw n refl in
    enter-done code f c.enter-in-Loop.new.frame (f.at + 1) _ c.enter-in-Loop.result c.requires.placed (subst (λ (x : Label). Enters code f (f.at + 1) x (reverse f.operands.items)) l e) c.enter-in-Loop.ensures.ok c.enter-in-Loop.ensures.err

pub returns-in-Loop-clause-ok : goal.returns-in-Loop-clause-ok
returns-in-Loop-clause-ok c = (loop-done c).0

pub returns-in-Loop-clause-placed : goal.returns-in-Loop-clause-placed
returns-in-Loop-clause-placed c = (loop-done c).1
