use Rattle.std.proofs.Common.{◌∙◌, sym, arith, subst}
use Rattle.mv_execution.specs.Rows.{CameTo}
use Rattle.std.specs.Prelude.{IfOk}
use Rattle.mv_frames.specs.Frames.{frame_of}
use Rattle.mv_frames.specs.Stores.{store_of}
use Rattle.mv_frames.proofs.Advances.{at-within}
use Rattle.mv_frames.proofs.Plain.{going-top, begins-some, behind-plain, acts-of}
use Rattle.mv_frames.proofs.step.advance.Goals as goal

pub offset_bounds-code-frame : goal.offset_bounds-code-frame
offset_bounds-code-frame c =
    omega (arith, at-within c.args.code.now c.args.frame.now (going-top c.args.code.now c.args.frame.now (store_of c.args.store.now) c.requires.placed c.requires.runs))

pub bounds-code-frame : goal.bounds-code-frame
bounds-code-frame c = at-within c.args.code.now c.args.frame.now (going-top c.args.code.now c.args.frame.now (store_of c.args.store.now) c.requires.placed c.requires.runs)

pub begin_block-requires-clause-runs : goal.begin_block-requires-clause-runs
begin_block-requires-clause-runs c =
    begins-some c.args.code.now c.args.frame.now c.index-code-frame.result (store_of c.args.store.now) c.requires.placed c.index-code-frame.is (sym c.is_block_start.ensures ∙ c.if-is_block_start.true) c.requires.runs

pub advance_plain-requires-clause-within : goal.advance_plain-requires-clause-within
advance_plain-requires-clause-within c = at-within c.args.code.now c.args.frame.now (going-top c.args.code.now c.args.frame.now (store_of c.args.store.now) c.requires.placed c.requires.runs)

pub advance_plain-requires-clause-behind : goal.advance_plain-requires-clause-behind
advance_plain-requires-clause-behind c =
    (behind-plain c.args.code.now c.args.frame.now c.index-code-frame.result (store_of c.args.store.now) c.requires.placed c.index-code-frame.is (sym c.is_block_start.ensures ∙ c.if-is_block_start.false) c.requires.runs).placed

pub advance_plain-requires-clause-runs : goal.advance_plain-requires-clause-runs
advance_plain-requires-clause-runs c =
    (behind-plain c.args.code.now c.args.frame.now c.index-code-frame.result (store_of c.args.store.now) c.requires.placed c.index-code-frame.is (sym c.is_block_start.ensures ∙ c.if-is_block_start.false) c.requires.runs).runs

pub advance_plain-requires-clause-acts : goal.advance_plain-requires-clause-acts
advance_plain-requires-clause-acts c =
    let b = behind-plain c.args.code.now c.args.frame.now c.index-code-frame.result (store_of c.args.store.now) c.requires.placed c.index-code-frame.is (sym c.is_block_start.ensures ∙ c.if-is_block_start.false) c.requires.runs in
    acts-of c.index-code-frame.result (store_of c.args.store.now) _ b.is_plain b.runs

pub returns-clause-ok : goal.returns-clause-ok
returns-clause-ok c =
    let b = behind-plain c.args.code.now c.args.frame.now c.index-code-frame.result (store_of c.args.store.now) c.requires.placed c.index-code-frame.is (sym c.is_block_start.ensures ∙ c.if-is_block_start.false) c.requires.runs in
    subst (λ x. IfOk c.advance_plain.result (λ trap. CameTo trap x (store_of c.args.store.now, frame_of c.args.code.now c.args.frame.now) (store_of c.advance_plain.new.store, frame_of c.args.code.now c.advance_plain.new.frame))) (sym b.row) c.advance_plain.ensures.ok
