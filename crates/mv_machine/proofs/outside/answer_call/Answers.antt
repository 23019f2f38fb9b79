use Rattle.std.proofs.Common.{◌≡◌, ◌∙◌, ◌+◌, ◌-◌, ◌++◌, ◌≤◌, List, ap, refl, sym, subst, arith, length, drop}
use Rattle.std.specs.Prelude.{reverse}
use Rattle.std.specs.Vec.{with_item}
use mir.Val.{bool_byte}
use Rattle.std.proofs.lemmas.List.{nil_from_length}
use Rattle.mv_syntax.specs.declared.ops.ValType.{ValType}
use Rattle.mv_execution.specs.Instance.{program_of}
use Rattle.mv_execution.specs.Run.{param_count}
use Rattle.mv_frames.specs.declared.frame.Frame.{Frame}
use Rattle.mv_machine.specs.States.{values_of}
use Rattle.mv_machine.proofs.Newest.{Newest, newest}
use Rattle.mv_machine.proofs.FromOutside.{params-are, waiting-found, none-fine, arguments-held, place-kept, answered-calls, answered-fine, IsAnswer, answer-within, argument-count, result-count}
use Rattle.mv_machine.proofs.outside.answer_call.Goals as goal
use Rattle.mv_machine.proofs.outside.answer_call.Goals.{After-index_mut}

pub returns-then-calls-eq0-clause-fine : goal.returns-then-calls-eq0-clause-fine
returns-then-calls-eq0-clause-fine c =
    let s = c.args.state.now in
    none-fine c.args.module.now s c.args.x c.args.value c.requires.waits c.requires.fine c.requires.fits (nil_from_length s.frames.items (sym (c.len-calls.ensures ∙ s.frames.ok.0) ∙ c.if-calls-eq0.true))

-- the newest call, which has the arguments
caller : (c : After-index_mut) → Newest c.args.state.now.frames.items c.len-calls.result c.index_mut.result.now
caller c =
    let s = c.args.state.now in
    let n = c.len-calls.ensures ∙ s.frames.ok.0 in
    newest s.frames.items c.len-calls.result c.index_mut.result.now n (omega (arith, c.if-calls-eq0.false)) c.index_mut.ensures.value

count-is : (c : After-index_mut) → length c.slice-count.result.now ≡ param_count (program_of c.args.module.now) c.args.x
count-is c =
    let p = c.args.module.now in
    let t = c.function_type.result.now in
    ap (λ (l : List ValType). length l) c.slice-count.ensures ∙ sym (params-are p c.args.x t c.requires.fine.program (waiting-found p c.args.state.now c.args.x t c.requires.fine c.requires.waits c.function_type.ensures))

enough : (c : After-index_mut) → param_count (program_of c.args.module.now) c.args.x ≤ length c.index_mut.result.now.operands.items
enough c = arguments-held c.args.module.now c.args.state.now c.args.x c.len-calls.result c.index_mut.result.now c.requires.fine c.requires.waits (caller c)

pub answer_frame-requires-clause-within : goal.answer_frame-requires-clause-within
answer_frame-requires-clause-within c = omega (arith, count-is c, enough c, c.index_mut.result.now.operands.ok.0)

pub answer_frame-requires-clause-place : goal.answer_frame-requires-clause-place
answer_frame-requires-clause-place c =
    λ none. place-kept c.args.module.now c.args.state.now c.args.x c.len-calls.result c.index_mut.result.now c.requires.fine c.requires.waits (caller c) (sym (count-is c) ∙ none)

pub overflow_sub-state : goal.overflow_sub-state
overflow_sub-state c =
    let s = (goal.at.overflow_sub-state c).After-index_mut in
    let count = count-is s in
    let here = argument-count c.args.module.now c.args.state.now c.args.x c.len-calls.result c.index_mut.result.now c.requires.fine c.requires.waits (caller s) in
    omega (arith, count, here)

-- the call with its result
answer : (c : After-index_mut) (g : Frame) → g ≡ record c.index_mut.result.now { operands = g.operands } → reverse g.operands.items ≡ values_of c.args.value ++ drop (length c.slice-count.result.now) (reverse c.index_mut.result.now.operands.items) → IsAnswer (param_count (program_of c.args.module.now) c.args.x) c.args.value c.index_mut.result.now g
answer c g rest ops =
    record { rest = rest; operands = subst (λ n. reverse g.operands.items ≡ values_of c.args.value ++ drop n (reverse c.index_mut.result.now.operands.items)) (count-is c) ops }

pub returns-clause-answered : goal.returns-clause-answered
returns-clause-answered c =
    let i = (goal.at.returns-clause-answered c).After-index_mut in
    let s = c.args.state.now in
    let g = c.answer_frame.new.frame in
    let new = record s { frames = with_item s.frames (c.len-calls.result - 1) g } in
    answered-calls c.args.module.now s new c.args.x c.len-calls.result c.index_mut.result.now g c.args.value c.requires.waits (caller i) (answer i g c.answer_frame.ensures.rest c.answer_frame.ensures.answered) refl (s.operands - length c.slice-count.result.now + c.from.result)

pub returns-clause-fine : goal.returns-clause-fine
returns-clause-fine c =
    let i = (goal.at.returns-clause-fine c).After-index_mut in
    let p = c.args.module.now in
    let s = c.args.state.now in
    let g = c.answer_frame.new.frame in
    let new = record s { frames = with_item s.frames (c.len-calls.result - 1) g } in
    let here = argument-count p s c.args.x c.len-calls.result c.index_mut.result.now c.requires.fine c.requires.waits (caller i) in
    let m : s.operands - length c.slice-count.result.now + c.from.result ≡ s.operands - param_count (program_of p) c.args.x + length (values_of c.args.value) = omega (arith, count-is i, result-count c.args.value c.from.result (c.from.ensures ∙ ap bool_byte c.is_some.ensures)) in
    answered-fine p s new c.args.x c.len-calls.result c.index_mut.result.now g c.args.value c.requires.waits (caller i) (answer i g c.answer_frame.ensures.rest c.answer_frame.ensures.answered) refl c.requires.fine c.requires.fits (s.operands - length c.slice-count.result.now + c.from.result) m (omega (arith, m, answer-within p s c.args.x c.len-calls.result c.index_mut.result.now c.args.value c.requires.fine c.requires.waits (caller i) c.requires.fits here))
