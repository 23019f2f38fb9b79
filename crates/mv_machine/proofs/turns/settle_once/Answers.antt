use Rattle.std.proofs.Common.{◌≡◌, ◌∙◌, ◌<◌, List, sym, ap, arith, length, get_or}
use Rattle.std.proofs.lemmas.Bool.{eqb-false}
use Rattle.std.specs.Prelude.{vec_len}
use Rattle.mv_syntax.specs.Sections.{Parts}
use Rattle.mv_syntax.specs.declared.module.Func.{Func}
use Rattle.mv_syntax.specs.declared.instr.Instr.{Instr}
use Rattle.mv_frames.proofs.Advances.{at-within}
use Rattle.mv_machine.specs.States.{code_at, config_of}
use Rattle.mv_machine.proofs.Newest.{Newest, newest, newest-placed, code-get}
use Rattle.mv_machine.proofs.Settles.{top-newest, newest-closes, newest-ready, nothing-given, closed-settles, returned-settles}
use Rattle.mv_machine.proofs.turns.settle_once.Goals as goal
use Rattle.mv_machine.proofs.turns.settle_once.Goals.{After-index-newest, Else-is_empty-2, After-slice-2, After-is_list_end}

-- the newest call
call : (c : After-index-newest) → Newest c.args.state.now.frames.items c.len.result c.index-newest.result.now
call c =
    let some = eqb-false (vec_len c.args.state.now.frames) 0 (sym c.is_empty.ensures ∙ c.if-is_empty.false) in
    newest c.args.state.now.frames.items c.len.result c.index-newest.result.now (c.len.ensures ∙ c.args.state.now.frames.ok.0) (omega (arith, some, c.len.ensures)) c.index-newest.ensures

-- it has open blocks
labels : (c : Else-is_empty-2) → 0 < length c.index-newest.result.now.labels.items
labels c =
    let some = eqb-false (vec_len c.index-newest.result.now.labels) 0 (sym c.is_empty-2.ensures ∙ c.if-is_empty-2.false) in
    omega (arith, some, c.index-newest.result.now.labels.ok.0)

-- the code that is read is the newest call's
code : (c : After-slice-2) → Newest c.args.state.now.frames.items c.len.result c.index-newest.result.now → c.slice-2.result.now ≡ code_at c.args.module.now.funcs c.index-newest.result.now.func
code c t =
    let f = c.index-newest.result.now in
    let placed = newest-placed c.args.module.now.funcs c.args.state.now.frames.items c.len.result f t c.requires.fine.placed in
    c.slice-2.ensures ∙ ap (λ (l : List Func). (get_or l f.func c.index-slice-newest.result).code) (c.slice.ensures ∙ ap (λ (p : Parts). p.funcs) c.module.view_is) ∙ code-get c.args.module.now.funcs f.func c.index-slice-newest.result placed.0

within : (c : After-slice-2) → Newest c.args.state.now.frames.items c.len.result c.index-newest.result.now → 0 < length c.index-newest.result.now.labels.items → c.index-newest.result.now.at < length c.slice-2.result.now
within c t some =
    let f = c.index-newest.result.now in
    let k = top-newest c.args.module.now c.args.state.now c.len.result f t c.requires.fine some in
    omega (arith, at-within (code_at c.args.module.now.funcs f.func) f k, ap (λ (l : List Instr). length l) (code c t))

-- the instruction that is read
here : (c : After-is_list_end) → c.slice-2.result.now ≡ code_at c.args.module.now.funcs c.index-newest.result.now.func → c.index-slice-newest-2.result ≡ get_or (code_at c.args.module.now.funcs c.index-newest.result.now.func) c.index-newest.result.now.at c.index-slice-newest-2.result
here c e = c.index-slice-newest-2.is ∙ ap (λ l. get_or l c.index-newest.result.now.at c.index-slice-newest-2.result) e

pub returns-then-is_empty-2-clause-same : goal.returns-then-is_empty-2-clause-same
returns-then-is_empty-2-clause-same c =
    let s = goal.at.returns-then-is_empty-2-clause-same c in
    let none = nothing-given c.args.module.now c.args.state.now c.len.result c.index-newest.result.now (call s.After-index-newest) c.requires.fine in
    returned-settles (config_of c.args.module.now c.args.state.now) (config_of c.args.module.now c.leave_call.new.state) c.in_default.is none c.in_ok-leave_call.ensures.ok

pub offset_bounds-slice-newest-2 : goal.offset_bounds-slice-newest-2
offset_bounds-slice-newest-2 c =
    let s = goal.at.offset_bounds-slice-newest-2 c in
    let lt = within c (call s.After-index-newest) (labels s.Else-is_empty-2) in
    omega (arith, c.slice-2.type_inv)

pub bounds-slice-newest-2 : goal.bounds-slice-newest-2
bounds-slice-newest-2 c =
    let s = goal.at.bounds-slice-newest-2 c in
    within c (call s.After-index-newest) (labels s.Else-is_empty-2)

pub close_block-requires-clause-ends : goal.close_block-requires-clause-ends
close_block-requires-clause-ends c =
    let s = goal.at.close_block-requires-clause-ends c in
    let t = call s.After-index-newest in
    newest-closes c.args.module.now c.args.state.now c.len.result c.index-newest.result.now t c.requires.fine (labels s.Else-is_empty-2) c.index-slice-newest-2.result (here s.After-is_list_end (code s.After-slice-2 t)) (sym c.is_list_end.ensures ∙ c.if-is_list_end.true)

pub returns-then-is_list_end-clause-same : goal.returns-then-is_list_end-clause-same
returns-then-is_list_end-clause-same c =
    closed-settles (config_of c.args.module.now c.args.state.now) (config_of c.args.module.now c.close_block.new.state) c.in_default.is c.close_block.ensures.closes

pub returns-clause-turn : goal.returns-clause-turn
returns-clause-turn c =
    let s = goal.at.returns-clause-turn c in
    let t = call s.After-index-newest in
    newest-ready c.args.module.now c.args.state.now c.len.result c.index-newest.result.now t c.requires.fine c.in_default.is (labels s.Else-is_empty-2) c.index-slice-newest-2.result (here s.After-is_list_end (code s.After-slice-2 t)) (sym c.is_list_end.ensures ∙ c.if-is_list_end.false)
