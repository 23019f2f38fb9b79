use Rattle.std.proofs.Common.{true, ◌≡◌, ◌∙◌, ◌<◌, ◌≤◌, List, ap, arith, length, get_or}
use Rattle.mv_syntax.specs.Sections.{Parts}
use Rattle.mv_syntax.specs.declared.module.Func.{Func}
use Rattle.mv_syntax.specs.declared.instr.Instr.{Instr}
use Rattle.mv_syntax.specs.declared.instr.Instr.TheVariants.{CallIndirect}
use Rattle.mv_syntax.specs.Expressions.{is_plain}
use Rattle.mv_machine.specs.States.{code_at, config_of}
use Rattle.mv_machine.specs.Calls.{calls_nothing}
use Rattle.mv_machine.proofs.Newest.{Newest, newest, newest-placed, code-get}
use Rattle.mv_machine.proofs.Executes.{ready-some, in-code, is-at, call-step, call-going, call-there, call-comes, nothing-called}
use Rattle.mv_machine.proofs.run.execute.Goals as goal
use Rattle.mv_machine.proofs.run.execute.Goals.{After-index-newest, After-slice-2, After-index-slice-newest-2}

-- the newest call
call : (c : After-index-newest) → Newest c.args.state.now.frames.items c.len.result c.index-newest.result.now
call c = newest c.args.state.now.frames.items c.len.result c.index-newest.result.now (c.len.ensures ∙ c.args.state.now.frames.ok.0) (omega (arith, c.len.ensures, c.args.state.now.frames.ok.0, ready-some c.args.module.now c.args.state.now c.requires.ready)) c.index-newest.ensures

-- the code that is read is the newest call's
code : (c : After-slice-2) → Newest c.args.state.now.frames.items c.len.result c.index-newest.result.now → c.slice-2.result.now ≡ code_at c.args.module.now.funcs c.index-newest.result.now.func
code c t =
    let f = c.index-newest.result.now in
    let placed = newest-placed c.args.module.now.funcs c.args.state.now.frames.items c.len.result f t c.requires.fine.placed in
    c.slice-2.ensures ∙ ap (λ (l : List Func). (get_or l f.func c.index-slice-newest.result).code) (c.slice.ensures ∙ ap (λ (p : Parts). p.funcs) c.module.view_is) ∙ code-get c.args.module.now.funcs f.func c.index-slice-newest.result placed.0

within : (c : After-slice-2) → Newest c.args.state.now.frames.items c.len.result c.index-newest.result.now → c.index-newest.result.now.at < length c.slice-2.result.now
within c t =
    omega (arith, in-code c.args.module.now c.args.state.now c.len.result c.index-newest.result.now t c.requires.fine c.requires.ready, ap (λ (l : List Instr). length l) (code c t))

-- the instruction that is read
here : (c : After-index-slice-newest-2) → c.slice-2.result.now ≡ code_at c.args.module.now.funcs c.index-newest.result.now.func → c.index-slice-newest-2.result ≡ get_or (code_at c.args.module.now.funcs c.index-newest.result.now.func) c.index-newest.result.now.at c.index-slice-newest-2.result
here c e = c.index-slice-newest-2.is ∙ ap (λ l. get_or l c.index-newest.result.now.at c.index-slice-newest-2.result) e

pub offset_bounds-slice-newest-2 : goal.offset_bounds-slice-newest-2
offset_bounds-slice-newest-2 c =
    let lt = within c (call (goal.at.offset_bounds-slice-newest-2 c).After-index-newest) in
    omega (arith, c.slice-2.type_inv)

pub bounds-slice-newest-2 : goal.bounds-slice-newest-2
bounds-slice-newest-2 c = within c (call (goal.at.bounds-slice-newest-2 c).After-index-newest)

pub call_function-requires-clause-at : goal.call_function-requires-clause-at
call_function-requires-clause-at c =
    let s = goal.at.call_function-requires-clause-at c in
    let t = call s.After-index-newest in
    is-at c.args.module.now c.args.state.now c.len.result c.index-newest.result.now t c.requires.fine c.requires.ready (λ i f. (is_plain i ≡ true) × (0 ≤ length f.operands.items)) c.index-slice-newest-2.result (here s.After-index-slice-newest-2 (code s.After-slice-2 t)) (ap is_plain c.in-Call.is, omega arith)

pub call_function-requires-clause-there : goal.call_function-requires-clause-there
call_function-requires-clause-there c =
    let s = goal.at.call_function-requires-clause-there c in
    let t = call s.After-index-newest in
    call-there c.args.module.now c.args.state.now c.len.result c.index-newest.result.now t c.requires.fine c.requires.ready c.index-slice-newest-2.result (here s.After-index-slice-newest-2 (code s.After-slice-2 t)) c.in-Call.x c.in-Call.is

pub call_function-requires-clause-step : goal.call_function-requires-clause-step
call_function-requires-clause-step c =
    let s = goal.at.call_function-requires-clause-step c in
    let t = call s.After-index-newest in
    call-step c.args.module.now c.args.state.now c.len.result c.index-newest.result.now t c.requires.fine c.requires.ready c.index-slice-newest-2.result (here s.After-index-slice-newest-2 (code s.After-slice-2 t)) c.in-Call.x c.in-Call.is

pub call_function-requires-clause-going : goal.call_function-requires-clause-going
call_function-requires-clause-going c =
    let s = goal.at.call_function-requires-clause-going c in
    let t = call s.After-index-newest in
    call-going c.args.module.now c.args.state.now c.len.result c.index-newest.result.now t c.requires.fine c.requires.ready c.index-slice-newest-2.result (here s.After-index-slice-newest-2 (code s.After-slice-2 t)) c.in-Call.x c.in-Call.is

pub call_indirect-requires-clause-at : goal.call_indirect-requires-clause-at
call_indirect-requires-clause-at c =
    let s = goal.at.call_indirect-requires-clause-at c in
    let t = call s.After-index-newest in
    is-at c.args.module.now c.args.state.now c.len.result c.index-newest.result.now t c.requires.fine c.requires.ready (λ i f. i ≡ CallIndirect c.in-CallIndirect.y) c.index-slice-newest-2.result (here s.After-index-slice-newest-2 (code s.After-slice-2 t)) c.in-CallIndirect.is

pub advance_newest-requires : goal.advance_newest-requires
advance_newest-requires c =
    let s = goal.at.advance_newest-requires c in
    let t = call s.After-index-newest in
    record {
      valid = c.requires.valid;
      fine = c.requires.fine;
      ready = c.requires.ready;
      plain = is-at c.args.module.now c.args.state.now c.len.result c.index-newest.result.now t c.requires.fine c.requires.ready (λ i f. calls_nothing i ≡ true) c.index-slice-newest-2.result (here s.After-index-slice-newest-2 (code s.After-slice-2 t)) (nothing-called c.index-slice-newest-2.result c.in_default.not-Call c.in_default.not-CallIndirect);
    }

pub returns-in-Call-clause-ok : goal.returns-in-Call-clause-ok
returns-in-Call-clause-ok c =
    let s = goal.at.returns-in-Call-clause-ok c in
    let t = call s.After-index-newest in
    call-comes c.args.module.now c.args.state.now c.len.result c.index-newest.result.now t c.requires.fine c.requires.ready c.index-slice-newest-2.result (here s.After-index-slice-newest-2 (code s.After-slice-2 t)) c.in-Call.x c.in-Call.is (config_of c.args.module.now c.call_function.new.state) c.call_function.result c.call_function.ensures.ok
