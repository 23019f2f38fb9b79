use Rattle.std.proofs.Common.{◌≡◌, ◌∙◌, ◌-◌, get_or, sym, ap, arith, subst, refl}
use Rattle.std.specs.Prelude.{IsSome}
use Rattle.std.specs.Vec.{with_item}
use Rattle.mv_syntax.specs.Sections.{Parts}
use Rattle.mv_frames.specs.Blocks.{closed}
use Rattle.mv_frames.specs.Frames.{frame_of, IsPlaced}
use Rattle.mv_machine.specs.declared.state.State.{State}
use Rattle.mv_machine.specs.States.{code_at, config_of}
use Rattle.mv_machine.specs.Calls.{closed_in_newest}
use Rattle.mv_machine.proofs.Newest.{Newest, newest, code-get, newest-placed, open-written, some-calls}
use Rattle.mv_machine.proofs.Written.{Written}
use Rattle.mv_machine.proofs.Leaves.{newest-ends, closed-written, closed-fine}
use Rattle.mv_machine.proofs.calls.close_block.Goals as goal
use Rattle.mv_machine.proofs.calls.close_block.Goals.{After-slice-2}

-- the newest call, and its code
call : (c : After-slice-2) → Newest c.args.state.now.frames.items c.len-newest.result c.index_mut-frame.result.now
call c =
    let some = some-calls (λ x. IsSome (closed_in_newest (config_of c.args.module.now c.args.state.now) x)) (λ k. absurd (cc)) c.args.module.now.funcs c.args.state.now.frames.items c.requires.ends in
    let n = c.len-newest.ensures ∙ c.args.state.now.frames.ok.0 in
    newest c.args.state.now.frames.items c.len-newest.result c.index_mut-frame.result.now n (omega (arith, n, some)) c.index_mut-frame.ensures.value

code : (c : After-slice-2) → c.slice-2.result.now ≡ code_at c.args.module.now.funcs c.index_mut-frame.result.now.func
code c =
    let p = c.args.module.now in
    let f = c.index_mut-frame.result.now in
    let funcs = c.slice.ensures ∙ ap (λ (x : Parts). x.funcs) c.module.view_is in
    let there = (newest-placed p.funcs c.args.state.now.frames.items c.len-newest.result f (call c) c.requires.fine.placed).0 in
    c.slice-2.ensures ∙ ap (λ l. (get_or l f.func c.index-slice-frame.result).code) funcs ∙ code-get p.funcs f.func c.index-slice-frame.result there

pub close-requires-clause-placed : goal.close-requires-clause-placed
close-requires-clause-placed c =
    let s = (goal.at.close-requires-clause-placed c).After-slice-2 in
    subst (λ x. IsPlaced x c.index_mut-frame.result.now) (sym (code s)) (newest-placed c.args.module.now.funcs c.args.state.now.frames.items c.len-newest.result c.index_mut-frame.result.now (call s) c.requires.fine.placed).1

pub close-requires-clause-ends : goal.close-requires-clause-ends
close-requires-clause-ends c =
    let s = (goal.at.close-requires-clause-ends c).After-slice-2 in
    subst (λ x. IsSome (closed (frame_of x c.index_mut-frame.result.now))) (sym (code s)) (newest-ends c.args.module.now c.args.state.now c.len-newest.result c.index_mut-frame.result.now (call s) c.requires.ends)

pub returns-clause-closes : goal.returns-clause-closes
returns-clause-closes c =
    let s = (goal.at.returns-clause-closes c).After-slice-2 in
    let g = c.close.new.frame in
    let f = c.index_mut-frame.result.now in
    let new : State = record c.args.state.now { frames = with_item c.args.state.now.frames (c.len-newest.result - 1) g } in
    let w : Written c.args.state.now new c.len-newest.result g = record { frames = refl; waiting = refl; given = refl; gap = refl } in
    closed-written c.args.module.now c.args.state.now c.len-newest.result f (call s) new g w c.close.ensures.func refl (rw (← code s) c.close.ensures.closes)

pub returns-clause-fewer : goal.returns-clause-fewer
returns-clause-fewer c =
    let s = (goal.at.returns-clause-fewer c).After-slice-2 in
    open-written c.args.state.now.frames.items c.len-newest.result c.index_mut-frame.result.now (call s) c.close.new.frame (omega (arith, c.close.ensures.fewer, c.close.new.frame.labels.ok.0, c.index_mut-frame.result.now.labels.ok.0))

pub returns-clause-fine : goal.returns-clause-fine
returns-clause-fine c =
    let s = (goal.at.returns-clause-fine c).After-slice-2 in
    let g = c.close.new.frame in
    let f = c.index_mut-frame.result.now in
    let new : State = record c.args.state.now { frames = with_item c.args.state.now.frames (c.len-newest.result - 1) g } in
    let w : Written c.args.state.now new c.len-newest.result g = record { frames = refl; waiting = refl; given = refl; gap = refl } in
    let here = subst (λ x. IsPlaced x g) (code s) c.close.ensures.placed in
    closed-fine c.args.module.now c.args.state.now c.len-newest.result f (call s) new g w c.close.ensures.func refl (rw (← code s) c.close.ensures.closes) c.requires.fine c.requires.running refl here
