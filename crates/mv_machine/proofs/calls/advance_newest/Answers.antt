use Rattle.std.proofs.Common.{◌≡◌, ◌∙◌, ◌+◌, ◌-◌, ◌<◌, ℕ, Option, Bool, true, false, length, get_or, refl, sym, ap, subst, arith}
use Rattle.mv_execution.specs.Rows.{IsGoing, CameTo}
use Rattle.std.specs.Vec.{with_item}
use Rattle.mv_calls.specs.declared.trap.Trap.{Trap}
use Rattle.mv_syntax.specs.declared.instr.Instr.{Instr}
use Rattle.mv_syntax.specs.Sections.{Parts}
use Rattle.mv_execution.specs.Config.{operand_limit}
use Rattle.mv_execution.specs.Instance.{program_of}
use Rattle.mv_execution.specs.Rises.{leaves_more}
use Rattle.mv_frames.specs.Blocks.{advanced_frame}
use Rattle.mv_frames.specs.Frames.{frame_of, IsPlaced}
use Rattle.mv_frames.specs.declared.frame.Frame.{Frame}
use Rattle.mv_frames.specs.declared.store.Store.{Store}
use Rattle.mv_frames.specs.Stores.{store_of}
use Rattle.mv_frames.proofs.Advances.{at-within}
use Rattle.mv_machine.specs.declared.state.State.{State}
use Rattle.mv_machine.specs.States.{code_at, config_of, IsFine}
use Rattle.mv_machine.specs.Turns.{AreReady, counted_step}
use Rattle.mv_machine.proofs.Newest.{Newest, newest, code-get, newest-placed, get_or-same, some-calls, on_err-always}
use Rattle.mv_machine.proofs.Written.{Written, same-config}
use Rattle.mv_machine.proofs.Moves.{Before, before, runs, full-traps, counted-on, counted-same, came, came-fine, same-fine}
use Rattle.mv_machine.proofs.calls.advance_newest.Goals as goal
use Rattle.mv_machine.proofs.calls.advance_newest.Goals.{After-slice-code, else-state-ge-OPERAND_LIMIT-via-then-state-ge-OPERAND_LIMIT+else-adds_operand, else-state-ge-OPERAND_LIMIT-via-else-state-ge-OPERAND_LIMIT}

-- the newest call, its code, and what it stands at
call : (c : After-slice-code) → Newest c.args.state.now.frames.items c.len-newest.result c.index_mut-frame.result.now
call c =
    let some = some-calls AreReady (λ k. k) c.args.module.now.funcs c.args.state.now.frames.items c.requires.ready.calls in
    let n = c.len-newest.ensures ∙ c.args.state.now.frames.ok.0 in
    newest c.args.state.now.frames.items c.len-newest.result c.index_mut-frame.result.now n (omega (arith, n, some)) c.index_mut-frame.ensures.value

code : (c : After-slice-code) → c.slice-code.result.now ≡ code_at c.args.module.now.funcs c.index_mut-frame.result.now.func
code c =
    let p = c.args.module.now in
    let f = c.index_mut-frame.result.now in
    let funcs = c.slice.ensures ∙ ap (λ (x : Parts). x.funcs) c.module.view_is in
    let there = (newest-placed p.funcs c.args.state.now.frames.items c.len-newest.result f (call c) c.requires.fine.placed).0 in
    c.slice-code.ensures ∙ ap (λ l. (get_or l f.func c.index-slice-frame.result).code) funcs ∙ code-get p.funcs f.func c.index-slice-frame.result there

stands : (c : After-slice-code) → Before c.args.module.now c.args.state.now c.index_mut-frame.result.now (call c).older
stands c = before c.args.module.now c.args.state.now c.len-newest.result c.index_mut-frame.result.now (call c) c.requires.fine c.requires.ready c.requires.plain

within : (c : After-slice-code) → c.index_mut-frame.result.now.at < length c.slice-code.result.now
within c = rw (code c) (at-within (code_at c.args.module.now.funcs c.index_mut-frame.result.now.func) c.index_mut-frame.result.now (stands c).top)

pub bounds-code-frame : goal.bounds-code-frame
bounds-code-frame c = within (goal.at.bounds-code-frame c).After-slice-code

pub offset_bounds-code-frame : goal.offset_bounds-code-frame
offset_bounds-code-frame c =
    let lt = within (goal.at.offset_bounds-code-frame c).After-slice-code in
    omega (arith, lt)

-- what was read is the instruction
read : (c : After-slice-code) (i : Instr) → i ≡ get_or c.slice-code.result.now c.index_mut-frame.result.now.at i → i ≡ (stands c).instr
read c i is =
    let f = c.index_mut-frame.result.now in
    let b = stands c in
    is ∙ get_or-same c.slice-code.result.now f.at i b.instr (within c) ∙ ap (λ l. get_or l f.at b.instr) (code c) ∙ sym b.is

pub returns-then-adds_operand-clause-ok : goal.returns-then-adds_operand-clause-ok
returns-then-adds_operand-clause-ok c =
    let s = (goal.at.returns-then-adds_operand-clause-ok c).After-slice-code in
    let f = c.index_mut-frame.result.now in
    let more = sym (ap leaves_more (read s c.index-code-frame.result c.index-code-frame.is)) ∙ sym c.adds_operand.ensures ∙ c.if-adds_operand.true in
    let w : Written c.args.state.now (record c.args.state.now { frames = with_item c.args.state.now.frames (c.len-newest.result - 1) f }) c.len-newest.result f = record { frames = refl; waiting = refl; given = refl; gap = refl } in
    (full-traps c.args.module.now c.args.state.now c.len-newest.result f (call s) c.requires.fine (stands s) c.if-state-ge-OPERAND_LIMIT.true more, same-config c.args.module.now c.args.state.now c.len-newest.result f (call s) (record c.args.state.now { frames = with_item c.args.state.now.frames (c.len-newest.result - 1) f }) f w refl refl refl)

pub advance-requires-clause-placed : goal.advance-requires-clause-placed
advance-requires-clause-placed c =
    let s = (goal.at.advance-requires-clause-placed c).After-slice-code in
    subst (λ x. IsPlaced x c.index_mut-frame.result.now) (sym (code s)) (newest-placed c.args.module.now.funcs c.args.state.now.frames.items c.len-newest.result c.index_mut-frame.result.now (call s) c.requires.fine.placed).1

pub advance-requires-clause-runs : goal.advance-requires-clause-runs
advance-requires-clause-runs c =
    let s = (goal.at.advance-requires-clause-runs c).After-slice-code in
    subst (λ x. IsGoing (advanced_frame (store_of c.args.state.now.store) (frame_of x c.index_mut-frame.result.now))) (sym (code s)) (runs c.args.module.now c.args.state.now c.len-newest.result c.index_mut-frame.result.now (call s) c.requires.fine (stands s))

-- the state with this store and newest call, and so many operands
abbrev moved : After-slice-code → Store → Frame → ℕ → State
moved c store g k = record c.args.state.now { store = store; frames = with_item c.args.state.now.frames (c.len-newest.result - 1) g; operands = k }

module _ (c : After-slice-code) (store : Store) (g : Frame) (func : g.func ≡ c.index_mut-frame.result.now.func) (placed : IsPlaced c.slice-code.result.now g) where
  -- all is as before
  stays : (store_of store ≡ store_of c.args.state.now.store) × (frame_of c.slice-code.result.now g ≡ frame_of c.slice-code.result.now c.index_mut-frame.result.now) → (config_of c.args.module.now (moved c store g c.args.state.now.operands) ≡ config_of c.args.module.now c.args.state.now) × IsFine c.args.module.now (moved c store g c.args.state.now.operands)
  stays e =
      let p = c.args.module.now in
      let s = c.args.state.now in
      let n = c.len-newest.result in
      let f = c.index_mut-frame.result.now in
      let new = moved c store g s.operands in
      let w : Written s new n g = record { frames = refl; waiting = refl; given = refl; gap = refl } in
      let here = subst (λ x. IsPlaced x g) (code c) placed in
      let same : frame_of (code_at p.funcs f.func) g ≡ frame_of (code_at p.funcs f.func) f = subst (λ x. frame_of x g ≡ frame_of x f) (code c) e.1 in
      let counted = counted-same p s n f (call c) c.requires.fine (stands c) g same in
      (same-config p s n f (call c) new g w func e.0 same, same-fine p s n f (call c) c.requires.fine (stands c) c.requires.ready.waiting new g w func here counted e.0 same)

  -- the instruction went on, or it trapped
  ends : (k : ℕ) (o : Option Trap) → CameTo o (advanced_frame (store_of c.args.state.now.store) (frame_of c.slice-code.result.now c.index_mut-frame.result.now)) (store_of c.args.state.now.store, frame_of c.slice-code.result.now c.index_mut-frame.result.now) (store_of store, frame_of c.slice-code.result.now g) → k ≡ c.args.state.now.operands - length c.index_mut-frame.result.now.operands.items + length g.operands.items → (leaves_more (stands c).instr ≡ true → c.args.state.now.operands < operand_limit) → CameTo o (counted_step (program_of c.args.module.now) (config_of c.args.module.now c.args.state.now)) (config_of c.args.module.now c.args.state.now) (config_of c.args.module.now (moved c store g k)) × IsFine c.args.module.now (moved c store g k)
  ends k o e is room =
      let p = c.args.module.now in
      let s = c.args.state.now in
      let n = c.len-newest.result in
      let f = c.index_mut-frame.result.now in
      let new = moved c store g k in
      let w : Written s new n g = record { frames = refl; waiting = refl; given = refl; gap = refl } in
      let here = subst (λ x. IsPlaced x g) (code c) placed in
      let there = subst (λ x. CameTo o (advanced_frame (store_of s.store) (frame_of x f)) (store_of s.store, frame_of x f) (store_of store, frame_of x g)) (code c) e in
      let counted = counted-on p s n f (call c) c.requires.fine (stands c) g k is in
      (came p s n f (call c) c.requires.fine (stands c) c.requires.ready.waiting new g w func here counted o there room, came-fine p s n f (call c) c.requires.fine (stands c) c.requires.ready.waiting new g w func here counted o there room)

-- an instruction that leaves no more needs no room
no-more : (c : After-slice-code) (i : Instr) (added : Bool) → i ≡ get_or c.slice-code.result.now c.index_mut-frame.result.now.at i → added ≡ leaves_more i → added ≡ false → leaves_more (stands c).instr ≡ true → c.args.state.now.operands < operand_limit
no-more c i added is e none more =
    let bad : true ≡ false = sym more ∙ sym (ap leaves_more (read c i is)) ∙ sym e ∙ none in absurd (cc)

pub returns-in_err-outcome-clause-err : goal.returns-in_err-outcome-clause-err
returns-in_err-outcome-clause-err c =
    let s = (goal.at.returns-in_err-outcome-clause-err c).After-slice-code in
    on_err-always c.from_residual.result _ (stays s c.advance.new.store c.advance.new.frame c.advance.ensures.func c.advance.ensures.placed c.in_err-outcome.ensures.err).0

pub returns-in_err-outcome-clause-fine : goal.returns-in_err-outcome-clause-fine
returns-in_err-outcome-clause-fine c =
    let s = (goal.at.returns-in_err-outcome-clause-fine c).After-slice-code in
    (stays s c.advance.new.store c.advance.new.frame c.advance.ensures.func c.advance.ensures.placed c.in_err-outcome.ensures.err).1

pub returns-clause-ok : goal.returns-clause-ok
returns-clause-ok c =
    let s = (goal.at.returns-clause-ok c).After-slice-code in
    let f = c.index_mut-frame.result.now in
    let g = c.advance.new.frame in
    (ends s c.advance.new.store g c.advance.ensures.func c.advance.ensures.placed (c.args.state.now.operands - c.len-before.result + c.len-after.result) c.in_ok-outcome.outcome c.in_ok-outcome.ensures.ok (omega (arith, c.len-before.ensures, c.len-after.ensures, f.operands.ok.0, g.operands.ok.0)) (elim c.else-state-ge-OPERAND_LIMIT.branch [
      | else-state-ge-OPERAND_LIMIT-via-then-state-ge-OPERAND_LIMIT+else-adds_operand w ↦ no-more s w.index-code-frame.result w.adds_operand.result w.index-code-frame.is w.adds_operand.ensures w.if-adds_operand.false
      | else-state-ge-OPERAND_LIMIT-via-else-state-ge-OPERAND_LIMIT w ↦ λ more. w.if-state-ge-OPERAND_LIMIT.false
    ])).0

pub returns-clause-fine : goal.returns-clause-fine
returns-clause-fine c =
    let s = (goal.at.returns-clause-fine c).After-slice-code in
    let f = c.index_mut-frame.result.now in
    let g = c.advance.new.frame in
    (ends s c.advance.new.store g c.advance.ensures.func c.advance.ensures.placed (c.args.state.now.operands - c.len-before.result + c.len-after.result) c.in_ok-outcome.outcome c.in_ok-outcome.ensures.ok (omega (arith, c.len-before.ensures, c.len-after.ensures, f.operands.ok.0, g.operands.ok.0)) (elim c.else-state-ge-OPERAND_LIMIT.branch [
      | else-state-ge-OPERAND_LIMIT-via-then-state-ge-OPERAND_LIMIT+else-adds_operand w ↦ no-more s w.index-code-frame.result w.adds_operand.result w.index-code-frame.is w.adds_operand.ensures w.if-adds_operand.false
      | else-state-ge-OPERAND_LIMIT-via-else-state-ge-OPERAND_LIMIT w ↦ λ more. w.if-state-ge-OPERAND_LIMIT.false
    ])).1
