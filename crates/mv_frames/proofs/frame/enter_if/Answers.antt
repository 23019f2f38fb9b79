use Rattle.std.proofs.Common.{◌≡◌, sym, arith, length, reverse, Some, subst, ◌-◌, drop, refl, eq-eqb, ne_eqb, None}
use Rattle.std.proofs.lemmas.List.{length-drop, length-reverse}
use Rattle.mv_frames.specs.Blocks.{began_block}
use Rattle.mv_frames.specs.Frames.{frame_of, IsPlaced}
use Rattle.mv_frames.proofs.Advances.{advanced-top, if-operand, if-open, if-is, if-value, enter-first, enter-second, entered-popped, Enters, choice-label}
use Rattle.mv_frames.proofs.frame.enter_if.Goals as goal
use Rattle.mv_frames.proofs.frame.enter_if.Goals.{After-pop, then-top-eq0, else-top-eq0}

pub top-requires : goal.top-requires
top-requires c =
    let h = c.requires.here in
    omega (arith, if-operand c.args.code.now c.args.frame.now h.0 c.requires.placed c.requires.runs (if-is c.args.code.now c.args.frame.now.at h.0 h.1), c.args.frame.now.operands.ok.0)

pub other_list-at-requires : goal.other_list-at-requires
other_list-at-requires c =
    let h = c.requires.here in
    if-open c.args.code.now c.args.frame.now h.0 c.requires.placed c.requires.runs (if-is c.args.code.now c.args.frame.now.at h.0 h.1)

-- what the `if` leaves
goes : (c : After-pop) → (began_block (frame_of c.args.code.now c.args.frame.now) ≡ Some (frame_of c.args.code.now c.pop.new.frame)) × IsPlaced c.args.code.now c.pop.new.frame
goes c =
    let code = c.args.code.now in
    let f = c.args.frame.now in
    let h = c.requires.here in
    let is = if-is code f.at h.0 h.1 in
    let t = advanced-top code f c.requires.placed c.requires.runs in
    let below = drop 1 (reverse f.operands.items) in
    let i32 = if-value code f h.0 c.top.result below c.requires.placed c.requires.runs is c.top.ensures in
    let n : c.len.result - 1 ≡ length below = omega (arith, c.len.ensures, f.operands.ok.0, length-drop 1 (reverse f.operands.items), length-reverse f.operands.items) in
    let l : choice-label h.0 below ≡ record { carries = c.args.carries; height = c.len.result - 1; start = None } = rw (h.2, n) refl in
    let e : Enters code f c.if-top-eq0.at (choice-label h.0 below) below = elim c.if-top-eq0.branch [
      | then-top-eq0 w ↦ subst (λ m. Enters code f m (choice-label h.0 below) below) (sym w.at-is) (enter-second code f h.0 t c.top.result below w.other_list-at.result is c.top.ensures i32 (eq-eqb c.top.result 0 w.if-top-eq0.true) w.other_list-at.ensures)
      | else-top-eq0 w ↦ subst (λ m. Enters code f m (choice-label h.0 below) below) (sym w.at-is) (enter-first code f h.0 t c.top.result below is c.top.ensures i32 (ne_eqb c.top.result 0 w.if-top-eq0.false))
    ] in
    entered-popped code f c.enter.new.frame c.pop.new.frame c.if-top-eq0.at _ c.top.result c.pop.result below (subst (λ x. Enters code f c.if-top-eq0.at x below) l e) c.in_ok-enter.ensures.ok c.pop.ensures.rest c.pop.ensures.top c.top.ensures

pub returns-clause-ok : goal.returns-clause-ok
returns-clause-ok c = (goes c).0

pub returns-clause-placed : goal.returns-clause-placed
returns-clause-placed c = (goes c).1
