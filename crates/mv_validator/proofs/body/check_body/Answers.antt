use Rattle.std.proofs.Common.{◌≡◌, ◌∙◌, ◌+◌, ap, sym, arith, refl, Some, None, false, take, cond}
use Rattle.std.proofs.lemmas.List.{take_all}
use Rattle.std.proofs.lemmas.Option.{slice_get_read}
use Rattle.mv_validator.specs.ControlFrames.{frames_after, next}
use Rattle.mv_validator.specs.Typing.{Context}
use Rattle.mv_validator.specs.Valid.{context_in}
use Rattle.mv_validator.specs.Views.{frames_of}
use Rattle.mv_validator.proofs.Claims.{start_of}
use Rattle.mv_validator.proofs.Closing.{after-at, first-fault, fault-untyped, whole-typed}
use Rattle.mv_validator.proofs.Labels.{kind-there}
use Rattle.mv_validator.proofs.Flat.{frames-length}
use Rattle.mv_validator.proofs.body.check_body.Goals as goal
use Rattle.mv_validator.proofs.body.check_body.Goals.{In_ok-check_instr}

abbrev context : In_ok-check_instr → Context
context c = context_in c.args.«module».now c.args.ftype.now c.args.locals.now

-- the frames behind the instruction
behind : (c : In_ok-check_instr) → frames_after (context c) (take (c.loop-at.at + 1) c.args.code.now) (start_of (context c)) ≡ next (context c) c.index-code-at.result (frames_of c.loop-at.frames.items)
behind c = after-at (context c) c.args.code.now c.loop-at.at c.index-code-at.result (start_of (context c)) (frames_of c.loop-at.frames.items) (omega arith) c.index-code-at.is c.loop-at.invariant

-- a faulty instruction leaves none
none : (c : In_ok-check_instr) → c.in_ok-check_instr.field-0 ≡ false → frames_after (context c) (take (c.loop-at.at + 1) c.args.code.now) (start_of (context c)) ≡ None
none c t = behind c ∙ c.in_ok-check_instr.ensures ∙ ap (λ b. cond b (Some (frames_of c.check_instr.new.frames.items)) None) t

pub returns-then-not-branch-clause-faulty : goal.returns-then-not-branch-clause-faulty
returns-then-not-branch-clause-faulty c =
    let k = (goal.at.returns-then-not-branch-clause-faulty c).In_ok-check_instr in
    let there = slice_get_read c.args.code.now _ c.loop-at.at c.index-code-at.result refl (omega arith) c.index-code-at.is in
    let kind = kind-there (context k) c.args.code.now c.loop-at.at c.index-code-at.result (frames_of c.loop-at.frames.items) c.len-depth.result c.loop-at.invariant (omega (arith, frames-length c.loop-at.frames.items, c.loop-at.frames.ok.0, c.len-depth.ensures)) in
    first-fault (context k) c.args.code.now c.loop-at.at c.index-code-at.result c.kind_of-kind.result (frames_of c.loop-at.frames.items) there c.loop-at.invariant (none k c.if-not-branch.true) (c.kind_of-kind.ensures ∙ kind)

pub returns-then-not-branch-clause-untyped : goal.returns-then-not-branch-clause-untyped
returns-then-not-branch-clause-untyped c =
    let k = (goal.at.returns-then-not-branch-clause-untyped c).In_ok-check_instr in
    fault-untyped (context k) c.args.code.now (c.loop-at.at + 1) (none k c.if-not-branch.true)

pub loop-at-preserved : goal.loop-at-preserved
loop-at-preserved c =
    behind (goal.at.loop-at-preserved c).In_ok-check_instr ∙ c.in_ok-check_instr.ensures ∙ ap (λ b. cond b (Some (frames_of c.check_instr.new.frames.items)) None) c.if-not-branch.false

pub returns-clause-typed : goal.returns-clause-typed
returns-clause-typed c =
    let context = context_in c.args.«module».now c.args.ftype.now c.args.locals.now in
    let whole = take_all c.loop-at.at c.args.code.now c.loop-at-test.false in
    whole-typed context c.args.code.now c.requires.closed.0 (frames_of c.loop-at.frames.items) c.requires.closed.1 (ap (λ x. frames_after context x (start_of context)) (sym whole) ∙ c.loop-at.invariant)
