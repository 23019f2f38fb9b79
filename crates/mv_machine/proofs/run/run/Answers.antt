use Rattle.std.proofs.Common.{◌≡◌, ◌∙◌, ◌-◌, ◌+◌, ap, sym, arith}
use Rattle.mv_execution.specs.Config.{Config}
use Rattle.mv_execution.specs.Instance.{program_of}
use Rattle.mv_execution.specs.Run.{run, Stop, Import, Ended, Trapped}
use Rattle.mv_machine.specs.States.{config_of, values_of}
use Rattle.mv_machine.specs.Turns.{IsReady}
use Rattle.mv_machine.proofs.Runs.{run-same, run-stops, run-fuel, run-spent, run-goes, run-traps}
use Rattle.mv_machine.proofs.run.run.Goals as goal
use Rattle.mv_machine.proofs.run.run.Goals.{After-settle, After-settle-2, In-Ok-AtInstruction}

-- the run so far, up to the next instruction
so_far : (c : After-settle) → run (program_of c.args.module.now) c.args.fuel (config_of c.args.module.now c.args.state.now) ≡ run (program_of c.args.module.now) (c.args.fuel - c.loop.counter) (config_of c.args.module.now c.settle.new.state)
so_far c = c.loop.invariant.same ∙ run-same (program_of c.args.module.now) (c.args.fuel - c.loop.counter) (config_of c.args.module.now c.loop.state) (config_of c.args.module.now c.settle.new.state) c.settle.ensures.same

-- the same after the last instruction
so_far-2 : (c : After-settle-2) → run (program_of c.args.module.now) c.args.fuel (config_of c.args.module.now c.args.state.now) ≡ run (program_of c.args.module.now) (c.args.fuel - c.loop.counter) (config_of c.args.module.now c.settle-2.new.state)
so_far-2 c = c.loop.invariant.same ∙ run-same (program_of c.args.module.now) (c.args.fuel - c.loop.counter) (config_of c.args.module.now c.loop.state) (config_of c.args.module.now c.settle-2.new.state) c.settle-2.ensures.same

-- the newest call stands at an instruction
stands : (c : In-Ok-AtInstruction) → IsReady (config_of c.args.module.now c.settle.new.state)
stands c = rw c.in-Ok-AtInstruction.field-0-is at c.in-Ok-AtInstruction.ensures.front

pub returns-in-Err-clause-stop : goal.returns-in-Err-clause-stop
returns-in-Err-clause-stop c =
    let s = goal.at.returns-in-Err-clause-stop c in
    (c.args.fuel - c.loop.counter, omega arith, omega (arith, c.settle.ensures.gap, c.loop.invariant.gap), so_far s.After-settle)

pub returns-in-Ok-Waits-clause-stop : goal.returns-in-Ok-Waits-clause-stop
returns-in-Ok-Waits-clause-stop c =
    let s = goal.at.returns-in-Ok-Waits-clause-stop c in
    let front = rw c.in-Ok-Waits.field-0-is at c.in-Ok-Waits.ensures.front in
    so_far s.After-settle ∙ run-stops (program_of c.args.module.now) (c.args.fuel - c.loop.counter) (config_of c.args.module.now c.settle.new.state) (Import c.in-Ok-Waits.index) front.0 front.1

pub returns-in-Ok-Ended-clause-stop : goal.returns-in-Ok-Ended-clause-stop
returns-in-Ok-Ended-clause-stop c =
    let s = goal.at.returns-in-Ok-Ended-clause-stop c in
    let front = rw c.in-Ok-Ended.field-0-is at c.in-Ok-Ended.ensures.front in
    so_far s.After-settle ∙ run-stops (program_of c.args.module.now) (c.args.fuel - c.loop.counter) (config_of c.args.module.now c.settle.new.state) (Ended (values_of c.in-Ok-Ended.value)) front.0 front.1

pub returns-then-state-ge-GAP_LIMIT-clause-stop : goal.returns-then-state-ge-GAP_LIMIT-clause-stop
returns-then-state-ge-GAP_LIMIT-clause-stop c =
    let s = goal.at.returns-then-state-ge-GAP_LIMIT-clause-stop c in
    so_far s.After-settle ∙ run-spent (program_of c.args.module.now) (c.args.fuel - c.loop.counter) (config_of c.args.module.now c.settle.new.state) (omega arith) (stands s.In-Ok-AtInstruction) c.if-state-ge-GAP_LIMIT.true

pub returns-in-Err-take_step-clause-stop : goal.returns-in-Err-take_step-clause-stop
returns-in-Err-take_step-clause-stop c =
    let s = goal.at.returns-in-Err-take_step-clause-stop c in
    let same = c.in-Err-take_step.ensures.err in
    let gap = ap (λ (d : Config). d.gap) same in
    (c.args.fuel - c.loop.counter, omega arith, omega (arith, gap, c.settle.ensures.gap, c.loop.invariant.gap), so_far s.After-settle ∙ sym (ap (run (program_of c.args.module.now) (c.args.fuel - c.loop.counter)) same))

pub returns-in-Ok-Some-clause-stop : goal.returns-in-Ok-Some-clause-stop
returns-in-Ok-Some-clause-stop c =
    let s = goal.at.returns-in-Ok-Some-clause-stop c in
    let went = rw c.in-Ok-Some.field-0-is at c.in-Ok-Some.ensures.ok in
    so_far s.After-settle ∙ run-traps (program_of c.args.module.now) (c.args.fuel - c.loop.counter) (config_of c.args.module.now c.settle.new.state) c.in-Ok-Some.trap (omega arith) (stands s.In-Ok-AtInstruction) c.if-state-ge-GAP_LIMIT.false went.0 ∙ ap (λ (d : Config). let r : Config × Stop = (d, Trapped c.in-Ok-Some.trap) in r) (sym went.1)

pub loop-preserved : goal.loop-preserved
loop-preserved c =
    let s = goal.at.loop-preserved c in
    let went = rw c.in-Ok-None.field-0-is at c.in-Ok-None.ensures.ok in
    record {
      fine = c.take_step.ensures.fine;
      gap = omega (arith, c.in-Ok-None.ensures.counts, c.settle.ensures.gap, c.loop.invariant.gap);
      same = so_far s.After-settle ∙ run-goes (program_of c.args.module.now) (c.args.fuel - c.loop.counter) (c.args.fuel - (c.loop.counter + 1)) (config_of c.args.module.now c.settle.new.state) (config_of c.args.module.now c.take_step.new.state) (omega arith) (stands s.In-Ok-AtInstruction) c.if-state-ge-GAP_LIMIT.false went;
    }

pub returns-in-Err-settle-clause-stop : goal.returns-in-Err-settle-clause-stop
returns-in-Err-settle-clause-stop c =
    let s = goal.at.returns-in-Err-settle-clause-stop c in
    (c.args.fuel - c.loop.counter, omega arith, omega (arith, c.settle-2.ensures.gap, c.loop.invariant.gap), so_far-2 s.After-settle-2)

pub returns-in-Ok-Waits-settle-clause-stop : goal.returns-in-Ok-Waits-settle-clause-stop
returns-in-Ok-Waits-settle-clause-stop c =
    let s = goal.at.returns-in-Ok-Waits-settle-clause-stop c in
    let front = rw c.in-Ok-Waits-settle.field-0-is at c.in-Ok-Waits-settle.ensures.front in
    so_far-2 s.After-settle-2 ∙ run-stops (program_of c.args.module.now) (c.args.fuel - c.loop.counter) (config_of c.args.module.now c.settle-2.new.state) (Import c.in-Ok-Waits-settle.index) front.0 front.1

pub returns-in-Ok-Ended-settle-clause-stop : goal.returns-in-Ok-Ended-settle-clause-stop
returns-in-Ok-Ended-settle-clause-stop c =
    let s = goal.at.returns-in-Ok-Ended-settle-clause-stop c in
    let front = rw c.in-Ok-Ended-settle.field-0-is at c.in-Ok-Ended-settle.ensures.front in
    so_far-2 s.After-settle-2 ∙ run-stops (program_of c.args.module.now) (c.args.fuel - c.loop.counter) (config_of c.args.module.now c.settle-2.new.state) (Ended (values_of c.in-Ok-Ended-settle.value)) front.0 front.1

pub returns-in-Ok-AtInstruction-settle-clause-stop : goal.returns-in-Ok-AtInstruction-settle-clause-stop
returns-in-Ok-AtInstruction-settle-clause-stop c =
    let s = goal.at.returns-in-Ok-AtInstruction-settle-clause-stop c in
    let front : IsReady (config_of c.args.module.now c.settle-2.new.state) = rw c.in-Ok-AtInstruction-settle.field-0-is at c.in-Ok-AtInstruction-settle.ensures.front in
    so_far-2 s.After-settle-2 ∙ run-fuel (program_of c.args.module.now) (c.args.fuel - c.loop.counter) (config_of c.args.module.now c.settle-2.new.state) (omega arith) front
