use Rattle.std.proofs.Common.{◌∙◌, refl, subst}
use Rattle.std.proofs.Common.{List}
use Rattle.mv_frames.specs.declared.frame.Frame.{Frame}
use Rattle.mv_machine.specs.declared.state.State.{State}
use Rattle.mv_machine.specs.Copies.{AreSameFrames}
use Rattle.mv_machine.proofs.SameCalls.{IsCopy, copied-config, copied-fine}
use Rattle.mv_machine.proofs.copy.copy_state.Goals as goal
use Rattle.mv_machine.proofs.copy.copy_state.Goals.{In_ok-copy_frames}

-- the state that is made
made : In_ok-copy_frames → State
made c = record {
  store = record { memory = c.in_ok-copy.field-0; globals = c.in_ok-from_slice.field-0; table = c.in_ok-copy_table.field-0 };
  frames = c.in_ok-copy_frames.field-0;
  operands = c.args.state.now.operands;
  waiting = c.args.state.now.waiting;
  given = c.args.state.now.given;
  gap = c.args.state.now.gap;
}

is-copy : (c : In_ok-copy_frames) → IsCopy c.args.state.now (made c)
unfolding made
is-copy c = record {
  memory = c.in_ok-copy.ensures;
  globals = c.in_ok-from_slice.ensures.items ∙ c.as_slice.ensures.value;
  table = c.in_ok-copy_table.ensures ∙ c.as_slice-2.ensures.value;
  frames = subst (λ (fs : List Frame). AreSameFrames fs c.in_ok-copy_frames.field-0.items) c.as_slice-3.ensures.value c.in_ok-copy_frames.ensures;
  operands = refl;
  waiting = refl;
  given = refl;
  gap = refl;
}

pub returns-clause-same : goal.returns-clause-same
unfolding made
returns-clause-same c =
    let k = (goal.at.returns-clause-same c).In_ok-copy_frames in
    copied-config c.args.module.now c.args.state.now (made k) (is-copy k)

pub returns-clause-fine : goal.returns-clause-fine
unfolding made
returns-clause-fine c =
    let k = (goal.at.returns-clause-fine c).In_ok-copy_frames in
    copied-fine c.args.module.now c.args.state.now (made k) c.requires.fine (is-copy k)
