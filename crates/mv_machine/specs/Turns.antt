-- What stands in front of the newest call, what an instruction comes to, and how a run stops.
use Rattle.std.specs.Prelude.{◌≡◌, ◌≤◌, ◌+◌, false, ℕ, List, [], ◌∷◌, Option, Some, None}
use Rattle.mv_calls.specs.declared.trap.Trap.{Trap}
use Rattle.mv_machine.specs.declared.turns.Turn.{Turn}
use Rattle.mv_machine.specs.declared.turns.Turn.TheVariants as turns
use Rattle.mv_machine.specs.declared.turns.Front.{Front}
use Rattle.mv_machine.specs.declared.turns.Front.TheVariants as fronts
use Rattle.mv_machine.specs.declared.run.Stop.{Stop as FlatStop}
use Rattle.mv_machine.specs.declared.run.Stop.TheVariants as stops
use Rattle.mv_execution.specs.Config.{Program, OpenBlock, Frame, Config}
use Rattle.mv_execution.specs.Rows.{Out, Goes, Traps}
use Rattle.mv_execution.specs.Step.{counted, step_of}
use Rattle.mv_execution.specs.Run.{is_done, settled, stop_of, run, Stop, Import, Ended, Trapped, Fuel}
use Rattle.mv_machine.specs.States.{values_of}

-- the newest call stands at an instruction
abbrev pub AreReady : List Frame → Type 0
AreReady [] = ⊥
AreReady (f ∷ fs) = (b : OpenBlock) × (outer : List OpenBlock) × (f.blocks ≡ b ∷ outer) × (is_done b.rest ≡ false)

-- no call waits, and the newest one stands at an instruction
pub record IsReady (c : Config) : Type 0 where
  pub waiting : c.waiting ≡ None
  pub given : c.given ≡ []
  pub calls : AreReady c.frames

-- the same of an instruction that counts: it has counted, also where it trapped
abbrev pub WentOn : Option Trap → Out Config → Config → Config → Type 0
WentOn None out old new = out ≡ Goes new
WentOn (Some t) out old new = (out ≡ Traps t) × (new ≡ counted old)

-- the step of a configuration that was counted already
abbrev pub counted_step : Program → Config → Out Config
counted_step program c = step_of program c c.frames

abbrev pub TurnIs : Turn → Config → Type 0
TurnIs (turns.Waits x) c = (settled c ≡ c) × (stop_of c ≡ Some (Import x))
TurnIs (turns.Ended v) c = (settled c ≡ c) × (stop_of c ≡ Some (Ended (values_of v)))
TurnIs turns.Ready c = IsReady c
TurnIs turns.Closed c = Unit {0}

-- what stands in front of a configuration that is settled
abbrev pub FrontIs : Front → Config → Type 0
FrontIs (fronts.Waits x) c = (settled c ≡ c) × (stop_of c ≡ Some (Import x))
FrontIs (fronts.Ended v) c = (settled c ≡ c) × (stop_of c ≡ Some (Ended (values_of v)))
FrontIs fronts.AtInstruction c = IsReady c

-- How a run of so much fuel stops: as the run over trees does, in this configuration. For want of memory it stops between two
-- instructions, and the rest of the run is still to come.
abbrev pub StopIs : FlatStop → Program → ℕ → Config → Config → Type 0
StopIs (stops.Import x) program fuel old new = ◌≡◌ {A = Config × Stop} (run program fuel old) (new, Import x)
StopIs (stops.Ended v) program fuel old new = ◌≡◌ {A = Config × Stop} (run program fuel old) (new, Ended (values_of v))
StopIs (stops.Trap t) program fuel old new = ◌≡◌ {A = Config × Stop} (run program fuel old) (new, Trapped t)
StopIs stops.Fuel program fuel old new = ◌≡◌ {A = Config × Stop} (run program fuel old) (new, Fuel)
StopIs stops.Memory program fuel old new = (left : ℕ) × (left ≤ fuel) × (new.gap + left ≡ old.gap + fuel) × (run program fuel old ≡ run program left new)
