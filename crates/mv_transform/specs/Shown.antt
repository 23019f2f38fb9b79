-- Machines in a birth, for the contracts of the functions that make it: what the old one shows, and what the new one comes to.
use Rattle.std.specs.Prelude.{◌≡◌, ℕ, [], Option, Some, None, Result, Ok, Err, slice_get}
use Rattle.mv_syntax.specs.declared.module.Import.{Import}
use Rattle.mv_syntax.specs.declared.types.FuncType.{FuncType}
use Rattle.mv_syntax.specs.declared.fault.BornFault.{BornFault}
use Rattle.mv_syntax.specs.Sections.{Parts}
use Rattle.mv_validator.specs.Typing.{func_type}
use Rattle.mv_execution.specs.Config.{Config}
use Rattle.mv_execution.specs.Instance.{program_of}
use Rattle.mv_execution.specs.Run.{entered, with_new_gap}
use Rattle.mv_execution.specs.Fits.{module_context}
use Rattle.mv_machine.specs.Calls.{HasFunction}
use Rattle.mv_machine.specs.Executions.{Execution}
use Rattle.mv_version.specs.declared.event.Event.TheVariants.{Point}
use Rattle.mv_guest.specs.Standing.{Standing, standing}
use Rattle.mv_transform.specs.Transforms.{Met, Finished, GoesOn}

-- the old guest as far as a transformer can ask: its module and its configuration
abbrev pub shown : Execution → Standing
shown m = standing m.parts [] (m.config, Point)

-- it has ended with a code, or goes on
abbrev pub met_by : Option ℕ → Config → Met
met_by None c = GoesOn c
met_by (Some code) c = Finished c code

-- where it has ended no call is left
abbrev pub IsIdleAt : Option ℕ → Config → Type 0
IsIdleAt None c = Unit {0}
IsIdleAt (Some code) c = c.frames ≡ []

-- a function that a machine can enter where no call is left
pub record IsEntry (p : Parts) (x : ℕ) : Type 0 where
  pub there : HasFunction p x
  pub no_parameter : (t : FuncType) → func_type (module_context p) x ≡ Some t → t.params ≡ []

-- in the function with which the new version goes on, with a new gap
abbrev pub resumed_config : Parts → ℕ → Result Config BornFault → Result Config BornFault
resumed_config p y (Err fault) = Err fault
resumed_config p y (Ok c) = Ok (entered (program_of p) y (with_new_gap c))

-- a call that waits for its answer is an import's
abbrev pub WaitsForImport : Parts → Option ℕ → Type 0
WaitsForImport p None = Unit {0}
WaitsForImport p (Some x) = (i : Import) × (slice_get p.imports x ≡ Some i)
