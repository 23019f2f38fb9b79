-- How a guest begins, from the bytes of a module or from an old guest, with all faults in their order.
use Rattle.std.specs.Prelude.{ℕ, List, Option, Some, None, Result, Ok, Err, codes}
use Rattle.mv_syntax.specs.declared.fault.BornFault.{BornFault}
use Rattle.mv_syntax.specs.declared.fault.BornFault.TheVariants.{Read, Valid, Start, NoTransform, NoResume}
use Rattle.mv_syntax.specs.declared.fault.StartFault.{StartFault}
use Rattle.mv_syntax.specs.declared.fault.ReadFault.{ReadFault}
use Rattle.mv_syntax.specs.Sections.{Parts}
use Rattle.mv_syntax.specs.Modules.{module_at}
use Rattle.mv_transform.specs.Found.{valid_fault}
use Rattle.mv_execution.specs.Config.{Config}
use Rattle.mv_execution.specs.Instance.{program_of}
use Rattle.mv_execution.specs.Run.{entered, with_new_gap}
use Rattle.mv_start.specs.Instances.{imports_fault, entry_of, nothing_type, number_type, filled, started_instance}
use Rattle.mv_version.specs.Behaviour.{Behaviour}
use Rattle.mv_guest.specs.Standing.{Standing, stands_from, unready, after, passed, left}
use Rattle.mv_transform.specs.Transforms.{transformed}

-- goes on where there is no fault
abbrev pub unless_faulty : {F : Type 0} → (F → BornFault) → Option F → Result Standing BornFault → Result Standing BornFault
unless_faulty why None r = r
unless_faulty why (Some fault) r = Err (why fault)

-- goes on with the function that is exported
abbrev pub with_entry : BornFault → Option ℕ → (ℕ → Result Standing BornFault) → Result Standing BornFault
with_entry fault None next = Err fault
with_entry fault (Some x) next = next x

-- goes on with the module that the bytes spell, where it is valid
abbrev pub with_module : Result Parts ReadFault → (Parts → Result Standing BornFault) → Result Standing BornFault
with_module (Err fault) next = Err (Read fault)
with_module (Ok p) next = unless_faulty Valid (valid_fault p) (next p)

-- ---- started

abbrev pub started_from : Parts → List (List ℕ) → Result Config StartFault → Result Standing BornFault
started_from p args (Err fault) = Err (Start fault)
started_from p args (Ok c) = Ok (stands_from p args c)

-- read, validated, instantiated for `_start`
abbrev pub started : List ℕ → List (List ℕ) → Result Standing BornFault
started bytes args = with_module (module_at bytes) (λ p. started_from p args (started_instance p))

-- ---- born

-- it goes on in `live_resume`, with a new gap and the old guest's arguments
abbrev pub resumed : Standing → Parts → ℕ → Result Config BornFault → Result Standing BornFault
resumed old p y (Err fault) = Err fault
resumed old p y (Ok c) = Ok (stands_from p old.args (entered (program_of p) y (with_new_gap c)))

abbrev pub transformed_from : Standing → Parts → ℕ → ℕ → Result Config StartFault → Result Standing BornFault
transformed_from old p x y (Err fault) = Err (Start fault)
transformed_from old p x y (Ok c) = resumed old p y (transformed p old (entered (program_of p) x c))

-- The faults come in this order: of the bytes, of validation, of imports, of the two exports, of bounds and the start
-- function, of the transformer.
abbrev pub born_of : Standing → Parts → Result Standing BornFault
born_of old p =
    unless_faulty Start (imports_fault p)
    (with_entry NoTransform (entry_of (codes "live_transform") number_type p) (λ x.
    with_entry NoResume (entry_of (codes "live_resume") nothing_type p) (λ y.
    transformed_from old p x y (filled p))))

abbrev pub born : Standing → List ℕ → Result Standing BornFault
born old bytes = with_module (module_at bytes) (born_of old)

-- ---- what a guest does

abbrev pub behaviour : Behaviour Standing
behaviour = record {
  state = unready;
  go = λ s. s.event;
  after = after;
  passed = passed;
  started = started;
  born = born;
  left = left;
}
