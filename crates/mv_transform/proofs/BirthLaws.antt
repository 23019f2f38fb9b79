-- A guest that is born, as the code finds it.
use Rattle.std.proofs.Common.{◌≡◌, ℕ, List, sym, ap, ◌∙◌}
use Rattle.std.specs.Prelude.{Result, Ok, Err}
use Rattle.mv_calls.specs.Or.{IfFault}
use Rattle.mv_calls.specs.declared.fault.Or.{Or}
use Rattle.mv_calls.specs.declared.fault.Or.TheVariants.{Fault, OutOfMemory}
use Rattle.mv_syntax.specs.declared.fault.BornFault.{BornFault}
use Rattle.mv_syntax.specs.Sections.{Parts}
use Rattle.mv_execution.specs.Config.{Config}
use Rattle.mv_execution.specs.Instance.{program_of}
use Rattle.mv_execution.specs.Run.{entered, with_new_gap}
use Rattle.mv_machine.specs.Executions.{Execution}
use Rattle.mv_wasi.specs.Machines.{clean}
use Rattle.mv_guest.specs.Standing.{Standing, stands_from}
use Rattle.mv_transform.specs.Transforms.{transformed}
use Rattle.mv_transform.specs.Births.{resumed}
use Rattle.mv_transform.specs.Shown.{shown, resumed_config}
use Rattle.mv_transform.proofs.TransformRuns.{run-shown}

-- the config in which the new version goes on
resumed-by : (old : Standing) (p : Parts) (y : ℕ) (r : Result Config BornFault) (d : Config) → resumed_config p y r ≡ Ok d → resumed old p y r ≡ Ok (stands_from p old.args d)
resumed-by old p y (Err fault) d e = absurd (let bad : Err fault ≡ Ok d = e in cc)
resumed-by old p y (Ok c) d e =
    let k : entered (program_of p) y (with_new_gap c) ≡ d = cc in
    ap (λ z. Ok (stands_from p old.args z)) k

refused-by : (old : Standing) (p : Parts) (y : ℕ) (r : Result Config BornFault) (fault : BornFault) → resumed_config p y r ≡ Err fault → resumed old p y r ≡ Err fault
refused-by old p y (Err other) fault e = (let k : other ≡ fault = cc in ap (λ z. Err z) k)
refused-by old p y (Ok c) fault e = absurd (let bad : Ok (entered (program_of p) y (with_new_gap c)) ≡ Err fault = e in cc)

-- the old guest, its machine at its next event, the new machine that has entered the transformer, and the function that goes on
module _ (old : Standing) (shows new : Execution) (y : ℕ) (whole : Result Standing BornFault) (begun : whole ≡ resumed old new.parts y (transformed new.parts old new.config)) (parts : shows.parts ≡ old.parts) (there : clean shows.config ≡ old.config) where
  by-run : whole ≡ resumed old new.parts y (transformed new.parts (shown shows) new.config)
  by-run = begun ∙ ap (resumed old new.parts y) (sym (run-shown new.parts old shows new.config parts there))

  pub birth-refused : {T : Type 0} (r : Result T (Or BornFault)) → IfFault r (λ fault. resumed_config new.parts y (transformed new.parts (shown shows) new.config) ≡ Err fault) → IfFault r (λ fault. whole ≡ Err fault)
  birth-refused (Ok value) h = tt
  birth-refused (Err (Fault fault)) h = by-run ∙ refused-by old new.parts y (transformed new.parts (shown shows) new.config) fault h
  birth-refused (Err OutOfMemory) h = tt

  pub birth-done : (last : Execution) (args : List (List ℕ)) → resumed_config new.parts y (transformed new.parts (shown shows) new.config) ≡ Ok last.config → last.parts ≡ new.parts → args ≡ old.args → whole ≡ Ok (stands_from last.parts args last.config)
  birth-done last args e same a =
      by-run ∙ resumed-by old new.parts y (transformed new.parts (shown shows) new.config) last.config e
      ∙ ap (λ (p : Parts). Ok (stands_from p old.args last.config)) (sym same)
      ∙ ap (λ z. Ok (stands_from last.parts z last.config)) (sym a)
