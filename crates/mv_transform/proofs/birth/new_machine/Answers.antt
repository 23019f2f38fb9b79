use Rattle.std.proofs.Common.{◌∙◌, ap, rules}
use Rattle.std.specs.Prelude.{Err}
use Rattle.mv_machine.specs.Executions.{Execution}
use Rattle.mv_wasi.specs.Machines.{clean}
use Rattle.mv_guest.specs.Standing.{unready}
use Rattle.mv_guest.specs.Running.{stands_of}
use Rattle.mv_transform.specs.Births.{born}
use Rattle.mv_transform.proofs.BirthLaws.{birth-refused, birth-done}
use Rattle.mv_transform.proofs.birth.new_machine.Goals as goal

pub returns-in_err-run_transformer-clause-refused : goal.returns-in_err-run_transformer-clause-refused
returns-in_err-run_transformer-clause-refused c =
    let old = unready (stands_of c.args.old.now) in
    let parts = ap (λ (m : Execution). m.parts) c.machine-2.ensures ∙ c.in_ok-reach_event.ensures.parts in
    let there = ap (λ (m : Execution). clean m.config) c.machine-2.ensures ∙ c.in_ok-reach_event.ensures.there in
    let h = birth-refused old c.machine-2.result.now c.in_ok-machine.field-0.machine c.in_ok-machine.field-0.resume (born old c.args.bytes.now) (c.in_ok-machine.ensures.entered old) parts there {T = Execution} (Err c.in_err-run_transformer.field-0.0) c.in_err-run_transformer.ensures.fault in
    search rules

pub returns-clause-born : goal.returns-clause-born
returns-clause-born c =
    let old = unready (stands_of c.args.old.now) in
    let parts = ap (λ (m : Execution). m.parts) c.machine-2.ensures ∙ c.in_ok-reach_event.ensures.parts in
    let there = ap (λ (m : Execution). clean m.config) c.machine-2.ensures ∙ c.in_ok-reach_event.ensures.there in
    birth-done old c.machine-2.result.now c.in_ok-machine.field-0.machine c.in_ok-machine.field-0.resume (born old c.args.bytes.now) (c.in_ok-machine.ensures.entered old) parts there c.run_transformer.new.machine c.reach_event.new.old.args c.in_ok-run_transformer.ensures.ok c.in_ok-run_transformer.ensures.parts c.in_ok-reach_event.ensures.args
