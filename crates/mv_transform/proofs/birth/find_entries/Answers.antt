use Rattle.std.proofs.Common.{◌∙◌, sym, ap}
use Rattle.mv_start.specs.Instances.{imports_fault}
use Rattle.mv_guest.proofs.Imports.{imports-known}
use Rattle.mv_transform.proofs.birth.find_entries.Goals as goal

pub returns-clause-known : goal.returns-clause-known
returns-clause-known c =
    imports-known c.args.machine.now.parts c.keeps.ensures.valid (ap imports_fault (sym (c.module-2.ensures.same ∙ c.module.ensures)) ∙ sym c.fault_of_imports.ensures ∙ c.in_default.is)
