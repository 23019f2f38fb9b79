use Rattle.mv_syntax.specs.Sections.{Parts}
use Rattle.mv_text.proofs.Assembles.{if_spelled, if_refused}
use Rattle.mv_text.proofs.FirstFault.{if_first}
use Rattle.mv_text.proofs.text.assemble.Goals as goal

pub returns-clause-spelled : goal.returns-clause-spelled
returns-clause-spelled c = if_spelled c.args.text.now c.read_module.result (λ (d : Parts). d) c.read_module.ensures.module

pub returns-clause-refused : goal.returns-clause-refused
returns-clause-refused c = if_refused c.args.text.now c.read_module.result c.read_module.ensures.fault

pub returns-clause-first : goal.returns-clause-first
returns-clause-first c = if_first c.args.text.now c.read_module.result c.read_module.ensures.fault
