use Rattle.std.proofs.Common.{◌∙◌, ap, sym}
use Rattle.mv_syntax.specs.Sections.{Parts}
use Rattle.mv_machine.proofs.Instances.{memory-within}
use Rattle.mv_machine.proofs.instance.new_memory.Goals as goal

pub new-requires-in-Some : goal.new-requires-in-Some
new-requires-in-Some c = memory-within c.args.module.now c.in-Some.limits c.keeps.ensures c.requires (sym (ap (λ (p : Parts). p.memory) c.module.view_is) ∙ c.in-Some.is)
