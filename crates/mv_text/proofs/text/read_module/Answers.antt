use Rattle.mv_text.proofs.Assembles.{assembled_spells}
use Rattle.mv_text.proofs.Budget.{has_spelling}
use Rattle.mv_text.proofs.text.read_module.Goals as goal

pub module_of-requires : goal.module_of-requires
module_of-requires c = has_spelling c.args.text.now c.in_ok-parts.parts (assembled_spells c.args.text.now c.in_ok-parts.parts c.in_ok-parts.ensures.parts)
