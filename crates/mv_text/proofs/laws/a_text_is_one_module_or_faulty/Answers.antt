use Rattle.mv_text.proofs.Assembles.{assembled_spells, spells_assembled}
use Rattle.mv_text.proofs.laws.a_text_is_one_module_or_faulty.Goals as goal

pub returns : goal.returns
returns c text p = (spells_assembled text p, assembled_spells text p)
