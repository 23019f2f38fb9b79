use Rattle.mv_syntax.proofs.ModuleLaws.{module_sound, module_complete}
use Rattle.mv_syntax.proofs.laws.a_file_is_one_module_or_faulty.Goals as goal

pub returns : goal.returns
returns c = λ bytes m. (module_complete bytes m, module_sound bytes m)
