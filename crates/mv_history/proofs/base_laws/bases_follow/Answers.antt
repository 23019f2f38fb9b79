use Rattle.mv_history.proofs.BaseLaws.{base_after, first_base}
use Rattle.mv_history.proofs.base_laws.bases_follow.Goals as goal

pub returns-clause-first : goal.returns-clause-first
returns-clause-first g c first = first_base first

pub returns-clause-later : goal.returns-clause-later
returns-clause-later g c updates base before es is_base legal nobody unwanted = base_after g.V.Version.behaviour updates base before es is_base legal nobody unwanted
