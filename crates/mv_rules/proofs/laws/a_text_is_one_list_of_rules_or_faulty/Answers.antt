use Rattle.mv_rules.proofs.GrammarLaws.{found_spelled, spelled_found, place}
use Rattle.mv_rules.proofs.FaultLaws.{either, spelled_is_faultless, one_list, one_faulty_line}
use Rattle.mv_rules.proofs.laws.a_text_is_one_list_of_rules_or_faulty.Goals as goal

pub returns-clause-either : goal.returns-clause-either
returns-clause-either c = either

pub returns-clause-not_both : goal.returns-clause-not_both
returns-clause-not_both c = spelled_is_faultless

pub returns-clause-one_list : goal.returns-clause-one_list
returns-clause-one_list c = one_list

pub returns-clause-one_line : goal.returns-clause-one_line
returns-clause-one_line c = one_faulty_line

pub returns-clause-read : goal.returns-clause-read
returns-clause-read c = λ text rules. (spelled_found text rules, found_spelled text rules)

pub returns-clause-fault : goal.returns-clause-fault
returns-clause-fault c = place
