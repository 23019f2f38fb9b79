use Rattle.mv_rules.proofs.FaultLaws.{is_within, same_place, same_fault}
use Rattle.mv_rules.proofs.laws.a_fault_is_of_the_lines_up_to_it.Goals as goal

pub returns-clause-within : goal.returns-clause-within
returns-clause-within c = is_within

pub returns-clause-place : goal.returns-clause-place
returns-clause-place c = same_place

pub returns-clause-fault : goal.returns-clause-fault
returns-clause-fault c = same_fault
