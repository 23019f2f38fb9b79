use Rattle.mv_syntax.proofs.FaultLaws.{fault_settled, fault_within, cut_at_end, one_fault, faulty_is_no_module, no_module_is_faulty}
use Rattle.mv_syntax.proofs.laws.first_faults.Goals as goal

pub returns-clause-none : goal.returns-clause-none
returns-clause-none c = λ bytes. (no_module_is_faulty bytes, λ f p s. faulty_is_no_module bytes f.0 f.1 p s)

pub returns-clause-one : goal.returns-clause-one
returns-clause-one c = one_fault

pub returns-clause-within : goal.returns-clause-within
returns-clause-within c = fault_within

pub returns-clause-cut : goal.returns-clause-cut
returns-clause-cut c = cut_at_end

pub returns-clause-settled : goal.returns-clause-settled
returns-clause-settled c = fault_settled
