use Rattle.mv_execution.proofs.Rises.{instruction-leaves, first-leaves}
use Rattle.mv_execution.proofs.laws.one_more_or_none.Goals as goal

pub returns : goal.returns
returns c = record { instruction = instruction-leaves; first = first-leaves }
