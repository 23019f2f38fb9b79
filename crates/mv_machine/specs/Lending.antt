-- Loans of a machine's memory.
use Rattle.std.specs.Borrow.{Lends, MutBor, Fml}
use Rattle.mv_memory.specs.Memory.{Contents}
use Rattle.mv_memory.specs.contracts.memory.Memory as memory_type
use Rattle.mv_execution.specs.Instance.{with_memory}
use Rattle.mv_machine.specs.contracts.machine.Machine as machine_type
use Rattle.mv_machine.specs.Executions.{Execution}

-- the machine with another memory
abbrev pub with_its_memory : Execution → Contents → Execution
with_its_memory e memory = record e { config = with_memory memory e.config }

-- what is left behind the loan is the machine's memory
abbrev pub LendsMemory : MutBor Execution → MutBor Contents → Fml
LendsMemory machine memory = Lends machine_type.the_row memory_type.the_row machine memory (with_its_memory machine.now)
