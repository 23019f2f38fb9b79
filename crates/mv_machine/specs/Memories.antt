-- What every memory keeps, by its type, and a machine that any memory may be left in.
use Rattle.std.specs.Prelude.{◌≤◌, All}
use Rattle.mv_syntax.specs.Sections.{Parts}
use Rattle.mv_memory.specs.Bytes.{IsByte, page_limit}
use Rattle.mv_memory.specs.Memory.{Contents, page_count}
use Rattle.mv_machine.specs.declared.state.State.{State}
use Rattle.mv_machine.specs.States.{IsFine}

pub record IsMemory (memory : Contents) : Type 0 where
  pub bytes : All IsByte memory.bytes
  pub pages : page_count memory ≤ page_limit

-- Whoever borrows the memory leaves one in it. The type of a memory keeps that it is one; so the state is as it has to be.
abbrev pub IsKept : Parts → State → Type 0
IsKept p s = IsMemory s.store.memory → IsFine p s
