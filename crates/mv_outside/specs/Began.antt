-- What one run began with.
use Rattle.std.specs.Prelude.{ℕ, List, Option}
use Rattle.mv_calls.specs.declared.calls.Item.{Item}
use Rattle.mv_outside.specs.Files.{FileMap}

pub record Began : Type 0 where
  -- the module's bytes, and the guest's arguments
  pub start : List ℕ
  pub args : List (List ℕ)
  -- the calls that the kernel had done, the lines that were to come and what was said, and the files, where they are told
  pub done : Option (List Item)
  pub coming : Option (List (Option (List ℕ)))
  pub said : Option (List ℕ)
  pub files : Option FileMap
  -- how often each of these had failed
  pub kernel_faults : ℕ
  pub console_faults : ℕ
  pub files_faults : ℕ
