-- What the kernel in memory holds, and what a call of `perform` leaves.
use Rattle.std.specs.Prelude.{◌≡◌, ◌<◌, ℕ, Bool, List, [], Option, Some}
use Rattle.mv_calls.specs.declared.calls.Call.{Call}
use Rattle.mv_calls.specs.declared.calls.Item.{Item}
use Rattle.mv_calls.specs.Places.{Holds, places_of}
use Rattle.mv_outside.specs.Counts.{one_more, is_named}
use Rattle.mv_kernmem.specs.States.{ScriptState, first_state}
use Rattle.mv_kernmem.specs.declared.script.Script.{Script}
use Rattle.mv_kernmem.specs.declared.mem_kernel.Saved.{Saved}

pub record KernelState : Type 0 where
  -- what the guest's calls meet
  pub state : ScriptState
  -- the calls done with their replies, oldest first
  pub done : List Item
  -- how many more of these take no memory
  pub room : ℕ
  -- what was made ready for the next call
  pub saved : Option Saved
  -- how often it was asked to perform, and the numbers at which it fails
  pub performs : ℕ
  pub fail : List ℕ
  -- how often it failed
  pub faults : ℕ

-- it has a copy of the call, a place for a copy of its reply, and a place in the list of what was done
pub record IsReady (kernel : KernelState) (call : Call) : Type 0 where
  pub copy : Saved
  pub is_saved : kernel.saved ≡ Some copy
  pub same : copy.call ≡ call
  pub enough : Holds copy.room (places_of call)
  pub place : 0 < kernel.room

-- it has done nothing of this script
pub record Begins (script : Script) (kernel : KernelState) : Type 0 where
  pub state : kernel.state ≡ first_state script
  pub done : kernel.done ≡ []
  pub performs : kernel.performs ≡ 0
  pub fail : kernel.fail ≡ script.fail
  pub faults : kernel.faults ≡ 0

-- the next `perform` fails: its number is in the list
abbrev pub perform_fails : KernelState → Bool
perform_fails k = is_named k.fail k.performs

-- what a `perform` that fails leaves
abbrev pub after_failure : KernelState → KernelState
after_failure k = record k { performs = one_more k.performs; faults = one_more k.faults }
