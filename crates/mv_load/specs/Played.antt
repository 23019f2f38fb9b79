-- What a kernel that plays a script has answered.
use Rattle.std.specs.Prelude.{◌≡◌, List, [], ◌∷◌}
use Rattle.mv_calls.specs.declared.calls.Item.{Item}
use Rattle.mv_kernmem.specs.Changes.{state_after}
use Rattle.mv_kernmem.specs.Kernels.{KernelState}
use Rattle.mv_kernmem.specs.Replies.{reply_of}
use Rattle.mv_kernmem.specs.States.{ScriptState, first_state}
use Rattle.mv_kernmem.specs.declared.script.Script.{Script}

-- each reply is the one that is given behind the calls before it, from this state on; and the state behind them all
abbrev pub Plays : ScriptState → List Item → ScriptState → Type 0
Plays s [] end = end ≡ s
Plays s (item ∷ items) end = (item.1 ≡ reply_of s item.0) × Plays (state_after s item.0) items end

-- the kernel's replies are those of the script
abbrev pub IsPlayed : Script → KernelState → Type 0
IsPlayed script kernel = Plays (first_state script) kernel.done kernel.state
