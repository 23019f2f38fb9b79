-- What a list of calls with their replies brought in: bytes read, and connections accepted.
use Rattle.std.specs.Prelude.{ℕ, ◌==◌, if◌then◌else◌, List, [], ◌∷◌, ◌++◌}
use Rattle.mv_calls.specs.declared.calls.Item.{Item}
use Rattle.mv_calls.specs.declared.calls.Call.{Call}
use Rattle.mv_calls.specs.declared.calls.Call.TheVariants.{Read, Accept}
use Rattle.mv_calls.specs.declared.calls.Reply.{Reply}
use Rattle.mv_calls.specs.declared.calls.Reply.TheVariants.{Bytes, Fd}

-- the bytes that one call read from the descriptor
abbrev pub eaten_by : Call → Reply → ℕ → List ℕ
eaten_by (Read from cap) (Bytes bytes) fd = if from == fd then bytes else []
eaten_by call reply fd = []

-- the bytes of all reads of the descriptor that were answered with bytes, joined
abbrev pub eaten : List Item → ℕ → List ℕ
eaten [] fd = []
eaten (item ∷ rest) fd = eaten_by item.0 item.1 fd ++ eaten rest fd

-- the listener and the new descriptor, if the call accepted a connection
abbrev pub accepted_by : Call → Reply → List (ℕ × ℕ)
accepted_by (Accept listener flags) (Fd new) = (listener, new) ∷ []
accepted_by call reply = []

-- each listener with the new descriptor that it gave, in order
abbrev pub accepted : List Item → List (ℕ × ℕ)
accepted [] = []
accepted (item ∷ rest) = accepted_by item.0 item.1 ++ accepted rest
