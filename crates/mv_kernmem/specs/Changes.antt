-- What a call leaves, one row a call (docs/FORMATS.md, "The scripted kernel").
use Rattle.std.specs.Prelude.{ℕ, ◌+◌, ◌-◌, ◌%◌, true, ◌&&◌, ◌==◌, nat_le, List, [], ◌∷◌, length, drop, slice_set, if◌then◌else◌}
use Rattle.std.specs.Option.{option_map_or}
use Rattle.mv_calls.specs.declared.calls.Call.{Call}
use Rattle.mv_calls.specs.declared.calls.Call.TheVariants as call
use Rattle.mv_outside.specs.Counts.{one_more}
use Rattle.mv_kernmem.specs.States.{ScriptState, Connection, listener, first_fd, connection_at, waits}
use Rattle.mv_kernmem.specs.Replies.{period_of}

-- what a read of so many bytes leaves: the rest of the next piece stays, and a piece without a rest is gone
abbrev pub rest_of : ℕ → List (List ℕ) → List (List ℕ)
rest_of cap [] = []
rest_of cap (piece ∷ rest) = if nat_le (length piece) cap then rest else drop cap piece ∷ rest

abbrev pub after_read : ℕ → Connection → Connection
after_read cap c = record c { pieces = rest_of cap c.pieces }

abbrev pub after_close : Connection → Connection
after_close c = record c { closed = true }

-- the connection of this descriptor changes, if it is one of a connection
abbrev pub with_connection : ScriptState → ℕ → (Connection → Connection) → ScriptState
with_connection s fd change =
    option_map_or (λ c. record s { conns = slice_set s.conns (fd - first_fd) (change c) }) (connection_at s fd) s

-- the next connection is accepted, if one waits
abbrev pub after_accept : ScriptState → ℕ → ScriptState
after_accept s fd = if (fd == listener) && waits s then record s { accepted = s.accepted + 1 } else s

abbrev pub state_after : ScriptState → Call → ScriptState
state_after s (call.Accept fd flags) = after_accept s fd
state_after s (call.Read fd cap) = with_connection s fd (after_read cap)
state_after s (call.Close fd) = with_connection s fd after_close
state_after s (call.Clock id) = record s { clocks = one_more s.clocks }
state_after s (call.Random len) = record s { place = (s.place + len) % period_of s.random }
state_after s (call.Write fd bytes) = s
state_after s (call.Shutdown fd how) = s
state_after s (call.FdStat fd) = s
state_after s call.Yield = s
state_after s (call.Poll subs) = s
