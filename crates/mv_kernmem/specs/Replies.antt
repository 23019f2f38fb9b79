-- What the scripted kernel answers, one row a call (docs/FORMATS.md, "The scripted kernel").
use Rattle.std.specs.Prelude.{ℕ, ◌+◌, ◌-◌, ◌%◌, ◌^◌, min, max, Bool, ◌||◌, ◌==◌, nat_le, List, [], ◌∷◌, length, take, map, unwrap_or, if◌then◌else◌}
use Rattle.std.specs.Option.{option_map_or}
use Rattle.std.specs.List.{slice_get, range_with_len}
use Rattle.mv_calls.specs.declared.calls.Call.{Call}
use Rattle.mv_calls.specs.declared.calls.Call.TheVariants as call
use Rattle.mv_calls.specs.declared.calls.Reply.{Reply}
use Rattle.mv_calls.specs.declared.calls.Reply.TheVariants.{Errno, Done, Bytes, Count, Fd, Time, Stat, Ready}
use Rattle.mv_kernmem.specs.States.{ScriptState, Connection, again, badf, listener, first_fd, connection_at, is_connection, is_output, is_known, waits}
use Rattle.mv_kernmem.specs.Polls.{events_of}

-- what a read of so many bytes finds: the first bytes of the next piece
abbrev pub first_bytes : ℕ → List (List ℕ) → Bool → Reply
first_bytes cap [] ends = if ends then Bytes [] else Errno again
first_bytes cap (piece ∷ rest) ends = Bytes (take cap piece)

abbrev pub read_of : ℕ → Connection → Reply
read_of cap c = if cap == 0 then Bytes [] else first_bytes cap c.pieces c.ends

-- what a connection answers, and errno where the descriptor is none of one
abbrev pub at_connection : ScriptState → ℕ → (Connection → Reply) → Reply
at_connection s fd reply = option_map_or reply (connection_at s fd) (Errno badf)

-- a write is taken whole, as far as a count can tell
abbrev pub count_of : List ℕ → ℕ
count_of bytes = min (length bytes) (2 ^ 32 - 1)

-- rights 66: bits 1 and 6, fd_read and fd_write
abbrev pub stat_of : ℕ → Reply
stat_of filetype = Stat filetype 0 66 0

-- the value that the clock gives when it was asked so often before: its last one past the end of the list, 0 if there is none
abbrev pub time_of : List ℕ → ℕ → ℕ
time_of clock clocks = unwrap_or (slice_get clock (min clocks (length clock - 1))) 0

-- after how many bytes the random bytes start again
abbrev pub period_of : List ℕ → ℕ
period_of random = max 1 (length random)

-- the byte at this place of the random bytes, written again and again behind themselves; 0 where there is none
abbrev pub random_at : List ℕ → ℕ → ℕ
random_at random place = unwrap_or (slice_get random (place % period_of random)) 0

abbrev pub random_bytes : List ℕ → ℕ → ℕ → List ℕ
random_bytes random place len = map (λ k. random_at random (place + k)) (range_with_len 0 len)

-- the k-th connection that is accepted has first_fd + k
abbrev pub accept_of : ScriptState → ℕ → Reply
accept_of s fd = if fd == listener then (if waits s then Fd (first_fd + s.accepted) else Errno again) else Errno badf

abbrev pub close_of : ScriptState → ℕ → Reply
close_of s fd = at_connection s fd (λ c. Done)

abbrev pub reply_of : ScriptState → Call → Reply
reply_of s (call.Accept fd flags) = accept_of s fd
reply_of s (call.Read fd cap) = if fd == 0 then Bytes [] else at_connection s fd (read_of cap)
reply_of s (call.Write fd bytes) = if is_output fd || is_connection s fd then Count (count_of bytes) else Errno badf
reply_of s (call.Close fd) = close_of s fd
reply_of s (call.Shutdown fd how) = close_of s fd
reply_of s (call.FdStat fd) = if nat_le fd 2 then stat_of 2 else if is_known s fd then stat_of 6 else Errno badf
reply_of s (call.Clock id) = Time (time_of s.clock s.clocks)
reply_of s (call.Random len) = Bytes (random_bytes s.random s.place len)
reply_of s call.Yield = Done
reply_of s (call.Poll subs) = Ready (events_of s subs)
