-- Whether the answer to one call may be given for another.
use Rattle.std.specs.Prelude.{ℕ, Bool, true, false, ◌&&◌, ◌||◌, ◌==◌, nat_le, List, length}
use Rattle.std.specs.Str.{bytes_eq}
use Rattle.std.specs.Cmp.Lexicographic.{pointwise}
use Rattle.mv_calls.specs.declared.subs.Sub.{Sub}
use Rattle.mv_calls.specs.declared.subs.Sub.TheVariants as sub
use Rattle.mv_calls.specs.declared.calls.Call.{Call}
use Rattle.mv_calls.specs.declared.calls.Call.TheVariants.{Clock, Random, Read, Write, Close, FdStat, Yield, Poll, Accept, Shutdown}
use Rattle.mv_calls.specs.declared.calls.Reply.{Reply}
use Rattle.mv_calls.specs.declared.calls.Reply.TheVariants.{Errno, Bytes}

-- whether the two subscriptions are equal
abbrev pub is_same_sub : Sub → Sub → Bool
is_same_sub (sub.Clock id timeout flags) (sub.Clock other time bits) = (id == other) && ((timeout == time) && (flags == bits))
is_same_sub (sub.Read fd) (sub.Read other) = fd == other
is_same_sub (sub.Write fd) (sub.Write other) = fd == other
is_same_sub mine want = false

-- whether the two lists of subscriptions are equal
abbrev pub are_same_subs : List Sub → List Sub → Bool
are_same_subs = pointwise is_same_sub

-- whether the two calls are equal
abbrev pub is_same_call : Call → Call → Bool
is_same_call (Clock id) (Clock other) = id == other
is_same_call (Random len) (Random other) = len == other
is_same_call (Read fd cap) (Read other asked) = (fd == other) && (cap == asked)
is_same_call (Write fd bytes) (Write other offered) = (fd == other) && bytes_eq bytes offered
is_same_call (Close fd) (Close other) = fd == other
is_same_call (FdStat fd) (FdStat other) = fd == other
is_same_call Yield Yield = true
is_same_call (Poll subs) (Poll others) = are_same_subs subs others
is_same_call (Accept fd flags) (Accept other asked) = (fd == other) && (flags == asked)
is_same_call (Shutdown fd how) (Shutdown other asked) = (fd == other) && (how == asked)
is_same_call mine want = false

-- whether the reply is an error number, or has at most this many bytes
abbrev pub is_within : ℕ → Reply → Bool
is_within cap (Errno errno) = true
is_within cap (Bytes bytes) = nat_le (length bytes) cap
is_within cap reply = false

-- whether both read one descriptor, and the answer is no longer than the first asks for
abbrev pub reads_enough : Call → Call → Reply → Bool
reads_enough (Read fd cap) (Read other asked) reply = (fd == other) && is_within cap reply
reads_enough mine want reply = false

-- whether the answer to want may be given for the call mine
abbrev pub fits_of : Call → Call → Reply → Bool
fits_of mine want reply = is_same_call mine want || reads_enough mine want reply
