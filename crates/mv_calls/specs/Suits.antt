-- Which replies a call may have (docs/FORMATS.md, "Replies that suit").
use Rattle.std.specs.Prelude.{ℕ, Bool, true, false, ◌&&◌, ◌==◌, nat_lt, nat_le, List, [], ◌∷◌, length}
use Rattle.std.specs.List.{list_all}
use Rattle.mv_calls.specs.declared.happenings.Happened.{Happened}
use Rattle.mv_calls.specs.declared.calls.Call.{Call}
use Rattle.mv_calls.specs.declared.calls.Call.TheVariants.{Clock, Random, Read, Write, Close, FdStat, Yield, Poll, Accept, Shutdown}
use Rattle.mv_calls.specs.declared.calls.Reply.{Reply}
use Rattle.mv_calls.specs.declared.calls.Reply.TheVariants.{Errno, Done, Bytes, Count, Fd, Time, Stat, Ready}

-- each event names one of the first `count` subscriptions
abbrev pub are_below : ℕ → List Happened → Bool
are_below count happenings = list_all (λ (happened : Happened). nat_lt happened.sub count) happenings

-- each event names a later subscription than the one before it
abbrev pub are_rising : List Happened → Bool
are_rising [] = true
are_rising (first ∷ []) = true
are_rising (first ∷ second ∷ rest) = nat_lt first.sub second.sub && are_rising (second ∷ rest)

-- whether the reply is one that the call may have: an error number above 0 suits each call
abbrev pub suits_of : Call → Reply → Bool
suits_of call (Errno errno) = nat_lt 0 errno
suits_of (Clock id) (Time time) = true
suits_of (Random len) (Bytes bytes) = length bytes == len
suits_of (Read fd cap) (Bytes bytes) = nat_le (length bytes) cap
suits_of (Write fd bytes) (Count count) = nat_le count (length bytes)
suits_of (Close fd) Done = true
suits_of (FdStat fd) (Stat filetype flags rights heirs) = true
suits_of Yield Done = true
suits_of (Poll subs) (Ready happenings) = are_rising happenings && are_below (length subs) happenings
suits_of (Accept fd flags) (Fd new) = true
suits_of (Shutdown fd how) Done = true
suits_of call reply = false

-- how many bytes, or events, a reply to the call has at most
abbrev pub room_of : Call → ℕ
room_of (Random len) = len
room_of (Read fd cap) = cap
room_of (Poll subs) = length subs
room_of call = 0
