-- How much place a reply takes, and which place holds it.
use Rattle.std.specs.Prelude.{ℕ, ◌≤◌, length}
use Rattle.mv_calls.specs.declared.calls.Call.{Call}
use Rattle.mv_calls.specs.declared.calls.Call.TheVariants.{Random, Read, Poll}
use Rattle.mv_calls.specs.declared.calls.Reply.{Reply}
use Rattle.mv_calls.specs.declared.calls.Reply.TheVariants.{Bytes, Ready}

-- how many bytes and how many events a place takes
pub record Places : Type 0 where
  pub bytes : ℕ
  pub events : ℕ

-- what a reply to the call takes at most
abbrev pub places_of : Call → Places
places_of (Random len) = record { bytes = len; events = 0 }
places_of (Read fd cap) = record { bytes = cap; events = 0 }
places_of (Poll subs) = record { bytes = 0; events = length subs }
places_of call = record { bytes = 0; events = 0 }

-- what the reply takes
abbrev pub places_in : Reply → Places
places_in (Bytes bytes) = record { bytes = length bytes; events = 0 }
places_in (Ready happenings) = record { bytes = 0; events = length happenings }
places_in reply = record { bytes = 0; events = 0 }

-- the room is large enough for what is needed
pub record Holds (room needed : Places) : Type 0 where
  pub enough_bytes : needed.bytes ≤ room.bytes
  pub enough_events : needed.events ≤ room.events
