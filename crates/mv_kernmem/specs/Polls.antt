-- What a poll finds (docs/FORMATS.md, "The scripted kernel").
use Rattle.std.specs.Prelude.{ℕ, ◌^◌, Bool, true, false, ◌||◌, ◌==◌, nat_lt, List, [], ◌∷◌, Option, Some, None, if◌then◌else◌}
use Rattle.std.specs.Option.{option_map_or}
use Rattle.std.specs.List.{filter_map, enumerate_from}
use Rattle.mv_calls.specs.declared.happenings.Happened.{Happened}
use Rattle.mv_calls.specs.declared.subs.Sub.{Sub}
use Rattle.mv_calls.specs.declared.subs.Sub.TheVariants as sub
use Rattle.mv_kernmem.specs.States.{ScriptState, Connection, badf, listener, connection_at, is_connection, is_output, is_known, waits}

-- whether a read of the connection finds something: bytes or an end
abbrev pub has_more : Connection → Bool
has_more c = has_pieces c.pieces || c.ends
  where
    has_pieces : List (List ℕ) → Bool
    has_pieces [] = false
    has_pieces (piece ∷ rest) = true

abbrev pub can_read : ScriptState → ℕ → Bool
can_read s fd = if fd == listener then waits s else option_map_or has_more (connection_at s fd) false

abbrev pub can_write : ScriptState → ℕ → Bool
can_write s fd = is_output fd || is_connection s fd

-- the event of the subscription with this number
abbrev pub happened : ℕ → ℕ → ℕ → Happened
happened number error nbytes = record { sub = number; error = error; nbytes = nbytes; flags = 0 }

-- what a descriptor that is ready, or isn't, makes of a subscription; an unknown one is an event with its errno
abbrev pub event_at : ScriptState → ℕ → ℕ → Bool → ℕ → Option Happened
event_at s number fd ready nbytes = if is_known s fd
    then (if ready then Some (happened number 0 nbytes) else None)
    else Some (happened number badf 0)

abbrev pub event_of : ScriptState → ℕ → Sub → Option Happened
event_of s number (sub.Clock id timeout flags) = Some (happened number 0 0)
event_of s number (sub.Read fd) = event_at s number fd (can_read s fd) 1
event_of s number (sub.Write fd) = event_at s number fd (can_write s fd) 0

-- an event has place for the numbers below 2^32
abbrev pub told_event : ScriptState → ℕ × Sub → Option Happened
told_event s numbered = if nat_lt numbered.0 (2 ^ 32) then event_of s numbered.0 numbered.1 else None

-- the events of all subscriptions that are ready, in their order
abbrev pub events_of : ScriptState → List Sub → List Happened
events_of s subs = filter_map (told_event s) (enumerate_from 0 subs)
