-- Schedules: letters of beats, with spaces and line feeds between them (docs/FORMATS.md, "Schedules").
use Rattle.std.specs.Prelude.{ℕ, ◌+◌, ◌^◌, ◌==◌, ◌||◌, Bool, nat_lt, if◌then◌else◌, List, [], ◌∷◌, length, Option, Some, None, is_some, Result, Ok, Err}
use Rattle.mv_rehearse.specs.declared.beats.Beat.{Beat}
use Rattle.mv_rehearse.specs.declared.beats.Beat.TheVariants.{Lead, Carry, Follow, Judge}
use Rattle.mv_schedule.specs.declared.fault.ScheduleFault.{ScheduleFault}
use Rattle.mv_schedule.specs.declared.fault.ScheduleFault.TheVariants.{Letter, Limit}

-- L, C, F, J
abbrev pub beat_of : ℕ → Option Beat
beat_of byte =
    if byte == 76 then Some Lead else
    if byte == 67 then Some Carry else
    if byte == 70 then Some Follow else
    if byte == 74 then Some Judge else
    None

abbrev pub is_blank : ℕ → Bool
is_blank byte = byte == 32 || byte == 10

-- the beats of a text, and the place of the first byte that is neither a beat's letter nor a blank, from this place on
abbrev pub with_beat : Option Beat → List Beat → List Beat
with_beat None beats = beats
with_beat (Some beat) beats = beat ∷ beats

unfoldable pub beats_in : List ℕ → List Beat
beats_in [] = []
beats_in (byte ∷ text) = with_beat (beat_of byte) (beats_in text)

unfoldable pub first_other : ℕ → List ℕ → Option ℕ
first_other place [] = None
first_other place (byte ∷ text) = if is_some (beat_of byte) || is_blank byte then first_other (place + 1) text else Some place

abbrev pub schedule_by : List Beat → Option ℕ → Result (List Beat) ScheduleFault
schedule_by beats None = Ok beats
schedule_by beats (Some place) = Err (Letter place)

abbrev pub schedule_of : List ℕ → Result (List Beat) ScheduleFault
schedule_of text = if nat_lt (2 ^ 24) (length text) then Err Limit else schedule_by (beats_in text) (first_other 0 text)
