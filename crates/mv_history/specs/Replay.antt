-- A follower's run over what it heard.
use Rattle.std.specs.Prelude.{ℕ, zero, suc, ◌+◌, Bool, true, false, cond, List, [], ◌∷◌, ◌++◌}
use Rattle.mv_calls.specs.Fits.{fits_of}
use Rattle.mv_calls.specs.declared.calls.Call.{Call}
use Rattle.mv_calls.specs.declared.calls.Reply.{Reply}
use Rattle.mv_syntax.specs.declared.fault.BornFault.{BornFault}
use Rattle.mv_version.specs.Behaviour.{Behaviour}
use Rattle.mv_version.specs.declared.event.Event.{Event}
use Rattle.mv_version.specs.declared.event.Event.TheVariants as event

-- What came of a replay: the state at its end; or the number of the first item that fails, its call, and the event that
-- was met there; or the fault of a birth, where there was no state to begin with.
pub data Replayed (V : Type 0) : Type 0 where
  Stands : V → Replayed V
  Fails : ℕ → Call → Event → Replayed V
  Unborn : BornFault → Replayed V

abbrev pub is_point : Event → Bool
is_point event.Point = true
is_point (event.Calls c) = false
is_point (event.Ends n) = false
is_point (event.Traps t) = false

-- whether an item may answer what the guest asks
abbrev pub event_fits : Event → Call × Reply → Bool
event_fits (event.Calls mine) item = fits_of mine item.0 item.1
event_fits event.Point item = false
event_fits (event.Ends n) item = false
event_fits (event.Traps t) item = false

-- the calls that answer an event, with their replies: those of the guest itself
abbrev pub own_item : Event → Reply → List (Call × Reply)
own_item (event.Calls mine) reply = (mine, reply) ∷ []
own_item e reply = []

module _ {V : Type 0} (b : Behaviour V) where
  -- the state after at most so many points in a row
  abbrev pub past_in : ℕ → V → V
  past_in zero s = s
  past_in (suc n) s = cond (is_point (b.go s)) (past_in n (b.passed s)) s

  -- the state at the next event that is no point
  abbrev pub past : V → V
  past s = past_in (suc (b.left s)) s

  -- Each item in order, from item k on: the next event that is no point has to be a call that the item's reply fits, and
  -- the state is the one after this reply. Without an item no point is passed.
  abbrev pub replay : ℕ → V → List (Call × Reply) → Replayed V
  replay k s [] = Stands s
  replay k s (item ∷ items) =
      cond (event_fits (b.go (past s)) item) (replay (k + 1) (b.after (past s) item.1) items) (Fails k item.0 (b.go (past s)))

  -- the calls that the guest made in a replay that stands, with the replies that it got
  abbrev pub given : V → List (Call × Reply) → List (Call × Reply)
  given s [] = []
  given s (item ∷ items) = own_item (b.go (past s)) item.1 ++ given (b.after (past s) item.1) items

  -- how many points in a row may still come, counting this one
  abbrev pub points_left : V → ℕ
  points_left s = cond (is_point (b.go s)) (suc (b.left s)) 0
