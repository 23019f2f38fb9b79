-- Runs of a configuration: how instructions are counted, and where a run stops.
use Rattle.std.specs.Prelude.{◌≡◌, ◌≤◌, ◌+◌, Bool, true, false, ℕ, zero, suc, List, [], ◌∷◌, ◌++◌, Option, Some, None, length, drop, take, reverse, slice_get, nat_le, if◌then◌else◌}
use Rattle.mv_calls.specs.declared.trap.Trap.{Trap}
use Rattle.mv_calls.specs.declared.trap.Trap.TheVariants as trap
use Rattle.mv_syntax.specs.Tree.{Tree, done}
use Rattle.mv_execution.specs.Config.{Function, Program, OpenBlock, Frame, Config, gap_limit}
use Rattle.mv_execution.specs.Rows.{Goes, Traps, Stuck}
use Rattle.mv_execution.specs.Step.{entry_frame, counted, step}

-- ---- ends of blocks and of calls, which are no instructions of their own (4.4.6 and 4.4.7)

abbrev pub is_done : Tree → Bool
is_done done = true
is_done t = false

-- without the blocks of which nothing is left
abbrev pub open_blocks : List OpenBlock → List OpenBlock
open_blocks [] = []
open_blocks (b ∷ bs) = if is_done b.rest then open_blocks bs else b ∷ bs

abbrev pub is_none : {A : Type 0} → List A → Bool
is_none [] = true
is_none (x ∷ xs) = false

-- What the last call gave of those that return, and the calls that go on, where the newest call is given these results. A
-- call without open blocks returns its results to the one before it.
abbrev pub settled_frames : List ℕ → List Frame → List ℕ × List Frame
settled_frames given [] = (given, [])
settled_frames given (f ∷ fs) =
    if is_none (open_blocks f.blocks)
    then settled_frames (take f.results (given ++ f.operands)) fs
    else ([], record f { operands = given ++ f.operands; blocks = open_blocks f.blocks } ∷ fs)

abbrev pub with_frames : Config → List ℕ × List Frame → Config
with_frames c next = record c { given = next.0; frames = next.1 }

-- the newest call stands at an instruction, or none is left; a call that waits for an answer stays as it is
abbrev pub settled : Config → Config
settled c = elim c.waiting [ Some x ↦ c | None ↦ with_frames c (settled_frames c.given c.frames) ]

-- ---- runs

pub data Stop : Type 0 where
  -- at a call of this imported function, which is to be answered
  Import : (function : ℕ) → Stop
  -- the first call has returned these results
  Ended : (results : List ℕ) → Stop
  Trapped : Trap → Stop
  -- as many instructions have counted as were allowed, and another one stands in front
  Fuel : Stop
  IsStuck : Stop

-- why no instruction stands in front of a settled configuration
abbrev pub stop_at : Option ℕ → List Frame → List ℕ → Option Stop
stop_at (Some x) frames given = Some (Import x)
stop_at None [] given = Some (Ended given)
stop_at None (f ∷ fs) given = None

abbrev pub stop_of : Config → Option Stop
stop_of c = stop_at c.waiting c.frames c.given

-- A settled configuration, run for at most so many instructions. Each counts when it begins, and none begins at the limit of
-- the gap; where the fuel is used up too, that comes first.
abbrev pub run_settled : Program → ℕ → Config → Config × Stop
run_settled program zero c = elim (stop_of c) [ Some stop ↦ (c, stop) | None ↦ (c, Fuel) ]
run_settled program (suc fuel) c = elim (stop_of c) [
  | Some stop ↦ (c, stop)
  | None ↦ if nat_le gap_limit c.gap then (c, Trapped trap.Spent) else elim (step program c) [
    | Goes next ↦ run_settled program fuel (settled next)
    | Traps t ↦ (counted c, Trapped t)
    | Stuck ↦ (c, IsStuck)
  ]
]

-- the run of any configuration
abbrev pub run : Program → ℕ → Config → Config × Stop
run program fuel c = run_settled program fuel (settled c)

-- an instruction stands in front of the newest call
abbrev pub IsOpen : Config → Type 0
IsOpen c = (f : Frame) × (fs : List Frame) × (c.waiting ≡ None) × (c.frames ≡ f ∷ fs)

-- What a run leaves, by the way it stops: a call that waits, no call with what the last one gave, or a call to go on with.
abbrev pub StandsAt : Stop → Config → Type 0
StandsAt (Import x) c = c.waiting ≡ Some x
StandsAt (Ended results) c = (c.waiting ≡ None) × (c.frames ≡ []) × (c.given ≡ results)
StandsAt stop c = IsOpen c

-- how far the gap rises in a run: by all of the fuel where it stops for want of it, and else by no more
abbrev pub CountsAt : Stop → ℕ → ℕ → ℕ → Type 0
CountsAt Fuel before fuel after = after ≡ before + fuel
CountsAt stop before fuel after = (before ≤ after) × (after ≤ before + fuel)

-- A run goes on where it stopped for want of fuel, with so much more of it; where it stopped for another reason it stays there.
abbrev pub gone_on : Program → ℕ → Config × Stop → Config × Stop
gone_on program more (c, Fuel) = run program more c
gone_on program more (c, stop) = (c, stop)

-- ---- from outside

-- A call of a function without parameters, where no call is left (4.5.5). One that waited for its answer is given up.
abbrev pub entered_as : Config → ℕ → Function → Config
entered_as c x function = elim function.body [
  | None ↦ record c { waiting = Some x; given = [] }
  | Some body ↦ record c { frames = entry_frame function.ftype body [] ∷ []; waiting = None; given = [] }
]

abbrev pub entered : Program → ℕ → Config → Config
entered program x c = elim (slice_get program.functions x) [ None ↦ c | Some function ↦ entered_as c x function ]

abbrev pub param_count : Program → ℕ → ℕ
param_count program x = elim (slice_get program.functions x) [ None ↦ 0 | Some function ↦ length function.ftype.params ]

abbrev pub newest_operands : List Frame → List ℕ
newest_operands [] = []
newest_operands (f ∷ fs) = f.operands

-- the arguments of the call that waits, the first one first
abbrev pub arguments : Program → Config → List ℕ
arguments program c = elim c.waiting [ None ↦ [] | Some x ↦ reverse (take (param_count program x) (newest_operands c.frames)) ]

abbrev pub answered_in : ℕ → List ℕ → Config → List Frame → Config
answered_in n results c [] = record c { waiting = None; frames = []; given = results }
answered_in n results c (f ∷ fs) = record c { waiting = None; frames = record f { operands = results ++ drop n f.operands } ∷ fs }

-- the call that waits is answered with these results, which take the place of its arguments
abbrev pub answered : Program → List ℕ → Config → Config
answered program results c = elim c.waiting [ None ↦ c | Some x ↦ answered_in (param_count program x) results c c.frames ]

-- a new gap
abbrev pub with_new_gap : Config → Config
with_new_gap c = record c { gap = 0 }
