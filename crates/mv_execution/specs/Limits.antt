-- The limits of this host that a run keeps: how many calls are open, how many operands they have together, how far the gap
-- has risen, and the place for the answer of a call that waits (WebAssembly Core 1.0, 7.2, leaves such limits to the host).
use Rattle.std.specs.Prelude.{◌≡◌, ℕ, ◌+◌, ◌≤◌, List, [], ◌∷◌, Option, Some, None, length, slice_get}
use Rattle.mv_execution.specs.Values.{arity_of}
use Rattle.mv_execution.specs.Config.{Program, Frame, Config, frame_limit, operand_limit, gap_limit, operand_count}
use Rattle.mv_execution.specs.Step.{without_operands}
use Rattle.mv_execution.specs.Run.{param_count}

-- how many results the function with this index gives
abbrev pub result_count : Program → ℕ → ℕ
result_count program x = elim (slice_get program.functions x) [ None ↦ 0 | Some function ↦ arity_of function.ftype.result ]

-- the calls, the newest one without so many operands
abbrev pub without_newest : ℕ → List Frame → List Frame
without_newest n [] = []
without_newest n (f ∷ fs) = without_operands n f ∷ fs

-- with its results in the place of its arguments, the call that waits leaves no more operands than there may be
abbrev pub HasPlace : Program → Option ℕ → List Frame → Type 0
HasPlace program None frames = Unit {0}
HasPlace program (Some x) frames = operand_count (without_newest (param_count program x) frames) + result_count program x ≤ operand_limit

-- results are given only where no call is left and none waits
abbrev pub GivesLast : Option ℕ → List Frame → List ℕ → Type 0
GivesLast None [] given = Unit {0}
GivesLast waiting frames given = given ≡ []

pub record IsWithinLimits (program : Program) (c : Config) : Type 0 where
  pub frames : length c.frames ≤ frame_limit
  pub operands : operand_count c.frames ≤ operand_limit
  pub gap : c.gap ≤ gap_limit
  pub place : HasPlace program c.waiting c.frames
  pub given : GivesLast c.waiting c.frames c.given
