-- A console in memory: what stands in it, and what each call answers and leaves.
use Rattle.std.specs.Prelude.{ℕ, ◌/◌, Bool, true, ◌||◌, if◌then◌else◌, List, [], ◌∷◌, ◌++◌, take, drop, length, Option, Some, None}
use Rattle.std.specs.Option.{option_map}
use Rattle.mv_outside.specs.Console.{line_limit}
use Rattle.mv_outside.specs.Counts.{one_more, is_named}
use Rattle.mv_outside.specs.declared.console.Line.{Line}
use Rattle.mv_outside.specs.declared.console.Line.TheVariants as line

-- what a console in memory holds
pub record ConsoleState : Type 0 where
  -- the lines and idle turns that are still to come
  pub coming : List (Option (List ℕ))
  -- what was said
  pub said : List ℕ
  -- how many calls of `next` and of `say` there were
  pub nexts : ℕ
  pub says : ℕ
  -- the numbers of the calls that are to fail
  pub fail_next : List ℕ
  pub fail_say : List ℕ
  -- whether a `next` has failed, and whether one has answered Closed
  pub failed : Bool
  pub closed : Bool
  -- how often a call has failed
  pub faults : ℕ

-- the same, with the room for what is to be said
pub record ConsoleSeen : Type 0 where
  pub state : ConsoleState
  pub room : ℕ

-- a line is handed on as its first bytes
abbrev pub handed : Option (List ℕ) → Option (List ℕ)
handed line = option_map (take line_limit) line

-- the next `next` fails: its number is in the list, or an earlier one failed
abbrev pub next_fails : ConsoleState → Bool
next_fails c = c.failed || is_named c.fail_next c.nexts

-- what is found where the first of these comes
abbrev pub first_line : List (Option (List ℕ)) → Line
first_line [] = line.Closed
first_line (Some bytes ∷ rest) = line.Line bytes
first_line (None ∷ rest) = line.Idle

-- what `next` answers
abbrev pub next_line : ConsoleState → Line
next_line c = if next_fails c then line.Failed else first_line c.coming

-- whether nothing comes any more
abbrev pub is_over : List (Option (List ℕ)) → Bool → Bool
is_over [] closed = true
is_over (first ∷ rest) closed = closed

-- what `next` leaves
abbrev pub after_next : ConsoleState → ConsoleState
after_next c = if next_fails c
    then record c { nexts = one_more c.nexts; failed = true; faults = one_more c.faults }
    else record c { nexts = one_more c.nexts; coming = drop 1 c.coming; closed = is_over c.coming c.closed }

-- the next `say` fails: its number is in the list
abbrev pub say_fails : ConsoleState → Bool
say_fails c = is_named c.fail_say c.says

-- what `say` leaves: the line, or its first half where it fails
abbrev pub after_say : ConsoleState → List ℕ → ConsoleState
after_say c line = if say_fails c
    then record c { says = one_more c.says; said = c.said ++ take (length line / 2) line; faults = one_more c.faults }
    else record c { says = one_more c.says; said = c.said ++ line }

-- whether a `next` has answered Closed or Failed
abbrev pub has_ended : ConsoleState → Bool
has_ended c = c.failed || c.closed
