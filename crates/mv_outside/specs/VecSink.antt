-- A sink in memory: what stands in it, and what a call leaves.
use Rattle.std.specs.Prelude.{◌≡◌, ◌⊎◌, ℕ, ◌/◌, Bool, List, ◌++◌, take, length, Result, Ok, Err}
use Rattle.mv_calls.specs.declared.fault.Or.{Or}
use Rattle.mv_calls.specs.declared.fault.Or.TheVariants.{Fault, OutOfMemory}
use Rattle.mv_outside.specs.Counts.{one_more, is_named}
use Rattle.mv_outside.specs.declared.fault.Failed.{Failed}

-- what a sink in memory holds
pub record SinkState : Type 0 where
  -- what was written
  pub written : List ℕ
  -- how many calls there were, and the numbers of those that are to fail
  pub calls : ℕ
  pub fail : List ℕ
  -- how often a call has failed
  pub faults : ℕ

-- the next call fails: its number is in the list
abbrev pub write_fails : SinkState → Bool
write_fails s = is_named s.fail s.calls

-- what a failed call leaves, where these bytes stand in the sink then
abbrev pub failed_with : SinkState → List ℕ → SinkState
failed_with s written = record s { calls = one_more s.calls; written = written; faults = one_more s.faults }

-- What a call leaves: the piece; where it fails, its first half, or nothing of it where there was no memory for that; and
-- nothing of it where memory was wanted.
abbrev pub Leaves : SinkState → List ℕ → Result Unit (Or Failed) → SinkState → Type 0
Leaves s piece (Ok done) now = now ≡ record s { calls = one_more s.calls; written = s.written ++ piece }
Leaves s piece (Err (Fault failed)) now = (now ≡ failed_with s (s.written ++ take (length piece / 2) piece)) ⊎ (now ≡ failed_with s s.written)
Leaves s piece (Err OutOfMemory) now = now ≡ record s { calls = one_more s.calls }
