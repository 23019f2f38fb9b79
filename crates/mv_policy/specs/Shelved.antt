-- For private clauses: what was said, with the place for more, and the parts of a console that keeps to a policy.
use Rattle.std.specs.Prelude.{ℕ, List}
use Rattle.mv_policy.specs.declared.spoken.Spoken.{Spoken}

pub record Shelved : Type 0 where
  pub spoken : List Spoken
  -- how long a reply may be that is kept now
  pub room : ℕ
  -- how many may be kept
  pub free : ℕ
