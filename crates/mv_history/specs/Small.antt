-- How many entries a legal log has at most.
use Rattle.std.specs.Prelude.{◌≡◌, ℕ, ◌+◌, ◌≤◌, None}
use Rattle.mv_orders.specs.declared.stage.Stage.{Stage}
use Rattle.mv_orders.specs.declared.stage.Stage.TheVariants.{OldAlone, OldLeads, NewLeads, NewAlone}
use Rattle.mv_history.specs.Statuses.{update_limit}
use Rattle.mv_history.specs.declared.status.Status.{Status}

-- how many marks a judgement may still enter before the leader goes on
abbrev pub marks_left : Stage → ℕ
marks_left OldAlone = 0
marks_left OldLeads = 2
marks_left NewLeads = 1
marks_left NewAlone = 0

-- the counts since the base are within the limits, but for these marks
pub record IsSmall (st : Status) : Type 0 where
  pub entries : st.ended ≡ None → st.since + marks_left st.stage ≤ 999992
  -- with the end, too
  pub most : st.since ≤ 999993
  pub orders : st.fresh ≤ update_limit
