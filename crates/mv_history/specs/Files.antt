-- The files that a log has of its updates.
use Rattle.std.specs.Prelude.{◌≡◌, ℕ, ◌+◌, ◌≤◌, ◌<◌, Some, List, length}
use Rattle.mv_history.specs.Ties.{update_wanted}
use Rattle.mv_history.specs.declared.status.Status.{Status}
use Rattle.mv_history.specs.declared.updates.Update.{Update}

-- The log has the files of each update that was accepted since its base, and `past` were accepted before that. An update that
-- is wanted is the last of those that the log has.
pub record HasFiles (past : ℕ) (updates : List Update) (st : Status) : Type 0 where
  pub count : st.updates ≡ st.fresh + past
  pub held : st.fresh ≤ length updates
  pub wanted : (u : ℕ) → update_wanted st.wanted ≡ Some u → (u ≡ st.updates) × (0 < st.fresh)
