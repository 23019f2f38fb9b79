-- For private clauses: what lies under the core's lock.
use Rattle.std.specs.Prelude.{◌≡◌, ℕ, Bool, true, false, Option, Some, None}
use Rattle.atomic_table.specs.Seated.{TableId}
use Rattle.mv_version.specs.Behaviour.{Behaviour}
use Rattle.mv_history.specs.declared.log.How.{How}
use Rattle.mv_history.specs.declared.log.Log.{Log}
use Rattle.mv_ring.specs.Halves.{put_list, ring_of_in}
use Rattle.mv_ring.specs.declared.ring_in.RingIn.{RingIn}
use Rattle.mv_core.specs.Cuts.{is_cut}
use Rattle.mv_core.specs.Sound.{StartsAt, sent_by}
use Rattle.mv_core.specs.Whole.{Whole}
use Rattle.mv_rehearse.specs.Linked.{LineWaits}

-- what was put is what the log sent
abbrev pub Puts : {V : Type 0} → Behaviour V → Log → RingIn V → Type 0
Puts {V} b log feed = (first : V) → StartsAt b log first → sent_by b log first ≡ put_list feed

abbrev pub count_of : Bool → ℕ
count_of false = 0
count_of true = 1

-- 1 once the log has ended
abbrev pub ended_count : Option How → ℕ
ended_count None = 0
ended_count (Some how) = 1

pub record IsLeading {V K C F : Type 0} (b : Behaviour V) (ring : TableId) (core : Whole K C F) (feed : RingIn V) (total : ℕ) : Type 0 where
  pub of_ring : ring_of_in feed ≡ ring
  pub puts : Puts b core.log feed
  -- nobody cuts the log
  pub uncut : is_cut core.status.ended ≡ false
  -- the operator is asked, and a line waits only where the log ended for want of memory
  pub asks : core.orders ≡ true
  pub line : LineWaits core.status core.line
  -- the ledger says whether the log has ended
  pub counted : total ≡ ended_count core.status.ended
