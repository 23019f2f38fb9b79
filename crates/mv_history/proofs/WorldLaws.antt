-- One entry more.
use Rattle.std.specs.Prelude.{◌≡◌, ℕ, ◌+◌, ◌≤◌, ◌<◌, true, ◌&&◌, nat_lt, nat_le, List, [], ◌∷◌, ◌++◌, refl, length, None, Some}
use Rattle.std.proofs.Common.{ap, arith, append_assoc, sym, subst, ◌∙◌}
use Rattle.std.proofs.lemmas.Bool.Decides.{nat_tests}
use Rattle.mv_orders.specs.Reply.{reply_text}
use Rattle.mv_orders.specs.declared.stage.Stage.{Stage}
use Rattle.mv_orders.specs.declared.stage.Stage.TheVariants.{OldAlone, OldLeads, NewLeads, NewAlone}
use Rattle.mv_version.specs.Behaviour.{Behaviour}
use Rattle.mv_history.specs.Statuses.{status_after, changed, entry_limit, payload_limit, update_limit, answered}
use Rattle.mv_history.specs.World.{World, IsOpen, after_entry, after_entries, MayEnd, MayEnter, MayMark, AreLegal, outside, said, texts, sends, sent}
use Rattle.mv_history.specs.Small.{marks_left, IsSmall}
use Rattle.mv_history.specs.declared.log.Entry.{Entry}
use Rattle.mv_history.specs.declared.log.Entry.TheVariants as entry
use Rattle.mv_history.specs.declared.log.How.{How}
use Rattle.mv_history.specs.declared.log.How.TheVariants as how
use Rattle.mv_history.specs.declared.log.Mark.{Mark}
use Rattle.mv_history.specs.declared.log.Mark.TheVariants as mark
use Rattle.mv_history.specs.declared.status.Status.{Status}
use Rattle.mv_history.specs.declared.updates.Update.{Update}
use Rattle.mv_history.proofs.OrderLaws.{order_few, order_keeps}

pub outside-append : (es fs : List Entry) → outside (es ++ fs) ≡ outside es ++ outside fs
outside-append [] fs = refl
outside-append (entry.Call item ∷ es) fs = ap (λ l. item ∷ l) (outside-append es fs)
outside-append (entry.Point ∷ es) fs = outside-append es fs
outside-append (entry.Order o r ∷ es) fs = outside-append es fs
outside-append (entry.Mark m ∷ es) fs = outside-append es fs

pub said-append : (es fs : List Entry) → said (es ++ fs) ≡ said es ++ said fs
said-append [] fs = refl
said-append (entry.Call item ∷ es) fs = said-append es fs
said-append (entry.Point ∷ es) fs = said-append es fs
said-append (entry.Order o r ∷ es) fs = ap (λ l. reply_text r ++ l) (said-append es fs) ∙ sym (append_assoc (reply_text r) (said es) (said fs))
said-append (entry.Mark m ∷ es) fs = said-append es fs

pub texts-append : (es fs : List Entry) → texts (es ++ fs) ≡ texts es ++ texts fs
texts-append [] fs = refl
texts-append (entry.Call item ∷ es) fs = texts-append es fs
texts-append (entry.Point ∷ es) fs = texts-append es fs
texts-append (entry.Order o r ∷ es) fs = ap (λ l. o ∷ l) (texts-append es fs)
texts-append (entry.Mark m ∷ es) fs = texts-append es fs

within_by : (since weight : ℕ) → (nat_lt since entry_limit && nat_le weight payload_limit) ≡ true → since < entry_limit
within_by since weight h = grind (arith, nat_tests, h)

pub open_few : (st : Status) → IsOpen st → st.since < entry_limit
open_few st runs = within_by st.since st.weight runs.within

-- a judgement has two marks left at most
pub marks_few : (s : Stage) → marks_left s ≤ 2
marks_few OldAlone = omega arith
marks_few OldLeads = omega arith
marks_few NewLeads = omega arith
marks_few NewAlone = omega arith

-- what an entry adds to the count of updates it adds to that of the log
mark_rises : (st : Status) (m : Mark) → ((changed st (entry.Mark m)).updates + st.fresh ≡ st.updates + (changed st (entry.Mark m)).fresh) × (st.updates ≤ (changed st (entry.Mark m)).updates)
mark_rises st (mark.Fork u) = (refl, omega arith)
mark_rises st (mark.NoCopy u) = (refl, omega arith)
mark_rises st (mark.Hand x) = (refl, omega arith)
mark_rises st mark.Promote = (refl, omega arith)
mark_rises st mark.Over = (refl, omega arith)
mark_rises st mark.Back = (refl, omega arith)
mark_rises st mark.Finish = (refl, omega arith)
mark_rises st (mark.Discard x) = (refl, omega arith)
mark_rises st (mark.Dropped x) = (refl, omega arith)
mark_rises st (mark.End x) = (refl, omega arith)

pub entry_rises : (st : Status) (e : Entry) → ((status_after st e).updates + st.fresh ≡ st.updates + (status_after st e).fresh) × (st.updates ≤ (status_after st e).updates)
entry_rises st (entry.Call item) = (refl, omega arith)
entry_rises st entry.Point = (refl, omega arith)
entry_rises st (entry.Order text r) = let keeps = order_keeps st r in (keeps.rises, keeps.updates)
entry_rises st (entry.Mark m) = mark_rises st m

module _ {V : Type 0} (b : Behaviour V) (updates : List Update) where
  pub after_entries-append : (w : World V) (es fs : List Entry) →
      after_entries b updates w (es ++ fs) ≡ after_entries b updates (after_entries b updates w es) fs
  after_entries-append w [] fs = refl
  after_entries-append w (x ∷ es) fs = after_entries-append (after_entry b updates w x) es fs

  pub sent-append : (w : World V) (es fs : List Entry) →
      sent b updates w (es ++ fs) ≡ sent b updates w es ++ sent b updates (after_entries b updates w es) fs
  sent-append w [] fs = refl
  sent-append w (x ∷ es) fs = ap (λ l. sends updates w x ++ l) (sent-append (after_entry b updates w x) es fs) ∙ sym (append_assoc (sends updates w x) (sent b updates (after_entry b updates w x) es) (sent b updates (after_entries b updates (after_entry b updates w x) es) fs))

  pub AreLegal-append : (w : World V) (es fs : List Entry) →
      AreLegal b updates w es → AreLegal b updates (after_entries b updates w es) fs → AreLegal b updates w (es ++ fs)
  AreLegal-append w [] fs legal more = more
  AreLegal-append w (x ∷ es) fs legal more = (legal.0, AreLegal-append (after_entry b updates w x) es fs legal.1 more)

  pub AreLegal-front : (w : World V) (es fs : List Entry) → AreLegal b updates w (es ++ fs) → AreLegal b updates w es
  AreLegal-front w [] fs legal = tt
  AreLegal-front w (x ∷ es) fs legal = (legal.0, AreLegal-front (after_entry b updates w x) es fs legal.1)

  pub AreLegal-back : (w : World V) (es fs : List Entry) → AreLegal b updates w (es ++ fs) → AreLegal b updates (after_entries b updates w es) fs
  AreLegal-back w [] fs legal = legal
  AreLegal-back w (x ∷ es) fs legal = AreLegal-back (after_entry b updates w x) es fs legal.1

  -- ## An entry comes only while the log goes on

  end_runs : (w : World V) (x : How) → MayEnd b w x → w.status.ended ≡ None
  end_runs w (how.Ended code) may = may.0.is_open.runs
  end_runs w (how.Trapped trap) may = may.0.is_open.runs
  end_runs w how.Halted may = may.0.runs
  end_runs w how.KernelFault may = may.0.is_open.runs
  end_runs w how.LogLimit may = may.0
  end_runs w how.Memory may = may
  end_runs w how.Cut may = may

  mark_runs : (w : World V) (m : Mark) → MayMark b w m → w.status.ended ≡ None
  mark_runs w (mark.Fork u) may = may.0.is_open.runs
  mark_runs w (mark.NoCopy u) may = may.0.is_open.runs
  mark_runs w (mark.Hand x) may = may.0.is_open.runs
  mark_runs w mark.Promote may = may.0
  mark_runs w mark.Over may = may.0
  mark_runs w mark.Back may = may.0
  mark_runs w mark.Finish may = may.0.runs
  mark_runs w (mark.Discard x) may = may.0
  mark_runs w (mark.Dropped x) may = may.0
  mark_runs w (mark.End x) may = end_runs w x may

  pub entry_runs : (w : World V) (e : Entry) → MayEnter b updates w e → w.status.ended ≡ None
  entry_runs w (entry.Call item) may = may.0.is_open.runs
  entry_runs w entry.Point may = may.0.is_open.runs
  entry_runs w (entry.Order text r) may = may.0.is_open.runs
  entry_runs w (entry.Mark m) may = mark_runs w m may

  -- ## The counts stay within the limits

  mark_small : (w : World V) (m : Mark) → MayMark b w m → IsSmall w.status → (status_after w.status (entry.Mark m)).ended ≡ None → (status_after w.status (entry.Mark m)).since + marks_left (status_after w.status (entry.Mark m)).stage ≤ 999992
  mark_small w (mark.Fork u) may small runs = let h = open_few w.status may.0.is_open in omega (arith, h)
  mark_small w (mark.NoCopy u) may small runs = let h = open_few w.status may.0.is_open in omega (arith, h, marks_few w.status.stage)
  mark_small w (mark.Hand x) may small runs = let h = open_few w.status may.0.is_open in omega (arith, h, marks_few w.status.stage)
  mark_small w mark.Promote may small runs = let h = rw may.1 at (small.entries may.0) in omega (arith, h)
  mark_small w mark.Over may small runs = let h = rw may.1 at (small.entries may.0) in omega (arith, h)
  mark_small w mark.Back may small runs = let h = rw may.1 at (small.entries may.0) in omega (arith, h)
  mark_small w mark.Finish may small runs = let h = open_few w.status may.0 in omega (arith, h)
  mark_small w (mark.Discard x) may small runs = let h = rw may.1 at (small.entries may.0) in omega (arith, h)
  mark_small w (mark.Dropped x) may small runs = let h = rw may.1 at (small.entries may.0) in omega (arith, h)
  mark_small w (mark.End x) may small runs = absurd (let h : Some x ≡ None = runs in cc)

  mark_fresh : (st : Status) (m : Mark) → (status_after st (entry.Mark m)).fresh ≡ st.fresh
  mark_fresh st (mark.Fork u) = refl
  mark_fresh st (mark.NoCopy u) = refl
  mark_fresh st (mark.Hand x) = refl
  mark_fresh st mark.Promote = refl
  mark_fresh st mark.Over = refl
  mark_fresh st mark.Back = refl
  mark_fresh st mark.Finish = refl
  mark_fresh st (mark.Discard x) = refl
  mark_fresh st (mark.Dropped x) = refl
  mark_fresh st (mark.End x) = refl

  -- before an entry the log goes on, so there is place for one
  one_more : (w : World V) (e : Entry) → MayEnter b updates w e → IsSmall w.status → w.status.since + 1 ≤ 999993
  one_more w e may small = let h = small.entries (entry_runs w e may) in omega (arith, h)

  small_once : (w : World V) (e : Entry) → MayEnter b updates w e → IsSmall w.status → IsSmall (status_after w.status e)
  small_once w (entry.Call item) may small = record {
    entries = λ _. let h = open_few w.status may.0.is_open in omega (arith, h, marks_few w.status.stage);
    most = one_more w (entry.Call item) may small;
    orders = small.orders;
  }
  small_once w entry.Point may small = record {
    entries = λ _. let h = open_few w.status may.0.is_open in omega (arith, h, marks_few w.status.stage);
    most = one_more w entry.Point may small;
    orders = small.orders;
  }
  small_once w (entry.Order text r) may small = record {
    entries = λ _. let h = open_few w.status may.0.is_open in omega (arith, h, marks_few (answered w.status r).stage);
    most = one_more w (entry.Order text r) may small;
    orders = order_few w.status updates text r may.1 small.orders;
  }
  small_once w (entry.Mark m) may small =
      record { entries = mark_small w m may small; most = one_more w (entry.Mark m) may small; orders = subst (λ n. n ≤ update_limit) (sym (mark_fresh w.status m)) small.orders }

  pub legal_small : (w : World V) (es : List Entry) → AreLegal b updates w es → IsSmall w.status → IsSmall (after_entries b updates w es).status
  legal_small w [] legal small = small
  legal_small w (e ∷ es) legal small = legal_small (after_entry b updates w e) es legal.1 (small_once w e legal.0 small)

  pub number-length : (w : World V) (es : List Entry) → (after_entries b updates w es).status.number ≡ w.status.number + length es
  number-length w [] = omega arith
  number-length w (e ∷ es) = omega (arith, number-length (after_entry b updates w e) es)

  pub since-length : (w : World V) (es : List Entry) → (after_entries b updates w es).status.since ≡ w.status.since + length es
  since-length w [] = omega arith
  since-length w (e ∷ es) = omega (arith, since-length (after_entry b updates w e) es)

  -- as many updates more are accepted as stand in the log more
  pub updates_rise : (w : World V) (es : List Entry) → (after_entries b updates w es).status.updates + w.status.fresh ≡ w.status.updates + (after_entries b updates w es).status.fresh
  updates_rise w [] = omega arith
  updates_rise w (e ∷ es) = let one = entry_rises w.status e in let more = updates_rise (after_entry b updates w e) es in omega (arith, one.0, more)

  pub updates_more : (w : World V) (es : List Entry) → w.status.updates ≤ (after_entries b updates w es).status.updates
  updates_more w [] = omega arith
  updates_more w (e ∷ es) = let one = entry_rises w.status e in let more = updates_more (after_entry b updates w e) es in omega (arith, one.1, more)

  -- the bounds of a legal log
  pub entries_few : (w : World V) (es : List Entry) → AreLegal b updates w es → IsSmall w.status → w.status.since + length es ≤ 999993
  entries_few w es legal small = let h = (legal_small w es legal small).most in let n = since-length w es in omega (arith, h, n)

  pub updates_few : (w : World V) (es : List Entry) → AreLegal b updates w es → IsSmall w.status → (after_entries b updates w es).status.updates + w.status.fresh ≤ w.status.updates + 64
  updates_few w es legal small =
      let few : (after_entries b updates w es).status.fresh ≤ 64 = (legal_small w es legal small).orders in
      let rise = updates_rise w es in omega (arith, few, rise)
