-- What the core and the ring leave under the core's lock.
use Rattle.std.proofs.Common.{◌≡◌, ◌≢◌, ◌↔◌, inl, inr, ◌+◌, ◌≤◌, ◌++◌, [], ◌∷◌, ℕ, List, Option, Some, None, Ok, true, false, map, refl, sym, ap, subst, ◌∙◌, append-nil, append_assoc, length, length-append, arith}
use Rattle.std.specs.Prelude.{is_some}
use Rattle.mv_feed.specs.Feeds.{BeginsWith}
use Rattle.mv_feed.specs.declared.msg.Msg.{Msg}
use Rattle.mv_version.specs.Behaviour.{Behaviour, IsSettled}
use Rattle.mv_history.proofs.Settling.{sent_settled, settled_front, settled_same, started_settled}
use Rattle.mv_history.proofs.WorldLaws.{sent-append}
use Rattle.mv_history.specs.Settled.{AreSettled, settled}
use Rattle.mv_history.specs.World.{begun, sent}
use Rattle.mv_history.specs.declared.log.Entry.TheVariants as entry
use Rattle.mv_history.specs.declared.log.How.{How}
use Rattle.mv_history.specs.declared.log.How.TheVariants as how
use Rattle.mv_history.specs.declared.log.Log.{Log}
use Rattle.mv_history.specs.declared.log.Mark.TheVariants as mark
use Rattle.mv_history.specs.declared.status.Status.{Status}
use Rattle.mv_ring.specs.Halves.{put_list, in_stands, in_grows}
use Rattle.mv_ring.specs.Laws.{in_alive}
use Rattle.mv_ring.specs.declared.ring_in.RingIn.{RingIn}
use Rattle.mv_core.specs.Sound.{StartsAt, PutsSent, PutsMore, sent_by}
use Rattle.mv_core.specs.Verdicts.{IsShown}
use Rattle.mv_core.specs.declared.core_value.Turn.{Turn}
use Rattle.mv_core.specs.declared.core_value.Turn.TheVariants as turn
use Rattle.mv_core.specs.declared.judging.Verdict.{Verdict}
use Rattle.mv_rehearse.specs.Linked.{IsShownTo, LineWaits}
use Rattle.mv_host.specs.Keeps.{Puts, ended_count}

module _ {V : Type 0} (b : Behaviour V) where
  -- ## The ring

  puts_one : (feed : RingIn V) (put : List (Msg V)) → put ≡ put_list feed → in_stands feed put (put_list feed)
  puts_one feed put is = subst (λ l. in_stands feed l (put_list feed)) (sym is) (in_alive feed)

  -- the half stands for what was sent
  pub puts_sent : (log : Log) (feed : RingIn V) → Puts b log feed → PutsSent b in_stands log feed
  puts_sent log feed puts first started = (put_list feed, puts_one feed (sent_by b log first) (puts first started))

  put_from : (feed : RingIn V) (put taken : List (Msg V)) → in_stands feed put taken → put ≡ put_list feed
  put_from feed put taken h = h.0

  more_from : (feed : RingIn V) (put taken : List (Msg V)) → (more : List (Msg V)) × in_grows taken more × in_stands feed put more → put ≡ put_list feed
  more_from feed put taken (more, grows, stands) = put_from feed put more stands

  same_start : (old new : Log) (first : V) → new.start ≡ old.start → StartsAt b new first → StartsAt b old first
  same_start old new first same started = subst (λ s. b.started s.«module» s.args ≡ Ok first) same started

  -- so it does once more was sent
  pub puts_more : (old new : Log) (feed after : RingIn V) → new.start ≡ old.start → PutsMore b in_stands in_grows old feed new after → Puts b old feed → Puts b new after
  puts_more old new feed after same gains puts first started =
      let at_old = same_start old new first same started in
      more_from after (sent_by b new first) (put_list feed) (gains first (put_list feed) at_old (puts_one feed (sent_by b old first) (puts first at_old)))

  -- the end for want of memory sends nothing
  pub puts_end : (old new : Log) (feed : RingIn V) → new.start ≡ old.start → new.updates.list ≡ old.updates.list → new.entries.list ≡ old.entries.list ++ entry.Mark (mark.End how.Memory) ∷ [] → Puts b old feed → Puts b new feed
  puts_end old new feed same updates list puts first started =
      ap (λ us. sent b us (begun first) new.entries.list) updates ∙ ap (sent b old.updates.list (begun first)) list
      ∙ sent-append b old.updates.list (begun first) old.entries.list (entry.Mark (mark.End how.Memory) ∷ []) ∙ append-nil (sent_by b old first)
      ∙ puts first (same_start old new first same started)

  pub puts_none : (log : Log) (feed : RingIn V) → log.entries.list ≡ [] → put_list feed ≡ [] → Puts b log feed
  puts_none log feed none put first started = ap (sent b log.updates.list (begun first)) none ∙ sym put

  -- ## A verdict that waited

  -- what was noted has nothing prepared
  pub noted_settled : (law : IsSettled b) (log : Log) (first : V) (noted : List (Msg V)) → StartsAt b log first → BeginsWith (sent_by b log first) noted → map (settled b) noted ≡ noted
  noted_settled law log first noted started begins =
      let all = sent_settled b law log.updates.list log.entries.list (begun first) (started_settled b law log.start.«module» log.start.args first started) in
      settled_same b noted (settled_front b noted begins.0 (subst (AreSettled b) begins.1 all))

  shown_over : (messages put noted : List (Msg V)) (behind update : ℕ) (verdict : Verdict V) → messages ≡ put → BeginsWith put noted → behind + length noted ≤ length put → IsShownTo b noted update verdict → IsShown b messages behind update verdict
  shown_over messages put noted behind update verdict same begins near over =
      let len = ap length begins.1 ∙ length-append noted begins.0 in
      let more = length-append over.rest begins.0 in
      record {
        prefix = over.prefix;
        rest = over.rest ++ begins.0;
        sent_is = same ∙ (begins.1 ∙ (ap (λ l. l ++ begins.0) over.taken_is ∙ append_assoc over.prefix over.rest begins.0));
        near = omega (arith, near, len, more);
        place = over.place;
        place_is = over.place_is;
        of_update = over.of_update;
        shows = over.shows;
      }

  -- it is shown over what was sent
  pub shown_whole : (law : IsSettled b) (log : Log) (first : V) (put noted : List (Msg V)) (behind update : ℕ) (verdict : Verdict V) → StartsAt b log first → sent_by b log first ≡ put → BeginsWith put noted → behind + length noted ≤ length put →
      IsShownTo b (map (settled b) noted) update verdict → IsShown b (sent_by b log first) behind update verdict
  shown_whole law log first put noted behind update verdict started same begins near over =
      shown_over (sent_by b log first) put noted behind update verdict same begins near (subst (λ l. IsShownTo b l update verdict) (noted_settled law log first noted started (begins.0, same ∙ begins.1)) over)

-- ## The status

pub ended_by : (old new : Option How) (r : Turn) → ((h : How) → (r ≡ turn.Ended h) ↔ (old ≡ Some h)) → (r ≢ turn.Did → new ≡ old) → (h : How) → r ≡ turn.Ended h → new ≡ Some h
ended_by old new r ended same h is = same (λ did. let bad : turn.Did ≡ turn.Ended h = sym did ∙ is in cc) ∙ (ended h).0 is

pub stays_ended : (old new : Option How) (r : Turn) → ((h : How) → (r ≡ turn.Ended h) ↔ (old ≡ Some h)) → (r ≢ turn.Did → new ≡ old) → is_some old ≡ true → is_some new ≡ true
stays_ended None new r ended same is = absurd (let bad : false ≡ true = is in cc)
stays_ended (Some h) new r ended same is =
    let by : r ≡ turn.Ended h = (ended h).1 refl in
    ap is_some (same (λ did. let bad : turn.Did ≡ turn.Ended h = sym did ∙ by in cc))

-- a turn that wanted memory was on a log that goes on
pub runs_by : (old new : Option How) (r : Turn) → r ≡ turn.Memory → ((h : How) → (r ≡ turn.Ended h) ↔ (old ≡ Some h)) → (r ≢ turn.Did → new ≡ old) → new ≡ None
runs_by None new r is ended same = same (λ did. let bad : turn.Did ≡ turn.Memory = sym did ∙ is in cc)
runs_by (Some h) new r is ended same = absurd (let bad : turn.Memory ≡ turn.Ended h = sym is ∙ (ended h).1 refl in cc)

-- what a turn leaves of the start
pub start_by : (old new : Log) (r : Turn) → (r ≡ turn.Did → new.start ≡ old.start) → (r ≢ turn.Did → new.start ≡ old.start) → new.start ≡ old.start
start_by old new turn.Did did other = did refl
start_by old new (turn.Full n) did other = other (λ bad. cc)
start_by old new turn.Handing did other = other (λ bad. cc)
start_by old new (turn.Ended h) did other = other (λ bad. cc)
start_by old new turn.Memory did other = other (λ bad. cc)

-- a verdict changes nothing of it
pub line_kept : (old new : Status) (line line_after : Option (List ℕ)) → new.ended ≡ old.ended → line_after ≡ line → LineWaits old line → LineWaits new line_after
line_kept old new line line_after ended same (inl none) = inl (same ∙ none)
line_kept old new line line_after ended same (inr over) = inr (ended ∙ over)

-- the whole share says that the log has ended
pub over : (total amount : ℕ) (e : Option How) → amount ≡ 1 → amount ≡ total → total ≡ ended_count e → (h : How) × (e ≡ Some h)
over total amount None one same counted = absurd (omega (arith, one, same, counted))
over total amount (Some h) one same counted = (h, refl)
