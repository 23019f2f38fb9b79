-- What a log sends has nothing prepared.
use Rattle.std.proofs.Common.{cond, map, ◌≡◌, ◌+◌, ℕ, zero, suc, Bool, true, false, Option, Some, None, Result, Ok, Err, List, [], ◌∷◌, ◌++◌, refl, ap, subst}
use Rattle.mv_calls.specs.declared.calls.Call.{Call}
use Rattle.mv_calls.specs.declared.calls.Reply.{Reply}
use Rattle.mv_feed.specs.declared.msg.Msg.{Msg}
use Rattle.mv_feed.specs.declared.msg.Msg.TheVariants as msg
use Rattle.mv_syntax.specs.declared.fault.BornFault.{BornFault}
use Rattle.mv_version.specs.Behaviour.{Behaviour, IsSettled}
use Rattle.mv_history.specs.Followers.{Base, Forked, Standing, Following, begin, begin_by, hears_by, replayed, replayed_from, rewritten_by}
use Rattle.mv_history.specs.Replay.{Replayed, Stands, Fails, Unborn, replay, past, event_fits}
use Rattle.mv_history.specs.World.{World, begun, after_entry, after_entries, also_hears, also_stands, heard_by, reached_or, stood_or, sends, sent}
use Rattle.mv_history.specs.declared.log.Entry.{Entry}
use Rattle.mv_history.specs.declared.log.Entry.TheVariants as entry
use Rattle.mv_history.specs.declared.log.Mark.TheVariants as mark
use Rattle.mv_history.specs.declared.updates.Update.{Update}
use Rattle.mv_history.specs.Settled.{settled, AreSettled, IsSettledBase, IsSettledFollowing, IsSettledWorld}

module _ {V : Type 0} (b : Behaviour V) where
  -- each of them is taken as it is
  pub settled_each : (xs : List (Msg V)) (m : Msg V) (ys : List (Msg V)) → AreSettled b (xs ++ m ∷ ys) → settled b m ≡ m
  settled_each [] m ys h = h.0
  settled_each (x ∷ xs) m ys h = settled_each xs m ys h.1

  -- so are the first of them
  pub settled_front : (xs ys : List (Msg V)) → AreSettled b (xs ++ ys) → AreSettled b xs
  settled_front [] ys h = tt
  settled_front (m ∷ xs) ys h = (h.0, settled_front xs ys h.1)

  -- all of them are taken as they are
  pub settled_same : (xs : List (Msg V)) → AreSettled b xs → map (settled b) xs ≡ xs
  settled_same [] h = refl
  settled_same (m ∷ xs) h = λ i. h.0 i ∷ settled_same xs h.1 i

  both : (xs ys : List (Msg V)) → AreSettled b xs → AreSettled b ys → AreSettled b (xs ++ ys)
  both [] ys h k = k
  both (m ∷ xs) ys h k = (h.0, both xs ys h.1 k)

  abbrev IsPlain : V → Type 0
  IsPlain s = b.state s ≡ s

  replay_plain : IsSettled b → (items : List (Call × Reply)) (k : ℕ) (s t : V) → IsPlain s → replay b k s items ≡ Stands t → IsPlain t
  replay_plain law [] k s t plain is = subst IsPlain (inside is) plain
    where
      inside : Stands s ≡ Stands t → s ≡ t
      inside e = cc
  replay_plain law (item ∷ items) k s t plain is = by (event_fits (b.go (past b s)) item) (λ e. replay_plain law items (k + 1) (b.after (past b s) item.1) t (law.after_is (past b s) item.1) e) is
    where
      by : (x : Bool) → (replay b (k + 1) (b.after (past b s) item.1) items ≡ Stands t → IsPlain t) → cond x (replay b (k + 1) (b.after (past b s) item.1) items) (Fails k item.0 (b.go (past b s))) ≡ Stands t → IsPlain t
      by true more e = more e
      by false more e = absurd (cc)

  begin_plain : IsSettled b → (base : Base V) (files : Update) (s : V) → IsSettledBase b base → begin_by b base files ≡ Ok s → IsPlain s
  begin_plain law (Forked old) files s plain is = law.newborn_is old files.«module» s is
  begin_plain law (Standing old) files s plain is = subst IsPlain (inside is) plain
    where
      inside : ◌≡◌ {A = Result V BornFault} (Ok old) (Ok s) → old ≡ s
      inside e = cc

  from_plain : IsSettled b → (r : Result V BornFault) (items : List (Call × Reply)) (t : V) → ((s : V) → r ≡ Ok s → IsPlain s) → replayed_from b r items ≡ Stands t → IsPlain t
  from_plain law (Ok s) items t plain is = replay_plain law items 0 s t (plain s refl) is
  from_plain law (Err fault) items t plain is = absurd (let bad : Unborn fault ≡ Stands t = is in cc)

  stood_plain : IsSettled b → (lead : V) (f : Following V) (r : Replayed V) → IsPlain lead → IsSettledBase b f.base → replayed b true f ≡ r → IsPlain (stood_or lead r)
  stood_plain law lead f (Stands t) plain base is = from_plain law (begin b f) (rewritten_by true (hears_by f) f.heard) t (λ s at. begin_plain law f.base f.files s base at) is
  stood_plain law lead f (Fails k want met) plain base is = plain
  stood_plain law lead f (Unborn fault) plain base is = plain

  reached_plain : IsSettled b → (lead : V) (f : Option (Following V)) → IsPlain lead → IsSettledFollowing b f → IsPlain (reached_or b lead f)
  reached_plain law lead None plain following = plain
  reached_plain law lead (Some f) plain following = stood_plain law lead f (replayed b true f) plain following refl

  hears_plain : (f : Option (Following V)) (item : Call × Reply) → IsSettledFollowing b f → IsSettledFollowing b (also_hears f item)
  hears_plain None item plain = tt
  hears_plain (Some f) item plain = plain

  stands_plain : (lead : V) (f : Option (Following V)) → IsPlain lead → IsSettledFollowing b (also_stands lead f)
  stands_plain lead None plain = tt
  stands_plain lead (Some f) plain = plain

  after_plain : IsSettled b → (updates : List Update) (w : World V) (e : Entry) → IsSettledWorld b w → IsSettledWorld b (after_entry b updates w e)
  after_plain law updates w (entry.Call item) p = record { lead = law.after_is w.lead item.1; following = hears_plain w.following item p.following }
  after_plain law updates w entry.Point p = record { lead = law.passed_is w.lead; following = p.following }
  after_plain law updates w (entry.Order text answer) p = record { lead = p.lead; following = p.following }
  after_plain law updates w (entry.Mark (mark.Fork u)) p = record { lead = p.lead; following = tt }
  after_plain law updates w (entry.Mark (mark.NoCopy u)) p = record { lead = p.lead; following = p.following }
  after_plain law updates w (entry.Mark (mark.Hand x)) p = record { lead = p.lead; following = p.following }
  after_plain law updates w (entry.Mark mark.Promote) p = record { lead = reached_plain law w.lead w.following p.lead p.following; following = stands_plain w.lead w.following p.lead }
  after_plain law updates w (entry.Mark mark.Over) p = record { lead = reached_plain law w.lead w.following p.lead p.following; following = tt }
  after_plain law updates w (entry.Mark mark.Back) p = record { lead = reached_plain law w.lead w.following p.lead p.following; following = tt }
  after_plain law updates w (entry.Mark mark.Finish) p = record { lead = p.lead; following = tt }
  after_plain law updates w (entry.Mark (mark.Discard x)) p = record { lead = p.lead; following = tt }
  after_plain law updates w (entry.Mark (mark.Dropped x)) p = record { lead = p.lead; following = tt }
  after_plain law updates w (entry.Mark (mark.End x)) p = record { lead = p.lead; following = tt }

  -- the worlds of a log stay settled
  pub world_settled : IsSettled b → (updates : List Update) (es : List Entry) (w : World V) → IsSettledWorld b w → IsSettledWorld b (after_entries b updates w es)
  world_settled law updates [] w p = p
  world_settled law updates (e ∷ es) w p = world_settled law updates es (after_entry b updates w e) (after_plain law updates w e p)

  heard_settled : (n : ℕ) (item : Call × Reply) → AreSettled b (heard_by n item)
  heard_settled zero item = tt
  heard_settled (suc n) item = (refl, tt)

  sends_settled : (updates : List Update) (w : World V) (e : Entry) → IsSettledWorld b w → AreSettled b (sends updates w e)
  sends_settled updates w (entry.Call item) p = heard_settled w.status.follower item
  sends_settled updates w entry.Point p = tt
  sends_settled updates w (entry.Order text answer) p = tt
  sends_settled updates w (entry.Mark (mark.Fork u)) p = (refl, tt)
  sends_settled updates w (entry.Mark (mark.NoCopy u)) p = tt
  sends_settled updates w (entry.Mark (mark.Hand x)) p = (refl, tt)
  sends_settled updates w (entry.Mark mark.Promote) p = (ap (λ (s : V). msg.Stand s) p.lead, tt)
  sends_settled updates w (entry.Mark mark.Over) p = tt
  sends_settled updates w (entry.Mark mark.Back) p = tt
  sends_settled updates w (entry.Mark mark.Finish) p = tt
  sends_settled updates w (entry.Mark (mark.Discard x)) p = tt
  sends_settled updates w (entry.Mark (mark.Dropped x)) p = tt
  sends_settled updates w (entry.Mark (mark.End x)) p = tt

  -- what a log sends is settled
  pub sent_settled : IsSettled b → (updates : List Update) (es : List Entry) (w : World V) → IsSettledWorld b w → AreSettled b (sent b updates w es)
  sent_settled law updates [] w p = tt
  sent_settled law updates (e ∷ es) w p = both (sends updates w e) (sent b updates (after_entry b updates w e) es) (sends_settled updates w e p) (sent_settled law updates es (after_entry b updates w e) (after_plain law updates w e p))

  pub first_settled : (first : V) → b.state first ≡ first → IsSettledWorld b (begun first)
  first_settled first still = record { lead = still; following = tt }

  pub started_settled : IsSettled b → (bytes : List ℕ) (args : List (List ℕ)) (first : V) → b.started bytes args ≡ Ok first → IsSettledWorld b (begun first)
  started_settled law bytes args first started = first_settled first (law.started_is bytes args first started)
