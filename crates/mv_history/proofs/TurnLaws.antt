-- What the entry of a turn leaves and sends.
use Rattle.std.specs.Prelude.{◌≡◌, ℕ, zero, suc, ◌&&◌, Bool, true, false, cond, nat_lt, List, [], ◌∷◌, Option, Some, None, refl}
use Rattle.std.proofs.Common.{◌∙◌, ap, arith, sym}
use Rattle.std.proofs.lemmas.Bool.Decides.{nat_tests}
use Rattle.mv_calls.specs.declared.calls.Call.{Call}
use Rattle.mv_calls.specs.declared.calls.Reply.{Reply}
use Rattle.mv_calls.specs.declared.trap.Trap.{Trap}
use Rattle.mv_feed.specs.declared.msg.Msg.TheVariants as msg
use Rattle.mv_orders.specs.declared.reply.OrderReply.{OrderReply}
use Rattle.mv_version.specs.Behaviour.{Behaviour}
use Rattle.mv_version.specs.declared.event.Event.{Event}
use Rattle.mv_version.specs.declared.event.Event.TheVariants as event
use Rattle.mv_history.specs.Leads.{Chosen, call_entry, event_entry, event_needs_room, is_calm, lead_entry, line_entry, line_needs_room, needs_room, point_entry, point_needs_room, trap_entry, urgent_entry}
use Rattle.mv_history.specs.Statuses.{is_within, point_leads, urgent_of}
use Rattle.mv_history.specs.Stretches.{KeepsLeader, MarksAre}
use Rattle.mv_history.specs.World.{World, files_of, fork_msg, heard_by, sends}
use Rattle.mv_history.specs.declared.log.Entry.{Entry}
use Rattle.mv_history.specs.declared.log.Entry.TheVariants as entry
use Rattle.mv_history.specs.declared.log.How.TheVariants as how
use Rattle.mv_history.specs.declared.log.Mark.TheVariants as mark
use Rattle.mv_history.specs.declared.status.AtPoint.{AtPoint}
use Rattle.mv_history.specs.declared.status.AtPoint.TheVariants as at
use Rattle.mv_history.specs.declared.status.Status.{Status}
use Rattle.mv_history.specs.declared.status.Urgent.{Urgent}
use Rattle.mv_history.specs.declared.status.Urgent.TheVariants as urgent
use Rattle.mv_history.specs.declared.updates.Update.{Update}
pub use Rattle.mv_history.proofs.ExtendsLaws.{sends_few}

-- ## The leader stays

abbrev Keeps : Entry → Type 0
Keeps e = MarksAre KeepsLeader (e ∷ [])

point_keeps : (p : AtPoint) (copied : Bool) → Keeps (point_entry p copied)
point_keeps (at.Forks u) true = (tt, tt)
point_keeps (at.Forks u) false = (tt, tt)
point_keeps (at.Hands x) copied = (tt, tt)
point_keeps at.Passes copied = tt

call_keeps : (c : Call) (r : Option Reply) → Keeps (call_entry c r)
call_keeps c None = (tt, tt)
call_keeps c (Some r) = tt

trap_keeps : (n : ℕ) (t : Trap) → Keeps (trap_entry n t)
trap_keeps zero t = (tt, tt)
trap_keeps (suc n) t = (tt, tt)

event_keeps : (e : Event) (st : Status) (chosen : Chosen) → Keeps (event_entry e st chosen)
event_keeps (event.Calls c) st chosen = call_keeps c chosen.reply
event_keeps event.Point st chosen = point_keeps (point_leads st) chosen.copied
event_keeps (event.Ends code) st chosen = (tt, tt)
event_keeps (event.Traps t) st chosen = trap_keeps st.follower t

line_keeps : (line : Option (List ℕ × OrderReply)) (e : Event) (st : Status) (chosen : Chosen) → Keeps (line_entry line e st chosen)
line_keeps None e st chosen = event_keeps e st chosen
line_keeps (Some line) e st chosen = tt

urgent_keeps : (u : Urgent) (e : Event) (st : Status) (chosen : Chosen) → Keeps (urgent_entry u e st chosen)
urgent_keeps (urgent.Discard n) e st chosen = (tt, tt)
urgent_keeps urgent.Finish e st chosen = (tt, tt)
urgent_keeps urgent.Halt e st chosen = (tt, tt)
urgent_keeps urgent.Nothing e st chosen = line_keeps chosen.line e st chosen

limit_keeps : (within : Bool) (e : Event) (st : Status) (chosen : Chosen) → Keeps (cond within (urgent_entry (urgent_of st) e st chosen) (entry.Mark (mark.End how.LogLimit)))
limit_keeps true e st chosen = urgent_keeps (urgent_of st) e st chosen
limit_keeps false e st chosen = (tt, tt)

-- the entry of a turn changes no leader
pub lead_keeps : {V : Type 0} (b : Behaviour V) (lead : V) (st : Status) (chosen : Chosen) → MarksAre KeepsLeader (lead_entry b lead st chosen ∷ [])
lead_keeps b lead st chosen = limit_keeps (is_within st) (b.go lead) st chosen

-- ## Messages

-- what is sent depends on the leader and the status alone
pub sends_alike : {V : Type 0} (us : List Update) (v w : World V) (e : Entry) → v.lead ≡ w.lead → v.status ≡ w.status → sends us v e ≡ sends us w e
sends_alike us v w (entry.Call item) lead status = ap (λ st. heard_by st.follower item) status
sends_alike us v w entry.Point lead status = refl
sends_alike us v w (entry.Order text r) lead status = refl
sends_alike us v w (entry.Mark (mark.Fork u)) lead status = λ i. fork_msg u (lead i) (files_of us (status i) u) ∷ []
sends_alike us v w (entry.Mark (mark.NoCopy u)) lead status = refl
sends_alike us v w (entry.Mark (mark.Hand x)) lead status = λ i. msg.Hand (status i).number ∷ []
sends_alike us v w (entry.Mark mark.Promote) lead status = λ i. msg.Stand (lead i) ∷ []
sends_alike us v w (entry.Mark mark.Over) lead status = refl
sends_alike us v w (entry.Mark mark.Back) lead status = refl
sends_alike us v w (entry.Mark mark.Finish) lead status = refl
sends_alike us v w (entry.Mark (mark.Discard x)) lead status = refl
sends_alike us v w (entry.Mark (mark.Dropped x)) lead status = refl
sends_alike us v w (entry.Mark (mark.End x)) lead status = refl

positive : (n : ℕ) → nat_lt 0 (suc n) ≡ true
positive n = grind (arith, nat_tests)

module _ {V : Type 0} (us : List Update) (w : World V) (chosen : Chosen) where
  abbrev Silent : Entry → Type 0
  Silent e = sends us w e ≡ []

  none_call : (c : Call) (r : Option Reply) (n : ℕ) → w.status.follower ≡ n → nat_lt 0 n ≡ false → Silent (call_entry c r)
  none_call c None n is few = refl
  none_call c (Some r) zero is few = ap (λ k. heard_by k (c, r)) is
  none_call c (Some r) (suc n) is few = absurd (let bad : true ≡ false = sym (positive n) ∙ few in cc)

  none_point : (p : AtPoint) (copied : Bool) → point_needs_room p ≡ false → Silent (point_entry p copied)
  none_point (at.Forks u) copied few = absurd (let bad : true ≡ false = few in cc)
  none_point (at.Hands x) copied few = absurd (let bad : true ≡ false = few in cc)
  none_point at.Passes copied few = refl

  none_trap : (n : ℕ) (t : Trap) → nat_lt 0 n ≡ false → Silent (trap_entry n t)
  none_trap zero t few = refl
  none_trap (suc n) t few = absurd (let bad : true ≡ false = sym (positive n) ∙ few in cc)

  none_event : (e : Event) → event_needs_room e w.status ≡ false → Silent (event_entry e w.status chosen)
  none_event (event.Calls c) few = none_call c chosen.reply w.status.follower refl few
  none_event event.Point few = none_point (point_leads w.status) chosen.copied few
  none_event (event.Ends code) few = refl
  none_event (event.Traps t) few = none_trap w.status.follower t few

  none_line : (line : Option (List ℕ × OrderReply)) (e : Event) → line_needs_room line e w.status ≡ false → Silent (line_entry line e w.status chosen)
  none_line None e few = none_event e few
  none_line (Some line) e few = refl

  none_urgent : (u : Urgent) (e : Event) → cond (is_calm u) (line_needs_room chosen.line e w.status) false ≡ false → Silent (urgent_entry u e w.status chosen)
  none_urgent (urgent.Discard n) e few = refl
  none_urgent urgent.Finish e few = refl
  none_urgent urgent.Halt e few = refl
  none_urgent urgent.Nothing e few = none_line chosen.line e few

  none_within : (t : Bool) (e : Event) → cond (t && is_calm (urgent_of w.status)) (line_needs_room chosen.line e w.status) false ≡ false →
      Silent (cond t (urgent_entry (urgent_of w.status) e w.status chosen) (entry.Mark (mark.End how.LogLimit)))
  none_within true e few = none_urgent (urgent_of w.status) e few
  none_within false e few = refl

  -- a turn that needs no place for a message sends none
  pub sends_none : (b : Behaviour V) → needs_room b w.lead w.status chosen.line ≡ false → sends us w (lead_entry b w.lead w.status chosen) ≡ []
  sends_none b few = none_within (is_within w.status) (b.go w.lead) few
