-- The mark of a judgement may come.
use Rattle.std.specs.Prelude.{◌≡◌, ℕ, zero, suc, Bool, true, false, cond, nat_lt, ◌&&◌, Option, Some, None, List, [], refl}
use Rattle.std.proofs.Common.{ap, arith, sym, subst, ◌∙◌, inl, inr}
use Rattle.std.proofs.lemmas.Bool.Decides.{nat_tests}
use Rattle.mv_calls.specs.declared.calls.Call.{Call}
use Rattle.mv_calls.specs.declared.calls.Reply.{Reply}
use Rattle.mv_calls.specs.declared.trap.Trap.{Trap}
use Rattle.mv_orders.specs.declared.reply.OrderReply.{OrderReply}
use Rattle.mv_orders.specs.declared.stage.Stage.{Stage}
use Rattle.mv_orders.specs.declared.stage.Stage.TheVariants.{OldAlone, OldLeads, NewLeads, NewAlone}
use Rattle.mv_version.specs.Behaviour.{Behaviour}
use Rattle.mv_version.specs.declared.event.Event.{Event}
use Rattle.mv_version.specs.declared.event.Event.TheVariants as event
use Rattle.mv_history.specs.Followers.{Base, Forked, Standing, Following, Reaches}
use Rattle.mv_history.specs.Judged.{IsReadyAs}
use Rattle.mv_history.specs.Leads.{Chosen, lead_entry, urgent_entry, line_entry, event_entry, point_entry, fork_entry, trap_entry, call_entry, is_calm, point_needs_room, event_needs_room, line_needs_room, needs_room, failed_mark, handed_mark, ready_by, ready_mark}
use Rattle.mv_history.specs.Shapes.{AskedFits, WhyFits, BaseFits, FollowerFits, Shaped}
use Rattle.mv_history.specs.Statuses.{is_within, point_leads, urgent_of}
use Rattle.mv_history.specs.World.{World, IsReady, MayMark, OfFollower, Shows, after_entry, lead_marked, reached_or, stood_or, sends, heard_by}
use Rattle.mv_history.specs.declared.log.Cause.{Cause}
use Rattle.mv_history.specs.declared.log.Cause.TheVariants as cause
use Rattle.mv_history.specs.declared.log.Entry.TheVariants as entry
use Rattle.mv_history.specs.declared.log.How.{How}
use Rattle.mv_history.specs.declared.log.How.TheVariants as how
use Rattle.mv_history.specs.declared.log.Mark.{Mark}
use Rattle.mv_history.specs.declared.log.Mark.TheVariants as mark
use Rattle.mv_history.specs.declared.log.Why.{Why}
use Rattle.mv_history.specs.declared.log.Why.TheVariants as why
use Rattle.mv_history.specs.declared.status.Asked.{Asked}
use Rattle.mv_history.specs.declared.status.AtPoint.{AtPoint}
use Rattle.mv_history.specs.declared.status.AtPoint.TheVariants as at
use Rattle.mv_history.specs.declared.status.Urgent.{Urgent}
use Rattle.mv_history.specs.declared.status.Urgent.TheVariants as urgent
use Rattle.mv_history.specs.declared.updates.Update.{Update}

-- ## Where there is a follower

ended_cases : {V : Type 0} (w : World V) (f : Following V) (x : Option How) → w.status.ended ≡ x → Shaped w → w.following ≡ Some f → w.status.ended ≡ None
ended_cases w f None is shaped follows = is
ended_cases w f (Some x) is shaped follows =
    absurd (let none = (shaped.over (λ runs. let bad : Some x ≡ None = sym is ∙ runs in cc)).alone in let bad : None ≡ Some f = sym none ∙ follows in cc)

-- the log goes on
pub follows_runs : {V : Type 0} (w : World V) (f : Following V) → Shaped w → w.following ≡ Some f → w.status.ended ≡ None
follows_runs w f shaped follows = ended_cases w f w.status.ended refl shaped follows

-- no version is alone
pub follows_fits : {V : Type 0} (w : World V) (f : Following V) → Shaped w → w.following ≡ Some f → BaseFits w.status.stage f.base
follows_fits {V} w f shaped follows =
    let fits = subst (λ (o : Option (Following V)). FollowerFits w.status.stage w.status.follower o) follows (shaped.follower (follows_runs w f shaped follows)) in fits.1

module _ {V : Type 0} (b : Behaviour V) where
  some_follower : (o : Option (Following V)) (P : Following V → Type 0) → OfFollower b o P → (f : Following V) × (o ≡ Some f)
  some_follower None P h = absurd h
  some_follower (Some f) P h = (f, refl)

  pub shows_follower : (w : World V) (c : Cause) → Shows b w c → (f : Following V) × (w.following ≡ Some f)
  shows_follower w (cause.Rules side fault) h = some_follower w.following _ h
  shows_follower w (cause.Refused fault) h = some_follower w.following _ h
  shows_follower w (cause.Trap k trap) h = some_follower w.following _ h
  shows_follower w (cause.Mismatch k want got) h = some_follower w.following _ h
  shows_follower w (cause.Order n) h = some_follower w.following _ h.0
  shows_follower w cause.Memory h = some_follower w.following _ h

  -- ## A follower that is given up

  failed_at : (w : World V) (c : Cause) (stage : Stage) (base : Base V) → w.status.stage ≡ stage → BaseFits stage base → w.status.ended ≡ None → Shows b w c → MayMark b w (failed_mark stage c)
  failed_at w c OldLeads base is fits runs shows = (runs, is, shows)
  failed_at w c NewLeads base is fits runs shows = (runs, is, shows)
  failed_at w c OldAlone (Forked s) is fits runs shows = absurd fits
  failed_at w c OldAlone (Standing s) is fits runs shows = absurd fits
  failed_at w c NewAlone (Forked s) is fits runs shows = absurd fits
  failed_at w c NewAlone (Standing s) is fits runs shows = absurd fits

  pub failed_may : (w : World V) (c : Cause) → Shaped w → Shows b w c → MayMark b w (failed_mark w.status.stage c)
  failed_may w c shaped shows =
      let f = shows_follower w c shows in
      failed_at w c w.status.stage f.0.base refl (follows_fits w f.0 shaped f.1) (follows_runs w f.0 shaped f.1) shows

  -- ## A follower that is ready

  pub is_ready : (w : World V) (f : Following V) (s : V) → IsReadyAs b w f s → IsReady b w
  is_ready w f s ready = subst (λ (o : Option (Following V)). OfFollower b o (λ g. (t : V) × Reaches b g t)) (sym ready.follows) (s, ready.reaches)

  module _ (w : World V) (ready : IsReady b w) (runs : w.status.ended ≡ None) (n : ℕ) where
    old_may : (x : Why) → w.status.stage ≡ OldLeads → w.status.asked ≡ Some (record { why = x; n = n }) → WhyFits OldLeads x → MayMark b w (handed_mark x)
    old_may why.Promote is asked fits = (runs, is, (n, asked), ready)
    old_may why.Back is asked fits = absurd (let bad : false ≡ true = fits in cc)
    old_may (why.Trap t) is asked fits = (runs, is, (t, (n, asked)), ready)

    new_may : (x : Why) → w.status.stage ≡ NewLeads → w.status.asked ≡ Some (record { why = x; n = n }) → WhyFits NewLeads x → MayMark b w mark.Back
    new_may why.Promote is asked fits = absurd (let bad : false ≡ true = fits in cc)
    new_may why.Back is asked fits = (runs, is, inl (n, asked), ready)
    new_may (why.Trap t) is asked fits = (runs, is, inr (t, (n, asked)), ready)

    ready_at : (stage : Stage) (base : Base V) (x : Why) → w.status.stage ≡ stage → BaseFits stage base → w.status.asked ≡ Some (record { why = x; n = n }) → WhyFits stage x → MayMark b w (ready_by stage x)
    ready_at OldLeads base x is fits asked allowed = old_may x is asked allowed
    ready_at NewLeads base x is fits asked allowed = new_may x is asked allowed
    ready_at OldAlone (Forked s) x is fits asked allowed = absurd fits
    ready_at OldAlone (Standing s) x is fits asked allowed = absurd fits
    ready_at NewAlone (Forked s) x is fits asked allowed = absurd fits
    ready_at NewAlone (Standing s) x is fits asked allowed = absurd fits

  -- what was asked, where a mark answers it
  asked_for : (stage : Stage) (asked : Option Asked) (m : Mark) → ready_mark stage asked ≡ Some m → (x : Why) × (n : ℕ) × (asked ≡ Some (record { why = x; n = n })) × (m ≡ ready_by stage x)
  asked_for stage None m is = absurd (let bad : None ≡ Some m = is in cc)
  asked_for stage (Some a) m is = (a.why, a.n, refl, (let e : Some (ready_by stage a.why) ≡ Some m = is in let same : ready_by stage a.why ≡ m = cc in sym same))

  allowed_is : (w : World V) (x : Why) (n : ℕ) → Shaped w → w.status.ended ≡ None → w.status.asked ≡ Some (record { why = x; n = n }) → WhyFits w.status.stage x
  allowed_is w x n shaped runs asked = subst (λ (o : Option Asked). AskedFits w.status.stage o) asked (shaped.asked runs)

  pub ready_may : (w : World V) (m : Mark) → Shaped w → IsReady b w → ready_mark w.status.stage w.status.asked ≡ Some m → MayMark b w m
  ready_may w m shaped ready is =
      let f = some_follower w.following _ ready in
      let runs = follows_runs w f.0 shaped f.1 in
      let asks = asked_for w.status.stage w.status.asked m is in
      subst (λ (k : Mark). MayMark b w k) (sym asks.3)
      (ready_at w ready runs asks.1 w.status.stage f.0.base asks.0 refl (follows_fits w f.0 shaped f.1) asks.2 (allowed_is w asks.0 asks.1 shaped runs asks.2))

  leads_by : (w : World V) (stage : Stage) (x : Why) → lead_marked b w (ready_by stage x) ≡ reached_or b w.lead w.following
  leads_by w OldAlone why.Promote = refl
  leads_by w OldAlone why.Back = refl
  leads_by w OldAlone (why.Trap t) = refl
  leads_by w OldLeads why.Promote = refl
  leads_by w OldLeads why.Back = refl
  leads_by w OldLeads (why.Trap t) = refl
  leads_by w NewLeads x = refl
  leads_by w NewAlone why.Promote = refl
  leads_by w NewAlone why.Back = refl
  leads_by w NewAlone (why.Trap t) = refl

  -- the state that it reached leads
  pub ready_leads : (updates : List Update) (w : World V) (f : Following V) (s : V) (m : Mark) → IsReadyAs b w f s → ready_mark w.status.stage w.status.asked ≡ Some m → (after_entry b updates w (entry.Mark m)).lead ≡ s
  ready_leads updates w f s m ready is =
      let asks = asked_for w.status.stage w.status.asked m is in
      ap (λ (k : Mark). lead_marked b w k) asks.3 ∙ leads_by w w.status.stage asks.0
      ∙ ap (λ (o : Option (Following V)). reached_or b w.lead o) ready.follows ∙ ap (stood_or w.lead) ready.reaches.stands
