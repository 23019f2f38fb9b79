-- The entry that a turn makes may come.
use Rattle.std.specs.Prelude.{◌≡◌, ℕ, zero, suc, ◌<◌, Bool, true, false, cond, Option, Some, None, List, refl}
use Rattle.std.proofs.Common.{ap, arith, sym, subst, ◌∙◌}
use Rattle.mv_calls.specs.declared.calls.Call.{Call}
use Rattle.mv_calls.specs.declared.calls.Reply.{Reply}
use Rattle.mv_calls.specs.declared.trap.Trap.{Trap}
use Rattle.mv_orders.specs.declared.reply.OrderReply.{OrderReply}
use Rattle.mv_orders.specs.declared.stage.Stage.{Stage}
use Rattle.mv_orders.specs.declared.stage.Stage.TheVariants.{OldAlone, OldLeads, NewLeads, NewAlone}
use Rattle.mv_orders.specs.declared.stage.Word.{Word}
use Rattle.mv_orders.specs.declared.stage.Word.TheVariants as word
use Rattle.mv_version.specs.Behaviour.{Behaviour}
use Rattle.mv_version.specs.declared.event.Event.{Event}
use Rattle.mv_version.specs.declared.event.Event.TheVariants as event
use Rattle.mv_history.specs.Followers.{Base, Forked, Standing, Following, is_forked}
use Rattle.mv_history.specs.Leads.{Chosen, lead_entry, urgent_entry, line_entry, event_entry, point_entry, fork_entry, trap_entry, call_entry, OkLine}
use Rattle.mv_history.specs.Shapes.{WordFits, WantedFits, WhyFits, BaseFits, FollowerFits, Shaped}
use Rattle.mv_history.specs.Statuses.{is_alone, is_old_leads, is_new_leads, is_within, point_leads, wanted_leads, word_leads, urgent_of, urgent_wanted, urgent_word}
use Rattle.mv_history.specs.World.{World, IsOpen, IsFree, MayEnter, OfFollower}
use Rattle.mv_history.specs.declared.log.Entry.TheVariants as entry
use Rattle.mv_history.specs.declared.log.How.TheVariants as how
use Rattle.mv_history.specs.declared.log.Mark.TheVariants as mark
use Rattle.mv_history.specs.declared.log.Why.{Why}
use Rattle.mv_history.specs.declared.log.Why.TheVariants as why
use Rattle.mv_history.specs.declared.status.AtPoint.{AtPoint}
use Rattle.mv_history.specs.declared.status.AtPoint.TheVariants as at
use Rattle.mv_history.specs.declared.status.Urgent.{Urgent}
use Rattle.mv_history.specs.declared.status.Urgent.TheVariants as urgent
use Rattle.mv_history.specs.declared.status.Wanted.{Wanted}
use Rattle.mv_history.specs.declared.updates.Update.{Update}
use Rattle.mv_history.proofs.ShapeLaws.{wanted_hands}

old_is : (stage : Stage) → is_old_leads stage ≡ true → stage ≡ OldLeads
old_is OldAlone h = absurd (let bad : false ≡ true = h in cc)
old_is OldLeads h = refl
old_is NewLeads h = absurd (let bad : false ≡ true = h in cc)
old_is NewAlone h = absurd (let bad : false ≡ true = h in cc)

new_is : (stage : Stage) → is_new_leads stage ≡ true → stage ≡ NewLeads
new_is OldAlone h = absurd (let bad : false ≡ true = h in cc)
new_is OldLeads h = absurd (let bad : false ≡ true = h in cc)
new_is NewLeads h = refl
new_is NewAlone h = absurd (let bad : false ≡ true = h in cc)

-- the stage of what is wanted at once
abbrev UrgentFits : Stage → Urgent → Type 0
UrgentFits stage (urgent.Discard n) = stage ≡ OldLeads
UrgentFits stage urgent.Finish = stage ≡ NewLeads
UrgentFits stage urgent.Halt = Unit {0}
UrgentFits stage urgent.Nothing = Unit {0}

word_urgent : (stage : Stage) (w : Word) (n : ℕ) → WordFits stage w → UrgentFits stage (urgent_word w n)
word_urgent stage word.Update n fits = tt
word_urgent stage word.Promote n fits = tt
word_urgent stage word.Discard n fits = old_is stage fits
word_urgent stage word.Finish n fits = new_is stage fits
word_urgent stage word.Back n fits = tt
word_urgent stage word.Halt n fits = tt

wanted_urgent : (stage : Stage) (wanted : Option Wanted) → WantedFits stage wanted → UrgentFits stage (urgent_wanted wanted)
wanted_urgent stage None fits = tt
wanted_urgent stage (Some wanted) fits = word_urgent stage wanted.word wanted.n fits

-- no order asks for a hand-over by a trap
no_trap : (wanted : Option Wanted) (stage : Stage) (t : Trap) → wanted_leads wanted stage ≡ at.Hands (why.Trap t) → ⊥
no_trap None stage t h = let bad : at.Passes ≡ at.Hands (why.Trap t) = h in cc
no_trap (Some wanted) stage t h = no_word wanted.word stage wanted.update t h
  where
    no_word : (w : Word) (stage : Stage) (n : ℕ) (t : Trap) → word_leads w stage n ≡ at.Hands (why.Trap t) → ⊥
    no_word word.Update stage n t h =
        (elim (is_alone stage) as (λ s. cond s (at.Forks n) at.Passes ≡ at.Hands (why.Trap t) → ⊥)
        [ true ↦ λ g. (let bad : at.Forks n ≡ at.Hands (why.Trap t) = g in cc) | false ↦ λ g. (let bad : at.Passes ≡ at.Hands (why.Trap t) = g in cc) ]) h
    no_word word.Promote stage n t h = let bad : at.Hands why.Promote ≡ at.Hands (why.Trap t) = h in cc
    no_word word.Discard stage n t h = let bad : at.Passes ≡ at.Hands (why.Trap t) = h in cc
    no_word word.Finish stage n t h = let bad : at.Passes ≡ at.Hands (why.Trap t) = h in cc
    no_word word.Back stage n t h = let bad : at.Hands why.Back ≡ at.Hands (why.Trap t) = h in cc
    no_word word.Halt stage n t h = let bad : at.Passes ≡ at.Hands (why.Trap t) = h in cc

why_leads : (stage : Stage) (x : Why) → WhyFits stage x → is_alone stage ≡ false
why_leads stage why.Promote fits = ap is_alone (old_is stage fits)
why_leads stage why.Back fits = ap is_alone (new_is stage fits)
why_leads stage (why.Trap t) fits = fits

some_follower : {V : Type 0} (stage : Stage) (n : ℕ) (f : Option (Following V)) → FollowerFits stage n f → is_alone stage ≡ false → 0 < n
some_follower stage n None fits leads = absurd (let bad : false ≡ true = sym leads ∙ fits.1 in cc)
some_follower stage n (Some f) fits leads = fits.0

no_follower : {V : Type 0} (stage : Stage) (n : ℕ) (f : Option (Following V)) → n ≡ 0 → FollowerFits stage n f → is_alone stage ≡ true
no_follower stage n None none fits = fits.1
no_follower stage n (Some f) none fits = absurd (omega (arith, none, fits.0))

module _ {V : Type 0} (b : Behaviour V) (updates : List Update) where
  forked_base : (base : Base V) → BaseFits OldLeads base → is_forked base
  forked_base (Forked s) fits = tt
  forked_base (Standing s) fits = absurd fits

  is_new_version : (n : ℕ) (f : Option (Following V)) → FollowerFits OldLeads n f → OfFollower b f (λ g. is_forked g.base)
  is_new_version n None fits = absurd (let bad : false ≡ true = fits.1 in cc)
  is_new_version n (Some f) fits = forked_base f.base fits.1

  module _ (w : World V) (chosen : Chosen) (shaped : Shaped w) (runs : w.status.ended ≡ None) (unasked : w.status.asked ≡ None) where
    hand_may : (x : Why) → IsFree w.status → point_leads w.status ≡ at.Hands x → b.go w.lead ≡ event.Point → MayEnter b updates w (entry.Mark (mark.Hand x))
    hand_may why.Promote free leads here =
        (free, some_follower w.status.stage w.status.follower w.following (shaped.follower runs) (why_leads w.status.stage why.Promote (wanted_hands w.status.wanted w.status.stage why.Promote leads (shaped.wanted runs))), (leads, here))
    hand_may why.Back free leads here =
        (free, some_follower w.status.stage w.status.follower w.following (shaped.follower runs) (why_leads w.status.stage why.Back (wanted_hands w.status.wanted w.status.stage why.Back leads (shaped.wanted runs))), (leads, here))
    hand_may (why.Trap t) free leads here = absurd (no_trap w.status.wanted w.status.stage t leads)

    fork_may : (u : ℕ) (copied : Bool) → IsFree w.status → point_leads w.status ≡ at.Forks u → b.go w.lead ≡ event.Point → MayEnter b updates w (fork_entry u copied)
    fork_may u true free leads here = (free, leads, here)
    fork_may u false free leads here = (free, leads, here)

    point_may : (p : AtPoint) → IsFree w.status → point_leads w.status ≡ p → b.go w.lead ≡ event.Point → MayEnter b updates w (point_entry p chosen.copied)
    point_may (at.Forks u) free leads here = fork_may u chosen.copied free leads here
    point_may (at.Hands x) free leads here = hand_may x free leads here
    point_may at.Passes free leads here = (free, here, leads)

    call_may : (c : Call) (r : Option Reply) → IsFree w.status → b.go w.lead ≡ event.Calls c → MayEnter b updates w (call_entry c r)
    call_may c None free here = (free, (c, here))
    call_may c (Some r) free here = (free, here)

    trap_may : (n : ℕ) (t : Trap) → w.status.follower ≡ n → IsFree w.status → b.go w.lead ≡ event.Traps t → MayEnter b updates w (trap_entry n t)
    trap_may zero t is free here = (free, no_follower w.status.stage w.status.follower w.following is (shaped.follower runs), here)
    trap_may (suc n) t is free here = (free, omega (arith, is), here)

    event_may : (e : Event) → IsFree w.status → b.go w.lead ≡ e → MayEnter b updates w (event_entry e w.status chosen)
    event_may (event.Calls c) free here = call_may c chosen.reply free here
    event_may event.Point free here = point_may (point_leads w.status) free refl here
    event_may (event.Ends code) free here = (free, here)
    event_may (event.Traps t) free here = trap_may w.status.follower t refl free here

    line_may : (line : Option (List ℕ × OrderReply)) → OkLine w.status updates line → IsFree w.status → MayEnter b updates w (line_entry line (b.go w.lead) w.status chosen)
    line_may None ok free = event_may (b.go w.lead) free refl
    line_may (Some line) ok free = (free, ok)

    urgent_may : (u : Urgent) → OkLine w.status updates chosen.line → IsOpen w.status → urgent_of w.status ≡ u → UrgentFits w.status.stage u → MayEnter b updates w (urgent_entry u (b.go w.lead) w.status chosen)
    urgent_may (urgent.Discard n) ok runs_on is fits =
        (runs, fits, (is_new_version w.status.follower w.following (subst (λ s. FollowerFits s w.status.follower w.following) fits (shaped.follower runs)), is))
    urgent_may urgent.Finish ok runs_on is fits = (runs_on, fits, is)
    urgent_may urgent.Halt ok runs_on is fits = (runs_on, is)
    urgent_may urgent.Nothing ok runs_on is fits = line_may chosen.line ok (record { is_open = runs_on; calm = is })

    limit_may : (within : Bool) → is_within w.status ≡ within → OkLine w.status updates chosen.line → MayEnter b updates w (cond within (urgent_entry (urgent_of w.status) (b.go w.lead) w.status chosen) (entry.Mark (mark.End how.LogLimit)))
    limit_may true is ok =
        urgent_may (urgent_of w.status) ok (record { runs = runs; unasked = unasked; within = is }) refl (wanted_urgent w.status.stage w.status.wanted (shaped.wanted runs))
    limit_may false is ok = (runs, unasked, is)

    pub lead_may : OkLine w.status updates chosen.line → MayEnter b updates w (lead_entry b w.lead w.status chosen)
    lead_may ok = limit_may (is_within w.status) refl ok
