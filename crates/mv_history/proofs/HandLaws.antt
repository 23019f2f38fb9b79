-- After a hand-over was asked nothing is sent until it is answered.
use Rattle.std.specs.Prelude.{◌≡◌, ℕ, zero, suc, ◌+◌, ◌<◌, Option, Some, None, List, [], ◌∷◌, ◌++◌, refl}
use Rattle.std.proofs.Common.{ap, arith, sym, subst, ◌∙◌, inl, inr, append-nil, append_assoc}
use Rattle.mv_calls.specs.declared.calls.Call.{Call}
use Rattle.mv_calls.specs.declared.calls.Reply.{Reply}
use Rattle.mv_feed.specs.declared.msg.Msg.{Msg}
use Rattle.mv_feed.specs.declared.msg.Msg.TheVariants as msg
use Rattle.mv_version.specs.Behaviour.{Behaviour}
use Rattle.mv_history.specs.Followers.{Following}
use Rattle.mv_history.specs.Places.{Place, place_after, place_from}
use Rattle.mv_history.specs.Ties.{hand_of, Ties, HandsPast, Waits}
use Rattle.mv_history.specs.World.{World, after_entry, after_entries, MayEnter, AreLegal, sends, heard_by, sent}
use Rattle.mv_history.specs.declared.log.Entry.{Entry}
use Rattle.mv_history.specs.declared.log.Entry.TheVariants as entry
use Rattle.mv_history.specs.declared.log.Mark.TheVariants as mark
use Rattle.mv_history.specs.declared.updates.Update.{Update}
use Rattle.mv_history.proofs.ExtendsLaws.{cut, sends_few}
use Rattle.mv_history.proofs.TiesLaws.{ties_once, place_from-append}

abbrev hand_is : {V : Type 0} → Option (Place V) → Option ℕ
hand_is None = None
hand_is (Some p) = p.hand

module _ {V : Type 0} (b : Behaviour V) (updates : List Update) where
  past_heard : (number : ℕ) (place : Option (Place V)) (item : Call × Reply) → HandsPast number place → HandsPast (number + 1) (place_after place (msg.Heard item))
  past_heard number None item past p m is hand = absurd (let bad : None ≡ Some p = is in cc)
  past_heard number (Some q) item past p m is hand =
      let h = past q m refl (let e : q.hand ≡ p.hand = ap hand_is is in e ∙ hand) in omega (arith, h)

  past_calls : (number : ℕ) (place : Option (Place V)) (item : Call × Reply) (f : ℕ) → HandsPast number place → HandsPast (number + 1) (place_from place (heard_by f item))
  past_calls number place item zero past = λ p m is hand. let h = past p m is hand in omega (arith, h)
  past_calls number place item (suc f) past = past_heard number place item past

  no_hand : (place : Place V) (p : Place V) (m : ℕ) → place.hand ≡ None → Some place ≡ Some p → p.hand ≡ Some m → ⊥
  no_hand place p m none is hand = let e = ap hand_is is in let bad : None ≡ Some m = sym none ∙ e ∙ hand in cc

  past_stand : (number : ℕ) (place : Option (Place V)) (s : V) → HandsPast (number + 1) (place_after place (msg.Stand s))
  past_stand number None s p m is hand = absurd (let bad : None ≡ Some p = is in cc)
  past_stand number (Some q) s p m is hand = absurd (no_hand _ p m refl is hand)

  past_hand : (number : ℕ) (place : Option (Place V)) → HandsPast (number + 1) (place_after place (msg.Hand number))
  past_hand number None p m is hand = absurd (let bad : None ≡ Some p = is in cc)
  past_hand number (Some q) p m is hand = let e : Some number ≡ Some m = (let e = ap hand_is is in e ∙ hand) in let h : number ≡ m = cc in omega (arith, h)

  past_more : (number : ℕ) (place : Option (Place V)) → HandsPast number place → HandsPast (number + 1) place
  past_more number place past p m is hand = let h = past p m is hand in omega (arith, h)

  pub past_once : (w : World V) (place : Option (Place V)) (e : Entry) → HandsPast w.status.number place → HandsPast (w.status.number + 1) (place_from place (sends updates w e))
  past_once w place (entry.Call item) past = past_calls w.status.number place item w.status.follower past
  past_once w place entry.Point past = past_more w.status.number place past
  past_once w place (entry.Order text r) past = past_more w.status.number place past
  past_once w place (entry.Mark (mark.Fork u)) past = λ p m is hand. absurd (no_hand _ p m refl is hand)
  past_once w place (entry.Mark (mark.NoCopy u)) past = past_more w.status.number place past
  past_once w place (entry.Mark (mark.Hand x)) past = past_hand w.status.number place
  past_once w place (entry.Mark mark.Promote) past = past_stand w.status.number place w.lead
  past_once w place (entry.Mark mark.Over) past = past_more w.status.number place past
  past_once w place (entry.Mark mark.Back) past = past_more w.status.number place past
  past_once w place (entry.Mark mark.Finish) past = past_more w.status.number place past
  past_once w place (entry.Mark (mark.Discard x)) past = past_more w.status.number place past
  past_once w place (entry.Mark (mark.Dropped x)) past = past_more w.status.number place past
  past_once w place (entry.Mark (mark.End x)) past = past_more w.status.number place past

  module _ (n : ℕ) (early : Place V) (handed : early.hand ≡ Some n) where
    waits_more : (number : ℕ) (place : Option (Place V)) (since : List (Msg V)) → Waits n early number place since → Waits n early (number + 1) place (since ++ [])
    waits_more number place since waits = (omega (arith, waits.0), elim waits.1 [ inl same ↦ inl (same.0, append-nil since ∙ same.1) | inr passed ↦ inr passed ])

    -- while it waits a hand-over is asked
    asked_still : (w : World V) (place : Option (Place V)) → Ties w place → 0 < w.status.follower → w.status.asked ≡ None → place ≡ Some early → ⊥
    asked_still w place ties alive unasked is =
        let at = ties.known alive in
        let e : Some at.at ≡ Some early = sym at.is_at ∙ is in
        let h = ap hand_is e in
        let bad : None ≡ Some n = sym (ap hand_of unasked) ∙ at.hand ∙ h ∙ handed in cc

    waits_heard : (number : ℕ) (place : Option (Place V)) (item : Call × Reply) (since : List (Msg V)) → n < number → ((p : Place V) (m : ℕ) → place ≡ Some p → p.hand ≡ Some m → n < m) → Waits n early (number + 1) (place_after place (msg.Heard item)) since
    waits_heard number None item since below passed = (omega (arith, below), inr (λ p m is hand. absurd (let bad : None ≡ Some p = is in cc)))
    waits_heard number (Some q) item since below passed = (omega (arith, below), inr (λ p m is hand. passed q m refl (let e = ap hand_is is in e ∙ hand)))

    waits_hand : (number : ℕ) (place : Option (Place V)) (since : List (Msg V)) → n < number → Waits n early (number + 1) (place_after place (msg.Hand number)) since
    waits_hand number None since below = (omega (arith, below), inr (λ p m is hand. absurd (let bad : None ≡ Some p = is in cc)))
    waits_hand number (Some q) since below = (omega (arith, below), inr (λ p m is hand. let e : Some number ≡ Some m = (let e = ap hand_is is in e ∙ hand) in let h : number ≡ m = cc in omega (arith, h, below)))

    waits_stand : (number : ℕ) (place : Option (Place V)) (s : V) (since : List (Msg V)) → n < number → Waits n early (number + 1) (place_after place (msg.Stand s)) since
    waits_stand number None s since below = (omega (arith, below), inr (λ p m is hand. absurd (let bad : None ≡ Some p = is in cc)))
    waits_stand number (Some q) s since below = (omega (arith, below), inr (λ p m is hand. absurd (no_hand _ p m refl is hand)))

    waits_call : (w : World V) (place : Option (Place V)) (item : Call × Reply) (since : List (Msg V)) → Ties w place → w.status.asked ≡ None → (f : ℕ) → w.status.follower ≡ f → Waits n early w.status.number place since →
        Waits n early (w.status.number + 1) (place_from place (heard_by f item)) (since ++ heard_by f item)
    waits_call w place item since ties unasked zero is waits = waits_more w.status.number place since waits
    waits_call w place item since ties unasked (suc f) is waits =
        elim waits.1 [ inl same ↦ absurd (asked_still w place ties (omega (arith, is)) unasked same.0) | inr passed ↦ waits_heard w.status.number place item (since ++ heard_by (suc f) item) waits.0 passed ]

    waits_once : (w : World V) (place : Option (Place V)) (since : List (Msg V)) (e : Entry) → MayEnter b updates w e → Ties w place → Waits n early w.status.number place since →
        Waits n early (w.status.number + 1) (place_from place (sends updates w e)) (since ++ sends updates w e)
    waits_once w place since (entry.Call item) may ties waits = waits_call w place item since ties may.0.is_open.unasked w.status.follower refl waits
    waits_once w place since entry.Point may ties waits = waits_more w.status.number place since waits
    waits_once w place since (entry.Order text r) may ties waits = waits_more w.status.number place since waits
    waits_once w place since (entry.Mark (mark.Fork u)) may ties waits = (omega (arith, waits.0), inr (λ p m is hand. absurd (no_hand _ p m refl is hand)))
    waits_once w place since (entry.Mark (mark.NoCopy u)) may ties waits = waits_more w.status.number place since waits
    waits_once w place since (entry.Mark (mark.Hand x)) may ties waits = waits_hand w.status.number place (since ++ msg.Hand w.status.number ∷ []) waits.0
    waits_once w place since (entry.Mark mark.Promote) may ties waits = waits_stand w.status.number place w.lead (since ++ msg.Stand w.lead ∷ []) waits.0
    waits_once w place since (entry.Mark mark.Over) may ties waits = waits_more w.status.number place since waits
    waits_once w place since (entry.Mark mark.Back) may ties waits = waits_more w.status.number place since waits
    waits_once w place since (entry.Mark mark.Finish) may ties waits = waits_more w.status.number place since waits
    waits_once w place since (entry.Mark (mark.Discard x)) may ties waits = waits_more w.status.number place since waits
    waits_once w place since (entry.Mark (mark.Dropped x)) may ties waits = waits_more w.status.number place since waits
    waits_once w place since (entry.Mark (mark.End x)) may ties waits = waits_more w.status.number place since waits

    waits_all : (w : World V) (es : List Entry) (place : Option (Place V)) (since : List (Msg V)) → AreLegal b updates w es → Ties w place → Waits n early w.status.number place since →
        Waits n early (after_entries b updates w es).status.number (place_from place (sent b updates w es)) (since ++ sent b updates w es)
    waits_all w [] place since legal ties waits = subst (λ l. Waits n early w.status.number place l) (sym (append-nil since)) waits
    waits_all w (e ∷ es) place since legal ties waits =
        rw (place_from-append place (sends updates w e) (sent b updates (after_entry b updates w e) es))
        (subst (λ l. Waits n early (after_entries b updates (after_entry b updates w e) es).status.number (place_from (place_from place (sends updates w e)) (sent b updates (after_entry b updates w e) es)) l) (append_assoc since (sends updates w e) (sent b updates (after_entry b updates w e) es))
        (waits_all (after_entry b updates w e) es (place_from place (sends updates w e)) (since ++ sends updates w e) legal.1 (ties_once b updates w place e legal.0 ties) (waits_once w place since e legal.0 ties waits)))

    -- from a prefix that took the hand-over to the whole
    pub prefix_waits : (w : World V) (es : List Entry) (place : Option (Place V)) (prefix rest : List (Msg V)) → AreLegal b updates w es → Ties w place → HandsPast w.status.number place →
        sent b updates w es ≡ prefix ++ rest → place_from place prefix ≡ Some early → Waits n early (after_entries b updates w es).status.number (place_from place (sent b updates w es)) rest
    prefix_waits w [] place [] rest legal ties past same is = (past early n is handed, inl (is, sym same))
    prefix_waits w [] place (p ∷ ps) rest legal ties past same is = absurd (let e : [] ≡ p ∷ (ps ++ rest) = same in cc)
    prefix_waits w (e ∷ es) place prefix rest legal ties past same is =
        elim (cut b updates early place (sends updates w e) (sent b updates (after_entry b updates w e) es) prefix rest (sends_few b updates w e) same is) [
          | inl c ↦ rw (place_from-append place (sends updates w e) (sent b updates (after_entry b updates w e) es))
              (prefix_waits (after_entry b updates w e) es (place_from place (sends updates w e)) c.0 rest legal.1 (ties_once b updates w place e legal.0 ties) (past_once w place e past) c.1 c.2)
          | inr h ↦ subst (λ l. Waits n early (after_entries b updates (after_entry b updates w e) es).status.number (place_from place (sent b updates w (e ∷ es))) l) (same ∙ ap (λ l. l ++ rest) h.1)
              (waits_all w (e ∷ es) place [] legal ties (past early n h.0 handed, inl (h.0, refl)))
        ]

    -- while the hand-over is asked the follower is that of the prefix, and nothing was sent since
    pub stands_whole : (w : World V) (place : Option (Place V)) (since : List (Msg V)) → Ties w place → Waits n early w.status.number place since → 0 < w.status.follower → hand_of w.status.asked ≡ Some n →
        (w.following ≡ Some early.follows) × (since ≡ [])
    stands_whole w place since ties waits alive asked =
        let at = ties.known alive in
        elim waits.1 [
          | inl same ↦ (let e : Some at.at ≡ Some early = sym at.is_at ∙ same.0 in let one : at.at ≡ early = cc in
              (at.following ∙ ap (λ p. let o : Option (Following V) = Some p.follows in o) one, same.1))
          | inr passed ↦ absurd (let bad = passed at.at n at.is_at (sym at.hand ∙ asked) in omega (arith, bad))
        ]
