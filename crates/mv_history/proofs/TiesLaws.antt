-- Each entry keeps what the messages say of the world.
use Rattle.std.specs.Prelude.{◌≡◌, ℕ, zero, suc, ◌≤◌, ◌<◌, ◌⊎◌, true, false, cond, Option, Some, None, is_some, List, [], ◌∷◌, ◌++◌, refl}
use Rattle.std.proofs.Common.{ap, arith, sym, subst, ◌∙◌, inl, inr}
use Rattle.mv_calls.specs.declared.calls.Call.{Call}
use Rattle.mv_calls.specs.declared.calls.Reply.{Reply}
use Rattle.mv_feed.specs.declared.msg.Msg.{Msg}
use Rattle.mv_feed.specs.declared.msg.Msg.TheVariants as msg
use Rattle.mv_orders.specs.declared.reply.OrderReply.{OrderReply}
use Rattle.mv_orders.specs.declared.stage.Stage.{Stage}
use Rattle.mv_orders.specs.declared.stage.Word.{Word}
use Rattle.mv_orders.specs.declared.stage.Word.TheVariants as word
use Rattle.mv_version.specs.Behaviour.{Behaviour}
use Rattle.mv_history.specs.Followers.{Following, Forked, hears, Reaches}
use Rattle.mv_history.specs.Places.{Place, place_after, place_from, is_handed}
use Rattle.mv_history.specs.Statuses.{wanted_leads, word_leads, is_alone, answered}
use Rattle.mv_history.specs.Ties.{hand_of, update_by, update_wanted, IsAt, Ties}
use Rattle.mv_history.specs.World.{World, also_hears, also_stands, files_of, stand, after_entry, after_entries, MayEnter, AreLegal, IsReady, OfFollower, is_asked, sends, heard_by, sent}
use Rattle.mv_history.specs.declared.log.Entry.{Entry}
use Rattle.mv_history.specs.declared.log.Entry.TheVariants as entry
use Rattle.mv_history.specs.declared.log.Mark.TheVariants as mark
use Rattle.mv_history.specs.declared.status.AtPoint.TheVariants as at
use Rattle.mv_history.specs.declared.status.Asked.{Asked}
use Rattle.mv_history.specs.declared.status.Wanted.{Wanted}
use Rattle.mv_history.specs.declared.updates.Update.{Update}
use Rattle.mv_history.proofs.OrderLaws.{order_keeps, order_wants}

-- the number of a place
abbrev update_at : {V : Type 0} → Option (Place V) → ℕ
update_at None = 0
update_at (Some p) = p.update

word_forks : (wd : Word) (stage : Stage) (n u : ℕ) → word_leads wd stage n ≡ at.Forks u → update_by wd n ≡ Some u
word_forks word.Update stage n u h =
    (elim (is_alone stage) as (λ t. cond t (at.Forks n) at.Passes ≡ at.Forks u → Some n ≡ Some u)
    [ true ↦ λ g. (let e : at.Forks n ≡ at.Forks u = g in cc) | false ↦ λ g. absurd (let bad : at.Passes ≡ at.Forks u = g in cc) ]) h
word_forks word.Promote stage n u h = absurd (let bad : at.Hands _ ≡ at.Forks u = h in cc)
word_forks word.Discard stage n u h = absurd (let bad : at.Passes ≡ at.Forks u = h in cc)
word_forks word.Finish stage n u h = absurd (let bad : at.Passes ≡ at.Forks u = h in cc)
word_forks word.Back stage n u h = absurd (let bad : at.Hands _ ≡ at.Forks u = h in cc)
word_forks word.Halt stage n u h = absurd (let bad : at.Passes ≡ at.Forks u = h in cc)

pub forks_wants : (wanted : Option Wanted) (stage : Stage) (u : ℕ) → wanted_leads wanted stage ≡ at.Forks u → update_wanted wanted ≡ Some u
forks_wants None stage u h = absurd (let bad : at.Passes ≡ at.Forks u = h in cc)
forks_wants (Some wanted) stage u h = word_forks wanted.word stage wanted.update u h

pub zero_or_more : (n : ℕ) → (n ≡ 0) ⊎ (0 < n)
zero_or_more zero = inl refl
zero_or_more (suc n) = inr (omega arith)

pub none_wanted : (A : Type 0) (u : ℕ) → None ≡ Some u → A
none_wanted A u bad = absurd (let h : None ≡ Some u = bad in cc)

-- an entry that touches no follower
quiet : {V : Type 0} (w v : World V) (place : Option (Place V)) → v.status.follower ≡ w.status.follower → v.following ≡ w.following → v.status.asked ≡ w.status.asked → w.status.updates ≤ v.status.updates →
    ((u : ℕ) → update_wanted v.status.wanted ≡ Some u → (0 < u) × (u ≡ v.status.updates) × ((p : Place V) → place ≡ Some p → p.update < u)) →
    Ties w place → Ties v place
quiet w v place follower following asked updates wanted ties =
    record {
      known = λ h. let at = ties.known (rw (← follower) h) in
          record { at = at.at; is_at = at.is_at; update = at.update ∙ sym follower; following = following ∙ at.following; hand = ap hand_of asked ∙ at.hand };
      nobody = λ none. let none_here = ties.nobody (sym follower ∙ none) in (following ∙ none_here.0, asked ∙ none_here.1);
      old = λ p is. let h = ties.old p is in omega (arith, h, updates);
      some = λ u h. ((wanted u h).0, (wanted u h).1);
      older = λ p u is h. (wanted u h).2 p is;
    }

-- what was wanted is wanted still
still_wanted : {V : Type 0} (w : World V) (place : Option (Place V)) → Ties w place → (u : ℕ) → update_wanted w.status.wanted ≡ Some u → (0 < u) × (u ≡ w.status.updates) × ((p : Place V) → place ≡ Some p → p.update < u)
still_wanted w place ties u h = ((ties.some u h).0, (ties.some u h).1, λ p is. ties.older p u is h)

-- an entry after which there is no follower
over : {V : Type 0} (w v : World V) (place : Option (Place V)) → v.status.follower ≡ 0 → v.following ≡ None → v.status.asked ≡ None → v.status.updates ≡ w.status.updates →
    ((u : ℕ) → update_wanted v.status.wanted ≡ Some u → update_wanted w.status.wanted ≡ Some u) →
    Ties w place → Ties v place
over w v place follower following asked updates wanted ties =
    record {
      known = λ h. absurd (omega (arith, h, follower));
      nobody = λ none. (following, asked);
      old = λ p is. let h = ties.old p is in omega (arith, h, updates);
      some = λ u h. let s = ties.some u (wanted u h) in (s.0, s.1 ∙ sym updates);
      older = λ p u is h. ties.older p u is (wanted u h);
    }

pub place_from-append : {V : Type 0} (place : Option (Place V)) (xs ys : List (Msg V)) → place_from place (xs ++ ys) ≡ place_from (place_from place xs) ys
place_from-append place [] ys = refl
place_from-append place (x ∷ xs) ys = place_from-append (place_after place x) xs ys

-- a hand-over is asked of the world exactly where the follower was told
asked_handed : (asked : Option Asked) → is_some asked ≡ is_some (hand_of asked)
asked_handed None = refl
asked_handed (Some a) = refl

pub handed_at : {V : Type 0} (w : World V) (place : Option (Place V)) (at : IsAt w place) → is_asked w.status ≡ is_handed at.at
handed_at w place at = asked_handed w.status.asked ∙ ap (λ h. is_some h) at.hand

module _ {V : Type 0} (b : Behaviour V) (updates : List Update) where
  -- where a follower is ready there is one
  ready_by : (following : Option (Following V)) → following ≡ None → OfFollower b following (λ f. (s : V) × Reaches b f s) → ⊥
  ready_by None is ready = ready
  ready_by (Some f) is ready = let bad : Some f ≡ None = is in cc

  pub ready_known : (w : World V) (place : Option (Place V)) → Ties w place → IsReady b w → 0 < w.status.follower
  ready_known w place ties ready =
      elim (zero_or_more w.status.follower) [ inl none ↦ absurd (ready_by w.following (ties.nobody none).0 ready) | inr some ↦ some ]

  call_ties : (w : World V) (place : Option (Place V)) (item : Call × Reply) → Ties w place → (f : ℕ) → w.status.follower ≡ f → w.status.asked ≡ None →
      Ties (after_entry b updates w (entry.Call item)) (place_from place (heard_by f item))
  call_ties w place item ties zero none unasked =
      quiet w (after_entry b updates w (entry.Call item)) place refl (ap (λ f. also_hears f item) (ties.nobody none).0 ∙ sym (ties.nobody none).0) refl (omega arith) (still_wanted w place ties) ties
  call_ties w place item ties (suc n) some unasked =
      let at = ties.known (omega (arith, some)) in
      subst (λ p. Ties (after_entry b updates w (entry.Call item)) (place_after p (msg.Heard item))) (sym at.is_at) (record {
        known = λ h. record { at = record { update = at.at.update; follows = hears at.at.follows item; hand = at.at.hand }; is_at = refl; update = at.update; following = ap (λ f. also_hears f item) at.following; hand = at.hand };
        nobody = λ none. absurd (omega (arith, none, some));
        old = λ p is. let e = ap (λ o. update_at o) is in let h = ties.old at.at at.is_at in omega (arith, h, e);
        some = ties.some;
        older = λ p u is h. let e = ap (λ o. update_at o) is in let s = ties.older at.at u at.is_at h in omega (arith, s, e);
      })

  order_wanted : (w : World V) (place : Option (Place V)) (text : List ℕ) (r : OrderReply) → MayEnter b updates w (entry.Order text r) → Ties w place → (u : ℕ) → update_wanted (answered w.status r).wanted ≡ Some u →
      (0 < u) × (u ≡ (answered w.status r).updates) × ((p : Place V) → place ≡ Some p → p.update < u)
  order_wanted w place text r may ties u h =
      elim (order_wants w.status updates text r u may.1 h) [
        | inl new ↦ (omega (arith, new.0), new.0 ∙ sym new.1, λ p is. let s = ties.old p is in omega (arith, s, new.0))
        | inr old ↦ ((ties.some u old.0).0, (ties.some u old.0).1 ∙ sym old.1, λ p is. ties.older p u is old.0)
      ]

  pub ties_once : (w : World V) (place : Option (Place V)) (e : Entry) → MayEnter b updates w e → Ties w place → Ties (after_entry b updates w e) (place_from place (sends updates w e))
  ties_once w place (entry.Call item) may ties = call_ties w place item ties w.status.follower refl may.0.is_open.unasked
  ties_once w place entry.Point may ties = quiet w (after_entry b updates w entry.Point) place refl refl refl (omega arith) (still_wanted w place ties) ties
  ties_once w place (entry.Order text r) may ties =
      let keeps = order_keeps w.status r in
      quiet w (after_entry b updates w (entry.Order text r)) place keeps.follower refl keeps.asked keeps.updates (order_wanted w place text r may ties) ties
  ties_once w place (entry.Mark (mark.Fork u)) may ties =
      let wants = forks_wants w.status.wanted w.status.stage u may.1 in
      let some = ties.some u wants in
      record {
        known = λ h. record { at = record { update = u; follows = record { files = files_of updates w.status u; base = Forked w.lead; heard = [] }; hand = None }; is_at = refl; update = refl; following = refl; hand = refl };
        nobody = λ none. absurd (let s = some.0 in omega (arith, none, s));
        old = λ p is. let e = ap (λ o. update_at o) is in let s = some.1 in omega (arith, e, s);
        some = λ n bad. none_wanted _ n bad;
        older = λ p n is bad. none_wanted _ n bad;
      }
  ties_once w place (entry.Mark (mark.NoCopy u)) may ties =
      quiet w (after_entry b updates w (entry.Mark (mark.NoCopy u))) place refl refl (sym may.0.is_open.unasked) (omega arith) (λ n bad. none_wanted _ n bad) ties
  ties_once w place (entry.Mark (mark.Hand x)) may ties =
      let at = ties.known may.1 in
      subst (λ p. Ties (after_entry b updates w (entry.Mark (mark.Hand x))) (place_after p (msg.Hand w.status.number))) (sym at.is_at) (record {
        known = λ h. record { at = record { update = at.at.update; follows = at.at.follows; hand = Some w.status.number }; is_at = refl; update = at.update; following = at.following; hand = refl };
        nobody = λ none. absurd (omega (arith, none, may.1));
        old = λ p is. let e = ap (λ o. update_at o) is in let h = ties.old at.at at.is_at in omega (arith, h, e);
        some = ties.some;
        older = λ p u is h. let e = ap (λ o. update_at o) is in let s = ties.older at.at u at.is_at h in omega (arith, s, e);
      })
  ties_once w place (entry.Mark mark.Promote) may ties =
      let alive = ready_known w place ties may.3 in
      let at = ties.known alive in
      subst (λ p. Ties (after_entry b updates w (entry.Mark mark.Promote)) (place_after p (msg.Stand w.lead))) (sym at.is_at) (record {
        known = λ h. record { at = record { update = at.at.update; follows = stand w.lead at.at.follows; hand = None }; is_at = refl; update = at.update; following = ap (λ f. also_stands w.lead f) at.following; hand = refl };
        nobody = λ none. absurd (omega (arith, none, alive));
        old = λ p is. let e = ap (λ o. update_at o) is in let h = ties.old at.at at.is_at in omega (arith, h, e);
        some = λ n bad. none_wanted _ n bad;
        older = λ p n is bad. none_wanted _ n bad;
      })
  ties_once w place (entry.Mark mark.Over) may ties = over w (after_entry b updates w (entry.Mark mark.Over)) place refl refl refl refl (λ n bad. none_wanted _ n bad) ties
  ties_once w place (entry.Mark mark.Back) may ties = over w (after_entry b updates w (entry.Mark mark.Back)) place refl refl refl refl (λ n bad. none_wanted _ n bad) ties
  ties_once w place (entry.Mark mark.Finish) may ties = over w (after_entry b updates w (entry.Mark mark.Finish)) place refl refl refl refl (λ n bad. none_wanted _ n bad) ties
  ties_once w place (entry.Mark (mark.Discard x)) may ties = over w (after_entry b updates w (entry.Mark (mark.Discard x))) place refl refl refl refl (λ n bad. none_wanted _ n bad) ties
  ties_once w place (entry.Mark (mark.Dropped x)) may ties = over w (after_entry b updates w (entry.Mark (mark.Dropped x))) place refl refl refl refl (λ n bad. none_wanted _ n bad) ties
  ties_once w place (entry.Mark (mark.End x)) may ties = over w (after_entry b updates w (entry.Mark (mark.End x))) place refl refl refl refl (λ n h. h) ties

  pub ties_all : (w : World V) (es : List Entry) (place : Option (Place V)) → AreLegal b updates w es → Ties w place → Ties (after_entries b updates w es) (place_from place (sent b updates w es))
  ties_all w [] place legal ties = ties
  ties_all w (e ∷ es) place legal ties =
      rw (place_from-append place (sends updates w e) (sent b updates (after_entry b updates w e) es)) (ties_all (after_entry b updates w e) es (place_from place (sends updates w e)) legal.1 (ties_once w place e legal.0 ties))
