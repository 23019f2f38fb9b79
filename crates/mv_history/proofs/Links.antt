-- Spots stay tied to what was taken.
use Rattle.std.proofs.Common.{cond, ◌≡◌, ◌+◌, ℕ, zero, suc, Bool, true, false, Option, Some, None, List, [], ◌∷◌, ◌++◌, inl, inr, refl, sym, ◌∙◌, ap}
use Rattle.std.specs.Prelude.{nat_lt, length}
use Rattle.mv_calls.specs.declared.calls.Call.{Call}
use Rattle.mv_calls.specs.declared.calls.Reply.{Reply}
use Rattle.mv_feed.specs.declared.msg.Msg.{Msg}
use Rattle.mv_feed.specs.declared.msg.Msg.TheVariants as msg
use Rattle.mv_version.specs.Behaviour.{Behaviour}
use Rattle.mv_history.specs.Followers.{Standing}
use Rattle.mv_history.specs.Places.{Place, place_of, place_after}
use Rattle.mv_history.specs.Replay.{past, event_fits}
use Rattle.mv_history.specs.Spots.{Kept, Spot, Moves, GivesUp, StepsTo, NextAt, no_spot, spot_after, standing_spot, cleared_spot, item_next, decided_next, handed_next, groups_at, failure}
use Rattle.mv_history.specs.declared.updates.Update.{Update}
use Rattle.mv_history.proofs.TiesLaws.{place_from-append}
use Rattle.mv_history.specs.Linked.{Linked}

never : {A : Type 0} (x : A) → None ≡ Some x → ⊥
never {A} x h = let bad : ◌≡◌ {A = Option A} None (Some x) = h in cc

module _ {V : Type 0} where
  pub tied_none : Linked {V = V} [] no_spot
  tied_none = record { base_is = λ p is. absurd (never p is); keeps_is = λ k is. absurd (never k is) }

  -- with the same place and the same rules
  same_tied : (taken : List (Msg V)) (spot next : Spot V) → next.place ≡ spot.place → next.keeps ≡ spot.keeps → Linked taken spot → Linked taken next
  same_tied taken spot next place keeps l = record { base_is = λ p is. l.base_is p (sym place ∙ is); keeps_is = λ k is. l.keeps_is k (sym keeps ∙ is) }

  pub tied_clear : (taken : List (Msg V)) (spot : Spot V) → Linked taken spot → Linked taken (cleared_spot spot)
  tied_clear taken spot l = record { base_is = λ p is. absurd (never p is); keeps_is = l.keeps_is }

  one_more : (taken : List (Msg V)) (m : Msg V) → place_of (taken ++ m ∷ []) ≡ place_after (place_of taken) m
  one_more taken m = place_from-append None taken (m ∷ [])

  heard : (taken : List (Msg V)) (o : Option (Place V)) (item : Call × Reply) (p : Place V) → ((q : Place V) → o ≡ Some q → place_of taken ≡ Some q) → place_after o (msg.Heard item) ≡ Some p → place_after (place_of taken) (msg.Heard item) ≡ Some p
  heard taken None item p known is = absurd (never p is)
  heard taken (Some q) item p known is = ap (λ o. place_after o (msg.Heard item)) (known q refl) ∙ is

  handed : (taken : List (Msg V)) (o : Option (Place V)) (n : ℕ) (p : Place V) → ((q : Place V) → o ≡ Some q → place_of taken ≡ Some q) → place_after o (msg.Hand n) ≡ Some p → place_after (place_of taken) (msg.Hand n) ≡ Some p
  handed taken None n p known is = absurd (never p is)
  handed taken (Some q) n p known is = ap (λ o. place_after o (msg.Hand n)) (known q refl) ∙ is

  -- a guest that stands follows by the kept rules
  standing : (taken : List (Msg V)) (keeps : Option Kept) (s : V) → ((k : Kept) → keeps ≡ Some k → (p : Place V) × (place_of taken ≡ Some p) × (p.update ≡ k.update) × (p.follows.files ≡ k.files)) →
      Linked (taken ++ msg.Stand s ∷ []) (standing_spot keeps s)
  standing taken None s known = record { base_is = λ p is. absurd (never p is); keeps_is = λ k is. absurd (never k is) }
  standing taken (Some kept) s known =
      let at = known kept refl in
      let here : place_of (taken ++ msg.Stand s ∷ []) ≡ Some (record { update = kept.update; follows = record { files = kept.files; base = Standing s; heard = [] }; hand = None }) =
      one_more taken (msg.Stand s) ∙ ap (λ o. place_after o (msg.Stand s)) at.1
      ∙ ap (λ u. Some (record { update = u; follows = record { files = at.0.follows.files; base = Standing s; heard = [] }; hand = None })) at.2
      ∙ ap (λ (f : Update). Some (record { update = kept.update; follows = record { files = f; base = Standing s; heard = [] }; hand = None })) at.3 in
      record {
        base_is = λ p is. here ∙ is;
        keeps_is = λ k is. (record { update = kept.update; follows = record { files = kept.files; base = Standing s; heard = [] }; hand = None }, here, ap (λ (x : Kept). x.update) (inside k is), ap (λ (x : Kept). x.files) (inside k is));
      }
    where
      inside : (k : Kept) → Some kept ≡ Some k → kept ≡ k
      inside k is = cc

  pub tied_more : (taken : List (Msg V)) (spot : Spot V) (m : Msg V) → Linked taken spot → Linked (taken ++ m ∷ []) (spot_after spot m)
  tied_more taken spot (msg.Fork u old bytes forward reverse) l =
      record { base_is = λ p is. one_more taken (msg.Fork u old bytes forward reverse) ∙ is; keeps_is = λ k is. absurd (never k is) }
  tied_more taken spot (msg.Heard item) l =
      record {
        base_is = λ p is. one_more taken (msg.Heard item) ∙ heard taken spot.place item p l.base_is is;
        keeps_is = λ k is. let at = l.keeps_is k is in (
          record { update = at.0.update; follows = record { files = at.0.follows.files; base = at.0.follows.base; heard = at.0.follows.heard ++ item ∷ [] }; hand = at.0.hand },
          one_more taken (msg.Heard item) ∙ ap (λ o. place_after o (msg.Heard item)) at.1,
          at.2,
          at.3,
        );
      }
  tied_more taken spot (msg.Hand n) l =
      record {
        base_is = λ p is. one_more taken (msg.Hand n) ∙ handed taken spot.place n p l.base_is is;
        keeps_is = λ k is. let at = l.keeps_is k is in
            (record { update = at.0.update; follows = at.0.follows; hand = Some n }, one_more taken (msg.Hand n) ∙ ap (λ o. place_after o (msg.Hand n)) at.1, at.2, at.3);
      }
  tied_more taken spot (msg.Stand s) l = standing taken spot.keeps s l.keeps_is

module _ {V : Type 0} (b : Behaviour V) where
  of_moves : (x y : Spot V) → Moves x ≡ Moves y → x ≡ y
  of_moves x y is = cc

  by_item : (taken : List (Msg V)) (spot next : Spot V) (p : Place V) (reached : V) (rest : List (Call × Reply)) → Moves next ≡ item_next b spot p reached rest → Linked taken spot → Linked taken next
  by_item taken spot next p reached [] is l = decided (nat_lt spot.decisions (length (groups_at p))) is
    where
      hand : (h : Option ℕ) → Moves next ≡ handed_next b spot h reached → Linked taken next
      hand None e = let same = of_moves next (record spot { quiet = true }) e in same_tied taken spot next (ap (λ x. x.place) same) (ap (λ x. x.keeps) same) l
      hand (Some n) e = absurd (cc)

      decided : (t : Bool) → Moves next ≡ decided_next b spot p reached t → Linked taken next
      decided true e = let same = of_moves next (record spot { decisions = spot.decisions + 1 }) e in same_tied taken spot next (ap (λ x. x.place) same) (ap (λ x. x.keeps) same) l
      decided false e = hand p.hand e
  by_item taken spot next p reached (item ∷ more) is l = fits (event_fits (b.go (past b reached)) item) is
    where
      fits : (t : Bool) → Moves next ≡ cond t (Moves (record spot { matched = spot.matched + 1 })) (GivesUp (failure spot.matched item.0 (b.go (past b reached)))) → Linked taken next
      fits true e = let same = of_moves next (record spot { matched = spot.matched + 1 }) e in same_tied taken spot next (ap (λ x. x.place) same) (ap (λ x. x.keeps) same) l
      fits false e = absurd (cc)

  by_births : (taken : List (Msg V)) (spot next : Spot V) (p : Place V) (births : ℕ) → spot.place ≡ Some p → NextAt b spot p births (Moves next) → Linked taken spot → Linked taken next
  by_births taken spot next p zero is by l = by_item taken spot next p by.reached by.rest by.next_is l
  by_births taken spot next p (suc zero) is (inl done) l = let same = of_moves next (record spot { births = 0 }) done.2 in same_tied taken spot next (ap (λ x. x.place) same) (ap (λ x. x.keeps) same) l
  by_births taken spot next p (suc zero) is (inr bad) l = absurd (let e = bad.2 in cc)
  by_births taken spot next p (suc (suc zero)) is (inl done) l =
      let same = of_moves next (record spot { births = 1; keeps = Some (record { update = p.update; files = p.follows.files }) }) done.1 in
      record {
        base_is = λ q at. l.base_is q (sym (ap (λ x. x.place) same) ∙ at);
        keeps_is = λ k at.
            let e : record { update = p.update; files = p.follows.files } ≡ k = inside k (sym (ap (λ x. x.keeps) same) ∙ at) in
            (p, l.base_is p is, ap (λ (x : Kept). x.update) e, ap (λ (x : Kept). x.files) e);
      }
    where
      inside : (k : Kept) → Some (record { update = p.update; files = p.follows.files }) ≡ Some k → record { update = p.update; files = p.follows.files } ≡ k
      inside k h = cc
  by_births taken spot next p (suc (suc zero)) is (inr bad) l = absurd (let e = bad.2 in cc)
  by_births taken spot next p (suc (suc (suc n))) is (inl done) l = let same = of_moves next (record spot { births = 2 }) done.1 in same_tied taken spot next (ap (λ x. x.place) same) (ap (λ x. x.keeps) same) l
  by_births taken spot next p (suc (suc (suc n))) is (inr bad) l = absurd (let e = bad.2 in cc)

  pub tied_step : (taken : List (Msg V)) (spot next : Spot V) → StepsTo b spot (Moves next) → Linked taken spot → Linked taken next
  tied_step taken spot next to l = by_births taken spot next to.place spot.births to.place_is to.by l
