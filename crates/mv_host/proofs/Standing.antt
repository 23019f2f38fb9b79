-- That the follower stands where what it took leads, and that a verdict that waits is shown.
use Rattle.std.proofs.Common.{◌≡◌, ◌≢◌, ℕ, Bool, false, Option, Some, None, List, [], ◌∷◌, ◌++◌, map, refl, sym, ◌∙◌, ap, subst, append-nil}
use Rattle.mv_feed.specs.declared.msg.Msg.{Msg}
use Rattle.mv_version.specs.Behaviour.{Behaviour}
use Rattle.mv_history.proofs.Links.{tied_clear, tied_more, tied_none, tied_step}
use Rattle.mv_history.specs.Followers.{Reaches}
use Rattle.mv_history.specs.Linked.{Linked}
use Rattle.mv_history.specs.Places.{Place}
use Rattle.mv_history.specs.Settled.{settled}
use Rattle.mv_history.specs.Spots.{Spot, cleared_spot, no_spot, spot_after}
use Rattle.mv_history.specs.declared.log.Cause.{Cause}
use Rattle.mv_history.specs.declared.log.Cause.TheVariants as cause
use Rattle.mv_ring.specs.Halves.{out_stands, taken_list}
use Rattle.mv_ring.specs.declared.ring_out.RingOut.{RingOut}
use Rattle.mv_core.specs.Verdicts.{ShowsAt}
use Rattle.mv_core.specs.declared.judging.Verdict.{Verdict}
use Rattle.mv_core.specs.declared.judging.Verdict.TheVariants.{Ready, Failed}
use Rattle.mv_follower.specs.Follows.{FollowerState, IsAt, has_verdict}
use Rattle.mv_follower.specs.Steps.{Fails, Goes, Readies, Takes, Wants}
use Rattle.mv_follower.specs.declared.outcomes.Carried.{Carried}
use Rattle.mv_follower.specs.declared.outcomes.Carried.TheVariants as answer
use Rattle.mv_rehearse.proofs.Linking.{waits_on}
use Rattle.mv_rehearse.specs.Linked.{IsShownTo, IsWaiting}
use Rattle.mv_rehearse.specs.declared.beats.Waiting.{Waiting}
use Rattle.mv_host.specs.Stands.{StandsAt}

map_snoc : {A B : Type 0} (h : A → B) (xs : List A) (x : A) → map h (xs ++ x ∷ []) ≡ map h xs ++ h x ∷ []
map_snoc h [] x = refl
map_snoc h (y ∷ xs) x = ap (λ l. h y ∷ l) (map_snoc h xs x)

module _ {V : Type 0} (b : Behaviour V) where
  -- what was taken, as the follower takes it
  abbrev took : RingOut V → List (Msg V)
  took feed = map (settled b) (taken_list feed)

  -- ## A message

  stays_at : (f f_after : FollowerState V) (w : Option (Waiting V)) (feed feed_after : RingOut V) → f_after ≡ f → taken_list feed ≡ taken_list feed_after → StandsAt b (took feed) f w → StandsAt b (took feed_after) f_after w
  stays_at f f_after w feed feed_after same lists at = subst (λ l. StandsAt b (map (settled b) l) f_after w) lists (subst (λ x. StandsAt b (took feed) x w) (sym same) at)

  pub carries_on : (f f_after : FollowerState V) (w : Option (Waiting V)) (feed feed_after : RingOut V) (r : Carried) →
      (r ≢ answer.Took → f_after ≡ f) → (r ≢ answer.Took → taken_list feed ≡ taken_list feed_after) → (r ≡ answer.Took → Takes b out_stands feed feed_after f f_after) → has_verdict f_after ≡ has_verdict f →
      StandsAt b (took feed) f w → StandsAt b (took feed_after) f_after w
  carries_on f f_after w feed feed_after answer.Waits same lists takes verdict at = stays_at f f_after w feed feed_after (same (λ bad. cc)) (lists (λ bad. cc)) at
  carries_on f f_after w feed feed_after answer.Starved same lists takes verdict at = stays_at f f_after w feed feed_after (same (λ bad. cc)) (lists (λ bad. cc)) at
  carries_on f f_after w feed feed_after answer.Took same lists takes verdict at =
      let t = takes refl in
      let m = t.message in
      let more : taken_list feed ++ m ∷ [] ≡ taken_list feed_after = t.lists [] (taken_list feed) refl in
      subst (λ l. StandsAt b (map (settled b) l) f_after w) more (subst (λ l. StandsAt b l f_after w) (sym (map_snoc (settled b) (taken_list feed) m)) (record {
        spot = spot_after at.spot (settled b m);
        follower_is = (t.at at.spot at.follower_is).1;
        spot_is = tied_more (took feed) at.spot (settled b m) at.spot_is;
        shown_is = waits_on b (took feed) (settled b m ∷ []) w at.shown_is;
        begins = λ none. verdict ∙ at.begins none;
      }))

  -- ## A step

  module _ (taken : List (Msg V)) where
    none_waiting : (w : Option (Waiting V)) → w ≡ None → IsWaiting b taken w
    none_waiting w none = subst (IsWaiting b taken) (sym none) tt

    pub moved : (f f_after : FollowerState V) (w : Option (Waiting V)) (may : Bool) (at : StandsAt b taken f w) → w ≡ None → Goes b at.spot may f_after → has_verdict f_after ≡ false → StandsAt b taken f_after w
    moved f f_after w may at none goes verdict =
        record { spot = goes.next; follower_is = goes.at; spot_is = tied_step b taken at.spot goes.next goes.step at.spot_is; shown_is = none_waiting w none; begins = λ _. verdict }

    shown_here : (spot : Spot V) (update : ℕ) (v : Verdict V) (p : Place V) → Linked taken spot → spot.place ≡ Some p → ((p : Place V) → spot.place ≡ Some p → update ≡ p.update) → ShowsAt b p v → IsShownTo b taken update v
    shown_here spot update v p tied is number shows =
        record { prefix = taken; rest = []; taken_is = sym (append-nil taken); place = p; place_is = tied.base_is p is; of_update = sym (number p is); shows = shows }

    waits_now : (f f_after : FollowerState V) (w : Option (Waiting V)) (update : ℕ) (v : Verdict V) (at : StandsAt b taken f w) → IsAt b f_after at.spot → IsShownTo b taken update v → StandsAt b taken f_after (Some (record { update = update; verdict = v }))
    waits_now f f_after w update v at is shown =
        record { spot = at.spot; follower_is = is; spot_is = at.spot_is; shown_is = shown; begins = λ bad. absurd (let h : Some (record { update = update; verdict = v }) ≡ None = bad in cc) }

    pub handed : (f mid f_after : FollowerState V) (w : Option (Waiting V)) (update n : ℕ) (guest : V) (at : StandsAt b taken f w) → (ready : Readies b at.spot n mid) → guest ≡ ready.guest → ((p : Place V) → at.spot.place ≡ Some p → update ≡ p.update) →
        IsAt b f_after at.spot → StandsAt b taken f_after (Some (record { update = update; verdict = Ready guest n }))
    handed f mid f_after w update n guest at ready same number is =
        waits_now f f_after w update (Ready guest n) at is
        (shown_here at.spot update (Ready guest n) ready.place at.spot_is ready.place_is number (subst (λ g. Reaches b ready.place.follows (b.state g)) (sym same) ready.reaches, ready.hand))

    pub gave : (lost : Type 0) (f f_after : FollowerState V) (w : Option (Waiting V)) (update : ℕ) (c : Cause) (at : StandsAt b taken f w) → Fails b lost at.spot c f_after → ((p : Place V) → at.spot.place ≡ Some p → update ≡ p.update) →
        StandsAt b taken f_after (Some (record { update = update; verdict = Failed c }))
    gave lost f f_after w update c at fails number = waits_now f f_after w update (Failed c) at fails.at (shown_here at.spot update (Failed c) fails.place at.spot_is fails.place_is number fails.shown)

    pub wanted : (f f_after : FollowerState V) (w : Option (Waiting V)) (update : ℕ) (at : StandsAt b taken f w) → Wants b at.spot f_after → ((p : Place V) → at.spot.place ≡ Some p → update ≡ p.update) →
        StandsAt b taken f_after (Some (record { update = update; verdict = Failed cause.Memory }))
    wanted f f_after w update at wants number = waits_now f f_after w update (Failed cause.Memory) at wants.at (shown_here at.spot update (Failed cause.Memory) wants.place at.spot_is wants.place_is number tt)

  -- ## A judgement, and the beginning

  -- the verdict was taken out, and the follower cleared
  pub judged : (f f_after : FollowerState V) (w w_after : Option (Waiting V)) (feed feed_after : RingOut V) → StandsAt b (took feed) f w → w_after ≡ None → taken_list feed_after ≡ taken_list feed →
      ((spot : Spot V) → IsAt b f spot → IsAt b f_after (cleared_spot spot)) → has_verdict f_after ≡ false → StandsAt b (took feed_after) f_after w_after
  judged f f_after w w_after feed feed_after at none lists clears verdict =
      subst (StandsAt b (took feed_after) f_after) (sym none) (subst (λ l. StandsAt b (map (settled b) l) f_after None) (sym lists) (record {
        spot = cleared_spot at.spot;
        follower_is = clears at.spot at.follower_is;
        spot_is = tied_clear (took feed) at.spot at.spot_is;
        shown_is = tt;
        begins = λ _. verdict;
      }))

  pub starts : (f : FollowerState V) (feed : RingOut V) → taken_list feed ≡ [] → IsAt b f no_spot → has_verdict f ≡ false → StandsAt b (took feed) f None
  starts f feed none is verdict = subst (λ l. StandsAt b (map (settled b) l) f None) (sym none) (record { spot = no_spot; follower_is = is; spot_is = tied_none; shown_is = tt; begins = λ _. verdict })
