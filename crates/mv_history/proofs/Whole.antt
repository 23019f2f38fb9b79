-- The laws over whole logs from a base on.
use Rattle.std.specs.Prelude.{◌≡◌, ℕ, ◌<◌, Some, None, List, [], ◌++◌}
use Rattle.std.proofs.Common.{ap, arith, sym, ◌∙◌, inl, inr}
use Rattle.mv_feed.specs.declared.msg.Msg.{Msg}
use Rattle.mv_version.specs.Behaviour.{Behaviour}
use Rattle.mv_history.specs.Bases.{IsBase}
use Rattle.mv_history.specs.Followers.{FollowerShows, Reaches}
use Rattle.mv_history.specs.Judged.{IsReadyAs}
use Rattle.mv_history.specs.Places.{Place, place_from, place_of, is_handed}
use Rattle.mv_history.specs.Small.{IsSmall}
use Rattle.mv_history.specs.Statuses.{first_status}
use Rattle.mv_history.specs.Ties.{Ties, hand_of}
use Rattle.mv_history.specs.World.{World, AreLegal, Shows, after_entries, begun, sent}
use Rattle.mv_history.specs.declared.log.Cause.{Cause}
use Rattle.mv_history.specs.declared.log.Entry.{Entry}
use Rattle.mv_history.specs.declared.updates.Update.{Update}
use Rattle.mv_history.proofs.BaseLaws.{base_ties, first_base, hands_past, not_asked_before, not_before, splits}
use Rattle.mv_history.proofs.ExtendsLaws.{prefix_extends, shows_whole}
use Rattle.mv_history.proofs.HandLaws.{prefix_waits, stands_whole}
use Rattle.mv_history.proofs.TiesLaws.{place_from-append, ties_all}

-- nothing was sent, and no follower is there
pub first_ties : {V : Type 0} (first : V) → Ties (begun first) None
first_ties first = base_ties (begun first) [] (first_base first)

pub first_small : IsSmall first_status
first_small = record { entries = λ _. omega arith; most = omega arith; orders = omega arith }

-- the place after a prefix that ends behind the base
place_behind : {V : Type 0} (before short prefix : List (Msg V)) (p : Place V) → prefix ≡ before ++ short → place_of prefix ≡ Some p → place_from (place_of before) short ≡ Some p
place_behind before short prefix p split is = sym (place_from-append None before short) ∙ ap place_of (sym split) ∙ is

module _ {V : Type 0} (b : Behaviour V) (updates : List Update) where
  pub cause_from : (base : World V) (before : List (Msg V)) (es : List Entry) (prefix rest : List (Msg V)) (place : Place V) (c : Cause) → IsBase base before → AreLegal b updates base es →
      before ++ sent b updates base es ≡ prefix ++ rest → place_of prefix ≡ Some place → 0 < place.update → place.update ≡ (after_entries b updates base es).status.follower →
      FollowerShows b (is_handed place) place.follows c → Shows b (after_entries b updates base es) c
  cause_from base before es prefix rest place c is_base legal same is alive follower shows =
      elim (splits before (sent b updates base es) prefix rest same) [
        | inl s ↦ (
            let first = base_ties base before is_base in
            let ties = ties_all b updates base es (place_of before) legal first in
            let ext = prefix_extends b updates place base es (place_of before) s.0 rest legal first s.2 (place_behind before s.0 prefix place s.1 is) in
            shows_whole b updates place (after_entries b updates base es) _ c ties ext alive follower shows)
        | inr s ↦ absurd (not_before b updates base before es prefix s.0 place is_base legal s.1 is alive follower)
      ]

  pub cause_whole : (first : V) (es : List Entry) (prefix rest : List (Msg V)) (place : Place V) (c : Cause) → AreLegal b updates (begun first) es →
      sent b updates (begun first) es ≡ prefix ++ rest → place_of prefix ≡ Some place → 0 < place.update → place.update ≡ (after_entries b updates (begun first) es).status.follower →
      FollowerShows b (is_handed place) place.follows c → Shows b (after_entries b updates (begun first) es) c
  cause_whole first es prefix rest place c legal same is alive follower shows =
      cause_from (begun first) [] es prefix rest place c (first_base first) legal same is alive follower shows

  -- a hand-over of a prefix that is asked still: the prefix is the whole, and the follower is that of its place
  pub hand_from : (base : World V) (before : List (Msg V)) (es : List Entry) (prefix rest : List (Msg V)) (place : Place V) (n : ℕ) → IsBase base before → AreLegal b updates base es →
      before ++ sent b updates base es ≡ prefix ++ rest → place_of prefix ≡ Some place → place.hand ≡ Some n → 0 < (after_entries b updates base es).status.follower →
      hand_of (after_entries b updates base es).status.asked ≡ Some n →
      ((after_entries b updates base es).following ≡ Some place.follows) × (rest ≡ [])
  hand_from base before es prefix rest place n is_base legal same is handed alive asked =
      elim (splits before (sent b updates base es) prefix rest same) [
        | inl s ↦ (
            let first = base_ties base before is_base in
            let ties = ties_all b updates base es (place_of before) legal first in
            let waits = prefix_waits b updates n place handed base es (place_of before) s.0 rest legal first (hands_past base.status.number before is_base.hands) s.2 (place_behind before s.0 prefix place s.1 is) in
            stands_whole b updates n place handed (after_entries b updates base es) _ rest ties waits alive asked)
        | inr s ↦ absurd (not_asked_before b updates base before es prefix s.0 place n is_base s.1 is handed asked)
      ]

  pub ready_from : (base : World V) (before : List (Msg V)) (es : List Entry) (prefix rest : List (Msg V)) (place : Place V) (n : ℕ) (s : V) → IsBase base before → AreLegal b updates base es →
      before ++ sent b updates base es ≡ prefix ++ rest → place_of prefix ≡ Some place → place.hand ≡ Some n → 0 < (after_entries b updates base es).status.follower →
      hand_of (after_entries b updates base es).status.asked ≡ Some n → Reaches b place.follows s →
      IsReadyAs b (after_entries b updates base es) place.follows s × (rest ≡ [])
  ready_from base before es prefix rest place n s is_base legal same is handed alive asked reaches =
      let whole = hand_from base before es prefix rest place n is_base legal same is handed alive asked in
      (record { follows = whole.0; reaches = reaches }, whole.1)
