-- Where a follower is in its work, what a message makes of that, and what one of its steps may do.
use Rattle.std.specs.Prelude.{◌≡◌, ℕ, zero, suc, ◌+◌, ◌⊎◌, Bool, true, false, cond, not, nat_eq, nat_lt, ◌&&◌, is_none, Option, Some, None, List, [], ◌∷◌, ◌++◌, length, take, Ok, Err}
use Rattle.mv_calls.specs.declared.calls.Call.{Call}
use Rattle.mv_calls.specs.declared.calls.Reply.{Reply}
use Rattle.mv_feed.specs.declared.msg.Msg.{Msg}
use Rattle.mv_feed.specs.declared.msg.Msg.TheVariants as msg
use Rattle.mv_rules.specs.declared.rule.Rule.{Rule}
use Rattle.mv_rewrite.specs.Deciding.{groups, joined}
use Rattle.mv_rewrite.specs.Rewriting.{decide}
use Rattle.mv_version.specs.Behaviour.{Behaviour}
use Rattle.mv_version.specs.declared.event.Event.{Event}
use Rattle.mv_version.specs.declared.event.Event.TheVariants as event
use Rattle.mv_history.specs.Followers.{Standing, Following, hears_by, begin, replayed_from}
use Rattle.mv_history.specs.Places.{Place, place_after, is_handed}
use Rattle.mv_history.specs.Replay.{Stands, past, event_fits}
use Rattle.mv_history.specs.Rules.{IsAccepted, IsRefused}
use Rattle.mv_history.specs.declared.log.Cause.{Cause}
use Rattle.mv_history.specs.declared.log.Cause.TheVariants as cause
use Rattle.mv_history.specs.declared.log.Side.{Side}
use Rattle.mv_history.specs.declared.log.Side.TheVariants as side
use Rattle.mv_rules.specs.declared.fault.RuleFault.{RuleFault}
use Rattle.mv_syntax.specs.declared.fault.BornFault.{BornFault}
use Rattle.mv_history.specs.declared.updates.Update.{Update}

-- the update of which a follower has read the reverse rules, with its files
pub record Kept : Type 0 where
  pub update : ℕ
  pub files : Update

pub record Spot (V : Type 0) : Type 0 where
  -- the base, what was heard since, and the hand-over, of the messages taken since the last clear
  pub place : Option (Place V)
  -- how many steps of a birth are still to do: to read the forward rules, to read the reverse rules, to be born
  pub births : ℕ
  -- how many decisions of the rewriting were made
  pub decisions : ℕ
  -- how many rewritten items were matched
  pub matched : ℕ
  -- nothing more comes of what was taken
  pub quiet : Bool
  -- the update whose reverse rules are kept
  pub keeps : Option Kept

-- no base; the reverse rules stay
abbrev pub cleared_spot : {V : Type 0} → Spot V → Spot V
cleared_spot spot = record { place = None; births = 0; decisions = 0; matched = 0; quiet = false; keeps = spot.keeps }

abbrev pub no_spot : {V : Type 0} → Spot V
no_spot = record { place = None; births = 0; decisions = 0; matched = 0; quiet = false; keeps = None }

-- a guest that led follows by the rules that are kept; without these it is skipped
abbrev pub standing_spot : {V : Type 0} → Option Kept → V → Spot V
standing_spot None s = no_spot
standing_spot (Some kept) s =
    record { place = Some (record { update = kept.update; follows = record { files = kept.files; base = Standing s; heard = [] }; hand = None }); births = 0; decisions = 0; matched = 0; quiet = false; keeps = Some kept }

-- one message more
abbrev pub spot_after : {V : Type 0} → Spot V → Msg V → Spot V
spot_after spot (msg.Fork u old bytes forward reverse) =
    record { place = place_after spot.place (msg.Fork u old bytes forward reverse); births = 3; decisions = 0; matched = 0; quiet = false; keeps = None }
spot_after spot (msg.Heard item) = record spot { place = place_after spot.place (msg.Heard item); quiet = false }
spot_after spot (msg.Hand n) = record spot { place = place_after spot.place (msg.Hand n); quiet = false }
spot_after spot (msg.Stand s) = standing_spot spot.keeps s

-- what each decision gives: those that are sure, or all once the hand-over was taken
abbrev pub groups_by : Bool → List Rule → List (Call × Reply) → List (List (Call × Reply))
groups_by handed rules items = groups (decide (not handed) rules) items

abbrev pub groups_at : {V : Type 0} → Place V → List (List (Call × Reply))
groups_at p = groups_by (is_handed p) (hears_by p.follows) p.follows.heard

-- the rewritten items so far
abbrev pub items_at : {V : Type 0} → Place V → ℕ → List (Call × Reply)
items_at p decisions = joined (take decisions (groups_at p))

abbrev pub may_carry_at : {V : Type 0} → Option (Place V) → Spot V → Bool
may_carry_at None spot = true
may_carry_at (Some p) spot = nat_eq spot.births 0 && nat_eq spot.matched (length (items_at p spot.decisions)) && spot.quiet && is_none p.hand

-- a message may be taken
abbrev pub may_carry : {V : Type 0} → Spot V → Bool
may_carry spot = may_carry_at spot.place spot

-- what a step leads to: a spot, a guest that is ready for the hand-over of this number, or a cause to be given up
pub data Next (V : Type 0) : Type 0 where
  Moves : Spot V → Next V
  IsReadyFor : V → ℕ → Next V
  GivesUp : Cause → Next V

-- the cause of a guest that does something else than the item's call
abbrev pub failure : ℕ → Call → Event → Cause
failure k want (event.Traps t) = cause.Trap k t
failure k want e = cause.Mismatch k want e

module _ {V : Type 0} (b : Behaviour V) where
  -- ## The birth

  abbrev pub ReadsFile : List ℕ → Side → Next V → Spot V → Type 0
  ReadsFile text which next read =
      (IsAccepted text × (next ≡ Moves read)) ⊎ ((fault : RuleFault) × IsRefused text fault × (next ≡ GivesUp (cause.Rules which fault)))

  abbrev pub IsBorn : Spot V → Following V → Next V → Type 0
  IsBorn spot f next =
      ((s : V) × (begin b f ≡ Ok s) × (next ≡ Moves (record spot { births = 0 }))) ⊎ ((fault : BornFault) × (begin b f ≡ Err fault) × (next ≡ GivesUp (cause.Refused fault)))

  -- the next step of a birth, of which so many are still to do
  abbrev pub BirthStep : Spot V → Place V → ℕ → Next V → Type 0
  BirthStep spot p (suc (suc (suc births))) next = ReadsFile p.follows.files.forward side.Forward next (record spot { births = 2 })
  BirthStep spot p (suc (suc zero)) next = ReadsFile p.follows.files.reverse side.Reverse next (record spot { births = 1; keeps = Some (record { update = p.update; files = p.follows.files }) })
  BirthStep spot p births next = IsBorn spot p.follows next

  -- ## The matching

  abbrev pub handed_next : Spot V → Option ℕ → V → Next V
  handed_next spot None reached = Moves (record spot { quiet = true })
  handed_next spot (Some n) reached = IsReadyFor reached n

  abbrev pub decided_next : Spot V → Place V → V → Bool → Next V
  decided_next spot p reached true = Moves (record spot { decisions = spot.decisions + 1 })
  decided_next spot p reached false = handed_next spot p.hand reached

  -- an item that is to match; where there is none, the next decision; where there is none, the guest is ready or quiet
  abbrev pub item_next : Spot V → Place V → V → List (Call × Reply) → Next V
  item_next spot p reached [] = decided_next spot p reached (nat_lt spot.decisions (length (groups_at p)))
  item_next spot p reached (item ∷ more) =
      cond (event_fits (b.go (past b reached)) item) (Moves (record spot { matched = spot.matched + 1 })) (GivesUp (failure spot.matched item.0 (b.go (past b reached))))

  -- the items that were matched stand at a state, and the next thing is done from there
  pub record Matches (spot : Spot V) (p : Place V) (next : Next V) : Type 0 where
    pub matched : List (Call × Reply)
    pub rest : List (Call × Reply)
    pub items_are : items_at p spot.decisions ≡ matched ++ rest
    pub count : length matched ≡ spot.matched
    pub reached : V
    pub stands : replayed_from b (begin b p.follows) matched ≡ Stands reached
    pub next_is : next ≡ item_next spot p reached rest

  abbrev pub NextAt : Spot V → Place V → ℕ → Next V → Type 0
  NextAt spot p zero next = Matches spot p next
  NextAt spot p (suc births) next = BirthStep spot p (suc births) next

  -- what one step does, where there is a base; besides, it may want memory
  pub record StepsTo (spot : Spot V) (next : Next V) : Type 0 where
    pub place : Place V
    pub place_is : spot.place ≡ Some place
    pub by : NextAt spot place spot.births next
