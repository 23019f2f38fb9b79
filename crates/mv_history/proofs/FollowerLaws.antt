-- What holds of a follower's replay when it hears more.
use Rattle.std.specs.Prelude.{◌≡◌, ◌⊎◌, ℕ, Bool, true, false, List, [], ◌++◌, refl, Result, Ok, Err}
use Rattle.std.proofs.Common.{sym, subst, ◌∙◌, ap, inl, inr, append-nil}
use Rattle.mv_calls.specs.declared.calls.Call.{Call}
use Rattle.mv_calls.specs.declared.calls.Reply.{Reply}
use Rattle.mv_syntax.specs.declared.fault.BornFault.{BornFault}
use Rattle.mv_rules.specs.declared.rule.Rule.{Rule}
use Rattle.mv_rules.specs.Shape.{AreShaped}
use Rattle.mv_rewrite.specs.Deciding.{BeginsWith}
use Rattle.mv_rewrite.proofs.RewritingLaws.{sure_front, turned_front}
use Rattle.mv_version.specs.Behaviour.{Behaviour}
use Rattle.mv_version.specs.declared.event.Event.{Event}
use Rattle.mv_history.specs.Followers.{Base, Forked, Standing, Following, file_by, hears_by, rewritten_by, begin, replayed, replayed_from, FollowerShows}
use Rattle.mv_history.specs.Replay.{Stands, Fails, Unborn}
use Rattle.mv_history.specs.Rules.{AreAccepted, rules_of}
use Rattle.mv_history.specs.Ties.{with_more}
use Rattle.mv_history.specs.declared.log.Cause.{Cause}
use Rattle.mv_history.specs.declared.log.Cause.TheVariants as cause
use Rattle.mv_history.specs.declared.log.Side.TheVariants as side
use Rattle.mv_history.specs.declared.updates.Update.{Update}
use Rattle.mv_history.proofs.ReplayLaws.{replay-fails, replay-stands}
use Rattle.mv_history.proofs.RulesLaws.{accepted_shaped, accepted_stays}

-- the rules of an accepted update are within the limits
side_shaped : {V : Type 0} (base : Base V) (files : Update) → AreAccepted files → AreShaped (rules_of (file_by base files))
side_shaped (Forked s) files accepted = accepted_shaped files.forward accepted.forward
side_shaped (Standing s) files accepted = accepted_shaped files.reverse accepted.reverse

pub hears_shaped : {V : Type 0} (f : Following V) → AreAccepted f.files → AreShaped (hears_by f)
hears_shaped f accepted = side_shaped f.base f.files accepted

-- what was rewritten surely is a front of what is rewritten later
pub sure_rewritten : (handed : Bool) (rules : List Rule) (heard more : List (Call × Reply)) → AreShaped rules → BeginsWith (rewritten_by handed rules (heard ++ more)) (rewritten_by false rules heard)
sure_rewritten true rules heard more shaped = turned_front rules heard more shaped
sure_rewritten false rules heard more shaped = sure_front rules heard more shaped

-- nothing was handed over, or nothing was heard since
abbrev pub IsEarlier : Bool → Bool → List (Call × Reply) → Type 0
IsEarlier early later more = (early ≡ false) ⊎ ((more ≡ []) × (later ≡ early))

front_by : (early later : Bool) (rules : List Rule) (heard more : List (Call × Reply)) → AreShaped rules → IsEarlier early later more
    → BeginsWith (rewritten_by later rules (heard ++ more)) (rewritten_by early rules heard)
front_by early later rules heard more shaped (inl unhanded) =
    subst (λ e. BeginsWith (rewritten_by later rules (heard ++ more)) (rewritten_by e rules heard)) (sym unhanded) (sure_rewritten later rules heard more shaped)
front_by early later rules heard more shaped (inr same) =
    ([], ap (λ m. rewritten_by later rules (heard ++ m)) same.0 ∙ ap (λ l. rewritten_by later rules l) (append-nil heard) ∙ ap (λ e. rewritten_by e rules heard) same.1 ∙ sym (append-nil (rewritten_by early rules heard)))

module _ {V : Type 0} (b : Behaviour V) where
  from_fails : (begins : Result V BornFault) (xs ys : List (Call × Reply)) (k : ℕ) (c : Call) (e : Event) → replayed_from b begins xs ≡ Fails k c e → replayed_from b begins (xs ++ ys) ≡ Fails k c e
  from_fails (Ok s) xs ys k c e h = replay-fails b 0 s xs ys k c e h
  from_fails (Err f) xs ys k c e h = absurd (let bad : Unborn f ≡ Fails k c e = h in cc)

  from_stands : (begins : Result V BornFault) (xs ys : List (Call × Reply)) (t : V) → replayed_from b begins (xs ++ ys) ≡ Stands t → (u : V) × (replayed_from b begins xs ≡ Stands u)
  from_stands (Ok s) xs ys t h = replay-stands b 0 s xs ys t h
  from_stands (Err f) xs ys t h = absurd (let bad : Unborn f ≡ Stands t = h in cc)

  pub from_born : (begins : Result V BornFault) (xs : List (Call × Reply)) (f : BornFault) (t : V) → replayed_from b begins xs ≡ Stands t → begins ≡ Err f → ⊥
  from_born (Ok s) xs f t h is = let bad : Ok s ≡ Err f = is in cc
  from_born (Err g) xs f t h is = let bad : Unborn g ≡ Stands t = h in cc

  -- a failure stays when more is heard
  pub more_fails : (f : Following V) (early later : Bool) (more : List (Call × Reply)) (k : ℕ) (c : Call) (e : Event) → AreAccepted f.files → IsEarlier early later more
      → replayed b early f ≡ Fails k c e → replayed b later (with_more f more) ≡ Fails k c e
  more_fails f early later more k c e accepted earlier h =
      let front = front_by early later (hears_by f) f.heard more (hears_shaped f accepted) earlier in
      ap (λ l. replayed_from b (begin b f) l) front.1 ∙ from_fails (begin b f) (rewritten_by early (hears_by f) f.heard) front.0 k c e h

  -- what stands later stood
  pub more_stands : (f : Following V) (early later : Bool) (more : List (Call × Reply)) (t : V) → AreAccepted f.files → IsEarlier early later more
      → replayed b later (with_more f more) ≡ Stands t → (u : V) × (replayed b early f ≡ Stands u)
  more_stands f early later more t accepted earlier h =
      let front = front_by early later (hears_by f) f.heard more (hears_shaped f accepted) earlier in
      from_stands (begin b f) (rewritten_by early (hears_by f) f.heard) front.0 t (ap (λ l. replayed_from b (begin b f) l) (sym front.1) ∙ h)

  -- what is shown stays shown when more is heard
  pub more_shows : (f : Following V) (early later : Bool) (more : List (Call × Reply)) (c : Cause) → IsEarlier early later more
      → FollowerShows b early f c → FollowerShows b later (with_more f more) c
  more_shows f early later more (cause.Rules side.Forward fault) earlier h = h
  more_shows f early later more (cause.Rules side.Reverse fault) earlier h = h
  more_shows f early later more (cause.Refused fault) earlier h = h
  more_shows f early later more (cause.Trap k trap) earlier h = (h.0, record { accepted = h.1.accepted; fails = more_fails f early later more k h.0 _ h.1.accepted earlier h.1.fails })
  more_shows f early later more (cause.Mismatch k want got) earlier h = (h.0, record { accepted = h.1.accepted; fails = more_fails f early later more k want got h.1.accepted earlier h.1.fails })
  more_shows f early later more (cause.Order n) earlier h = h
  more_shows f early later more cause.Memory earlier h = h

  -- nothing but want of memory is shown of a follower that stands
  pub stands_shows : (f : Following V) (handed : Bool) (t : V) (c : Cause) → AreAccepted f.files → replayed b handed f ≡ Stands t → FollowerShows b handed f c → c ≡ cause.Memory
  stands_shows f handed t (cause.Rules side.Forward fault) accepted stands h = absurd (accepted_stays f.files.forward fault accepted.forward h.1)
  stands_shows f handed t (cause.Rules side.Reverse fault) accepted stands h = absurd (accepted_stays f.files.reverse fault accepted.reverse h.2)
  stands_shows f handed t (cause.Refused fault) accepted stands h = absurd (from_born (begin b f) (rewritten_by handed (hears_by f) f.heard) fault t stands h.2)
  stands_shows f handed t (cause.Trap k trap) accepted stands h = absurd (let bad : Stands t ≡ Fails k h.0 _ = sym stands ∙ h.1.fails in cc)
  stands_shows f handed t (cause.Mismatch k want got) accepted stands h = absurd (let bad : Stands t ≡ Fails k want got = sym stands ∙ h.1.fails in cc)
  stands_shows f handed t (cause.Order n) accepted stands h = absurd h
  stands_shows f handed t cause.Memory accepted stands h = refl
