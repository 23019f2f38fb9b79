-- What is found out about a follower shows exactly its causes.
use Rattle.std.specs.Prelude.{◌≡◌, ◌↔◌, ℕ, Bool, true, List, [], ◌∷◌, Option, Some, None, Result, Ok, Err}
use Rattle.std.proofs.Common.{sym, subst, ◌∙◌, ap, inl, inr}
use Rattle.mv_calls.specs.declared.calls.Call.{Call}
use Rattle.mv_calls.specs.declared.calls.Reply.{Reply}
use Rattle.mv_rules.specs.declared.rule.Rule.{Rule}
use Rattle.mv_rules.specs.declared.fault.RuleFault.{RuleFault}
use Rattle.mv_rulecheck.specs.Atoms.{IsKept, IsUnkept, IsFirstUnkept}
use Rattle.mv_syntax.specs.declared.fault.BornFault.{BornFault}
use Rattle.mv_version.specs.Behaviour.{Behaviour}
use Rattle.mv_version.specs.declared.event.Event.{Event}
use Rattle.mv_version.specs.declared.event.Event.TheVariants as event
use Rattle.mv_audit.specs.Audit.{IsForked, IsForwardFault, IsReverseFault, IsUnborn, IsUnbornBy, FailsIn, FailsBy, StandsIn, StandsBy, FoundBy, IsTold, MayShow, IsJudged, came, base_of, following_of, follower_of, world_of}
use Rattle.mv_history.specs.Followers.{Following, FailsAt, Reaches, begin, replayed, replayed_from, rewritten_by, hears_by, is_forked}
use Rattle.mv_history.specs.Replay.{Stands, Fails, Unborn}
use Rattle.mv_history.specs.Rules.{IsAccepted, IsRefused, AreAccepted}
use Rattle.mv_history.specs.World.{Shows, is_asked}
use Rattle.mv_audit.specs.declared.auditing.Audit.{Audit}
use Rattle.mv_audit.specs.declared.following.Basis.{Basis}
use Rattle.mv_audit.specs.declared.following.Basis.TheVariants as basis
use Rattle.mv_audit.specs.declared.following.Follower.{Follower}
use Rattle.mv_audit.specs.declared.following.Judgement.{Judgement}
use Rattle.mv_audit.specs.declared.following.Judgement.TheVariants as judgement
use Rattle.mv_history.specs.declared.log.Cause.{Cause}
use Rattle.mv_history.specs.declared.log.Cause.TheVariants as cause
use Rattle.mv_history.specs.declared.log.Side.TheVariants as side
use Rattle.mv_audit.specs.declared.replaying.Outcome.{Outcome}
use Rattle.mv_audit.specs.declared.replaying.Outcome.TheVariants as outcome
use Rattle.mv_history.specs.declared.status.Status.{Status}
use Rattle.mv_history.proofs.ReplayLaws.{replay-born}
use Rattle.mv_history.proofs.RulesLaws.{accepted_stays}

-- ## A file is refused with one fault

unkept_once : (rule : Rule) (a c : RuleFault) → IsUnkept rule a → IsUnkept rule c → a ≡ c
unkept_once rule a c (inl h) (inl k) = h.1 ∙ sym k.1
unkept_once rule a c (inl h) (inr k) = absurd (h.0 k.0)
unkept_once rule a c (inr h) (inl k) = absurd (k.0 h.0)
unkept_once rule a c (inr h) (inr k) = h.2 ∙ sym k.2

kept_not : (rule : Rule) (a : RuleFault) → IsKept rule → IsUnkept rule a → ⊥
kept_not rule a kept (inl h) = h.0 kept.reads
kept_not rule a kept (inr h) = h.1 kept.accepts

first_once : (rules : List Rule) (a c : RuleFault) → IsFirstUnkept rules a → IsFirstUnkept rules c → a ≡ c
first_once [] a c h k = absurd h
first_once (rule ∷ rules) a c (inl h) (inl k) = unkept_once rule a c h k
first_once (rule ∷ rules) a c (inl h) (inr k) = absurd (kept_not rule a k.0 h)
first_once (rule ∷ rules) a c (inr h) (inl k) = absurd (kept_not rule c h.0 k)
first_once (rule ∷ rules) a c (inr h) (inr k) = first_once rules a c h.1 k.1

refused_once : (text : List ℕ) (a c : RuleFault) → IsRefused text a → IsRefused text c → a ≡ c
refused_once text a c (inl h) (inl k) = let both : Err a ≡ Err c = sym h ∙ k in cc
refused_once text a c (inl h) (inr k) = absurd (let bad : Err a ≡ Ok k.0 = sym h ∙ k.1 in cc)
refused_once text a c (inr h) (inl k) = absurd (let bad : Err c ≡ Ok h.0 = sym k ∙ h.1 in cc)
refused_once text a c (inr h) (inr k) =
    let both : Ok h.0 ≡ Ok k.0 = sym h.1 ∙ k.1 in
    let one : h.0 ≡ k.0 = cc in
    first_once k.0 a c (let P : List Rule → Type 0 = λ rules. IsFirstUnkept rules a in subst P one h.2) k.2

-- ## Where a replay leads

module _ {V : Type 0} (b : Behaviour V) (handed : Bool) (f : Following V) where
  forward_fault : (j : Judgement V) (fault : RuleFault) → IsJudged b handed f j → IsForwardFault j fault ↔ IsRefused f.files.forward fault
  forward_fault (judgement.Forward found) fault h = ((λ same. let P : RuleFault → Type 0 = λ x. IsRefused f.files.forward x in subst P same h), (λ refused. refused_once f.files.forward found fault h refused))
  forward_fault (judgement.Reverse found) fault h = ((λ bad. absurd bad), (λ refused. accepted_stays f.files.forward fault h.0 refused))
  forward_fault (judgement.Ran outcome) fault h = ((λ bad. absurd bad), (λ refused. accepted_stays f.files.forward fault h.0.forward refused))

  reverse_fault : (j : Judgement V) (fault : RuleFault) → IsJudged b handed f j → IsReverseFault j fault ↔ (IsAccepted f.files.forward × IsRefused f.files.reverse fault)
  reverse_fault (judgement.Forward found) fault h = ((λ bad. absurd bad), (λ both. accepted_stays f.files.forward found both.0 h))
  reverse_fault (judgement.Reverse found) fault h = ((λ same. (h.0, let P : RuleFault → Type 0 = λ x. IsRefused f.files.reverse x in subst P same h.1)), (λ both. refused_once f.files.reverse found fault h.1 both.1))
  reverse_fault (judgement.Ran outcome) fault h = ((λ bad. absurd bad), (λ both. accepted_stays f.files.reverse fault h.0.reverse both.1))

  unborn_begins : (r : Result V BornFault) (items : List (Call × Reply)) (fault : BornFault) → replayed_from b r items ≡ Unborn fault → r ≡ Err fault
  unborn_begins (Ok s) items fault h = absurd (replay-born b 0 s items fault h)
  unborn_begins (Err found) items fault h = let same : Unborn found ≡ Unborn fault = h in ap Err cc

  unborn_by : (o : Outcome V) (fault : BornFault) → AreAccepted f.files → replayed b handed f ≡ came b o → IsUnbornBy o fault ↔ (AreAccepted f.files × (begin b f ≡ Err fault))
  unborn_by (outcome.Stands guest) fault accepted h =
      ((λ bad. absurd bad), (λ both. let bad : Unborn fault ≡ Stands (b.state guest) = sym (ap (λ r. replayed_from b r (rewritten_by handed (hears_by f) f.heard)) both.1) ∙ h in cc))
  unborn_by (outcome.Fails k want met) fault accepted h =
      ((λ bad. absurd bad), (λ both. let bad : Unborn fault ≡ Fails k want met = sym (ap (λ r. replayed_from b r (rewritten_by handed (hears_by f) f.heard)) both.1) ∙ h in cc))
  unborn_by (outcome.Unborn found) fault accepted h =
      ((λ same. (accepted, unborn_begins (begin b f) (rewritten_by handed (hears_by f) f.heard) fault (h ∙ ap Unborn same))), (λ both. let same : Unborn fault ≡ Unborn found = sym (ap (λ r. replayed_from b r (rewritten_by handed (hears_by f) f.heard)) both.1) ∙ h in cc))

  unborn : (j : Judgement V) (fault : BornFault) → IsJudged b handed f j → IsUnborn j fault ↔ (AreAccepted f.files × (begin b f ≡ Err fault))
  unborn (judgement.Forward found) fault h = ((λ bad. absurd bad), (λ both. accepted_stays f.files.forward found both.0.forward h))
  unborn (judgement.Reverse found) fault h = ((λ bad. absurd bad), (λ both. accepted_stays f.files.reverse found both.0.reverse h.1))
  unborn (judgement.Ran outcome) fault h = unborn_by outcome fault h.0 h.1

  fails_by : (o : Outcome V) (k : ℕ) (want : Call) (met : Event) → AreAccepted f.files → replayed b handed f ≡ came b o → FailsBy o k want met ↔ FailsAt b handed f k want met
  fails_by (outcome.Stands guest) k want met accepted h = ((λ bad. absurd bad), (λ x. let bad : Stands (b.state guest) ≡ Fails k want met = sym h ∙ x.fails in cc))
  fails_by (outcome.Fails j other event) k want met accepted h =
      ((λ x. record { accepted = accepted; fails = h ∙ (let same : Fails j other event ≡ Fails k want met = cc in same) }), (λ x. let same : Fails j other event ≡ Fails k want met = sym h ∙ x.fails in (cc, cc, cc)))
  fails_by (outcome.Unborn found) k want met accepted h = ((λ bad. absurd bad), (λ x. let bad : Unborn found ≡ Fails k want met = sym h ∙ x.fails in cc))

  fails : (j : Judgement V) (k : ℕ) (want : Call) (met : Event) → IsJudged b handed f j → FailsIn j k want met ↔ FailsAt b handed f k want met
  fails (judgement.Forward found) k want met h = ((λ bad. absurd bad), (λ x. accepted_stays f.files.forward found x.accepted.forward h))
  fails (judgement.Reverse found) k want met h = ((λ bad. absurd bad), (λ x. accepted_stays f.files.reverse found x.accepted.reverse h.1))
  fails (judgement.Ran outcome) k want met h = fails_by outcome k want met h.0 h.1

module _ {V : Type 0} (b : Behaviour V) (f : Following V) where
  stands_by : (o : Outcome V) → AreAccepted f.files → replayed b true f ≡ came b o → StandsBy o ↔ ((s : V) × Reaches b f s)
  stands_by (outcome.Stands guest) accepted h = ((λ _. (b.state guest, record { accepted = accepted; stands = h })), (λ _. tt))
  stands_by (outcome.Fails k want met) accepted h = ((λ bad. absurd bad), (λ x. let bad : Fails k want met ≡ Stands x.0 = sym h ∙ x.1.stands in cc))
  stands_by (outcome.Unborn found) accepted h = ((λ bad. absurd bad), (λ x. let bad : Unborn found ≡ Stands x.0 = sym h ∙ x.1.stands in cc))

  pub ready_exactly : (j : Judgement V) → IsJudged b true f j → StandsIn j ↔ ((s : V) × Reaches b f s)
  ready_exactly (judgement.Forward found) h = ((λ bad. absurd bad), (λ x. accepted_stays f.files.forward found x.1.accepted.forward h))
  ready_exactly (judgement.Reverse found) h = ((λ bad. absurd bad), (λ x. accepted_stays f.files.reverse found x.1.accepted.reverse h.1))
  ready_exactly (judgement.Ran outcome) h = stands_by outcome h.0 h.1

-- ## The causes

forked_is : {V : Type 0} (p : Basis) (s : V) → IsForked p ↔ is_forked (base_of p s)
forked_is basis.Forked s = ((λ _. tt), (λ _. tt))
forked_is basis.Standing s = ((λ bad. bad), (λ bad. bad))

module _ {V : Type 0} (b : Behaviour V) (lead : V) (f : Follower V) (st : Status) where
  shown_may : (c : Cause) → Shows b (record { lead = lead; following = Some (following_of b f); status = st }) c → MayShow f.basis st c
  shown_may (cause.Rules side.Forward fault) x = (forked_is f.basis (b.state f.state)).1 x.0
  shown_may (cause.Rules side.Reverse fault) x = (forked_is f.basis (b.state f.state)).1 x.0
  shown_may (cause.Refused fault) x = (forked_is f.basis (b.state f.state)).1 x.0
  shown_may (cause.Trap k trap) x = tt
  shown_may (cause.Mismatch k want got) x = x.0
  shown_may (cause.Order n) x = ((forked_is f.basis (b.state f.state)).1 x.0, x.1)
  shown_may cause.Memory x = tt

  shown_told : (c : Cause) → IsTold c → MayShow f.basis st c → Shows b (record { lead = lead; following = Some (following_of b f); status = st }) c
  shown_told (cause.Rules side fault) told x = absurd told
  shown_told (cause.Refused fault) told x = absurd told
  shown_told (cause.Trap k trap) told x = absurd told
  shown_told (cause.Mismatch k want got) told x = absurd told
  shown_told (cause.Order n) told x = ((forked_is f.basis (b.state f.state)).0 x.0, x.1)
  shown_told cause.Memory told x = tt

  shown_exactly : (j : Judgement V) (c : Cause) → IsJudged b (is_asked st) (following_of b f) j → MayShow f.basis st c
      → FoundBy j c ↔ Shows b (record { lead = lead; following = Some (following_of b f); status = st }) c
  shown_exactly j (cause.Rules side.Forward fault) h may =
      let base = forked_is f.basis (b.state f.state) in
      let is = forward_fault b (is_asked st) (following_of b f) j fault h in
      ((λ x. (base.0 may, is.0 x)), (λ x. is.1 x.1))
  shown_exactly j (cause.Rules side.Reverse fault) h may =
      let base = forked_is f.basis (b.state f.state) in
      let is = reverse_fault b (is_asked st) (following_of b f) j fault h in
      ((λ x. let y = is.0 x in (base.0 may, y.0, y.1)), (λ x. is.1 (x.1, x.2)))
  shown_exactly j (cause.Refused fault) h may =
      let base = forked_is f.basis (b.state f.state) in
      let is = unborn b (is_asked st) (following_of b f) j fault h in
      ((λ x. let y = is.0 x in (base.0 may, y.0, y.1)), (λ x. is.1 (x.1, x.2)))
  shown_exactly j (cause.Trap k trap) h may =
      ((λ x. (x.0, (fails b (is_asked st) (following_of b f) j k x.0 (event.Traps trap) h).0 x.1)), (λ x. (x.0, (fails b (is_asked st) (following_of b f) j k x.0 (event.Traps trap) h).1 x.1)))
  shown_exactly j (cause.Mismatch k want got) h may =
      let is = fails b (is_asked st) (following_of b f) j k want got h in
      ((λ x. (may, is.0 x)), (λ x. is.1 x.1))
  shown_exactly j (cause.Order n) h may =
      let base = forked_is f.basis (b.state f.state) in
      ((λ _. (base.0 may.0, may.1)), (λ _. tt))
  shown_exactly j cause.Memory h may = ((λ _. tt), (λ _. tt))

pub nothing_shown : {V : Type 0} (b : Behaviour V) (lead : V) (st : Status) (c : Cause) → Shows b (record { lead = lead; following = None; status = st }) c → ⊥
nothing_shown b lead st (cause.Rules side fault) h = h
nothing_shown b lead st (cause.Refused fault) h = h
nothing_shown b lead st (cause.Trap k trap) h = h
nothing_shown b lead st (cause.Mismatch k want got) h = h
nothing_shown b lead st (cause.Order n) h = h.0
nothing_shown b lead st cause.Memory h = h

module _ {V : Type 0} (b : Behaviour V) (a : Audit V) (f : Follower V) (is : a.follower ≡ Some f) (c : Cause) where
  abbrev ShowsBeside : Option (Follower V) → Type 0
  ShowsBeside o = Shows b (record { lead = b.state a.lead; following = follower_of b o; status = a.status }) c

  pub hidden_in : (MayShow f.basis a.status c → ⊥) → Shows b (world_of b a) c → ⊥
  hidden_in not shown = not (shown_may b (b.state a.lead) f a.status c (subst ShowsBeside is shown))

  pub told_in : IsTold c → MayShow f.basis a.status c → Shows b (world_of b a) c
  told_in told may = subst ShowsBeside (sym is) (shown_told b (b.state a.lead) f a.status c told may)

  pub shown_in : (j : Judgement V) → IsJudged b (is_asked a.status) (following_of b f) j → MayShow f.basis a.status c → FoundBy j c ↔ Shows b (world_of b a) c
  shown_in j h may =
      let exactly = shown_exactly b (b.state a.lead) f a.status j c h may in
      ((λ found. subst ShowsBeside (sym is) (exactly.0 found)), (λ shown. exactly.1 (subst ShowsBeside is shown)))

module _ {V : Type 0} (b : Behaviour V) (f : Following V) where
  pub ready_stands : (j : Judgement V) → IsJudged b true f j → ((s : V) × Reaches b f s) → StandsIn j
  ready_stands j h reached = (ready_exactly b f j h).1 reached

  pub stands_there : (j : Judgement V) (guest : V) → IsJudged b true f j → j ≡ judgement.Ran (outcome.Stands guest) → replayed b true f ≡ Stands (b.state guest)
  stands_there j guest h is = let P : Judgement V → Type 0 = λ x. IsJudged b true f x in let there = subst P is h in there.1
