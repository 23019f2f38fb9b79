-- Steps of the plain fold.
use Rattle.std.specs.Prelude.{◌≡◌, ◌↔◌, Bool, true, false, IsTrue, Some, None}
use Rattle.std.proofs.Common.{sym, ◌∙◌, ap}
use Rattle.mv_calls.specs.declared.calls.Call.{Call}
use Rattle.mv_version.specs.Behaviour.{Behaviour, PointsEnd, IsSettled}
use Rattle.mv_version.specs.declared.event.Event.{Event}
use Rattle.mv_version.specs.declared.event.Event.TheVariants as event
use Rattle.mv_history.specs.Replay.{past}
use Rattle.mv_history.specs.World.{AsksFor, AsksForTrap}
use Rattle.mv_history.specs.declared.log.Why.{Why}
use Rattle.mv_history.specs.declared.log.Why.TheVariants as why
use Rattle.mv_history.specs.declared.status.Asked.{Asked}
use Rattle.mv_history.specs.declared.status.Status.{Status}
use Rattle.mv_history.proofs.ReplayLaws.{past_passed}

module _ {V : Type 0} (b : Behaviour V) (ends : PointsEnd b) (settled : IsSettled b) where
  -- a point that is passed changes nothing of what lies past all points
  pub pass_once : (s mid new : V) → mid ≡ b.state s → new ≡ b.passed (b.state mid) → b.go (b.state s) ≡ event.Point → past b (b.state new) ≡ past b (b.state s)
  pass_once s mid new at_mid at_new here =
      let one : b.state mid ≡ b.state s = ap b.state at_mid ∙ settled.state_once s in
      let two : new ≡ b.passed (b.state s) = at_new ∙ ap b.passed one in
      let three : b.state new ≡ b.passed (b.state s) = ap b.state two ∙ settled.passed_is (b.state s) in
      ap (past b) three ∙ past_passed b ends (b.state s) here

-- the event that was met is the one at which the guest stands
pub met_here : {V : Type 0} (b : Behaviour V) (P : Call → Type 0) (e : Event) (s t : V) → e ≡ b.go s → t ≡ s → (call : Call) × (e ≡ event.Calls call) × P call → (call : Call) × (b.go t ≡ event.Calls call) × P call
met_here b P e s t met here h = (h.0, ap b.go here ∙ sym met ∙ h.1, h.2)

-- ## What is asked

asked_is : (st : Status) (a : Asked) (x : Why) → st.asked ≡ Some a → (a.why ≡ x) ↔ AsksFor st x
asked_is st a x is = (
  (λ same. (a.n, is ∙ ap (λ w. Some (record { why = w; n = a.n })) same)),
  (λ asks. let both : Some a ≡ Some (record { why = x; n = asks.0 }) = sym is ∙ asks.1 in
      let one : a ≡ record { why = x; n = asks.0 } = cc in
      let P : Asked → Why = λ r. r.why in ap P one),
)

pub asks_exactly : (answer : Bool) (st : Status) (a : Asked) (x : Why) → st.asked ≡ Some a → (IsTrue answer ↔ (a.why ≡ x)) → IsTrue answer ↔ AsksFor st x
asks_exactly answer st a x is same = let to = asked_is st a x is in ((λ h. to.0 (same.0 h)), (λ h. same.1 (to.1 h)))

pub asks_nothing : (st : Status) (x : Why) → st.asked ≡ None → IsTrue false ↔ AsksFor st x
asks_nothing st x is = ((λ bad. absurd (let h : false ≡ true = bad in cc)), (λ asks. absurd (let bad : None ≡ Some (record { why = x; n = asks.0 }) = sym is ∙ asks.1 in cc)))

pub traps_exactly : (answer : Bool) (st : Status) (a : Asked) → st.asked ≡ Some a → (IsTrue answer ↔ ((t : _) × (a.why ≡ why.Trap t))) → IsTrue answer ↔ AsksForTrap st
traps_exactly answer st a is same =
    ((λ h. let t = same.0 h in (t.0, (asked_is st a (why.Trap t.0) is).0 t.1)), (λ h. same.1 (h.0, (asked_is st a (why.Trap h.0) is).1 h.1)))

pub asks_no_trap : (st : Status) → st.asked ≡ None → IsTrue false ↔ AsksForTrap st
asks_no_trap st is = ((λ bad. absurd (let h : false ≡ true = bad in cc)), (λ asks. absurd (let bad : None ≡ Some (record { why = why.Trap asks.0; n = asks.1.0 }) = sym is ∙ asks.1.1 in cc)))
