-- What a guest does, as functions of its state at its next event (docs/DEFINITIONS.md, "Versions").
use Rattle.std.specs.Prelude.{◌≡◌, ℕ, ◌<◌, List, Result, Ok}
use Rattle.mv_calls.specs.declared.calls.Call.{Call}
use Rattle.mv_calls.specs.declared.calls.Reply.{Reply}
use Rattle.mv_syntax.specs.declared.fault.BornFault.{BornFault}
use Rattle.mv_syntax.specs.declared.fault.BornFault.TheVariants as faults
use Rattle.mv_version.specs.declared.event.Event.{Event}
use Rattle.mv_version.specs.declared.event.Event.TheVariants.{Calls, Point}

pub record Behaviour (S : Type 0) : Type 0 where
  -- the state of a guest, without what was prepared for its call
  pub state : S → S
  -- the next event
  pub go : S → Event
  -- the state once the call at which it stands is answered
  pub after : S → Reply → S
  -- the state past the point at which it stands
  pub passed : S → S
  -- the state at the beginning, of a module's bytes and the arguments, or the first fault
  pub started : List ℕ → List (List ℕ) → Result S BornFault
  -- the state made from an old one by the bytes of a new module, or the first fault
  pub born : S → List ℕ → Result S BornFault
  -- it falls from a point to the next in a row
  pub left : S → ℕ

-- the guest stands at a call of which P holds
abbrev pub CallsIn : {S : Type 0} → Behaviour S → S → (Call → Type 0) → Type 0
CallsIn b s P = (call : Call) × (b.go s ≡ Calls call) × P call

-- points in a row come to an end
abbrev pub PointsEnd : {S : Type 0} → Behaviour S → Type 0
PointsEnd {S} b = (s : S) → b.go s ≡ Point → b.go (b.passed s) ≡ Point → b.left (b.passed s) < b.left s

-- what comes of a state has nothing prepared, and a state says as much as a guest of that state
pub record IsSettled {S : Type 0} (b : Behaviour S) : Type 0 where
  pub state_once : (s : S) → b.state (b.state s) ≡ b.state s
  pub after_is : (s : S) (r : Reply) → b.state (b.after s r) ≡ b.after s r
  pub passed_is : (s : S) → b.state (b.passed s) ≡ b.passed s
  pub started_is : (module_bytes : List ℕ) (args : List (List ℕ)) (s : S) → b.started module_bytes args ≡ Ok s → b.state s ≡ s
  pub born_is : (s : S) (module_bytes : List ℕ) → b.born (b.state s) module_bytes ≡ b.born s module_bytes
  pub newborn_is : (s : S) (module_bytes : List ℕ) (v : S) → b.born s module_bytes ≡ Ok v → b.state v ≡ v

-- the faults of a guest that starts: of the bytes, of the validation, of the start
abbrev pub IsStartFault : BornFault → Type 0
IsStartFault (faults.Read fault) = Unit {0}
IsStartFault (faults.Valid fault) = Unit {0}
IsStartFault (faults.Start fault) = Unit {0}
IsStartFault fault = ⊥
