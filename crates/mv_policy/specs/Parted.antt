-- For private clauses: the parts of a console that keeps to a policy.
use Rattle.std.specs.Prelude.{◌≡◌, ◌≤◌, ◌<◌, ◌+◌, ℕ, true, List, [], ◌∷◌, ◌++◌, ◌⊎◌, length, take, drop, Option}
use Rattle.mv_outside.specs.Told.{told_more}
use Rattle.mv_outside.specs.declared.console.Line.{Line}
use Rattle.mv_outside.specs.declared.console.Line.TheVariants as line
use Rattle.mv_policy.specs.declared.parts.Parts.{Parts}
use Rattle.mv_policy.specs.declared.spoken.Spoken.TheVariants.{Denial}
use Rattle.mv_policy.specs.declared.decision.Decision.TheVariants.{Allowed, Denied}
use Rattle.mv_policy.specs.Decided.{decided}
use Rattle.mv_policy.specs.Spoken.{denial_text}
use Rattle.mv_policy.specs.Guarded.{Guarded, Seen}
use Rattle.mv_policy.specs.Looks.{first_failure}

abbrev pub seen_in : {C : Type 0} → (C → Option (List (Option (List ℕ)))) → (C → Option (List ℕ)) → Parts C → Seen
seen_in coming said p =
    record { coming = coming p.inner; said = said p.inner; policy = p.policy; stored = p.shelf.spoken; failed_at = p.failed_at; deaf = p.deaf }

abbrev pub faults_of : {C : Type 0} → (C → ℕ) → Parts C → ℕ
faults_of faults p = faults p.inner + p.misses

-- a line of this length may be said and kept
abbrev pub IsReady : {C : Type 0} → (C → ℕ) → Parts C → Type 0
IsReady room p = (p.room ≤ room p.inner) × (p.room ≤ p.shelf.room) × (0 < p.room → 0 < p.shelf.free)

-- a denial was said and kept, or a part of it was said
abbrev pub HasDenied : ℕ → Seen → Line → Seen → Type 0
HasDenied rule before (line.Line order) now = ⊥
HasDenied rule before line.Idle now = now ≡ record before { said = told_more before.said (denial_text rule); stored = before.stored ++ Denial rule ∷ [] }
HasDenied rule before line.Closed now = ⊥
HasDenied rule before line.Failed now =
    (part : ℕ) × (now ≡ record before { said = told_more before.said (take part (denial_text rule)); failed_at = first_failure before.failed_at (length before.stored); deaf = true })
HasDenied rule before line.Memory now = ⊥

-- a line that was taken was handed on as its order, or denied
abbrev pub HasAnswered : List ℕ → Seen → Line → Seen → Type 0
HasAnswered text before r now =
    ((order : List ℕ) × (from : ℕ) × (rule : ℕ) × (r ≡ line.Line order) × (decided before.policy text ≡ Allowed from rule) × (order ≡ drop from text) × (now ≡ before))
    ⊎ ((rule : ℕ) × (decided before.policy text ≡ Denied rule) × HasDenied rule before r now)

abbrev pub guarded : {C : Type 0} → Parts C → Guarded C
guarded p = record { inner = p.inner; policy = p.policy; stored = p.shelf.spoken; failed_at = p.failed_at; deaf = p.deaf; misses = p.misses; room = p.room }

-- what is seen of the parts is kept, and they are ready
pub record IsGuard {C : Type 0} (room : C → ℕ) (IsKept : Seen → Type 0) (s : Seen) (p : Parts C) : Type 0 where
  pub kept : IsKept s
  pub ready : IsReady room p
