-- A console that keeps to a policy: what is seen of it, what it tells, and what its type keeps.
use Rattle.std.specs.Prelude.{◌≡◌, ◌≢◌, ◌≤◌, ℕ, Bool, true, false, if◌then◌else◌, List, [], ◌∷◌, ◌++◌, length, take, drop, map, Option, Some, None}
use Rattle.std.specs.List.{flat_map}
use Rattle.std.specs.Option.{option_map}
use Rattle.mv_outside.specs.Told.{told_more, told_first}
use Rattle.mv_policy.specs.declared.line.PolicyLine.{PolicyLine}
use Rattle.mv_policy.specs.declared.spoken.Spoken.{Spoken}
use Rattle.mv_policy.specs.declared.decision.Decision.{Decision}
use Rattle.mv_policy.specs.declared.decision.Decision.TheVariants.{Allowed, Denied}
use Rattle.mv_policy.specs.Decided.{decided}
use Rattle.mv_policy.specs.Spoken.{texts, replies, denials}

-- ## What is seen

pub record Guarded (C : Type 0) : Type 0 where
  pub inner : C
  pub policy : List PolicyLine
  -- the replies and denials that were said, oldest first
  pub stored : List Spoken
  -- how many were stored when a `say` of the inner console failed first, if one has
  pub failed_at : Option ℕ
  -- the `say` of a denial has failed: the inner console is asked no more
  pub deaf : Bool
  -- how often Failed was answered without asking
  pub misses : ℕ
  -- how long a line may be that is said now
  pub room : ℕ

-- the same, with what the inner console tells
pub record Seen : Type 0 where
  pub coming : Option (List (Option (List ℕ)))
  pub said : Option (List ℕ)
  pub policy : List PolicyLine
  pub stored : List Spoken
  pub failed_at : Option ℕ
  pub deaf : Bool

abbrev pub seen : {C : Type 0} → (C → Option (List (Option (List ℕ)))) → (C → Option (List ℕ)) → Guarded C → Seen
seen coming said g =
    record { coming = coming g.inner; said = said g.inner; policy = g.policy; stored = g.stored; failed_at = g.failed_at; deaf = g.deaf }

-- ## What it tells

abbrev pub order_in : List ℕ → Decision → Option (List ℕ)
order_in line (Allowed from rule) = Some (drop from line)
order_in line (Denied rule) = None

-- a line is handed on as its order where it is allowed; a denied one is an idle turn
abbrev pub handed : List PolicyLine → Option (List ℕ) → Option (List ℕ)
handed policy None = None
handed policy (Some line) = order_in line (decided policy line)

abbrev pub all_handed : List PolicyLine → Option (List (Option (List ℕ))) → Option (List (Option (List ℕ)))
all_handed policy told = option_map (λ turns. map (handed policy) turns) told

-- what is to come; a line whose denial couldn't be said is an idle turn that never comes
abbrev pub orders_of : Seen → Option (List (Option (List ℕ)))
orders_of s = if s.deaf then told_first None (all_handed s.policy s.coming) else all_handed s.policy s.coming

-- the replies alone, where the inner console tells what it said
abbrev pub replies_of : Seen → Option (List ℕ)
replies_of s = option_map (λ told. replies s.stored) s.said

-- ## What its type keeps

-- the rules by which the policy denies these lines, in order
abbrev pub denied_in : Decision → List ℕ
denied_in (Allowed from rule) = []
denied_in (Denied rule) = rule ∷ []

abbrev pub denied_turn : List PolicyLine → Option (List ℕ) → List ℕ
denied_turn policy None = []
denied_turn policy (Some line) = denied_in (decided policy line)

abbrev pub denied_by : List PolicyLine → List (Option (List ℕ)) → List ℕ
denied_by policy turns = flat_map (denied_turn policy) turns

-- what was told before these turns were taken, where anything is told
abbrev pub told_front : List (Option (List ℕ)) → Option (List (Option (List ℕ))) → Option (List (Option (List ℕ)))
told_front taken None = None
told_front taken (Some rest) = Some (taken ++ rest)

-- none but the denial whose `say` failed
abbrev pub IsLost : Bool → List ℕ → Type 0
IsLost true lost = (rule : ℕ) × (lost ≡ rule ∷ [])
IsLost false lost = lost ≡ []

-- the inner console said what is stored and nothing else; since a `say` failed, what was stored before that, and then more
abbrev pub HasSaid : Option (List ℕ) → Option (List ℕ) → List Spoken → Option ℕ → Type 0
HasSaid before now stored None = now ≡ told_more before (texts stored)
HasSaid before now stored (Some n) = (n ≤ length stored) × ((more : List ℕ) × (now ≡ told_more before (texts (take n stored) ++ more)))

-- what a console of this policy keeps, over what was to come and what was said when it was made
pub record IsKept (coming : Option (List (Option (List ℕ)))) (said : Option (List ℕ)) (policy : List PolicyLine) (s : Seen) : Type 0 where
  pub ruled : s.policy ≡ policy
  -- the lines and idle turns that were taken
  pub taken : List (Option (List ℕ))
  pub came : coming ≡ told_front taken s.coming
  -- the denials that were said, and one that couldn't be, are those of the lines taken, in order
  pub lost : List ℕ
  pub denied : denials s.stored ++ lost ≡ denied_by policy taken
  pub unsaid : IsLost s.deaf lost
  pub spoke : HasSaid said s.said s.stored s.failed_at
  pub broke : s.deaf ≡ true → s.failed_at ≢ None
