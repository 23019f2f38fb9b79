-- What a look at a console that keeps to a policy does.
use Rattle.std.specs.Prelude.{◌≡◌, ◌⊎◌, ℕ, true, false, List, [], ◌∷◌, ◌++◌, length, take, drop, Option, Some, None, Result, Ok, Err}
use Rattle.mv_outside.specs.Told.{told_more, told_first, IsAtEnd}
use Rattle.mv_outside.specs.declared.fault.Failed.{Failed}
use Rattle.mv_outside.specs.declared.console.Line.{Line}
use Rattle.mv_outside.specs.declared.console.Line.TheVariants as line
use Rattle.mv_policy.specs.declared.spoken.Spoken.TheVariants.{Reply, Denial}
use Rattle.mv_policy.specs.declared.spoken.Spoken.{Spoken}
use Rattle.mv_policy.specs.declared.decision.Decision.TheVariants.{Allowed, Denied}
use Rattle.mv_policy.specs.Decided.{decided}
use Rattle.mv_policy.specs.Spoken.{denial_text}
use Rattle.mv_policy.specs.Guarded.{Seen}

-- where a `say` failed first
abbrev pub first_failure : Option ℕ → ℕ → Option ℕ
first_failure None stored = Some stored
first_failure (Some n) stored = Some n

-- a line was taken that the policy allows, and its order is handed on
pub record HandsOn (before : Seen) (order : List ℕ) (now : Seen) : Type 0 where
  pub text : List ℕ
  pub from : ℕ
  pub rule : ℕ
  pub taken : before.coming ≡ told_first (Some text) now.coming
  pub allowed : decided before.policy text ≡ Allowed from rule
  pub order_is : order ≡ drop from text
  pub same : now ≡ record before { coming = now.coming }
  pub hears : before.deaf ≡ false

-- a line was taken that the policy denies, and its denial was said and stored
pub record Denies (before now : Seen) : Type 0 where
  pub text : List ℕ
  pub rule : ℕ
  pub taken : before.coming ≡ told_first (Some text) now.coming
  pub denied : decided before.policy text ≡ Denied rule
  pub same : now ≡ record before { coming = now.coming; said = told_more before.said (denial_text rule); stored = before.stored ++ Denial rule ∷ [] }
  pub hears : before.deaf ≡ false

-- a line was taken that the policy denies, and of its denial only a part was said
pub record Breaks (before now : Seen) : Type 0 where
  pub text : List ℕ
  pub rule : ℕ
  pub part : ℕ
  pub taken : before.coming ≡ told_first (Some text) now.coming
  pub denied : decided before.policy text ≡ Denied rule
  pub same : now ≡ record before { coming = now.coming; said = told_more before.said (take part (denial_text rule)); failed_at = first_failure before.failed_at (length before.stored); deaf = true }
  pub hears : before.deaf ≡ false

-- an idle turn was taken
pub record Passes (before now : Seen) : Type 0 where
  pub taken : before.coming ≡ told_first None now.coming
  pub same : now ≡ record before { coming = now.coming }
  pub hears : before.deaf ≡ false

abbrev pub Looks : Seen → Line → Seen → Type 0
Looks before (line.Line order) now = HandsOn before order now
Looks before line.Idle now = Passes before now ⊎ Denies before now
Looks before line.Closed now = (now ≡ before) × IsAtEnd before.coming × (before.deaf ≡ false)
Looks before line.Failed now = (now ≡ before) ⊎ Breaks before now
Looks before line.Memory now = now ≡ before

-- what is stored once a line was said; an empty one needs no place
abbrev pub with_reply : List Spoken → List ℕ → List Spoken
with_reply stored [] = stored
with_reply stored (b ∷ bytes) = stored ++ Reply (b ∷ bytes) ∷ []

-- a line was said and stored; where it failed, a part of it was said
abbrev pub HasReplied : Seen → List ℕ → Result Unit Failed → Seen → Type 0
HasReplied before bytes (Ok done) now = now ≡ record before { said = told_more before.said bytes; stored = with_reply before.stored bytes }
HasReplied before bytes (Err failed) now =
    (part : ℕ) × (now ≡ record before { said = told_more before.said (take part bytes); failed_at = first_failure before.failed_at (length before.stored) })
