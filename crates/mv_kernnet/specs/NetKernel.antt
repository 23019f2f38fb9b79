-- What contracts see of a kernel over the network.
use Rattle.std.specs.Prelude.{◌≡◌, ℕ, ◌+◌, ◌==◌, Bool, true, false}
use Rattle.mv_calls.specs.declared.calls.Call.{Call}
use Rattle.mv_calls.specs.declared.calls.Call.TheVariants.{Clock, Random, Poll, FdStat, Accept}
use Rattle.mv_calls.specs.declared.calls.Reply.{Reply}
use Rattle.mv_calls.specs.declared.calls.Reply.TheVariants.{Fd}

-- how often it has failed, for how many new connections there is memory, and the next connection's descriptor
pub record KernelSeen : Type 0 where
  pub faults : ℕ
  pub places : ℕ
  pub next : ℕ

-- the descriptor of the listener
abbrev pub listener : ℕ
listener = 3

-- whether a kernel can fail at the call: a clock, the random source, and where the listener is needed
abbrev pub may_fail : Call → Bool
may_fail (Clock id) = true
may_fail (Random len) = true
may_fail (Poll subs) = true
may_fail (FdStat fd) = fd == listener
may_fail (Accept fd flags) = fd == listener
may_fail call = false

-- P holds of the new descriptor, if the reply is one
abbrev pub IfFd : Reply → (ℕ → Type 0) → Type 0
IfFd (Fd fd) P = P fd
IfFd reply P = Unit {0}

-- the descriptor is the next one, and the one after it is the next from then on
abbrev pub IsNext : ℕ → ℕ → ℕ → Type 0
IsNext next fd now = (fd ≡ next) × (now ≡ fd + 1)
