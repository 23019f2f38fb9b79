use Rattle.std.proofs.Common.{Some}
use Rattle.mv_outside.specs.Began.{Began}
use Rattle.mv_outside.specs.contracts.run.BrandRun.TheImpl.{ghosts}
use Rattle.mv_policy.proofs.tests.a_denied_order_is_answered_and_not_handed_on.Given as goal

abbrev pub ghosts-ask-N-Ruled : goal.ghosts-ask-N-Ruled
ghosts-ask-N-Ruled g a = record { policy = a.policy }

-- what the console told; the rest of what a run began with isn't looked at
abbrev pub ghosts-ask-N-Run : goal.ghosts-ask-N-Run
ghosts-ask-N-Run g a = let began : Began = ghosts.began in record { began = record began { coming = Some a.inner.state.coming; said = Some a.inner.state.said } }
