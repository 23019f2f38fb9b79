use Rattle.std.proofs.Common.{sym, subst}
use Rattle.mv_machine.specs.Calls.{HasFunction}
use Rattle.mv_transform.proofs.Waits.{entered-waits}
use Rattle.mv_transform.proofs.birth.enter_transformer.Goals as goal

pub returns-clause-waits : goal.returns-clause-waits
returns-clause-waits c =
    entered-waits c.in-Ok.entries.transform c.fill.new.machine c.enter.new.self (subst (λ p. HasFunction p c.in-Ok.entries.transform) (sym c.in-Ok-fill.ensures.parts) c.in-Ok.ensures.transform.there) c.in_ok-enter.ensures.ok
