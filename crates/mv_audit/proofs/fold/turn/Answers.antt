use Rattle.std.proofs.Common.{subst, IfOk, IfNone, IfSome}
use Rattle.mv_history.specs.World.{MayEnter, World}
use Rattle.mv_audit.proofs.fold.turn.Goals as goal

pub returns-clause-may : goal.returns-clause-may
returns-clause-may g c =
    let P : World g.row.V.Denot → Type 0 = λ w. IfOk c.turn_by.result (λ o. IfSome o (λ next. MayEnter g.V.Version.behaviour c.args.updates.now w c.args.entry.now)) in
    subst P c.in_ok-audit.ensures.same c.turn_by.ensures.may

pub returns-clause-refused : goal.returns-clause-refused
returns-clause-refused g c =
    let P : World g.row.V.Denot → Type 0 = λ w. IfOk c.turn_by.result (λ o. IfNone o (MayEnter g.V.Version.behaviour c.args.updates.now w c.args.entry.now → ⊥)) in
    subst P c.in_ok-audit.ensures.same c.turn_by.ensures.refused
