use Rattle.std.proofs.Common.{refl, sym, ◌∙◌}
use Rattle.mv_validator.specs.Checks.{GlobalInit}
use Rattle.mv_validator.proofs.Scans.{PassesAt, before-more, found, all-found}
use Rattle.mv_validator.proofs.declarations.check_globals.Goals as goal

pub returns-in-Some : goal.returns-in-Some
returns-in-Some c =
    let p = c.args.«module».now in
    found p 6 (λ n x. GlobalInit x) c.slice-global-items.result.now p.globals c.loop-item.item c.global-item.result c.fault.result c.in-Some.kind c.loop-item.invariant.0 c.loop-item.invariant.1 c.loop-item-test.true c.global-item.is c.fault.ensures (refl, sym (c.in-Some.ensures p))

pub loop-item-preserved : goal.loop-item-preserved
loop-item-preserved c =
    let p = c.args.«module».now in
    (c.loop-item.invariant.0, before-more (PassesAt p (λ n x. GlobalInit x)) c.slice-global-items.result.now c.loop-item.item c.global-item.result c.loop-item-test.true c.global-item.is c.loop-item.invariant.1 (sym (c.global_fault.ensures p) ∙ c.in_default.is))

pub returns : goal.returns
returns c =
    let p = c.args.«module».now in
    all-found p 6 (λ n x. GlobalInit x) c.slice-global-items.result.now p.globals c.loop-item.item c.loop-item.invariant.0 c.loop-item-test.false c.loop-item.invariant.1
