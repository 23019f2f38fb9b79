use Rattle.std.proofs.Common.{refl, sym, subst}
use Rattle.std.specs.Prelude.{IfSome, IfNone}
use Rattle.mv_validator.specs.Valid.{IsTypedFunc}
use Rattle.mv_validator.specs.Checks.{BodyOf, BodyFails, numbered, FirstFails}
use Rattle.mv_validator.proofs.Scans.{PassesAt, before-more, first-fails, all-found}
use Rattle.mv_validator.proofs.valid.check_bodies.Goals as goal

pub returns-in-Some : goal.returns-in-Some
returns-in-Some c =
    let p = c.args.«module».now in
    let xs = c.slice-func-items.result.now in
    let fails : BodyFails p c.func-item.result c.in-Some.found.at c.in-Some.found.kind = subst (λ o. IfSome o (λ f. BodyFails p c.func-item.result f.at f.kind)) c.in-Some.is c.in_ok-found.ensures.faulty in
    let placed : BodyFails p c.func-item.result c.number-in-Some.result c.in-Some.found.kind = subst (λ n. BodyFails p c.func-item.result n c.in-Some.found.kind) (sym c.number-in-Some.ensures) fails in
    subst (λ ys. FirstFails p (numbered 10 (λ n x. BodyOf x) 0 ys) (record { part = 10; item = c.number.result; at = c.number-in-Some.result; kind = c.in-Some.found.kind })) c.loop-item.invariant.0
    (first-fails p 10 (λ n x. BodyOf x) xs c.loop-item.item c.func-item.result (record { part = 10; item = c.number.result; at = c.number-in-Some.result; kind = c.in-Some.found.kind }) c.loop-item.invariant.1 c.loop-item-test.true c.func-item.is refl c.number.ensures placed)

pub loop-item-preserved : goal.loop-item-preserved
loop-item-preserved c =
    let p = c.args.«module».now in
    let typed : IsTypedFunc p c.func-item.result = subst (λ o. IfNone o (IsTypedFunc p c.func-item.result)) c.in_default.is c.in_ok-found.ensures.typed in
    (c.loop-item.invariant.0, before-more (PassesAt p (λ n x. BodyOf x)) c.slice-func-items.result.now c.loop-item.item c.func-item.result c.loop-item-test.true c.func-item.is c.loop-item.invariant.1 typed)

pub returns : goal.returns
returns c =
    let p = c.args.«module».now in
    all-found p 10 (λ n x. BodyOf x) c.slice-func-items.result.now p.funcs c.loop-item.item c.loop-item.invariant.0 c.loop-item-test.false c.loop-item.invariant.1
