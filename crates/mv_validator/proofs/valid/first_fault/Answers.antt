use Rattle.std.proofs.Common.{subst}
use Rattle.mv_syntax.specs.Counted.{IsShort}
use Rattle.mv_syntax.specs.Kept.{IsSoundFunc}
use Rattle.mv_validator.specs.Checks.{declaration_checks, body_checks, data_checks, Tells}
use Rattle.mv_validator.proofs.Scans.{fails-left, fails-right, tells-right, passed}
use Rattle.mv_validator.proofs.Laws.{each-of-all, declared-there}
use Rattle.mv_validator.proofs.valid.first_fault.Goals as goal

pub returns-in-Some : goal.returns-in-Some
returns-in-Some c = let p = c.args.«module».now in fails-left p (declaration_checks p) _ c.in-Some.fault (subst (Tells p (declaration_checks p)) c.in-Some.is c.in_ok-fault.ensures)

pub check_bodies-requires-clause-short : goal.check_bodies-requires-clause-short
check_bodies-requires-clause-short c = each-of-all IsShort c.args.«module».now.funcs c.counted.ensures.bodies

pub check_bodies-requires-clause-declared : goal.check_bodies-requires-clause-declared
check_bodies-requires-clause-declared c = let p = c.args.«module».now in declared-there p (passed p (declaration_checks p) c.in_ok-fault.field-0 c.in_ok-fault.ensures c.in_default.is)

pub check_bodies-requires-clause-closed : goal.check_bodies-requires-clause-closed
check_bodies-requires-clause-closed c = λ n f e. (each-of-all IsSoundFunc c.args.«module».now.funcs c.keeps.ensures.funcs n f e).code_is.closed

pub returns-in-Some-2 : goal.returns-in-Some-2
returns-in-Some-2 c =
    let p = c.args.«module».now in
    fails-right p (declaration_checks p) _ c.in-Some-2.fault (passed p (declaration_checks p) c.in_ok-fault.field-0 c.in_ok-fault.ensures c.in_default.is) (fails-left p (body_checks p) (data_checks p) c.in-Some-2.fault (subst (Tells p (body_checks p)) c.in-Some-2.is c.in_ok-fault-2.ensures))

pub returns : goal.returns
returns c =
    let p = c.args.«module».now in
    tells-right p (declaration_checks p) _ c.check_segments.result (passed p (declaration_checks p) c.in_ok-fault.field-0 c.in_ok-fault.ensures c.in_default.is) (tells-right p (body_checks p) (data_checks p) c.check_segments.result (passed p (body_checks p) c.in_ok-fault-2.field-0 c.in_ok-fault-2.ensures c.in_default-2.is) c.check_segments.ensures)
