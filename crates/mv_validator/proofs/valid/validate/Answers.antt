use Rattle.std.proofs.Common.{subst}
use Rattle.mv_validator.specs.Checks.{checks, Tells}
use Rattle.mv_validator.proofs.Scans.{passed}
use Rattle.mv_validator.proofs.Laws.{passes-valid, fault-invalid}
use Rattle.mv_validator.proofs.valid.validate.Goals as goal

pub invariant_of-result : goal.invariant_of-result
invariant_of-result c = let p = c.args.«module» in passes-valid p (passed p (checks p) c.in-Ok-None.field-0 c.in-Ok-None.ensures c.in-Ok-None.field-0-is)

pub returns-in-Ok-Some-clause-refused : goal.returns-in-Ok-Some-clause-refused
returns-in-Ok-Some-clause-refused c = let p = c.args.«module» in λ _. fault-invalid p c.in-Ok-Some.fault (subst (Tells p (checks p)) c.in-Ok-Some.field-0-is c.in-Ok-Some.ensures)

pub returns-in-Ok-None-clause-valid : goal.returns-in-Ok-None-clause-valid
returns-in-Ok-None-clause-valid c = let p = c.args.«module» in passes-valid p (passed p (checks p) c.in-Ok-None.field-0 c.in-Ok-None.ensures c.in-Ok-None.field-0-is)
