use Rattle.std.proofs.Common.{arith}
use Rattle.std.proofs.lemmas.Grind.{common_steps}
use Rattle.mv_validator.specs.Valid.{context_in}
use Rattle.mv_validator.proofs.body.check_plain.Goals as goal

pub returns-in-BrIf : goal.returns-in-BrIf
returns-in-BrIf c = rw c.in-BrIf.is (c.check_branch.ensures (context_in c.args.«module».now c.args.ftype.now c.args.locals.now))

pub returns-in-BrTable : goal.returns-in-BrTable
returns-in-BrTable c =
    let t = c.take_table-ok.ensures.taken (context_in c.args.«module».now c.args.ftype.now c.args.locals.now) in
    grind (arith, common_steps, t)

pub returns-in-Call : goal.returns-in-Call
returns-in-Call c = rw c.in-Call.is (c.check_call.ensures c.args.ftype.now c.args.locals.now)

pub returns-in-CallIndirect : goal.returns-in-CallIndirect
returns-in-CallIndirect c = rw c.in-CallIndirect.is (c.check_indirect.ensures c.args.ftype.now c.args.locals.now)
