use Rattle.mv_imports.specs.declared.function.HostFunction.TheVariants as function
use Rattle.mv_transform.proofs.Asked.{asks, other-call}
use Rattle.mv_transform.proofs.questions.answer.Goals as goal

pub answer_pages-requires : goal.answer_pages-requires
answer_pages-requires c = record {
  waits = asks c.args.machine.now c.args.import c.function_of.result c.in-Some.function function.OldPages c.requires.known c.requires.waits c.function_of.ensures c.in-Some.is c.in-OldPages.is;
}

pub answer_read-requires : goal.answer_read-requires
answer_read-requires c = record {
  waits = asks c.args.machine.now c.args.import c.function_of.result c.in-Some.function function.OldRead c.requires.known c.requires.waits c.function_of.ensures c.in-Some.is c.in-OldRead.is;
}

pub answer_global-requires : goal.answer_global-requires
answer_global-requires c = record {
  waits = asks c.args.machine.now c.args.import c.function_of.result c.in-Some.function function.OldGlobal c.requires.known c.requires.waits c.function_of.ensures c.in-Some.is c.in-OldGlobal.is;
}

pub returns-in_default-function-clause-fault : goal.returns-in_default-function-clause-fault
returns-in_default-function-clause-fault c =
    other-call c.args.machine.now c.args.old.now c.args.import c.function_of.result c.in-Some.function c.function_of.ensures c.in-Some.is c.in_default-function.not-OldPages c.in_default-function.not-OldRead c.in_default-function.not-OldGlobal
