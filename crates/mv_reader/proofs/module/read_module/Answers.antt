use Rattle.mv_reader.proofs.Whole.{is_found, only, none_spelled}
use Rattle.mv_reader.proofs.module.read_module.Goals as goal

pub returns-clause-found : goal.returns-clause-found
returns-clause-found c = is_found c.args.bytes.now c.module_of.result c.module_of.ensures

pub returns-clause-only : goal.returns-clause-only
returns-clause-only c = λ m s. only c.args.bytes.now c.module_of.result m s c.module_of.ensures

pub returns-clause-refused : goal.returns-clause-refused
returns-clause-refused c = λ fault m s. none_spelled c.args.bytes.now c.module_of.result c.module_of.ensures fault m s
