use Rattle.mv_statements.proofs.Spelled.{if_spelled}
use Rattle.mv_statements.proofs.statement.read_statement.Goals as goal

pub returns-clause-spelled : goal.returns-clause-spelled
returns-clause-spelled c = if_spelled c.args.words.now c.read.result c.read.ensures
