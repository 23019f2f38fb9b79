use Rattle.mv_writer.proofs.Whole.{spelled_where_ok, shortest_where_ok}
use Rattle.mv_writer.proofs.module.write_module.Goals as goal

pub returns-clause-spelled : goal.returns-clause-spelled
returns-clause-spelled c = spelled_where_ok c.module_bytes.result c.args.module.now c.module_bytes.ensures.bytes c.module_bytes.ensures.has_spelling

pub returns-clause-shortest : goal.returns-clause-shortest
returns-clause-shortest c = shortest_where_ok c.module_bytes.result c.args.module.now c.module_bytes.ensures.bytes
