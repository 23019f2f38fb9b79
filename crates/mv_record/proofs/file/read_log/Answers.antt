use Rattle.std.proofs.Common.{subst, arith}
use Rattle.mv_record.specs.File.{GivesLog}
use Rattle.mv_record.proofs.Files.{is_found, log_again}
use Rattle.mv_record.proofs.file.read_log.Goals as goal

pub returns-clause-found : goal.returns-clause-found
returns-clause-found c = is_found (λ x. (x.0, x.1.list)) c.args.bytes.now c.log_from.result (λ i. omega (arith, c.type_inv.bytes i)) c.log_from.ensures

pub returns-clause-only : goal.returns-clause-only
returns-clause-only c = λ args entries file le. subst (λ f. GivesLog c.log_from.result f) (log_again c.args.bytes.now args entries file le) c.log_from.ensures
