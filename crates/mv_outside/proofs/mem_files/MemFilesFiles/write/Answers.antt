-- Past the list of failing calls a write doesn't fail.
use Rattle.std.proofs.Common.{rules, arith}
use Rattle.std.proofs.lemmas.Grind.{common_steps}
use Rattle.mv_outside.specs.MemFiles.{write_fails}
use Rattle.mv_outside.proofs.FilesLaws.{no_fault}
use Rattle.mv_outside.proofs.mem_files.MemFilesFiles.write.Goals as goal

pub returns-in_err-put-clause-named : goal.returns-in_err-put-clause-named
returns-in_err-put-clause-named c =
    no_fault c.from_residual.result (write_fails c.args.self.now) (grind (arith, common_steps)) (search rules)
