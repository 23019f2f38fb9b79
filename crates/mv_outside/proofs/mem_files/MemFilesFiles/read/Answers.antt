-- Past the list of failing calls a read doesn't fail.
use Rattle.std.proofs.Common.{arith}
use Rattle.std.proofs.lemmas.Grind.{common_steps}
use Rattle.mv_outside.specs.MemFiles.{read_fails}
use Rattle.mv_outside.proofs.FilesLaws.{not_failed}
use Rattle.mv_outside.proofs.mem_files.MemFilesFiles.read.Goals as goal

pub returns-clause-named : goal.returns-clause-named
returns-clause-named c =
    not_failed c.found_at.result (read_fails c.args.self.now) (grind (arith, common_steps)) c.found_at.ensures.fine
