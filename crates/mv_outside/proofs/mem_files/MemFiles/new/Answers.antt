-- No path stands twice, so each file stands at its own.
use Rattle.mv_outside.proofs.FilesLaws.{holds_given}
use Rattle.mv_outside.proofs.mem_files.MemFiles.new.Goals as goal

pub returns-clause-given : goal.returns-clause-given
returns-clause-given c = holds_given c.args.files.items c.requires
