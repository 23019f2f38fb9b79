-- What is read is what stands at the path.
use Rattle.std.proofs.Common.{rules}
use Rattle.mv_outside.specs.MemFiles.{file_at}
use Rattle.mv_outside.proofs.FilesLaws.{absent, present, told_missing, told_bytes}
use Rattle.mv_outside.proofs.mem_files.found_at.Goals as goal

pub returns-then-place-files-clause-found : goal.returns-then-place-files-clause-found
returns-then-place-files-clause-found c = λ told same.
    told_missing (file_at c.args.files.now) told c.args.path.now same (absent c.args.files.now c.args.path.now (search rules))

pub returns-in-Ok-clause-found : goal.returns-in-Ok-clause-found
returns-in-Ok-clause-found c = λ told same.
    told_bytes (file_at c.args.files.now) told c.args.path.now c.index-files-place.result.bytes c.in-Ok.bytes c.args.cap same
    (present c.args.files.now c.args.path.now c.place_of-place.result c.index-files-place.result (search rules) (search rules) (search rules))
    (search rules)
