-- The first file of the path is what stands there.
use Rattle.std.proofs.Common.{rules, sym, ap, ◌∙◌, Some}
use Rattle.mv_outside.proofs.FilesLaws.{absent, present}
use Rattle.mv_outside.proofs.mem_files.MemFiles.content.Goals as goal

pub returns-then-place-len : goal.returns-then-place-len
returns-then-place-len c =
    ap Some c.slice.ensures
    ∙ sym (present c.args.self.now.files c.args.path.now c.place_of-place.result c.index.result.now (search rules) (search rules) (search rules))

pub returns-else-place-len : goal.returns-else-place-len
returns-else-place-len c = sym (absent c.args.self.now.files c.args.path.now (search rules))
