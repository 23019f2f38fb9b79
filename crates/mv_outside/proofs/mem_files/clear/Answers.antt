-- One file is replaced by an empty one of its path.
use Rattle.std.proofs.Common.{rules, sym, ap, ◌∙◌, refl, Some}
use Rattle.mv_outside.specs.MemFiles.{emptied}
use Rattle.mv_outside.proofs.FilesLaws.{absent, present, set_here, set_others}
use Rattle.mv_outside.proofs.mem_files.clear.Goals as goal

pub returns-then-place-len-clause-here : goal.returns-then-place-len-clause-here
returns-then-place-len-clause-here c =
    set_here c.args.files.now.items c.args.path.now c.place_of-place.result c.index_mut.result.now _ (search rules) (search rules) (search rules) refl
    ∙ (ap Some (search rules)
    ∙ sym (ap emptied (present c.args.files.now.items c.args.path.now c.place_of-place.result c.index_mut.result.now (search rules) (search rules) (search rules))))

pub returns-then-place-len-clause-others : goal.returns-then-place-len-clause-others
returns-then-place-len-clause-others c =
    set_others c.args.files.now.items c.args.path.now c.place_of-place.result c.index_mut.result.now _ (search rules) (search rules) (search rules) refl

pub returns-else-place-len-clause-here : goal.returns-else-place-len-clause-here
returns-else-place-len-clause-here c =
    let none = absent c.args.files.now.items c.args.path.now (search rules) in none ∙ sym (ap emptied none)
