-- One file is replaced by one of its path, or a new one comes at the end.
use Rattle.std.proofs.Common.{rules, ap, ◌∙◌, refl, Some}
use Rattle.mv_outside.proofs.FilesLaws.{set_here, set_others, push_here, push_others}
use Rattle.mv_outside.specs.MemFiles.{file_at}
use Rattle.mv_outside.proofs.mem_files.put.Goals as goal

pub returns-then-place-len-clause-here : goal.returns-then-place-len-clause-here
returns-then-place-len-clause-here c =
    set_here c.args.files.now.items c.args.path.now c.place_of-place.result c.index_mut.result.now _ (search rules) (search rules) (search rules) refl
    ∙ ap Some (search rules)

pub returns-then-place-len-clause-others : goal.returns-then-place-len-clause-others
returns-then-place-len-clause-others c =
    set_others c.args.files.now.items c.args.path.now c.place_of-place.result c.index_mut.result.now _ (search rules) (search rules) (search rules) refl

pub returns-clause-here : goal.returns-clause-here
returns-clause-here c =
    ap (λ files. file_at files c.args.path.now) (search rules)
    ∙ (push_here c.args.files.now.items c.args.path.now (record { path = c.in_ok-path.path; bytes = c.in_ok-bytes.bytes }) (search rules) (search rules)
    ∙ ap Some (search rules))

pub returns-clause-others : goal.returns-clause-others
returns-clause-others c = λ other differs.
    ap (λ files. file_at files other) (search rules)
    ∙ push_others c.args.files.now.items c.args.path.now (record { path = c.in_ok-path.path; bytes = c.in_ok-bytes.bytes }) (search rules) other differs
