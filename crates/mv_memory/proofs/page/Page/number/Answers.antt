use Rattle.std.proofs.Common.{◌∙◌, ◌+◌, ap, refl, sym, subst}
use Rattle.mv_memory.specs.Bytes.{little_endian, page_size}
use Rattle.std.specs.Prelude.{slice_range, IsNone}
use Rattle.mv_memory.proofs.BytesLemmas.{little_endian-slice_zeros}
use Rattle.mv_memory.proofs.page.Page.number.Goals as goal

pub returns-in-None-clause-value : goal.returns-in-None-clause-value
returns-in-None-clause-value c =
    let none : IsNone c.bytes.result = subst IsNone (sym c.in-None.is) refl in
    sym (little_endian-slice_zeros page_size c.args.at (c.args.at + c.args.width))
    ∙ ap (λ bytes. little_endian (slice_range bytes c.args.at (c.args.at + c.args.width))) (sym (c.bytes.ensures.none none))
