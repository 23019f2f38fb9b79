use Rattle.std.proofs.Common.{◌∙◌, ap, sym, arith}
use Rattle.mv_memory.specs.Bytes.{little_endian}
use Rattle.mv_memory.proofs.PagesLemmas.{slice-at}
use Rattle.mv_memory.proofs.pages.read_in_page.Goals as goal

pub returns-clause-value : goal.returns-clause-value
returns-clause-value c =
    c.number.ensures.value ∙ ap little_endian (sym (slice-at c.args.pages.now.items c.args.at c.args.width c.index.result.now c.requires.whole (omega arith) c.requires.one c.index.ensures))
