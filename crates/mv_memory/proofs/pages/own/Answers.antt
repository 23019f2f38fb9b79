use Rattle.mv_memory.proofs.PagesLemmas.{ready-range}
use Rattle.mv_memory.proofs.pages.own.Goals as goal

pub returns-clause-succeeds : goal.returns-clause-succeeds
returns-clause-succeeds c = λ owned. c.make_pages_ready-made.ensures.succeeds (ready-range _ c.args.first c.args.end owned)
