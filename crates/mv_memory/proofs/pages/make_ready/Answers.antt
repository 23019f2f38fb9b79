use Rattle.std.proofs.Common.{arith}
use Rattle.mv_memory.proofs.PagesLemmas.{owned-pages, ready-places}
use Rattle.mv_memory.proofs.pages.make_ready.Goals as goal

pub returns-clause-succeeds : goal.returns-clause-succeeds
returns-clause-succeeds c = λ owned.
    c.make_pages_ready.ensures.succeeds (owned-pages _ c.args.at c.args.len _ _ (ready-places _ c.args.at c.args.len owned) (omega arith) (omega arith) (omega arith))
