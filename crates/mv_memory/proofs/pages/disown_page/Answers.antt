use Rattle.std.proofs.Common.{arith}
use Rattle.mv_memory.proofs.PagesLemmas.{bytes_of-set_same, less-set}
use Rattle.mv_memory.proofs.pages.disown_page.Goals as goal

pub returns-clause-bytes : goal.returns-clause-bytes
returns-clause-bytes c =
    bytes_of-set_same c.args.pages.now.items c.args.page c.index_mut.result.now c.disown.new.self (omega arith) c.index_mut.ensures.value c.disown.ensures.bytes

pub returns-clause-less : goal.returns-clause-less
returns-clause-less c = less-set c.args.pages.now.items c.args.page c.disown.new.self (omega arith) c.disown.ensures.owned
