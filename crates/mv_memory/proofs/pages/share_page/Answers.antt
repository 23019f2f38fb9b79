use Rattle.std.proofs.Common.{arith}
use Rattle.mv_memory.specs.Pages.{is_owned}
use Rattle.mv_memory.proofs.PagesLemmas.{bytes_of-set_same, marks-set_same}
use Rattle.mv_memory.proofs.pages.share_page.Goals as goal

pub returns-clause-bytes : goal.returns-clause-bytes
returns-clause-bytes c =
    bytes_of-set_same c.args.pages.now.items c.args.page c.index_mut.result.now c.share.new.self (omega arith) c.index_mut.ensures.value c.share.ensures.bytes

pub returns-clause-owned : goal.returns-clause-owned
returns-clause-owned c =
    marks-set_same is_owned c.args.pages.now.items _ c.index_mut.result.now c.share.new.self (omega arith) c.index_mut.ensures.value c.share.ensures.owned
