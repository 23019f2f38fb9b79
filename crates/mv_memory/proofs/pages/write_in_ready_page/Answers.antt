use Rattle.std.proofs.Common.{sym, ◌∙◌, arith}
use Rattle.mv_memory.specs.Pages.{is_owned, is_ready}
use Rattle.mv_memory.proofs.PagesLemmas.{bytes_of-written, marks-set_same, mark-at, whole-set}
use Rattle.mv_memory.proofs.pages.write_in_ready_page.Goals as goal

pub write_ready-requires-clause-ready : goal.write_ready-requires-clause-ready
write_ready-requires-clause-ready c =
    sym (mark-at is_ready c.args.pages.now.items _ c.index_mut.result.now (omega arith) c.index_mut.ensures.value) ∙ c.requires.ready

pub returns-clause-whole : goal.returns-clause-whole
returns-clause-whole c = whole-set c.args.pages.now.items _ c.write_ready.new.self c.requires.whole c.write_ready.ensures.whole

pub returns-clause-bytes : goal.returns-clause-bytes
returns-clause-bytes c =
    bytes_of-written c.args.pages.now.items c.args.at c.index_mut.result.now c.write_ready.new.self c.args.bytes.now c.requires.whole (omega arith) c.requires.one c.index_mut.ensures.value c.write_ready.ensures.bytes

pub returns-clause-owned : goal.returns-clause-owned
returns-clause-owned c =
    marks-set_same is_owned c.args.pages.now.items _ c.index_mut.result.now c.write_ready.new.self (omega arith) c.index_mut.ensures.value c.write_ready.ensures.owned

pub returns-clause-ready : goal.returns-clause-ready
returns-clause-ready c =
    marks-set_same is_ready c.args.pages.now.items _ c.index_mut.result.now c.write_ready.new.self (omega arith) c.index_mut.ensures.value c.write_ready.ensures.ready
