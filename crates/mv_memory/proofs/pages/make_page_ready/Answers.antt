use Rattle.std.proofs.Common.{arith, sym, ◌∙◌}
use Rattle.std.proofs.lemmas.Result.{on_ok_weaker}
use Rattle.mv_memory.specs.Pages.{is_owned, is_ready}
use Rattle.mv_memory.proofs.PagesLemmas.{bytes_of-set_same, keeps-set, marked-set, mark-at, marks-set_same, only-set}
use Rattle.mv_memory.proofs.pages.make_page_ready.Goals as goal

pub returns-clause-bytes : goal.returns-clause-bytes
returns-clause-bytes c =
    bytes_of-set_same c.args.pages.now.items c.args.page c.index_mut.result.now c.make_ready.new.self (omega arith) c.index_mut.ensures.value c.make_ready.ensures.bytes

pub returns-clause-kept : goal.returns-clause-kept
returns-clause-kept c =
    keeps-set is_owned c.args.pages.now.items c.args.page c.index_mut.result.now c.make_ready.new.self (omega arith) c.index_mut.ensures.value c.make_ready.ensures.kept

pub returns-clause-kept_ready : goal.returns-clause-kept_ready
returns-clause-kept_ready c =
    keeps-set is_ready c.args.pages.now.items c.args.page c.index_mut.result.now c.make_ready.new.self (omega arith) c.index_mut.ensures.value c.make_ready.ensures.kept_ready

pub returns-clause-same : goal.returns-clause-same
returns-clause-same c = λ free.
    marks-set_same is_owned c.args.pages.now.items _ c.index_mut.result.now c.make_ready.new.self (omega arith) c.index_mut.ensures.value (c.make_ready.ensures.same free)

pub returns-clause-ready : goal.returns-clause-ready
returns-clause-ready c =
    on_ok_weaker c.make_ready.result (marked-set is_ready c.args.pages.now.items c.args.page c.make_ready.new.self (omega arith)) c.make_ready.ensures.ok

pub returns-clause-owned : goal.returns-clause-owned
returns-clause-owned c =
    on_ok_weaker c.make_ready.result (λ owned own. marked-set is_owned c.args.pages.now.items c.args.page c.make_ready.new.self (omega arith) (owned own)) c.make_ready.ensures.owned

pub returns-clause-succeeds : goal.returns-clause-succeeds
returns-clause-succeeds c = λ ready.
    c.make_ready.ensures.succeeds (sym (mark-at is_ready c.args.pages.now.items c.args.page c.index_mut.result.now (omega arith) c.index_mut.ensures.value) ∙ ready)

pub returns-clause-only : goal.returns-clause-only
returns-clause-only c = only-set c.args.pages.now.items c.args.page c.make_ready.new.self
