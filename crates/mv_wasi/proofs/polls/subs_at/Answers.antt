use Rattle.std.proofs.Common.{ap, sym, ◌∙◌, List, Some, arith}
use Rattle.mv_calls.specs.declared.subs.Sub.{Sub}
use Rattle.mv_wasi.specs.Polls.{subs_at}
use Rattle.mv_wasi.proofs.Subscriptions.{behind, rest_of, subs-first, subs-more, subs-none, subs-all}
use Rattle.mv_wasi.proofs.polls.subs_at.Goals as goal

pub loop-index-init : goal.loop-index-init
loop-index-init c =
    ap (λ (l : List Sub). behind l (rest_of c.args.memory.now.bytes c.args.subs c.args.count 0)) c.new-found.ensures.items
    ∙ subs-first c.args.memory.now.bytes c.args.subs c.args.count

pub returns-in-None : goal.returns-in-None
returns-in-None c = subs-none c.args.memory.now.bytes c.args.subs c.args.count c.loop-index.index c.loop-index.found.items (subs_at c.args.memory.now.bytes c.args.subs c.args.count) c.loop-index-test.true (sym c.sub_with.ensures ∙ c.in-None.is) c.loop-index.invariant

pub loop-index-preserved : goal.loop-index-preserved
loop-index-preserved c = subs-more c.args.memory.now.bytes c.args.subs c.args.count c.loop-index.index c.loop-index.found.items c.push.new.self.items c.in-Some.sub (subs_at c.args.memory.now.bytes c.args.subs c.args.count) c.loop-index-test.true (sym c.sub_with.ensures ∙ c.in-Some.is) c.in_ok-push-in-Some.ensures.items c.loop-index.invariant

pub returns : goal.returns
returns c = ap (λ (l : List Sub). Some l) c.from_vec.ensures ∙ subs-all c.args.memory.now.bytes c.args.subs c.args.count c.loop-index.index c.loop-index.found.items (subs_at c.args.memory.now.bytes c.args.subs c.args.count) (omega arith) c.loop-index.invariant
