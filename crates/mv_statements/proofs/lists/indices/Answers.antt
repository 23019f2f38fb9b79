use Rattle.mv_statements.specs.Forms.{many}
use Rattle.mv_statements.specs.Words.{index}
use Rattle.mv_statements.proofs.Loops.{goes_on, is_done}
use Rattle.mv_statements.proofs.lists.indices.Goals as goal

pub loop-preserved : goal.loop-preserved
loop-preserved c = rw c.in_ok-push.ensures.items (goes_on index c.loop.list.items c.args.count c.loop.counter c.loop.words c.index.result c.index.new.self ((many index c.args.count).reads c.args.words.now) c.loop-test.true c.index.ensures c.loop.invariant)

pub returns : goal.returns
returns c = rw c.from_vec.ensures (is_done index c.loop.list.items c.args.count c.loop.counter c.loop.words ((many index c.args.count).reads c.args.words.now) c.loop-test.false c.loop.invariant)
