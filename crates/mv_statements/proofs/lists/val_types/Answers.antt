use Rattle.mv_statements.specs.Forms.{many}
use Rattle.mv_statements.specs.Words.{val_type}
use Rattle.mv_statements.proofs.Loops.{goes_on, is_done}
use Rattle.mv_statements.proofs.lists.val_types.Goals as goal

pub loop-preserved : goal.loop-preserved
loop-preserved c = rw c.in_ok-push.ensures.items (goes_on val_type c.loop.types.items c.args.count c.loop.counter c.loop.words c.val_type.result c.val_type.new.self ((many val_type c.args.count).reads c.args.words.now) c.loop-test.true c.val_type.ensures c.loop.invariant)

pub returns : goal.returns
returns c = rw c.from_vec.ensures (is_done val_type c.loop.types.items c.args.count c.loop.counter c.loop.words ((many val_type c.args.count).reads c.args.words.now) c.loop-test.false c.loop.invariant)
