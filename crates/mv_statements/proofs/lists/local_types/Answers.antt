use Rattle.std.proofs.Common.{arith, length-append, ◌∷◌, []}
use Rattle.mv_statements.specs.Forms.{many}
use Rattle.mv_statements.specs.Words.{val_type}
use Rattle.mv_statements.proofs.Loops.{goes_on, is_done}
use Rattle.mv_statements.proofs.lists.local_types.Goals as goal

pub loop-preserved : goal.loop-preserved
loop-preserved c = rw c.in_ok-push_run.ensures.ok (
  omega (arith, c.loop.invariant.0, length-append c.loop.locals (c.val_type.result ∷ [])),
  goes_on val_type c.loop.locals c.args.count c.loop.counter c.loop.words c.val_type.result c.val_type.new.self ((many val_type c.args.count).reads c.args.words.now) c.loop-test.true c.val_type.ensures c.loop.invariant.1,
)

pub returns : goal.returns
returns c = is_done val_type c.loop.locals c.args.count c.loop.counter c.loop.words ((many val_type c.args.count).reads c.args.words.now) c.loop-test.false c.loop.invariant.1
