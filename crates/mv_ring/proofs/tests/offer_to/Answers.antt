use Rattle.std.proofs.Common.{arith, length-append, ◌∷◌, ◌++◌, []}
use Rattle.mv_feed.specs.declared.msg.Msg.TheVariants.{Hand}
use Rattle.mv_ring.proofs.tests.offer_to.Goals as goal

pub returns-then-room : goal.returns-then-room
returns-then-room g c = λ put taken h. let a = c.room.ensures.lists put taken h in
    (put ++ Hand c.args.n ∷ [], a.0, c.put.ensures.lists put a.0 a.2, (let e = length-append put (Hand c.args.n ∷ []) in omega arith))
