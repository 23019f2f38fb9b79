use Rattle.std.proofs.Common.{true, ap, ◌∙◌}
use Rattle.mv_load.proofs.Draws.{Draws, four_draws}
use Rattle.mv_load.proofs.script.connection_by.Goals as goal

-- src/script.rt:34:1
pub returns-clause-conn : goal.returns-clause-conn
returns-clause-conn c =
    let draws : Draws c.args.number c.args.last c.draw-first.result c.draw-second.result c.draw-third.result c.draw-fourth.result =
    four_draws c.args.number c.args.last c.draw-first.result c.draw-second.result c.draw-third.result c.draw-fourth.result c.requires.last c.draw-first.ensures.next c.draw-second.ensures.next c.draw-third.ensures.next c.draw-fourth.ensures.next in
    ap (λ p. record { pieces = p; ends = true }) (c.in_ok-pieces.ensures ∙ draws.pieces)

-- src/script.rt:34:1
pub returns-clause-last : goal.returns-clause-last
returns-clause-last c =
    (four_draws c.args.number c.args.last c.draw-first.result c.draw-second.result c.draw-third.result c.draw-fourth.result c.requires.last c.draw-first.ensures.next c.draw-second.ensures.next c.draw-third.ensures.next c.draw-fourth.ensures.next).last_is
