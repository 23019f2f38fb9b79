use Rattle.std.proofs.Common.{ℕ, List, ap, Option}
use Rattle.mv_policy.specs.Guarded.{Seen}
use Rattle.mv_policy.specs.Parted.{seen_in}
use Rattle.mv_policy.proofs.Denying.{answered_looks}
use Rattle.mv_policy.proofs.parts.Parts.look.Goals as goal

pub returns-in-Line-clause-looks : goal.returns-in-Line-clause-looks
returns-in-Line-clause-looks g c =
    let m = c.make_ready.new.self in
    let come = g.C.Console.coming c.next.new.self in
    let mid : Seen = record { coming = come; said = g.C.Console.said c.next.new.self; policy = m.policy; stored = m.shelf.spoken; failed_at = m.failed_at; deaf = m.deaf } in
    answered_looks (seen_in g.C.Console.coming g.C.Console.said c.args.self.now) (seen_in g.C.Console.coming g.C.Console.said m) mid (seen_in g.C.Console.coming g.C.Console.said c.answer.new.self)
    c.answer.result c.in-Line.line c.in-Ok.ensures.same c.in-Line.ensures.taken
    (ap (λ (t : Option (List ℕ)). record { coming = come; said = t; policy = m.policy; stored = m.shelf.spoken; failed_at = m.failed_at; deaf = m.deaf }) c.in-Line.ensures.said)
    c.if-self.false c.answer.ensures.answered
