use Rattle.std.proofs.Common.{◌∙◌}
use Rattle.mv_host.proofs.Standing.{judged}
use Rattle.mv_host.proofs.trailing.Trailing.judge.Goals as goal

pub invariant_of-self-2 : goal.invariant_of-self-2
invariant_of-self-2 g c = record {
  of_ring = c.note-note.ensures.same.3 ∙ c.self.invariant.of_ring;
  stands = judged g.V.Version.behaviour c.self.inside.follower c.clear.new.self c.self.inside.waiting c.take.new.self c.self.inside.feed c.note-note.new.self c.self.invariant.stands c.take.ensures.after c.note-note.ensures.same.0 c.clear.ensures.at c.clear.ensures.begins;
}
