use Rattle.std.proofs.Common.{[], refl, ◌∙◌}
use Rattle.mv_ring.specs.Halves.{taken_list}
use Rattle.mv_host.proofs.Standing.{carries_on}
use Rattle.mv_host.proofs.trailing.Trailing.carry.Goals as goal

pub invariant_of-self : goal.invariant_of-self
invariant_of-self g c = record {
  of_ring = c.carry.ensures.later.0 ∙ c.self.invariant.of_ring;
  stands = carries_on g.V.Version.behaviour c.self.inside.follower c.carry.new.self c.self.inside.waiting c.self.inside.feed c.carry.new.feed c.carry.result c.carry.ensures.same (λ h. c.carry.ensures.lists h [] (taken_list c.self.inside.feed) refl)
      c.carry.ensures.took c.carry.ensures.verdict c.self.invariant.stands;
}
