use Rattle.mv_host.proofs.Standing.{starts}
use Rattle.mv_host.proofs.trailing.Trailing.new.Goals as goal

pub invariant_of-result : goal.invariant_of-result
invariant_of-result g c = record { of_ring = c.requires.ring; stands = starts g.V.Version.behaviour c.args.follower c.args.feed c.requires.new c.requires.at c.requires.begins }
