use Rattle.mv_load.proofs.Playing.{goes_on}
use Rattle.mv_load.proofs.player.PlayerKernel.perform.Goals as goal

-- src/player.rt:74:5
pub invariant_of-self : goal.invariant_of-self
invariant_of-self g c = goes_on g.N.Plan.script _ _ _ _ c.self.invariant c.perform.ensures.replied c.perform.ensures.did c.perform.ensures.state c.perform.ensures.counted
