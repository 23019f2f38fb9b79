use Rattle.mv_memory.proofs.PagesLemmas.{sound-replicate}
use Rattle.mv_memory.proofs.memory.Memory.new.Goals as goal

pub invariant_of-result : goal.invariant_of-result
invariant_of-result c = rw c.in_ok-pages.ensures (sound-replicate _ _ _ c.requires)
