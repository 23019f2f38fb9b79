use Rattle.std.proofs.Common.{◌≤◌, ◌+◌, length, rules}
use Rattle.mv_memory.specs.Bytes.{most_pages}
use Rattle.mv_memory.proofs.PagesLemmas.{sound-append}
use Rattle.mv_memory.proofs.memory.Memory.grow.Goals as goal

pub invariant_of-self-2 : goal.invariant_of-self-2
invariant_of-self-2 c =
    let few : length c.self.inside.pages.items + c.args.n ≤ most_pages c.self.inside.max = search rules in
    rw (c.in_ok-append.ensures.items, c.in_ok-fresh.ensures) (sound-append _ _ _ _ _ c.self.invariant few)
