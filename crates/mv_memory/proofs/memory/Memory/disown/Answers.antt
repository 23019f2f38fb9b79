use Rattle.std.proofs.Common.{ap₂, arith, List, Bool, length, ◌≡◌}
use Rattle.mv_memory.specs.Memory.{Contents}
use Rattle.mv_memory.specs.Pages.{is_owned, flags_of}
use Rattle.mv_memory.proofs.PagesLemmas.{length-marks, none-left}
use Rattle.mv_memory.proofs.memory.Memory.disown.Goals as goal

pub returns : goal.returns
returns c =
    let same : length (flags_of c.disown_pages.new.pages.items) ≡ length (flags_of c.self.inside.pages.items) =
    omega (arith, length-marks is_owned c.disown_pages.new.pages.items, length-marks is_owned c.self.inside.pages.items, c.disown_pages.ensures.len) in
    rw (← c.self.view_is) (ap₂ (λ bytes (owned : List Bool). let r : Contents = record { bytes = bytes; max = c.self.inside.max; owned = owned } in r) c.disown_pages.ensures.bytes
    (none-left _ _ _ _ c.self.invariant.owned c.disown_pages.ensures.less same))
