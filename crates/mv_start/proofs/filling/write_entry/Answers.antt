use Rattle.mv_start.proofs.Takes.{entry-put}
use Rattle.mv_start.proofs.filling.write_entry.Goals as goal

pub put_entry-requires : goal.put_entry-requires
put_entry-requires c =
    let h = entry-put c.args.machine.now c.args.number c.args.index c.entry_at-place.result.0 c.entry_at-place.result.1 c.requires.takes c.entry_at-place.ensures in
    record { within = h.within; short = c.requires.takes.short; there = h.there }
