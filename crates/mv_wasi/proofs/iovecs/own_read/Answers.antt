use Rattle.std.proofs.Common.{◌∙◌}
use Rattle.mv_wasi.proofs.Bounds.{pieces-lie}
use Rattle.mv_wasi.proofs.iovecs.own_read.Goals as goal

pub own_pieces-requires : goal.own_pieces-requires
own_pieces-requires c =
    pieces-lie c.args.memory.now.bytes c.own_range.new.memory.bytes c.args.iovs c.args.count c.as_slice.result.now c.own_range.ensures.same.bytes (c.as_slice.ensures.value ∙ c.pieces_of-pieces.ensures) c.requires.within.1
