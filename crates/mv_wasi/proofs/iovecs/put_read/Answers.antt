use Rattle.std.proofs.Common.{sym, subst, ◌∙◌}
use Rattle.mv_wasi.specs.Ranges.{scattered}
use Rattle.mv_wasi.specs.Readies.{HasRange, HasRanges}
use Rattle.mv_wasi.proofs.Owning.{range-written}
use Rattle.mv_wasi.proofs.Fillings.{length-scattered}
use Rattle.mv_wasi.proofs.iovecs.put_read.Goals as goal

pub write_number-requires-clause-ready : goal.write_number-requires-clause-ready
write_number-requires-clause-ready c =
    let pieces = subst (HasRanges c.args.memory.now) (sym (c.as_slice.ensures.value ∙ c.pieces_of-pieces.ensures)) c.requires.ready.1 in
    let same = length-scattered c.as_slice.result.now c.args.memory.now c.args.bytes.now pieces in
    subst (λ memory. HasRange memory c.args.result_at 4) (sym c.fill_pieces.ensures) (range-written c.args.memory.now (scattered c.as_slice.result.now c.args.bytes.now c.args.memory.now.bytes) c.args.result_at 4 same c.requires.ready.0)
