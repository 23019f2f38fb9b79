use Rattle.std.proofs.Common.{arith, sym, ap, subst, length}
use Rattle.mv_memory.specs.Bytes.{written}
use Rattle.mv_memory.proofs.BytesLemmas.{length-written}
use Rattle.mv_wasi.specs.Readies.{HasRange}
use Rattle.mv_wasi.proofs.Owning.{range-written}
use Rattle.mv_wasi.proofs.events.put_events.Goals as goal

pub write_number-requires-clause-ready : goal.write_number-requires-clause-ready
write_number-requires-clause-ready c =
    let fits = length-written c.args.memory.now.bytes c.args.events c.as_slice.result.now (omega (arith, c.requires.ready.1.0.within, c.bytes_of-bytes.ensures.len, ap length c.as_slice.ensures.value)) in
    subst (λ memory. HasRange memory c.args.result_at 4) (sym c.write_bytes.ensures) (range-written c.args.memory.now (written c.args.memory.now.bytes c.args.events c.as_slice.result.now) c.args.result_at 4 fits c.requires.ready.0)
