use Rattle.std.proofs.Common.{length, ap, arith}
use Rattle.mv_memory.specs.Memory.{Contents}
use Rattle.mv_memory.proofs.BytesLemmas.{length-written}
use Rattle.mv_wasi.proofs.pairs.write_both.Goals as goal

pub write_owned-requires-2-clause-within : goal.write_owned-requires-2-clause-within
write_owned-requires-2-clause-within c =
    let here = ap (λ (m : Contents). length m.bytes) c.write_owned.ensures in
    let kept = length-written c.own_place-2.new.memory.bytes c.args.first_at c.args.first.now (omega (arith, c.requires.first, c.own_place.ensures.same.size, c.own_place-2.ensures.same.size)) in
    omega (arith, here, kept, c.requires.second, c.own_place.ensures.same.size, c.own_place-2.ensures.same.size)
