use Rattle.std.proofs.Common.{ap, sym, length, arith, ◌*◌}
use Rattle.mv_wasi.specs.Ranges.{text_size}
use Rattle.mv_wasi.proofs.TextLaws.{both-within, length-places, length-bytes}
use Rattle.mv_wasi.proofs.texts.texts_made.Goals as goal

pub write_both-requires-clause-first : goal.write_both-requires-clause-first
write_both-requires-clause-first c =
    let within = both-within c.args.memory.now.bytes c.args.list (4 * length c.args.texts.now) c.args.buf (text_size c.args.texts.now) (sym c.if-not-texts_lie_within.ensures.within) in
    omega (arith, within.0, length-places c.args.buf c.args.texts.now, ap length c.in_ok-places.ensures, ap length c.deref.ensures.value)

pub write_both-requires-clause-second : goal.write_both-requires-clause-second
write_both-requires-clause-second c =
    let within = both-within c.args.memory.now.bytes c.args.list (4 * length c.args.texts.now) c.args.buf (text_size c.args.texts.now) (sym c.if-not-texts_lie_within.ensures.within) in
    omega (arith, within.1, length-bytes c.args.texts.now, ap length c.in_ok-bytes.ensures, ap length c.deref-2.ensures.value)
