use Rattle.std.proofs.Common.{ap, length, arith}
use Rattle.mv_wasi.proofs.TextLaws.{size-more, size-past}
use Rattle.mv_wasi.proofs.texts.size_of_texts.Goals as goal

pub overflow_add-size-in-loop-text : goal.overflow_add-size-in-loop-text
overflow_add-size-in-loop-text c = omega (arith, c.loop-text.invariant.fits)

pub loop-text-preserved : goal.loop-text-preserved
loop-text-preserved c =
    let more = size-more c.args.texts.now c.loop-text.text-index c.text-item.result c.loop-text-test.true c.text-item.is in
    record {
      whole = omega (arith, more, ap length c.slice.ensures, c.loop-text.invariant.whole);
      fits = omega (arith, c.loop-text.invariant.fits);
    }

pub returns-clause-size : goal.returns-clause-size
returns-clause-size c = omega (arith, size-past c.args.texts.now c.loop-text.text-index (omega arith), c.loop-text.invariant.whole)

pub returns-clause-fits : goal.returns-clause-fits
returns-clause-fits c = omega (arith, c.loop-text.invariant.fits)
