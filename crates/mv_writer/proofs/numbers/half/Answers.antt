use Rattle.std.proofs.Common.{arith}
use Rattle.mv_syntax.proofs.Powers.{half_fits, half_least}
use Rattle.mv_writer.proofs.numbers.half.Goals as goal

pub returns-then-width-lt7-clause-fits : goal.returns-then-width-lt7-clause-fits
returns-then-width-lt7-clause-fits c = half_fits c.args.width c.args.max c.requires.some c.requires.max

pub returns-else-width-lt7-clause-fits : goal.returns-else-width-lt7-clause-fits
returns-else-width-lt7-clause-fits c = omega (arith, half_least c.args.width c.args.max c.if-width-lt7.false c.requires.max)
