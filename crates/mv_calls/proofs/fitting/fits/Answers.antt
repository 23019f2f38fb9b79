-- The answer is that of the test, which means what the law says.
use Rattle.std.proofs.Common.{rules}
use Rattle.mv_calls.proofs.FitsLaws.{fits_means_at}
use Rattle.mv_calls.proofs.fitting.fits.Goals as goal

pub returns-then-same_call-clause-means : goal.returns-then-same_call-clause-means
returns-then-same_call-clause-means c = fits_means_at c.args.mine.now c.args.want.now c.args.reply.now c.same_call.result (search rules)

pub returns-else-same_call-clause-means : goal.returns-else-same_call-clause-means
returns-else-same_call-clause-means c = fits_means_at c.args.mine.now c.args.want.now c.args.reply.now c.enough.result (search rules)
