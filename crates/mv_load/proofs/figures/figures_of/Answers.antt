use Rattle.std.proofs.Common.{◌<◌, length, arith}
use Rattle.mv_load.specs.Figures.{bytes_in, calls_in, forks_in, promotes_in}
use Rattle.mv_load.proofs.Sums.{sum_on, stage_on}
use Rattle.mv_load.proofs.figures.figures_of.Goals as goal

-- src/figures.rt:113:5
pub loop-i-preserved : goal.loop-i-preserved
loop-i-preserved c =
    let lt : c.loop-i.i < length c.args.entries.now = omega arith in
    let so_far = c.loop-i.invariant in
    let one = c.with_entry-figures.ensures in
    record {
      within = omega arith;
      calls = sum_on calls_in _ _ _ _ _ lt c.index-entries-i.is so_far.calls one.calls;
      bytes = sum_on bytes_in _ _ _ _ _ lt c.index-entries-i.is so_far.bytes one.bytes;
      forks = sum_on forks_in _ _ _ _ _ lt c.index-entries-i.is so_far.forks one.forks;
      promotes = sum_on promotes_in _ _ _ _ _ lt c.index-entries-i.is so_far.promotes one.promotes;
      stage = stage_on _ _ _ _ _ lt c.index-entries-i.is so_far.stage one.stage;
    }
