use Rattle.std.proofs.Common.{◌≡◌, ◌≤◌, length, take}
use Rattle.mv_history.specs.Statuses.{first_status}
use Rattle.mv_load.specs.Figures.{bytes_in, calls_in, capped, forks_in, promotes_in, status_behind, sum_of}
use Rattle.mv_load.proofs.figures.figures_of.Given as goal

abbrev pub invariant-loop-i : goal.invariant-loop-i
invariant-loop-i l = record {
  within : l.i ≤ length l.entries;
  calls : l.figures.calls ≡ capped (sum_of calls_in (take l.i l.entries));
  bytes : l.figures.bytes ≡ capped (sum_of bytes_in (take l.i l.entries));
  forks : l.figures.forks ≡ capped (sum_of forks_in (take l.i l.entries));
  promotes : l.figures.promotes ≡ capped (sum_of promotes_in (take l.i l.entries));
  stage : l.figures.stage ≡ (status_behind first_status (take l.i l.entries)).stage;
}
