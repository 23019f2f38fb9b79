use Rattle.std.proofs.Common.{◌≡◌, drop}
use Rattle.mv_validator.specs.ControlFrames.{all_open}
use Rattle.mv_validator.proofs.kind.all_open.Given as goal

abbrev pub invariant-loop-label : goal.invariant-loop-label
invariant-loop-label l = all_open l.labels l.depth ≡ all_open (drop l.label-index l.labels) l.depth
