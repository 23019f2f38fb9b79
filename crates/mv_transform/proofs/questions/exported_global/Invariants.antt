use Rattle.std.proofs.Common.{◌≡◌, drop}
use Rattle.std.specs.Prelude.{slice_get}
use Rattle.mv_transform.specs.Transforms.{exported_globals}
use Rattle.mv_transform.proofs.questions.exported_global.Given as goal

abbrev pub invariant-loop-export : goal.invariant-loop-export
invariant-loop-export l = slice_get (exported_globals l.exports) l.n ≡ slice_get (exported_globals (drop l.export-index l.exports)) l.left
