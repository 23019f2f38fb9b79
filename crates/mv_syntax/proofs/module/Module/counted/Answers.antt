use Rattle.std.proofs.Common.{subst}
use Rattle.mv_syntax.specs.Counted.{AreCounted}
use Rattle.mv_syntax.proofs.CountLaws.{spelled_counted}
use Rattle.mv_syntax.proofs.module.Module.counted.Goals as goal

pub returns : goal.returns
returns c = subst AreCounted c.self.view_is (spelled_counted _ c.self.invariant)
