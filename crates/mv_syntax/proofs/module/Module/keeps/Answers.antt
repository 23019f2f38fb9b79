use Rattle.std.proofs.Common.{subst}
use Rattle.mv_syntax.specs.Kept.{Keeps}
use Rattle.mv_syntax.proofs.KeptLaws.{spelled_keeps}
use Rattle.mv_syntax.proofs.module.Module.keeps.Goals as goal

pub returns : goal.returns
returns c = subst Keeps c.self.view_is (spelled_keeps _ c.self.invariant)
