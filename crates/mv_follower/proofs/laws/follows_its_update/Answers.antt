use Rattle.std.proofs.Common.{sym}
use Rattle.mv_follower.proofs.LagLaws.{updates_are}
use Rattle.mv_follower.proofs.laws.follows_its_update.Goals as goal

pub returns : goal.returns
returns g c f spot p is has = sym (updates_are g.V.Version.behaviour f.phase f.update f.kept f.expected spot p is has)
