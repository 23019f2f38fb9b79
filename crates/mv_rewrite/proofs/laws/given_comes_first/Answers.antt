use Rattle.mv_rewrite.proofs.RewriterLaws.{groups-stands, groups-next, groups-none}
use Rattle.mv_rewrite.proofs.laws.given_comes_first.Goals as goal

pub returns : goal.returns
returns c = record { given = groups-stands; next = groups-next; none = groups-none }
