use Rattle.mv_policy.proofs.TextLaws.{same_reading}
use Rattle.mv_policy.proofs.text.one_reading.Goals as goal

pub returns : goal.returns
returns c = same_reading
