use Rattle.std.proofs.Common.{refl, inr}
use Rattle.mv_commands.proofs.Showings.{some_line}
use Rattle.mv_commands.proofs.showing.show.Goals as goal

pub returns-in_default-made_line : goal.returns-in_default-made_line
returns-in_default-made_line g c = let l = some_line c.args.ending.now in (l.0, l.1, inr (inr (refl, refl)))
