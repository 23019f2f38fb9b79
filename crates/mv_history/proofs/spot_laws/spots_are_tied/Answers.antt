use Rattle.mv_history.proofs.Links.{tied_none, tied_more, tied_step, tied_clear}
use Rattle.mv_history.proofs.spot_laws.spots_are_tied.Goals as goal

pub returns : goal.returns
returns g c = record { none = tied_none; message = tied_more; step = tied_step g.V.Version.behaviour; clear = tied_clear }
