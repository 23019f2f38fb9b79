use Rattle.mv_history.proofs.ByteLaws.{reaches_brings}
use Rattle.mv_history.proofs.StretchLaws.{stretch_hears}
use Rattle.mv_history.proofs.laws.no_byte_lost.Goals as goal

pub returns-clause-bytes : goal.returns-clause-bytes
returns-clause-bytes g c f s fd reaches = (reaches_brings g.V.Version.behaviour fd f s reaches).reads

pub returns-clause-connections : goal.returns-clause-connections
returns-clause-connections g c f s reaches = (reaches_brings g.V.Version.behaviour 0 f s reaches).accepts

pub returns-clause-heard : goal.returns-clause-heard
returns-clause-heard g c updates w es f keeps is = stretch_hears g.V.Version.behaviour updates w es f keeps is
