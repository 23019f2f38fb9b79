use Rattle.mv_history.proofs.Whole.{first_small}
use Rattle.mv_history.proofs.WorldLaws.{entries_few, legal_small, number-length, since-length, updates_few, updates_rise}
use Rattle.mv_history.proofs.laws.counts_fit.Goals as goal

pub returns-clause-small : goal.returns-clause-small
returns-clause-small g c updates w es legal small = legal_small g.V.Version.behaviour updates w es legal small

pub returns-clause-first : goal.returns-clause-first
returns-clause-first g c first = first_small

pub returns-clause-number : goal.returns-clause-number
returns-clause-number g c updates w es = number-length g.V.Version.behaviour updates w es

pub returns-clause-since : goal.returns-clause-since
returns-clause-since g c updates w es = since-length g.V.Version.behaviour updates w es

pub returns-clause-updates : goal.returns-clause-updates
returns-clause-updates g c updates w es = updates_rise g.V.Version.behaviour updates w es

pub returns-clause-entries : goal.returns-clause-entries
returns-clause-entries g c updates w es legal small = entries_few g.V.Version.behaviour updates w es legal small

pub returns-clause-accepted : goal.returns-clause-accepted
returns-clause-accepted g c updates w es legal small = updates_few g.V.Version.behaviour updates w es legal small
