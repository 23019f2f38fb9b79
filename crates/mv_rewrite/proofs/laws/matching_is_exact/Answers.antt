use Rattle.mv_rewrite.proofs.ExactLaws.{whole_matches, matches_whole, short_could, could_short, undecided}
use Rattle.mv_rewrite.proofs.laws.matching_is_exact.Goals as goal

pub returns-clause-sound : goal.returns-clause-sound
returns-clause-sound c rule items b h = whole_matches rule items b h

pub returns-clause-found : goal.returns-clause-found
returns-clause-found c rule items d h = matches_whole rule items d h

pub returns-clause-could : goal.returns-clause-could
returns-clause-could c rule items = (short_could rule items, could_short rule items)

pub returns-clause-waits : goal.returns-clause-waits
returns-clause-waits c rules items = undecided rules items
