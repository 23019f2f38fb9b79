use Rattle.mv_scan.proofs.NumberLaws.{number_is, number_found}
use Rattle.mv_scan.proofs.laws.numbers_are_spelled.Goals as goal

pub returns : goal.returns
returns c = λ low high n token. (number_found low high n token, number_is low high n token)
