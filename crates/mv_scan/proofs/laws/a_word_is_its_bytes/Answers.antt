use Rattle.mv_scan.proofs.TokenLaws.{is_word_is, word_is_found}
use Rattle.mv_scan.proofs.laws.a_word_is_its_bytes.Goals as goal

pub returns : goal.returns
returns c = λ word token. (is_word_is word token, word_is_found word token)
