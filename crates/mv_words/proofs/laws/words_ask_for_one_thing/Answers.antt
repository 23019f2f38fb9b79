use Rattle.mv_words.proofs.OneReading.{one_reading}
use Rattle.mv_words.proofs.laws.words_ask_for_one_thing.Goals as goal

pub returns : goal.returns
returns c = one_reading
