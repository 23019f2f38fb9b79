use Rattle.std.proofs.Common.{rules, refl, ℕ, eqb}
use Rattle.std.proofs.lemmas.Result.{IfOk-at_ok}
use Rattle.std.proofs.lemmas.Iterator.Consumers.{map_from_collect}
use Rattle.std.proofs.lemmas.Iterator.Splits.{YieldsList-from_slice_split}
use Rattle.mv_policy.proofs.reading.words_in.Goals as goal

pub returns : goal.returns
returns c =
    let parts = map_from_collect _ c.collect.ensures.ran (YieldsList-from_slice_split _ (λ (b : ℕ). eqb b 32) c.args.line.now c.split.ensures.rest c.split.ensures.done c.split.ensures.closure (λ x b q h. (refl, search rules))) in
    IfOk-at_ok _ c.in_ok-words.was parts
