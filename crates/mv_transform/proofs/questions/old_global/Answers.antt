use Rattle.std.proofs.Common.{◌∙◌, sym, rules}
use Rattle.mv_transform.proofs.Asked.{exported-within}
use Rattle.mv_transform.proofs.questions.old_global.Goals as goal

pub global-requires : goal.global-requires
global-requires c =
    exported-within c.args.old.now.parts c.slice.result.now c.args.n c.in_ok-index.index c.keeps.ensures.valid (search rules) (sym c.exported_global.ensures ∙ c.in_ok-index.was)
