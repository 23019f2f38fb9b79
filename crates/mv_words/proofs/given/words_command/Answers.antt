use Rattle.std.proofs.Common.{ap₂, ◌∙◌}
use Rattle.clap.specs.Words.{with_rule}
use Rattle.mv_words.proofs.given.words_command.Goals as goal

pub returns : goal.returns
returns c =
    c.in_ok-places.ensures.shape c.rest_arg.ensures.local ∙ ap₂ with_rule
    (c.in_ok-console.ensures.shape c.option_arg-4.ensures.local ∙ ap₂ with_rule
    (c.in_ok-listen.ensures.shape c.option_arg-3.ensures.local ∙ ap₂ with_rule
    (c.in_ok-log.ensures.shape c.option_arg-2.ensures.local ∙ ap₂ with_rule
    (c.in_ok-ring.ensures.shape c.option_arg.ensures.local ∙ ap₂ with_rule c.plain_command-command.ensures c.option_arg.ensures.rule)
    c.option_arg-2.ensures.rule)
    c.option_arg-3.ensures.rule)
    c.option_arg-4.ensures.rule)
    c.rest_arg.ensures.rule
