-- For private clauses: what `clap` is told.
use Rattle.std.specs.Prelude.{true, Some, codes}
use Rattle.mv_words.specs.Words.{Text}
use Rattle.clap.specs.Words.{App, Rule, new_app, new_rule, with_rule}
use Rattle.clap.specs.Simple.{on_top}
use Rattle.clap.specs.declared.builder.ArgAction.TheVariants.{Set, Append}
use Rattle.clap.specs.declared.builder.value_parser.ValueParser.TheVariants.{NonEmptyString}

abbrev pub option_rule : Text → Rule
option_rule name = record (new_rule name) { long = Some name; action = Some Set; parser = Some NonEmptyString }

abbrev pub rest_rule : Text → Rule
rest_rule name = record (new_rule name) { action = Some Append; parser = Some NonEmptyString }

-- without the flag for help
abbrev pub plain_app : Text → App
plain_app name = on_top (λ s. record s { disable_help_flag = true }) (new_app name)

abbrev pub words_app : App
words_app =
    with_rule (with_rule (with_rule (with_rule (with_rule (plain_app (codes "mv")) (option_rule (codes "ring"))) (option_rule (codes "log"))) (option_rule (codes "listen"))) (option_rule (codes "console"))) (rest_rule (codes "places"))
