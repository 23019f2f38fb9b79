-- For private clauses: the values of options as they are found.
use Rattle.std.specs.Borrow.{Bor}
use Rattle.std.specs.Prelude.{ℕ, List, Option, option_map, option_to_list}
use Rattle.mv_words.specs.Words.{Text}
use Rattle.mv_words.specs.Commands.{Values}
use Rattle.mv_words.specs.declared.given.Options.{Options}

abbrev pub listed : Option (Bor (List ℕ)) → List Text
listed value = option_to_list (option_map (λ s. s.now) value)

abbrev pub values_of_options : Options → Values
values_of_options o = record { rings = listed o.ring; logs = listed o.log; listens = listed o.listen; consoles = listed o.console }
