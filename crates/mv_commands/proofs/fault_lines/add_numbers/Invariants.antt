use Rattle.std.proofs.Common.{◌≡◌, ◌++◌, drop}
use Rattle.mv_commands.specs.Lines.{numbers_text}
use Rattle.mv_commands.proofs.fault_lines.add_numbers.Given as goal

abbrev pub invariant-loop-number : goal.invariant-loop-number
invariant-loop-number l = l.line.items ++ numbers_text (drop l.number-index l.numbers) ≡ l.initial.line.items ++ numbers_text l.numbers
