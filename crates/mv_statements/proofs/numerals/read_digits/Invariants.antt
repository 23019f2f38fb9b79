use Rattle.std.proofs.Common.{◌≡◌, ◌≤◌, drop}
use Rattle.mv_statements.specs.Numerals.{hexadecimal_from}
use Rattle.mv_statements.proofs.numerals.read_digits.Given as goal

abbrev pub invariant-loop-byte : goal.invariant-loop-byte
invariant-loop-byte l = record {
  within : l.value ≤ l.most;
  rest : hexadecimal_from l.value (drop l.byte-index l.bytes) ≡ hexadecimal_from 0 l.bytes;
}
