use Rattle.std.proofs.Common.{◌≡◌, ◌≤◌, drop}
use Rattle.mv_scan.specs.Numbers.{decimal_from}
use Rattle.mv_scan.proofs.number.read_digits.Given as goal

abbrev pub invariant-loop-byte : goal.invariant-loop-byte
invariant-loop-byte l = record {
  within : l.value ≤ l.max;
  rest : decimal_from l.value (drop l.byte-index l.bytes) ≡ decimal_from 0 l.bytes;
}
