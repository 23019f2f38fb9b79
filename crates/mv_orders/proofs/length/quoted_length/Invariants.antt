-- What stands for the bytes so far, with the quotation marks.
use Rattle.std.proofs.Common.{◌≡◌, ◌+◌, ◌-◌, ◌^◌, length, min, take}
use Rattle.json.specs.Print.{escape}
use Rattle.mv_orders.proofs.length.quoted_length.Given as goal

abbrev pub invariant-loop-byte : goal.invariant-loop-byte
invariant-loop-byte l = l.length ≡ min (length (escape (take l.byte-index l.text)) + 2) (2 ^ 64 - 1)
