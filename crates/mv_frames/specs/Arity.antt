-- How many operands a block or a function gives.
use Rattle.std.specs.Prelude.{Bool, true, false, ℕ}

abbrev pub arity_if : Bool → ℕ
arity_if true = 1
arity_if false = 0
