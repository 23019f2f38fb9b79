-- Values and types as the machine compares them (WebAssembly Core 1.0, 4.2.1). A value is a number, which has no mark of its type.
use Rattle.std.specs.Prelude.{Bool, true, false, ℕ, ◌^◌, ◌||◌, ◌==◌, Option, Some, None, nat_lt}
use Rattle.mv_syntax.specs.declared.ops.ValType.{ValType}
use Rattle.mv_syntax.specs.declared.ops.ValType.TheVariants.{I32, I64}
use Rattle.mv_syntax.specs.Types.{bit_width}

-- whether a number is a value of the type
abbrev pub is_of : ValType → ℕ → Bool
is_of t v = nat_lt v (2 ^ bit_width t)

-- what a test or a comparison gives (4.3.2)
abbrev pub truth : Bool → ℕ
truth true = 1
truth false = 0

-- whether a load or a store of this type moves so many bytes (2.4.4)
abbrev pub is_width : ValType → ℕ → Bool
is_width I32 n = n == 1 || (n == 2 || n == 4)
is_width I64 n = n == 1 || (n == 2 || (n == 4 || n == 8))

-- how many results a block or a function of this type has
abbrev pub arity_of : Option ValType → ℕ
arity_of None = 0
arity_of (Some t) = 1
