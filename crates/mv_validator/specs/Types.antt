-- The types of the numeric instructions' operands (WebAssembly Core 1.0, 3.3.1), of blocks, and natural alignments.
use Rattle.std.specs.Prelude.{ℕ, ◌^◌, Bool, List, [], ◌∷◌, Option, Some, None, nat_le}
use Rattle.mv_syntax.specs.declared.ops.ValType.{ValType}
use Rattle.mv_syntax.specs.declared.ops.ValType.TheVariants.{I32, I64}
use Rattle.mv_syntax.specs.declared.ops.UnOp.{UnOp}
use Rattle.mv_syntax.specs.declared.ops.UnOp.TheVariants.{Clz32, Ctz32, Popcnt32, Clz64, Ctz64, Popcnt64, Wrap, ExtendS, ExtendU}
use Rattle.mv_syntax.specs.declared.ops.TestOp.{TestOp}
use Rattle.mv_syntax.specs.declared.ops.TestOp.TheVariants.{Eqz32, Eqz64}

-- the operands of a block type
abbrev pub operands_of : Option ValType → List ValType
operands_of None = []
operands_of (Some t) = t ∷ []

abbrev pub taken_by_un : UnOp → ValType
taken_by_un Clz32 = I32
taken_by_un Ctz32 = I32
taken_by_un Popcnt32 = I32
taken_by_un Clz64 = I64
taken_by_un Ctz64 = I64
taken_by_un Popcnt64 = I64
taken_by_un Wrap = I64
taken_by_un ExtendS = I32
taken_by_un ExtendU = I32

abbrev pub given_by_un : UnOp → ValType
given_by_un Clz32 = I32
given_by_un Ctz32 = I32
given_by_un Popcnt32 = I32
given_by_un Clz64 = I64
given_by_un Ctz64 = I64
given_by_un Popcnt64 = I64
given_by_un Wrap = I32
given_by_un ExtendS = I64
given_by_un ExtendU = I64

abbrev pub taken_by_test : TestOp → ValType
taken_by_test Eqz32 = I32
taken_by_test Eqz64 = I64

-- 3.3.4: the alignment is at most the width of the access; both are in bytes, the alignment as an exponent of two
abbrev pub is_natural : ℕ → ℕ → Bool
is_natural align bytes = nat_le (2 ^ align) bytes
