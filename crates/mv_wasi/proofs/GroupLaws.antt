-- A call that is none of the four that ask for texts.
use Rattle.std.proofs.Common.{◌≡◌, refl}
use Rattle.mv_imports.specs.declared.function.HostFunction.{HostFunction}
use Rattle.mv_imports.specs.declared.function.HostFunction.TheVariants.{ArgsSizesGet, ArgsGet, EnvironSizesGet, EnvironGet}
use Rattle.mv_wasi.specs.Groups.{AsksForTexts}

pub asks-none : (f : HostFunction) → (f ≡ ArgsSizesGet → ⊥) → (f ≡ ArgsGet → ⊥) → (f ≡ EnvironSizesGet → ⊥) → (f ≡ EnvironGet → ⊥) → AsksForTexts f → ⊥
asks-none ArgsSizesGet a b c d asks = a refl
asks-none ArgsGet a b c d asks = b refl
asks-none EnvironSizesGet a b c d asks = c refl
asks-none EnvironGet a b c d asks = d refl
asks-none f a b c d asks = asks
