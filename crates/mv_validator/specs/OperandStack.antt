-- The types of operands as far as they are known, the newest first.
use Rattle.std.specs.Prelude.{Bool, true, false, List, [], ◌∷◌, Option, Some, None, option_and_then, if◌then◌else◌}
use Rattle.std.specs.Option.{option_map}
use Rattle.mv_syntax.specs.declared.ops.ValType.{ValType}
use Rattle.mv_syntax.specs.declared.ops.ValType.TheVariants.{I32, I64}
use Rattle.mv_syntax.specs.Types.{same_type}

abbrev pub fits_type : Option ValType → ValType → Bool
fits_type None t = true
fits_type (Some u) t = same_type u t

-- one operand of this type less
abbrev pub taken : ValType → List (Option ValType) → Bool → Option (List (Option ValType))
taken t [] unreachable = if unreachable then Some [] else None
taken t (o ∷ os) unreachable = if fits_type o t then Some os else None

-- operands of these types less
abbrev pub all_taken : List ValType → List (Option ValType) → Bool → Option (List (Option ValType))
all_taken [] os unreachable = Some os
all_taken (t ∷ ts) os unreachable = option_and_then (λ rest. all_taken ts rest unreachable) (taken t os unreachable)

-- one operand less, of any type
abbrev pub any_taken : List (Option ValType) → Bool → Option (List (Option ValType))
any_taken [] unreachable = if unreachable then Some [] else None
any_taken (o ∷ os) unreachable = Some os

-- one operand less, and what is known of its type
abbrev pub operand_taken : List (Option ValType) → Bool → Option (Option ValType × List (Option ValType))
operand_taken [] unreachable = if unreachable then Some (None, []) else None
operand_taken (o ∷ os) unreachable = Some (o, os)

-- what is known of a type of which two things are known; none where they differ
abbrev pub met : Option ValType → Option ValType → Option (Option ValType)
met None b = Some b
met (Some a) None = Some (Some a)
met (Some a) (Some b) = if same_type a b then Some (Some a) else None

-- the operands behind a `select`: a condition, and two operands of one type, of which one is left
abbrev pub both_met : Option ValType → Option (Option ValType × List (Option ValType)) → Option (List (Option ValType))
both_met a None = None
both_met a (Some b) = option_map (λ o. o ∷ b.1) (met a b.0)

abbrev pub two_met : Bool → Option (Option ValType × List (Option ValType)) → Option (List (Option ValType))
two_met unreachable None = None
two_met unreachable (Some a) = both_met a.0 (operand_taken a.1 unreachable)

abbrev pub selected : List (Option ValType) → Bool → Option (List (Option ValType))
selected os unreachable = option_and_then (λ rest. two_met unreachable (operand_taken rest unreachable)) (taken I32 os unreachable)
