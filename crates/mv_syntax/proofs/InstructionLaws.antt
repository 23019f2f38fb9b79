-- What is read as a number, a name, a type or an instruction is spelled so, and what is spelled so is read.
use Rattle.std.proofs.Common.{ℕ, zero, suc, ◌+◌, ◌*◌, ◌-◌, ◌%◌, ltb, Bool, true, false, Some, None}
use Rattle.std.specs.Option.{option_map}
use Rattle.mv_syntax.specs.declared.instr.Instr.TheVariants as instr
use Rattle.mv_syntax.specs.declared.ops.ValType.TheVariants.{I32, I64}
use Rattle.mv_syntax.specs.declared.fault.ReadKind.TheVariants.{Kind, LaterFeature, Limit}
use Rattle.mv_syntax.specs.Form.{Form}
use Rattle.mv_syntax.specs.Numbers.{groups, last_group, number_of, u32, s32, s64, text_of, name}
use Rattle.mv_syntax.specs.Types.{vector, up_to, only, val_type_of, val_type, func_type, limits_mark, limits_from, limits}
use Rattle.mv_syntax.specs.Instructions.{block_type_of, block_type, Shape, Alone, Blocks, Indexed, Labels, Indirect, Access, Reserved, Const32, Const64, zero_byte, immediates, shape_of, instruction}
use Rattle.mv_syntax.proofs.FormLaws.{Agrees, give_agrees, then_agrees, byte_agrees, means_agrees, choose_agrees, bytes_agrees, many_agrees, at_most_one_agrees}

-- ---- numbers and names

groups_agrees : (signed : Bool) (n width : ℕ) → Agrees (groups signed n width)
unfolding groups
groups_agrees signed zero width = give_agrees None
groups_agrees signed (suc n) width = then_agrees byte_agrees (λ b. choose_agrees (ltb b 128) (give_agrees (last_group signed width b)) (then_agrees (groups_agrees signed n (width - 7)) (λ high. give_agrees (option_map (λ h. b % 128 + 128 * h) high))))

pub u32_agrees : Agrees u32
unfolding u32
u32_agrees = means_agrees (groups_agrees false 5 32) number_of

s32_agrees : Agrees s32
unfolding s32
s32_agrees = means_agrees (groups_agrees true 5 32) number_of

s64_agrees : Agrees s64
unfolding s64
s64_agrees = means_agrees (groups_agrees true 10 64) number_of

pub name_agrees : Agrees name
unfolding name
name_agrees = then_agrees u32_agrees (λ n. means_agrees (bytes_agrees n) text_of)

-- ---- types

pub vector_agrees : {A : Type 0} {f : Form A} → Agrees f → Agrees (vector f)
unfolding vector
vector_agrees kf = then_agrees u32_agrees (λ n. many_agrees kf n)

pub val_type_agrees : Agrees val_type
unfolding val_type
val_type_agrees = means_agrees byte_agrees val_type_of

pub func_type_agrees : Agrees func_type
unfolding func_type
func_type_agrees =
    then_agrees (means_agrees byte_agrees (only 96 Kind)) (λ mark.
    then_agrees (means_agrees u32_agrees (up_to 1000 Limit)) (λ n.
    then_agrees (many_agrees val_type_agrees n) (λ params.
    then_agrees (means_agrees u32_agrees (up_to 1 LaterFeature)) (λ m.
    then_agrees (at_most_one_agrees val_type_agrees m) (λ result.
    give_agrees (record { params = params; result = result }))))))

limits_from_agrees : (bounded : Bool) (min : ℕ) → Agrees (limits_from bounded min)
unfolding limits_from
limits_from_agrees false min = give_agrees (record { min = min; max = None })
limits_from_agrees true min = then_agrees u32_agrees (λ max. give_agrees (record { min = min; max = Some max }))

pub limits_agrees : (most : ℕ) → Agrees (limits most)
unfolding limits
limits_agrees most = then_agrees (means_agrees byte_agrees limits_mark) (λ bounded. then_agrees (means_agrees u32_agrees (up_to most Limit)) (λ min. limits_from_agrees bounded min))

-- ---- instructions

block_type_agrees : Agrees block_type
unfolding block_type
block_type_agrees = means_agrees byte_agrees block_type_of

zero_byte_agrees : Agrees zero_byte
zero_byte_agrees = means_agrees byte_agrees (only 0 LaterFeature)

immediates_agrees : (shape : Shape) → Agrees (immediates shape)
unfolding immediates
immediates_agrees (Alone i) = give_agrees i
immediates_agrees (Blocks make) = then_agrees block_type_agrees (λ t. give_agrees (make t))
immediates_agrees (Indexed make) = then_agrees u32_agrees (λ n. give_agrees (make n))
immediates_agrees Labels = then_agrees (vector_agrees u32_agrees) (λ labels. then_agrees u32_agrees (λ last. give_agrees (instr.BrTable labels last)))
immediates_agrees Indirect = then_agrees u32_agrees (λ n. then_agrees zero_byte_agrees (λ mark. give_agrees (instr.CallIndirect n)))
immediates_agrees (Access make) = then_agrees u32_agrees (λ align. then_agrees u32_agrees (λ offset. give_agrees (make align offset)))
immediates_agrees (Reserved i) = then_agrees zero_byte_agrees (λ mark. give_agrees i)
immediates_agrees Const32 = then_agrees s32_agrees (λ v. give_agrees (instr.Const I32 v))
immediates_agrees Const64 = then_agrees s64_agrees (λ v. give_agrees (instr.Const I64 v))

pub instruction_agrees : Agrees instruction
unfolding instruction
instruction_agrees = then_agrees (means_agrees byte_agrees shape_of) (λ shape. immediates_agrees shape)
