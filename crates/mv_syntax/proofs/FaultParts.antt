-- What the faults of the grammar's forms hang on, form by form.
use Rattle.std.proofs.Common.{◌≡◌, ℕ, zero, suc, ◌-◌, ◌*◌, ◌+◌, ◌%◌, ◌||◌, Bool, true, false, eqb, List, [], ◌∷◌, ◌++◌, length, Result, Ok, Err, Option, Some, None, refl, sym, ap, subst, ◌∙◌, inl, inr}
use Rattle.std.specs.Prelude.{replicate, nat_le, nat_lt, ◌==◌, if◌then◌else◌}
use Rattle.std.specs.Option.{option_map, ok_or}
use Rattle.std.specs.Str.{is_utf8}
use Rattle.mv_syntax.specs.declared.fault.ReadKind.{ReadKind}
use Rattle.mv_syntax.specs.declared.fault.ReadKind.TheVariants.{Magic, Order, Leb, Utf8, Kind, Float, LaterFeature, Count, Limit}
use Rattle.mv_syntax.specs.declared.ops.ValType.{ValType}
use Rattle.mv_syntax.specs.declared.ops.ValType.TheVariants.{I32, I64}
use Rattle.mv_syntax.specs.declared.types.FuncType.{FuncType}
use Rattle.mv_syntax.specs.declared.types.Limits.{Limits}
use Rattle.mv_syntax.specs.declared.instr.Instr.{Instr}
use Rattle.mv_syntax.specs.declared.instr.Instr.TheVariants as instr
use Rattle.mv_syntax.specs.declared.module.Import.{Import}
use Rattle.mv_syntax.specs.declared.module.Func.{Func}
use Rattle.mv_syntax.specs.declared.module.Global.{Global}
use Rattle.mv_syntax.specs.declared.module.Export.{Export}
use Rattle.mv_syntax.specs.declared.module.Element.{Element}
use Rattle.mv_syntax.specs.declared.module.Segment.{Segment}
use Rattle.mv_syntax.specs.Form.{At, Form}
use Rattle.mv_syntax.specs.Forms.{give, byte, means, choose, bytes, sized, clipped, headed, many, each_of, at_most_one}
use Rattle.mv_syntax.specs.Numbers.{last_group, groups, number_of, u32, s32, s64, text_of, name}
use Rattle.mv_syntax.specs.Types.{vector, up_to, only, val_type_of, val_type, func_type, limits_mark, limits_from, limits}
use Rattle.mv_syntax.specs.Instructions.{block_type_of, block_type, Shape, Alone, Blocks, Indexed, Labels, Indirect, Access, Reserved, Const32, Const64, immediates, operator_of, is_float, access_of, other_of, or_else, shape_of, instruction}
use Rattle.mv_syntax.specs.Nesting.{nest}
use Rattle.mv_syntax.specs.Bodies.{nowhere, with_step, nested, goes_on, closing}
use Rattle.mv_syntax.specs.Code.{code}
use Rattle.mv_syntax.specs.Parts.{import_, elem_type_of, table, memory, is_mutable, global, export, element, segment, run, runs, body, func}
use Rattle.mv_syntax.specs.Sections.{Sections, next_id, Holding, Types, Imports, Functions, Tables, Memories, Globals, Exports, Start, Elements, Bodies, Data, holding, contents, section, preamble}
use Rattle.mv_syntax.proofs.FormLaws.{Agrees, give_agrees, then_agrees, byte_agrees, means_agrees, choose_agrees, bytes_agrees, sized_agrees, clipped_agrees, headed_agrees, many_agrees, each_agrees, at_most_one_agrees}
use Rattle.mv_syntax.proofs.InstructionLaws.{u32_agrees, name_agrees, vector_agrees, val_type_agrees, func_type_agrees, limits_agrees, instruction_agrees}
use Rattle.mv_syntax.proofs.CodeLaws.{code_agrees}
use Rattle.mv_syntax.proofs.FaultForms.{Settles, Own, fixed_as, out_fixed, err_is, give_settles, byte_settles, bytes_settles, joined, then_settles, map_settles, choose_settles, means_settles, sized_settles, headed_settles, clipped_settles}

-- ---- a form with what its faults hang on; parts of it are written as the form is

record Tame (g : Bool) (A : Type 0) : Type 1 where
  form : Form A
  agrees : Agrees form
  settles : Settles g form.reads

abbrev known : {g : Bool} {A : Type 0} (f : Form A) → Agrees f → Settles g f.reads → Tame g A
known f kf h = record { form = f; agrees = kf; settles = h }

abbrev given : {g : Bool} {A : Type 0} → A → Tame g A
given {g} a = record { form = give a; agrees = give_agrees a; settles = give_settles g a }

infixl 10 ◌>>=◌
abbrev ◌>>=◌ : {g : Bool} {A B : Type 0} → Tame g A → (A → Tame g B) → Tame g B
◌>>=◌ {g} t k = record {
  form = joined t.form (λ a. (k a).form);
  agrees = then_agrees {f = t.form} {g = λ a. (k a).form} t.agrees (λ a. (k a).agrees);
  settles = then_settles g t.form t.agrees (λ a. (k a).form) t.settles (λ a. (k a).settles);
}

-- ---- meanings

-- the faults of a meaning of this byte, or of this number
abbrev Faults : {B : Type 0} → List ℕ → Result B ReadKind → Type 0
Faults text r = (k : ReadKind) → r ≡ Err k → Own k text

fine : {B : Type 0} (text : List ℕ) (x : B) → Faults {B = B} text (Ok x)
fine text x k e = absurd cc

faulty : {B : Type 0} (text : List ℕ) (k : ReadKind) → Own k text → Faults {B = B} text (Err k)
faulty text k o j e = let same : k ≡ j = cc in subst (λ (k : ReadKind). Own k text) same o

either : {B : Type 0} (text : List ℕ) (b : Bool) (x y : Result B ReadKind) → Faults text x → Faults text y → Faults text (if b then x else y)
either text true x y hx hy = hx
either text false x y hx hy = hy

-- a byte with a meaning
byte_means : {B : Type 0} (g : Bool) (meaning : ℕ → Result B ReadKind) → ((b : ℕ) → Faults (b ∷ []) (meaning b)) → Settles g (means byte meaning).reads
unfolding byte
byte_means g meaning h = means_settles g byte byte_agrees meaning (byte_settles g) (λ text b k s e. subst (λ (t : List ℕ). Own k t) (sym s) (h b k e))

abbrev marked : {g : Bool} {B : Type 0} (meaning : ℕ → Result B ReadKind) → ((b : ℕ) → Faults (b ∷ []) (meaning b)) → Tame g B
marked {g} meaning h = known (means byte meaning) (means_agrees byte_agrees meaning) (byte_means g meaning h)

abbrev only_byte : {g : Bool} (this : ℕ) (kind : ReadKind) → ((b : ℕ) → Own kind (b ∷ [])) → Tame g ℕ
only_byte this kind o = marked (only this kind) (λ b. either (b ∷ []) (eqb b this) (Ok b) (Err kind) (fine (b ∷ []) b) (faulty (b ∷ []) kind (o b)))

-- ---- numbers and names

groups_agree : (signed : Bool) (n w : ℕ) → Agrees (groups signed n w)
unfolding groups
groups_agree signed zero w = give_agrees None
groups_agree signed (suc n) w = then_agrees byte_agrees (λ b. choose_agrees (nat_lt b 128) (give_agrees (last_group signed w b)) (then_agrees (groups_agree signed n (w - 7)) (λ high. give_agrees (option_map (λ h. b % 128 + 128 * h) high))))

groups_settles : (g signed : Bool) (n w : ℕ) → Settles g (groups signed n w).reads
unfolding groups
groups_settles g signed zero w = give_settles g None
groups_settles g signed (suc n) w = then_settles g byte byte_agrees (λ b. choose (nat_lt b 128) (give (last_group signed w b)) (joined (groups signed n (w - 7)) (λ high. give (option_map (λ h. b % 128 + 128 * h) high)))) (byte_settles g)
    (λ b. choose_settles g (nat_lt b 128) (give (last_group signed w b)) (joined (groups signed n (w - 7)) (λ high. give (option_map (λ h. b % 128 + 128 * h) high))) (give_settles g (last_group signed w b))
    (map_settles g (groups signed n (w - 7)) (λ high. option_map (λ h. b % 128 + 128 * h) high) (groups_settles g signed n (w - 7))))

none_of : {A : Type 0} (o : Option A) (d k : ReadKind) → ok_or o d ≡ Err k → (o ≡ None) × (d ≡ k)
none_of None d k e = (refl, cc)
none_of (Some a) d k e = absurd cc

leb_own : (text : List ℕ) (o : Option ℕ) (k : ReadKind) → (o ≡ None → Own Leb text) → number_of o ≡ Err k → Own k text
leb_own text o k h e =
    let n = none_of o Leb k e in
    subst (λ (k : ReadKind). Own k text) n.1 (h n.0)

u32_settles : (g : Bool) → Settles g u32.reads
unfolding u32
u32_settles g = means_settles g (groups false 5 32) (groups_agree false 5 32) number_of (groups_settles g false 5 32) (λ text o k s e. leb_own text o k (λ none. inl (subst (λ (o : Option ℕ). (groups false 5 32).spells text o) none s)) e)

abbrev tame_u32 : {g : Bool} → Tame g ℕ
tame_u32 {g} = known u32 u32_agrees (u32_settles g)

s32_agrees : Agrees s32
unfolding s32
s32_agrees = means_agrees (groups_agree true 5 32) number_of

s32_settles : Settles false s32.reads
unfolding s32
s32_settles = means_settles false (groups true 5 32) (groups_agree true 5 32) number_of (groups_settles false true 5 32) (λ text o k s e. leb_own text o k (λ none. inr (inl (subst (λ (o : Option ℕ). (groups true 5 32).spells text o) none s))) e)

s64_agrees : Agrees s64
unfolding s64
s64_agrees = means_agrees (groups_agree true 10 64) number_of

s64_settles : Settles false s64.reads
unfolding s64
s64_settles = means_settles false (groups true 10 64) (groups_agree true 10 64) number_of (groups_settles false true 10 64) (λ text o k s e. leb_own text o k (λ none. inr (inr (subst (λ (o : Option ℕ). (groups true 10 64).spells text o) none s))) e)

text_own : (b : Bool) (text : List ℕ) (k : ReadKind) → is_utf8 text ≡ b → (if b then Ok text else Err Utf8) ≡ Err k → Own k text
text_own true text k u e = absurd cc
text_own false text k u e = let same : Utf8 ≡ k = cc in subst (λ (k : ReadKind). Own k text) same u

name_bytes : (n : ℕ) → Settles false (means (bytes n) text_of).reads
unfolding bytes
name_bytes n = means_settles false (bytes n) (bytes_agrees n) text_of (bytes_settles false n) (λ text a k s e. subst (λ (t : List ℕ). Own k t) s.0 (text_own (is_utf8 a) a k refl e))

abbrev tame_text : Tame false (List ℕ)
tame_text = do
  n ← tame_u32
  known (means (bytes n) text_of) (means_agrees (bytes_agrees n) text_of) (name_bytes n)

name_settles : Settles false name.reads
unfolding name
name_settles = tame_text.settles

abbrev tame_name : Tame false (List ℕ)
tame_name = known name name_agrees name_settles

-- a number that is limited
abbrev OwnNumber : ReadKind → Type 0
OwnNumber kind = (text : List ℕ) (n : ℕ) → u32.spells text n → Own kind text

number_means : (b : ℕ → Bool) (kind : ReadKind) → OwnNumber kind → Settles false (means u32 (λ n. if b n then Ok n else Err kind)).reads
number_means b kind o = means_settles false u32 u32_agrees (λ n. if b n then Ok n else Err kind) (u32_settles false) (λ text n k s e. either text (b n) (Ok n) (Err kind) (fine text n) (faulty text kind (o text n s)) k e)

abbrev up_to_number : (most : ℕ) (kind : ReadKind) → OwnNumber kind → Tame false ℕ
up_to_number most kind o = known (means u32 (up_to most kind)) (means_agrees u32_agrees (up_to most kind)) (number_means (λ n. nat_le n most) kind o)

abbrev only_number : (this : ℕ) (kind : ReadKind) → OwnNumber kind → Tame false ℕ
only_number this kind o = known (means u32 (only this kind)) (means_agrees u32_agrees (only this kind)) (number_means (λ n. n == this) kind o)

limit_own : OwnNumber Limit
limit_own text n s = inr (n, s)

count_own : OwnNumber Count
count_own text n s = inr (n, s)

later_own : OwnNumber LaterFeature
later_own text n s = inr (n, s)

later_byte : (b : ℕ) → Own LaterFeature (b ∷ [])
later_byte b = inl (b, refl)

kind_byte : (b : ℕ) → Own Kind (b ∷ [])
kind_byte b = inl (b, refl)

float_byte : (b : ℕ) → Own Float (b ∷ [])
float_byte b = (b, refl)

-- ---- lists

many_settles : {A : Type 0} (f : Form A) → Agrees f → Settles false f.reads → (n : ℕ) → Settles false (many f n).reads
unfolding many
many_settles {A} f kf h zero = give_settles {A = List A} false []
many_settles {A} f kf h (suc n) =
    then_settles false f kf (λ first. joined (many f n) (λ others. give (first ∷ others))) h (λ first. map_settles false (many f n) (λ others. first ∷ others) (many_settles f kf h n))

each_settles : {A B : Type 0} (f : B → Form A) → ((b : B) → Agrees (f b)) → ((b : B) → Settles false (f b).reads) → (bs : List B) → Settles false (each_of f bs).reads
unfolding each_of
each_settles {A} f kf h [] = give_settles {A = List A} false []
each_settles {A} f kf h (b ∷ bs) =
    then_settles false (f b) (kf b) (λ first. joined (each_of f bs) (λ others. give (first ∷ others))) (h b) (λ first. map_settles false (each_of f bs) (λ others. first ∷ others) (each_settles f kf h bs))

one_settles : {A : Type 0} (f : Form A) → Settles false f.reads → (n : ℕ) → Settles false (at_most_one f n).reads
unfolding at_most_one
one_settles {A} f h n = choose_settles false (n == 0) (give {A = Option A} None) (joined f (λ a. give (Some a))) (give_settles {A = Option A} false None) (map_settles false f (λ a. Some a) h)

vector_settles : {A : Type 0} (f : Form A) → Agrees f → Settles false f.reads → Settles false (vector f).reads
unfolding vector
vector_settles f kf h = then_settles false u32 u32_agrees (λ n. many f n) (u32_settles false) (λ n. many_settles f kf h n)

abbrev so_many : {A : Type 0} → Tame false A → ℕ → Tame false (List A)
so_many t n = known (many t.form n) (many_agrees t.agrees n) (many_settles t.form t.agrees t.settles n)

abbrev one_at_most : {A : Type 0} → Tame false A → ℕ → Tame false (Option A)
one_at_most t n = known (at_most_one t.form n) (at_most_one_agrees t.agrees n) (one_settles t.form t.settles n)

abbrev listed : {A : Type 0} → Tame false A → Tame false (List A)
listed t = known (vector t.form) (vector_agrees t.agrees) (vector_settles t.form t.agrees t.settles)

-- ---- types

val_type_faults : (b : ℕ) → Faults (b ∷ []) (val_type_of b)
val_type_faults b =
    let t : List ℕ = b ∷ [] in
    either t (b == 127) (Ok I32) _ (fine t I32) (
    either t (b == 126) (Ok I64) _ (fine t I64) (
    either t (b == 125 || b == 124) (Err Float) _ (faulty t Float (float_byte b)) (
    either t (b == 123 || b == 112 || b == 111) (Err LaterFeature) (Err Kind) (faulty t LaterFeature (later_byte b)) (faulty t Kind (kind_byte b)))))

val_type_settles : Settles false val_type.reads
unfolding val_type
val_type_settles = byte_means false val_type_of val_type_faults

abbrev tame_val_type : Tame false ValType
tame_val_type = known val_type val_type_agrees val_type_settles

abbrev tame_func_type : Tame false FuncType
tame_func_type = do
  _ ← only_byte 96 Kind kind_byte
  n ← up_to_number 1000 Limit limit_own
  params ← so_many tame_val_type n
  m ← up_to_number 1 LaterFeature later_own
  result ← one_at_most tame_val_type m
  given (record { params = params; result = result })

func_type_settles : Settles false func_type.reads
unfolding func_type
func_type_settles = tame_func_type.settles

mark_faults : (b : ℕ) → Faults (b ∷ []) (limits_mark b)
mark_faults b =
    let t : List ℕ = b ∷ [] in
    either t (b == 0) (Ok false) _ (fine t false) (
    either t (b == 1) (Ok true) (Err LaterFeature) (fine t true) (faulty t LaterFeature (later_byte b)))

abbrev tame_bounded : (min : ℕ) → Tame false Limits
tame_bounded min = do
  max ← tame_u32
  given (record { min = min; max = Some max })

from_agrees : (bounded : Bool) (min : ℕ) → Agrees (limits_from bounded min)
unfolding limits_from
from_agrees false min = give_agrees (record { min = min; max = None })
from_agrees true min = (tame_bounded min).agrees

from_settles : (bounded : Bool) (min : ℕ) → Settles false (limits_from bounded min).reads
unfolding limits_from
from_settles false min = give_settles {A = Limits} false (record { min = min; max = None })
from_settles true min = (tame_bounded min).settles

abbrev tame_limits : ℕ → Tame false Limits
tame_limits most = do
  bounded ← marked limits_mark mark_faults
  min ← up_to_number most Limit limit_own
  known (limits_from bounded min) (from_agrees bounded min) (from_settles bounded min)

limits_settles : (most : ℕ) → Settles false (limits most).reads
unfolding limits
limits_settles most = (tame_limits most).settles

-- ---- instructions

block_faults : (b : ℕ) → Faults (b ∷ []) (block_type_of b)
block_faults b =
    let t : List ℕ = b ∷ [] in
    either t (b == 64) (Ok None) _ (fine {B = Option ValType} t None) (
    either t (b == 127) (Ok (Some I32)) _ (fine t (Some I32)) (
    either t (b == 126) (Ok (Some I64)) _ (fine t (Some I64)) (
    either t (b == 125 || b == 124) (Err Float) (Err LaterFeature) (faulty t Float (float_byte b)) (faulty t LaterFeature (later_byte b)))))

block_settles : Settles false block_type.reads
unfolding block_type
block_settles = byte_means false block_type_of block_faults

block_agrees : Agrees block_type
unfolding block_type
block_agrees = means_agrees byte_agrees block_type_of

abbrev tame_zero : Tame false ℕ
tame_zero = only_byte 0 LaterFeature later_byte

abbrev tame_blocks : (Option ValType → Instr) → Tame false Instr
tame_blocks make = do
  t ← known block_type block_agrees block_settles
  given (make t)

abbrev tame_indexed : (ℕ → Instr) → Tame false Instr
tame_indexed make = do
  n ← tame_u32
  given (make n)

abbrev tame_labels : Tame false Instr
tame_labels = do
  labels ← listed tame_u32
  last ← tame_u32
  given (instr.BrTable labels last)

abbrev tame_indirect : Tame false Instr
tame_indirect = do
  n ← tame_u32
  _ ← tame_zero
  given (instr.CallIndirect n)

abbrev tame_access : (ℕ → ℕ → Instr) → Tame false Instr
tame_access make = do
  align ← tame_u32
  offset ← tame_u32
  given (make align offset)

abbrev tame_reserved : Instr → Tame false Instr
tame_reserved i = do
  _ ← tame_zero
  given i

abbrev tame_const32 : Tame false Instr
tame_const32 = do
  v ← known s32 s32_agrees s32_settles
  given (instr.Const I32 v)

abbrev tame_const64 : Tame false Instr
tame_const64 = do
  v ← known s64 s64_agrees s64_settles
  given (instr.Const I64 v)

immediates_settles : (shape : Shape) → Settles false (immediates shape).reads
unfolding immediates
immediates_settles (Alone i) = give_settles false i
immediates_settles (Blocks make) = (tame_blocks make).settles
immediates_settles (Indexed make) = (tame_indexed make).settles
immediates_settles Labels = tame_labels.settles
immediates_settles Indirect = tame_indirect.settles
immediates_settles (Access make) = (tame_access make).settles
immediates_settles (Reserved i) = (tame_reserved i).settles
immediates_settles Const32 = tame_const32.settles
immediates_settles Const64 = tame_const64.settles

float_or_later : (b : Bool) (code : ℕ) → Own (if b then Float else LaterFeature) (code ∷ [])
float_or_later true code = float_byte code
float_or_later false code = later_byte code

shape_faults : (b : ℕ) → Faults (b ∷ []) (shape_of b)
shape_faults b k e =
    let n = none_of (or_else (option_map Alone (operator_of b)) (or_else (access_of b) (other_of b))) (if is_float b then Float else LaterFeature) k e in
    subst (λ (k : ReadKind). Own k (b ∷ [])) n.1 (float_or_later (is_float b) b)

instruction_settles : Settles false instruction.reads
unfolding instruction
instruction_settles = then_settles false (means byte shape_of) (means_agrees byte_agrees shape_of) (λ shape. immediates shape) (byte_means false shape_of shape_faults) (λ shape. immediates_settles shape)

-- ---- code

-- only an `else` may be out of place
nest_err : (opens : List Bool) (i : Instr) (k : ReadKind) → nest opens i ≡ Err k → (i ≡ instr.Else) × (k ≡ Kind)
nest_err opens (instr.Block t) k e = absurd cc
nest_err opens (instr.Loop t) k e = absurd cc
nest_err opens (instr.If t) k e = absurd cc
nest_err (true ∷ opens) instr.Else k e = absurd cc
nest_err (false ∷ opens) instr.Else k e = let same : Kind ≡ k = cc in (refl, sym same)
nest_err [] instr.Else k e = let same : Kind ≡ k = cc in (refl, sym same)
nest_err opens instr.End k e = absurd cc
nest_err opens i k e = absurd cc

step_err : (i : Instr) (r : Result (Option (List Bool)) ReadKind) (k : ReadKind) → with_step i r ≡ Err k → r ≡ Err k
step_err i (Ok opens) k e = absurd cc
step_err i (Err j) k e = let same : j ≡ k = cc in ap (λ (k : ReadKind). Err k) same

else_own : (opens : List Bool) (text : List ℕ) (i : Instr) (k : ReadKind) → instruction.spells text i → nested opens i ≡ Err k → Own k text
else_own opens text i k s e =
    let n = nest_err opens i k (step_err i (nest opens i) k e) in
    let out : Own Kind text = inr (subst (λ (i : Instr). instruction.spells text i) n.0 s) in
    subst (λ (k : ReadKind). Own k text) (sym n.1) out

nested_settles : (opens : List Bool) → Settles false (means instruction (nested opens)).reads
nested_settles opens = means_settles false instruction instruction_agrees (nested opens) instruction_settles (λ text i k s e. else_own opens text i k s e)

nowhere_settles : {A : Type 0} → Settles false (nowhere {A = A}).reads
unfolding nowhere
nowhere_settles {A} at e short h = out_fixed false (nowhere {A = A}).reads at e short h (err_is {X = A × At} (record { place = at.place + length at.rest; kind = at.short }) e h)

goes_on_settles : (next : List Bool → Form (List Instr)) → ((opens : List Bool) → Settles false (next opens).reads) → (i : Instr) (left : Option (List Bool)) → Settles false (goes_on next i left).reads
goes_on_settles next h i None = give_settles {A = List Instr} false (i ∷ [])
goes_on_settles next h i (Some opens) = map_settles false (next opens) (λ code. i ∷ code) (h opens)

closing_settles : (n : ℕ) (opens : List Bool) → Settles false (closing n opens).reads
unfolding closing
closing_settles zero opens = nowhere_settles {A = List Instr}
closing_settles (suc n) opens = then_settles false (means instruction (nested opens)) (means_agrees instruction_agrees (nested opens)) (λ step. goes_on (closing n) step.0 step.1) (nested_settles opens) (λ step. goes_on_settles (closing n) (closing_settles n) step.0 step.1)

code_settles : Settles false code.reads
unfolding code
code_settles at e short h =
    fixed_as false (closing (length at.rest) []).reads code.reads at e (λ there fits j. ap (λ (n : ℕ). (closing n []).reads there) fits ∙ j) (closing_settles (length at.rest) [] at e short h)

abbrev tame_code : Tame false (List Instr)
tame_code = known code code_agrees code_settles

-- ---- what the sections hold

abbrev tame_import : Tame false Import
tame_import = do
  m ← tame_name
  n ← tame_name
  _ ← only_byte 0 Kind kind_byte
  t ← tame_u32
  given (record { «module» = m; name = n; ftype = t })

import_agrees : Agrees import_
unfolding import_
import_agrees = tame_import.agrees

import_settles : Settles false import_.reads
unfolding import_
import_settles = tame_import.settles

element_faults : (b : ℕ) → Faults (b ∷ []) (elem_type_of b)
element_faults b =
    let t : List ℕ = b ∷ [] in
    either t (b == 112) (Ok b) _ (fine t b) (
    either t (b == 125 || b == 124) (Err Float) (Err LaterFeature) (faulty t Float (float_byte b)) (faulty t LaterFeature (later_byte b)))

abbrev tame_table : Tame false Limits
tame_table = do
  _ ← marked elem_type_of element_faults
  known (limits 65536) (limits_agrees 65536) (limits_settles 65536)

table_agrees : Agrees table
unfolding table
table_agrees = tame_table.agrees

table_settles : Settles false table.reads
unfolding table
table_settles = tame_table.settles

memory_agrees : Agrees memory
unfolding memory
memory_agrees = limits_agrees 1024

memory_settles : Settles false memory.reads
unfolding memory
memory_settles = limits_settles 1024

mutable_faults : (b : ℕ) → Faults (b ∷ []) (is_mutable b)
mutable_faults b =
    let t : List ℕ = b ∷ [] in
    either t (b == 0) (Ok false) _ (fine t false) (
    either t (b == 1) (Ok true) (Err Kind) (fine t true) (faulty t Kind (kind_byte b)))

abbrev tame_global : Tame false Global
tame_global = do
  t ← tame_val_type
  m ← marked is_mutable mutable_faults
  c ← tame_code
  given (record { vtype = t; mutable = m; init = c })

global_agrees : Agrees global
unfolding global
global_agrees = tame_global.agrees

global_settles : Settles false global.reads
unfolding global
global_settles = tame_global.settles

export_faults : (b : ℕ) → Faults (b ∷ []) (up_to 3 Kind b)
export_faults b = either (b ∷ []) (nat_le b 3) (Ok b) (Err Kind) (fine (b ∷ []) b) (faulty (b ∷ []) Kind (kind_byte b))

abbrev tame_export : Tame false Export
tame_export = do
  n ← tame_name
  k ← marked (up_to 3 Kind) export_faults
  i ← tame_u32
  given (record { name = n; kind = k; index = i })

export_agrees : Agrees export
unfolding export
export_agrees = tame_export.agrees

export_settles : Settles false export.reads
unfolding export
export_settles = tame_export.settles

abbrev tame_element : Tame false Element
tame_element = do
  _ ← only_number 0 LaterFeature later_own
  c ← tame_code
  fs ← listed tame_u32
  given (record { offset = c; funcs = fs })

element_agrees : Agrees element
unfolding element
element_agrees = tame_element.agrees

element_settles : Settles false element.reads
unfolding element
element_settles = tame_element.settles

abbrev tame_segment : Tame false Segment
tame_segment = do
  _ ← only_number 0 LaterFeature later_own
  c ← tame_code
  n ← tame_u32
  bs ← known (bytes n) (bytes_agrees n) (bytes_settles false n)
  given (record { offset = c; bytes = bs })

segment_agrees : Agrees segment
unfolding segment
segment_agrees = tame_segment.agrees

segment_settles : Settles false segment.reads
unfolding segment
segment_settles = tame_segment.settles

abbrev tame_run : List ValType → Tame false (List ValType)
tame_run before = do
  n ← up_to_number (10000 - length before) Limit limit_own
  t ← tame_val_type
  given (before ++ replicate n t)

run_agrees : (before : List ValType) → Agrees (run before)
unfolding run
run_agrees before = (tame_run before).agrees

run_settles : (before : List ValType) → Settles false (run before).reads
unfolding run
run_settles before = (tame_run before).settles

runs_agrees : (k : ℕ) (before : List ValType) → Agrees (runs k before)
unfolding runs
runs_agrees zero before = give_agrees before
runs_agrees (suc k) before = then_agrees (run_agrees before) (λ locals. runs_agrees k locals)

runs_settles : (k : ℕ) (before : List ValType) → Settles false (runs k before).reads
unfolding runs
runs_settles zero before = give_settles false before
runs_settles (suc k) before = then_settles false (run before) (run_agrees before) (λ locals. runs k locals) (run_settles before) (λ locals. runs_settles k locals)

abbrev tame_body : ℕ → Tame false Func
tame_body t = do
  k ← tame_u32
  ls ← known (runs k []) (runs_agrees k []) (runs_settles k [])
  c ← tame_code
  given (record { ftype = t; locals = ls; code = c })

body_agrees : (t : ℕ) → Agrees (body t)
unfolding body
body_agrees t = (tame_body t).agrees

body_settles : (t : ℕ) → Settles false (body t).reads
unfolding body
body_settles t = (tame_body t).settles

abbrev tame_func : ℕ → Tame false Func
tame_func t = do
  n ← tame_u32
  known (clipped n (body t)) (clipped_agrees n (body_agrees t)) (clipped_settles n (body t) (body_agrees t) (body_settles t))

func_agrees : (t : ℕ) → Agrees (func t)
unfolding func
func_agrees t = (tame_func t).agrees

func_settles : (t : ℕ) → Settles false (func t).reads
unfolding func
func_settles t = (tame_func t).settles

-- ---- sections

abbrev tame_types : Sections → Tame false Sections
tame_types s = do
  xs ← listed (known func_type func_type_agrees func_type_settles)
  given (record s { last = 1; parts = record s.parts { types = xs } })

abbrev tame_imports : Sections → Tame false Sections
tame_imports s = do
  xs ← listed (known import_ import_agrees import_settles)
  given (record s { last = 2; parts = record s.parts { imports = xs } })

abbrev tame_functions : Sections → Tame false Sections
tame_functions s = do
  xs ← listed tame_u32
  given (record s { last = 3; declared = xs })

abbrev tame_tables : Sections → Tame false Sections
tame_tables s = do
  n ← up_to_number 1 LaterFeature later_own
  x ← one_at_most (known table table_agrees table_settles) n
  given (record s { last = 4; parts = record s.parts { table = x } })

abbrev tame_memories : Sections → Tame false Sections
tame_memories s = do
  n ← up_to_number 1 LaterFeature later_own
  x ← one_at_most (known memory memory_agrees memory_settles) n
  given (record s { last = 5; parts = record s.parts { memory = x } })

abbrev tame_globals : Sections → Tame false Sections
tame_globals s = do
  xs ← listed (known global global_agrees global_settles)
  given (record s { last = 6; parts = record s.parts { globals = xs } })

abbrev tame_exports : Sections → Tame false Sections
tame_exports s = do
  xs ← listed (known export export_agrees export_settles)
  given (record s { last = 7; parts = record s.parts { exports = xs } })

abbrev tame_start : Sections → Tame false Sections
tame_start s = do
  x ← tame_u32
  given (record s { last = 8; parts = record s.parts { start = Some x } })

abbrev tame_elements : Sections → Tame false Sections
tame_elements s = do
  xs ← listed (known element element_agrees element_settles)
  given (record s { last = 9; parts = record s.parts { elements = xs } })

abbrev tame_bodies : Sections → Tame false Sections
tame_bodies s = do
  _ ← only_number (length s.declared) Count count_own
  xs ← known (each_of func s.declared) (each_agrees func_agrees s.declared) (each_settles func func_agrees func_settles s.declared)
  given (record s { last = 10; parts = record s.parts { funcs = xs } })

abbrev tame_data : Sections → Tame false Sections
tame_data s = do
  xs ← listed (known segment segment_agrees segment_settles)
  given (record s { last = 11; parts = record s.parts { segments = xs } })

contents_agrees : (h : Holding) (s : Sections) → Agrees (contents h s)
contents_agrees Types s = (tame_types s).agrees
contents_agrees Imports s = (tame_imports s).agrees
contents_agrees Functions s = (tame_functions s).agrees
contents_agrees Tables s = (tame_tables s).agrees
contents_agrees Memories s = (tame_memories s).agrees
contents_agrees Globals s = (tame_globals s).agrees
contents_agrees Exports s = (tame_exports s).agrees
contents_agrees Start s = (tame_start s).agrees
contents_agrees Elements s = (tame_elements s).agrees
contents_agrees Bodies s = (tame_bodies s).agrees
contents_agrees Data s = (tame_data s).agrees

contents_settles : (h : Holding) (s : Sections) → Settles false (contents h s).reads
contents_settles Types s = (tame_types s).settles
contents_settles Imports s = (tame_imports s).settles
contents_settles Functions s = (tame_functions s).settles
contents_settles Tables s = (tame_tables s).settles
contents_settles Memories s = (tame_memories s).settles
contents_settles Globals s = (tame_globals s).settles
contents_settles Exports s = (tame_exports s).settles
contents_settles Start s = (tame_start s).settles
contents_settles Elements s = (tame_elements s).settles
contents_settles Bodies s = (tame_bodies s).settles
contents_settles Data s = (tame_data s).settles

id_faults : (last b : ℕ) → Faults (b ∷ []) (next_id last b)
id_faults last b =
    let t : List ℕ = b ∷ [] in
    either t (nat_lt 13 b) (Err Kind) _ (faulty t Kind (kind_byte b)) (
    either t (nat_lt 11 b) (Err LaterFeature) _ (faulty t LaterFeature (later_byte b)) (
    either t (b == 0) (Ok 0) _ (fine t 0) (
    either t (nat_le b last) (Err Order) (Ok b) (faulty t Order (b, refl)) (fine t b))))

abbrev tame_custom : (n : ℕ) (s : Sections) → Tame true Sections
tame_custom n s = do
  _ ← known (headed n name) (headed_agrees n name_agrees) (headed_settles true n name name_settles)
  given s

abbrev tame_sized : (id n : ℕ) (s : Sections) → Tame true Sections
tame_sized id n s =
    let kf = contents_agrees (holding id) s in
    known (sized n (contents (holding id) s)) (sized_agrees n kf) (sized_settles true n (contents (holding id) s) kf (contents_settles (holding id) s))

abbrev either_form : {g : Bool} {A : Type 0} → Bool → Tame g A → Tame g A → Tame g A
either_form {g} b t u = known (choose b t.form u.form) (choose_agrees b t.agrees u.agrees) (choose_settles g b t.form u.form t.settles u.settles)

abbrev tame_section : Sections → Tame true Sections
tame_section s = do
  id ← marked (next_id s.last) (id_faults s.last)
  n ← tame_u32
  either_form (id == 0) (tame_custom n s) (tame_sized id n s)

-- more bytes may follow a section
pub section_settles : (s : Sections) → Settles true (section s).reads
unfolding section
section_settles s = (tame_section s).settles

abbrev tame_magic : ℕ → Tame true ℕ
tame_magic b = only_byte b Magic (λ b. (b, refl))

abbrev tame_preamble : Tame true ℕ
tame_preamble = do
  _ ← tame_magic 0
  _ ← tame_magic 97
  _ ← tame_magic 115
  _ ← tame_magic 109
  _ ← tame_magic 1
  _ ← tame_magic 0
  _ ← tame_magic 0
  _ ← tame_magic 0
  given 0

pub preamble_settles : Settles true preamble.reads
unfolding preamble
preamble_settles = tame_preamble.settles
