-- The types of functions: which are the same, and where a function's type stands in its module.
use Rattle.std.proofs.Common.{true, false, Bool, ◌≡◌, ℕ, zero, suc, ◌+◌, ◌-◌, ◌<◌, ◌≤◌, List, [], ◌∷◌, ◌++◌, length, get_or, Some, None, refl, sym, ap, ◌∙◌, arith}
use Rattle.std.specs.Prelude.{map, slice_get, unwrap_or, ◌&&◌}
use Rattle.std.specs.Option.{option_map}
use Rattle.std.proofs.lemmas.List.{length-map}
use Rattle.std.proofs.lemmas.Option.{slice_get-map, slice_get_within, slice_get_read}
use Rattle.mv_syntax.specs.declared.ops.ValType.{ValType}
use Rattle.mv_syntax.specs.declared.types.FuncType.{FuncType}
use Rattle.mv_syntax.specs.declared.module.Import.{Import}
use Rattle.mv_syntax.specs.declared.module.Func.{Func}
use Rattle.mv_syntax.specs.Sections.{Parts}
use Rattle.mv_validator.specs.Valid.{IsValid}
use Rattle.mv_execution.specs.Config.{Function}
use Rattle.mv_execution.specs.Instance.{type_at, imported, defined, program_of}
use Rattle.mv_syntax.specs.Types.{same_type, same_types}

and-false : (b : Bool) → (b && false) ≡ false
and-false true = refl
and-false false = refl

-- lists of two lengths aren't the same
pub types-differ : (xs ys : List ValType) → (length xs ≡ length ys → ⊥) → false ≡ same_types xs ys
types-differ [] [] h = absurd (h refl)
types-differ [] (y ∷ ys) h = refl
types-differ (x ∷ xs) [] h = refl
types-differ (x ∷ xs) (y ∷ ys) h = sym (ap (λ b. same_type x y && b) (sym (types-differ xs ys (λ e. h (omega (arith, e))))) ∙ and-false (same_type x y))

-- ---- the functions of a module

pub get-left : {A : Type 0} (xs ys : List A) (n : ℕ) → n < length xs → slice_get (xs ++ ys) n ≡ slice_get xs n
get-left [] ys n lt = absurd (omega arith)
get-left (x ∷ xs) ys zero lt = refl
get-left (x ∷ xs) ys (suc n) lt = get-left xs ys n (omega arith)

pub get-right : {A : Type 0} (xs ys : List A) (n : ℕ) → length xs ≤ n → slice_get (xs ++ ys) n ≡ slice_get ys (n - length xs)
get-right [] ys n le = ap (slice_get ys) (omega arith)
get-right (x ∷ xs) ys zero le = absurd (omega arith)
get-right (x ∷ xs) ys (suc n) le = get-right xs ys n (omega arith) ∙ ap (slice_get ys) (omega arith)

-- an imported function
pub import-at : (p : Parts) (x : ℕ) (m : Import) → x < length p.imports → m ≡ get_or p.imports x m → slice_get (program_of p).functions x ≡ Some (imported p.types m)
import-at p x m lt is =
    get-left (map (imported p.types) p.imports) (map (defined p.types) p.funcs) x (omega (arith, length-map p.imports (imported p.types), lt)) ∙ slice_get-map (imported p.types) p.imports x ∙ ap (option_map (imported p.types)) (slice_get_read p.imports (length p.imports) x m refl lt is)

-- a function of the module's own
pub func-at : (p : Parts) (x : ℕ) (f : Func) → length p.imports ≤ x → x < length p.imports + length p.funcs → f ≡ get_or p.funcs (x - length p.imports) f → slice_get (program_of p).functions x ≡ Some (defined p.types f)
func-at p x f le lt is =
    let n = length-map p.imports (imported p.types) in
    get-right (map (imported p.types) p.imports) (map (defined p.types) p.funcs) x (omega (arith, n, le)) ∙ ap (λ k. slice_get (map (defined p.types) p.funcs) (x - k)) n ∙ slice_get-map (defined p.types) p.funcs (x - length p.imports) ∙ ap (option_map (defined p.types)) (slice_get_read p.funcs (length p.funcs) (x - length p.imports) f refl (omega arith) is)

-- the function with this index has the type with that one
pub record IsTypeOf (p : Parts) (x i : ℕ) : Type 0 where
  pub within : i < length p.types
  pub ftype : (function : Function) → slice_get (program_of p).functions x ≡ Some function → function.ftype ≡ type_at p.types i

type-of : (p : Parts) (x i : ℕ) (g : Function) → slice_get (program_of p).functions x ≡ Some g → g.ftype ≡ type_at p.types i → i < length p.types → IsTypeOf p x i
type-of p x i g e t lt = record { within = lt; ftype = λ function is. (let same : g ≡ function = by (sym e ∙ is) in ap (λ (k : Function). k.ftype) (sym same) ∙ t) }
  where
    by : {a b : Function} → Some a ≡ Some b → a ≡ b
    by q = cc

pub import-type : (p : Parts) (x : ℕ) (m : Import) → IsValid p → x < length p.imports → m ≡ get_or p.imports x m → IsTypeOf p x m.ftype
import-type p x m v lt is =
    type-of p x m.ftype (imported p.types m) (import-at p x m lt is) refl (v.imports x m (slice_get_read p.imports (length p.imports) x m refl lt is))

pub func-type : (p : Parts) (x : ℕ) (f : Func) → IsValid p → length p.imports ≤ x → x < length p.imports + length p.funcs → f ≡ get_or p.funcs (x - length p.imports) f → IsTypeOf p x f.ftype
func-type p x f v le lt is =
    let typed = v.funcs (x - length p.imports) f (slice_get_read p.funcs (length p.funcs) (x - length p.imports) f refl (omega arith) is) in
    type-of p x f.ftype (defined p.types f) (func-at p x f le lt is) refl (slice_get_within p.types f.ftype typed.ftype typed.declared_as)

-- what is read at the type's index
pub type-read : (p : Parts) (x i : ℕ) (t : FuncType) → IsTypeOf p x i → t ≡ get_or p.types i t → (function : Function) → slice_get (program_of p).functions x ≡ Some function → t ≡ function.ftype
type-read p x i t h is function e =
    sym (h.ftype function e ∙ ap (λ o. unwrap_or o (let z : FuncType = record { params = []; result = None } in z)) (slice_get_read p.types (length p.types) i t refl h.within is))
