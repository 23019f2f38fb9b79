-- The program and the new configuration of a module with types are typed.
use Rattle.std.proofs.Common.{◌≡◌, ℕ, zero, suc, ◌*◌, ◌/◌, ◌≤◌, List, [], ◌∷◌, ◌++◌, length, map, replicate, Option, Some, None, refl, sym, ap, ◌∙◌, subst, arith, lit<, inl, inr, ⊎_elim}
use Rattle.std.specs.Prelude.{slice_get, unwrap_or, ◌⊎◌, All, IfSome}
use Rattle.std.proofs.Math.Nat.{mul-div_cancel}
use Rattle.mv_syntax.specs.declared.types.FuncType.{FuncType}
use Rattle.mv_syntax.specs.declared.types.Limits.{Limits}
use Rattle.mv_syntax.specs.declared.module.Import.{Import}
use Rattle.mv_syntax.specs.declared.module.Func.{Func}
use Rattle.mv_syntax.specs.declared.module.Global.{Global}
use Rattle.mv_syntax.specs.Sections.{Parts}
use Rattle.mv_validator.specs.Typing.{func_type}
use Rattle.mv_memory.specs.Bytes.{IsByte, page_limit, zeros}
use Rattle.mv_memory.specs.Memory.{page_count}
use Rattle.mv_memory.proofs.BytesLemmas.{bytes-zeros, length-zeros}
use Rattle.mv_execution.specs.Config.{Function}
use Rattle.mv_execution.specs.Instance.{type_at, imported, defined, program_of, constant_of, memory_of, table_of, new_config}
use Rattle.mv_execution.specs.Fits.{IsOf, AreOf, FitsBody, FitsProgram, FitsConfig, module_context, IsTypedFunction, IsTypedGlobal, IsTypedModule}
use Rattle.mv_execution.proofs.Operands.{then-some}
use Rattle.mv_execution.proofs.Starts.{typed-body}

-- the function with an index of the module, imported or defined
record Found (types : List FuncType) (imports : List Import) (funcs : List Func) (x i : ℕ) : Type 0 where
  function : Function
  there : slice_get (map (imported types) imports ++ map (defined types) funcs) x ≡ Some function
  ftype : function.ftype ≡ type_at types i
  body : (function.body ≡ None) ⊎ ((n : ℕ) × (f : Func) × (slice_get funcs n ≡ Some f) × (function ≡ defined types f) × (f.ftype ≡ i))

found : (types : List FuncType) (imports : List Import) (funcs : List Func) (x i : ℕ) → slice_get (map (λ (m : Import). m.ftype) imports ++ map (λ (f : Func). f.ftype) funcs) x ≡ Some i → Found types imports funcs x i
found types [] funcs x i e = by funcs x e (λ n f k. k)
  where
    by : (fs : List Func) (n : ℕ) → slice_get (map (λ (f : Func). f.ftype) fs) n ≡ Some i → ((k : ℕ) (f : Func) → slice_get fs k ≡ Some f → slice_get fs k ≡ Some f) → Found types [] fs n i
    by [] n e up = absurd (cc)
    by (f ∷ fs) zero e up = let same : f.ftype ≡ i = cc in record { function = defined types f; there = refl; ftype = ap (type_at types) same; body = inr (0, f, refl, refl, same) }
    by (f ∷ fs) (suc n) e up =
        let k = by fs n e (λ k f z. z) in
        record { function = k.function; there = k.there; ftype = k.ftype; body = ⊎_elim (λ none. inl none) (λ some. inr (suc some.0, some.1, some.2, some.3, some.4)) k.body }
found types (m ∷ imports) funcs zero i e = let same : m.ftype ≡ i = cc in record { function = imported types m; there = refl; ftype = ap (type_at types) same; body = inl refl }
found types (m ∷ imports) funcs (suc x) i e =
    let k = found types imports funcs x i e in
    record { function = k.function; there = k.there; ftype = k.ftype; body = k.body }

pub typed-program : (p : Parts) → IsTypedModule p → FitsProgram (module_context p) (program_of p)
typed-program p h = record { types = refl; each = each }
  where
    body-fits : (t : FuncType) (f : Func) → type_at p.types f.ftype ≡ t → IsTypedFunction p f → FitsBody (module_context p) t (defined p.types f).body
    body-fits t f e k =
        let same : k.ftype ≡ t = sym (ap (λ o. unwrap_or o (let z : FuncType = record { params = []; result = None } in z)) k.declared_as) ∙ e in
        subst (λ z. FitsBody (module_context p) z (defined p.types f).body) same (typed-body (module_context p) k.ftype f.locals f.code k.typed k.sound)

    each : (x : ℕ) (t : FuncType) → func_type (module_context p) x ≡ Some t → (function : Function) × (slice_get (program_of p).functions x ≡ Some function) × (function.ftype ≡ t) × FitsBody (module_context p) t function.body
    each x t e =
        let i = then-some (slice_get p.types) (slice_get (module_context p).funcs x) t e in
        let k = found p.types p.imports p.funcs x i.0 i.1 in
        let same : type_at p.types i.0 ≡ t = ap (λ o. unwrap_or o (let z : FuncType = record { params = []; result = None } in z)) i.2 in
        (k.function, k.there, k.ftype ∙ same, ⊎_elim (λ none. subst (FitsBody (module_context p) t) (sym none) tt) (λ some. subst (λ (z : Function). FitsBody (module_context p) t z.body) (sym some.3) (body-fits t some.1 (ap (type_at p.types) some.4 ∙ same) (h.funcs some.0 some.1 some.2))) k.body)

empty-entries : {A : Type 0} (n i : ℕ) (x : A) → slice_get (replicate n None) i ≡ Some (Some x) → ⊥
empty-entries zero i x e = absurd (cc)
empty-entries (suc n) zero x e = absurd (cc)
empty-entries (suc n) (suc i) x e = empty-entries n i x e

globals-are : (gs : List Global) → ((n : ℕ) (g : Global) → slice_get gs n ≡ Some g → IsTypedGlobal g) → AreOf (map (λ (g : Global). g.vtype) gs) (map (λ (g : Global). constant_of g.init) gs)
globals-are [] h = tt
globals-are (g ∷ gs) h =
    let k = h 0 g refl in
    (subst (λ code. IsOf g.vtype (constant_of code)) (sym k.constant) k.sound, globals-are gs (λ n x e. h (suc n) x e))

memory-bytes : (o : Option Limits) → All IsByte (memory_of o).bytes
memory-bytes None = bytes-zeros (0 * 65536)
memory-bytes (Some l) = bytes-zeros (l.min * 65536)

zeros-pages : (n : ℕ) → length (zeros (n * 65536)) / 65536 ≡ n
zeros-pages n = rw (length-zeros) (mul-div_cancel n {n = 65536} (lit< tt))

memory-pages : (o : Option Limits) → IfSome o (λ l. l.min ≤ page_limit) → page_count (memory_of o) ≤ page_limit
memory-pages None h = subst (λ n. n ≤ page_limit) (sym (zeros-pages 0)) (omega arith)
memory-pages (Some l) h = subst (λ n. n ≤ page_limit) (sym (zeros-pages l.min)) h

table-empty : (o : Option Limits) (i x : ℕ) → slice_get (table_of o) i ≡ Some (Some x) → ⊥
table-empty None i x e = absurd (cc)
table-empty (Some l) i x e = empty-entries l.min i x e

pub new-fits : (p : Parts) → IsTypedModule p → FitsConfig (module_context p) [] (new_config p)
new-fits p h = record {
  store = record { bytes = memory-bytes p.memory; pages = memory-pages p.memory h.memory; globals = globals-are p.globals h.globals; table = λ i x e. absurd (table-empty p.table i x e) };
  calls = ([], tt, refl);
}
