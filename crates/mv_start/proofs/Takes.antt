-- What a new machine takes whose segments are in bounds, and what it still takes while they are written.
use Rattle.std.proofs.Common.{true, false, cond, Bool, ◌≡◌, ℕ, ◌+◌, ◌^◌, ◌<◌, ◌≤◌, List, [], ◌∷◌, length, map, Option, Some, None, refl, sym, ap, ◌∙◌, subst, arith, length-append, length-set}
use Rattle.std.specs.Prelude.{IfSome, nat_le, slice_get}
use Rattle.std.proofs.lemmas.Bool.{leb-true}
use Rattle.std.proofs.lemmas.List.{length-map, length-replicate}
use Rattle.std.proofs.lemmas.Option.{slice_get_within}
use Rattle.mv_syntax.specs.declared.fault.StartFault.TheVariants.{ElementBounds, DataBounds}
use Rattle.mv_syntax.specs.declared.types.Limits.{Limits}
use Rattle.mv_syntax.specs.declared.module.Import.{Import}
use Rattle.mv_syntax.specs.declared.module.Func.{Func}
use Rattle.mv_syntax.specs.declared.module.Element.{Element}
use Rattle.mv_syntax.specs.declared.module.Segment.{Segment}
use Rattle.mv_syntax.specs.Sections.{Parts}
use Rattle.mv_validator.specs.Valid.{AreLimits, IsValid, type_indices}
use Rattle.mv_memory.specs.Memory.{Contents}
use Rattle.mv_execution.specs.Config.{Config}
use Rattle.mv_execution.specs.Instance.{constant_of, table_of, new_config, with_element}
use Rattle.mv_machine.specs.Calls.{HasFunction}
use Rattle.mv_machine.specs.Executions.{Execution}
use Rattle.mv_start.specs.Instances.{first_fault, element_fault, data_fault, bounds_fault, with_functions, with_elements}
use Rattle.mv_start.specs.Writings.{AreSegmentsWithin, AreElementsWithin, TakesElements, IsEntry, HasCount, HasEntry, IsEntered, IsFilled}
use Rattle.mv_start.proofs.Scans.{none-first, none-faulty}

-- ---- elements change neither the table's size nor the memory

functions-table : (at : ℕ) (xs : List ℕ) (c : Config) → length (with_functions at xs c).store.table ≡ length c.store.table
functions-table at [] c = refl
functions-table at (x ∷ xs) c = functions-table (at + 1) xs (with_element at x c) ∙ length-set c.store.table at (Some x)

functions-memory : (at : ℕ) (xs : List ℕ) (c : Config) → (with_functions at xs c).store.memory ≡ c.store.memory
functions-memory at [] c = refl
functions-memory at (x ∷ xs) c = functions-memory (at + 1) xs (with_element at x c)

elements-memory : (es : List Element) (c : Config) → (with_elements es c).store.memory ≡ c.store.memory
elements-memory [] c = refl
elements-memory (e ∷ es) c = elements-memory es (with_functions (constant_of e.offset) e.funcs c) ∙ functions-memory (constant_of e.offset) e.funcs c

-- ---- bounds without a fault

element-within : (size n : ℕ) (e : Element) → element_fault size n e ≡ None → constant_of e.offset + length e.funcs ≤ size
element-within size n e h = by (nat_le (constant_of e.offset + length e.funcs) size) refl h
  where
    by : (b : Bool) → nat_le (constant_of e.offset + length e.funcs) size ≡ b → cond b None (Some (ElementBounds n)) ≡ None → constant_of e.offset + length e.funcs ≤ size
    by true q k = leb-true (constant_of e.offset + length e.funcs) size q
    by false q k = absurd (let bad : Some (ElementBounds n) ≡ None = k in cc)

segment-within : (size n : ℕ) (s : Segment) → data_fault size n s ≡ None → constant_of s.offset + length s.bytes ≤ size
segment-within size n s h = by (nat_le (constant_of s.offset + length s.bytes) size) refl h
  where
    by : (b : Bool) → nat_le (constant_of s.offset + length s.bytes) size ≡ b → cond b None (Some (DataBounds n)) ≡ None → constant_of s.offset + length s.bytes ≤ size
    by true q k = leb-true (constant_of s.offset + length s.bytes) size q
    by false q k = absurd (let bad : Some (DataBounds n) ≡ None = k in cc)

all-within : (p : Parts) → bounds_fault p ≡ None → AreElementsWithin p.elements (length (new_config p).store.table) × AreSegmentsWithin p.segments (length (new_config p).store.memory.bytes)
all-within p none =
    let entries : ℕ = length (new_config p).store.table in
    let size : ℕ = length (new_config p).store.memory.bytes in
    let free = none-first (first_fault (element_fault entries) 0 p.elements) (first_fault (data_fault size) 0 p.segments) none in (
      λ n e there. (let k = none-faulty (element_fault entries) 0 n p.elements e free.0 there in element-within entries k.0 e k.1),
      λ n s there. (let k = none-faulty (data_fault size) 0 n p.segments s free.1 there in segment-within size k.0 s k.1),
    )

-- ---- a new machine

table-short : (o : Option Limits) → IfSome o (AreLimits (2 ^ 32)) → length (table_of o) ≤ 2 ^ 32
table-short None h = omega arith
table-short (Some l) h = let k : l.min ≤ 2 ^ 32 = h.least in omega (arith, k, length-replicate {A = Option ℕ} l.min None)

function-there : (p : Parts) (x : ℕ) → x < length (type_indices p) → HasFunction p x
function-there p x h =
    let imports : length (map (λ (i : Import). i.ftype) p.imports) ≡ length p.imports = length-map p.imports (λ (i : Import). i.ftype) in
    let funcs : length (map (λ (f : Func). f.ftype) p.funcs) ≡ length p.funcs = length-map p.funcs (λ (f : Func). f.ftype) in
    omega (arith, h, length-append (map (λ (i : Import). i.ftype) p.imports) (map (λ (f : Func). f.ftype) p.funcs), imports, funcs)

pub new-takes : (m : Execution) → IsValid m.parts → m.config ≡ new_config m.parts → bounds_fault m.parts ≡ None → TakesElements m
new-takes m v new none =
    let size : length m.config.store.table ≡ length (new_config m.parts).store.table = ap (λ (c : Config). length c.store.table) new in
    record {
      within = subst (AreElementsWithin m.parts.elements) (sym size) (all-within m.parts none).0;
      short = subst (λ n. n ≤ 2 ^ 32) (sym size) (table-short m.parts.table v.table);
      functions = λ n e there k x is. function-there m.parts x ((v.elements n e there).funcs k x is);
    }

pub segments-still : (p q : Parts) (n m : ℕ) → q ≡ p → m ≡ n → AreSegmentsWithin p.segments n → AreSegmentsWithin q.segments m
segments-still p q n m parts size h =
    subst (λ (z : Parts). AreSegmentsWithin z.segments m) (sym parts) (subst (AreSegmentsWithin p.segments) (sym size) h)

-- behind its elements the machine's memory still has room for its segments
pub takes-segments : (p q : Parts) (old new : Config) → old ≡ new_config p → q ≡ p → new ≡ with_elements p.elements old → bounds_fault p ≡ None → AreSegmentsWithin q.segments (length new.store.memory.bytes)
takes-segments p q old new fresh parts filled none =
    let first : length old.store.memory.bytes ≡ length (new_config p).store.memory.bytes = ap (λ (c : Config). length c.store.memory.bytes) fresh in
    let then : length new.store.memory.bytes ≡ length (with_elements p.elements old).store.memory.bytes = ap (λ (c : Config). length c.store.memory.bytes) filled in
    let size : length new.store.memory.bytes ≡ length (new_config p).store.memory.bytes = then ∙ ap (λ (m : Contents). length m.bytes) (elements-memory p.elements old) ∙ first in
    segments-still p q (length (new_config p).store.memory.bytes) (length new.store.memory.bytes) parts size (all-within p none).1

-- ---- while elements are written

takes-still : (old new : Execution) → new.parts ≡ old.parts → length new.config.store.table ≡ length old.config.store.table → TakesElements old → TakesElements new
takes-still old new parts size h = record {
  within = λ n e there. omega (arith, size, h.within n e (subst (λ (p : Parts). slice_get p.elements n ≡ Some e) parts there));
  short = omega (arith, size, h.short);
  functions = λ n e there k x is. subst (λ (p : Parts). HasFunction p x) (sym parts) (h.functions n e (subst (λ (p : Parts). slice_get p.elements n ≡ Some e) parts there) k x is);
}

pub entered-takes : (old new : Execution) (number index : ℕ) → new.parts ≡ old.parts → IsEntered old number index new → TakesElements old → TakesElements new
entered-takes old new number index parts w h =
    takes-still old new parts (ap (λ (c : Config). length c.store.table) w.2.2 ∙ length-set old.config.store.table (constant_of w.0.offset + index) (Some w.2.0)) h

pub filled-takes : (old new : Execution) (number : ℕ) → new.parts ≡ old.parts → IsFilled old number new → TakesElements old → TakesElements new
filled-takes old new number parts w h =
    takes-still old new parts (ap (λ (c : Config). length c.store.table) w.2 ∙ functions-table (constant_of w.0.offset) w.0.funcs old.config) h

pub has-entry : (m n : Execution) (number count index : ℕ) → n.parts ≡ m.parts → HasCount m number count → index < count → HasEntry n number index
has-entry m n number count index parts h lt = (h.0, subst (λ (p : Parts). slice_get p.elements number ≡ Some h.0) (sym parts) h.1, omega (arith, lt, h.2))

-- an entry that the table has, for a function that is there
pub record IsPut (m : Execution) (place index func : ℕ) : Type 0 where
  pub within : place + index < length m.config.store.table
  pub there : HasFunction m.parts func

pub entry-put : (m : Execution) (number index place func : ℕ) → TakesElements m → IsEntry m number index place func → IsPut m place index func
entry-put m number index place func h e = record {
  within = omega (arith, h.within number e.0 e.1, e.2, slice_get_within e.0.funcs index func e.3);
  there = h.functions number e.0 e.1 index func e.3;
}
