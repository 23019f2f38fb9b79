-- A module is valid exactly where all its checks pass.
use Rattle.std.proofs.Common.{◌^◌, true, false, cond, Bool, ◌≡◌, ℕ, zero, suc, ◌+◌, ◌<◌, ◌≤◌, List, [], ◌∷◌, ◌++◌, length, take, ltb, leb, eqb, Option, Some, None, refl, sym, ap, subst, ◌∙◌, inl, inr, ⊎_elim, arith, eq-eqb}
use Rattle.std.specs.Prelude.{◌&&◌, ◌||◌, slice_get, IfSome, IsSome, is_some, is_none}
use Rattle.std.specs.List.{AllByRecursion}
use Rattle.std.specs.Str.{bytes_eq}
use Rattle.std.proofs.lemmas.Bool.{ltb-true, lt-ltb, leb-true, le-leb, eqb-true}
use Rattle.std.proofs.lemmas.List.{nil_from_length}
use Rattle.std.proofs.lemmas.Option.{slice_get_within, slice_get_cases}
use Rattle.std.proofs.lemmas.Bool.Decides.{Decides-eqb}
use Rattle.std.proofs.lemmas.Slice.Eq.{slice_eq-Decides}
use Rattle.mv_syntax.specs.declared.ops.ValType.{ValType}
use Rattle.mv_syntax.specs.declared.ops.ValType.TheVariants.{I32}
use Rattle.mv_syntax.specs.declared.fault.ValidFault.{ValidFault}
use Rattle.mv_syntax.specs.declared.fault.ValidKind.{ValidKind}
use Rattle.mv_syntax.specs.declared.fault.ValidKind.TheVariants.{ExportName}
use Rattle.mv_syntax.specs.declared.types.FuncType.{FuncType}
use Rattle.mv_syntax.specs.declared.types.Limits.{Limits}
use Rattle.mv_syntax.specs.declared.module.Export.{Export}
use Rattle.mv_syntax.specs.declared.module.Element.{Element}
use Rattle.mv_syntax.specs.declared.module.Segment.{Segment}
use Rattle.mv_syntax.specs.declared.instr.Instr.{Instr}
use Rattle.mv_syntax.specs.declared.instr.Instr.TheVariants as instr
use Rattle.mv_syntax.specs.Sections.{Parts}
use Rattle.mv_validator.specs.Typing.{Context, IsTyped}
use Rattle.mv_validator.specs.Faults.{lacking, unless, first_of, any_lacking, IsFirstFault}
use Rattle.mv_validator.specs.ControlFrames.{ControlFrame, frames_after}
use Rattle.mv_validator.specs.Valid.{type_indices, type_at, context_in, Each, AreLimits, IsConstant, exported_count, IsNewName, IsStart, IsElement, IsSegment, IsValid}
use Rattle.mv_validator.specs.Checks.{Check, TypeOfImport, TypeOfFunc, TableLimits, MemoryLimits, GlobalInit, ExportedAs, StartOf, ElementsOf, BodyOf, DataOf, is_constant, bounded, within, kind_of_export, has_name, starts, fault_of, Passes, Fails, Numbered, at_most_one, import_checks, function_checks, size_checks, global_checks, export_checks, start_checks, element_checks, body_checks, data_checks, declaration_checks, checks, AllPass, FirstFails}
use Rattle.mv_validator.proofs.Stacks.{same-is, same-refl}
use Rattle.mv_validator.proofs.Claims.{start_of}
use Rattle.mv_validator.proofs.Closing.{front-typed, fault-untyped}
use Rattle.mv_validator.proofs.Scans.{all-from, each-passes, all-append, all-parts}

-- ---- what each test says

there : {A : Type 0} (k : ValidKind) (xs : List A) (n : ℕ) → lacking k (slice_get xs n) ≡ None → n < length xs
there {A} k xs n h = by (slice_get xs n) refl h
  where
    by : (o : Option A) → slice_get xs n ≡ o → lacking k o ≡ None → n < length xs
    by None e h' = absurd (cc)
    by (Some x) e h' = slice_get_within xs n x e

not-lacking : {A : Type 0} (k : ValidKind) (xs : List A) (n : ℕ) → n < length xs → lacking k (slice_get xs n) ≡ None
not-lacking k xs n lt = ⊎_elim (λ a. ap (lacking k) a.2) (λ b. absurd (omega (arith, b.0))) (slice_get_cases xs n).1

unless-true : (k : ValidKind) (b : Bool) → unless k b ≡ None → b ≡ true
unless-true k true h = refl
unless-true k false h = absurd (cc)

two-none : (a b : Option ValidKind) → first_of a b ≡ None → (a ≡ None) × (b ≡ None)
two-none None b h = (refl, h)
two-none (Some k) b h = absurd (cc)

both-none : (a b : Option ValidKind) → a ≡ None → b ≡ None → first_of a b ≡ None
both-none a b e f = ap (λ x. first_of x b) e ∙ f

and-true : (a b : Bool) → (a && b) ≡ true → (a ≡ true) × (b ≡ true)
and-true true b h = (refl, h)
and-true false b h = absurd (cc)

and-both : (a b : Bool) → a ≡ true → b ≡ true → (a && b) ≡ true
and-both a b e f = ap (λ x. x && b) e ∙ f

-- limits
limits-from : (range : ℕ) (l : Limits) → within range l ≡ true → AreLimits range l
limits-from range l h = by l.max refl h
  where
    by : (o : Option ℕ) → l.max ≡ o → bounded range l.min o ≡ true → AreLimits range l
    by None e h' = record { least = leb-true _ _ h'; most = subst (λ o. IfSome o (λ m. (m ≤ range) × (l.min ≤ m))) (sym e) tt }
    by (Some m) e h' =
        let a = and-true (leb l.min range) (leb m range && leb l.min m) h' in
        let b = and-true (leb m range) (leb l.min m) a.1 in
        record { least = leb-true _ _ a.0; most = subst (λ o. IfSome o (λ m. (m ≤ range) × (l.min ≤ m))) (sym e) (leb-true _ _ b.0, leb-true _ _ b.1) }

limits-to : (range : ℕ) (l : Limits) → AreLimits range l → within range l ≡ true
limits-to range l a = by l.max a.most
  where
    by : (o : Option ℕ) → IfSome o (λ m. (m ≤ range) × (l.min ≤ m)) → bounded range l.min o ≡ true
    by None h = le-leb l.min range a.least
    by (Some m) h = and-both (leb l.min range) (leb m range && leb l.min m) (le-leb l.min range a.least) (and-both (leb m range) (leb l.min m) (le-leb m range h.0) (le-leb l.min m h.1))

-- constants
constant-from : (t : ValType) (code : List Instr) → is_constant t code ≡ true → IsConstant t code
constant-from t (instr.Const u v ∷ instr.End ∷ []) h = (v, ap (λ x. instr.Const x v ∷ instr.End ∷ []) (same-is u t h))
constant-from t code h = absurd (cc)

constant-to : (t : ValType) (code : List Instr) → IsConstant t code → is_constant t code ≡ true
constant-to t code c = ap (is_constant t) c.1 ∙ same-refl t

-- names
same-name : (xs ys : List ℕ) → bytes_eq xs ys ≡ true → xs ≡ ys
same-name xs ys h = (slice_eq-Decides Decides-eqb xs ys (bytes_eq xs ys) refl).0 h

name-same : (xs ys : List ℕ) → xs ≡ ys → bytes_eq xs ys ≡ true
name-same xs ys h = (slice_eq-Decides Decides-eqb xs ys (bytes_eq xs ys) refl).1 h

or-false : (a b : Bool) → (a || b) ≡ false → (a ≡ false) × (b ≡ false)
or-false false b h = (refl, h)
or-false true b h = absurd (cc)

abbrev Apart : List ℕ → List Export → ℕ → Type 0
Apart name xs n = (k : ℕ) (y : Export) → k < n → slice_get xs k ≡ Some y → y.name ≡ name → ⊥

new-from : (name : List ℕ) (xs : List Export) (n : ℕ) → has_name name (take n xs) ≡ false → Apart name xs n
new-from name [] n h k y lt e same = absurd (cc)
new-from name (z ∷ xs) zero h k y lt e same = absurd (omega arith)
new-from name (z ∷ xs) (suc n) h zero y lt e same =
    let one : z ≡ y = cc in
    let o = or-false (bytes_eq z.name name) (has_name name (take n xs)) h in
    let t = name-same z.name name (ap (λ (x : Export). x.name) one ∙ same) in
    let clash : false ≡ true = sym o.0 ∙ t in
    absurd (cc)
new-from name (z ∷ xs) (suc n) h (suc k) y lt e same =
    let o = or-false (bytes_eq z.name name) (has_name name (take n xs)) h in
    new-from name xs n o.1 k y (omega arith) e same

new-to : (name : List ℕ) (xs : List Export) (n : ℕ) → Apart name xs n → has_name name (take n xs) ≡ false
new-to name [] zero h = refl
new-to name [] (suc n) h = refl
new-to name (z ∷ xs) zero h = refl
new-to name (z ∷ xs) (suc n) h = by (bytes_eq z.name name) refl (new-to name xs n (λ k y lt e same. h (suc k) y (omega arith) e same))
  where
    by : (b : Bool) → bytes_eq z.name name ≡ b → has_name name (take n xs) ≡ false → (bytes_eq z.name name || has_name name (take n xs)) ≡ false
    by true e more = absurd (h 0 z (omega arith) refl (same-name z.name name e))
    by false e more = ap (λ x. x || has_name name (take n xs)) e ∙ more

named : (b : Bool) (k : ValidKind) → cond b (Some k) None ≡ None → b ≡ false
named false k h = refl
named true k h = absurd (cc)

export-from : (p : Parts) (n : ℕ) (x : Export) → fault_of p (ExportedAs n x) ≡ None → IsNewName p.exports n x × (x.index < exported_count p x.kind)
export-from p n x h =
    let a = two-none _ (unless (kind_of_export x.kind) (ltb x.index (exported_count p x.kind))) h in
    (new-from x.name p.exports n (named (has_name x.name (take n p.exports)) _ a.0), ltb-true _ _ (unless-true _ _ a.1))

export-to : (p : Parts) (n : ℕ) (x : Export) → IsNewName p.exports n x → x.index < exported_count p x.kind → fault_of p (ExportedAs n x) ≡ None
export-to p n x new lt =
    both-none _ (unless (kind_of_export x.kind) (ltb x.index (exported_count p x.kind))) (ap (λ b. cond b (Some ExportName) None) (new-to x.name p.exports n new)) (ap (unless (kind_of_export x.kind)) (lt-ltb x.index (exported_count p x.kind) lt))

-- the start function
no-type : (o : Option ValType) → is_none o ≡ true → o ≡ None
no-type None h = refl
no-type (Some t) h = absurd (cc)

start-from : (p : Parts) (x : ℕ) → starts (type_at p x) ≡ None → IsStart p x
start-from p x h = by (type_at p x) refl h
  where
    by : (o : Option FuncType) → type_at p x ≡ o → starts o ≡ None → IsStart p x
    by None e h' = absurd (cc)
    by (Some t) e h' =
        let a = and-true (eqb (length t.params) 0) (is_none t.result) (unless-true _ _ h') in
        record { ftype = t; there = e; no_parameter = nil_from_length t.params (eqb-true _ _ a.0); no_result = no-type t.result a.1 }

start-to : (p : Parts) (x : ℕ) → IsStart p x → starts (type_at p x) ≡ None
start-to p x s =
    ap starts s.there ∙ ap (unless _) (and-both (eqb (length s.ftype.params) 0) (is_none s.ftype.result) (eq-eqb _ _ (ap length s.no_parameter)) (ap is_none s.no_result))

-- segments
any-from : {A : Type 0} (k : ValidKind) (xs : List A) (ls : List ℕ) → any_lacking k xs ls ≡ None → Each ls (λ x. x < length xs)
any-from k xs [] h n x e = absurd (cc)
any-from k xs (l ∷ ls) h zero x e =
    let one : l ≡ x = cc in
    subst (λ y. y < length xs) one (there k xs l (two-none (lacking k (slice_get xs l)) (any_lacking k xs ls) h).0)
any-from k xs (l ∷ ls) h (suc n) x e = any-from k xs ls (two-none (lacking k (slice_get xs l)) (any_lacking k xs ls) h).1 n x e

any-to : {A : Type 0} (k : ValidKind) (xs : List A) (ls : List ℕ) → Each ls (λ x. x < length xs) → any_lacking k xs ls ≡ None
any-to k xs [] h = refl
any-to k xs (l ∷ ls) h = both-none (lacking k (slice_get xs l)) (any_lacking k xs ls) (not-lacking k xs l (h 0 l refl)) (any-to k xs ls (λ n x e. h (suc n) x e))

is-there : (o : Option Limits) → is_some o ≡ true → IsSome o
is-there (Some x) h = refl
is-there None h = absurd (cc)

there-is : (o : Option Limits) → IsSome o → is_some o ≡ true
there-is (Some x) h = refl
there-is None h = absurd (cc)

element-from : (p : Parts) (e : Element) → fault_of p (ElementsOf e) ≡ None → IsElement p e
element-from p e h =
    let a = two-none _ _ h in
    let b = two-none _ _ a.1 in
    record { table = is-there p.table (unless-true _ _ a.0); offset = constant-from I32 e.offset (unless-true _ _ b.0); funcs = any-from _ (type_indices p) e.funcs b.1 }

element-to : (p : Parts) (e : Element) → IsElement p e → fault_of p (ElementsOf e) ≡ None
element-to p e i = both-none _ _ (ap (unless _) (there-is p.table i.table)) (both-none _ _ (ap (unless _) (constant-to I32 e.offset i.offset)) (any-to _ (type_indices p) e.funcs i.funcs))

segment-from : (p : Parts) (s : Segment) → fault_of p (DataOf s) ≡ None → IsSegment p s
segment-from p s h =
    let a = two-none _ _ h in
    record { memory = is-there p.memory (unless-true _ _ a.0); offset = constant-from I32 s.offset (unless-true _ _ a.1) }

segment-to : (p : Parts) (s : Segment) → IsSegment p s → fault_of p (DataOf s) ≡ None
segment-to p s i = both-none _ _ (ap (unless _) (there-is p.memory i.memory)) (ap (unless _) (constant-to I32 s.offset i.offset))

-- ---- all of them

one-from : {A : Type 0} (p : Parts) (part : ℕ) (make : A → Check) (o : Option A) (P : A → Type 0) → ((x : A) → Passes p (make x) → P x) → AllPass p (at_most_one part make o) → IfSome o P
one-from p part make None P f h = tt
one-from p part make (Some x) P f h = f x h.0

one-to : {A : Type 0} (p : Parts) (part : ℕ) (make : A → Check) (o : Option A) (P : A → Type 0) → ((x : A) → P x → Passes p (make x)) → IfSome o P → AllPass p (at_most_one part make o)
one-to p part make None P f h = tt
one-to p part make (Some x) P f h = (f x h, tt)

pub passes-valid : (p : Parts) → AllPass p (checks p) → IsValid p
passes-valid p h =
    let a = all-parts p (declaration_checks p) (body_checks p ++ data_checks p) h in
    let late = all-parts p (body_checks p) (data_checks p) a.1 in
    let i = all-parts p (import_checks p) _ a.0 in
    let f = all-parts p (function_checks p) _ i.1 in
    let z = all-parts p (size_checks p) _ f.1 in
    let sizes = all-parts p (at_most_one 4 TableLimits p.table) (at_most_one 5 MemoryLimits p.memory) z.0 in
    let g = all-parts p (global_checks p) _ z.1 in
    let x = all-parts p (export_checks p) _ g.1 in
    let s = all-parts p (start_checks p) _ x.1 in
    let exports = each-passes p 7 (λ n y. ExportedAs n y) p.exports x.0 in
    record {
      imports = λ n y e. there _ p.types y.ftype (each-passes p 2 (λ n y. TypeOfImport y) p.imports i.0 n y e);
      funcs = each-passes p 10 (λ n y. BodyOf y) p.funcs late.0;
      table = one-from p 4 TableLimits p.table (AreLimits (2 ^ 32)) (λ l k. limits-from (2 ^ 32) l (unless-true _ _ k)) sizes.0;
      memory = one-from p 5 MemoryLimits p.memory (AreLimits (2 ^ 16)) (λ l k. limits-from (2 ^ 16) l (unless-true _ _ k)) sizes.1;
      globals = λ n y e. constant-from y.vtype y.init (unless-true _ _ (each-passes p 6 (λ n y. GlobalInit y) p.globals g.0 n y e));
      exports = λ n y e. (export-from p n y (exports n y e)).1;
      names = λ n y e. (export-from p n y (exports n y e)).0;
      start = one-from p 8 StartOf p.start (IsStart p) (λ y k. start-from p y k) s.0;
      elements = λ n y e. element-from p y (each-passes p 9 (λ n y. ElementsOf y) p.elements s.1 n y e);
      segments = λ n y e. segment-from p y (each-passes p 11 (λ n y. DataOf y) p.segments late.1 n y e);
    }

pub valid-passes : (p : Parts) → IsValid p → AllPass p (checks p)
valid-passes p v =
    let imports = all-from p 2 (λ n y. TypeOfImport y) 0 p.imports (λ n y e. not-lacking _ p.types y.ftype (v.imports n y e)) in
    let functions = all-from p 3 (λ n y. TypeOfFunc y) 0 p.funcs (λ n y e. (let t = v.funcs n y e in ap (lacking _) t.declared_as)) in
    let sizes = all-append p (at_most_one 4 TableLimits p.table) (at_most_one 5 MemoryLimits p.memory)
    (one-to p 4 TableLimits p.table (AreLimits (2 ^ 32)) (λ l k. ap (unless _) (limits-to (2 ^ 32) l k)) v.table)
    (one-to p 5 MemoryLimits p.memory (AreLimits (2 ^ 16)) (λ l k. ap (unless _) (limits-to (2 ^ 16) l k)) v.memory) in
    let globals = all-from p 6 (λ n y. GlobalInit y) 0 p.globals (λ n y e. ap (unless _) (constant-to y.vtype y.init (v.globals n y e))) in
    let exports = all-from p 7 (λ n y. ExportedAs n y) 0 p.exports (λ n y e. (let same : n ≡ 0 + n = omega arith in subst (λ m. Passes p (ExportedAs m y)) same (export-to p n y (v.names n y e) (v.exports n y e)))) in
    let start = one-to p 8 StartOf p.start (IsStart p) (λ y k. start-to p y k) v.start in
    let elements = all-from p 9 (λ n y. ElementsOf y) 0 p.elements (λ n y e. element-to p y (v.elements n y e)) in
    let bodies = all-from p 10 (λ n y. BodyOf y) 0 p.funcs v.funcs in
    let segments = all-from p 11 (λ n y. DataOf y) 0 p.segments (λ n y e. segment-to p y (v.segments n y e)) in
    all-append p (declaration_checks p) (body_checks p ++ data_checks p)
    (all-append p (import_checks p) _ imports (all-append p (function_checks p) _ functions (all-append p (size_checks p) _ sizes (all-append p (global_checks p) _ globals (all-append p (export_checks p) _ exports (all-append p (start_checks p) (element_checks p) start elements))))))
    (all-append p (body_checks p) (data_checks p) bodies segments)

-- ---- a faulty module isn't valid

first-untyped : (c : Context) (code : List Instr) (at : ℕ) (k : ValidKind) → IsFirstFault c code at k → IsTyped c code → ⊥
first-untyped c code at k f t = by (frames_after c (take (at + 1) code) (start_of c)) refl
  where
    by : (o : Option (List ControlFrame)) → frames_after c (take (at + 1) code) (start_of c) ≡ o → ⊥
    by None e = fault-untyped c code (at + 1) e t
    by (Some m) e = f.faulty (front-typed c code (at + 1) m e)

fails-passes : (p : Parts) (c : Check) (at : ℕ) (k : ValidKind) → Fails p c at k → Passes p c → ⊥
fails-passes p (BodyOf f) at k h t =
    let both : Some h.ftype ≡ Some t.ftype = sym h.declared_as ∙ t.declared_as in
    let same : h.ftype ≡ t.ftype = cc in
    first-untyped (context_in p h.ftype f.locals) f.code at k h.first (subst (λ y. IsTyped (context_in p y f.locals) f.code) (sym same) t.typed)
fails-passes p c at k h t = let clash : None ≡ Some k = sym t ∙ h.1 in absurd (cc)

pub first-fails-all : (p : Parts) (cs : List Numbered) (f : ValidFault) → FirstFails p cs f → AllPass p cs → ⊥
first-fails-all p [] f h t = h
first-fails-all p (c ∷ cs) f (inl h) t = fails-passes p c.check f.at f.kind h.fails t.0
first-fails-all p (c ∷ cs) f (inr h) t = first-fails-all p cs f h.1 t.1

pub fault-invalid : (p : Parts) (f : ValidFault) → FirstFails p (checks p) f → IsValid p → ⊥
fault-invalid p f h v = first-fails-all p (checks p) f h (valid-passes p v)

-- what each function declares is there
pub declared-there : (p : Parts) → AllPass p (declaration_checks p) → Each p.funcs (λ f. f.ftype < length p.types)
declared-there p h n f e =
    let i = all-parts p (import_checks p) _ h in
    let d = all-parts p (function_checks p) _ i.1 in
    there _ p.types f.ftype (each-passes p 3 (λ n y. TypeOfFunc y) p.funcs d.0 n f e)

pub each-of-all : {A : Type 0} (P : A → Type 0) (xs : List A) → AllByRecursion P xs → Each xs P
each-of-all P [] h n x e = absurd (cc)
each-of-all P (y ∷ xs) h zero x e = let one : y ≡ x = cc in subst P one h.0
each-of-all P (y ∷ xs) h (suc n) x e = each-of-all P xs h.1 n x e
