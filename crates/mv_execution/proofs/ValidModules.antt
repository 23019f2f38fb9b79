-- A valid module has the types that a run rests on, by what the type `Module` keeps.
use Rattle.std.proofs.Common.{◌≡◌, ℕ, zero, suc, ◌≤◌, List, [], ◌∷◌, Option, Some, None, subst}
use Rattle.std.specs.Prelude.{slice_get, IfSome}
use Rattle.std.specs.List.{AllByRecursion}
use Rattle.mv_syntax.specs.declared.types.Limits.{Limits}
use Rattle.mv_syntax.specs.declared.instr.Instr.{Instr}
use Rattle.mv_syntax.specs.declared.module.Func.{Func}
use Rattle.mv_syntax.specs.declared.module.Global.{Global}
use Rattle.mv_syntax.specs.Sections.{Parts}
use Rattle.mv_syntax.specs.Kept.{IsSpellable, IsSoundCode, IsSoundFunc, Keeps}
use Rattle.mv_validator.specs.Valid.{IsConstant, IsTypedFunc, IsValid}
use Rattle.mv_memory.specs.Bytes.{page_limit}
use Rattle.mv_execution.specs.Fits.{IsSound, IsTypedFunction, IsTypedGlobal, IsTypedModule}
use Rattle.mv_execution.proofs.Starts.{spellable-sound}

-- what holds of each item holds of the one with this index
item-holds : {A : Type 0} (P : A → Type 0) (xs : List A) (n : ℕ) (x : A) → AllByRecursion P xs → slice_get xs n ≡ Some x → P x
item-holds P [] n x h e = absurd (cc)
item-holds P (y ∷ xs) zero x h e = let same : y ≡ x = cc in subst P same h.0
item-holds P (y ∷ xs) (suc n) x h e = item-holds P xs n x h.1 e

code-sound : (code : List Instr) → AllByRecursion IsSpellable code → AllByRecursion IsSound code
code-sound [] h = tt
code-sound (i ∷ code) h = (spellable-sound i h.0, code-sound code h.1)

function-typed : (p : Parts) (f : Func) → IsSoundFunc f → IsTypedFunc p f → IsTypedFunction p f
function-typed p f k v = record { ftype = v.ftype; declared_as = v.declared_as; typed = v.typed; sound = code-sound f.code k.code_is.spellable }

global-typed : (g : Global) → IsSoundCode g.init → IsConstant g.vtype g.init → IsTypedGlobal g
global-typed g k (v, e) = record { value = v; constant = e; sound = (subst (AllByRecursion IsSpellable) e k.spellable).0 }

memory-small : (o : Option Limits) → IfSome o (λ l. l.min ≤ 1024) → IfSome o (λ l. l.min ≤ page_limit)
memory-small None h = tt
memory-small (Some l) h = h

-- A valid module has types.
pub valid-typed : (p : Parts) → Keeps p → IsValid p → IsTypedModule p
valid-typed p k v = record {
  funcs = λ n f e. function-typed p f (item-holds IsSoundFunc p.funcs n f k.funcs e) (v.funcs n f e);
  globals = λ n g e. global-typed g (item-holds (λ (x : Global). IsSoundCode x.init) p.globals n g k.globals e) (v.globals n g e);
  memory = memory-small p.memory k.memory;
}
