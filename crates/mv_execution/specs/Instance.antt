-- The instance of a module (WebAssembly Core 1.0, 4.5.3), before its segments are written.
use Rattle.std.specs.Prelude.{ℕ, List, [], ◌∷◌, ◌++◌, Option, Some, None, length, map, replicate, slice_get, slice_set, unwrap_or}
use Rattle.mv_syntax.specs.declared.types.FuncType.{FuncType}
use Rattle.mv_syntax.specs.declared.types.Limits.{Limits}
use Rattle.mv_syntax.specs.declared.module.Import.{Import}
use Rattle.mv_syntax.specs.declared.module.Func.{Func}
use Rattle.mv_syntax.specs.declared.instr.Instr.{Instr}
use Rattle.mv_syntax.specs.declared.instr.Instr.TheVariants as instr
use Rattle.mv_syntax.specs.Tree.{Tree, done, Rest, rests}
use Rattle.mv_syntax.specs.Sections.{Parts}
use Rattle.mv_memory.specs.Memory.{Contents, new_contents}
use Rattle.mv_execution.specs.Config.{Function, Program, Store, Config}

-- what is left of the innermost block
abbrev pub first_tree : List Rest → Tree
first_tree [] = done
first_tree (r ∷ rs) = r.tree

-- the tree of a body; a module's bodies are closed, so there is one
abbrev pub tree_of : List Instr → Tree
tree_of code = first_tree (unwrap_or (rests code) [])

-- the type with this index; in a valid module there is one
abbrev pub type_at : List FuncType → ℕ → FuncType
type_at types n = unwrap_or (slice_get types n) (record { params = []; result = None })

abbrev pub imported : List FuncType → Import → Function
imported types i = record { ftype = type_at types i.ftype; body = None }

abbrev pub defined : List FuncType → Func → Function
defined types f = record { ftype = type_at types f.ftype; body = Some (record { locals = length f.locals; tree = tree_of f.code }) }

abbrev pub program_of : Parts → Program
program_of p = record { types = p.types; functions = map (imported p.types) p.imports ++ map (defined p.types) p.funcs }

-- an initial value is one constant
abbrev pub constant_of : List Instr → ℕ
constant_of (instr.Const t v ∷ code) = v
constant_of code = 0

-- a module without a memory has one of no pages
abbrev pub memory_of : Option Limits → Contents
memory_of None = new_contents 0 (Some 0)
memory_of (Some limits) = new_contents limits.min limits.max

-- no entry holds a function
abbrev pub table_of : Option Limits → List (Option ℕ)
table_of None = []
table_of (Some limits) = replicate limits.min None

abbrev pub new_store : Parts → Store
new_store p = record {
  memory = memory_of p.memory;
  globals = map (λ g. constant_of g.init) p.globals;
  table = table_of p.table;
}

-- nothing is called
abbrev pub new_config : Parts → Config
new_config p = record { store = new_store p; frames = []; waiting = None; given = []; gap = 0 }

-- a table's entry holds this function
abbrev pub with_element : ℕ → ℕ → Config → Config
with_element at x c = record c { store = record c.store { table = slice_set c.store.table at (Some x) } }

-- bytes are written from outside
abbrev pub with_memory : Contents → Config → Config
with_memory memory c = record c { store = record c.store { memory = memory } }
