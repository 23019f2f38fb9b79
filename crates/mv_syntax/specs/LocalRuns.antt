-- Locals in runs, each of one type and up to an end.
use Rattle.std.specs.Prelude.{ℕ, ◌-◌, ◌<◌, ◌++◌, List, [], ◌∷◌, replicate}
use Rattle.mv_syntax.specs.declared.ops.ValType.{ValType}
use Rattle.mv_syntax.specs.declared.locals.LocalRun.{LocalRun}

-- the locals of runs that begin behind so many others
abbrev pub spread : ℕ → List LocalRun → List ValType
spread before [] = []
spread before (run ∷ runs) = replicate (run.end - before) run.vtype ++ spread run.end runs

-- each run has a local
abbrev pub AreRising : ℕ → List LocalRun → Type 0
AreRising before [] = Unit {0}
AreRising before (run ∷ runs) = (before < run.end) × AreRising run.end runs
