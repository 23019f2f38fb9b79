use Rattle.std.proofs.Common.{◌≡◌, drop}
use Rattle.mv_syntax.specs.declared.fault.ValidKind.TheVariants.{FuncIndex}
use Rattle.mv_validator.specs.Faults.{any_lacking}
use Rattle.mv_validator.specs.Valid.{type_indices}
use Rattle.mv_validator.proofs.declarations.missing_function.Given as goal

abbrev pub invariant-loop-f : goal.invariant-loop-f
invariant-loop-f l = any_lacking FuncIndex (type_indices l.«module») l.funcs ≡ any_lacking FuncIndex (type_indices l.«module») (drop l.f-index l.funcs)
