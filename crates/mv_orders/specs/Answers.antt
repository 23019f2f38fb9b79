-- For private clauses: what a call answers that has faults of its own and may want memory.
use Rattle.std.specs.Prelude.{Result, Ok, Err}
use Rattle.mv_calls.specs.declared.fault.Or.{Or}
use Rattle.mv_calls.specs.declared.fault.Or.TheVariants as or

-- P holds of the fault, if it is one
abbrev pub OfFault : {X E : Type 0} → (Result X E → Type 0) → Or E → Type 0
OfFault P (or.Fault fault) = P (Err fault)
OfFault P or.OutOfMemory = Unit {0}

-- the answer is one that P allows, or memory was wanted
abbrev pub AllowsAnswer : {X E : Type 0} → (Result X E → Type 0) → Result X (Or E) → Type 0
AllowsAnswer P (Ok value) = P (Ok value)
AllowsAnswer P (Err fault) = OfFault P fault
