-- What a call answers that has faults of its own and may want memory.
use Rattle.std.specs.Prelude.{Result, Ok, Err}
use Rattle.mv_calls.specs.declared.fault.Or.{Or}
use Rattle.mv_calls.specs.declared.fault.Or.TheVariants.{Fault, OutOfMemory}

-- P holds of the fault, if the answer is one
abbrev pub IfFault : {T E : Type 0} → Result T (Or E) → (E → Type 0) → Type 0
IfFault (Ok value) P = Unit {0}
IfFault (Err (Fault fault)) P = P fault
IfFault (Err OutOfMemory) P = Unit {0}

-- the answer is a fault
abbrev pub IsFault : {T E : Type 0} → Result T (Or E) → Type 0
IsFault (Ok value) = ⊥
IsFault (Err (Fault fault)) = Unit {0}
IsFault (Err OutOfMemory) = ⊥

-- the answer is want of memory
abbrev pub WantsMemory : {T E : Type 0} → Result T (Or E) → Type 0
WantsMemory (Ok value) = ⊥
WantsMemory (Err (Fault fault)) = ⊥
WantsMemory (Err OutOfMemory) = Unit {0}
