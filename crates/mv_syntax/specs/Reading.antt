-- What a reader of the code returns, beside what a form reads.
use Rattle.std.specs.Prelude.{◌≡◌, ℕ, ◌<◌, length, Result, Ok, Err}
use Rattle.mv_calls.specs.declared.fault.Or.{Or}
use Rattle.mv_calls.specs.declared.fault.Or.TheVariants as or
use Rattle.mv_syntax.specs.declared.fault.ReadFault.{ReadFault}
use Rattle.mv_syntax.specs.declared.fault.ReadKind.{ReadKind}
use Rattle.mv_syntax.specs.Form.{At}

-- the fault that is met, or want of memory
abbrev pub Fails : {Y : Type 0} → Or ReadFault → Result Y ReadFault → Type 0
Fails or.OutOfMemory read = Unit {0}
Fails (or.Fault f) read = read ≡ Err f

-- what is at the front, seen by view, and where its bytes end
abbrev pub Reads : {X Y : Type 0} → (X → Y) → Result X (Or ReadFault) → At → Result (Y × At) ReadFault → Type 0
Reads view (Ok x) next read = read ≡ Ok (view x, next)
Reads view (Err e) next read = Fails e read

-- a meaning, or the fault of having none
abbrev pub Judges : {T : Type 0} → ℕ → Result T ReadKind → Result T (Or ReadFault) → Type 0
Judges start meaning (Ok x) = meaning ≡ Ok x
Judges start meaning (Err or.OutOfMemory) = ⊥
Judges start meaning (Err (or.Fault f)) = (f.place ≡ start) × (meaning ≡ Err f.kind)

-- nothing is left, or the fault of what is
abbrev pub Ends : At → Result (Unit {0}) (Or ReadFault) → Type 0
Ends at (Ok _) = length at.rest ≡ 0
Ends at (Err or.OutOfMemory) = ⊥
Ends at (Err (or.Fault f)) = (0 < length at.rest) × (f ≡ record { place = at.place; kind = at.short })

-- the value, seen by view, or the first fault, or want of memory
abbrev pub Gives : {X Y : Type 0} → (X → Y) → Result X (Or ReadFault) → Result Y ReadFault → Type 0
Gives view (Ok x) read = read ≡ Ok (view x)
Gives view (Err e) read = Fails e read
