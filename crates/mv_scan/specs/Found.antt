-- What is found where a form is looked for: nothing of the form, a number out of its range, or this.
use Rattle.std.specs.Prelude.{Bool, true, false, Option, Some, None}
use Rattle.mv_scan.specs.declared.found.Found.{Found}
use Rattle.mv_scan.specs.declared.found.Found.TheVariants.{Other, OutOfRange, Is}

abbrev pub found_map : {A B : Type 0} → (A → B) → Found A → Found B
found_map f Other = Other
found_map f OutOfRange = OutOfRange
found_map f (Is a) = Is (f a)

-- both; what is of another form counts before what is out of range
abbrev pub pair : {A B : Type 0} → Found A → Found B → Found (A × B)
pair Other second = Other
pair OutOfRange Other = Other
pair OutOfRange OutOfRange = OutOfRange
pair OutOfRange (Is b) = OutOfRange
pair (Is a) Other = Other
pair (Is a) OutOfRange = OutOfRange
pair (Is a) (Is b) = Is (a, b)

-- found, where the test holds
abbrev pub only_if : {A : Type 0} → Bool → Found A → Found A
only_if true found = found
only_if false found = Other

abbrev pub found_or_other : {A : Type 0} → Option A → Found A
found_or_other None = Other
found_or_other (Some a) = Is a

abbrev pub is_other : {A : Type 0} → Found A → Bool
is_other Other = true
is_other OutOfRange = false
is_other (Is a) = false

abbrev pub is_out_of_range : {A : Type 0} → Found A → Bool
is_out_of_range Other = false
is_out_of_range OutOfRange = true
is_out_of_range (Is a) = false

-- the test holds of what is found
abbrev pub holds : {A : Type 0} → (A → Bool) → Found A → Bool
holds test Other = false
holds test OutOfRange = false
holds test (Is a) = test a
