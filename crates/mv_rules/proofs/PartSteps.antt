-- Parts, one after another.
use Rattle.std.proofs.Common.{◌≡◌, Bool, true, false, List, [], ◌∷◌, ◌++◌, refl, ap, sym, append_assoc}
use Rattle.std.proofs.lemmas.List.{append-nil}
use Rattle.mv_rules.specs.declared.rule.Part.{Part}
use Rattle.mv_scan.specs.declared.found.Found.{Found}
use Rattle.mv_scan.specs.declared.found.Found.TheVariants.{Other, OutOfRange, Is}
use Rattle.mv_scan.specs.Found.{found_map, pair}

-- the parts so far, before those that are left; there are none in range where one of them isn't
abbrev pub parts_before : Bool → List Part → Found (List Part) → Found (List Part)
parts_before in_range parts Other = Other
parts_before in_range parts OutOfRange = OutOfRange
parts_before true parts (Is more) = Is (parts ++ more)
parts_before false parts (Is more) = OutOfRange

abbrev pub onto : Found Part → Found (List Part) → Found (List Part)
onto part rest = found_map (λ t. t.0 ∷ t.1) (pair part rest)

-- one more part
pub parts_before_part : (in_range : Bool) (parts : List Part) (part : Part) (rest : Found (List Part))
    → parts_before in_range parts (onto (Is part) rest) ≡ parts_before in_range (parts ++ part ∷ []) rest
parts_before_part in_range parts part Other = refl
parts_before_part in_range parts part OutOfRange = refl
parts_before_part true parts part (Is more) = ap (λ (k : List Part). Is k) (sym (append_assoc parts (part ∷ []) more))
parts_before_part false parts part (Is more) = refl

-- one that is out of range
pub parts_before_none : (in_range : Bool) (parts : List Part) (rest : Found (List Part))
    → parts_before in_range parts (onto OutOfRange rest) ≡ parts_before false parts rest
parts_before_none in_range parts Other = refl
parts_before_none in_range parts OutOfRange = refl
parts_before_none true parts (Is more) = refl
parts_before_none false parts (Is more) = refl

-- none are left
pub parts_before_end : (parts : List Part) → parts_before true parts (Is []) ≡ Is parts
parts_before_end parts = ap (λ (k : List Part). Is k) (append-nil parts)
