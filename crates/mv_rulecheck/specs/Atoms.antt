-- What a side of a rule reads and accepts, as it is written (docs/FORMATS.md, "Kept reads").
use Rattle.std.specs.Prelude.{◌≡◌, ◌≢◌, ◌⊎◌, ℕ, List, [], ◌∷◌, map}
use Rattle.std.specs.List.{flat_map}
use Rattle.mv_rules.specs.declared.rule.FdTerm.{FdTerm}
use Rattle.mv_rules.specs.declared.rule.Part.{Part}
use Rattle.mv_rules.specs.declared.rule.Part.TheVariants.{Text, Sized, Named, Length}
use Rattle.mv_rules.specs.declared.rule.Pattern.{Pattern}
use Rattle.mv_rules.specs.declared.rule.Pattern.TheVariants.{Read, Accept}
use Rattle.mv_rules.specs.declared.rule.Rule.{Rule}
use Rattle.mv_rules.specs.declared.fault.RuleFault.{RuleFault}
use Rattle.mv_rules.specs.declared.fault.RuleKind.TheVariants.{Reads, Accepts}

-- a byte of a text, a byte name, or the digits of the length of what a byte name is bound to
pub data Piece : Type 0 where
  Byte : ℕ → Piece
  Name : List ℕ → Piece
  LengthOf : List ℕ → Piece

abbrev pub pieces_of_part : Part → List Piece
pieces_of_part (Text text) = map Byte text
pieces_of_part (Sized name length) = Name name ∷ []
pieces_of_part (Named name) = Name name ∷ []
pieces_of_part (Length name) = LengthOf name ∷ []

abbrev pub pieces_of : List Part → List Piece
pieces_of parts = flat_map pieces_of_part parts

-- what a read reads: its descriptor, with each piece of its bytes
abbrev pub read_atoms_of : Pattern → List (FdTerm × Piece)
read_atoms_of (Read fd bytes) = map (λ piece. (fd, piece)) (pieces_of bytes)
read_atoms_of pattern = []

abbrev pub read_atoms : List Pattern → List (FdTerm × Piece)
read_atoms side = flat_map read_atoms_of side

-- the two descriptors of an accept that gives one
abbrev pub accepts_of : Pattern → List (FdTerm × FdTerm)
accepts_of (Accept listener flags made) = (listener, made) ∷ []
accepts_of pattern = []

abbrev pub accepts : List Pattern → List (FdTerm × FdTerm)
accepts side = flat_map accepts_of side

-- both sides of the rule read the same, and accept the same
pub record IsKept (rule : Rule) : Type 0 where
  pub reads : read_atoms rule.right ≡ read_atoms rule.left
  pub accepts : accepts rule.right ≡ accepts rule.left

abbrev pub AreKept : List Rule → Type 0
AreKept [] = Unit {0}
AreKept (rule ∷ rules) = IsKept rule × AreKept rules

-- the fault of a rule that isn't kept: reads before accepts
abbrev pub IsUnkept : Rule → RuleFault → Type 0
IsUnkept rule fault =
    ((read_atoms rule.right ≢ read_atoms rule.left) × (fault ≡ record { line = rule.line; kind = Reads }))
    ⊎ ((read_atoms rule.right ≡ read_atoms rule.left) × (accepts rule.right ≢ accepts rule.left) × (fault ≡ record { line = rule.line; kind = Accepts }))

-- the fault of the first rule that isn't kept
abbrev pub IsFirstUnkept : List Rule → RuleFault → Type 0
IsFirstUnkept [] fault = ⊥
IsFirstUnkept (rule ∷ rules) fault = IsUnkept rule fault ⊎ (IsKept rule × IsFirstUnkept rules fault)
