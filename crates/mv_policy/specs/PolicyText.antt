-- The text of a policy: which texts spell these lines, and which have which first fault (docs/FORMATS.md, "Policy"). Nothing
-- here reads a text. `one_reading` says that each text has one policy or one first fault.
use Rattle.std.specs.Prelude.{◌≡◌, ◌≢◌, ◌⊎◌, ◌<◌, ◌≤◌, ◌+◌, ℕ, Bool, true, false, not, ◌&&◌, ◌||◌, nat_le, if◌then◌else◌, List, [], ◌∷◌, ◌++◌, length, codes, Option, Some, None, Result, Ok, Err}
use Rattle.std.specs.List.{AllByRecursion, join_with_byte, list_all, list_any}
use Rattle.std.specs.Str.{bytes_eq}
use Rattle.mv_policy.specs.declared.line.Who.{Who}
use Rattle.mv_policy.specs.declared.line.Who.TheVariants.{Anyone, Named}
use Rattle.mv_policy.specs.declared.line.Which.{Which}
use Rattle.mv_policy.specs.declared.line.Which.TheVariants as which
use Rattle.mv_policy.specs.declared.line.PolicyLine.{PolicyLine}
use Rattle.mv_policy.specs.declared.line.PolicyLine.TheVariants.{Empty, User, Allow, Deny}
use Rattle.mv_policy.specs.declared.fault.PolicyKind.{PolicyKind}
use Rattle.mv_policy.specs.declared.fault.PolicyKind.TheVariants as kind
use Rattle.mv_policy.specs.declared.fault.PolicyFault.{PolicyFault}

-- ## Lines

abbrev pub which_text : Which → List ℕ
which_text which.Any = codes "*"
which_text which.Update = codes "update"
which_text which.Promote = codes "promote"
which_text which.Discard = codes "discard"
which_text which.Finish = codes "finish"
which_text which.Back = codes "back"
which_text which.Halt = codes "halt"
which_text which.Status = codes "status"

abbrev pub who_text : Who → List ℕ
who_text Anyone = codes "*"
who_text (Named name) = name

-- the words of a line
abbrev pub line_words : PolicyLine → List (List ℕ)
line_words Empty = []
line_words (User name token) = codes "user" ∷ name ∷ token ∷ []
line_words (Allow who which) = codes "allow" ∷ who_text who ∷ which_text which ∷ []
line_words (Deny who which) = codes "deny" ∷ who_text who ∷ which_text which ∷ []

-- a word isn't empty and has no space
abbrev pub IsWord : List ℕ → Type 0
IsWord word = (0 < length word) × AllByRecursion (λ b. b ≢ 32) word

-- `*` means anyone, so it names nobody
abbrev pub IsNobody : Who → Type 0
IsNobody Anyone = ⊥
IsNobody (Named name) = name ≡ codes "*"

abbrev pub NamesNobody : PolicyLine → Type 0
NamesNobody Empty = ⊥
NamesNobody (User name token) = ⊥
NamesNobody (Allow who which) = IsNobody who
NamesNobody (Deny who which) = IsNobody who

-- the bytes spell the line: its words, with one space between
pub record SpellsLine (line : PolicyLine) (bytes : List ℕ) : Type 0 where
  pub words : AllByRecursion IsWord (line_words line)
  pub meant : NamesNobody line → ⊥
  pub joined : bytes ≡ join_with_byte 32 (line_words line)

-- line by line
abbrev pub SpellsLines : List PolicyLine → List (List ℕ) → Type 0
SpellsLines [] [] = Unit {0}
SpellsLines [] (bytes ∷ rest) = ⊥
SpellsLines (line ∷ lines) [] = ⊥
SpellsLines (line ∷ lines) (bytes ∷ rest) = SpellsLine line bytes × SpellsLines lines rest

-- ## What may be wrong with a line behind these

-- printable, and no space
abbrev pub is_name_byte : ℕ → Bool
is_name_byte b = nat_le 33 b && nat_le b 126

-- 1 to 64 such bytes
abbrev pub is_name : List ℕ → Bool
is_name name = nat_le 1 (length name) && (nat_le (length name) 64 && list_all is_name_byte name)

abbrev pub is_name_of : Who → Bool
is_name_of Anyone = true
is_name_of (Named name) = is_name name

abbrev pub has_bad_name : PolicyLine → Bool
has_bad_name Empty = false
has_bad_name (User name token) = not (is_name name) || (bytes_eq name (codes "*") || not (is_name token))
has_bad_name (Allow who which) = not (is_name_of who)
has_bad_name (Deny who which) = not (is_name_of who)

-- the line is that of the user of this name
abbrev pub is_user : List ℕ → PolicyLine → Bool
is_user name Empty = false
is_user name (User other token) = bytes_eq other name
is_user name (Allow who which) = false
is_user name (Deny who which) = false

-- a user who stands before
abbrev pub is_again : List PolicyLine → PolicyLine → Bool
is_again before Empty = false
is_again before (User name token) = list_any (is_user name) before
is_again before (Allow who which) = false
is_again before (Deny who which) = false

abbrev pub is_stranger : List PolicyLine → Who → Bool
is_stranger before Anyone = false
is_stranger before (Named name) = not (list_any (is_user name) before)

-- a user who doesn't stand before
abbrev pub has_stranger : List PolicyLine → PolicyLine → Bool
has_stranger before Empty = false
has_stranger before (User name token) = false
has_stranger before (Allow who which) = is_stranger before who
has_stranger before (Deny who which) = is_stranger before who

-- the first kind of the table that the line has behind these, of which the first is line 2
abbrev pub fault_of : List PolicyLine → PolicyLine → Option PolicyKind
fault_of before line =
    if has_bad_name line then Some kind.Name
    else if is_again before line then Some kind.Twice
    else if has_stranger before line then Some kind.Who
    else if nat_le 999 (length before) then Some kind.Many
    else None

-- none of the lines behind these has a fault
abbrev pub AreSound : List PolicyLine → List PolicyLine → Type 0
AreSound before [] = Unit {0}
AreSound before (line ∷ lines) = (fault_of before line ≡ None) × AreSound (before ++ line ∷ []) lines

-- the bytes, behind these lines, spell no line, or one that has the fault
abbrev pub IsFaulty : List PolicyLine → List ℕ → PolicyKind → Type 0
IsFaulty before bytes k =
    ((k ≡ kind.Word) × ((line : PolicyLine) → ¬ SpellsLine line bytes))
    ⊎ ((line : PolicyLine) × SpellsLine line bytes × (fault_of before line ≡ Some k))

-- ## Texts

-- a text of these lines: each ends with a line feed, but the last may lack it
pub record IsTextOf (lines : List (List ℕ)) (text : List ℕ) : Type 0 where
  pub plain : AllByRecursion (AllByRecursion (λ b. b ≢ 10)) lines
  pub ended : (text ≡ join_with_byte 10 lines ++ 10 ∷ []) ⊎ ((text ≡ join_with_byte 10 lines) × ((front : List ℕ) → text ≢ front ++ 10 ∷ []))

-- at most 65,536 bytes, the line `mvpolicy 1`, and these
pub record HasLines (lines : List (List ℕ)) (text : List ℕ) : Type 0 where
  pub size : length text ≤ 65536
  pub joined : IsTextOf (codes "mvpolicy 1" ∷ lines) text

-- the text spells this policy
pub record Spells (text : List ℕ) (policy : List PolicyLine) : Type 0 where
  pub lines : List (List ℕ)
  pub whole : HasLines lines text
  pub spelled : SpellsLines policy lines
  pub sound : AreSound [] policy

-- the lines before this one have no fault, and this one has
pub record IsFaultyLine (text : List ℕ) (fault : PolicyFault) : Type 0 where
  pub before : List PolicyLine
  pub front : List (List ℕ)
  pub line : List ℕ
  pub rest : List (List ℕ)
  pub whole : HasLines (front ++ line ∷ rest) text
  pub spelled : SpellsLines before front
  pub sound : AreSound [] before
  pub faulty : IsFaulty before line fault.kind
  pub place : fault.line ≡ length before + 2

-- the size, then the first line, then the first faulty line
abbrev pub IsFirstFault : List ℕ → PolicyFault → Type 0
IsFirstFault text fault =
    ((65536 < length text) × (fault ≡ record { line = 1; kind = kind.Size }))
    ⊎ (((length text ≤ 65536) × ((lines : List (List ℕ)) → ¬ HasLines lines text) × (fault ≡ record { line = 1; kind = kind.Header }))
    ⊎ IsFaultyLine text fault)

-- what reading a text gives: its policy, or its first fault
abbrev pub Reads : List ℕ → Result (List PolicyLine) PolicyFault → Type 0
Reads text (Ok policy) = Spells text policy
Reads text (Err fault) = IsFirstFault text fault
