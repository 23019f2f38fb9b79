-- The grammar of a rules file: which files spell these rules (docs/FORMATS.md, "Rewrite rules"). A rule is a block of lines, a
-- file is its first line and such blocks. No line is judged by itself: nothing here says what is wrong with one. `parse_rules`
-- is proved to find exactly the rules that a file spells.
use Rattle.std.specs.Prelude.{◌≡◌, ◌⊎◌, ◌≤◌, ◌+◌, ℕ, Bool, true, false, List, [], ◌∷◌, ◌++◌, length, codes}
use Rattle.std.specs.List.{list_all}
use Rattle.mv_rules.specs.declared.rule.Pattern.{Pattern}
use Rattle.mv_rules.specs.declared.rule.Guard.{Guard}
use Rattle.mv_rules.specs.declared.rule.Rule.{Rule}
use Rattle.mv_rules.specs.declared.reading.Version.{Version}
use Rattle.mv_rules.specs.declared.reading.Version.TheVariants.{First, Second}
use Rattle.mv_scan.specs.declared.token.Token.{Token}
use Rattle.mv_scan.specs.declared.token.Token.TheVariants.{Plain}
use Rattle.mv_scan.specs.Words.{words_of}
use Rattle.mv_rules.specs.Names.{parts_in, has_again, is_all_bound, bytes_are_bound}
use Rattle.mv_scan.specs.Lines.{lines_of}
use Rattle.mv_rules.specs.ItemGrammar.{Left, Right, SpellsItem, SpellsGuard}

-- ## Lines that count

-- the number of a line, and its words
pub record Sentence : Type 0 where
  pub at : ℕ
  pub words : List Token

abbrev pub if_words : ℕ → List Token → List Sentence → List Sentence
if_words at [] rest = rest
if_words at (token ∷ tokens) rest = record { at = at; words = token ∷ tokens } ∷ rest

-- the lines that have words; the others may stand anywhere
abbrev pub sentences : ℕ → List (List ℕ) → List Sentence
sentences at [] = []
sentences at (line ∷ lines) = if_words at (words_of line) (sentences (at + 1) lines)

-- ## A rule

-- an item of the left, behind these: none of its byte names stood before
pub record SpellsLeftItem (before : List Pattern) (item : Pattern) (words : List Token) : Type 0 where
  pub spelled : SpellsItem Left item words
  pub once : has_again before [] (parts_in item) ≡ false

-- a guard, behind these items: one of them binds its name
pub record SpellsLeftGuard (version : Version) (before : List Pattern) (guard : Guard) (words : List Token) : Type 0 where
  pub second : version ≡ Second
  pub spelled : SpellsGuard guard words
  pub bound : bytes_are_bound before guard.name ≡ true

-- the lines of a left side behind these items: each is its next item, or its next guard
abbrev pub SpellsLeft : Version → List Pattern → List Pattern → List Guard → List Sentence → Type 0
SpellsLeft version before items guards [] = (items ≡ []) × (guards ≡ [])
SpellsLeft version before items guards (line ∷ lines) =
    ((item : Pattern) × (more : List Pattern) × (items ≡ item ∷ more) × SpellsLeftItem before item line.words × SpellsLeft version (before ++ (item ∷ [])) more guards lines)
    ⊎ ((guard : Guard) × (more : List Guard) × (guards ≡ guard ∷ more) × SpellsLeftGuard version before guard line.words × SpellsLeft version before items more lines)

-- an item of the right: the left binds each of its names under the same sign
pub record SpellsRightItem (version : Version) (left : List Pattern) (item : Pattern) (words : List Token) : Type 0 where
  pub spelled : SpellsItem (Right version) item words
  pub bound : is_all_bound left item ≡ true

-- the lines of a right side, item by item
abbrev pub SpellsRight : Version → List Pattern → List Pattern → List Sentence → Type 0
SpellsRight version left [] [] = Unit {0}
SpellsRight version left [] (line ∷ lines) = ⊥
SpellsRight version left (item ∷ items) [] = ⊥
SpellsRight version left (item ∷ items) (line ∷ lines) = SpellsRightItem version left item line.words × SpellsRight version left items lines

abbrev pub lone : ℕ → List ℕ → Sentence
lone at word = record { at = at; words = Plain word ∷ [] }

-- `rule`, the left side, `to`, the right side, `end`
pub record SpellsRule (version : Version) (rule : Rule) (block : List Sentence) : Type 0 where
  pub left_lines : List Sentence
  pub right_lines : List Sentence
  pub to_at : ℕ
  pub end_at : ℕ
  pub lines : block ≡ lone rule.line (codes "rule") ∷ (left_lines ++ (lone to_at (codes "to") ∷ (right_lines ++ (lone end_at (codes "end") ∷ []))))
  pub left : SpellsLeft version [] rule.left rule.guards left_lines
  pub right : SpellsRight version rule.left rule.right right_lines
  pub some : 1 ≤ length rule.left
  pub left_few : length rule.left ≤ 8
  pub guards_few : length rule.guards ≤ 8
  pub right_few : length rule.right ≤ 16

-- ## A file

-- rule by rule
abbrev pub SpellsEach : Version → List Rule → List Sentence → Type 0
SpellsEach version [] lines = lines ≡ []
SpellsEach version (rule ∷ rules) lines =
    (block : List Sentence) × (more : List Sentence) × (lines ≡ block ++ more) × SpellsRule version rule block × SpellsEach version rules more

-- the lines behind the first spell these rules, at most 64
pub record SpellsBody (version : Version) (lines : List (List ℕ)) (rules : List Rule) : Type 0 where
  pub each : SpellsEach version rules (sentences 2 lines)
  pub few : length rules ≤ 64

abbrev pub header : Version → List ℕ
header First = codes "mvrules 1"
header Second = codes "mvrules 2"

-- at most 65,536 bytes, of which the first line names this version
pub record HasHeader (text : List ℕ) (version : Version) (body : List (List ℕ)) : Type 0 where
  pub size : length text ≤ 65536
  pub lines : lines_of text ≡ header version ∷ body

-- the file spells these rules
pub record Spells (text : List ℕ) (rules : List Rule) : Type 0 where
  pub version : Version
  pub body : List (List ℕ)
  pub header : HasHeader text version body
  pub spelled : SpellsBody version body rules

-- ## Its first faulty line

-- some lines behind these make a file of them, its size aside
pub record CanGoOn (version : Version) (lines : List (List ℕ)) : Type 0 where
  pub more : List (List ℕ)
  pub rules : List Rule
  pub spelled : SpellsBody version (lines ++ more) rules

-- no lines behind these do
abbrev pub CannotGoOn : Version → List (List ℕ) → Type 0
CannotGoOn version lines = (more : List (List ℕ)) (rules : List Rule) → SpellsBody version (lines ++ more) rules → ⊥

-- the lines before this one can go on, and no longer with it
pub record StopsAt (version : Version) (body : List (List ℕ)) (at : ℕ) : Type 0 where
  pub before : List (List ℕ)
  pub line : List ℕ
  pub after : List (List ℕ)
  pub lines : body ≡ before ++ (line ∷ after)
  pub place : at ≡ length before + 2
  pub goes_on : CanGoOn version before
  pub stops : CannotGoOn version (before ++ (line ∷ []))

-- all lines can go on, but end too early; the place is behind the last
pub record EndsEarly (version : Version) (body : List (List ℕ)) (at : ℕ) : Type 0 where
  pub place : at ≡ length body + 2
  pub goes_on : CanGoOn version body
  pub stops : (rules : List Rule) → SpellsBody version body rules → ⊥

-- line 1 where the size or the first line is another, else the line where the rest stops
abbrev pub IsFirstFaultyLine : List ℕ → ℕ → Type 0
IsFirstFaultyLine text at =
    ((at ≡ 1) × ((version : Version) (body : List (List ℕ)) → HasHeader text version body → ⊥))
    ⊎ ((version : Version) × (body : List (List ℕ)) × HasHeader text version body × (StopsAt version body at ⊎ EndsEarly version body at))

-- both texts have this line, and the same lines up to it; neither is too large
pub record AgreeUpTo (at : ℕ) (text other : List ℕ) : Type 0 where
  pub front : List (List ℕ)
  pub behind : List (List ℕ)
  pub others : List (List ℕ)
  pub count : length front ≡ at
  pub lines : lines_of text ≡ front ++ behind
  pub other_lines : lines_of other ≡ front ++ others
  pub size : length text ≤ 65536
  pub other_size : length other ≤ 65536

-- ## Guards

-- each guard of the rule is on a byte name of its left side
abbrev pub has_bound_guards : Rule → Bool
has_bound_guards rule = list_all (λ guard. bytes_are_bound rule.left guard.name) rule.guards
