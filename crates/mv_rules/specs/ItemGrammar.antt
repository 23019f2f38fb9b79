-- What a line of a rule says, and the words that spell it (docs/FORMATS.md, "Rewrite rules"): for each row of its tables, the
-- words of the row. Nothing here reads a line.
use Rattle.std.specs.Prelude.{◌≡◌, ◌≤◌, ℕ, true, List, [], ◌∷◌, ◌++◌, length, Some, codes}
use Rattle.mv_rules.specs.declared.rule.FdTerm.{FdTerm}
use Rattle.mv_rules.specs.declared.rule.FdTerm.TheVariants as fds
use Rattle.mv_rules.specs.declared.rule.TimeTerm.{TimeTerm}
use Rattle.mv_rules.specs.declared.rule.TimeTerm.TheVariants as times
use Rattle.mv_rules.specs.declared.rule.Part.{Part}
use Rattle.mv_rules.specs.declared.rule.Part.TheVariants.{Text, Sized, Named, Length}
use Rattle.mv_rules.specs.declared.rule.Pattern.{Pattern}
use Rattle.mv_rules.specs.declared.rule.Pattern.TheVariants.{Read, ReadErrno, Write, WriteErrno, Accept, AcceptErrno, Close, CloseErrno, Shutdown, ShutdownErrno, Yield, Clock, Random}
use Rattle.mv_rules.specs.declared.rule.Comparison.{Comparison}
use Rattle.mv_rules.specs.declared.rule.Comparison.TheVariants.{Equal, Less, Greater}
use Rattle.mv_rules.specs.declared.rule.Guard.{Guard}
use Rattle.mv_rules.specs.declared.reading.Version.{Version}
use Rattle.mv_rules.specs.declared.reading.Version.TheVariants.{Second}
use Rattle.mv_scan.specs.declared.token.Token.{Token}
use Rattle.mv_scan.specs.declared.token.Token.TheVariants.{Plain, Quoted}
use Rattle.mv_scan.specs.Numbers.{decimal}
use Rattle.mv_scan.specs.WordGrammar.{SpellsNumber, SpellsName}
use Rattle.mv_rules.specs.Names.{rest_is_last}
use Rattle.mv_scan.specs.Names.{is_name}

-- where an item stands: on the left of a rule, or on the right in a text of this version
pub data Side : Type 0 where
  Left : Side
  Right : Version → Side

-- ## Words

abbrev pub arrow : Token
arrow = Plain (codes "->")

-- F: a number, or `$name`
abbrev pub SpellsFd : FdTerm → Token → Type 0
SpellsFd (fds.Number n) = SpellsNumber 0 4294967295 n
SpellsFd (fds.Name name) = SpellsName 36 name

-- T: a number, or `%name`
abbrev pub SpellsTime : TimeTerm → Token → Type 0
SpellsTime (times.Number n) = SpellsNumber 0 18446744073709551615 n
SpellsTime (times.Name name) = SpellsName 37 name

-- ## Parts

-- `@name:N`
pub record SpellsSized (name : List ℕ) (n : ℕ) (token : Token) : Type 0 where
  pub digits : List ℕ
  pub written : token ≡ Plain (64 ∷ (name ++ (58 ∷ digits)))
  pub good : is_name name ≡ true
  pub value : decimal digits ≡ Some n
  pub from : 1 ≤ n
  pub to : n ≤ 65536

-- the table of parts, by side
abbrev pub SpellsPart : Side → Part → Token → Type 0
SpellsPart side (Text text) token = token ≡ Quoted (Some text)
SpellsPart Left (Sized name n) token = SpellsSized name n token
SpellsPart (Right version) (Sized name n) token = ⊥
SpellsPart side (Named name) token = SpellsName 64 name token
SpellsPart (Right Second) (Length name) token = SpellsName 35 name token
SpellsPart side (Length name) token = ⊥

-- part by part
abbrev pub SpellsParts : Side → List Part → List Token → Type 0
SpellsParts side [] [] = Unit {0}
SpellsParts side [] (token ∷ tokens) = ⊥
SpellsParts side (part ∷ parts) [] = ⊥
SpellsParts side (part ∷ parts) (token ∷ tokens) = SpellsPart side part token × SpellsParts side parts tokens

-- on the left all the rest is the last part alone
abbrev pub MayStand : Side → List Part → Type 0
MayStand Left parts = rest_is_last parts ≡ true
MayStand (Right version) parts = Unit {0}

-- B: 1 to 16 parts
pub record SpellsBytes (side : Side) (parts : List Part) (tokens : List Token) : Type 0 where
  pub some : 1 ≤ length parts
  pub few : length parts ≤ 16
  pub each : SpellsParts side parts tokens
  pub order : MayStand side parts

-- ## Items

-- `errno N`
pub record SpellsErrno (n : ℕ) (tokens : List Token) : Type 0 where
  pub number : Token
  pub written : tokens ≡ Plain (codes "errno") ∷ number ∷ []
  pub value : SpellsNumber 1 65535 n number

-- the table of items
abbrev pub SpellsItem : Side → Pattern → List Token → Type 0
SpellsItem side (Read fd bytes) words =
    (f : Token) × (b : List Token) × (words ≡ Plain (codes "read") ∷ f ∷ arrow ∷ b) × SpellsFd fd f × SpellsBytes side bytes b
SpellsItem side (ReadErrno fd errno) words =
    (f : Token) × (e : List Token) × (words ≡ Plain (codes "read") ∷ f ∷ arrow ∷ e) × SpellsFd fd f × SpellsErrno errno e
SpellsItem side (Write fd bytes) words =
    (f : Token) × (b : List Token) × (words ≡ Plain (codes "write") ∷ f ∷ (b ++ (arrow ∷ Plain (codes "all") ∷ []))) × SpellsFd fd f × SpellsBytes side bytes b
SpellsItem side (WriteErrno fd bytes errno) words =
    (f : Token) × (b : List Token) × (e : List Token) × (words ≡ Plain (codes "write") ∷ f ∷ (b ++ (arrow ∷ e))) × SpellsFd fd f × SpellsBytes side bytes b × SpellsErrno errno e
SpellsItem side (Accept listener flags made) words =
    (f : Token) × (k : Token) × (m : Token) × (words ≡ Plain (codes "accept") ∷ f ∷ k ∷ arrow ∷ m ∷ []) × SpellsFd listener f × SpellsNumber 0 65535 flags k × SpellsFd made m
SpellsItem side (AcceptErrno listener flags errno) words =
    (f : Token) × (k : Token) × (e : List Token) × (words ≡ Plain (codes "accept") ∷ f ∷ k ∷ arrow ∷ e) × SpellsFd listener f × SpellsNumber 0 65535 flags k × SpellsErrno errno e
SpellsItem side (Close fd) words =
    (f : Token) × (words ≡ Plain (codes "close") ∷ f ∷ arrow ∷ Plain (codes "done") ∷ []) × SpellsFd fd f
SpellsItem side (CloseErrno fd errno) words =
    (f : Token) × (e : List Token) × (words ≡ Plain (codes "close") ∷ f ∷ arrow ∷ e) × SpellsFd fd f × SpellsErrno errno e
SpellsItem side (Shutdown fd how) words =
    (f : Token) × (h : Token) × (words ≡ Plain (codes "shutdown") ∷ f ∷ h ∷ arrow ∷ Plain (codes "done") ∷ []) × SpellsFd fd f × SpellsNumber 1 3 how h
SpellsItem side (ShutdownErrno fd how errno) words =
    (f : Token) × (h : Token) × (e : List Token) × (words ≡ Plain (codes "shutdown") ∷ f ∷ h ∷ arrow ∷ e) × SpellsFd fd f × SpellsNumber 1 3 how h × SpellsErrno errno e
SpellsItem side Yield words = words ≡ Plain (codes "yield") ∷ arrow ∷ Plain (codes "done") ∷ []
SpellsItem side (Clock id time) words =
    (i : Token) × (t : Token) × (words ≡ Plain (codes "clock") ∷ i ∷ arrow ∷ t ∷ []) × SpellsNumber 0 1 id i × SpellsTime time t
SpellsItem side (Random bytes) words =
    (b : List Token) × (words ≡ Plain (codes "random") ∷ arrow ∷ b) × SpellsBytes side bytes b

-- ## Guards

abbrev pub sign_of : Comparison → List ℕ
sign_of Equal = codes "="
sign_of Less = codes "<"
sign_of Greater = codes ">"

-- `when @name OP N`
pub record SpellsGuard (guard : Guard) (words : List Token) : Type 0 where
  pub name : Token
  pub number : Token
  pub written : words ≡ Plain (codes "when") ∷ name ∷ Plain (sign_of guard.comparison) ∷ number ∷ []
  pub named : SpellsName 64 guard.name name
  pub length : SpellsNumber 0 65536 guard.length number
