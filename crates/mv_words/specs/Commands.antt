-- What a command line asks for: the grammar of its words (docs/GUIDE.md, "Words").
use Rattle.std.specs.Prelude.{◌≡◌, ◌≤◌, ◌⊎◌, ℕ, List, [], ◌∷◌, Option, Some, None, codes, length, drop}
use Rattle.mv_scan.specs.Numbers.{decimal}
use Rattle.mv_words.specs.Words.{Text, Part, parts, free, values_of, places}
use Rattle.mv_words.specs.declared.command.Command.{Command}
use Rattle.mv_words.specs.declared.command.Command.TheVariants.{Run, Rehearse, Serve, Check, Rules, Audit, Show, Assemble, Load, Help, Version}
use Rattle.mv_words.specs.declared.addresses.Addresses.{Addresses}

-- the options that there are; where a command has no such option, it stands nowhere
abbrev pub option_names : List Text
option_names = codes "ring" ∷ codes "log" ∷ codes "listen" ∷ codes "console" ∷ []

-- the values that are given of each option, in order
pub record Values : Type 0 where
  pub rings : List Text
  pub logs : List Text
  pub listens : List Text
  pub consoles : List Text

abbrev pub values_in : List Part → Values
values_in said =
    record { rings = values_of (codes "ring") said; logs = values_of (codes "log") said; listens = values_of (codes "listen") said; consoles = values_of (codes "console") said }

-- the words behind a command word give these values of options, and these words by their place
pub record Gives (words : List Text) (values : Values) (placed : List Text) : Type 0 where
  pub said : List Part
  pub read : parts option_names words free ≡ Some said
  pub values_are : values_in said ≡ values
  pub placed_is : places said ≡ placed

-- no option is given twice
pub record AreSingle (values : Values) : Type 0 where
  pub ring : length values.rings ≤ 1
  pub log : length values.logs ≤ 1
  pub listen : length values.listens ≤ 1
  pub console : length values.consoles ≤ 1

-- 1 to 5 decimal digits, zeros may lead, of a number from the least to the most
pub record IsWithin (least most : ℕ) (text : Text) (n : ℕ) : Type 0 where
  pub short : length text ≤ 5
  pub is : decimal text ≡ Some n
  pub low : least ≤ n
  pub high : n ≤ most

-- the capacity of the feed, from 4 to 4,096: 256 unless it is given, which it is once at most
abbrev pub IsRing : List Text → ℕ → Type 0
IsRing [] n = n ≡ 256
IsRing (text ∷ []) n = IsWithin 4 4096 text n
IsRing (text ∷ other ∷ more) n = ⊥

-- the file for the log, which is given once at most
abbrev pub IsLog : List Text → Option Text → Type 0
IsLog [] log = log ≡ None
IsLog (path ∷ []) log = log ≡ Some path
IsLog (path ∷ other ∷ more) log = ⊥

-- no option is given
abbrev pub HasNone : Values → Type 0
HasNone values = values ≡ record { rings = []; logs = []; listens = []; consoles = [] }

-- of the options only the two addresses are given, each once at most; main takes them
pub record HasPlacesAlone (values : Values) : Type 0 where
  pub no_ring : values.rings ≡ []
  pub no_log : values.logs ≡ []
  pub single : AreSingle values

-- a capacity, and a file for the log or none; the two addresses may be given
pub record HasRun (values : Values) (ring : ℕ) (log : Option Text) : Type 0 where
  pub ring_is : IsRing values.rings ring
  pub log_is : IsLog values.logs log
  pub single : AreSingle values

-- the files of updates come in threes: a module, its forward rules, its reverse rules
abbrev pub AreInThrees : List Text → Type 0
AreInThrees [] = Unit {0}
AreInThrees (m ∷ []) = ⊥
AreInThrees (m ∷ f ∷ []) = ⊥
AreInThrees (m ∷ f ∷ r ∷ more) = AreInThrees more

-- one word, the number of connections of a load, from 1 to 10,000
abbrev pub IsSize : List Text → ℕ → Type 0
IsSize [] n = ⊥
IsSize (text ∷ []) n = IsWithin 1 10000 text n
IsSize (text ∷ other ∷ more) n = ⊥

-- what a command word asks for, with these values of options and these words by their place
abbrev pub Asks : Text → Values → List Text → Command → Type 0
Asks word values placed (Run old args) = (word ≡ codes "run") × HasPlacesAlone values × (placed ≡ old ∷ args)
Asks word values placed (Rehearse old schedule args ring log) = (word ≡ codes "rehearse") × HasRun values ring log × (placed ≡ old ∷ schedule ∷ args)
Asks word values placed (Serve old args ring log) = (word ≡ codes "serve") × HasRun values ring log × (placed ≡ old ∷ args)
Asks word values placed (Check path) = (word ≡ codes "check") × HasNone values × (placed ≡ path ∷ [])
Asks word values placed (Rules forward) = (word ≡ codes "rules") × HasNone values × (placed ≡ forward ∷ [])
Asks word values placed (Audit log old updates) = (word ≡ codes "audit") × HasNone values × (placed ≡ log ∷ old ∷ updates) × AreInThrees updates
Asks word values placed (Show log) = (word ≡ codes "show") × HasNone values × (placed ≡ log ∷ [])
Asks word values placed (Assemble text to) = (word ≡ codes "assemble") × HasNone values × (placed ≡ text ∷ to ∷ [])
Asks word values placed (Load connections) = (word ≡ codes "load") × HasNone values × IsSize placed connections
Asks word values placed Help = ⊥
Asks word values placed Version = ⊥

-- a command word, and what stands behind it
pub record IsAsked (words : List Text) (command : Command) : Type 0 where
  pub word : Text
  pub behind : List Text
  pub words_are : words ≡ word ∷ behind
  pub values : Values
  pub placed : List Text
  pub gives : Gives behind values placed
  pub asks : Asks word values placed command

abbrev pub IsCommandWord : Text → Type 0
IsCommandWord word =
    (word ≡ codes "run") ⊎ ((word ≡ codes "rehearse") ⊎ ((word ≡ codes "serve") ⊎ ((word ≡ codes "check") ⊎ ((word ≡ codes "rules") ⊎ ((word ≡ codes "audit") ⊎ ((word ≡ codes "show") ⊎ ((word ≡ codes "assemble") ⊎ (word ≡ codes "load"))))))))

-- the words of each command, the command word first
abbrev pub Says : List Text → Command → Type 0
Says words Help = (words ≡ codes "--help" ∷ []) ⊎ ((word : Text) × IsCommandWord word × (words ≡ word ∷ codes "--help" ∷ []))
Says words Version = words ≡ codes "--version" ∷ []
Says words command = IsAsked words command

-- ## The two addresses

abbrev pub default_listen : Text
default_listen = codes "127.0.0.1:7070"

abbrev pub default_console : Text
default_console = codes "127.0.0.1:7071"

abbrev pub first_or : Text → List Text → Text
first_or default [] = default
first_or default (value ∷ more) = value

-- Where a guest's listener and the operator's console are: where the words behind the first give each option once at most,
-- what `--listen` and `--console` name, and the default where they name nothing; else the defaults, since no command has
-- such words.
pub record ArePlaces (words : List Text) (addresses : Addresses) : Type 0 where
  pub listen : (values : Values) (placed : List Text) → AreSingle values → Gives (drop 1 words) values placed → addresses.listen ≡ first_or default_listen values.listens
  pub console : (values : Values) (placed : List Text) → AreSingle values → Gives (drop 1 words) values placed → addresses.console ≡ first_or default_console values.consoles
  pub else_listen : ((values : Values) (placed : List Text) → AreSingle values → Gives (drop 1 words) values placed → ⊥) → addresses.listen ≡ default_listen
  pub else_console : ((values : Values) (placed : List Text) → AreSingle values → Gives (drop 1 words) values placed → ⊥) → addresses.console ≡ default_console
