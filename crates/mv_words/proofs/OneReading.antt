-- Words ask for one thing.
use Rattle.std.proofs.Common.{◌≡◌, ◌≤◌, [], ◌∷◌, ℕ, List, codes, refl, ap, sym, ◌∙◌, subst, Option, Some, None, inl, inr, ◌⊎◌}
use Rattle.std.specs.Prelude.{if◌then◌else◌, unwrap_or}
use Rattle.std.specs.Str.{bytes_eq}
use Rattle.mv_scan.specs.Numbers.{decimal}
use Rattle.mv_words.specs.Words.{Text, Part, parts, free, places}
use Rattle.mv_words.specs.Commands.{option_names, Gives, IsLog, IsRing, IsSize, Asks, IsAsked, IsCommandWord, Says, Values, values_in}
use Rattle.mv_words.specs.declared.command.Command.{Command}
use Rattle.mv_words.specs.declared.command.Command.TheVariants.{Run, Rehearse, Serve, Check, Rules, Audit, Show, Assemble, Load, Help, Version}

head_is : (a b : Text) (xs ys : List Text) → a ∷ xs ≡ b ∷ ys → a ≡ b
head_is a b xs ys e = cc

tail_is : (a b : Text) (xs ys : List Text) → a ∷ xs ≡ b ∷ ys → xs ≡ ys
tail_is a b xs ys e = cc

-- ---- a command word, the values of options and the words by place have one command: it is computed

abbrev ring_in : List Text → ℕ
ring_in [] = 256
ring_in (text ∷ more) = unwrap_or (decimal text) 0

abbrev log_in : List Text → Option Text
log_in [] = None
log_in (path ∷ more) = Some path

ring_is : (rings : List Text) (n : ℕ) → IsRing rings n → ring_in rings ≡ n
ring_is [] n ring = sym ring
ring_is (text ∷ []) n ring = ap (λ (o : Option ℕ). unwrap_or o 0) ring.is
ring_is (text ∷ other ∷ more) n ring = absurd ring

log_is : (logs : List Text) (log : Option Text) → IsLog logs log → log_in logs ≡ log
log_is [] log is = sym is
log_is (path ∷ []) log is = sym is
log_is (path ∷ other ∷ more) log is = absurd is

abbrev run_in : List Text → Option Command
run_in [] = None
run_in (old ∷ args) = Some (Run old args)

abbrev rehearsal_in : ℕ → Option Text → List Text → Option Command
rehearsal_in ring log [] = None
rehearsal_in ring log (old ∷ []) = None
rehearsal_in ring log (old ∷ schedule ∷ args) = Some (Rehearse old schedule args ring log)

abbrev service_in : ℕ → Option Text → List Text → Option Command
service_in ring log [] = None
service_in ring log (old ∷ args) = Some (Serve old args ring log)

abbrev check_in : List Text → Option Command
check_in [] = None
check_in (path ∷ more) = Some (Check path)

abbrev rules_in : List Text → Option Command
rules_in [] = None
rules_in (forward ∷ more) = Some (Rules forward)

abbrev audit_in : List Text → Option Command
audit_in [] = None
audit_in (log ∷ []) = None
audit_in (log ∷ old ∷ updates) = Some (Audit log old updates)

abbrev show_in : List Text → Option Command
show_in [] = None
show_in (log ∷ more) = Some (Show log)

abbrev assembly_in : List Text → Option Command
assembly_in [] = None
assembly_in (text ∷ []) = None
assembly_in (text ∷ to ∷ more) = Some (Assemble text to)

abbrev load_in : List Text → Option Command
load_in [] = None
load_in (text ∷ more) = Some (Load (unwrap_or (decimal text) 0))

load_is : (placed : List Text) (n : ℕ) → IsSize placed n → load_in placed ≡ Some (Load n)
load_is [] n is = absurd is
load_is (text ∷ []) n is = ap (λ (o : Option ℕ). Some (Load (unwrap_or o 0))) is.is
load_is (text ∷ other ∷ more) n is = absurd is

abbrev choice : Text → (run rehearsal service check rules audit show assembly load : Option Command) → Option Command
choice word run rehearsal service check rules audit show assembly load =
    if bytes_eq word (codes "run") then run else (if bytes_eq word (codes "rehearse") then rehearsal else (if bytes_eq word (codes "serve") then service else (if bytes_eq word (codes "check") then check
    else (if bytes_eq word (codes "rules") then rules else (if bytes_eq word (codes "audit") then audit else (if bytes_eq word (codes "show") then show
    else (if bytes_eq word (codes "assemble") then assembly else load)))))))

abbrev asked : Text → ℕ → Option Text → List Text → Option Command
asked word ring log placed = choice word (run_in placed) (rehearsal_in ring log placed) (service_in ring log placed) (check_in placed) (rules_in placed) (audit_in placed) (show_in placed) (assembly_in placed) (load_in placed)

abbrev command_in : Text → Values → List Text → Option Command
command_in word values placed = asked word (ring_in values.rings) (log_in values.logs) placed

asked_by : (word : Text) (ring : ℕ) (log : Option Text) (placed : List Text) (w : Text) (r : ℕ) (l : Option Text) (ps : List Text) (c : Command) → word ≡ w → ring ≡ r → log ≡ l → placed ≡ ps → asked w r l ps ≡ Some c → asked word ring log placed ≡ Some c
asked_by word ring log placed w r l ps c a b d e is = rw (a, b, d, e) is

computed : (word : Text) (values : Values) (placed : List Text) (c : Command) → Asks word values placed c → command_in word values placed ≡ Some c
computed word values placed (Run old args) asks = asked_by word _ _ placed _ _ _ _ _ asks.0 refl refl asks.2 refl
computed word values placed (Rehearse old schedule args ring log) asks =
    asked_by word _ _ placed _ ring log _ _ asks.0 (ring_is values.rings ring asks.1.ring_is) (log_is values.logs log asks.1.log_is) asks.2 refl
computed word values placed (Serve old args ring log) asks =
    asked_by word _ _ placed _ ring log _ _ asks.0 (ring_is values.rings ring asks.1.ring_is) (log_is values.logs log asks.1.log_is) asks.2 refl
computed word values placed (Check path) asks = asked_by word _ _ placed _ _ _ _ _ asks.0 refl refl asks.2 refl
computed word values placed (Rules forward) asks = asked_by word _ _ placed _ _ _ _ _ asks.0 refl refl asks.2 refl
computed word values placed (Audit log old updates) asks = asked_by word _ _ placed _ _ _ _ _ asks.0 refl refl asks.2 refl
computed word values placed (Show log) asks = asked_by word _ _ placed _ _ _ _ _ asks.0 refl refl asks.2 refl
computed word values placed (Assemble text to) asks = asked_by word _ _ placed _ _ _ _ _ asks.0 refl refl asks.2 refl
computed word values placed (Load connections) asks = asked_by word _ _ placed _ _ _ _ _ asks.0 refl refl refl (load_is placed connections asks.2)
computed word values placed Help asks = absurd asks
computed word values placed Version asks = absurd asks

abbrev some_command : Command → Option Command
some_command c = Some c

same_command : (a b : Command) → some_command a ≡ some_command b → a ≡ b
same_command a b e = cc

one_asked : (word : Text) (values : Values) (placed : List Text) (c d : Command) → Asks word values placed c → Asks word values placed d → c ≡ d
one_asked word values placed c d first second = same_command c d (sym (computed word values placed c first) ∙ computed word values placed d second)

abbrev some_parts : List Part → Option (List Part)
some_parts ps = Some ps

same_parts : (a b : List Part) → some_parts a ≡ some_parts b → a ≡ b
same_parts a b e = cc

both_asked : (words : List Text) (c d : Command) → IsAsked words c → IsAsked words d → c ≡ d
both_asked words c d first second =
    let are = sym first.words_are ∙ second.words_are in
    let word : second.word ≡ first.word = sym (head_is _ _ _ _ are) in
    let behind : second.behind ≡ first.behind = sym (tail_is _ _ _ _ are) in
    let said : second.gives.said ≡ first.gives.said = same_parts _ _ (sym second.gives.read ∙ ap (λ (ws : List Text). parts option_names ws free) behind ∙ first.gives.read) in
    let values : second.values ≡ first.values = sym second.gives.values_are ∙ ap values_in said ∙ first.gives.values_are in
    let placed : second.placed ≡ first.placed = sym second.gives.placed_is ∙ ap places said ∙ first.gives.placed_is in
    let asks : Asks first.word first.values first.placed d =
    subst (λ (w : Text). Asks w first.values first.placed d) word (subst (λ (vs : Values). Asks second.word vs first.placed d) values (subst (λ (ps : List Text). Asks second.word second.values ps d) placed second.asks)) in
    one_asked first.word first.values first.placed c d first.asks asks

-- ---- what asks about the program asks for nothing else

abbrev no_parts : Option (List Part)
no_parts = None

help_gives_nothing : (values : Values) (placed : List Text) → Gives (codes "--help" ∷ []) values placed → ⊥
unfolding parts
help_gives_nothing values placed gives = let bad : no_parts ≡ Some gives.said = gives.read in absurd cc

command_word : (word : Text) (values : Values) (placed : List Text) (c : Command) → Asks word values placed c → IsCommandWord word
command_word word values placed (Run old args) asks = inl asks.0
command_word word values placed (Rehearse old schedule args ring log) asks = inr (inl asks.0)
command_word word values placed (Serve old args ring log) asks = inr (inr (inl asks.0))
command_word word values placed (Check path) asks = inr (inr (inr (inl asks.0)))
command_word word values placed (Rules forward) asks = inr (inr (inr (inr (inl asks.0))))
command_word word values placed (Audit log old updates) asks = inr (inr (inr (inr (inr (inl asks.0)))))
command_word word values placed (Show log) asks = inr (inr (inr (inr (inr (inr (inl asks.0))))))
command_word word values placed (Assemble text to) asks = inr (inr (inr (inr (inr (inr (inr (inl asks.0)))))))
command_word word values placed (Load connections) asks = inr (inr (inr (inr (inr (inr (inr (inr asks.0)))))))
command_word word values placed Help asks = absurd asks
command_word word values placed Version asks = absurd asks

help_no_word : (word : Text) → word ≡ codes "--help" → IsCommandWord word → ⊥
help_no_word word e (inl is) = let bad : codes "--help" ≡ codes "run" = sym e ∙ is in absurd cc
help_no_word word e (inr (inl is)) = let bad : codes "--help" ≡ codes "rehearse" = sym e ∙ is in absurd cc
help_no_word word e (inr (inr (inl is))) = let bad : codes "--help" ≡ codes "serve" = sym e ∙ is in absurd cc
help_no_word word e (inr (inr (inr (inl is)))) = let bad : codes "--help" ≡ codes "check" = sym e ∙ is in absurd cc
help_no_word word e (inr (inr (inr (inr (inl is))))) = let bad : codes "--help" ≡ codes "rules" = sym e ∙ is in absurd cc
help_no_word word e (inr (inr (inr (inr (inr (inl is)))))) = let bad : codes "--help" ≡ codes "audit" = sym e ∙ is in absurd cc
help_no_word word e (inr (inr (inr (inr (inr (inr (inl is))))))) = let bad : codes "--help" ≡ codes "show" = sym e ∙ is in absurd cc
help_no_word word e (inr (inr (inr (inr (inr (inr (inr (inl is)))))))) = let bad : codes "--help" ≡ codes "assemble" = sym e ∙ is in absurd cc
help_no_word word e (inr (inr (inr (inr (inr (inr (inr (inr is)))))))) = let bad : codes "--help" ≡ codes "load" = sym e ∙ is in absurd cc

version_no_word : (word : Text) → word ≡ codes "--version" → IsCommandWord word → ⊥
version_no_word word e (inl is) = let bad : codes "--version" ≡ codes "run" = sym e ∙ is in absurd cc
version_no_word word e (inr (inl is)) = let bad : codes "--version" ≡ codes "rehearse" = sym e ∙ is in absurd cc
version_no_word word e (inr (inr (inl is))) = let bad : codes "--version" ≡ codes "serve" = sym e ∙ is in absurd cc
version_no_word word e (inr (inr (inr (inl is)))) = let bad : codes "--version" ≡ codes "check" = sym e ∙ is in absurd cc
version_no_word word e (inr (inr (inr (inr (inl is))))) = let bad : codes "--version" ≡ codes "rules" = sym e ∙ is in absurd cc
version_no_word word e (inr (inr (inr (inr (inr (inl is)))))) = let bad : codes "--version" ≡ codes "audit" = sym e ∙ is in absurd cc
version_no_word word e (inr (inr (inr (inr (inr (inr (inl is))))))) = let bad : codes "--version" ≡ codes "show" = sym e ∙ is in absurd cc
version_no_word word e (inr (inr (inr (inr (inr (inr (inr (inl is)))))))) = let bad : codes "--version" ≡ codes "assemble" = sym e ∙ is in absurd cc
version_no_word word e (inr (inr (inr (inr (inr (inr (inr (inr is)))))))) = let bad : codes "--version" ≡ codes "load" = sym e ∙ is in absurd cc

help_asks_nothing : (words : List Text) (c : Command) → Says words Help → IsAsked words c → ⊥
help_asks_nothing words c (inl is) asked = help_no_word asked.word (head_is _ _ _ _ (sym asked.words_are ∙ is)) (command_word _ _ _ c asked.asks)
help_asks_nothing words c (inr is) asked =
    let behind : asked.behind ≡ codes "--help" ∷ [] = tail_is _ _ _ _ (sym asked.words_are ∙ is.2) in
    help_gives_nothing asked.values asked.placed (subst (λ (ws : List Text). Gives ws asked.values asked.placed) behind asked.gives)

version_asks_nothing : (words : List Text) (c : Command) → Says words Version → IsAsked words c → ⊥
version_asks_nothing words c is asked = version_no_word asked.word (head_is _ _ _ _ (sym asked.words_are ∙ is)) (command_word _ _ _ c asked.asks)

help_no_version : (words : List Text) → Says words Help → Says words Version → ⊥
help_no_version words (inl help) version = let bad : codes "--help" ≡ codes "--version" = head_is _ _ [] [] (sym help ∙ version) in absurd cc
help_no_version words (inr help) version = version_no_word help.0 (head_is _ _ _ _ (sym help.2 ∙ version)) help.1

-- one of three things is said
abbrev OneOfThree : List Text → Command → Type 0
OneOfThree words c = IsAsked words c ⊎ (((c ≡ Help) × Says words Help) ⊎ ((c ≡ Version) × Says words Version))

three : (words : List Text) (c : Command) → Says words c → OneOfThree words c
three words (Run old args) says = inl says
three words (Rehearse old schedule args ring log) says = inl says
three words (Serve old args ring log) says = inl says
three words (Check path) says = inl says
three words (Rules forward) says = inl says
three words (Audit log old updates) says = inl says
three words (Show log) says = inl says
three words (Assemble text to) says = inl says
three words (Load connections) says = inl says
three words Help says = inr (inl (refl, says))
three words Version says = inr (inr (refl, says))

of_three : (words : List Text) (c d : Command) → OneOfThree words c → OneOfThree words d → c ≡ d
of_three words c d (inl first) (inl second) = both_asked words c d first second
of_three words c d (inl first) (inr (inl second)) = absurd (help_asks_nothing words c second.1 first)
of_three words c d (inl first) (inr (inr second)) = absurd (version_asks_nothing words c second.1 first)
of_three words c d (inr (inl first)) (inl second) = absurd (help_asks_nothing words d first.1 second)
of_three words c d (inr (inl first)) (inr (inl second)) = first.0 ∙ sym second.0
of_three words c d (inr (inl first)) (inr (inr second)) = absurd (help_no_version words first.1 second.1)
of_three words c d (inr (inr first)) (inl second) = absurd (version_asks_nothing words d first.1 second)
of_three words c d (inr (inr first)) (inr (inl second)) = absurd (help_no_version words second.1 first.1)
of_three words c d (inr (inr first)) (inr (inr second)) = first.0 ∙ sym second.0

-- what words ask for is one thing
pub one_reading : (words : List Text) (c d : Command) → Says words c → Says words d → c ≡ d
one_reading words c d first second = of_three words c d (three words c first) (three words d second)

size_within : (placed : List Text) (n : ℕ) → IsSize placed n → (1 ≤ n) × (n ≤ 10000)
size_within [] n is = absurd is
size_within (text ∷ []) n is = (is.low, is.high)
size_within (text ∷ other ∷ more) n is = absurd is

-- a load that words ask for has 1 to 10,000 connections
pub load_within : (words : List Text) (n : ℕ) → Says words (Load n) → (1 ≤ n) × (n ≤ 10000)
load_within words n says = size_within says.placed n says.asks.2
