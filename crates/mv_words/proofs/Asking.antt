-- Words that are a command's, and words that are none's.
use Rattle.std.proofs.Common.{◌≡◌, ◌≤◌, ◌<◌, [], ◌∷◌, ℕ, List, true, false, length, codes, refl, ap, sym, ◌∙◌, subst, Option, Some, arith, drop, map, get_or, inl, inr, take, ◌-◌, ◌%◌, suc}
use Rattle.std.specs.Prelude.{◌==◌, IfOk, IsErrOf, Result, Ok, Err}
use Rattle.std.specs.Str.{bytes_eq}
use Rattle.std.proofs.lemmas.List.{take_all, length-map, length-take, length-drop}
use Rattle.std.proofs.lemmas.Slice.Eq.{bytes_eq-Decides}
use Rattle.mv_words.specs.Words.{Text, Part, parts, free, places}
use Rattle.mv_words.specs.Commands.{option_names, AreInThrees, AreSingle, Gives, HasNone, Asks, IsAsked, Says, Values, values_in}
use Rattle.mv_words.specs.declared.command.Command.{Command}
use Rattle.mv_words.specs.declared.command.Command.TheVariants.{Run, Rehearse, Serve, Check, Rules, Audit, Show, Assemble, Load, Help, Version}

-- one word
pub one_text : {A : Type 0} (f : A → Text) (xs : List A) (a : A) (w : Text) → length xs ≡ 1 → true ≡ bytes_eq (f (get_or xs 0 a)) w → map f xs ≡ w ∷ []
one_text f [] a w n e = absurd (omega (arith, n))
one_text f (x ∷ []) a w n e = ap (λ (t : Text). t ∷ []) ((bytes_eq-Decides (f x) w).0 (sym e))
one_text f (x ∷ y ∷ ys) a w n e = absurd (omega (arith, n))

-- two words
pub two_texts : {A : Type 0} (f : A → Text) (xs : List A) (a : A) (w : Text) → length xs ≡ 2 → true ≡ bytes_eq (f (get_or xs 1 a)) w → map f xs ≡ f (get_or xs 0 a) ∷ w ∷ []
two_texts f [] a w n e = absurd (omega (arith, n))
two_texts f (x ∷ []) a w n e = absurd (omega (arith, n))
two_texts f (x ∷ y ∷ []) a w n e = ap (λ (t : Text). f x ∷ t ∷ []) ((bytes_eq-Decides (f y) w).0 (sym e))
two_texts f (x ∷ y ∷ z ∷ zs) a w n e = absurd (omega (arith, n))

-- the first word, and what stands behind it
pub first_and_rest : {A : Type 0} (f : A → Text) (xs : List A) (a : A) → 0 < length xs → map f xs ≡ f (get_or xs 0 a) ∷ drop 1 (map f xs)
first_and_rest f [] a some = absurd (omega arith)
first_and_rest f (x ∷ xs) a some = refl

none_single : (values : Values) → HasNone values → AreSingle values
none_single values e = rw e (record { ring = omega arith; log = omega arith; listen = omega arith; console = omega arith })

-- a command's options are each given once at most
single_asked : (word : Text) (values : Values) (placed : List Text) (command : Command) → Asks word values placed command → AreSingle values
single_asked word values placed (Run old args) asks = asks.1.single
single_asked word values placed (Rehearse old schedule args ring log) asks = asks.1.single
single_asked word values placed (Serve old args ring log) asks = asks.1.single
single_asked word values placed (Check path) asks = none_single values asks.1
single_asked word values placed (Rules forward) asks = none_single values asks.1
single_asked word values placed (Audit log old updates) asks = none_single values asks.1
single_asked word values placed (Show log) asks = none_single values asks.1
single_asked word values placed (Assemble text to) asks = none_single values asks.1
single_asked word values placed (Load connections) asks = none_single values asks.1
single_asked word values placed Help asks = absurd asks
single_asked word values placed Version asks = absurd asks

-- what a command word asks for is what the words say
pub says_by : (words : List Text) (word : Text) (values : Values) (placed : List Text) (command : Command) → words ≡ word ∷ drop 1 words → Gives (drop 1 words) values placed → Asks word values placed command → Says words command
says_by words word values placed (Run old args) are gives asks = record { word = word; behind = drop 1 words; words_are = are; values = values; placed = placed; gives = gives; asks = asks }
says_by words word values placed (Rehearse old schedule args ring log) are gives asks = record { word = word; behind = drop 1 words; words_are = are; values = values; placed = placed; gives = gives; asks = asks }
says_by words word values placed (Serve old args ring log) are gives asks = record { word = word; behind = drop 1 words; words_are = are; values = values; placed = placed; gives = gives; asks = asks }
says_by words word values placed (Check path) are gives asks = record { word = word; behind = drop 1 words; words_are = are; values = values; placed = placed; gives = gives; asks = asks }
says_by words word values placed (Rules forward) are gives asks = record { word = word; behind = drop 1 words; words_are = are; values = values; placed = placed; gives = gives; asks = asks }
says_by words word values placed (Audit log old updates) are gives asks = record { word = word; behind = drop 1 words; words_are = are; values = values; placed = placed; gives = gives; asks = asks }
says_by words word values placed (Show log) are gives asks = record { word = word; behind = drop 1 words; words_are = are; values = values; placed = placed; gives = gives; asks = asks }
says_by words word values placed (Assemble text to) are gives asks = record { word = word; behind = drop 1 words; words_are = are; values = values; placed = placed; gives = gives; asks = asks }
says_by words word values placed (Load connections) are gives asks = record { word = word; behind = drop 1 words; words_are = are; values = values; placed = placed; gives = gives; asks = asks }
says_by words word values placed Help are gives asks = absurd asks
says_by words word values placed Version are gives asks = absurd asks

-- an answer that means one thing means another
pub if_ok : {T E : Type 0} (r : Result T E) (P Q : T → Type 0) → ((x : T) → P x → Q x) → IfOk r P → IfOk r Q
if_ok (Ok x) P Q more h = more x h
if_ok (Err e) P Q more h = tt

-- ---- words that are no command's

-- whatever stands behind the command word, no command is asked for
abbrev AsksNothing : List Text → Type 0
AsksNothing words = (command : Command) → IsAsked words command → ⊥

no_command : (words : List Text) → (Says words Help → ⊥) → (Says words Version → ⊥) → AsksNothing words → (command : Command) → Says words command → ⊥
no_command words no_help no_version none (Run old args) says = none (Run old args) says
no_command words no_help no_version none (Rehearse old schedule args ring log) says = none (Rehearse old schedule args ring log) says
no_command words no_help no_version none (Serve old args ring log) says = none (Serve old args ring log) says
no_command words no_help no_version none (Check path) says = none (Check path) says
no_command words no_help no_version none (Rules forward) says = none (Rules forward) says
no_command words no_help no_version none (Audit log old updates) says = none (Audit log old updates) says
no_command words no_help no_version none (Show log) says = none (Show log) says
no_command words no_help no_version none (Assemble text to) says = none (Assemble text to) says
no_command words no_help no_version none (Load connections) says = none (Load connections) says
no_command words no_help no_version none Help says = no_help says
no_command words no_help no_version none Version says = no_version says

same_tail : (a b : Text) (xs ys : List Text) → a ∷ xs ≡ b ∷ ys → xs ≡ ys
same_tail a b xs ys e = cc

same_head : (a b : Text) (xs ys : List Text) → a ∷ xs ≡ b ∷ ys → a ≡ b
same_head a b xs ys e = cc

abbrev some_parts : List Part → Option (List Part)
some_parts ps = Some ps

same_parts : (a b : List Part) → some_parts a ≡ some_parts b → a ≡ b
same_parts a b e = cc

none_stands : (word : Text) (behind : List Text) → [] ≡ word ∷ behind → ⊥
none_stands word behind e = cc

-- there is no word
pub no_words : (words : List Text) → words ≡ [] → (command : Command) → Says words command → ⊥
no_words words e =
    no_command words (λ help. elim help [ inl is ↦ none_stands _ _ (sym e ∙ is) | inr is ↦ none_stands _ _ (sym e ∙ is.2) ]) (λ is. none_stands _ _ (sym e ∙ is)) (λ command is. none_stands _ _ (sym e ∙ is.words_are))

-- the words behind the first give nothing
pub nothing_given : (words : List Text) (word : Text) → words ≡ word ∷ drop 1 words → (Says words Help → ⊥) → (Says words Version → ⊥) → ((values : Values) (placed : List Text) → AreSingle values → Gives (drop 1 words) values placed → ⊥)
    → (command : Command) → Says words command → ⊥
nothing_given words word are no_help no_version none = no_command words no_help no_version (λ command is.
    let behind : is.behind ≡ drop 1 words = sym (same_tail _ _ _ _ (sym are ∙ is.words_are)) in
    none is.values is.placed (single_asked is.word is.values is.placed command is.asks) (subst (λ (ws : List Text). Gives ws is.values is.placed) behind is.gives))

-- what they give is no command's
pub nothing_asked : (words : List Text) (word : Text) (values : Values) (placed : List Text) → words ≡ word ∷ drop 1 words → (Says words Help → ⊥) → (Says words Version → ⊥) → Gives (drop 1 words) values placed
    → ((command : Command) → Asks word values placed command → ⊥) → (command : Command) → Says words command → ⊥
nothing_asked words word values placed are no_help no_version gives none = no_command words no_help no_version (λ command is.
    let behind : is.behind ≡ drop 1 words = sym (same_tail _ _ _ _ (sym are ∙ is.words_are)) in
    let same_word : is.word ≡ word = sym (same_head _ _ _ _ (sym are ∙ is.words_are)) in
    let said : is.gives.said ≡ gives.said = same_parts _ _ (sym is.gives.read ∙ ap (λ (ws : List Text). parts option_names ws free) behind ∙ gives.read) in
    let same_values : is.values ≡ values = sym is.gives.values_are ∙ ap values_in said ∙ gives.values_are in
    let same_placed : is.placed ≡ placed = sym is.gives.placed_is ∙ ap places said ∙ gives.placed_is in
    none command (subst (λ (w : Text). Asks w values placed command) same_word
    (subst (λ (vs : Values). Asks is.word vs placed command) same_values (subst (λ (ps : List Text). Asks is.word is.values ps command) same_placed is.asks))))

-- one word by its place
pub one_place : {A : Type 0} (f : A → Text) (xs : List A) (a : A) (w : Text) → length xs ≡ 1 → w ≡ f (get_or xs 0 a) → map f xs ≡ w ∷ []
one_place f [] a w n e = absurd (omega (arith, n))
one_place f (x ∷ []) a w n e = ap (λ (t : Text). t ∷ []) (sym e)
one_place f (x ∷ y ∷ ys) a w n e = absurd (omega (arith, n))

-- where there is a word, it is the first, and the others stand behind it
pub first_of_some : {A : Type 0} (f : A → Text) (xs : List A) (a : A) → false ≡ (length xs == 0) → map f xs ≡ f (get_or xs 0 a) ∷ drop 1 (map f xs)
first_of_some f [] a e = absurd cc
first_of_some f (x ∷ xs) a e = refl

-- the same, of words that are seen in some way
pub nothing_given_of : {A : Type 0} (f : A → Text) (xs : List A) → false ≡ (length xs == 0) → (Says (map f xs) Help → ⊥) → (Says (map f xs) Version → ⊥) → ((values : Values) (placed : List Text) → AreSingle values → Gives (drop 1 (map f xs)) values placed → ⊥)
    → (command : Command) → Says (map f xs) command → ⊥
nothing_given_of f [] e no_help no_version none = absurd cc
nothing_given_of f (x ∷ xs) e no_help no_version none = nothing_given (map f (x ∷ xs)) (f x) refl no_help no_version none

abbrev err_of : {T E : Type 0} → E → Result T E
err_of e = Err e

same_err : {T E : Type 0} (a b : E) → err_of {T = T} a ≡ err_of {T = T} b → a ≡ b
same_err a b e = cc

-- an error is one whatever the answer would be
pub other_err : {S T E : Type 0} (a b : E) → IsErrOf {T = T} {E = E} (Err a) b → IsErrOf {T = S} {E = E} (Err a) b
other_err {S = S} {T = T} a b e = ap (err_of {T = S}) (same_err {T = T} a b e)

-- ---- files in threes

by_three : (n : ℕ) → suc (suc (suc n)) % 3 ≡ 0 → n % 3 ≡ 0
by_three n e = omega arith

three_more : (n : ℕ) → n % 3 ≡ 0 → suc (suc (suc n)) % 3 ≡ 0
three_more n e = omega arith

pub threes : (files : List Text) → length files % 3 ≡ 0 → AreInThrees files
threes [] e = tt
threes (m ∷ []) e = absurd (omega (arith, e))
threes (m ∷ f ∷ []) e = absurd (omega (arith, e))
threes (m ∷ f ∷ r ∷ more) e = threes more (by_three (length more) e)

pub threes_length : (files : List Text) → AreInThrees files → length files % 3 ≡ 0
threes_length [] t = refl
threes_length (m ∷ []) t = absurd t
threes_length (m ∷ f ∷ []) t = absurd t
threes_length (m ∷ f ∷ r ∷ more) t = three_more (length more) (threes_length more t)

-- what an audit is asked with
pub record IsAudit (placed : List Text) : Type 0 where
  pub enough : 2 ≤ length placed
  pub in_threes : (length placed - 2) % 3 ≡ 0

audit_length : (placed : List Text) (log old : Text) (updates : List Text) → placed ≡ log ∷ old ∷ updates → AreInThrees updates → IsAudit placed
audit_length placed log old updates e t =
    let n : length updates ≡ length (log ∷ old ∷ updates) - 2 = omega arith in
    rw e (record { enough = omega arith; in_threes = subst (λ (k : ℕ). k % 3 ≡ 0) n (threes_length updates t) })

abbrev letter : Text → ℕ → ℕ
letter word n = get_or word n 0

other_word : (a b : Text) (n : ℕ) → (letter a n ≡ letter b n → ⊥) → a ≡ b → ⊥
other_word a b n differ e = differ (ap (λ (w : Text). letter w n) e)

pub audit_asked : (values : Values) (placed : List Text) (command : Command) → Asks (codes "audit") values placed command → IsAudit placed
audit_asked values placed (Audit log old updates) asks = audit_length placed log old updates asks.2 asks.3
audit_asked values placed (Run old args) asks = absurd (other_word (codes "audit") (codes "run") 0 (λ (letters : 97 ≡ 114). omega (arith, letters)) asks.0)
audit_asked values placed (Rehearse old schedule args ring log) asks = absurd (other_word (codes "audit") (codes "rehearse") 0 (λ (letters : 97 ≡ 114). omega (arith, letters)) asks.0)
audit_asked values placed (Serve old args ring log) asks = absurd (other_word (codes "audit") (codes "serve") 0 (λ (letters : 97 ≡ 115). omega (arith, letters)) asks.0)
audit_asked values placed (Check path) asks = absurd (other_word (codes "audit") (codes "check") 0 (λ (letters : 97 ≡ 99). omega (arith, letters)) asks.0)
audit_asked values placed (Rules forward) asks = absurd (other_word (codes "audit") (codes "rules") 0 (λ (letters : 97 ≡ 114). omega (arith, letters)) asks.0)
audit_asked values placed (Show log) asks = absurd (other_word (codes "audit") (codes "show") 0 (λ (letters : 97 ≡ 115). omega (arith, letters)) asks.0)
audit_asked values placed (Assemble text to) asks = absurd (other_word (codes "audit") (codes "assemble") 1 (λ (letters : 117 ≡ 115). omega (arith, letters)) asks.0)
audit_asked values placed (Load connections) asks = absurd (other_word (codes "audit") (codes "load") 0 (λ (letters : 97 ≡ 108). omega (arith, letters)) asks.0)
audit_asked values placed Help asks = absurd asks
audit_asked values placed Version asks = absurd asks

-- the log, the first module, and the files of the updates
audit_files : {A : Type 0} (f : A → Text) (xs : List A) (a b : A) → 2 ≤ length xs → map f xs ≡ f (get_or xs 0 a) ∷ f (get_or xs 1 b) ∷ map f (take (length xs - 2) (drop 2 xs))
audit_files f [] a b e = absurd (omega arith)
audit_files f (x ∷ []) a b e = absurd (omega arith)
audit_files f (x ∷ y ∷ zs) a b e = ap (λ (ws : List _). f x ∷ f y ∷ map f ws) (sym (take_all (length (x ∷ y ∷ zs) - 2) zs (omega arith)))

pub audit_are : {A : Type 0} (f : A → Text) (xs items : List A) (a b : A) (log old : Text) (updates : List Text) → xs ≡ items → 2 ≤ length xs → log ≡ f (get_or xs 0 a) → old ≡ f (get_or xs 1 b)
    → updates ≡ map f (take (length xs - 2) (drop 2 xs)) → map f items ≡ log ∷ old ∷ updates
audit_are f xs items a b log old updates same some first second others = ap (map f) (sym same) ∙ audit_files f xs a b some ∙ rw (first, second, others) refl

pub rest_length : {A : Type 0} (f : A → Text) (xs : List A) → length (map f (take (length xs - 2) (drop 2 xs))) ≡ length xs - 2
rest_length f xs = simp (length-map, length-take, length-drop) (omega arith)
