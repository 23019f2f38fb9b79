-- An error number that an item names is at least 1.
use Rattle.std.proofs.Common.{◌≡◌, ℕ, ◌+◌, ◌&&◌, Bool, true, false, List, [], ◌∷◌, refl, take, drop, arith, Some, None}
use Rattle.std.proofs.lemmas.Grind.{common_steps}
use Rattle.std.specs.Prelude.{Option, nat_le, nat_lt, if◌then◌else◌, codes}
use Rattle.std.specs.Str.{bytes_eq}
use Rattle.mv_rules.specs.declared.rule.Pattern.{Pattern}
use Rattle.mv_rules.specs.declared.rule.Pattern.TheVariants as patterns
use Rattle.mv_scan.specs.declared.token.Token.{Token}
use Rattle.mv_scan.specs.declared.token.Token.TheVariants.{Plain, Quoted, Glued}
use Rattle.mv_rules.specs.declared.verb.Verb.{Verb}
use Rattle.mv_rules.specs.declared.verb.Verb.TheVariants as verbs
use Rattle.mv_scan.specs.declared.found.Found.{Found}
use Rattle.mv_scan.specs.declared.found.Found.TheVariants.{Other, OutOfRange, Is}
use Rattle.mv_scan.specs.Found.{found_map, pair, only_if}
use Rattle.mv_rules.specs.Forms.{errno_in, verb_of, fd_of, parts_of, lone_fd, lone_time, is_errno, read_form, write_form, accept_form, close_form, shutdown_form, yield_form, clock_form, random_form, form_of, item_at, item_of}
use Rattle.mv_scan.specs.Numbers.{in_range, number_of, decimal}
use Rattle.mv_rules.specs.Shape.{errno_counts}
use Rattle.mv_rules.specs.declared.line.Line.{Line}
use Rattle.mv_rules.specs.declared.line.Line.TheVariants as lines
use Rattle.mv_rules.specs.declared.reading.Version.{Version}
use Rattle.mv_rules.specs.declared.reading.Version.TheVariants.{First, Second}
use Rattle.mv_rules.specs.Drafts.{Counts, LineCounts}
use Rattle.mv_rules.specs.RulesText.{item_line, guard_line, line_under, line_of, has_words}

-- a number that is found is at least 1
abbrev pub IsSome1 : Found ℕ → Type 0
IsSome1 Other = Unit {0}
IsSome1 OutOfRange = Unit {0}
IsSome1 (Is n) = nat_lt 0 n ≡ true

range_if : (n : ℕ) (b c : Bool) → (b ≡ true → nat_lt 0 n ≡ true) → IsSome1 (if b && c then Is n else OutOfRange)
range_if n true true h = h refl
range_if n true false h = tt
range_if n false c h = tt

range_counts : (high : ℕ) (found : Option ℕ) → IsSome1 (in_range 1 high found)
range_counts high None = tt
range_counts high (Some n) = range_if n (nat_le 1 n) (nat_le n high) (λ h. grind (arith, common_steps, h))

number_counts : (token : Token) → IsSome1 (number_of 1 65535 token)
number_counts (Plain word) = range_counts 65535 (decimal word)
number_counts (Quoted text) = tt
number_counts Glued = tt

errno_is_some : (tokens : List Token) → IsSome1 (errno_in tokens)
errno_is_some [] = tt
errno_is_some (token ∷ []) = tt
errno_is_some (token ∷ number ∷ []) = number_counts number
errno_is_some (token ∷ number ∷ other ∷ tokens) = tt

if_counts : (b : Bool) (x y : Found Pattern) → Counts x → Counts y → Counts (if b then x else y)
if_counts true x y h k = h
if_counts false x y h k = k

only_counts : (b : Bool) (x : Found Pattern) → Counts x → Counts (only_if b x)
only_counts true x h = h
only_counts false x h = tt

-- an item that names no error number
map_counts : {A : Type 0} (f : A → Pattern) (x : Found A) → ((a : A) → errno_counts (f a) ≡ true) → Counts (found_map f x)
map_counts f Other h = tt
map_counts f OutOfRange h = tt
map_counts f (Is a) h = h a

-- one that names one
errno_map_counts : {A : Type 0} (f : A × ℕ → Pattern) (x : Found A) (errno : Found ℕ)
    → ((a : A) (n : ℕ) → nat_lt 0 n ≡ true → errno_counts (f (a, n)) ≡ true) → IsSome1 errno → Counts (found_map f (pair x errno))
errno_map_counts f Other errno h k = tt
errno_map_counts f OutOfRange Other h k = tt
errno_map_counts f OutOfRange OutOfRange h k = tt
errno_map_counts f OutOfRange (Is n) h k = tt
errno_map_counts f (Is a) Other h k = tt
errno_map_counts f (Is a) OutOfRange h k = tt
errno_map_counts f (Is a) (Is n) h k = h a n k

read_counts : (lengths : Bool) (subject outcome : List Token) → Counts (read_form lengths subject outcome)
read_counts lengths [] outcome = tt
read_counts lengths (fd ∷ []) outcome = if_counts (is_errno outcome) _ _
    (errno_map_counts (λ t. patterns.ReadErrno t.0 t.1) (fd_of fd) (errno_in outcome) (λ a n h. h) (errno_is_some outcome))
    (map_counts (λ t. patterns.Read t.0 t.1) (pair (fd_of fd) (parts_of lengths outcome)) (λ a. refl))
read_counts lengths (fd ∷ other ∷ subject) outcome = tt

write_counts : (lengths : Bool) (subject outcome : List Token) → Counts (write_form lengths subject outcome)
write_counts lengths [] outcome = tt
write_counts lengths (fd ∷ bytes) outcome = if_counts (is_errno outcome) _ _
    (errno_map_counts (λ t. patterns.WriteErrno t.0.0 t.0.1 t.1) (pair (fd_of fd) (parts_of lengths bytes)) (errno_in outcome) (λ a n h. h) (errno_is_some outcome))
    (only_counts _ _ (map_counts (λ t. patterns.Write t.0 t.1) (pair (fd_of fd) (parts_of lengths bytes)) (λ a. refl)))

accept_counts : (subject outcome : List Token) → Counts (accept_form subject outcome)
accept_counts [] outcome = tt
accept_counts (fd ∷ []) outcome = tt
accept_counts (fd ∷ flags ∷ []) outcome = if_counts (is_errno outcome) _ _
    (errno_map_counts (λ t. patterns.AcceptErrno t.0.0 t.0.1 t.1) (pair (fd_of fd) (number_of 0 65535 flags)) (errno_in outcome) (λ a n h. h) (errno_is_some outcome))
    (map_counts (λ t. patterns.Accept t.0.0 t.0.1 t.1) (pair (pair (fd_of fd) (number_of 0 65535 flags)) (lone_fd outcome)) (λ a. refl))
accept_counts (fd ∷ flags ∷ other ∷ subject) outcome = tt

close_counts : (subject outcome : List Token) → Counts (close_form subject outcome)
close_counts [] outcome = tt
close_counts (fd ∷ []) outcome = if_counts (is_errno outcome) _ _
    (errno_map_counts (λ t. patterns.CloseErrno t.0 t.1) (fd_of fd) (errno_in outcome) (λ a n h. h) (errno_is_some outcome))
    (only_counts _ _ (map_counts patterns.Close (fd_of fd) (λ a. refl)))
close_counts (fd ∷ other ∷ subject) outcome = tt

shutdown_counts : (subject outcome : List Token) → Counts (shutdown_form subject outcome)
shutdown_counts [] outcome = tt
shutdown_counts (fd ∷ []) outcome = tt
shutdown_counts (fd ∷ how ∷ []) outcome = if_counts (is_errno outcome) _ _
    (errno_map_counts (λ t. patterns.ShutdownErrno t.0.0 t.0.1 t.1) (pair (fd_of fd) (number_of 1 3 how)) (errno_in outcome) (λ a n h. h) (errno_is_some outcome))
    (only_counts _ _ (map_counts (λ t. patterns.Shutdown t.0 t.1) (pair (fd_of fd) (number_of 1 3 how)) (λ a. refl)))
shutdown_counts (fd ∷ how ∷ other ∷ subject) outcome = tt

yield_counts : (subject outcome : List Token) → Counts (yield_form subject outcome)
yield_counts [] outcome = only_counts _ (Is patterns.Yield) refl
yield_counts (token ∷ subject) outcome = tt

clock_counts : (subject outcome : List Token) → Counts (clock_form subject outcome)
clock_counts [] outcome = tt
clock_counts (id ∷ []) outcome = map_counts (λ t. patterns.Clock t.0 t.1) (pair (number_of 0 1 id) (lone_time outcome)) (λ a. refl)
clock_counts (id ∷ other ∷ subject) outcome = tt

random_counts : (lengths : Bool) (subject outcome : List Token) → Counts (random_form lengths subject outcome)
random_counts lengths [] outcome = map_counts patterns.Random (parts_of lengths outcome) (λ a. refl)
random_counts lengths (token ∷ subject) outcome = tt

pub form_counts : (verb : Verb) (lengths : Bool) (subject outcome : List Token) → Counts (form_of verb lengths subject outcome)
form_counts verbs.Read lengths subject outcome = read_counts lengths subject outcome
form_counts verbs.Write lengths subject outcome = write_counts lengths subject outcome
form_counts verbs.Accept lengths subject outcome = accept_counts subject outcome
form_counts verbs.Close lengths subject outcome = close_counts subject outcome
form_counts verbs.Shutdown lengths subject outcome = shutdown_counts subject outcome
form_counts verbs.Yield lengths subject outcome = yield_counts subject outcome
form_counts verbs.Clock lengths subject outcome = clock_counts subject outcome
form_counts verbs.Random lengths subject outcome = random_counts lengths subject outcome

at_counts : (verb : Verb) (lengths : Bool) (tokens : List Token) (arrow : Option ℕ) → Counts (item_at verb lengths tokens arrow)
at_counts verb lengths tokens None = tt
at_counts verb lengths tokens (Some arrow) = form_counts verb lengths (take arrow tokens) (drop (arrow + 1) tokens)

pub item_counts : (verb : Verb) (lengths : Bool) (tokens : List Token) → Counts (item_of verb lengths tokens)
item_counts verb lengths tokens = at_counts verb lengths tokens _

if_line_counts : (b : Bool) (x y : Line) → LineCounts x → LineCounts y → LineCounts (if b then x else y)
if_line_counts true x y h k = h
if_line_counts false x y h k = k

item_line_counts : (lengths : Bool) (rest : List Token) (verb : Option Verb) → LineCounts (item_line lengths rest verb)
item_line_counts lengths rest None = tt
item_line_counts lengths rest (Some verb) = item_counts verb lengths rest

guard_line_counts : (version : Version) (rest : List Token) → LineCounts (guard_line version rest)
guard_line_counts First rest = tt
guard_line_counts Second rest = tt

line_under_counts : (version : Version) (lengths : Bool) (word : List ℕ) (rest : List Token) → LineCounts (line_under version lengths word rest)
line_under_counts version lengths word rest =
    let item = item_line lengths rest (verb_of word) in
    let guard = if bytes_eq word (codes "when") then guard_line version rest else item in
    let ends = if bytes_eq word (codes "end") then lines.Ends (has_words rest) else guard in
    let turns = if bytes_eq word (codes "to") then lines.Turns (has_words rest) else ends in
    if_line_counts (bytes_eq word (codes "rule")) (lines.Begins (has_words rest)) turns tt
    (if_line_counts (bytes_eq word (codes "to")) (lines.Turns (has_words rest)) ends tt
    (if_line_counts (bytes_eq word (codes "end")) (lines.Ends (has_words rest)) guard tt
    (if_line_counts (bytes_eq word (codes "when")) (guard_line version rest) item (guard_line_counts version rest) (item_line_counts lengths rest (verb_of word)))))

pub line_counts : (version : Version) (lengths : Bool) (tokens : List Token) → LineCounts (line_of version lengths tokens)
line_counts version lengths [] = tt
line_counts version lengths (Plain word ∷ rest) = line_under_counts version lengths word rest
line_counts version lengths (Quoted text ∷ rest) = tt
line_counts version lengths (Glued ∷ rest) = tt
