-- The items and guards of rules as they are written (docs/FORMATS.md, "Rewrite rules").
use Rattle.std.specs.Prelude.{ℕ, ◌+◌, ◌==◌, Bool, false, ◌&&◌, List, [], ◌∷◌, take, drop, Option, Some, None, if◌then◌else◌, unwrap_or, codes}
use Rattle.std.specs.List.{position}
use Rattle.std.specs.Str.{bytes_eq}
use Rattle.mv_rules.specs.declared.rule.FdTerm.{FdTerm}
use Rattle.mv_rules.specs.declared.rule.FdTerm.TheVariants as fds
use Rattle.mv_rules.specs.declared.rule.TimeTerm.{TimeTerm}
use Rattle.mv_rules.specs.declared.rule.TimeTerm.TheVariants as times
use Rattle.mv_rules.specs.declared.rule.Part.{Part}
use Rattle.mv_rules.specs.declared.rule.Part.TheVariants.{Text, Sized, Named, Length}
use Rattle.mv_rules.specs.declared.rule.Pattern.{Pattern}
use Rattle.mv_rules.specs.declared.rule.Pattern.TheVariants as patterns
use Rattle.mv_rules.specs.declared.rule.Comparison.{Comparison}
use Rattle.mv_rules.specs.declared.rule.Comparison.TheVariants.{Equal, Less, Greater}
use Rattle.mv_rules.specs.declared.rule.Guard.{Guard}
use Rattle.mv_scan.specs.declared.token.Token.{Token}
use Rattle.mv_scan.specs.declared.token.Token.TheVariants.{Plain, Quoted, Glued}
use Rattle.mv_rules.specs.declared.verb.Verb.{Verb}
use Rattle.mv_rules.specs.declared.verb.Verb.TheVariants as verbs
use Rattle.mv_scan.specs.declared.found.Found.{Found}
use Rattle.mv_scan.specs.declared.found.Found.TheVariants.{Other, OutOfRange, Is}
use Rattle.mv_scan.specs.Numbers.{decimal, in_range, number_of}
use Rattle.mv_scan.specs.Words.{is_word, is_lone_word}
use Rattle.mv_scan.specs.Found.{found_map, pair, only_if}

-- ## Terms

-- a descriptor: a number, or `$` and a name
abbrev pub fd_in_word : List ℕ → Found FdTerm
fd_in_word [] = Other
fd_in_word (b ∷ bytes) = if b == 36 then Is (fds.Name bytes) else found_map fds.Number (in_range 0 4294967295 (decimal (b ∷ bytes)))

abbrev pub fd_of : Token → Found FdTerm
fd_of (Plain word) = fd_in_word word
fd_of (Quoted text) = Other
fd_of Glued = Other

-- a moment: a number, or `%` and a name
abbrev pub time_in_word : List ℕ → Found TimeTerm
time_in_word [] = Other
time_in_word (b ∷ bytes) = if b == 37 then Is (times.Name bytes) else found_map times.Number (in_range 0 18446744073709551615 (decimal (b ∷ bytes)))

abbrev pub time_of : Token → Found TimeTerm
time_of (Plain word) = time_in_word word
time_of (Quoted text) = Other
time_of Glued = Other

-- ## Parts of byte lists

-- `@name:N` where digits stand behind the first colon, else `@name`
abbrev pub sized_as : List ℕ → List ℕ → Found ℕ → Found Part
sized_as whole name Other = Is (Named whole)
sized_as whole name OutOfRange = OutOfRange
sized_as whole name (Is n) = Is (Sized name n)

abbrev pub named_at : List ℕ → Option ℕ → Found Part
named_at whole None = Is (Named whole)
named_at whole (Some colon) = sized_as whole (take colon whole) (in_range 1 65536 (decimal (drop (colon + 1) whole)))

-- a `#name` is a part only where lengths may stand
abbrev pub part_in_word : Bool → List ℕ → Found Part
part_in_word lengths [] = Other
part_in_word lengths (b ∷ bytes) =
    if b == 64 then named_at bytes (position (λ c. c == 58) bytes)
    else if (b == 35) && lengths then Is (Length bytes) else Other

-- a text that isn't one is still a part
abbrev pub part_of : Bool → Token → Found Part
part_of lengths (Plain word) = part_in_word lengths word
part_of lengths (Quoted text) = Is (Text (unwrap_or text []))
part_of lengths Glued = Other

abbrev pub all_parts : Bool → List Token → Found (List Part)
all_parts lengths [] = Is []
all_parts lengths (token ∷ tokens) = found_map (λ t. t.0 ∷ t.1) (pair (part_of lengths token) (all_parts lengths tokens))

-- one part or more
abbrev pub parts_of : Bool → List Token → Found (List Part)
parts_of lengths [] = Other
parts_of lengths (token ∷ tokens) = all_parts lengths (token ∷ tokens)

-- ## Items

-- `errno N`
abbrev pub is_errno : List Token → Bool
is_errno [] = false
is_errno (token ∷ tokens) = is_word (codes "errno") token

abbrev pub errno_in : List Token → Found ℕ
errno_in [] = Other
errno_in (token ∷ []) = Other
errno_in (token ∷ number ∷ []) = number_of 1 65535 number
errno_in (token ∷ number ∷ other ∷ tokens) = Other

abbrev pub lone_fd : List Token → Found FdTerm
lone_fd [] = Other
lone_fd (token ∷ []) = fd_of token
lone_fd (token ∷ other ∷ tokens) = Other

abbrev pub lone_time : List Token → Found TimeTerm
lone_time [] = Other
lone_time (token ∷ []) = time_of token
lone_time (token ∷ other ∷ tokens) = Other

-- `read F -> B`, `read F -> errno N`: what stands before the arrow, and behind it
abbrev pub read_form : Bool → List Token → List Token → Found Pattern
read_form lengths [] outcome = Other
read_form lengths (fd ∷ []) outcome =
    if is_errno outcome then found_map (λ t. patterns.ReadErrno t.0 t.1) (pair (fd_of fd) (errno_in outcome))
    else found_map (λ t. patterns.Read t.0 t.1) (pair (fd_of fd) (parts_of lengths outcome))
read_form lengths (fd ∷ other ∷ subject) outcome = Other

-- `write F B -> all`, `write F B -> errno N`
abbrev pub write_form : Bool → List Token → List Token → Found Pattern
write_form lengths [] outcome = Other
write_form lengths (fd ∷ bytes) outcome =
    if is_errno outcome then found_map (λ t. patterns.WriteErrno t.0.0 t.0.1 t.1) (pair (pair (fd_of fd) (parts_of lengths bytes)) (errno_in outcome))
    else only_if (is_lone_word (codes "all") outcome) (found_map (λ t. patterns.Write t.0 t.1) (pair (fd_of fd) (parts_of lengths bytes)))

-- `accept F K -> F`, `accept F K -> errno N`
abbrev pub accept_form : List Token → List Token → Found Pattern
accept_form [] outcome = Other
accept_form (fd ∷ []) outcome = Other
accept_form (fd ∷ flags ∷ []) outcome =
    if is_errno outcome then found_map (λ t. patterns.AcceptErrno t.0.0 t.0.1 t.1) (pair (pair (fd_of fd) (number_of 0 65535 flags)) (errno_in outcome))
    else found_map (λ t. patterns.Accept t.0.0 t.0.1 t.1) (pair (pair (fd_of fd) (number_of 0 65535 flags)) (lone_fd outcome))
accept_form (fd ∷ flags ∷ other ∷ subject) outcome = Other

-- `close F -> done`, `close F -> errno N`
abbrev pub close_form : List Token → List Token → Found Pattern
close_form [] outcome = Other
close_form (fd ∷ []) outcome =
    if is_errno outcome then found_map (λ t. patterns.CloseErrno t.0 t.1) (pair (fd_of fd) (errno_in outcome))
    else only_if (is_lone_word (codes "done") outcome) (found_map patterns.Close (fd_of fd))
close_form (fd ∷ other ∷ subject) outcome = Other

-- `shutdown F H -> done`, `shutdown F H -> errno N`
abbrev pub shutdown_form : List Token → List Token → Found Pattern
shutdown_form [] outcome = Other
shutdown_form (fd ∷ []) outcome = Other
shutdown_form (fd ∷ how ∷ []) outcome =
    if is_errno outcome then found_map (λ t. patterns.ShutdownErrno t.0.0 t.0.1 t.1) (pair (pair (fd_of fd) (number_of 1 3 how)) (errno_in outcome))
    else only_if (is_lone_word (codes "done") outcome) (found_map (λ t. patterns.Shutdown t.0 t.1) (pair (fd_of fd) (number_of 1 3 how)))
shutdown_form (fd ∷ how ∷ other ∷ subject) outcome = Other

-- `yield -> done`
abbrev pub yield_form : List Token → List Token → Found Pattern
yield_form [] outcome = only_if (is_lone_word (codes "done") outcome) (Is patterns.Yield)
yield_form (token ∷ subject) outcome = Other

-- `clock I -> T`
abbrev pub clock_form : List Token → List Token → Found Pattern
clock_form [] outcome = Other
clock_form (id ∷ []) outcome = found_map (λ t. patterns.Clock t.0 t.1) (pair (number_of 0 1 id) (lone_time outcome))
clock_form (id ∷ other ∷ subject) outcome = Other

-- `random -> B`
abbrev pub random_form : Bool → List Token → List Token → Found Pattern
random_form lengths [] outcome = found_map patterns.Random (parts_of lengths outcome)
random_form lengths (token ∷ subject) outcome = Other

abbrev pub form_of : Verb → Bool → List Token → List Token → Found Pattern
form_of verbs.Read lengths = read_form lengths
form_of verbs.Write lengths = write_form lengths
form_of verbs.Accept lengths = accept_form
form_of verbs.Close lengths = close_form
form_of verbs.Shutdown lengths = shutdown_form
form_of verbs.Yield lengths = yield_form
form_of verbs.Clock lengths = clock_form
form_of verbs.Random lengths = random_form lengths

-- the first `->` parts the words of an item
abbrev pub item_at : Verb → Bool → List Token → Option ℕ → Found Pattern
item_at verb lengths tokens None = Other
item_at verb lengths tokens (Some arrow) = form_of verb lengths (take arrow tokens) (drop (arrow + 1) tokens)

abbrev pub item_of : Verb → Bool → List Token → Found Pattern
item_of verb lengths tokens = item_at verb lengths tokens (position (is_word (codes "->")) tokens)

abbrev pub verb_of : List ℕ → Option Verb
verb_of word =
    if bytes_eq word (codes "read") then Some verbs.Read else if bytes_eq word (codes "write") then Some verbs.Write
    else if bytes_eq word (codes "accept") then Some verbs.Accept else if bytes_eq word (codes "close") then Some verbs.Close
    else if bytes_eq word (codes "shutdown") then Some verbs.Shutdown else if bytes_eq word (codes "yield") then Some verbs.Yield
    else if bytes_eq word (codes "clock") then Some verbs.Clock else if bytes_eq word (codes "random") then Some verbs.Random else None

-- ## Guards

abbrev pub comparison_of : Token → Found Comparison
comparison_of token =
    if is_word (codes "=") token then Is Equal else if is_word (codes "<") token then Is Less
    else if is_word (codes ">") token then Is Greater else Other

-- `@` and a name
abbrev pub byte_name_in : List ℕ → Found (List ℕ)
byte_name_in [] = Other
byte_name_in (b ∷ bytes) = if b == 64 then Is bytes else Other

abbrev pub byte_name_of : Token → Found (List ℕ)
byte_name_of (Plain word) = byte_name_in word
byte_name_of (Quoted text) = Other
byte_name_of Glued = Other

abbrev pub guard_made : List ℕ → Comparison → ℕ → Guard
guard_made name comparison length = record { name = name; comparison = comparison; length = length }

-- what stands behind `when`: `@name OP N`
abbrev pub guard_of : List Token → Found Guard
guard_of [] = Other
guard_of (name ∷ []) = Other
guard_of (name ∷ op ∷ []) = Other
guard_of (name ∷ op ∷ length ∷ []) =
    found_map (λ t. guard_made t.0.0 t.0.1 t.1) (pair (pair (byte_name_of name) (comparison_of op)) (number_of 0 65536 length))
guard_of (name ∷ op ∷ length ∷ other ∷ tokens) = Other
