-- For private clauses: a text of a policy, line by line.
use Rattle.std.specs.Prelude.{ℕ, ◌+◌, ◌==◌, Bool, true, false, ◌||◌, if◌then◌else◌, List, [], ◌∷◌, ◌++◌, length, codes, Option, Some, None, Result, Ok, Err}
use Rattle.std.specs.List.{slice_split}
use Rattle.std.specs.Str.{bytes_eq}
use Rattle.mv_policy.specs.declared.line.Who.{Who}
use Rattle.mv_policy.specs.declared.line.Who.TheVariants.{Anyone, Named}
use Rattle.mv_policy.specs.declared.line.Which.{Which}
use Rattle.mv_policy.specs.declared.line.Which.TheVariants as which
use Rattle.mv_policy.specs.declared.line.PolicyLine.{PolicyLine}
use Rattle.mv_policy.specs.declared.line.PolicyLine.TheVariants.{Empty, User, Allow, Deny}
use Rattle.mv_policy.specs.declared.fault.PolicyKind.{PolicyKind}
use Rattle.mv_policy.specs.declared.fault.PolicyKind.TheVariants as kind
use Rattle.mv_policy.specs.declared.fault.PolicyFault.{PolicyFault}
use Rattle.mv_policy.specs.PolicyText.{fault_of}

-- the parts of some bytes between those that are this one
abbrev pub cut : ℕ → List ℕ → List (List ℕ)
cut c bytes = slice_split (λ b. b == c) bytes

abbrev pub who_of : List ℕ → Who
who_of word = if bytes_eq word (codes "*") then Anyone else Named word

abbrev pub which_of : List ℕ → Option Which
which_of word =
    if bytes_eq word (codes "*") then Some which.Any
    else if bytes_eq word (codes "update") then Some which.Update
    else if bytes_eq word (codes "promote") then Some which.Promote
    else if bytes_eq word (codes "discard") then Some which.Discard
    else if bytes_eq word (codes "finish") then Some which.Finish
    else if bytes_eq word (codes "back") then Some which.Back
    else if bytes_eq word (codes "halt") then Some which.Halt
    else if bytes_eq word (codes "status") then Some which.Status
    else None

abbrev pub is_empty : List ℕ → Bool
is_empty [] = true
is_empty (b ∷ bytes) = false

-- a rule on this user or anyone
abbrev pub rule_of : List ℕ → Who → Which → Option PolicyLine
rule_of verb who which =
    if bytes_eq verb (codes "allow") then Some (Allow who which)
    else if bytes_eq verb (codes "deny") then Some (Deny who which)
    else None

abbrev pub rule_on : List ℕ → Who → Option Which → Option PolicyLine
rule_on verb who None = None
rule_on verb who (Some which) = rule_of verb who which

abbrev pub three_words : List ℕ → List ℕ → List ℕ → Option PolicyLine
three_words verb first second =
    if is_empty first || is_empty second then None
    else if bytes_eq verb (codes "user") then Some (User first second)
    else rule_on verb (who_of first) (which_of second)

abbrev pub one_word : List ℕ → Option PolicyLine
one_word word = if is_empty word then Some Empty else None

-- the line of these words
abbrev pub line_of : List (List ℕ) → Option PolicyLine
line_of [] = None
line_of (word ∷ []) = one_word word
line_of (verb ∷ first ∷ []) = None
line_of (verb ∷ first ∷ second ∷ []) = three_words verb first second
line_of (verb ∷ first ∷ second ∷ third ∷ more) = None

abbrev pub fault_at : List PolicyLine → PolicyKind → PolicyFault
fault_at before k = record { line = length before + 2; kind = k }

abbrev pub unless : List PolicyLine → PolicyLine → Option PolicyKind → Result PolicyLine PolicyFault
unless before line None = Ok line
unless before line (Some k) = Err (fault_at before k)

-- the line behind these, or its fault
abbrev pub judged : List PolicyLine → Option PolicyLine → Result PolicyLine PolicyFault
judged before None = Err (fault_at before kind.Word)
judged before (Some line) = unless before line (fault_of before line)

abbrev pub next_line : List PolicyLine → List ℕ → Result PolicyLine PolicyFault
next_line before bytes = judged before (line_of (cut 32 bytes))

abbrev pub and_then : {A B : Type 0} → Result A PolicyFault → (A → Result B PolicyFault) → Result B PolicyFault
and_then (Ok value) next = next value
and_then (Err fault) next = Err fault

-- these lines and those behind them
abbrev pub read_lines : List PolicyLine → List (List ℕ) → Result (List PolicyLine) PolicyFault
read_lines before [] = Ok before
read_lines before (bytes ∷ rest) = and_then (next_line before bytes) (λ line. read_lines (before ++ line ∷ []) rest)

abbrev pub read_all : List (List ℕ) → Result (List PolicyLine) PolicyFault
read_all [] = Err (record { line = 1; kind = kind.Header })
read_all (first ∷ rest) = if bytes_eq first (codes "mvpolicy 1") then read_lines [] rest else Err (record { line = 1; kind = kind.Header })
