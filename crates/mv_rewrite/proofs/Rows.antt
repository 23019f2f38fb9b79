-- Worked examples, computed.
use Rattle.std.specs.Prelude.{◌≡◌, ℕ, List, [], ◌∷◌, refl, codes}
use Rattle.mv_calls.specs.declared.calls.Call.{Call}
use Rattle.mv_calls.specs.declared.calls.Call.TheVariants as calls
use Rattle.mv_calls.specs.declared.calls.Reply.{Reply}
use Rattle.mv_calls.specs.declared.calls.Reply.TheVariants as replies
use Rattle.mv_rules.specs.declared.rule.FdTerm.TheVariants as fds
use Rattle.mv_rules.specs.declared.rule.Part.TheVariants.{Text, Sized, Named, Length}
use Rattle.mv_rules.specs.declared.rule.Pattern.{Pattern}
use Rattle.mv_rules.specs.declared.rule.Pattern.TheVariants as patterns
use Rattle.mv_rules.specs.declared.rule.Comparison.TheVariants.{Equal, Greater}
use Rattle.mv_rules.specs.declared.rule.Rule.{Rule}
use Rattle.mv_rewrite.specs.Rewriting.{sure, turned}

abbrev rule_of : List Pattern → List Pattern → Rule
rule_of left right = record { line = 2; left = left; guards = []; right = right }

abbrev write_line : List ℕ → Pattern
write_line bytes = patterns.Write (fds.Name (codes "f")) (Text bytes ∷ [])

abbrev wrote : List ℕ → ℕ → Call × Reply
wrote bytes count = (calls.Write 4 bytes, replies.Count count)

-- a read is split, and keeps its ten bytes
abbrev splits : Rule
splits = rule_of
    (patterns.Read (fds.Name (codes "f")) (Sized (codes "a") 4 ∷ Named (codes "b") ∷ []) ∷ [])
    (patterns.Read (fds.Name (codes "f")) (Named (codes "a") ∷ []) ∷ patterns.Read (fds.Name (codes "f")) (Named (codes "b") ∷ []) ∷ [])

split_read : turned (splits ∷ []) ((calls.Read 4 64, replies.Bytes (codes "abcdefghij")) ∷ [])
    ≡ (calls.Read 4 4, replies.Bytes (codes "abcd")) ∷ (calls.Read 4 6, replies.Bytes (codes "efghij")) ∷ []
split_read = refl

-- half a pattern is held, and passes in the end
abbrev two_writes : List Pattern
two_writes = write_line (codes "A") ∷ write_line (codes "B") ∷ []

half_held : sure (rule_of two_writes [] ∷ []) (wrote (codes "A") 1 ∷ []) ≡ []
half_held = refl

half_passed : turned (rule_of two_writes [] ∷ []) (wrote (codes "A") 1 ∷ []) ≡ wrote (codes "A") 1 ∷ []
half_passed = refl

-- the first rule in the file wins
first_wins : turned (rule_of (write_line (codes "A") ∷ []) (write_line (codes "1") ∷ []) ∷ rule_of two_writes (write_line (codes "2") ∷ []) ∷ [])
    (wrote (codes "A") 1 ∷ wrote (codes "B") 1 ∷ []) ≡ wrote (codes "1") 1 ∷ wrote (codes "B") 1 ∷ []
first_wins = refl

first_wins_surely : sure (rule_of (write_line (codes "A") ∷ []) (write_line (codes "1") ∷ []) ∷ rule_of two_writes (write_line (codes "2") ∷ []) ∷ [])
    (wrote (codes "A") 1 ∷ []) ≡ wrote (codes "1") 1 ∷ []
first_wins_surely = refl

-- a guard on a length that fails (where it holds, tests compare the digits)
abbrev counts : Rule
counts = record {
  line = 2;
  left = patterns.Write (fds.Name (codes "f")) (Named (codes "b") ∷ []) ∷ [];
  guards = record { name = codes "b"; comparison = Greater; length = 9 } ∷ [];
  right = patterns.Write (fds.Name (codes "f")) (Length (codes "b") ∷ Text (codes ":") ∷ Named (codes "b") ∷ []) ∷ [];
}

guard_fails : turned (counts ∷ []) (wrote (codes "abc") 3 ∷ []) ≡ wrote (codes "abc") 3 ∷ []
guard_fails = refl

-- a guard on a first item that fails lets it pass at once, and one that holds waits
abbrev short_first : Rule
short_first = record {
  line = 2;
  left = patterns.Write (fds.Name (codes "f")) (Named (codes "a") ∷ []) ∷ patterns.Write (fds.Name (codes "f")) (Named (codes "b") ∷ []) ∷ [];
  guards = record { name = codes "a"; comparison = Equal; length = 1 } ∷ [];
  right = [];
}

guard_passes_at_once : sure (short_first ∷ []) (wrote (codes "AB") 2 ∷ []) ≡ wrote (codes "AB") 2 ∷ []
guard_passes_at_once = refl

guard_waits : sure (short_first ∷ []) (wrote (codes "A") 1 ∷ []) ≡ []
guard_waits = refl
