-- The items that are found are those that their words spell.
use Rattle.std.proofs.Common.{◌≡◌, ℕ, ◌+◌, ◌&&◌, Bool, true, List, [], ◌∷◌, ◌++◌, refl, ap, sym, ◌∙◌, subst, take, drop, Some, None, codes}
use Rattle.std.specs.Prelude.{Option}
use Rattle.std.specs.List.{position, list_all}
use Rattle.mv_rules.specs.declared.rule.FdTerm.{FdTerm}
use Rattle.mv_rules.specs.declared.rule.TimeTerm.{TimeTerm}
use Rattle.mv_rules.specs.declared.rule.Part.{Part}
use Rattle.mv_rules.specs.declared.rule.Pattern.{Pattern}
use Rattle.mv_rules.specs.declared.rule.Pattern.TheVariants as patterns
use Rattle.mv_scan.specs.declared.token.Token.{Token}
use Rattle.mv_scan.specs.declared.token.Token.TheVariants.{Plain}
use Rattle.mv_rules.specs.declared.verb.Verb.{Verb}
use Rattle.mv_rules.specs.declared.verb.Verb.TheVariants as verbs
use Rattle.mv_scan.specs.declared.found.Found.TheVariants.{Other, Is}
use Rattle.mv_scan.specs.Found.{found_map, pair, only_if}
use Rattle.mv_rules.specs.Forms.{fd_of, time_of, parts_of, is_errno, errno_in, lone_fd, lone_time, read_form, write_form, accept_form, close_form, shutdown_form, yield_form, clock_form, random_form, form_of, item_at, item_of}
use Rattle.mv_scan.specs.Numbers.{number_of}
use Rattle.mv_scan.specs.Words.{is_word, is_lone_word}
use Rattle.mv_rules.specs.Names.{has_good_names, parts_in, fd_name_passes, time_name_passes, part_name_passes}
use Rattle.mv_scan.specs.Names.{is_name}
use Rattle.mv_rules.specs.ItemGrammar.{Side, arrow, SpellsFd, SpellsItem, MayStand}
use Rattle.mv_scan.proofs.GrammarFinds.{both_true, by_if, by_map, pair_is, only_is, position_is}
use Rattle.mv_rules.proofs.GrammarTerms.{lengths_on, fd_is, time_is}
use Rattle.mv_scan.proofs.NumberLaws.{number_is}
use Rattle.mv_rules.proofs.GrammarWords.{errno_is, IsClean, clean_tail, clean_front, AreUnsized, bytes_is}
use Rattle.mv_scan.proofs.TokenLaws.{is_word_is, lone_is}

-- an item with names of the form, and parts that may stand on the side
pub record IsGood (side : Side) (pattern : Pattern) : Type 0 where
  pub names : has_good_names pattern ≡ true
  pub order : MayStand side (parts_in pattern)
  pub unsized : AreUnsized side (parts_in pattern)

abbrev pub word_of : Verb → List ℕ
word_of verbs.Read = codes "read"
word_of verbs.Write = codes "write"
word_of verbs.Accept = codes "accept"
word_of verbs.Close = codes "close"
word_of verbs.Shutdown = codes "shutdown"
word_of verbs.Yield = codes "yield"
word_of verbs.Clock = codes "clock"
word_of verbs.Random = codes "random"

-- the words of an item
abbrev pub words_in : Verb → List Token → List Token → List Token
words_in verb subject outcome = Plain (word_of verb) ∷ (subject ++ (arrow ∷ outcome))

abbrev ItemIs : Side → Verb → List Token → List Token → Pattern → Type 0
ItemIs side verb subject outcome pattern = IsGood side pattern → SpellsItem side pattern (words_in verb subject outcome)

abbrev fd_passes : FdTerm → Bool
fd_passes fd = fd_name_passes is_name (Some fd)

abbrev parts_pass : List Part → Bool
parts_pass = list_all (part_name_passes is_name)

-- ## By form

read_is : (side : Side) (pattern : Pattern) (subject outcome : List Token) → read_form (lengths_on side) subject outcome ≡ Is pattern
    → IsClean (lengths_on side) (subject ++ (arrow ∷ outcome)) → ItemIs side verbs.Read subject outcome pattern
read_is side pattern [] outcome is clean good = cc
read_is side pattern (fd ∷ []) outcome is clean good =
    let c : IsClean (lengths_on side) outcome = clean_tail (lengths_on side) arrow outcome (clean_tail (lengths_on side) fd (arrow ∷ outcome) clean) in
    by_if (is_errno outcome) (found_map (λ t. patterns.ReadErrno t.0 t.1) (pair (fd_of fd) (errno_in outcome)))
    (found_map (λ t. patterns.Read t.0 t.1) (pair (fd_of fd) (parts_of (lengths_on side) outcome))) pattern (SpellsItem side pattern (words_in verbs.Read (fd ∷ []) outcome))
    (λ e is. by_map (λ (t : FdTerm × ℕ). patterns.ReadErrno t.0 t.1) (pair (fd_of fd) (errno_in outcome)) pattern (ItemIs side verbs.Read (fd ∷ []) outcome)
    (λ t found good.
    let p = pair_is (fd_of fd) (errno_in outcome) t found in
    (fd, outcome, refl, fd_is t.0 fd p.0 (both_true (fd_passes t.0) true good.names).0, errno_is t.1 outcome e p.1))
    is good)
    (λ e is. by_map (λ (t : FdTerm × List Part). patterns.Read t.0 t.1) (pair (fd_of fd) (parts_of (lengths_on side) outcome)) pattern (ItemIs side verbs.Read (fd ∷ []) outcome)
    (λ t found good.
    let p = pair_is (fd_of fd) (parts_of (lengths_on side) outcome) t found in
    let n = both_true (fd_passes t.0) (parts_pass t.1) good.names in
    (fd, outcome, refl, fd_is t.0 fd p.0 n.0, bytes_is side t.1 outcome p.1 c n.1 good.unsized good.order))
    is good)
    is
read_is side pattern (fd ∷ other ∷ subject) outcome is clean good = cc

write_is : (side : Side) (pattern : Pattern) (subject outcome : List Token) → write_form (lengths_on side) subject outcome ≡ Is pattern
    → IsClean (lengths_on side) (subject ++ (arrow ∷ outcome)) → ItemIs side verbs.Write subject outcome pattern
write_is side pattern [] outcome is clean good = cc
write_is side pattern (fd ∷ bytes) outcome is clean good =
    let c : IsClean (lengths_on side) bytes = clean_front (lengths_on side) bytes (arrow ∷ outcome) (clean_tail (lengths_on side) fd (bytes ++ (arrow ∷ outcome)) clean) in
    let whole = pair (fd_of fd) (parts_of (lengths_on side) bytes) in
    by_if (is_errno outcome) (found_map (λ t. patterns.WriteErrno t.0.0 t.0.1 t.1) (pair whole (errno_in outcome)))
    (only_if (is_lone_word (codes "all") outcome) (found_map (λ t. patterns.Write t.0 t.1) whole)) pattern (SpellsItem side pattern (words_in verbs.Write (fd ∷ bytes) outcome))
    (λ e is. by_map (λ (t : (FdTerm × List Part) × ℕ). patterns.WriteErrno t.0.0 t.0.1 t.1) (pair whole (errno_in outcome)) pattern (ItemIs side verbs.Write (fd ∷ bytes) outcome)
    (λ t found good.
    let p = pair_is whole (errno_in outcome) t found in
    let q = pair_is (fd_of fd) (parts_of (lengths_on side) bytes) t.0 p.0 in
    let n = both_true (fd_passes t.0.0) (parts_pass t.0.1) good.names in
    (fd, bytes, outcome, refl, fd_is t.0.0 fd q.0 n.0, bytes_is side t.0.1 bytes q.1 c n.1 good.unsized good.order, errno_is t.1 outcome e p.1))
    is good)
    (λ e is.
    let o = only_is (is_lone_word (codes "all") outcome) (found_map (λ t. patterns.Write t.0 t.1) whole) pattern is in
    by_map (λ (t : FdTerm × List Part). patterns.Write t.0 t.1) whole pattern (ItemIs side verbs.Write (fd ∷ bytes) outcome)
    (λ t found good.
    let q = pair_is (fd_of fd) (parts_of (lengths_on side) bytes) t found in
    let n = both_true (fd_passes t.0) (parts_pass t.1) good.names in
    (fd, bytes, ap (λ (k : List Token). words_in verbs.Write (fd ∷ bytes) k) (lone_is (codes "all") outcome o.0), fd_is t.0 fd q.0 n.0, bytes_is side t.1 bytes q.1 c n.1 good.unsized good.order))
    o.1 good)
    is

lone_fd_is : (m : FdTerm) (outcome : List Token) → lone_fd outcome ≡ Is m → fd_passes m ≡ true → (one : Token) × (outcome ≡ one ∷ []) × SpellsFd m one
lone_fd_is m [] is good = cc
lone_fd_is m (token ∷ []) is good = (token, refl, fd_is m token is good)
lone_fd_is m (token ∷ other ∷ tokens) is good = cc

accept_is : (side : Side) (pattern : Pattern) (subject outcome : List Token) → accept_form subject outcome ≡ Is pattern → ItemIs side verbs.Accept subject outcome pattern
accept_is side pattern [] outcome is good = cc
accept_is side pattern (fd ∷ []) outcome is good = cc
accept_is side pattern (fd ∷ flags ∷ []) outcome is good =
    let whole = pair (fd_of fd) (number_of 0 65535 flags) in
    by_if (is_errno outcome) (found_map (λ t. patterns.AcceptErrno t.0.0 t.0.1 t.1) (pair whole (errno_in outcome)))
    (found_map (λ t. patterns.Accept t.0.0 t.0.1 t.1) (pair whole (lone_fd outcome))) pattern (SpellsItem side pattern (words_in verbs.Accept (fd ∷ flags ∷ []) outcome))
    (λ e is. by_map (λ (t : (FdTerm × ℕ) × ℕ). patterns.AcceptErrno t.0.0 t.0.1 t.1) (pair whole (errno_in outcome)) pattern (ItemIs side verbs.Accept (fd ∷ flags ∷ []) outcome)
    (λ t found good.
    let p = pair_is whole (errno_in outcome) t found in
    let q = pair_is (fd_of fd) (number_of 0 65535 flags) t.0 p.0 in
    (fd, flags, outcome, refl, fd_is t.0.0 fd q.0 (both_true (fd_passes t.0.0) true good.names).0, number_is 0 65535 t.0.1 flags q.1, errno_is t.1 outcome e p.1))
    is good)
    (λ e is. by_map (λ (t : (FdTerm × ℕ) × FdTerm). patterns.Accept t.0.0 t.0.1 t.1) (pair whole (lone_fd outcome)) pattern (ItemIs side verbs.Accept (fd ∷ flags ∷ []) outcome)
    (λ t found good.
    let p = pair_is whole (lone_fd outcome) t found in
    let q = pair_is (fd_of fd) (number_of 0 65535 flags) t.0 p.0 in
    let n = both_true (fd_passes t.0.0) (fd_passes t.1 && true) good.names in
    let m = lone_fd_is t.1 outcome p.1 (both_true (fd_passes t.1) true n.1).0 in
    (fd, flags, m.0, ap (λ (k : List Token). words_in verbs.Accept (fd ∷ flags ∷ []) k) m.1, fd_is t.0.0 fd q.0 n.0, number_is 0 65535 t.0.1 flags q.1, m.2))
    is good)
    is
accept_is side pattern (fd ∷ flags ∷ other ∷ subject) outcome is good = cc

close_is : (side : Side) (pattern : Pattern) (subject outcome : List Token) → close_form subject outcome ≡ Is pattern → ItemIs side verbs.Close subject outcome pattern
close_is side pattern [] outcome is good = cc
close_is side pattern (fd ∷ []) outcome is good =
    by_if (is_errno outcome) (found_map (λ t. patterns.CloseErrno t.0 t.1) (pair (fd_of fd) (errno_in outcome)))
    (only_if (is_lone_word (codes "done") outcome) (found_map patterns.Close (fd_of fd))) pattern (SpellsItem side pattern (words_in verbs.Close (fd ∷ []) outcome))
    (λ e is. by_map (λ (t : FdTerm × ℕ). patterns.CloseErrno t.0 t.1) (pair (fd_of fd) (errno_in outcome)) pattern (ItemIs side verbs.Close (fd ∷ []) outcome)
    (λ t found good.
    let p = pair_is (fd_of fd) (errno_in outcome) t found in
    (fd, outcome, refl, fd_is t.0 fd p.0 (both_true (fd_passes t.0) true good.names).0, errno_is t.1 outcome e p.1))
    is good)
    (λ e is.
    let o = only_is (is_lone_word (codes "done") outcome) (found_map patterns.Close (fd_of fd)) pattern is in
    by_map patterns.Close (fd_of fd) pattern (ItemIs side verbs.Close (fd ∷ []) outcome)
    (λ t found good.
    (fd, ap (λ (k : List Token). words_in verbs.Close (fd ∷ []) k) (lone_is (codes "done") outcome o.0), fd_is t fd found (both_true (fd_passes t) true good.names).0))
    o.1 good)
    is
close_is side pattern (fd ∷ other ∷ subject) outcome is good = cc

shutdown_is : (side : Side) (pattern : Pattern) (subject outcome : List Token) → shutdown_form subject outcome ≡ Is pattern → ItemIs side verbs.Shutdown subject outcome pattern
shutdown_is side pattern [] outcome is good = cc
shutdown_is side pattern (fd ∷ []) outcome is good = cc
shutdown_is side pattern (fd ∷ how ∷ []) outcome is good =
    let whole = pair (fd_of fd) (number_of 1 3 how) in
    by_if (is_errno outcome) (found_map (λ t. patterns.ShutdownErrno t.0.0 t.0.1 t.1) (pair whole (errno_in outcome)))
    (only_if (is_lone_word (codes "done") outcome) (found_map (λ t. patterns.Shutdown t.0 t.1) whole)) pattern (SpellsItem side pattern (words_in verbs.Shutdown (fd ∷ how ∷ []) outcome))
    (λ e is. by_map (λ (t : (FdTerm × ℕ) × ℕ). patterns.ShutdownErrno t.0.0 t.0.1 t.1) (pair whole (errno_in outcome)) pattern (ItemIs side verbs.Shutdown (fd ∷ how ∷ []) outcome)
    (λ t found good.
    let p = pair_is whole (errno_in outcome) t found in
    let q = pair_is (fd_of fd) (number_of 1 3 how) t.0 p.0 in
    (fd, how, outcome, refl, fd_is t.0.0 fd q.0 (both_true (fd_passes t.0.0) true good.names).0, number_is 1 3 t.0.1 how q.1, errno_is t.1 outcome e p.1))
    is good)
    (λ e is.
    let o = only_is (is_lone_word (codes "done") outcome) (found_map (λ t. patterns.Shutdown t.0 t.1) whole) pattern is in
    by_map (λ (t : FdTerm × ℕ). patterns.Shutdown t.0 t.1) whole pattern (ItemIs side verbs.Shutdown (fd ∷ how ∷ []) outcome)
    (λ t found good.
    let q = pair_is (fd_of fd) (number_of 1 3 how) t found in
    (fd, how, ap (λ (k : List Token). words_in verbs.Shutdown (fd ∷ how ∷ []) k) (lone_is (codes "done") outcome o.0), fd_is t.0 fd q.0 (both_true (fd_passes t.0) true good.names).0, number_is 1 3 t.1 how q.1))
    o.1 good)
    is
shutdown_is side pattern (fd ∷ how ∷ other ∷ subject) outcome is good = cc

yield_is : (side : Side) (pattern : Pattern) (subject outcome : List Token) → yield_form subject outcome ≡ Is pattern → ItemIs side verbs.Yield subject outcome pattern
yield_is side pattern [] outcome is good =
    let o = only_is (is_lone_word (codes "done") outcome) (Is patterns.Yield) pattern is in
    let e : patterns.Yield ≡ pattern = cc in
    subst (λ (p : Pattern). ItemIs side verbs.Yield [] outcome p) e
    (λ good. ap (λ (k : List Token). words_in verbs.Yield [] k) (lone_is (codes "done") outcome o.0)) good
yield_is side pattern (token ∷ subject) outcome is good = cc

clock_by : (side : Side) (pattern : Pattern) (id : Token) (outcome : List Token) → found_map (λ t. patterns.Clock t.0 t.1) (pair (number_of 0 1 id) (lone_time outcome)) ≡ Is pattern
    → ItemIs side verbs.Clock (id ∷ []) outcome pattern
clock_by side pattern id [] is good =
    by_map (λ (t : ℕ × TimeTerm). patterns.Clock t.0 t.1) (pair (number_of 0 1 id) (lone_time [])) pattern (ItemIs side verbs.Clock (id ∷ []) [])
    (λ t found good. let p = pair_is (number_of 0 1 id) Other t found in cc) is good
clock_by side pattern id (time ∷ []) is good =
    by_map (λ (t : ℕ × TimeTerm). patterns.Clock t.0 t.1) (pair (number_of 0 1 id) (time_of time)) pattern (ItemIs side verbs.Clock (id ∷ []) (time ∷ []))
    (λ t found good.
    let p = pair_is (number_of 0 1 id) (time_of time) t found in
    (id, time, refl, number_is 0 1 t.0 id p.0, time_is t.1 time p.1 (both_true (time_name_passes is_name (Some t.1)) true good.names).0))
    is good
clock_by side pattern id (time ∷ other ∷ tokens) is good =
    by_map (λ (t : ℕ × TimeTerm). patterns.Clock t.0 t.1) (pair (number_of 0 1 id) (lone_time (time ∷ other ∷ tokens))) pattern (ItemIs side verbs.Clock (id ∷ []) (time ∷ other ∷ tokens))
    (λ t found good. let p = pair_is (number_of 0 1 id) Other t found in cc) is good

clock_is : (side : Side) (pattern : Pattern) (subject outcome : List Token) → clock_form subject outcome ≡ Is pattern → ItemIs side verbs.Clock subject outcome pattern
clock_is side pattern [] outcome is good = cc
clock_is side pattern (id ∷ []) outcome is good = clock_by side pattern id outcome is good
clock_is side pattern (id ∷ other ∷ subject) outcome is good = cc

random_is : (side : Side) (pattern : Pattern) (subject outcome : List Token) → random_form (lengths_on side) subject outcome ≡ Is pattern
    → IsClean (lengths_on side) (subject ++ (arrow ∷ outcome)) → ItemIs side verbs.Random subject outcome pattern
random_is side pattern [] outcome is clean good =
    by_map patterns.Random (parts_of (lengths_on side) outcome) pattern (ItemIs side verbs.Random [] outcome)
    (λ t found good. (outcome, refl, bytes_is side t outcome found (clean_tail (lengths_on side) arrow outcome clean) good.names good.unsized good.order))
    is good
random_is side pattern (token ∷ subject) outcome is clean good = cc

form_is : (side : Side) (verb : Verb) (pattern : Pattern) (subject outcome : List Token) → form_of verb (lengths_on side) subject outcome ≡ Is pattern
    → IsClean (lengths_on side) (subject ++ (arrow ∷ outcome)) → ItemIs side verb subject outcome pattern
form_is side verbs.Read pattern subject outcome is clean = read_is side pattern subject outcome is clean
form_is side verbs.Write pattern subject outcome is clean = write_is side pattern subject outcome is clean
form_is side verbs.Accept pattern subject outcome is clean = accept_is side pattern subject outcome is
form_is side verbs.Close pattern subject outcome is clean = close_is side pattern subject outcome is
form_is side verbs.Shutdown pattern subject outcome is clean = shutdown_is side pattern subject outcome is
form_is side verbs.Yield pattern subject outcome is clean = yield_is side pattern subject outcome is
form_is side verbs.Clock pattern subject outcome is clean = clock_is side pattern subject outcome is
form_is side verbs.Random pattern subject outcome is clean = random_is side pattern subject outcome is clean

item_at_is : (side : Side) (verb : Verb) (pattern : Pattern) (tokens : List Token) (at : Option ℕ) → position (is_word (codes "->")) tokens ≡ at
    → item_at verb (lengths_on side) tokens at ≡ Is pattern → IsClean (lengths_on side) tokens → IsGood side pattern → SpellsItem side pattern (Plain (word_of verb) ∷ tokens)
item_at_is side verb pattern tokens None e is clean good = cc
item_at_is side verb pattern tokens (Some k) e is clean good =
    let s = position_is (is_word (codes "->")) tokens k e in
    let parts : tokens ≡ take k tokens ++ (arrow ∷ drop (k + 1) tokens) = s.parts ∙ ap (λ (t : Token). take k tokens ++ (t ∷ drop (k + 1) tokens)) (is_word_is (codes "->") s.one s.passes) in
    subst (λ (t : List Token). SpellsItem side pattern (Plain (word_of verb) ∷ t)) (sym parts)
    (form_is side verb pattern (take k tokens) (drop (k + 1) tokens) is (subst (λ (t : List Token). IsClean (lengths_on side) t) parts clean) good)

-- an item that is found is spelled
pub item_is : (side : Side) (verb : Verb) (pattern : Pattern) (tokens : List Token) → item_of verb (lengths_on side) tokens ≡ Is pattern
    → IsClean (lengths_on side) tokens → IsGood side pattern → SpellsItem side pattern (Plain (word_of verb) ∷ tokens)
item_is side verb pattern tokens is clean good = item_at_is side verb pattern tokens (position (is_word (codes "->")) tokens) refl is clean good
