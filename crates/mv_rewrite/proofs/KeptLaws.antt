-- Rules that keep reads and accepts: whole rewriting keeps, for each descriptor, the bytes that were read, and the accepted descriptors.
use Rattle.std.specs.Prelude.{◌≡◌, ℕ, ◌==◌, decimal, Bool, true, false, List, [], ◌∷◌, ◌++◌, length, take, map, Some, if◌then◌else◌, refl}
use Rattle.std.specs.List.{flat_map}
use Rattle.std.proofs.Common.{sym, ◌∙◌, ap, subst, append_assoc}
use Rattle.std.proofs.lemmas.List.{append-nil, map-append}
use Rattle.std.proofs.lemmas.List.Concat.{flat_map-append}
use Rattle.mv_calls.specs.declared.calls.Call.{Call}
use Rattle.mv_calls.specs.declared.calls.Call.TheVariants as calls
use Rattle.mv_calls.specs.declared.calls.Reply.{Reply}
use Rattle.mv_calls.specs.declared.calls.Reply.TheVariants as replies
use Rattle.mv_calls.specs.Items.{eaten_by, eaten, accepted_by, accepted}
use Rattle.mv_rules.specs.declared.rule.FdTerm.{FdTerm}
use Rattle.mv_rules.specs.declared.rule.Part.{Part}
use Rattle.mv_rules.specs.declared.rule.Part.TheVariants.{Text, Sized, Named, Length}
use Rattle.mv_rules.specs.declared.rule.Pattern.{Pattern}
use Rattle.mv_rules.specs.declared.rule.Pattern.TheVariants as patterns
use Rattle.mv_rules.specs.declared.rule.Rule.{Rule}
use Rattle.mv_rules.specs.Shape.{AreShaped}
use Rattle.mv_rulecheck.specs.Atoms.{Piece, Byte, Name, LengthOf, pieces_of_part, pieces_of, read_atoms_of, read_atoms, accepts_of, accepts, IsKept, AreKept}
use Rattle.mv_rewrite.proofs.DecidingLaws.{IsAdditive, RuleKeeps, RulesKeep, decision_keeps, measure_kept}
use Rattle.mv_rewrite.specs.Bound.{Bound, unbound}
use Rattle.mv_rewrite.specs.declared.fit.Fit.{Fit}
use Rattle.mv_rewrite.specs.declared.fit.Fit.TheVariants.{Whole, Short, Not}
use Rattle.mv_rewrite.specs.Matching.{bytes_named, fd_value, part_value, bytes_value, made_of, trimmed, rule_fit, made_by, front_of, could_match}
use Rattle.mv_rewrite.proofs.BindingLaws.{fit_makes}
use Rattle.mv_rewrite.specs.Rewriting.{decide, turned_groups, turned}
use Rattle.mv_rewrite.proofs.RewritingLaws.{turned_ends}

-- ## Reads

abbrev read_of : ℕ → List (Call × Reply) → List ℕ
read_of fd items = eaten items fd

trim_read : (fd : ℕ) (call : Call) (reply : Reply) → eaten_by (trimmed call reply).0 (trimmed call reply).1 fd ≡ eaten_by call reply fd
trim_read fd (calls.Read from most) (replies.Bytes bytes) = refl
trim_read fd (calls.Random len) (replies.Bytes bytes) = refl
trim_read fd call reply = refl

eaten_trimmed : (fd : ℕ) (items : List (Call × Reply)) → read_of fd (map (λ i. trimmed i.0 i.1) items) ≡ read_of fd items
eaten_trimmed fd [] = refl
eaten_trimmed fd (i ∷ items) =
    ap (λ (k : List ℕ). k ++ read_of fd (map (λ i. trimmed i.0 i.1) items)) (trim_read fd i.0 i.1)
    ∙ ap (λ (k : List ℕ). eaten_by i.0 i.1 fd ++ k) (eaten_trimmed fd items)

abbrev piece_value : Bound → Piece → List ℕ
piece_value b (Byte byte) = byte ∷ []
piece_value b (Name name) = bytes_named b name
piece_value b (LengthOf name) = decimal (length (bytes_named b name))

-- what the atoms read of a descriptor
abbrev atoms_value : ℕ → Bound → List (FdTerm × Piece) → List ℕ
atoms_value fd b atoms = flat_map (λ a. if fd_value a.0 b == fd then piece_value b a.1 else []) atoms

text_pieces : (b : Bound) (text : List ℕ) → text ≡ flat_map (piece_value b) (map Byte text)
text_pieces b [] = refl
text_pieces b (x ∷ text) = ap (λ (k : List ℕ). x ∷ k) (text_pieces b text)

part_pieces : (b : Bound) (part : Part) → part_value b part ≡ flat_map (piece_value b) (pieces_of_part part)
part_pieces b (Text text) = text_pieces b text
part_pieces b (Sized name count) = sym (append-nil (bytes_named b name))
part_pieces b (Named name) = sym (append-nil (bytes_named b name))
part_pieces b (Length name) = sym (append-nil (decimal (length (bytes_named b name))))

parts_pieces : (b : Bound) (parts : List Part) → bytes_value parts b ≡ flat_map (piece_value b) (pieces_of parts)
parts_pieces b [] = refl
parts_pieces b (part ∷ parts) =
    ap (λ (k : List ℕ). k ++ bytes_value parts b) (part_pieces b part)
    ∙ ap (λ (k : List ℕ). flat_map (piece_value b) (pieces_of_part part) ++ k) (parts_pieces b parts)
    ∙ sym (flat_map-append (piece_value b) (pieces_of_part part) (pieces_of parts))

same_descriptor : (fd : ℕ) (b : Bound) (term : FdTerm) (test : Bool) → (fd_value term b == fd) ≡ test → (pieces : List Piece)
    → atoms_value fd b (map (λ piece. (term, piece)) pieces) ≡ (if test then flat_map (piece_value b) pieces else [])
same_descriptor fd b term true h [] = refl
same_descriptor fd b term false h [] = refl
same_descriptor fd b term true h (piece ∷ pieces) =
    rw h (ap (λ (k : List ℕ). piece_value b piece ++ k) (same_descriptor fd b term true h pieces))
same_descriptor fd b term false h (piece ∷ pieces) = rw h (same_descriptor fd b term false h pieces)

made_reads : (fd : ℕ) (b : Bound) (pattern : Pattern) → eaten_by (made_of b pattern).0 (made_of b pattern).1 fd ≡ atoms_value fd b (read_atoms_of pattern)
made_reads fd b (patterns.Read term parts) =
    ap (λ (k : List ℕ). if fd_value term b == fd then k else []) (parts_pieces b parts)
    ∙ sym (same_descriptor fd b term (fd_value term b == fd) refl (pieces_of parts))
made_reads fd b pattern = refl

side_reads : (fd : ℕ) (b : Bound) (side : List Pattern) → read_of fd (map (made_of b) side) ≡ atoms_value fd b (read_atoms side)
side_reads fd b [] = refl
side_reads fd b (pattern ∷ side) =
    ap (λ (k : List ℕ). k ++ read_of fd (map (made_of b) side)) (made_reads fd b pattern)
    ∙ ap (λ (k : List ℕ). atoms_value fd b (read_atoms_of pattern) ++ k) (side_reads fd b side)
    ∙ sym (flat_map-append (λ (a : FdTerm × Piece). if fd_value a.0 b == fd then piece_value b a.1 else []) (read_atoms_of pattern) (read_atoms side))

-- ## Accepts

trim_accepted : (call : Call) (reply : Reply) → accepted_by (trimmed call reply).0 (trimmed call reply).1 ≡ accepted_by call reply
trim_accepted (calls.Read from most) (replies.Bytes bytes) = refl
trim_accepted (calls.Random len) (replies.Bytes bytes) = refl
trim_accepted (calls.Accept listener flags) (replies.Fd made) = refl
trim_accepted call reply = refl

accepted_trimmed : (items : List (Call × Reply)) → accepted (map (λ i. trimmed i.0 i.1) items) ≡ accepted items
accepted_trimmed [] = refl
accepted_trimmed (i ∷ items) =
    ap (λ (k : List (ℕ × ℕ)). k ++ accepted (map (λ i. trimmed i.0 i.1) items)) (trim_accepted i.0 i.1)
    ∙ ap (λ (k : List (ℕ × ℕ)). accepted_by i.0 i.1 ++ k) (accepted_trimmed items)

abbrev accepts_value : Bound → List (FdTerm × FdTerm) → List (ℕ × ℕ)
accepts_value b pairs = map (λ p. (fd_value p.0 b, fd_value p.1 b)) pairs

made_accepts : (b : Bound) (pattern : Pattern) → accepted_by (made_of b pattern).0 (made_of b pattern).1 ≡ accepts_value b (accepts_of pattern)
made_accepts b (patterns.Accept listener flags made) = refl
made_accepts b pattern = refl

side_accepts : (b : Bound) (side : List Pattern) → accepted (map (made_of b) side) ≡ accepts_value b (accepts side)
side_accepts b [] = refl
side_accepts b (pattern ∷ side) =
    ap (λ (k : List (ℕ × ℕ)). k ++ accepted (map (made_of b) side)) (made_accepts b pattern)
    ∙ ap (λ (k : List (ℕ × ℕ)). accepts_value b (accepts_of pattern) ++ k) (side_accepts b side)
    ∙ sym (map-append (λ (p : FdTerm × FdTerm). (fd_value p.0 b, fd_value p.1 b)) (accepts_of pattern) (accepts side))

-- ## Kept rules

whole_match : (rule : Rule) (fit : Fit) (made : List (Call × Reply)) (n : ℕ) → made_by rule fit ≡ Some (made, n)
    → (b : Bound) × (fit ≡ Whole b) × (◌≡◌ {A = List (Call × Reply) × ℕ} (map (made_of b) rule.right, length rule.left) (made, n))
whole_match rule (Whole b) made n h = (b, refl, cc)
whole_match rule Short made n h = cc
whole_match rule Not made n h = cc

pub rule_keeps_reads : (fd : ℕ) (rule : Rule) → IsKept rule → RuleKeeps front_of (read_of fd) rule
rule_keeps_reads fd rule kept l made n h =
    let w = whole_match rule (rule_fit rule l) made n h in
    let b = w.0 in
    let m = fit_makes rule.guards rule.left l unbound b w.1 in
    subst (λ (t : List (Call × Reply) × ℕ). read_of fd t.0 ≡ read_of fd (take t.1 l)) w.2
    (side_reads fd b rule.right
    ∙ ap (λ (k : List (FdTerm × Piece)). atoms_value fd b k) kept.reads
    ∙ sym (side_reads fd b rule.left)
    ∙ ap (λ (k : List (Call × Reply)). read_of fd k) m.1
    ∙ eaten_trimmed fd (take (length rule.left) l))

pub rule_keeps_accepts : (rule : Rule) → IsKept rule → RuleKeeps front_of accepted rule
rule_keeps_accepts rule kept l made n h =
    let w = whole_match rule (rule_fit rule l) made n h in
    let b = w.0 in
    let m = fit_makes rule.guards rule.left l unbound b w.1 in
    subst (λ (t : List (Call × Reply) × ℕ). accepted t.0 ≡ accepted (take t.1 l)) w.2
    (side_accepts b rule.right
    ∙ ap (λ (k : List (FdTerm × FdTerm)). accepts_value b k) kept.accepts
    ∙ sym (side_accepts b rule.left)
    ∙ ap (λ (k : List (Call × Reply)). accepted k) m.1
    ∙ accepted_trimmed (take (length rule.left) l))

rules_keep_reads : (fd : ℕ) (rules : List Rule) → AreKept rules → RulesKeep front_of (read_of fd) rules
rules_keep_reads fd [] kept = tt
rules_keep_reads fd (rule ∷ rules) kept = (rule_keeps_reads fd rule kept.0, rules_keep_reads fd rules kept.1)

rules_keep_accepts : (rules : List Rule) → AreKept rules → RulesKeep front_of accepted rules
rules_keep_accepts [] kept = tt
rules_keep_accepts (rule ∷ rules) kept = (rule_keeps_accepts rule kept.0, rules_keep_accepts rules kept.1)

eaten_append : (fd : ℕ) (l m : List (Call × Reply)) → read_of fd (l ++ m) ≡ read_of fd l ++ read_of fd m
eaten_append fd [] m = refl
eaten_append fd (i ∷ l) m =
    ap (λ (k : List ℕ). eaten_by i.0 i.1 fd ++ k) (eaten_append fd l m) ∙ sym (append_assoc (eaten_by i.0 i.1 fd) (read_of fd l) (read_of fd m))

eaten_adds : (fd : ℕ) → IsAdditive (read_of fd)
eaten_adds fd = record { none = refl; append = eaten_append fd }

accepted_append : (l m : List (Call × Reply)) → accepted (l ++ m) ≡ accepted l ++ accepted m
accepted_append [] m = refl
accepted_append (i ∷ l) m =
    ap (λ (k : List (ℕ × ℕ)). accepted_by i.0 i.1 ++ k) (accepted_append l m) ∙ sym (append_assoc (accepted_by i.0 i.1) (accepted l) (accepted m))

accepted_adds : IsAdditive accepted
accepted_adds = record { none = refl; append = accepted_append }

-- the bytes read of each descriptor are the same, in order, each once
pub turned_keeps_reads : (rules : List Rule) (items : List (Call × Reply)) (fd : ℕ) → AreShaped rules → AreKept rules → eaten (turned rules items) fd ≡ eaten items fd
turned_keeps_reads rules items fd shaped kept =
    sym (append-nil (read_of fd (turned rules items)))
    ∙ measure_kept (decide false rules) (read_of fd) (eaten_adds fd)
    (decision_keeps front_of could_match (read_of fd) false rules (rules_keep_reads fd rules kept))
    items (turned_groups rules items) [] (turned_ends rules items shaped)

-- the accepted descriptors are the same, in order, each once
pub turned_keeps_accepts : (rules : List Rule) (items : List (Call × Reply)) → AreShaped rules → AreKept rules → accepted (turned rules items) ≡ accepted items
turned_keeps_accepts rules items shaped kept =
    sym (append-nil (accepted (turned rules items)))
    ∙ measure_kept (decide false rules) accepted accepted_adds
    (decision_keeps front_of could_match accepted false rules (rules_keep_accepts rules kept))
    items (turned_groups rules items) [] (turned_ends rules items shaped)
