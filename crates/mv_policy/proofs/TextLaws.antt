-- The policy that is read of a text is the one that it spells, and the fault that is found is its first.
use Rattle.std.proofs.Common.{◌≡◌, ◌≢◌, ◌<◌, ◌≤◌, ◌⊎◌, inl, inr, ◌∷◌, ◌++◌, [], ℕ, ◌+◌, List, Bool, true, false, length, refl, ap, sym, ◌∙◌, subst, arith, codes, Option, Some, None, append_assoc, append-nil}
use Rattle.std.specs.Prelude.{Result, Ok, Err, IfOk, if◌then◌else◌}
use Rattle.mv_calls.specs.declared.fault.Or.{Or}
use Rattle.mv_calls.specs.declared.fault.Or.TheVariants.{Fault, OutOfMemory}
use Rattle.mv_calls.specs.Or.{IfFault}
use Rattle.std.specs.List.{join_with_byte}
use Rattle.std.specs.Str.{bytes_eq}
use Rattle.std.proofs.lemmas.List.{append_cancel_right}
use Rattle.std.proofs.lemmas.List.Splits.{join_with_byte-slice_split}
use Rattle.std.proofs.lemmas.Slice.Eq.{bytes_eq-Decides}
use Rattle.mv_policy.specs.declared.line.PolicyLine.{PolicyLine}
use Rattle.mv_policy.specs.declared.fault.PolicyKind.{PolicyKind}
use Rattle.mv_policy.specs.declared.fault.PolicyKind.TheVariants as kind
use Rattle.mv_policy.specs.declared.fault.PolicyFault.{PolicyFault}
use Rattle.mv_policy.specs.PolicyText.{SpellsLine, SpellsLines, AreSound, IsFaulty, IsTextOf, HasLines, Spells, IsFirstFault, Reads, fault_of}
use Rattle.mv_policy.specs.Reading.{cut, line_of, fault_at, unless, judged, next_line, and_then, read_lines, read_all}
use Rattle.mv_policy.proofs.Splits.{cut_lacks, cut_join}
use Rattle.mv_policy.proofs.LineLaws.{found_spells, spelled_found}

-- ## One line

record IsNext (before : List PolicyLine) (bytes : List ℕ) (line : PolicyLine) : Type 0 where
  spelled : SpellsLine line bytes
  sound : fault_of before line ≡ None

record IsStop (before : List PolicyLine) (bytes : List ℕ) (fault : PolicyFault) : Type 0 where
  faulty : IsFaulty before bytes fault.kind
  place : fault.line ≡ length before + 2

judged_ok : (before : List PolicyLine) (bytes : List ℕ) (found : Option PolicyLine) (line : PolicyLine) → line_of (cut 32 bytes) ≡ found → judged before found ≡ Ok line → IsNext before bytes line
judged_ok before bytes None line e h = absurd cc
judged_ok before bytes (Some l) line e h = at_fault (fault_of before l) refl h
  where
    at_fault : (k : Option PolicyKind) → fault_of before l ≡ k → unless before l k ≡ Ok line → IsNext before bytes line
    at_fault None f h = subst (IsNext before bytes) (let is : l ≡ line = cc in is) (record { spelled = found_spells bytes l e; sound = f })
    at_fault (Some k) f h = absurd cc

judged_err : (before : List PolicyLine) (bytes : List ℕ) (found : Option PolicyLine) (fault : PolicyFault) → line_of (cut 32 bytes) ≡ found → judged before found ≡ Err fault → IsStop before bytes fault
judged_err before bytes None fault e h =
    subst (IsStop before bytes) (let is : fault_at before kind.Word ≡ fault = cc in is)
    (record { faulty = inl (refl, λ line s. absurd (let both : None ≡ Some line = sym e ∙ spelled_found bytes line s in cc)); place = refl })
judged_err before bytes (Some l) fault e h = at_fault (fault_of before l) refl h
  where
    at_fault : (k : Option PolicyKind) → fault_of before l ≡ k → unless before l k ≡ Err fault → IsStop before bytes fault
    at_fault None f h = absurd cc
    at_fault (Some k) f h =
        subst (IsStop before bytes) (let is : fault_at before k ≡ fault = cc in is) (record { faulty = inr (l, found_spells bytes l e, f); place = refl })

next_is : (before : List PolicyLine) (bytes : List ℕ) (line : PolicyLine) → IsNext before bytes line → next_line before bytes ≡ Ok line
next_is before bytes line is = ap (judged before) (spelled_found bytes line is.spelled) ∙ ap (unless before line) is.sound

fault_eta : (before : List PolicyLine) (fault : PolicyFault) (k : PolicyKind) → fault.line ≡ length before + 2 → fault.kind ≡ k → fault_at before k ≡ fault
fault_eta before fault k place is = rw (← place, ← is) refl

not_read : (before : List PolicyLine) (bytes : List ℕ) (found : Option PolicyLine) → line_of (cut 32 bytes) ≡ found → ((line : PolicyLine) → ¬ SpellsLine line bytes) → judged before found ≡ Err (fault_at before kind.Word)
not_read before bytes None e none = refl
not_read before bytes (Some l) e none = absurd (none l (found_spells bytes l e))

stop_is : (before : List PolicyLine) (bytes : List ℕ) (fault : PolicyFault) → IsStop before bytes fault → next_line before bytes ≡ Err fault
stop_is before bytes fault is =
    elim is.faulty [
      | inl word ↦ not_read before bytes (line_of (cut 32 bytes)) refl word.1 ∙ ap (λ (f : PolicyFault). Err f) (fault_eta before fault kind.Word is.place word.0)
      | inr found ↦ ap (judged before) (spelled_found bytes found.0 found.1) ∙ ap (unless before found.0) found.2 ∙ ap (λ (f : PolicyFault). Err f) (fault_eta before fault fault.kind is.place refl)
    ]

-- ## Line by line

-- more lines behind these, spelled by these bytes
record AreNext (before : List PolicyLine) (lines : List (List ℕ)) (policy : List PolicyLine) : Type 0 where
  more : List PolicyLine
  whole : policy ≡ before ++ more
  spelled : SpellsLines more lines
  sound : AreSound before more

append_one : (before : List PolicyLine) (line : PolicyLine) (more : List PolicyLine) → (before ++ line ∷ []) ++ more ≡ before ++ (line ∷ more)
append_one before line more = append_assoc before (line ∷ []) more

lines_ok : (before : List PolicyLine) (lines : List (List ℕ)) (policy : List PolicyLine) → read_lines before lines ≡ Ok policy → AreNext before lines policy
lines_ok before [] policy h = record { more = []; whole = (let is : before ≡ policy = cc in sym is) ∙ sym (append-nil before); spelled = tt; sound = tt }
lines_ok before (bytes ∷ rest) policy h = at_next (λ line. lines_ok (before ++ line ∷ []) rest policy) (next_line before bytes) refl h
  where
    at_next : ((line : PolicyLine) → read_lines (before ++ line ∷ []) rest ≡ Ok policy → AreNext (before ++ line ∷ []) rest policy) → (r : Result PolicyLine PolicyFault) → next_line before bytes ≡ r → and_then r (λ line. read_lines (before ++ line ∷ []) rest) ≡ Ok policy → AreNext before (bytes ∷ rest) policy
    at_next others (Err fault) e h = absurd cc
    at_next others (Ok line) e h =
        let one = judged_ok before bytes (line_of (cut 32 bytes)) line refl e in
        let rest_are = others line h in
        record { more = line ∷ rest_are.more; whole = rest_are.whole ∙ append_one before line rest_are.more; spelled = (one.spelled, rest_are.spelled); sound = (one.sound, rest_are.sound) }

lines_are : (before : List PolicyLine) (lines : List (List ℕ)) (more : List PolicyLine) → SpellsLines more lines → AreSound before more → read_lines before lines ≡ Ok (before ++ more)
lines_are before [] [] s a = ap (λ (p : List PolicyLine). Ok p) (sym (append-nil before))
lines_are before (bytes ∷ rest) [] s a = absurd s
lines_are before [] (line ∷ more) s a = absurd s
lines_are before (bytes ∷ rest) (line ∷ more) s a =
    ap (λ (r : Result PolicyLine PolicyFault). and_then r (λ line. read_lines (before ++ line ∷ []) rest)) (next_is before bytes line (record { spelled = s.0; sound = a.0 }))
    ∙ lines_are (before ++ line ∷ []) rest more s.1 a.1 ∙ ap (λ (p : List PolicyLine). Ok p) (append_one before line more)

-- a first faulty line behind these
record Stops (before : List PolicyLine) (lines : List (List ℕ)) (fault : PolicyFault) : Type 0 where
  more : List PolicyLine
  front : List (List ℕ)
  line : List ℕ
  rest : List (List ℕ)
  whole : lines ≡ front ++ line ∷ rest
  spelled : SpellsLines more front
  sound : AreSound before more
  stop : IsStop (before ++ more) line fault

lines_err : (before : List PolicyLine) (lines : List (List ℕ)) (fault : PolicyFault) → read_lines before lines ≡ Err fault → Stops before lines fault
lines_err before [] fault h = absurd cc
lines_err before (bytes ∷ rest) fault h = at_next (λ line. lines_err (before ++ line ∷ []) rest fault) (next_line before bytes) refl h
  where
    at_next : ((line : PolicyLine) → read_lines (before ++ line ∷ []) rest ≡ Err fault → Stops (before ++ line ∷ []) rest fault) → (r : Result PolicyLine PolicyFault) → next_line before bytes ≡ r → and_then r (λ line. read_lines (before ++ line ∷ []) rest) ≡ Err fault → Stops before (bytes ∷ rest) fault
    at_next others (Err found) e h =
        let found_is : found ≡ fault = cc in
        let is : next_line before bytes ≡ Err fault = e ∙ ap (λ (f : PolicyFault). Err f) found_is in
        record {
          more = [];
          front = [];
          line = bytes;
          rest = rest;
          whole = refl;
          spelled = tt;
          sound = tt;
          stop = subst (λ (b : List PolicyLine). IsStop b bytes fault) (sym (append-nil before)) (judged_err before bytes (line_of (cut 32 bytes)) fault refl is);
        }
    at_next others (Ok line) e h =
        let one = judged_ok before bytes (line_of (cut 32 bytes)) line refl e in
        let stops = others line h in
        record {
          more = line ∷ stops.more;
          front = bytes ∷ stops.front;
          line = stops.line;
          rest = stops.rest;
          whole = ap (λ (k : List (List ℕ)). bytes ∷ k) stops.whole;
          spelled = (one.spelled, stops.spelled);
          sound = (one.sound, stops.sound);
          stop = subst (λ (b : List PolicyLine). IsStop b stops.line fault) (append_one before line stops.more) stops.stop;
        }

lines_stop : (before : List PolicyLine) (front : List (List ℕ)) (more : List PolicyLine) (line : List ℕ) (rest : List (List ℕ)) (fault : PolicyFault)
    → SpellsLines more front → AreSound before more → IsStop (before ++ more) line fault → read_lines before (front ++ line ∷ rest) ≡ Err fault
lines_stop before [] [] line rest fault s a is =
    ap (λ (r : Result PolicyLine PolicyFault). and_then r (λ l. read_lines (before ++ l ∷ []) rest)) (stop_is before line fault (subst (λ (b : List PolicyLine). IsStop b line fault) (append-nil before) is))
lines_stop before (bytes ∷ front) [] line rest fault s a is = absurd s
lines_stop before [] (l ∷ more) line rest fault s a is = absurd s
lines_stop before (bytes ∷ front) (l ∷ more) line rest fault s a is =
    ap (λ (r : Result PolicyLine PolicyFault). and_then r (λ k. read_lines (before ++ k ∷ []) (front ++ line ∷ rest))) (next_is before bytes l (record { spelled = s.0; sound = a.0 }))
    ∙ lines_stop (before ++ l ∷ []) front more line rest fault s.1 a.1 (subst (λ (b : List PolicyLine). IsStop b line fault) (sym (append_one before l more)) is)

-- ## Texts

same_joined : (text x y : List ℕ)
    → (text ≡ x ++ 10 ∷ []) ⊎ ((text ≡ x) × ((front : List ℕ) → text ≢ front ++ 10 ∷ []))
    → (text ≡ y ++ 10 ∷ []) ⊎ ((text ≡ y) × ((front : List ℕ) → text ≢ front ++ 10 ∷ [])) → x ≡ y
same_joined text x y (inl p) (inl q) = append_cancel_right x y (10 ∷ []) (sym p ∙ q)
same_joined text x y (inl p) (inr q) = absurd (q.1 x p)
same_joined text x y (inr p) (inl q) = absurd (p.1 y q)
same_joined text x y (inr p) (inr q) = sym p.0 ∙ q.0

-- the lines of a text are what stands between its line feeds
cut_lines : (body text first : List ℕ) (lines : List (List ℕ))
    → (text ≡ body ++ 10 ∷ []) ⊎ ((text ≡ body) × ((front : List ℕ) → text ≢ front ++ 10 ∷ []))
    → IsTextOf (first ∷ lines) text → cut 10 body ≡ first ∷ lines
cut_lines body text first lines ends is =
    ap (cut 10) (same_joined text body (join_with_byte 10 (first ∷ lines)) ends is.ended) ∙ cut_join 10 first lines refl is.plain

text_of_cut : (body text : List ℕ)
    → (text ≡ body ++ 10 ∷ []) ⊎ ((text ≡ body) × ((front : List ℕ) → text ≢ front ++ 10 ∷ []))
    → IsTextOf (cut 10 body) text
text_of_cut body text ends = record {
  plain = cut_lacks 10 body;
  ended = subst (λ (b : List ℕ). (text ≡ b ++ 10 ∷ []) ⊎ ((text ≡ b) × ((front : List ℕ) → text ≢ front ++ 10 ∷ []))) (sym (join_with_byte-slice_split 10 body)) ends;
}

head_same : (x y : List ℕ) (xs ys : List (List ℕ)) → x ∷ xs ≡ y ∷ ys → x ≡ y
head_same x y xs ys h = cc

read_of : (text : List ℕ) (lines : List (List ℕ)) (r : Result (List PolicyLine) PolicyFault) → HasLines lines text → read_lines [] lines ≡ r → Reads text r
read_of text lines (Ok policy) has h =
    let all = lines_ok [] lines policy h in
    record { lines = lines; whole = has; spelled = subst (λ (p : List PolicyLine). SpellsLines p lines) (sym all.whole) all.spelled; sound = subst (AreSound []) (sym all.whole) all.sound }
read_of text lines (Err fault) has h =
    let at = lines_err [] lines fault h in
    inr (inr (record { before = at.more; front = at.front; line = at.line; rest = at.rest; whole = subst (λ (k : List (List ℕ)). HasLines k text) at.whole has; spelled = at.spelled; sound = at.sound; faulty = at.stop.faulty; place = at.stop.place }))

-- what is read of a text of this size is what it says
pub text_reads : (body text : List ℕ) (r : Result (List PolicyLine) PolicyFault) → length text ≤ 65536
    → (text ≡ body ++ 10 ∷ []) ⊎ ((text ≡ body) × ((front : List ℕ) → text ≢ front ++ 10 ∷ []))
    → read_all (cut 10 body) ≡ r → Reads text r
text_reads body text r small ends h = at_lines (cut 10 body) refl h
  where
    no_header : ((lines : List (List ℕ)) → ¬ HasLines lines text) → Err (record { line = 1; kind = kind.Header }) ≡ r → Reads text r
    no_header none h = subst (Reads text) h (inr (inl (small, none, refl)))

    at_header : (b : Bool) (first : List ℕ) (rest : List (List ℕ)) → cut 10 body ≡ first ∷ rest → bytes_eq first (codes "mvpolicy 1") ≡ b
        → (if b then read_lines [] rest else Err (record { line = 1; kind = kind.Header })) ≡ r → Reads text r
    at_header true first rest is same h =
        let header : first ≡ codes "mvpolicy 1" = (bytes_eq-Decides first (codes "mvpolicy 1")).0 same in
        let parts : cut 10 body ≡ codes "mvpolicy 1" ∷ rest = is ∙ ap (λ (x : List ℕ). x ∷ rest) header in
        read_of text rest r (record { size = small; joined = subst (λ (k : List (List ℕ)). IsTextOf k text) parts (text_of_cut body text ends) }) h
    at_header false first rest is other h =
        no_header (λ lines has. absurd (
        let parts : first ∷ rest ≡ codes "mvpolicy 1" ∷ lines = sym is ∙ cut_lines body text (codes "mvpolicy 1") lines ends has.joined in
        let both : false ≡ true = sym other ∙ (bytes_eq-Decides first (codes "mvpolicy 1")).1 (head_same _ _ _ _ parts) in cc)) h

    at_lines : (ws : List (List ℕ)) → cut 10 body ≡ ws → read_all ws ≡ r → Reads text r
    at_lines [] is h =
        no_header (λ lines has. absurd (let parts : [] ≡ codes "mvpolicy 1" ∷ lines = sym is ∙ cut_lines body text (codes "mvpolicy 1") lines ends has.joined in cc)) h
    at_lines (first ∷ rest) is h = at_header (bytes_eq first (codes "mvpolicy 1")) first rest is refl h

-- ## One reading

-- what a text gives, by its size, its first line and its lines
abbrev Gives : List ℕ → Result (List PolicyLine) PolicyFault → Type 0
Gives text r =
    ((65536 < length text) × (Err (record { line = 1; kind = kind.Size }) ≡ r))
    ⊎ (((length text ≤ 65536) × ((lines : List (List ℕ)) → ¬ HasLines lines text) × (Err (record { line = 1; kind = kind.Header }) ≡ r))
    ⊎ ((lines : List (List ℕ)) × HasLines lines text × (read_lines [] lines ≡ r)))

gives_of : (text : List ℕ) (r : Result (List PolicyLine) PolicyFault) → Reads text r → Gives text r
gives_of text (Ok policy) is = inr (inr (is.lines, is.whole, lines_are [] is.lines policy is.spelled is.sound))
gives_of text (Err fault) (inl big) = inl (big.0, ap (λ (f : PolicyFault). Err f) (sym big.1))
gives_of text (Err fault) (inr (inl none)) = inr (inl (none.0, none.1, ap (λ (f : PolicyFault). Err f) (sym none.2)))
gives_of text (Err fault) (inr (inr at)) =
    inr (inr (at.front ++ at.line ∷ at.rest, at.whole, lines_stop [] at.front at.before at.line at.rest fault at.spelled at.sound (record { faulty = at.faulty; place = at.place })))

tail_same : (x : List ℕ) (xs ys : List (List ℕ)) → x ∷ xs ≡ x ∷ ys → xs ≡ ys
tail_same x xs ys h = cc

same_lines : (text : List ℕ) (xs ys : List (List ℕ)) → HasLines xs text → HasLines ys text → xs ≡ ys
same_lines text xs ys p q =
    tail_same (codes "mvpolicy 1") xs ys
    (sym (cut_join 10 (codes "mvpolicy 1") xs refl p.joined.plain) ∙ cut_lines (join_with_byte 10 (codes "mvpolicy 1" ∷ xs)) text (codes "mvpolicy 1") ys p.joined.ended q.joined)

gives_same : (text : List ℕ) (a b : Result (List PolicyLine) PolicyFault) → Gives text a → Gives text b → a ≡ b
gives_same text a b (inl p) (inl q) = sym p.1 ∙ q.1
gives_same text a b (inl p) (inr (inl q)) = absurd (omega (arith, p.0, q.0))
gives_same text a b (inl p) (inr (inr q)) = absurd (omega (arith, p.0, q.1.size))
gives_same text a b (inr (inl p)) (inl q) = absurd (omega (arith, p.0, q.0))
gives_same text a b (inr (inl p)) (inr (inl q)) = sym p.2 ∙ q.2
gives_same text a b (inr (inl p)) (inr (inr q)) = absurd (p.1 q.0 q.1)
gives_same text a b (inr (inr p)) (inl q) = absurd (omega (arith, p.1.size, q.0))
gives_same text a b (inr (inr p)) (inr (inl q)) = absurd (q.1 p.0 p.1)
gives_same text a b (inr (inr p)) (inr (inr q)) = sym p.2 ∙ ap (read_lines []) (same_lines text p.0 q.0 p.1 q.1) ∙ q.2

pub same_reading : (text : List ℕ) (a b : Result (List PolicyLine) PolicyFault) → Reads text a → Reads text b → a ≡ b
same_reading text a b p q = gives_same text a b (gives_of text a p) (gives_of text b q)

-- ## The two clauses of an answer

turned : (body text : List ℕ) → (text ≡ body ++ 10 ∷ []) ⊎ ((body ≡ text) × ((front : List ℕ) → text ≢ front ++ 10 ∷ []))
    → (text ≡ body ++ 10 ∷ []) ⊎ ((text ≡ body) × ((front : List ℕ) → text ≢ front ++ 10 ∷ []))
turned body text (inl p) = inl p
turned body text (inr p) = inr (sym p.0, p.1)

pub if_policy : (body text : List ℕ) (lines : List (List ℕ)) (r : Result (List PolicyLine) (Or PolicyFault)) → length text ≤ 65536
    → (text ≡ body ++ 10 ∷ []) ⊎ ((body ≡ text) × ((front : List ℕ) → text ≢ front ++ 10 ∷ []))
    → lines ≡ cut 10 body → IfOk r (λ policy. read_all lines ≡ Ok policy) → IfOk r (λ policy. Spells text policy)
if_policy body text lines (Ok policy) small ends is h = text_reads body text (Ok policy) small (turned body text ends) (ap read_all (sym is) ∙ h)
if_policy body text lines (Err fault) small ends is h = tt

pub if_fault : (body text : List ℕ) (lines : List (List ℕ)) (r : Result (List PolicyLine) (Or PolicyFault)) → length text ≤ 65536
    → (text ≡ body ++ 10 ∷ []) ⊎ ((body ≡ text) × ((front : List ℕ) → text ≢ front ++ 10 ∷ []))
    → lines ≡ cut 10 body → IfFault r (λ fault. read_all lines ≡ Err fault) → IfFault r (λ fault. IsFirstFault text fault)
if_fault body text lines (Ok policy) small ends is h = tt
if_fault body text lines (Err (Fault fault)) small ends is h = text_reads body text (Err fault) small (turned body text ends) (ap read_all (sym is) ∙ h)
if_fault body text lines (Err OutOfMemory) small ends is h = tt
