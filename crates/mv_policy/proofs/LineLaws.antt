-- The line that is read of some words is the one that they spell.
use Rattle.std.proofs.Common.{◌≡◌, ◌<◌, ◌⊎◌, inl, inr, ◌∷◌, [], ℕ, List, Bool, true, false, ◌||◌, length, refl, ap, sym, ◌∙◌, subst, arith, codes, Option, Some, None}
use Rattle.std.specs.Prelude.{if◌then◌else◌}
use Rattle.std.specs.List.{AllByRecursion, join_with_byte}
use Rattle.std.specs.Str.{bytes_eq}
use Rattle.std.proofs.lemmas.List.Splits.{join_with_byte-slice_split}
use Rattle.std.proofs.lemmas.Slice.Eq.{bytes_eq-Decides}
use Rattle.mv_policy.specs.declared.line.Who.{Who}
use Rattle.mv_policy.specs.declared.line.Who.TheVariants.{Anyone, Named}
use Rattle.mv_policy.specs.declared.line.Which.{Which}
use Rattle.mv_policy.specs.declared.line.Which.TheVariants as which
use Rattle.mv_policy.specs.declared.line.PolicyLine.{PolicyLine}
use Rattle.mv_policy.specs.declared.line.PolicyLine.TheVariants.{Empty, User, Allow, Deny}
use Rattle.mv_policy.specs.PolicyText.{which_text, who_text, line_words, IsWord, IsNobody, NamesNobody, SpellsLine}
use Rattle.mv_policy.specs.Reading.{cut, who_of, which_of, is_empty, rule_on, three_words, line_of}
use Rattle.mv_policy.proofs.Splits.{Lacks, cut_lacks, cut_join}

-- a choice that gave a value took it here or further on
pick : {A : Type 0} (b : Bool) (x : A) (rest : Option A) (w : A) → (if b then Some x else rest) ≡ Some w → ((b ≡ true) × (x ≡ w)) ⊎ (rest ≡ Some w)
pick true x rest w h = inl (refl, cc)
pick false x rest w h = inr h

same : (a b : List ℕ) → bytes_eq a b ≡ true → a ≡ b
same a b h = (bytes_eq-Decides a b).0 h

-- ## Words of a rule

which_is : (w : Which) → which_of (which_text w) ≡ Some w
which_is which.Any = refl
which_is which.Update = refl
which_is which.Promote = refl
which_is which.Discard = refl
which_is which.Finish = refl
which_is which.Back = refl
which_is which.Halt = refl
which_is which.Status = refl

-- the word is that of the choice, or the rest gave it
chosen : (word text : List ℕ) (x w : Which) (rest : Option Which) → which_text x ≡ text → (rest ≡ Some w → word ≡ which_text w)
    → (if bytes_eq word text then Some x else rest) ≡ Some w → word ≡ which_text w
chosen word text x w rest is more h =
    elim (pick (bytes_eq word text) x rest w h) [
      | inl p ↦ same word text p.0 ∙ sym is ∙ ap which_text p.1
      | inr q ↦ more q
    ]

none : {A P : Type 0} (x : A) → None ≡ Some x → P
none x h = cc

which_back : (word : List ℕ) (w : Which) → which_of word ≡ Some w → word ≡ which_text w
which_back word w h =
    chosen word (codes "*") which.Any w _ refl
    (chosen word (codes "update") which.Update w _ refl
    (chosen word (codes "promote") which.Promote w _ refl
    (chosen word (codes "discard") which.Discard w _ refl
    (chosen word (codes "finish") which.Finish w _ refl
    (chosen word (codes "back") which.Back w _ refl
    (chosen word (codes "halt") which.Halt w _ refl
    (chosen word (codes "status") which.Status w None refl (none w)))))))) h

who_choice : (b : Bool) (word : List ℕ) → bytes_eq word (codes "*") ≡ b → (word ≡ who_text (if b then Anyone else Named word)) × (IsNobody (if b then Anyone else Named word) → ⊥)
who_choice true word e = (same word (codes "*") e, λ meant. meant)
who_choice false word e = (refl, λ is. absurd (let both : false ≡ true = sym e ∙ (bytes_eq-Decides word (codes "*")).1 is in cc))

who_back : (word : List ℕ) → (word ≡ who_text (who_of word)) × (IsNobody (who_of word) → ⊥)
who_back word = who_choice (bytes_eq word (codes "*")) word refl

who_named : (b : Bool) (name : List ℕ) → bytes_eq name (codes "*") ≡ b → (name ≡ codes "*" → ⊥) → (if b then Anyone else Named name) ≡ Named name
who_named true name e meant = absurd (meant (same name (codes "*") e))
who_named false name e meant = refl

who_is : (who : Who) → (IsNobody who → ⊥) → who_of (who_text who) ≡ who
who_is Anyone meant = refl
who_is (Named name) meant = who_named (bytes_eq name (codes "*")) name refl meant

-- ## Words of a line

-- the words are those of the line
record IsOf (ws : List (List ℕ)) (line : PolicyLine) : Type 0 where
  words : ws ≡ line_words line
  full : AllByRecursion (λ w. 0 < length w) ws
  meant : NamesNobody line → ⊥

full : (w : List ℕ) → is_empty w ≡ false → 0 < length w
full [] h = absurd (let bad : true ≡ false = h in cc)
full (b ∷ bs) h = omega arith

of_user : (verb first second : List ℕ) → verb ≡ codes "user" → 0 < length first → 0 < length second → IsOf (verb ∷ first ∷ second ∷ []) (User first second)
of_user verb first second v f s = rw v (record { words = refl; full = (omega arith, (f, (s, tt))); meant = λ meant. meant })

of_allow : (verb first second : List ℕ) (w : Which) → verb ≡ codes "allow" → 0 < length first → 0 < length second → second ≡ which_text w → IsOf (verb ∷ first ∷ second ∷ []) (Allow (who_of first) w)
of_allow verb first second w v f s e = record {
  words = ap (λ (a : List ℕ). a ∷ first ∷ second ∷ []) v ∙ ap (λ (a : List ℕ). codes "allow" ∷ a ∷ second ∷ []) (who_back first).0 ∙ ap (λ (a : List ℕ). codes "allow" ∷ who_text (who_of first) ∷ a ∷ []) e;
  full = (subst (λ (a : List ℕ). 0 < length a) (sym v) (omega arith), (f, (s, tt)));
  meant = (who_back first).1;
}

of_deny : (verb first second : List ℕ) (w : Which) → verb ≡ codes "deny" → 0 < length first → 0 < length second → second ≡ which_text w → IsOf (verb ∷ first ∷ second ∷ []) (Deny (who_of first) w)
of_deny verb first second w v f s e = record {
  words = ap (λ (a : List ℕ). a ∷ first ∷ second ∷ []) v ∙ ap (λ (a : List ℕ). codes "deny" ∷ a ∷ second ∷ []) (who_back first).0 ∙ ap (λ (a : List ℕ). codes "deny" ∷ who_text (who_of first) ∷ a ∷ []) e;
  full = (subst (λ (a : List ℕ). 0 < length a) (sym v) (omega arith), (f, (s, tt)));
  meant = (who_back first).1;
}

of_rule : (verb first second : List ℕ) (which : Option Which) (line : PolicyLine) → which_of second ≡ which → 0 < length first → 0 < length second
    → rule_on verb (who_of first) which ≡ Some line → IsOf (verb ∷ first ∷ second ∷ []) line
of_rule verb first second None line e f s h = none line h
of_rule verb first second (Some w) line e f s h =
    elim (pick (bytes_eq verb (codes "allow")) (Allow (who_of first) w) _ line h) [
      | inl p ↦ subst (IsOf (verb ∷ first ∷ second ∷ [])) p.1 (of_allow verb first second w (same verb (codes "allow") p.0) f s (which_back second w e))
      | inr more ↦ elim (pick (bytes_eq verb (codes "deny")) (Deny (who_of first) w) None line more) [
        | inl p ↦ subst (IsOf (verb ∷ first ∷ second ∷ [])) p.1 (of_deny verb first second w (same verb (codes "deny") p.0) f s (which_back second w e))
        | inr meant ↦ none line meant
      ]
    ]

of_three : (a b : Bool) (verb first second : List ℕ) (line : PolicyLine) → is_empty first ≡ a → is_empty second ≡ b
    → (if a || b then None else if bytes_eq verb (codes "user") then Some (User first second) else rule_on verb (who_of first) (which_of second)) ≡ Some line
    → IsOf (verb ∷ first ∷ second ∷ []) line
of_three true b verb first second line f s h = none line h
of_three false true verb first second line f s h = none line h
of_three false false verb first second line f s h =
    elim (pick (bytes_eq verb (codes "user")) (User first second) _ line h) [
      | inl p ↦ subst (IsOf (verb ∷ first ∷ second ∷ [])) p.1 (of_user verb first second (same verb (codes "user") p.0) (full first f) (full second s))
      | inr more ↦ of_rule verb first second (which_of second) line refl (full first f) (full second s) more
    ]

words_of : (ws : List (List ℕ)) → AllByRecursion (λ w. 0 < length w) ws → AllByRecursion (Lacks 32) ws → AllByRecursion IsWord ws
words_of [] full plain = tt
words_of (w ∷ ws) full plain = ((full.0, plain.0), words_of ws full.1 plain.1)

spells_of : (bytes : List ℕ) (line : PolicyLine) → IsOf (cut 32 bytes) line → SpellsLine line bytes
spells_of bytes line is = record {
  words = subst (AllByRecursion IsWord) is.words (words_of (cut 32 bytes) is.full (cut_lacks 32 bytes));
  meant = is.meant;
  joined = sym (join_with_byte-slice_split 32 bytes) ∙ ap (join_with_byte 32) is.words;
}

of_one : (b : Bool) (word bytes : List ℕ) (line : PolicyLine) → is_empty word ≡ b → cut 32 bytes ≡ word ∷ [] → (if b then Some Empty else None) ≡ Some line → SpellsLine line bytes
of_one true [] bytes line e is h =
    let nothing : bytes ≡ [] = sym (join_with_byte-slice_split 32 bytes) ∙ ap (join_with_byte 32) is in
    subst (λ (l : PolicyLine). SpellsLine l bytes) (let same_line : Empty ≡ line = cc in same_line) (record { words = tt; meant = λ meant. meant; joined = nothing })
of_one true (x ∷ xs) bytes line e is h = absurd (let bad : false ≡ true = e in cc)
of_one false word bytes line e is h = none line h

at_words : (ws : List (List ℕ)) (bytes : List ℕ) (line : PolicyLine) → cut 32 bytes ≡ ws → line_of ws ≡ Some line → SpellsLine line bytes
at_words [] bytes line is h = none line h
at_words (word ∷ []) bytes line is h = of_one (is_empty word) word bytes line refl is h
at_words (verb ∷ first ∷ []) bytes line is h = none line h
at_words (verb ∷ first ∷ second ∷ []) bytes line is h =
    spells_of bytes line (subst (λ (ws : List (List ℕ)). IsOf ws line) (sym is) (of_three (is_empty first) (is_empty second) verb first second line refl refl h))
at_words (verb ∷ first ∷ second ∷ third ∷ more) bytes line is h = none line h

-- what is read is spelled
pub found_spells : (bytes : List ℕ) (line : PolicyLine) → line_of (cut 32 bytes) ≡ Some line → SpellsLine line bytes
found_spells bytes line h = at_words (cut 32 bytes) bytes line refl h

-- ## What is spelled is read

three_user : (name token : List ℕ) → 0 < length name → 0 < length token → three_words (codes "user") name token ≡ Some (User name token)
three_user [] token n t = absurd (omega arith)
three_user (b ∷ bs) [] n t = absurd (omega arith)
three_user (b ∷ bs) (c ∷ cs) n t = refl

three_rule : (verb first second : List ℕ) → bytes_eq verb (codes "user") ≡ false → 0 < length first → 0 < length second → three_words verb first second ≡ rule_on verb (who_of first) (which_of second)
three_rule verb [] second v f s = absurd (omega arith)
three_rule verb (b ∷ bs) [] v f s = absurd (omega arith)
three_rule verb (b ∷ bs) (c ∷ cs) v f s =
    ap (λ (u : Bool). if u then Some (User (b ∷ bs) (c ∷ cs)) else rule_on verb (who_of (b ∷ bs)) (which_of (c ∷ cs))) v

plain_of : (ws : List (List ℕ)) → AllByRecursion IsWord ws → AllByRecursion (Lacks 32) ws
plain_of [] all = tt
plain_of (w ∷ ws) all = (all.0.1, plain_of ws all.1)

words_read : (line : PolicyLine) → AllByRecursion IsWord (line_words line) → (NamesNobody line → ⊥) → line_of (cut 32 (join_with_byte 32 (line_words line))) ≡ Some line
words_read Empty words meant = refl
words_read (User name token) words meant =
    ap line_of (cut_join 32 (codes "user") (name ∷ token ∷ []) refl (plain_of (codes "user" ∷ name ∷ token ∷ []) words))
    ∙ three_user name token words.1.0.0 words.1.1.0.0
words_read (Allow who w) words meant =
    ap line_of (cut_join 32 (codes "allow") (who_text who ∷ which_text w ∷ []) refl (plain_of (codes "allow" ∷ who_text who ∷ which_text w ∷ []) words))
    ∙ three_rule (codes "allow") (who_text who) (which_text w) refl words.1.0.0 words.1.1.0.0
    ∙ ap (λ (o : Option Which). rule_on (codes "allow") (who_of (who_text who)) o) (which_is w)
    ∙ ap (λ (u : Who). Some (Allow u w)) (who_is who meant)
words_read (Deny who w) words meant =
    ap line_of (cut_join 32 (codes "deny") (who_text who ∷ which_text w ∷ []) refl (plain_of (codes "deny" ∷ who_text who ∷ which_text w ∷ []) words))
    ∙ three_rule (codes "deny") (who_text who) (which_text w) refl words.1.0.0 words.1.1.0.0
    ∙ ap (λ (o : Option Which). rule_on (codes "deny") (who_of (who_text who)) o) (which_is w)
    ∙ ap (λ (u : Who). Some (Deny u w)) (who_is who meant)

pub spelled_found : (bytes : List ℕ) (line : PolicyLine) → SpellsLine line bytes → line_of (cut 32 bytes) ≡ Some line
spelled_found bytes line s = ap (λ (b : List ℕ). line_of (cut 32 b)) s.joined ∙ words_read line s.words s.meant
