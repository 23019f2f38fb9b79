-- The items that words spell are found in them.
use Rattle.std.proofs.Common.{◌≡◌, ℕ, ◌+◌, ◌≤◌, ◌&&◌, ◌||◌, Bool, true, false, List, [], ◌∷◌, ◌++◌, length, refl, ap, sym, ◌∙◌, subst, drop, arith, Some, codes, add-zero, zero-add, append-nil}
use Rattle.std.specs.Prelude.{Option, if◌then◌else◌}
use Rattle.std.specs.List.{list_any, list_all}
use Rattle.std.proofs.Math.Seq.{take-append_seam, drop-append-add}
use Rattle.mv_rules.specs.declared.rule.FdTerm.{FdTerm}
use Rattle.mv_rules.specs.declared.rule.TimeTerm.{TimeTerm}
use Rattle.mv_rules.specs.declared.rule.Part.{Part}
use Rattle.mv_rules.specs.declared.rule.Pattern.{Pattern}
use Rattle.mv_rules.specs.declared.rule.Pattern.TheVariants as patterns
use Rattle.mv_scan.specs.declared.token.Token.{Token}
use Rattle.mv_scan.specs.declared.token.Token.TheVariants.{Plain}
use Rattle.mv_rules.specs.declared.verb.Verb.{Verb}
use Rattle.mv_rules.specs.declared.verb.Verb.TheVariants as verbs
use Rattle.mv_scan.specs.declared.found.Found.{Found}
use Rattle.mv_scan.specs.declared.found.Found.TheVariants.{Is}
use Rattle.mv_scan.specs.Found.{found_map, pair}
use Rattle.mv_rules.specs.Forms.{fd_of, time_of, parts_of, is_errno, errno_in, lone_fd, form_of, item_at, item_of}
use Rattle.mv_scan.specs.Numbers.{number_of}
use Rattle.mv_scan.specs.Words.{is_word}
use Rattle.mv_rules.specs.Names.{fd_name_passes, time_name_passes, part_name_passes}
use Rattle.mv_scan.specs.Names.{is_name}
use Rattle.mv_rules.specs.RulesText.{part_count}
use Rattle.mv_rules.specs.ItemGrammar.{Side, Left, Right, arrow, SpellsFd, SpellsBytes, SpellsErrno, SpellsItem, MayStand}
use Rattle.mv_scan.proofs.GrammarFinds.{position_at}
use Rattle.mv_rules.proofs.GrammarTerms.{lengths_on, fd_found, fd_good, time_found, time_good}
use Rattle.mv_scan.proofs.NumberLaws.{number_found}
use Rattle.mv_rules.proofs.GrammarWords.{errno_word, errno_found, fd_no_errno, IsNeutral, number_neutral, fd_neutral, time_neutral, Weighs, weighs_nothing, weighs_neutral, weighs_parts, IsClean, AreUnsized, bytes_found, bytes_good, bytes_unsized, parts_no_arrow, bytes_no_errno}
use Rattle.mv_rules.proofs.GrammarItems.{IsGood, word_of}

-- words that are an item, which has what a line wants
pub record IsGiven (side : Side) (pattern : Pattern) (words : List Token) : Type 0 where
  pub verb : Verb
  pub tokens : List Token
  pub written : words ≡ Plain (word_of verb) ∷ tokens
  pub found : item_of verb (lengths_on side) tokens ≡ Is pattern
  pub clean : IsClean (lengths_on side) tokens
  pub good : IsGood side pattern

-- ## Pieces

pub and_true : (b c : Bool) → b ≡ true → c ≡ true → (b && c) ≡ true
and_true b c h k = rw h k

pub or_false : (b c : Bool) → b ≡ false → c ≡ false → (b || c) ≡ false
or_false b c h k = rw h k

if_so : {A : Type 0} (b : Bool) (x y z : A) → b ≡ true → x ≡ z → (if b then x else y) ≡ z
if_so b x y z h k = rw h k

if_not : {A : Type 0} (b : Bool) (x y z : A) → b ≡ false → y ≡ z → (if b then x else y) ≡ z
if_not b x y z h k = rw h k

pub pair_found : {A B : Type 0} (x : Found A) (y : Found B) (a : A) (b : B) → x ≡ Is a → y ≡ Is b → pair x y ≡ Is (a, b)
pair_found x y a b h k = rw (h, k) refl

order_none : (side : Side) → MayStand side []
order_none Left = refl
order_none (Right version) = tt

no_parts : (side : Side) → AreUnsized side []
no_parts side version e = refl

item_at_found : (verb : Verb) (lengths : Bool) (subject outcome : List Token) (pattern : Pattern) → list_any (is_word (codes "->")) subject ≡ false
    → form_of verb lengths subject outcome ≡ Is pattern → item_of verb lengths (subject ++ (arrow ∷ outcome)) ≡ Is pattern
item_at_found verb lengths subject outcome pattern none is =
    let all = subject ++ (arrow ∷ outcome) in
    ap (λ (o : Option ℕ). item_at verb lengths all o) (position_at (is_word (codes "->")) subject outcome arrow none refl)
    ∙ ap (λ (k : List Token). form_of verb lengths k (drop (length subject + 1) all)) (take-append_seam subject (arrow ∷ outcome))
    ∙ ap (λ (k : List Token). form_of verb lengths subject k) (drop-append-add subject (arrow ∷ outcome) 1)
    ∙ is

-- ## What the words weigh

fits : (lengths : Bool) (tokens : List Token) (n : ℕ) → n ≤ 16 → Weighs lengths tokens n → IsClean lengths tokens
fits lengths tokens n le w = record { few = subst (λ (k : ℕ). k ≤ 16) (sym w.count) le; clean = w.clean }

weighs_arrow : (lengths : Bool) (tokens : List Token) (n : ℕ) → Weighs lengths tokens n → Weighs lengths (arrow ∷ tokens) n
weighs_arrow lengths tokens n w = record { count = zero-add (part_count lengths tokens) ∙ w.count; clean = w.clean }

weighs_errno : (lengths : Bool) (n : ℕ) (tokens : List Token) → SpellsErrno n tokens → Weighs lengths tokens 0
weighs_errno lengths n tokens s =
    subst (λ (k : List Token). Weighs lengths k 0) (sym s.written)
    (weighs_neutral lengths (Plain (codes "errno")) (s.number ∷ []) 0 (record { part = refl; clean = refl; arrow = refl })
    (weighs_neutral lengths s.number [] 0 (number_neutral lengths 1 65535 n s.number s.value) (weighs_nothing lengths)))

weighs_word : (lengths : Bool) (token : Token) → IsNeutral lengths token → Weighs lengths (arrow ∷ token ∷ []) 0
weighs_word lengths token t = weighs_arrow lengths (token ∷ []) 0 (weighs_neutral lengths token [] 0 t (weighs_nothing lengths))

weighs_bytes : (side : Side) (parts : List Part) (tokens : List Token) → SpellsBytes side parts tokens → Weighs (lengths_on side) tokens (length parts)
weighs_bytes side parts tokens s =
    subst (λ (n : ℕ). Weighs (lengths_on side) tokens n) (add-zero (length parts))
    (subst (λ (k : List Token). Weighs (lengths_on side) k (length parts + 0)) (append-nil tokens)
    (weighs_parts side parts tokens [] 0 s.each (weighs_nothing (lengths_on side))))

-- ## By row

one_neutral : (lengths : Bool) (token : Token) → IsNeutral lengths token → list_any (is_word (codes "->")) (token ∷ []) ≡ false
one_neutral lengths token t = rw t.arrow refl

two_neutral : (lengths : Bool) (token other : Token) → IsNeutral lengths token → IsNeutral lengths other → list_any (is_word (codes "->")) (token ∷ other ∷ []) ≡ false
two_neutral lengths token other t u = rw (t.arrow, u.arrow) refl

read_given : (side : Side) (fd : FdTerm) (bytes : List Part) (words : List Token) → SpellsItem side (patterns.Read fd bytes) words → IsGiven side (patterns.Read fd bytes) words
read_given side fd bytes words s =
    let l = lengths_on side in
    let f : IsNeutral l s.0 = fd_neutral l fd s.0 s.3 in
    record {
      verb = verbs.Read;
      tokens = s.0 ∷ arrow ∷ s.1;
      written = s.2;
      found = item_at_found verbs.Read l (s.0 ∷ []) s.1 (patterns.Read fd bytes) (one_neutral l s.0 f)
          (if_not (is_errno s.1) _ _ _ (bytes_no_errno side bytes s.1 s.4)
          (ap (found_map (λ t. patterns.Read t.0 t.1)) (pair_found (fd_of s.0) (parts_of l s.1) fd bytes (fd_found fd s.0 s.3) (bytes_found side bytes s.1 s.4))));
      clean = fits l (s.0 ∷ arrow ∷ s.1) (length bytes) s.4.few (weighs_neutral l s.0 (arrow ∷ s.1) (length bytes) f (weighs_arrow l s.1 (length bytes) (weighs_bytes side bytes s.1 s.4)));
      good = record {
        names = and_true (fd_name_passes is_name (Some fd)) (list_all (part_name_passes is_name) bytes) (fd_good fd s.0 s.3) (bytes_good side bytes s.1 s.4.each);
        order = s.4.order;
        unsized = bytes_unsized side bytes s.1 s.4.each;
      };
    }

read_errno_given : (side : Side) (fd : FdTerm) (errno : ℕ) (words : List Token) → SpellsItem side (patterns.ReadErrno fd errno) words → IsGiven side (patterns.ReadErrno fd errno) words
read_errno_given side fd errno words s =
    let l = lengths_on side in
    let f : IsNeutral l s.0 = fd_neutral l fd s.0 s.3 in
    record {
      verb = verbs.Read;
      tokens = s.0 ∷ arrow ∷ s.1;
      written = s.2;
      found = item_at_found verbs.Read l (s.0 ∷ []) s.1 (patterns.ReadErrno fd errno) (one_neutral l s.0 f)
          (if_so (is_errno s.1) _ _ _ (errno_word errno s.1 s.4)
          (ap (found_map (λ t. patterns.ReadErrno t.0 t.1)) (pair_found (fd_of s.0) (errno_in s.1) fd errno (fd_found fd s.0 s.3) (errno_found errno s.1 s.4))));
      clean = fits l (s.0 ∷ arrow ∷ s.1) 0 (omega arith) (weighs_neutral l s.0 (arrow ∷ s.1) 0 f (weighs_arrow l s.1 0 (weighs_errno l errno s.1 s.4)));
      good = record { names = and_true (fd_name_passes is_name (Some fd)) true (fd_good fd s.0 s.3) refl; order = order_none side; unsized = no_parts side };
    }

-- the words between the verb and the arrow of a write
bytes_before : (side : Side) (fd : FdTerm) (bytes : List Part) (f : Token) (b rest : List Token) → SpellsFd fd f → SpellsBytes side bytes b → Weighs (lengths_on side) rest 0
    → IsClean (lengths_on side) (f ∷ (b ++ rest))
bytes_before side fd bytes f b rest s t w =
    let l = lengths_on side in
    fits l (f ∷ (b ++ rest)) (length bytes + 0) (subst (λ (n : ℕ). n ≤ 16) (sym (add-zero (length bytes))) t.few)
    (weighs_neutral l f (b ++ rest) (length bytes + 0) (fd_neutral l fd f s) (weighs_parts side bytes b rest 0 t.each w))

no_arrow_before : (side : Side) (fd : FdTerm) (bytes : List Part) (f : Token) (b : List Token) → SpellsFd fd f → SpellsBytes side bytes b → list_any (is_word (codes "->")) (f ∷ b) ≡ false
no_arrow_before side fd bytes f b s t =
    let n : IsNeutral (lengths_on side) f = fd_neutral (lengths_on side) fd f s in
    or_false (is_word (codes "->") f) (list_any (is_word (codes "->")) b) n.arrow (parts_no_arrow side bytes b t.each)

write_given : (side : Side) (fd : FdTerm) (bytes : List Part) (words : List Token) → SpellsItem side (patterns.Write fd bytes) words → IsGiven side (patterns.Write fd bytes) words
write_given side fd bytes words s =
    let l = lengths_on side in
    let whole = pair_found (fd_of s.0) (parts_of l s.1) fd bytes (fd_found fd s.0 s.3) (bytes_found side bytes s.1 s.4) in
    record {
      verb = verbs.Write;
      tokens = s.0 ∷ (s.1 ++ (arrow ∷ Plain (codes "all") ∷ []));
      written = s.2;
      found = item_at_found verbs.Write l (s.0 ∷ s.1) (Plain (codes "all") ∷ []) (patterns.Write fd bytes) (no_arrow_before side fd bytes s.0 s.1 s.3 s.4)
          (ap (found_map (λ t. patterns.Write t.0 t.1)) whole);
      clean = bytes_before side fd bytes s.0 s.1 (arrow ∷ Plain (codes "all") ∷ []) s.3 s.4 (weighs_word l (Plain (codes "all")) (record { part = refl; clean = refl; arrow = refl }));
      good = record {
        names = and_true (fd_name_passes is_name (Some fd)) (list_all (part_name_passes is_name) bytes) (fd_good fd s.0 s.3) (bytes_good side bytes s.1 s.4.each);
        order = s.4.order;
        unsized = bytes_unsized side bytes s.1 s.4.each;
      };
    }

write_errno_given : (side : Side) (fd : FdTerm) (bytes : List Part) (errno : ℕ) (words : List Token) → SpellsItem side (patterns.WriteErrno fd bytes errno) words → IsGiven side (patterns.WriteErrno fd bytes errno) words
write_errno_given side fd bytes errno words s =
    let l = lengths_on side in
    let whole = pair_found (fd_of s.0) (parts_of l s.1) fd bytes (fd_found fd s.0 s.4) (bytes_found side bytes s.1 s.5) in
    record {
      verb = verbs.Write;
      tokens = s.0 ∷ (s.1 ++ (arrow ∷ s.2));
      written = s.3;
      found = item_at_found verbs.Write l (s.0 ∷ s.1) s.2 (patterns.WriteErrno fd bytes errno) (no_arrow_before side fd bytes s.0 s.1 s.4 s.5)
          (if_so (is_errno s.2) _ _ _ (errno_word errno s.2 s.6)
          (ap (found_map (λ t. patterns.WriteErrno t.0.0 t.0.1 t.1)) (pair_found (pair (fd_of s.0) (parts_of l s.1)) (errno_in s.2) (fd, bytes) errno whole (errno_found errno s.2 s.6))));
      clean = bytes_before side fd bytes s.0 s.1 (arrow ∷ s.2) s.4 s.5 (weighs_arrow l s.2 0 (weighs_errno l errno s.2 s.6));
      good = record {
        names = and_true (fd_name_passes is_name (Some fd)) (list_all (part_name_passes is_name) bytes) (fd_good fd s.0 s.4) (bytes_good side bytes s.1 s.5.each);
        order = s.5.order;
        unsized = bytes_unsized side bytes s.1 s.5.each;
      };
    }

accept_given : (side : Side) (listener : FdTerm) (flags : ℕ) (made : FdTerm) (words : List Token) → SpellsItem side (patterns.Accept listener flags made) words → IsGiven side (patterns.Accept listener flags made) words
accept_given side listener flags made words s =
    let l = lengths_on side in
    let f : IsNeutral l s.0 = fd_neutral l listener s.0 s.4 in
    let k : IsNeutral l s.1 = number_neutral l 0 65535 flags s.1 s.5 in
    let m : IsNeutral l s.2 = fd_neutral l made s.2 s.6 in
    let whole = pair_found (fd_of s.0) (number_of 0 65535 s.1) listener flags (fd_found listener s.0 s.4) (number_found 0 65535 flags s.1 s.5) in
    record {
      verb = verbs.Accept;
      tokens = s.0 ∷ s.1 ∷ arrow ∷ s.2 ∷ [];
      written = s.3;
      found = item_at_found verbs.Accept l (s.0 ∷ s.1 ∷ []) (s.2 ∷ []) (patterns.Accept listener flags made) (two_neutral l s.0 s.1 f k)
          (if_not (is_errno (s.2 ∷ [])) _ _ _ (fd_no_errno made s.2 s.6)
          (ap (found_map (λ t. patterns.Accept t.0.0 t.0.1 t.1)) (pair_found (pair (fd_of s.0) (number_of 0 65535 s.1)) (lone_fd (s.2 ∷ [])) (listener, flags) made whole (fd_found made s.2 s.6))));
      clean = fits l (s.0 ∷ s.1 ∷ arrow ∷ s.2 ∷ []) 0 (omega arith) (weighs_neutral l s.0 (s.1 ∷ arrow ∷ s.2 ∷ []) 0 f (weighs_neutral l s.1 (arrow ∷ s.2 ∷ []) 0 k (weighs_word l s.2 m)));
      good = record {
        names = and_true (fd_name_passes is_name (Some listener)) (fd_name_passes is_name (Some made) && true) (fd_good listener s.0 s.4) (and_true (fd_name_passes is_name (Some made)) true (fd_good made s.2 s.6) refl);
        order = order_none side;
        unsized = no_parts side;
      };
    }

accept_errno_given : (side : Side) (listener : FdTerm) (flags errno : ℕ) (words : List Token) → SpellsItem side (patterns.AcceptErrno listener flags errno) words → IsGiven side (patterns.AcceptErrno listener flags errno) words
accept_errno_given side listener flags errno words s =
    let l = lengths_on side in
    let f : IsNeutral l s.0 = fd_neutral l listener s.0 s.4 in
    let k : IsNeutral l s.1 = number_neutral l 0 65535 flags s.1 s.5 in
    let whole = pair_found (fd_of s.0) (number_of 0 65535 s.1) listener flags (fd_found listener s.0 s.4) (number_found 0 65535 flags s.1 s.5) in
    record {
      verb = verbs.Accept;
      tokens = s.0 ∷ s.1 ∷ arrow ∷ s.2;
      written = s.3;
      found = item_at_found verbs.Accept l (s.0 ∷ s.1 ∷ []) s.2 (patterns.AcceptErrno listener flags errno) (two_neutral l s.0 s.1 f k)
          (if_so (is_errno s.2) _ _ _ (errno_word errno s.2 s.6)
          (ap (found_map (λ t. patterns.AcceptErrno t.0.0 t.0.1 t.1)) (pair_found (pair (fd_of s.0) (number_of 0 65535 s.1)) (errno_in s.2) (listener, flags) errno whole (errno_found errno s.2 s.6))));
      clean = fits l (s.0 ∷ s.1 ∷ arrow ∷ s.2) 0 (omega arith) (weighs_neutral l s.0 (s.1 ∷ arrow ∷ s.2) 0 f (weighs_neutral l s.1 (arrow ∷ s.2) 0 k (weighs_arrow l s.2 0 (weighs_errno l errno s.2 s.6))));
      good = record { names = and_true (fd_name_passes is_name (Some listener)) true (fd_good listener s.0 s.4) refl; order = order_none side; unsized = no_parts side };
    }

close_given : (side : Side) (fd : FdTerm) (words : List Token) → SpellsItem side (patterns.Close fd) words → IsGiven side (patterns.Close fd) words
close_given side fd words s =
    let l = lengths_on side in
    let f : IsNeutral l s.0 = fd_neutral l fd s.0 s.2 in
    record {
      verb = verbs.Close;
      tokens = s.0 ∷ arrow ∷ Plain (codes "done") ∷ [];
      written = s.1;
      found = item_at_found verbs.Close l (s.0 ∷ []) (Plain (codes "done") ∷ []) (patterns.Close fd) (one_neutral l s.0 f)
          (ap (found_map patterns.Close) (fd_found fd s.0 s.2));
      clean = fits l (s.0 ∷ arrow ∷ Plain (codes "done") ∷ []) 0 (omega arith) (weighs_neutral l s.0 (arrow ∷ Plain (codes "done") ∷ []) 0 f (weighs_word l (Plain (codes "done")) (record { part = refl; clean = refl; arrow = refl })));
      good = record { names = and_true (fd_name_passes is_name (Some fd)) true (fd_good fd s.0 s.2) refl; order = order_none side; unsized = no_parts side };
    }

close_errno_given : (side : Side) (fd : FdTerm) (errno : ℕ) (words : List Token) → SpellsItem side (patterns.CloseErrno fd errno) words → IsGiven side (patterns.CloseErrno fd errno) words
close_errno_given side fd errno words s =
    let l = lengths_on side in
    let f : IsNeutral l s.0 = fd_neutral l fd s.0 s.3 in
    record {
      verb = verbs.Close;
      tokens = s.0 ∷ arrow ∷ s.1;
      written = s.2;
      found = item_at_found verbs.Close l (s.0 ∷ []) s.1 (patterns.CloseErrno fd errno) (one_neutral l s.0 f)
          (if_so (is_errno s.1) _ _ _ (errno_word errno s.1 s.4)
          (ap (found_map (λ t. patterns.CloseErrno t.0 t.1)) (pair_found (fd_of s.0) (errno_in s.1) fd errno (fd_found fd s.0 s.3) (errno_found errno s.1 s.4))));
      clean = fits l (s.0 ∷ arrow ∷ s.1) 0 (omega arith) (weighs_neutral l s.0 (arrow ∷ s.1) 0 f (weighs_arrow l s.1 0 (weighs_errno l errno s.1 s.4)));
      good = record { names = and_true (fd_name_passes is_name (Some fd)) true (fd_good fd s.0 s.3) refl; order = order_none side; unsized = no_parts side };
    }

shutdown_given : (side : Side) (fd : FdTerm) (how : ℕ) (words : List Token) → SpellsItem side (patterns.Shutdown fd how) words → IsGiven side (patterns.Shutdown fd how) words
shutdown_given side fd how words s =
    let l = lengths_on side in
    let f : IsNeutral l s.0 = fd_neutral l fd s.0 s.3 in
    let h : IsNeutral l s.1 = number_neutral l 1 3 how s.1 s.4 in
    record {
      verb = verbs.Shutdown;
      tokens = s.0 ∷ s.1 ∷ arrow ∷ Plain (codes "done") ∷ [];
      written = s.2;
      found = item_at_found verbs.Shutdown l (s.0 ∷ s.1 ∷ []) (Plain (codes "done") ∷ []) (patterns.Shutdown fd how) (two_neutral l s.0 s.1 f h)
          (ap (found_map (λ t. patterns.Shutdown t.0 t.1)) (pair_found (fd_of s.0) (number_of 1 3 s.1) fd how (fd_found fd s.0 s.3) (number_found 1 3 how s.1 s.4)));
      clean = fits l (s.0 ∷ s.1 ∷ arrow ∷ Plain (codes "done") ∷ []) 0 (omega arith) (weighs_neutral l s.0 (s.1 ∷ arrow ∷ Plain (codes "done") ∷ []) 0 f
          (weighs_neutral l s.1 (arrow ∷ Plain (codes "done") ∷ []) 0 h (weighs_word l (Plain (codes "done")) (record { part = refl; clean = refl; arrow = refl }))));
      good = record { names = and_true (fd_name_passes is_name (Some fd)) true (fd_good fd s.0 s.3) refl; order = order_none side; unsized = no_parts side };
    }

shutdown_errno_given : (side : Side) (fd : FdTerm) (how errno : ℕ) (words : List Token) → SpellsItem side (patterns.ShutdownErrno fd how errno) words → IsGiven side (patterns.ShutdownErrno fd how errno) words
shutdown_errno_given side fd how errno words s =
    let l = lengths_on side in
    let f : IsNeutral l s.0 = fd_neutral l fd s.0 s.4 in
    let h : IsNeutral l s.1 = number_neutral l 1 3 how s.1 s.5 in
    let whole = pair_found (fd_of s.0) (number_of 1 3 s.1) fd how (fd_found fd s.0 s.4) (number_found 1 3 how s.1 s.5) in
    record {
      verb = verbs.Shutdown;
      tokens = s.0 ∷ s.1 ∷ arrow ∷ s.2;
      written = s.3;
      found = item_at_found verbs.Shutdown l (s.0 ∷ s.1 ∷ []) s.2 (patterns.ShutdownErrno fd how errno) (two_neutral l s.0 s.1 f h)
          (if_so (is_errno s.2) _ _ _ (errno_word errno s.2 s.6)
          (ap (found_map (λ t. patterns.ShutdownErrno t.0.0 t.0.1 t.1)) (pair_found (pair (fd_of s.0) (number_of 1 3 s.1)) (errno_in s.2) (fd, how) errno whole (errno_found errno s.2 s.6))));
      clean = fits l (s.0 ∷ s.1 ∷ arrow ∷ s.2) 0 (omega arith) (weighs_neutral l s.0 (s.1 ∷ arrow ∷ s.2) 0 f (weighs_neutral l s.1 (arrow ∷ s.2) 0 h (weighs_arrow l s.2 0 (weighs_errno l errno s.2 s.6))));
      good = record { names = and_true (fd_name_passes is_name (Some fd)) true (fd_good fd s.0 s.4) refl; order = order_none side; unsized = no_parts side };
    }

yield_given : (side : Side) (words : List Token) → SpellsItem side patterns.Yield words → IsGiven side patterns.Yield words
yield_given side words s =
    let l = lengths_on side in
    record {
      verb = verbs.Yield;
      tokens = arrow ∷ Plain (codes "done") ∷ [];
      written = s;
      found = item_at_found verbs.Yield l [] (Plain (codes "done") ∷ []) patterns.Yield refl refl;
      clean = fits l (arrow ∷ Plain (codes "done") ∷ []) 0 (omega arith) (weighs_word l (Plain (codes "done")) (record { part = refl; clean = refl; arrow = refl }));
      good = record { names = refl; order = order_none side; unsized = no_parts side };
    }

clock_given : (side : Side) (id : ℕ) (time : TimeTerm) (words : List Token) → SpellsItem side (patterns.Clock id time) words → IsGiven side (patterns.Clock id time) words
clock_given side id time words s =
    let l = lengths_on side in
    let i : IsNeutral l s.0 = number_neutral l 0 1 id s.0 s.3 in
    record {
      verb = verbs.Clock;
      tokens = s.0 ∷ arrow ∷ s.1 ∷ [];
      written = s.2;
      found = item_at_found verbs.Clock l (s.0 ∷ []) (s.1 ∷ []) (patterns.Clock id time) (one_neutral l s.0 i)
          (ap (found_map (λ t. patterns.Clock t.0 t.1)) (pair_found (number_of 0 1 s.0) (time_of s.1) id time (number_found 0 1 id s.0 s.3) (time_found time s.1 s.4)));
      clean = fits l (s.0 ∷ arrow ∷ s.1 ∷ []) 0 (omega arith) (weighs_neutral l s.0 (arrow ∷ s.1 ∷ []) 0 i (weighs_word l s.1 (time_neutral l time s.1 s.4)));
      good = record { names = and_true (time_name_passes is_name (Some time)) true (time_good time s.1 s.4) refl; order = order_none side; unsized = no_parts side };
    }

random_given : (side : Side) (bytes : List Part) (words : List Token) → SpellsItem side (patterns.Random bytes) words → IsGiven side (patterns.Random bytes) words
random_given side bytes words s =
    let l = lengths_on side in
    record {
      verb = verbs.Random;
      tokens = arrow ∷ s.0;
      written = s.1;
      found = item_at_found verbs.Random l [] s.0 (patterns.Random bytes) refl (ap (found_map patterns.Random) (bytes_found side bytes s.0 s.2));
      clean = fits l (arrow ∷ s.0) (length bytes) s.2.few (weighs_arrow l s.0 (length bytes) (weighs_bytes side bytes s.0 s.2));
      good = record { names = bytes_good side bytes s.0 s.2.each; order = s.2.order; unsized = bytes_unsized side bytes s.0 s.2.each };
    }

-- an item that is spelled is found
pub item_given : (side : Side) (pattern : Pattern) (words : List Token) → SpellsItem side pattern words → IsGiven side pattern words
item_given side (patterns.Read fd bytes) words s = read_given side fd bytes words s
item_given side (patterns.ReadErrno fd errno) words s = read_errno_given side fd errno words s
item_given side (patterns.Write fd bytes) words s = write_given side fd bytes words s
item_given side (patterns.WriteErrno fd bytes errno) words s = write_errno_given side fd bytes errno words s
item_given side (patterns.Accept listener flags made) words s = accept_given side listener flags made words s
item_given side (patterns.AcceptErrno listener flags errno) words s = accept_errno_given side listener flags errno words s
item_given side (patterns.Close fd) words s = close_given side fd words s
item_given side (patterns.CloseErrno fd errno) words s = close_errno_given side fd errno words s
item_given side (patterns.Shutdown fd how) words s = shutdown_given side fd how words s
item_given side (patterns.ShutdownErrno fd how errno) words s = shutdown_errno_given side fd how errno words s
item_given side patterns.Yield words s = yield_given side words s
item_given side (patterns.Clock id time) words s = clock_given side id time words s
item_given side (patterns.Random bytes) words s = random_given side bytes words s
