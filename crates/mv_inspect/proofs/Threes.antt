-- The files of updates, three at a time.
use Rattle.std.proofs.Common.{◌≡◌, ℕ, suc, ◌+◌, ◌≤◌, ◌<◌, Bool, true, false, inl, inr, List, [], ◌∷◌, ◌++◌, length, drop, get_or, Option, refl, sym, ap, ◌∙◌, subst, arith, length-drop, append_assoc}
use Rattle.std.proofs.Math.Seq.{drop-cons}
use Rattle.std.specs.Prelude.{if◌then◌else◌}
use Rattle.std.specs.Str.{bytes_eq}
use Rattle.std.proofs.lemmas.List.{append-nil}
use Rattle.std.proofs.lemmas.Slice.Eq.{bytes_eq-Decides}
use Rattle.mv_outside.specs.Files.{FileMap}
use Rattle.mv_history.specs.Answers.{none_word}
use Rattle.mv_history.specs.declared.updates.Update.{Update}
use Rattle.mv_core.specs.Found.{AreRead, HasBytes, HasRules, module_cap, rules_cap}
use Rattle.mv_inspect.specs.Audits.{AreInThrees, AreNamed, rules_file, three_files, update_files}
use Rattle.mv_inspect.specs.Told.{FileIs}
use Rattle.mv_inspect.specs.Steps.{IsUnread}
use Rattle.mv_inspect.specs.declared.naming.Unread.{Unread}
use Rattle.mv_inspect.proofs.Stops.{AreThere, unread_front, unread_behind, unread_later}

-- ## Files that were read are there

is_there : (told : Option FileMap) (cap : ℕ) (path bytes : List ℕ) → HasBytes told cap path bytes → FileIs told path (λ text. Unit {0})
is_there told cap path bytes has files e = let h = has files e in (h.0, h.1, tt)

not_none : (name : List ℕ) → bytes_eq name none_word ≡ false → name ≡ none_word → ⊥
not_none name differs is = let yes : bytes_eq name none_word ≡ true = (bytes_eq-Decides name none_word).1 is in let bad : true ≡ false = sym yes ∙ differs in cc

rules_there_by : (told : Option FileMap) (name bytes : List ℕ) (none : Bool) → bytes_eq name none_word ≡ none → HasRules told name bytes → AreThere told (if none then [] else name ∷ [])
rules_there_by told name bytes true is has = tt
rules_there_by told name bytes false is (inl none) = absurd (not_none name is none.0)
rules_there_by told name bytes false is (inr has) = (is_there told rules_cap name bytes has.1, tt)

rules_there : (told : Option FileMap) (name bytes : List ℕ) → HasRules told name bytes → AreThere told (rules_file name)
rules_there told name bytes has = rules_there_by told name bytes (bytes_eq name none_word) refl has

-- ## One update

three_there : (told : Option FileMap) (m f r : List ℕ) (files : Update) → AreRead told m f r files → AreThere told ((m ∷ []) ++ (rules_file f ++ rules_file r))
three_there told m f r files are = (is_there told module_cap m files.«module» are.read, all_there told (rules_file f) (rules_file r) (rules_there told f files.forward are.forward) (rules_there told r files.reverse are.reverse))
  where
    all_there : (told : Option FileMap) (a b : List (List ℕ)) → AreThere told a → AreThere told b → AreThere told (a ++ b)
    all_there told [] b there more = more
    all_there told (x ∷ a) b there more = (there.0, all_there told a b there.1 more)

module _ (told : Option FileMap) (m f r : List ℕ) (faults now : ℕ) (e : Unread) where
  pub unread_forward : (mid : Option FileMap) (before : ℕ) (bytes : List ℕ) → HasBytes told module_cap m bytes → mid ≡ told → faults ≤ before
      → IsUnread mid (rules_file f) before now e → IsUnread told (three_files m f r) faults now e
  unread_forward mid before bytes has same later is =
      unread_behind told (m ∷ []) (rules_file f ++ rules_file r) faults now e (is_there told module_cap m bytes has, tt)
      (unread_front told (rules_file f) (rules_file r) faults now e (unread_later told mid (rules_file f) faults before now e same later is))

  pub unread_reverse : (mid : Option FileMap) (before : ℕ) (bytes forward : List ℕ) → HasBytes told module_cap m bytes → HasRules told f forward → mid ≡ told → faults ≤ before
      → IsUnread mid (rules_file r) before now e → IsUnread told (three_files m f r) faults now e
  unread_reverse mid before bytes forward has rules same later is =
      unread_behind told (m ∷ []) (rules_file f ++ rules_file r) faults now e (is_there told module_cap m bytes has, tt)
      (unread_behind told (rules_file f) (rules_file r) faults now e (rules_there told f forward rules) (unread_later told mid (rules_file r) faults before now e same later is))

pub are_read : (told mid last : Option FileMap) (m f r : List ℕ) (files : Update) → mid ≡ told → last ≡ mid → HasBytes told module_cap m files.«module» → HasRules mid f files.forward → HasRules last r files.reverse → AreRead told m f r files
are_read told mid last m f r files same too has forward reverse = record {
  read = has;
  forward = subst (λ t. HasRules t f files.forward) same forward;
  reverse = subst (λ t. HasRules t r files.reverse) (too ∙ same) reverse;
}

-- ## All updates

-- those before this place of the names are read
pub record IsSoFar (told now : Option FileMap) (faults faults_now : ℕ) (names : List (List ℕ)) (place : ℕ) (updates : List Update) : Type 0 where
  pub same : now ≡ told
  pub later : faults ≤ faults_now
  pub threes : AreInThrees (drop place names)
  pub joins : (more : List Update) → AreNamed told (drop place names) more → AreNamed told names (updates ++ more)
  pub stops : (e : Unread) (last : ℕ) → IsUnread told (update_files (drop place names)) faults last e → IsUnread told (update_files names) faults last e

pub three_at : (names : List (List ℕ)) (place next : ℕ) (m f r : List ℕ) → place + 2 < length names → next ≡ place + 3
    → m ≡ get_or names place m → f ≡ get_or names (place + 1) f → r ≡ get_or names (place + 2) r → drop place names ≡ m ∷ f ∷ r ∷ drop next names
three_at names place next m f r fits is_next first second third =
    let one : place + 1 ≡ suc place = omega arith in
    let two : place + 2 ≡ suc (suc place) = omega arith in
    let three : next ≡ suc (suc (suc place)) = omega arith in
    let a : drop place names ≡ m ∷ drop (suc place) names = drop-cons names place m (omega arith) ∙ ap (λ (x : List ℕ). x ∷ drop (suc place) names) (sym first) in
    let second' : f ≡ get_or names (suc place) f = rw one at second in
    let third' : r ≡ get_or names (suc (suc place)) r = rw two at third in
    let b : drop (suc place) names ≡ f ∷ drop (suc (suc place)) names = drop-cons names (suc place) f (omega arith) ∙ ap (λ (x : List ℕ). x ∷ drop (suc (suc place)) names) (sym second') in
    let c : drop (suc (suc place)) names ≡ r ∷ drop (suc (suc (suc place))) names = drop-cons names (suc (suc place)) r (omega arith) ∙ ap (λ (x : List ℕ). x ∷ drop (suc (suc (suc place))) names) (sym third') in
    cc

module _ (told now : Option FileMap) (faults before : ℕ) (names : List (List ℕ)) (place next : ℕ) (updates : List Update) (m f r : List ℕ) where
  pub so_far_next : (after : Option FileMap) (last : ℕ) (here : Update) → IsSoFar told now faults before names place updates → drop place names ≡ m ∷ f ∷ r ∷ drop next names
      → AreRead now m f r here → after ≡ now → before ≤ last → IsSoFar told after faults last names next (updates ++ here ∷ [])
  so_far_next after last here far is are same later =
      let told_read : AreRead told m f r here = subst (λ t. AreRead t m f r here) far.same are in
      record {
        same = same ∙ far.same;
        later = omega (arith, far.later, later);
        threes = subst AreInThrees is far.threes;
        joins = λ more named. rw append_assoc (far.joins (here ∷ more) (subst (λ l. AreNamed told l (here ∷ more)) (sym is) (here, more, refl, told_read, named)));
        stops = λ e end unread. far.stops e end (subst (λ l. IsUnread told (update_files l) faults end e) (sym is) (unread_behind told (three_files m f r) (update_files (drop next names)) faults end e (three_there told m f r here told_read) unread));
      }

  pub so_far_stops : (last : ℕ) (e : Unread) → IsSoFar told now faults before names place updates → drop place names ≡ m ∷ f ∷ r ∷ drop next names
      → IsUnread now (three_files m f r) before last e → IsUnread told (update_files names) faults last e
  so_far_stops last e far is unread =
      far.stops e last (subst (λ l. IsUnread told (update_files l) faults last e) (sym is)
      (unread_front told (three_files m f r) (update_files (drop next names)) faults last e (unread_later told now (three_files m f r) faults before last e far.same far.later unread)))

few : (told : Option FileMap) (rest : List (List ℕ)) → AreInThrees rest → length rest < 3 → AreNamed told rest []
few told [] threes short = refl
few told (m ∷ []) threes short = absurd threes
few told (m ∷ f ∷ []) threes short = absurd threes
few told (m ∷ f ∷ r ∷ rest) threes short = absurd (omega arith)

pub so_far_done : (told now : Option FileMap) (faults faults_now : ℕ) (names : List (List ℕ)) (place : ℕ) (updates : List Update) → length names < place + 3
    → IsSoFar told now faults faults_now names place updates → AreNamed told names updates
so_far_done told now faults faults_now names place updates short far =
    let left : length (drop place names) < 3 = omega (arith, length-drop place names) in
    rw append-nil at (far.joins [] (few told (drop place names) far.threes left))
