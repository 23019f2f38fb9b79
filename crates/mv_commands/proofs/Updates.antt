-- The files of updates that were audited are there.
use Rattle.std.proofs.Common.{◌≡◌, [], ◌∷◌, ◌++◌, ℕ, zero, suc, List, Bool, true, false, Option, Some, refl, sym, subst, ◌∙◌, inl, inr}
use Rattle.std.specs.Prelude.{slice_get, if◌then◌else◌}
use Rattle.std.specs.Str.{bytes_eq}
use Rattle.std.proofs.lemmas.Slice.Eq.{bytes_eq-Decides}
use Rattle.mv_outside.specs.Files.{FileMap}
use Rattle.mv_core.specs.Found.{HasBytes, HasRules, module_cap, rules_cap}
use Rattle.mv_history.specs.Answers.{none_word}
use Rattle.mv_history.specs.declared.updates.Update.{Update}
use Rattle.mv_inspect.specs.Audits.{AreNamed, rules_file, three_files, update_files}
use Rattle.mv_inspect.specs.Told.{FileIs}

module _ (told : Option FileMap) where
  abbrev IsThere : List ℕ → Type 0
  IsThere path = FileIs told path (λ text. Unit {0})

  abbrev AllThere : List (List ℕ) → Type 0
  AllThere [] = Unit {0}
  AllThere (p ∷ ps) = IsThere p × AllThere ps

  both_there : (ps qs : List (List ℕ)) → AllThere ps → AllThere qs → AllThere (ps ++ qs)
  both_there [] qs first second = second
  both_there (p ∷ ps) qs first second = (first.0, both_there ps qs first.1 second)

  none_there : (n : ℕ) (path : List ℕ) → slice_get {X = List ℕ} [] n ≡ Some path → ⊥
  none_there n path e = cc

  same_path : (a b : List ℕ) → Some a ≡ Some b → a ≡ b
  same_path a b e = cc

  one_there : (ps : List (List ℕ)) (n : ℕ) (path : List ℕ) → AllThere ps → slice_get ps n ≡ Some path → IsThere path
  one_there [] n path there named = absurd (none_there n path named)
  one_there (p ∷ ps) zero path there named = subst IsThere (same_path p path named) there.0
  one_there (p ∷ ps) (suc n) path there named = one_there ps n path there.1 named

  bytes_there : (cap : ℕ) (path bytes : List ℕ) → HasBytes told cap path bytes → IsThere path
  bytes_there cap path bytes has files e = let all = has files e in (all.0, all.1, tt)

  rules_there : (name bytes : List ℕ) → HasRules told name bytes → AllThere (rules_file name)
  rules_there name bytes has = at (bytes_eq name none_word) refl
    where
      file : (b : Bool) → bytes_eq name none_word ≡ b → b ≡ false → IsThere name
      file b e off = elim has [
        | inl none ↦ absurd (not_false (sym ((bytes_eq-Decides name none_word).1 none.0) ∙ e ∙ off))
        | inr some ↦ bytes_there rules_cap name bytes some.1
      ]
        where
          not_false : true ≡ false → ⊥
          not_false x = cc

      at : (b : Bool) → bytes_eq name none_word ≡ b → AllThere (if b then [] else name ∷ [])
      at true e = tt
      at false e = (file false e refl, tt)

  named_all : (names : List (List ℕ)) (updates : List Update) → AreNamed told names updates → AllThere (update_files names)
  named_all [] updates are = tt
  named_all (m ∷ []) updates are = tt
  named_all (m ∷ f ∷ []) updates are = tt
  named_all (m ∷ f ∷ r ∷ names) updates are =
      let here = are.3 in
      both_there (three_files m f r) (update_files names)
      (bytes_there module_cap m _ here.read, both_there (rules_file f) (rules_file r) (rules_there f _ here.forward) (rules_there r _ here.reverse))
      (named_all names are.1 are.4)

  pub named_there : (names : List (List ℕ)) (updates : List Update) → AreNamed told names updates → (n : ℕ) (path : List ℕ) → slice_get (update_files names) n ≡ Some path → IsThere path
  named_there names updates are n path named = one_there (update_files names) n path (named_all names updates are) named
