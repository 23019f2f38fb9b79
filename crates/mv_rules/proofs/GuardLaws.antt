-- In a file's rules each guard is on a byte name of its left side.
use Rattle.std.proofs.Common.{◌≡◌, inl, inr, ℕ, ◌||◌, ◌&&◌, Bool, true, List, [], ◌∷◌, ◌++◌, refl, ap, sym, ◌∙◌, subst, append_assoc}
use Rattle.std.proofs.lemmas.List.Folds.{list_any-append}
use Rattle.std.specs.List.{list_any, list_all}
use Rattle.mv_rules.specs.declared.rule.Pattern.{Pattern}
use Rattle.mv_rules.specs.declared.rule.Guard.{Guard}
use Rattle.mv_rules.specs.declared.rule.Rule.{Rule}
use Rattle.mv_rules.specs.declared.reading.Version.{Version}
use Rattle.mv_rules.specs.Names.{binds_bytes, bytes_are_bound}
use Rattle.mv_rules.specs.Grammar.{Sentence, SpellsLeft, SpellsEach, Spells, has_bound_guards}

bound_further : (before items : List Pattern) (name : List ℕ) → bytes_are_bound before name ≡ true → bytes_are_bound (before ++ items) name ≡ true
bound_further before items name h =
    list_any-append (binds_bytes name) before items ∙ ap (λ (b : Bool). b || list_any (binds_bytes name) items) h

left_guards : (version : Version) (before items : List Pattern) (guards : List Guard) (lines : List Sentence) → SpellsLeft version before items guards lines
    → list_all (λ guard. bytes_are_bound (before ++ items) guard.name) guards ≡ true
left_guards version before items guards [] s =
    subst (λ (k : List Guard). list_all (λ guard. bytes_are_bound (before ++ items) guard.name) k ≡ true) (sym s.1) refl
left_guards version before items guards (line ∷ lines) (inl t) =
    let same : (before ++ t.0 ∷ []) ++ t.1 ≡ before ++ items = append_assoc before (t.0 ∷ []) t.1 ∙ ap (λ (k : List Pattern). before ++ k) (sym t.2) in
    subst (λ (k : List Pattern). list_all (λ guard. bytes_are_bound k guard.name) guards ≡ true) same (left_guards version (before ++ t.0 ∷ []) t.1 guards lines t.4)
left_guards version before items guards (line ∷ lines) (inr t) =
    let here : bytes_are_bound (before ++ items) t.0.name ≡ true = bound_further before items t.0.name t.3.bound in
    let others : list_all (λ guard. bytes_are_bound (before ++ items) guard.name) t.1 ≡ true = left_guards version before items t.1 lines t.4 in
    subst (λ (k : List Guard). list_all (λ guard. bytes_are_bound (before ++ items) guard.name) k ≡ true) (sym t.2)
    (ap (λ (b : Bool). b && list_all (λ guard. bytes_are_bound (before ++ items) guard.name) t.1) here ∙ others)

each_guards : (version : Version) (rules : List Rule) (lines : List Sentence) → SpellsEach version rules lines → list_all has_bound_guards rules ≡ true
each_guards version [] lines s = refl
each_guards version (rule ∷ rules) lines s =
    let here : has_bound_guards rule ≡ true = left_guards version [] rule.left rule.guards s.3.left_lines s.3.left in
    ap (λ (b : Bool). b && list_all has_bound_guards rules) here ∙ each_guards version rules s.1 s.4

-- each guard of each rule that a file spells is on a byte name of its left side
pub guards_are_bound : (text : List ℕ) (rules : List Rule) → Spells text rules → list_all has_bound_guards rules ≡ true
guards_are_bound text rules s = each_guards s.version rules _ s.spelled.each
