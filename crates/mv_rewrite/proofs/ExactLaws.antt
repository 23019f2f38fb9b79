-- What is found to match is what matches, and what is found to be short is what could match.
use Rattle.std.specs.Prelude.{◌≡◌, ◌⊎◌, ◌↔◌, ℕ, ◌<◌, true, ◌&&◌, List, [], ◌∷◌, ◌++◌, length, take, drop, Option, Some, None, option_and_then, refl}
use Rattle.std.specs.List.{flat_map}
use Rattle.std.proofs.Common.{sym, ◌∙◌, ap, subst, arith, append_assoc, inl, inr}
use Rattle.std.proofs.lemmas.List.{take-append-drop, length-take-le, take_all}
use Rattle.mv_calls.specs.declared.calls.Call.{Call}
use Rattle.mv_calls.specs.declared.calls.Reply.{Reply}
use Rattle.mv_rules.specs.declared.rule.Pattern.{Pattern}
use Rattle.mv_rules.specs.declared.rule.Guard.{Guard}
use Rattle.mv_rules.specs.declared.rule.Rule.{Rule}
use Rattle.mv_rewrite.specs.Bound.{Bound, unbound}
use Rattle.mv_rewrite.specs.declared.fit.Fit.{Fit}
use Rattle.mv_rewrite.specs.declared.fit.Fit.TheVariants.{Whole, Short, Not}
use Rattle.mv_rewrite.specs.Matching.{bind_item, guards_pass, bind_guarded, only_if, fit_after, fit_of, rule_fit, made_by, is_short, front_of, could_match}
use Rattle.mv_rules.specs.Names.{parts_in}
use Rattle.mv_rewrite.specs.Matches.{Agrees, names_of_part, byte_names, ItemsUnder, GuardsHold, MatchesUnder, MatchesFront, CouldMatch, WaitsOn}
use Rattle.mv_rewrite.proofs.BindingLaws.{fit_matches, fitted, same_bound}
use Rattle.mv_rewrite.proofs.MatchesLaws.{item_goes, unbound_agrees}
use Rattle.mv_rewrite.proofs.NamesLaws.{AreBound, item_adds, bound_after, hold_pass, hold_fewer, whole_holds}
use Rattle.mv_rewrite.proofs.MatchingLaws.{Settled, fit_settled}
use Rattle.mv_rewrite.specs.Deciding.{first_of_two, chosen}
use Rattle.mv_rewrite.specs.Rewriting.{decide}

-- ## Whole

guarded_goes : (guards : List Guard) (o : Option Bound) (c : Bound) → o ≡ Some c → guards_pass c guards ≡ true
    → option_and_then (λ c. only_if (guards_pass c guards) (Some c)) o ≡ Some c
guarded_goes guards o c h pass =
    ap (λ (o : Option Bound). option_and_then (λ c. only_if (guards_pass c guards) (Some c)) o) h
    ∙ ap (λ t. only_if t (Some c)) pass

-- each binding under which the lines match and the guards hold is found, with its values
match_found : (guards : List Guard) (left : List Pattern) (items : List (Call × Reply)) (names : List (List ℕ)) (b d : Bound) → Agrees b d → AreBound b names
    → GuardsHold d guards (names ++ byte_names left) → ItemsUnder d left items → (c : Bound) × (fit_of guards left items b ≡ Whole c) × Agrees c d
match_found guards [] [] names b d agrees bound hold h = (b, refl, agrees)
match_found guards [] (item ∷ items) names b d agrees bound hold h = absurd h
match_found guards (pattern ∷ left) [] names b d agrees bound hold h = absurd h
match_found guards (pattern ∷ left) (item ∷ items) names b d agrees bound hold h =
    let new = flat_map names_of_part (parts_in pattern) in
    let g = item_goes pattern item.0 item.1 b d agrees h.0.1 (ap (λ (t : Call × Reply). t.0) h.0.0) (ap (λ (t : Call × Reply). t.1) h.0.0) in
    let all : GuardsHold d guards ((names ++ new) ++ byte_names left) =
    subst (λ (k : List (List ℕ)). GuardsHold d guards k) (sym (append_assoc names new (byte_names left))) hold in
    let now = bound_after b g.0 names new bound (item_adds pattern item.0 item.1 b g.0 g.1) in
    let pass = hold_pass g.0 d guards (names ++ new) now g.2 (hold_fewer d guards (names ++ new) (byte_names left) all) in
    let binds = guarded_goes guards (bind_item pattern item.0 item.1 b) g.0 g.1 pass in
    let rest = match_found guards left items (names ++ new) g.0 d g.2 now all h.1 in
    (rest.0, ap (λ (o : Option Bound). fit_after o (fit_of guards left items)) binds ∙ rest.1, rest.2)

more_whole : (fit later : Fit) (c : Bound) → fit ≡ Whole c → Settled fit later → later ≡ Whole c
more_whole (Whole b) later c h same = same ∙ h
more_whole Short later c h same = cc
more_whole Not later c h same = cc

-- the rule is found to match exactly where it matches, under a binding with the same values
pub whole_matches : (rule : Rule) (items : List (Call × Reply)) (b : Bound) → rule_fit rule items ≡ Whole b → MatchesUnder b rule (take (length rule.left) items)
whole_matches rule items b h = record {
  lines = (fit_matches rule.guards rule.left items unbound b h).1 b (same_bound b);
  guards = whole_holds rule.guards rule.left items b h;
}

pub matches_whole : (rule : Rule) (items : List (Call × Reply)) (d : Bound) → MatchesUnder d rule (take (length rule.left) items)
    → (c : Bound) × (rule_fit rule items ≡ Whole c) × Agrees c d
matches_whole rule items d h =
    let n = length rule.left in
    let m = match_found rule.guards rule.left (take n items) [] unbound d (unbound_agrees d) (λ name. refl) h.guards h.lines in
    let more = more_whole (rule_fit rule (take n items)) (rule_fit rule (take n items ++ drop n items)) m.0 m.1
    (fit_settled rule.guards rule.left (take n items) (drop n items) unbound) in
    (m.0, subst (λ (l : List (Call × Reply)). rule_fit rule l ≡ Whole m.0) (take-append-drop n items) more, m.2)

-- ## Short

short_after : (o : Option Bound) (rest : Bound → Fit) → fit_after o rest ≡ Short → (m : Bound) × (o ≡ Some m) × (rest m ≡ Short)
short_after None rest h = cc
short_after (Some m) rest h = (m, refl, h)

-- what is short matches with its first lines alone
short_front : (guards : List Guard) (left : List Pattern) (items : List (Call × Reply)) (b : Bound) → fit_of guards left items b ≡ Short
    → (c : Bound) × (length items < length left) × (fit_of guards (take (length items) left) items b ≡ Whole c)
short_front guards [] items b h = cc
short_front guards (pattern ∷ left) [] b h = (b, omega arith, refl)
short_front guards (pattern ∷ left) (item ∷ items) b h =
    let m = short_after (bind_guarded guards pattern item.0 item.1 b) (fit_of guards left items) h in
    let r = short_front guards left items m.0 m.2 in
    let few : length items < length left = r.1 in
    (r.0, omega arith, ap (λ (o : Option Bound). fit_after o (fit_of guards (take (length items) left) items)) m.1 ∙ r.2)

front_short : (guards : List Guard) (left : List Pattern) (items : List (Call × Reply)) (b c : Bound) → length items < length left
    → fit_of guards (take (length items) left) items b ≡ Whole c → fit_of guards left items b ≡ Short
front_short guards [] items b c few h = absurd (omega arith)
front_short guards (pattern ∷ left) [] b c few h = refl
front_short guards (pattern ∷ left) (item ∷ items) b c few h =
    let m = fitted (bind_guarded guards pattern item.0 item.1 b) (fit_of guards (take (length items) left) items) c h in
    ap (λ (o : Option Bound). fit_after o (fit_of guards left items)) m.1 ∙ front_short guards left items m.0 c (omega arith) m.2

all_taken : (left : List Pattern) (items : List (Call × Reply)) → length items < length left → take (length (take (length items) left)) items ≡ items
all_taken left items few =
    let e : length (take (length items) left) ≡ length items = length-take-le (length items) left (omega arith) in
    ap (λ (k : ℕ). take k items) e ∙ take_all (length items) items (omega arith)

-- the rule is found to be short exactly where it could match
pub short_could : (rule : Rule) (items : List (Call × Reply)) → rule_fit rule items ≡ Short → CouldMatch rule items
short_could rule items h =
    let s = short_front rule.guards rule.left items unbound h in
    let lines = take (length items) rule.left in (
      s.0,
      record {
        fewer = s.1;
        lines = subst (λ (l : List (Call × Reply)). ItemsUnder s.0 lines l) (all_taken rule.left items s.1)
            ((fit_matches rule.guards lines items unbound s.0 s.2).1 s.0 (same_bound s.0));
        guards = whole_holds rule.guards lines items s.0 s.2;
      },
    )

pub could_short : (rule : Rule) (items : List (Call × Reply)) → CouldMatch rule items → rule_fit rule items ≡ Short
could_short rule items h =
    let c = h.1 in
    let m = match_found rule.guards (take (length items) rule.left) items [] unbound h.0 (unbound_agrees h.0) (λ name. refl) c.guards c.lines in
    front_short rule.guards rule.left items unbound m.0 c.fewer m.1

-- ## No decision

none_at : (rule : Rule) (x : Call × Reply) (l : List (Call × Reply)) (others : Option (List (Call × Reply) × ℕ)) (W : Type 0) (fit : Fit)
    → rule_fit rule (x ∷ l) ≡ fit → (others ≡ None → W)
    → first_of_two (made_by rule fit) (is_short fit && true) others ≡ None
    → CouldMatch rule (x ∷ l) ⊎ ((MatchesFront rule (x ∷ l) → ⊥) × W)
none_at rule x l others W (Whole b) is rest h = cc
none_at rule x l others W Short is rest h = inl (short_could rule (x ∷ l) is)
none_at rule x l others W Not is rest h =
    inr ((λ m. let w = matches_whole rule (x ∷ l) m.0 m.1 in let e : rule_fit rule (x ∷ l) ≡ Whole w.0 = w.1 in cc), rest h)

none_waits : (rules : List Rule) (x : Call × Reply) (l : List (Call × Reply)) → chosen front_of could_match true rules x l ≡ None → WaitsOn rules (x ∷ l)
none_waits [] x l h = cc
none_waits (rule ∷ rules) x l h =
    none_at rule x l (chosen front_of could_match true rules x l) (WaitsOn rules (x ∷ l)) (rule_fit rule (x ∷ l)) refl (none_waits rules x l) h

waits_at : (rule : Rule) (x : Call × Reply) (l : List (Call × Reply)) (others : Option (List (Call × Reply) × ℕ)) (fit : Fit)
    → rule_fit rule (x ∷ l) ≡ fit → (MatchesFront rule (x ∷ l) → ⊥) → others ≡ None
    → first_of_two (made_by rule fit) (is_short fit && true) others ≡ None
waits_at rule x l others (Whole b) is never rest = absurd (never (b, whole_matches rule (x ∷ l) b is))
waits_at rule x l others Short is never rest = refl
waits_at rule x l others Not is never rest = rest

waits_none : (rules : List Rule) (x : Call × Reply) (l : List (Call × Reply)) → WaitsOn rules (x ∷ l) → chosen front_of could_match true rules x l ≡ None
waits_none [] x l w = absurd w
waits_none (rule ∷ rules) x l w =
    elim w as (λ _. chosen front_of could_match true (rule ∷ rules) x l ≡ None) [
      | inl could ↦ let e : rule_fit rule (x ∷ l) ≡ Short = could_short rule (x ∷ l) could in rw e refl
      | inr others ↦ waits_at rule x l (chosen front_of could_match true rules x l) (rule_fit rule (x ∷ l)) refl others.0 (waits_none rules x l others.1)
    ]

-- while items may come there is no decision exactly where nothing is there, or a rule that could match stands before each that matches
pub undecided : (rules : List Rule) (items : List (Call × Reply)) → (decide true rules items ≡ None) ↔ ((items ≡ []) ⊎ WaitsOn rules items)
undecided rules [] = (λ h. inl refl, λ h. refl)
undecided rules (x ∷ l) = (
  λ h. inr (none_waits rules x l h),
  λ h. elim h as (λ _. decide true rules (x ∷ l) ≡ None) [ inl e ↦ cc | inr w ↦ waits_none rules x l w ],
)
