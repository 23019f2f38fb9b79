-- A console line, part by part.
use Rattle.std.proofs.Common.{◌≡◌, ℕ, zero, suc, ◌+◌, ◌==◌, Bool, true, List, [], ◌∷◌, length, take, drop, refl, ap, sym, ◌∙◌, add-one, position}
use Rattle.std.specs.Prelude.{Option, Some, if◌then◌else◌}
use Rattle.std.specs.Option.{option_map}
use Rattle.std.specs.List.{list_any}
use Rattle.mv_policy.specs.declared.line.PolicyLine.{PolicyLine}
use Rattle.mv_policy.specs.declared.decision.Decision.{Decision}
use Rattle.mv_policy.specs.declared.decision.Decision.TheVariants.{Denied}
use Rattle.mv_policy.specs.Decided.{applies, at_space, by_rule, by_token, first_word, knows}

drop_one : (n : ℕ) (bytes : List ℕ) → drop 1 (drop n bytes) ≡ drop (n + 1) bytes
drop_one n bytes = rw add-one (each n bytes)
  where
    each : (n : ℕ) (bytes : List ℕ) → drop 1 (drop n bytes) ≡ drop (suc n) bytes
    each zero [] = refl
    each zero (b ∷ bytes) = refl
    each (suc n) [] = refl
    each (suc n) (b ∷ bytes) = each n bytes

pub space_found : (bytes front behind after : List ℕ) (place : ℕ) → Some place ≡ position (λ b. b == 32) bytes
    → front ≡ take place bytes → behind ≡ drop place bytes → after ≡ drop 1 behind → Some (front, after) ≡ at_space bytes
space_found bytes front behind after place found f b a =
    let rest : after ≡ drop (place + 1) bytes = a ∙ ap (λ (k : List ℕ). drop 1 k) b ∙ drop_one place bytes in
    rw (f, rest) (ap (option_map (λ (n : ℕ). (take n bytes, drop (n + 1) bytes))) found)

pub rule_found : (lines : List PolicyLine) (name behind token order word : List ℕ) (place : Option ℕ) (r : Decision)
    → Some (token, order) ≡ at_space behind → list_any (knows name token) lines ≡ true → word ≡ first_word order
    → place ≡ position (applies name word) lines → r ≡ by_rule lines (length name + length token + 2) place
    → r ≡ by_token lines name (at_space behind)
rule_found lines name behind token order word place r said known first found by =
    let from = length name + length token + 2 in
    by ∙ ap (by_rule lines from) found ∙ ap (λ (w : List ℕ). by_rule lines from (position (applies name w) lines)) first
    ∙ ap (λ (b : Bool). if b then by_rule lines from (position (applies name (first_word order)) lines) else Denied 0) (sym known)
    ∙ ap (by_token lines name) said
