-- What holds of the rules of an accepted file.
use Rattle.std.specs.Prelude.{◌≡◌, ℕ, List, [], ◌∷◌, Ok, Err}
use Rattle.std.proofs.Common.{sym, subst, ◌∙◌, ap, inl, inr}
use Rattle.mv_rules.specs.declared.rule.Rule.{Rule}
use Rattle.mv_rules.specs.declared.fault.RuleFault.{RuleFault}
use Rattle.mv_rules.specs.Shape.{AreShaped}
use Rattle.mv_rules.proofs.ShapeLaws.{spelled_shaped}
use Rattle.mv_rulecheck.specs.Atoms.{AreKept, IsKept, IsUnkept, IsFirstUnkept}
use Rattle.mv_history.specs.Rules.{IsAccepted, IsRefused, rules_of, or_none}

-- ## An accepted file is not refused

kept_rule : (rule : Rule) (fault : RuleFault) → IsKept rule → IsUnkept rule fault → ⊥
kept_rule rule fault kept (inl unkept) = unkept.0 kept.reads
kept_rule rule fault kept (inr unkept) = unkept.1 kept.accepts

kept_all : (rules : List Rule) (fault : RuleFault) → AreKept rules → IsFirstUnkept rules fault → ⊥
kept_all [] fault kept unkept = unkept
kept_all (rule ∷ rules) fault kept (inl first) = kept_rule rule fault kept.0 first
kept_all (rule ∷ rules) fault kept (inr later) = kept_all rules fault kept.1 later.1

pub accepted_stays : (text : List ℕ) (fault : RuleFault) → IsAccepted text → IsRefused text fault → ⊥
accepted_stays text fault accepted (inl refused) = let bad : Ok accepted.0 ≡ Err fault = sym accepted.1.spelled ∙ refused in cc
accepted_stays text fault accepted (inr refused) =
    let same : Ok accepted.0 ≡ Ok refused.0 = sym accepted.1.spelled ∙ refused.1 in
    let one : accepted.0 ≡ refused.0 = cc in
    kept_all refused.0 fault (subst AreKept one accepted.1.kept) refused.2

-- ## A refused file has one fault

unkept_one : (rule : Rule) (f g : RuleFault) → IsUnkept rule f → IsUnkept rule g → f ≡ g
unkept_one rule f g (inl h) (inl k) = h.1 ∙ sym k.1
unkept_one rule f g (inl h) (inr k) = absurd (h.0 k.0)
unkept_one rule f g (inr h) (inl k) = absurd (k.0 h.0)
unkept_one rule f g (inr h) (inr k) = h.2 ∙ sym k.2

first_unkept_one : (rules : List Rule) (f g : RuleFault) → IsFirstUnkept rules f → IsFirstUnkept rules g → f ≡ g
first_unkept_one [] f g h k = absurd h
first_unkept_one (rule ∷ rules) f g (inl h) (inl k) = unkept_one rule f g h k
first_unkept_one (rule ∷ rules) f g (inl h) (inr k) = absurd (kept_rule rule f k.0 h)
first_unkept_one (rule ∷ rules) f g (inr h) (inl k) = absurd (kept_rule rule g h.0 k)
first_unkept_one (rule ∷ rules) f g (inr h) (inr k) = first_unkept_one rules f g h.1 k.1

pub refused_one : (text : List ℕ) (f g : RuleFault) → IsRefused text f → IsRefused text g → f ≡ g
refused_one text f g (inl h) (inl k) = let e : Err f ≡ Err g = sym h ∙ k in cc
refused_one text f g (inl h) (inr k) = absurd (let bad : Ok k.0 ≡ Err f = sym k.1 ∙ h in cc)
refused_one text f g (inr h) (inl k) = absurd (let bad : Ok h.0 ≡ Err g = sym h.1 ∙ k in cc)
refused_one text f g (inr h) (inr k) =
    let same : Ok h.0 ≡ Ok k.0 = sym h.1 ∙ k.1 in
    let one : h.0 ≡ k.0 = cc in
    first_unkept_one k.0 f g (subst (λ (rules : List Rule). IsFirstUnkept rules f) one h.2) k.2

pub accepted_rules : (text : List ℕ) (a : IsAccepted text) → rules_of text ≡ a.0
accepted_rules text a = ap or_none a.1.spelled

pub accepted_shaped : (text : List ℕ) → IsAccepted text → AreShaped (rules_of text)
accepted_shaped text a = subst AreShaped (sym (accepted_rules text a)) (spelled_shaped text a.0 a.1.spelled)

pub accepted_kept : (text : List ℕ) → IsAccepted text → AreKept (rules_of text)
accepted_kept text a = subst AreKept (sym (accepted_rules text a)) a.1.kept
