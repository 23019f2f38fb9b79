-- The rules files of an update.
use Rattle.std.specs.Prelude.{◌≡◌, ◌⊎◌, ℕ, List, [], Result, Ok, Err, codes}
use Rattle.mv_rules.specs.declared.rule.Rule.{Rule}
use Rattle.mv_rules.specs.declared.fault.RuleFault.{RuleFault}
use Rattle.mv_rules.specs.RulesText.{rules_in}
use Rattle.mv_rulecheck.specs.Atoms.{AreKept, IsFirstUnkept}
use Rattle.mv_history.specs.declared.updates.Update.{Update}

-- the file that stands for no rules
abbrev pub no_rules_text : List ℕ
no_rules_text = codes "mvrules 1\n"

-- the file spells these rules, and they keep what is read and accepted
pub record SpellsKept (text : List ℕ) (rules : List Rule) : Type 0 where
  pub spelled : rules_in text ≡ Ok rules
  pub kept : AreKept rules

-- the file is accepted
abbrev pub IsAccepted : List ℕ → Type 0
IsAccepted text = (rules : List Rule) × SpellsKept text rules

-- the file is refused with this fault: it spells no rules, or its rules don't keep what is read and accepted
abbrev pub IsRefused : List ℕ → RuleFault → Type 0
IsRefused text fault = (rules_in text ≡ Err fault) ⊎ ((rules : List Rule) × (rules_in text ≡ Ok rules) × IsFirstUnkept rules fault)

-- both files of the update are accepted
pub record AreAccepted (files : Update) : Type 0 where
  pub forward : IsAccepted files.forward
  pub reverse : IsAccepted files.reverse

abbrev pub or_none : Result (List Rule) RuleFault → List Rule
or_none (Ok rules) = rules
or_none (Err fault) = []

-- the rules of a file; of a refused one nothing below is said
abbrev pub rules_of : List ℕ → List Rule
rules_of text = or_none (rules_in text)
