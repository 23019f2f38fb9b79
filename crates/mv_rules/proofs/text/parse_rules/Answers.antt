use Rattle.std.proofs.Common.{◌≡◌, ℕ, true, List, IfOk, Result, Ok, Err}
use Rattle.std.specs.List.{list_all}
use Rattle.mv_calls.specs.Or.{IfFault, IsFault}
use Rattle.mv_calls.specs.declared.fault.Or.{Or}
use Rattle.mv_calls.specs.declared.fault.Or.TheVariants.{Fault, OutOfMemory}
use Rattle.mv_rules.specs.declared.rule.Rule.{Rule}
use Rattle.mv_rules.specs.declared.fault.RuleFault.{RuleFault}
use Rattle.mv_rules.specs.RulesText.{rules_in}
use Rattle.mv_rules.specs.Grammar.{IsFirstFaultyLine, Spells, has_bound_guards}
use Rattle.mv_rules.proofs.GrammarLaws.{found_spelled, fault_spells_none, place}
use Rattle.mv_rules.proofs.GuardLaws.{guards_are_bound}
use Rattle.mv_rules.proofs.text.parse_rules.Goals as goal

if_spelled : (text : List ℕ) (r : Result (List Rule) (Or RuleFault)) → IfOk r (λ rules. rules_in text ≡ Ok rules) → IfOk r (λ rules. Spells text rules)
if_spelled text (Ok rules) h = found_spelled text rules h
if_spelled text (Err fault) h = h

if_refused : (text : List ℕ) (r : Result (List Rule) (Or RuleFault)) → IfFault r (λ fault. rules_in text ≡ Err fault) → IsFault r → (rules : List Rule) → Spells text rules → ⊥
if_refused text (Ok found) h is rules s = absurd is
if_refused text (Err (Fault fault)) h is rules s = fault_spells_none text fault h rules s
if_refused text (Err OutOfMemory) h is rules s = absurd is

if_first : (text : List ℕ) (r : Result (List Rule) (Or RuleFault)) → IfFault r (λ fault. rules_in text ≡ Err fault) → IfFault r (λ fault. IsFirstFaultyLine text fault.line)
if_first text (Ok rules) h = h
if_first text (Err (Fault fault)) h = place text fault h
if_first text (Err OutOfMemory) h = h

if_bound : (text : List ℕ) (r : Result (List Rule) (Or RuleFault)) → IfOk r (λ rules. rules_in text ≡ Ok rules) → IfOk r (λ rules. list_all has_bound_guards rules ≡ true)
if_bound text (Ok rules) h = guards_are_bound text rules (found_spelled text rules h)
if_bound text (Err fault) h = h

pub returns-clause-spelled : goal.returns-clause-spelled
returns-clause-spelled c = if_spelled c.args.text.now c.read_text.result c.read_text.ensures.rules

pub returns-clause-refused : goal.returns-clause-refused
returns-clause-refused c = if_refused c.args.text.now c.read_text.result c.read_text.ensures.fault

pub returns-clause-first : goal.returns-clause-first
returns-clause-first c = if_first c.args.text.now c.read_text.result c.read_text.ensures.fault

pub returns-clause-guards : goal.returns-clause-guards
returns-clause-guards c = if_bound c.args.text.now c.read_text.result c.read_text.ensures.rules
