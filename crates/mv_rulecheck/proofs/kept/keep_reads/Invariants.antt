use Rattle.std.proofs.Common.{drop}
use Rattle.mv_rules.specs.declared.fault.RuleFault.{RuleFault}
use Rattle.mv_rulecheck.specs.Atoms.{AreKept, IsFirstUnkept}
use Rattle.mv_rulecheck.proofs.kept.keep_reads.Given as goal

-- the rules so far are kept: what is true of those that are left is true of all
abbrev pub invariant-loop-rule : goal.invariant-loop-rule
invariant-loop-rule l = record {
  kept : AreKept (drop l.rule-index l.rule-items) → AreKept l.fn.rules;
  fault : (fault : RuleFault) → IsFirstUnkept (drop l.rule-index l.rule-items) fault → IsFirstUnkept l.fn.rules fault;
}
