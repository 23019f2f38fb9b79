use Rattle.mv_policy.specs.Parted.{seen_in}
use Rattle.mv_policy.proofs.Keeping.{looks_keep}
use Rattle.mv_policy.proofs.console.PolicyConsoleConsole.next.Goals as goal

pub invariant_of-self : goal.invariant_of-self
invariant_of-self g c = record {
  kept = looks_keep g.N.Run.began.coming g.N.Run.began.said g.N.Ruled.policy (seen_in g.C.Console.coming g.C.Console.said c.self.inside.parts) (seen_in g.C.Console.coming g.C.Console.said c.look.new.self) c.look.result c.look.ensures.looks c.self.invariant.kept;
  ready = c.look.ensures.ready;
}

pub returns-clause-kept : goal.returns-clause-kept
returns-clause-kept g c =
    looks_keep g.N.Run.began.coming g.N.Run.began.said g.N.Ruled.policy (seen_in g.C.Console.coming g.C.Console.said c.self.inside.parts) (seen_in g.C.Console.coming g.C.Console.said c.look.new.self) c.look.result c.look.ensures.looks c.self.invariant.kept
