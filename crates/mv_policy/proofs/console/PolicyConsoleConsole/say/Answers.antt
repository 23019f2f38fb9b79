use Rattle.mv_policy.specs.Parted.{seen_in}
use Rattle.mv_policy.proofs.Keeping.{replied_keep}
use Rattle.mv_policy.proofs.console.PolicyConsoleConsole.say.Goals as goal

pub invariant_of-self : goal.invariant_of-self
invariant_of-self g c = record {
  kept = replied_keep g.N.Run.began.coming g.N.Run.began.said g.N.Ruled.policy (seen_in g.C.Console.coming g.C.Console.said c.self.inside.parts) (seen_in g.C.Console.coming g.C.Console.said c.say.new.self) c.args.line.now c.say.result c.say.ensures.said c.self.invariant.kept;
  ready = c.say.ensures.ready;
}

pub returns-clause-kept : goal.returns-clause-kept
returns-clause-kept g c =
    replied_keep g.N.Run.began.coming g.N.Run.began.said g.N.Ruled.policy (seen_in g.C.Console.coming g.C.Console.said c.self.inside.parts) (seen_in g.C.Console.coming g.C.Console.said c.say.new.self) c.args.line.now c.say.result c.say.ensures.said c.self.invariant.kept
