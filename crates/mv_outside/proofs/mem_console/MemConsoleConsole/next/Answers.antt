-- What comes is no failure, and is short.
use Rattle.std.proofs.Common.{rules, arith}
use Rattle.std.proofs.lemmas.Grind.{common_steps}
use Rattle.mv_outside.proofs.ConsoleLaws.{failed_when_named, handed_short}
use Rattle.mv_outside.specs.MemConsole.{next_fails}
use Rattle.mv_outside.proofs.mem_console.MemConsoleConsole.next.Goals as goal

pub returns-in-Some-Some-clause-short : goal.returns-in-Some-Some-clause-short
returns-in-Some-Some-clause-short c = handed_short c.first_part.result c.in-Some-Some.line c.first_part.ensures

pub returns-in-Some-Some-clause-named : goal.returns-in-Some-Some-clause-named
returns-in-Some-Some-clause-named c =
    failed_when_named _ (next_fails c.args.self.now.state) c.args.self.now.state.coming (search rules)

pub returns-in-Some-None-clause-named : goal.returns-in-Some-None-clause-named
returns-in-Some-None-clause-named c =
    failed_when_named _ (next_fails c.args.self.now.state) c.args.self.now.state.coming (search rules)

pub returns-in-None-clause-named : goal.returns-in-None-clause-named
returns-in-None-clause-named c =
    failed_when_named _ (next_fails c.args.self.now.state) c.args.self.now.state.coming (grind (arith, common_steps))
