-- Where it fails, half of the line was said.
use Rattle.std.proofs.Common.{rules, arith, ap, Some, length, ◌/◌}
use Rattle.mv_outside.proofs.mem_console.MemConsoleConsole.say.Goals as goal

pub returns-then-contains-clause-part : goal.returns-then-contains-clause-part
returns-then-contains-clause-part c = (length c.args.line.now / 2, omega arith, ap Some (search rules))
