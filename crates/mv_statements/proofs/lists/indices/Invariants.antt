use Rattle.std.proofs.Common.{◌≡◌, ◌-◌}
use Rattle.mv_statements.specs.Forms.{many}
use Rattle.mv_statements.specs.Words.{index}
use Rattle.mv_statements.proofs.Loops.{with_front}
use Rattle.mv_statements.proofs.lists.indices.Given as goal

abbrev pub invariant-loop : goal.invariant-loop
invariant-loop l = with_front l.list.items ((many index (l.count - l.counter)).reads l.words) ≡ (many index l.count).reads l.fn.words
