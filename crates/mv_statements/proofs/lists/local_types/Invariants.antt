use Rattle.std.proofs.Common.{◌≡◌, ◌-◌, length}
use Rattle.mv_statements.specs.Forms.{many}
use Rattle.mv_statements.specs.Words.{val_type}
use Rattle.mv_statements.proofs.Loops.{with_front}
use Rattle.mv_statements.proofs.lists.local_types.Given as goal

abbrev pub invariant-loop : goal.invariant-loop
invariant-loop l = (length l.locals ≡ l.counter) × (with_front l.locals ((many val_type (l.count - l.counter)).reads l.words) ≡ (many val_type l.count).reads l.fn.words)
