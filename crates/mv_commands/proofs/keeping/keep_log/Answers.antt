use Rattle.std.proofs.Common.{sym, subst}
use Rattle.mv_commands.specs.Keeping.{SaysHow}
use Rattle.mv_commands.specs.declared.ending.Ending.{Ending}
use Rattle.mv_commands.proofs.keeping.keep_log.Goals as goal
use Rattle.mv_commands.proofs.keeping.keep_log.Goals.{in-None, in-Some+in-Kept, in-Some+in-Failed, in-Some+in-NoMemory}

pub returns-clause-how : goal.returns-clause-how
returns-clause-how g c = λ h ends. elim c.match-path.branch [
  | in-None w ↦ subst (λ (e : Ending). SaysHow h e) (sym w.ending-is) (c.how_of-how.ensures h ends)
  | in-Some+in-Kept w ↦ subst (λ (e : Ending). SaysHow h e) (sym w.ending-is) (c.how_of-how.ensures h ends)
  | in-Some+in-Failed w ↦ subst (λ (e : Ending). SaysHow h e) (sym w.ending-is) (c.how_of-how.ensures h ends)
  | in-Some+in-NoMemory w ↦ subst (λ (e : Ending). SaysHow h e) (sym w.ending-is) (c.how_of-how.ensures h ends)
]
