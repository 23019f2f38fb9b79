use Rattle.mv_commands.proofs.carrying.served.Goals as goal

pub returns : goal.returns
returns g c = let same = c.finish.ensures.same in rw (same.0, same.1, same.2, same.3) (c.any_of-came.result.ending, c.any_of-came.ensures, c.finish.ensures.shows)
