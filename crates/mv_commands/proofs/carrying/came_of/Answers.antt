use Rattle.mv_commands.proofs.carrying.came_of.Goals as goal

pub returns-in-Ok : goal.returns-in-Ok
returns-in-Ok g c = c.did_on_one.ensures _ c.in-Ok.ensures.ok
