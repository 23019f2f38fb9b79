use Rattle.mv_load.specs.Connections.{load_script}
use Rattle.mv_load.proofs.rehearsal.rehearsed.Given as goal

abbrev pub ghosts-rehearsed_by : goal.ghosts-rehearsed_by
ghosts-rehearsed_by g a = record { script = load_script a.n }
