use Rattle.mv_history.proofs.Growing.{files_all, first_files, fork_is_last, same_all}
use Rattle.mv_history.proofs.log_laws.later_updates_are_unread.Goals as goal

pub returns : goal.returns
returns g c = record {
  first = first_files;
  kept = λ past updates w es legal has. files_all g.V.Version.behaviour past updates w es legal has;
  legal = λ past updates more w es legal has. (same_all g.V.Version.behaviour past updates more w es legal has).legal;
  world = λ past updates more w es legal has. (same_all g.V.Version.behaviour past updates more w es legal has).world_is;
  messages = λ past updates more w es legal has. (same_all g.V.Version.behaviour past updates more w es legal has).sent_is;
  fork = λ past updates w u may has. fork_is_last g.V.Version.behaviour past updates w u may has;
}
