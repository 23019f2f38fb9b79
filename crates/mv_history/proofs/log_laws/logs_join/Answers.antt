use Rattle.mv_history.proofs.WorldLaws.{AreLegal-append, AreLegal-back, AreLegal-front, after_entries-append, outside-append, said-append, sent-append, texts-append}
use Rattle.mv_history.proofs.log_laws.logs_join.Goals as goal

pub returns : goal.returns
returns g c = record {
  legal = AreLegal-append g.V.Version.behaviour;
  front = AreLegal-front g.V.Version.behaviour;
  back = AreLegal-back g.V.Version.behaviour;
  world = after_entries-append g.V.Version.behaviour;
  messages = sent-append g.V.Version.behaviour;
  calls = outside-append;
  replies = said-append;
  lines = texts-append;
}
