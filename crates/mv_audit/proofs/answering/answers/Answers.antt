use Rattle.mv_audit.proofs.AnsweringLaws.{answers_exactly}
use Rattle.mv_audit.proofs.answering.answers.Goals as goal

pub returns : goal.returns
returns c = answers_exactly c.is_reply_to.result c.args.status.now c.args.updates.now c.args.text.now c.args.reply.now c.in_ok-reading.reading c.in_ok-reading.ensures c.is_reply_to.ensures
