use Rattle.mv_rehearse.proofs.rehearsals.one_beat.Goals as goal

pub returns-in-Lead-clause-beat : goal.returns-in-Lead-clause-beat
returns-in-Lead-clause-beat g c = rw c.in-Lead.is c.lead.ensures.beat

pub returns-in-Carry-clause-beat : goal.returns-in-Carry-clause-beat
returns-in-Carry-clause-beat g c = rw c.in-Carry.is c.carry.ensures.beat

pub returns-in-Follow-clause-beat : goal.returns-in-Follow-clause-beat
returns-in-Follow-clause-beat g c = rw c.in-Follow.is c.follow.ensures.beat

pub returns-in-Judge-clause-beat : goal.returns-in-Judge-clause-beat
returns-in-Judge-clause-beat g c = rw c.in-Judge.is c.judge.ensures.beat
