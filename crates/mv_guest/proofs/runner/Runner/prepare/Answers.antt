use Rattle.std.proofs.Common.{◌∙◌, Some}
use Rattle.mv_guest.specs.Running.{stands_of}
use Rattle.mv_guest.proofs.RunnerLaws.{prepare-waits, prepare-made, prepare-running, prepare-same}
use Rattle.mv_guest.proofs.runner.Runner.prepare.Goals as goal

pub own_answer-requires : goal.own_answer-requires
own_answer-requires c = record {
  waits = prepare-waits c.self.inside.machine c.self.inside.args c.self.inside.trapped c.self.inside.pending c.self.inside.ready c.go.new.self (stands_of c.args.self.now) c.in-Calls.call c.self.view_is c.in_ok-event.ensures.done c.go.ensures.same c.in_ok-event.ensures.there (c.in_ok-event.ensures.event ∙ c.in-Calls.is) c.self.invariant;
  made = prepare-made c.self.inside.machine c.self.inside.args c.self.inside.trapped c.self.inside.pending c.self.inside.ready c.go.new.self (stands_of c.args.self.now) c.in-Calls.call c.self.view_is c.in_ok-event.ensures.done c.go.ensures.same c.in_ok-event.ensures.there (c.in_ok-event.ensures.event ∙ c.in-Calls.is);
}

pub returns-in_err-own_answer-clause-same : goal.returns-in_err-own_answer-clause-same
returns-in_err-own_answer-clause-same c =
    prepare-same c.self.inside.machine c.self.inside.args c.self.inside.trapped c.self.inside.pending c.self.inside.ready c.go.new.self (stands_of c.args.self.now) c.own_answer.new.machine c.self.inside.ready c.self.view_is c.go.ensures.same c.own_answer.ensures.parts c.own_answer.ensures.same

pub invariant_of-self-2 : goal.invariant_of-self-2
invariant_of-self-2 c =
    prepare-running c.self.inside.machine c.self.inside.args c.self.inside.trapped c.self.inside.pending c.self.inside.ready c.go.new.self (stands_of c.args.self.now) c.in-Calls.call c.self.view_is c.in_ok-event.ensures.done c.go.ensures.same c.in_ok-event.ensures.there (c.in_ok-event.ensures.event ∙ c.in-Calls.is) c.own_answer.new.machine c.self.invariant c.own_answer.ensures.parts c.own_answer.ensures.same c.in_ok-own_answer.ensures.ready

pub returns-clause-same : goal.returns-clause-same
returns-clause-same c =
    prepare-same c.self.inside.machine c.self.inside.args c.self.inside.trapped c.self.inside.pending c.self.inside.ready c.go.new.self (stands_of c.args.self.now) c.own_answer.new.machine (Some c.in-Calls.call) c.self.view_is c.go.ensures.same c.own_answer.ensures.parts c.own_answer.ensures.same
