use Rattle.std.proofs.Common.{sym, subst}
use Rattle.mv_rehearse.proofs.Linking.{nothing_waits}
use Rattle.mv_host.specs.Stands.{StandsAt}
use Rattle.mv_host.proofs.Standing.{gave, handed, moved, wanted}
use Rattle.mv_host.proofs.trailing.steps.step.Goals as goal

pub hand_over-guest-requires : goal.hand_over-guest-requires
hand_over-guest-requires g c = let h = c.step.ensures.holds c.in-Ready.n c.in-Ready.is in record { ready = (h.0, c.in-Ready.n, h.1) }

pub returns-in-Ready : goal.returns-in-Ready
returns-in-Ready g c = record {
  stands = λ taken at.
      let ready = c.step.ensures.ready c.in-Ready.n c.in-Ready.is at.spot at.follower_is in
      handed g.V.Version.behaviour taken c.args.follower.now c.step.new.self c.hand_over-guest.new.self c.args.waiting.now c.update-update.result c.in-Ready.n c.hand_over-guest.result at ready (c.hand_over-guest.ensures.guest ready.guest c.in-Ready.n ready.holds)
      (λ p is. c.update-update.ensures.base at.spot p at.follower_is is) (c.hand_over-guest.ensures.at at.spot ready.at);
}

pub returns-in-Failed : goal.returns-in-Failed
returns-in-Failed g c = record {
  stands = λ taken at.
      gave g.V.Version.behaviour taken _ c.args.follower.now c.step.new.self c.args.waiting.now c.update-update.result c.in-Failed.cause at (c.step.ensures.failed c.in-Failed.cause c.in-Failed.is at.spot at.follower_is) (λ p is. c.update-update.ensures.base at.spot p at.follower_is is);
}

pub returns-in-Memory : goal.returns-in-Memory
returns-in-Memory g c = record {
  stands = λ taken at.
      wanted g.V.Version.behaviour taken c.args.follower.now c.step.new.self c.args.waiting.now c.update-update.result at (c.step.ensures.memory c.in-Memory.is at.spot at.follower_is) (λ p is. c.update-update.ensures.base at.spot p at.follower_is is);
}

pub returns-in-Moved : goal.returns-in-Moved
returns-in-Moved g c = record {
  stands = λ taken at.
      moved g.V.Version.behaviour taken c.args.follower.now c.step.new.self c.args.waiting.now _ at (nothing_waits g.V.Version.behaviour c.args.waiting.now c.is_some.result c.is_some.ensures c.if-is_some.false) (c.step.ensures.moved c.in-Moved.is at.spot at.follower_is) c.in-Moved.ensures.verdict;
}

pub returns-in-Waits : goal.returns-in-Waits
returns-in-Waits g c = record {
  stands = λ taken at.
      moved g.V.Version.behaviour taken c.args.follower.now c.step.new.self c.args.waiting.now _ at (nothing_waits g.V.Version.behaviour c.args.waiting.now c.is_some.result c.is_some.ensures c.if-is_some.false) (c.step.ensures.waits c.in-Waits.is at.spot at.follower_is) c.in-Waits.ensures.verdict;
}

pub returns-in-Idle : goal.returns-in-Idle
returns-in-Idle g c = record { stands = λ taken at. subst (λ x. StandsAt g.V.Version.behaviour taken x c.args.waiting.now) (sym (c.step.ensures.same c.in-Idle.is)) at }
