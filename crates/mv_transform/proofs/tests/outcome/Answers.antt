use Rattle.std.proofs.Common.{◌∙◌, ap, [], ◌∷◌}
use Rattle.mv_calls.specs.declared.calls.Call.TheVariants.{Write as write_call}
use Rattle.mv_guest.specs.Standing.{Standing}
use Rattle.mv_transform.proofs.tests.outcome.Goals as goal

pub prepare-requires : goal.prepare-requires
prepare-requires c = record {
  call = (write_call 1 (104 ∷ 105 ∷ 10 ∷ []), ap (λ (s : Standing). s.event) c.go.ensures.same ∙ c.in_ok-first.ensures.event ∙ c.is_hello.ensures c.if-not-is_hello.false, tt);
}
