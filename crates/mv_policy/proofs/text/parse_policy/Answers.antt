use Rattle.std.proofs.Common.{◌≡◌, ap, ◌∙◌, map, arith}
use Rattle.mv_policy.specs.Reading.{cut}
use Rattle.mv_policy.proofs.TextLaws.{if_policy, if_fault}
use Rattle.mv_policy.proofs.text.parse_policy.Goals as goal

pub returns-clause-policy : goal.returns-clause-policy
returns-clause-policy c =
    let lines : map (λ w. w.now) c.as_slice.result.now ≡ cut 10 c.without_end.result.now = ap (map (λ w. w.now)) c.as_slice.ensures.value ∙ c.in_ok-lines.ensures in
    if_policy c.without_end.result.now c.args.text.now _ c.read_all.result (omega arith) c.without_end.ensures lines c.read_all.ensures.read

pub returns-clause-fault : goal.returns-clause-fault
returns-clause-fault c =
    let lines : map (λ w. w.now) c.as_slice.result.now ≡ cut 10 c.without_end.result.now = ap (map (λ w. w.now)) c.as_slice.ensures.value ∙ c.in_ok-lines.ensures in
    if_fault c.without_end.result.now c.args.text.now _ c.read_all.result (omega arith) c.without_end.ensures lines c.read_all.ensures.fault
