use Rattle.std.proofs.Common.{◌≡◌, ℕ, Bor, get_or, ◌+◌, ◌<◌, ◌∷◌, [], List, arith, length, length-append, ap, sym, ◌∙◌}
use Rattle.mv_policy.specs.declared.line.PolicyLine.{PolicyLine}
use Rattle.mv_policy.specs.Reading.{next_line}
use Rattle.mv_policy.proofs.ReadSteps.{read_step}
use Rattle.mv_policy.proofs.reading.read_lines.Goals as goal

pub loop-line-preserved : goal.loop-line-preserved
loop-line-preserved c =
    let more = c.in_ok-push.ensures.items in
    let known : length c.as_slice.result.now ≡ length c.loop-line.policy.items = ap length c.as_slice.ensures.value in
    let grown : length c.push.new.self.items ≡ length c.loop-line.policy.items + 1 = ap length more ∙ length-append c.loop-line.policy.items (c.in_ok-next.next ∷ []) in
    let none : Bor (List ℕ) = record { ref_ptr = (0, 0); now = [] } in
    let behind : c.loop-line.line-index < length c.args.lines.now = omega arith in
    record {
      few = omega (arith, grown, known, c.in_ok-next.ensures.few);
      rest = read_step c.args.lines.now none c.loop-line.line-index c.loop-line.policy.items c.push.new.self.items c.in_ok-next.next _ behind
          (ap (λ (b : List PolicyLine). next_line b (get_or c.args.lines.now c.loop-line.line-index none).now) (sym c.as_slice.ensures.value) ∙ c.in_ok-next.ensures.read) more c.loop-line.invariant.rest;
    }
