use Rattle.std.proofs.Common.{arith}
use Rattle.mv_rules.proofs.DraftSteps.{draft_read}
use Rattle.mv_rules.proofs.LineSteps.{read_step}
use Rattle.mv_rules.proofs.text.read_lines.Goals as goal

pub loop-rest-preserved : goal.loop-rest-preserved
loop-rest-preserved c =
    let is = c.in_ok-reading.ensures.read in
    record {
      draft = draft_read c.args.version c.loop-rest.reading c.loop-rest.at c.first_line.result.0.now c.in_ok-reading.reading is c.loop-rest.invariant.draft;
      within = omega (arith, c.first_line.ensures.shorter, c.loop-rest.invariant.within);
      rest = read_step c.args.version c.loop-rest.reading c.in_ok-reading.reading c.loop-rest.at c.first_line.result.0.now _ _ _ c.first_line.ensures.lines is c.loop-rest.invariant.rest;
    }
