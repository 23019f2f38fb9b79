use Rattle.std.proofs.Common.{inl, sym, ap, ◌∙◌}
use Rattle.mv_core.specs.Cuts.{is_cut}
use Rattle.mv_host.specs.Keeps.{ended_count}
use Rattle.mv_host.proofs.Leads.{puts_none}
use Rattle.mv_host.proofs.leading.Leading.new.Goals as goal

pub invariant_of-result : goal.invariant_of-result
invariant_of-result g c = record {
  of_ring = c.requires.ring;
  puts = puts_none g.V.Version.behaviour c.args.core.log c.args.feed c.requires.none c.requires.put;
  uncut = ap is_cut c.requires.runs;
  asks = c.requires.asks;
  line = inl c.requires.line;
  counted = c.requires.total ∙ ap ended_count (sym c.requires.runs);
}
