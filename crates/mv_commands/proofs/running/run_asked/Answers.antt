use Rattle.std.proofs.Common.{refl, subst, sym}
use Rattle.mv_history.specs.Ends.{EndsBy}
use Rattle.mv_history.specs.declared.log.How.{How}
use Rattle.mv_rehearse.specs.Runs.{began_with}
use Rattle.mv_commands.proofs.Comings.{is_run}
use Rattle.mv_commands.proofs.running.run_asked.Goals as goal

pub returns-in-Starts : goal.returns-in-Starts
returns-in-Starts g c =
    let loaded = c.in-Starts.ensures.loaded in
    let ran = c.alone-outcome.ensures in
    let h = ran.ended.by in (
      _,
      record {
        began = began_with g.K.Kernel.done g.K.Kernel.faults g.C.Console.coming g.C.Console.said g.C.Console.faults g.F.Files.content g.F.Files.faults c.in-Starts.log c.args.kernel c.args.console c.guest_at.new.files;
        is_run = is_run _ _ _ _ _ c.in-Starts.log _ _ (record { start = refl; args = refl; done = refl; coming = refl; said = refl; files = c.guest_at.ensures.same; kernel_faults = refl; console_faults = refl; file_faults = c.guest_at.ensures.later }) loaded.1 loaded.2 ran.legal ran.done ran.files (subst (λ (x : How). EndsBy c.alone-outcome.result.log.entries.list x) (sym (c.how_of-how.ensures h ran.ended.last)) ran.ended.last);
        no_texts = ran.no_orders.0;
        no_updates = ran.no_orders.1;
        coming = ran.console.0;
        said = ran.console.1;
        whole = ran.whole;
      },
      refl,
    )
