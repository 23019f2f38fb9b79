use Rattle.std.proofs.Common.{refl, ap, rules}
use Rattle.mv_words.specs.declared.command.Command.TheVariants as ask
use Rattle.mv_rehearse.specs.Runs.{began_with}
use Rattle.mv_commands.proofs.Comings.{is_run, ran_cause, first_missing, first_refused}
use Rattle.mv_transform.specs.Births.{behaviour}
use Rattle.mv_commands.proofs.Writable.{legal_told}
use Rattle.mv_commands.proofs.running.serve_asked.Goals as goal

pub returns-in-NoFile : goal.returns-in-NoFile
returns-in-NoFile g c =
    first_missing (ask.Serve c.args.old c.args.args.now c.args.ring c.args.log) c.args.old _ _ _ _ _ refl c.not_run.ensures.ending (ap g.F.Files.faults c.not_run.ensures.same.2) c.in-NoFile.ensures.loaded (search rules)

pub returns-in-Refused : goal.returns-in-Refused
returns-in-Refused g c = first_refused (ask.Serve c.args.old c.args.args.now c.args.ring c.args.log) c.args.old _ _ _ _ _ refl c.not_run-in-Refused.ensures.ending c.in-Refused.ensures.loaded (search rules)

pub returns-in-Starts : goal.returns-in-Starts
returns-in-Starts g c =
    let loaded = c.in-Starts.ensures.loaded in
    let ran = c.serve-outcome.ensures in
    ran_cause (ask.Serve c.args.old c.args.args.now c.args.ring c.args.log) _ _ _ _ _ ran.ended.by _ c.keep_log.ensures.log (record {
      began = began_with g.K.Kernel.done g.K.Kernel.faults g.C.Console.coming g.C.Console.said g.C.Console.faults g.F.Files.content g.F.Files.faults c.in-Starts.first c.args.kernel c.args.console c.guest_at.new.files;
      is_run = is_run _ _ _ _ _ c.in-Starts.first _ _ (record { start = refl; args = refl; done = refl; coming = refl; said = refl; files = c.guest_at.ensures.same; kernel_faults = refl; console_faults = refl; file_faults = c.guest_at.ensures.later }) loaded.1 loaded.2 ran.legal ran.done ran.files ran.ended.last;
      orders = ran.orders;
      whole = ran.whole;
    }) (c.keep_log.ensures.how ran.ended.by ran.ended.last) c.keep_log.ensures.keeps

pub keep_log-requires : goal.keep_log-requires
keep_log-requires g c = record { told = legal_told behaviour _ _ _ c.serve-outcome.ensures.legal.legal }
