use Rattle.std.proofs.Common.{◌≡◌, ◌∙◌, List, Option, refl, sym, ap, subst, arith, rules, Ok}
use Rattle.mv_outside.specs.Files.{FileMap}
use Rattle.mv_rehearse.specs.declared.beats.Beat.{Beat}
use Rattle.mv_schedule.specs.Schedules.{schedule_of}
use Rattle.mv_inspect.specs.Told.{StandsAt}
use Rattle.mv_words.specs.declared.command.Command.TheVariants as ask
use Rattle.mv_rehearse.specs.Runs.{began_with}
use Rattle.mv_commands.proofs.Comings.{first_missing, first_refused, is_run, ran_cause, starts_there, schedule_missing, schedule_refused}
use Rattle.mv_transform.specs.Births.{behaviour}
use Rattle.mv_commands.proofs.Writable.{legal_told}
use Rattle.mv_commands.proofs.running.rehearse_asked.Goals as goal

pub returns-in-NoFile-schedule_at : goal.returns-in-NoFile-schedule_at
returns-in-NoFile-schedule_at g c =
    let loaded = c.in-Starts.ensures.loaded in
    schedule_missing _ _ _ _ _ _ _ _ _ _ _ _ c.not_run-in-NoFile-schedule_at.ensures.ending (starts_there _ _ _ c.in-Starts.guest c.in-Starts.first loaded.0 loaded.1 loaded.2)
    c.guest_at.ensures.same c.guest_at.ensures.later (ap g.F.Files.faults c.not_run-in-NoFile-schedule_at.ensures.same.2) c.in-NoFile-schedule_at.ensures.planned (search rules)

pub returns-in-Refused-schedule_at : goal.returns-in-Refused-schedule_at
returns-in-Refused-schedule_at g c =
    let loaded = c.in-Starts.ensures.loaded in
    schedule_refused _ _ _ _ _ _ _ _ _ _ _ c.not_run-in-Refused-schedule_at.ensures.ending (starts_there _ _ _ c.in-Starts.guest c.in-Starts.first loaded.0 loaded.1 loaded.2)
    c.guest_at.ensures.same c.in-Refused-schedule_at.ensures.planned (search rules)

pub returns : goal.returns
returns g c =
    let loaded = c.in-Starts.ensures.loaded in
    let planned = c.in-Beats.ensures.planned in
    let ran = c.by_beats-outcome.ensures in
    let first = c.guest_at.ensures.later in
    let second = c.schedule_at.ensures.later in
    ran_cause (ask.Rehearse c.args.old c.args.schedule c.args.args.now c.args.ring c.args.log) _ _ _ _ _ ran.ended.by _ c.keep_log.ensures.log (record {
      began = began_with g.K.Kernel.done g.K.Kernel.faults g.C.Console.coming g.C.Console.said g.C.Console.faults g.F.Files.content g.F.Files.faults c.in-Starts.first c.args.kernel c.args.console c.schedule_at.new.files;
      is_run = is_run _ _ _ _ _ c.in-Starts.first _ _ (record { start = refl; args = refl; done = refl; coming = refl; said = refl; files = c.schedule_at.ensures.same ∙ c.guest_at.ensures.same; kernel_faults = refl; console_faults = refl; file_faults = omega (arith, first, second) }) loaded.1 loaded.2 ran.legal ran.done ran.files ran.ended.last;
      text = planned.0;
      schedule_is = subst (λ (t : Option FileMap). StandsAt t c.args.schedule planned.0) c.guest_at.ensures.same planned.1;
      beats = c.as_slice.result.now;
      beats_are = subst (λ (bs : List Beat). schedule_of planned.0 ≡ Ok bs) (sym c.as_slice.ensures.value) planned.2;
      rehearsed = ran.beats;
      orders = ran.orders;
    }) (c.keep_log.ensures.how ran.ended.by ran.ended.last) c.keep_log.ensures.keeps

pub keep_log-requires : goal.keep_log-requires
keep_log-requires g c = record { told = legal_told behaviour _ _ _ c.by_beats-outcome.ensures.legal.legal }

pub returns-in-NoFile : goal.returns-in-NoFile
returns-in-NoFile g c =
    first_missing (ask.Rehearse c.args.old c.args.schedule c.args.args.now c.args.ring c.args.log) c.args.old _ _ _ _ _ refl c.not_run.ensures.ending (ap g.F.Files.faults c.not_run.ensures.same.2) c.in-NoFile.ensures.loaded (search rules)

pub returns-in-Refused : goal.returns-in-Refused
returns-in-Refused g c =
    first_refused (ask.Rehearse c.args.old c.args.schedule c.args.args.now c.args.ring c.args.log) c.args.old _ _ _ _ _ refl c.not_run-in-Refused.ensures.ending c.in-Refused.ensures.loaded (search rules)
