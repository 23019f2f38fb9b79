-- What a whole run comes to, by what its core kept.
use Rattle.std.proofs.Common.{◌≡◌, ◌≢◌, ℕ, true, false, Option, Some, None, List, sym, ◌∙◌, ap, subst}
use Rattle.mv_calls.specs.declared.calls.Item.{Item}
use Rattle.mv_outside.specs.Began.{Began}
use Rattle.mv_outside.specs.Files.{FileMap}
use Rattle.mv_version.specs.Behaviour.{Behaviour}
use Rattle.mv_history.proofs.Ending.{ended_by}
use Rattle.mv_history.specs.Ends.{EndsBy}
use Rattle.mv_history.specs.World.{begun}
use Rattle.mv_history.specs.declared.log.How.{How}
use Rattle.mv_history.specs.declared.log.How.TheVariants as how
use Rattle.mv_history.specs.declared.log.Log.{Log}
use Rattle.mv_core.specs.Cuts.{is_cut}
use Rattle.mv_core.specs.Sound.{IsKept}
use Rattle.mv_core.specs.Whole.{Seen, Whole, seen}
use Rattle.mv_rehearse.proofs.Results.{did_calls, has_ended, legal_run, orders_answered}
use Rattle.mv_rehearse.specs.Linked.{LineWaits}
use Rattle.mv_rehearse.specs.Runs.{end_status}
use Rattle.mv_rehearse.specs.declared.outcome.ExitStatus.{ExitStatus}
use Rattle.mv_host.specs.Served.{IsServed}

-- the last entry is the end of the status
ends_so : {V : Type 0} (b : Behaviour V) (began : Began) (s : Seen) (h : How) → IsKept b began s → EndsBy s.log.entries.list h → s.status.ended ≡ Some h
ends_so b began s h kept by = ap (λ st. st.ended) (sym kept.log.status_is) ∙ ended_by b s.log.updates.list (begun kept.log.first) s.log.entries.list h by

never_cut : (e : Option How) → is_cut e ≡ false → e ≡ Some how.Cut → ⊥
never_cut e uncut is = let bad : true ≡ false = ap is_cut (sym is) ∙ uncut in cc

same_end : (e : Option How) (h k : How) → e ≡ Some h → e ≡ Some k → h ≡ k
same_end e h k is also = let same : Some h ≡ Some k = sym is ∙ also in cc

ended_some : (e : Option How) (h : How) → e ≡ Some h → e ≢ None
ended_some e h is none = let bad : Some h ≡ None = sym is ∙ none in cc

module _ {V K C F : Type 0} (b : Behaviour V) (began : Began) (done : K → Option (List Item)) (kernel_faults : K → ℕ) (coming : C → Option (List (Option (List ℕ)))) (said : C → Option (List ℕ)) (console_faults : C → ℕ) (content : F → Option FileMap) (files_faults : F → ℕ) where
  abbrev whole_seen : Whole K C F → Seen
  whole_seen w = seen done kernel_faults coming said console_faults content files_faults w

  abbrev Comes : ExitStatus → K → C → F → Log → Type 0
  Comes status kernel console files log = IsServed b began done kernel_faults coming said console_faults content files_faults (record { status = status; kernel = kernel; console = console; files = files; log = log })

  served_core : (w : Whole K C F) (h : How) (status : ExitStatus) → IsKept b began (whole_seen w) → w.status.ended ≡ Some h → is_cut w.status.ended ≡ false → LineWaits w.status w.line → w.orders ≡ true → status ≡ end_status h →
      Comes status w.kernel w.console w.files w.log
  served_core w h status kept ended uncut line asks is =
      record {
        legal = legal_run b began (whole_seen w) kept;
        did = did_calls b began (whole_seen w) kept;
        orders = orders_answered b began (whole_seen w) kept line asks;
        found = kept.files;
        ended = has_ended b began (whole_seen w) status kept (ended_some w.status.ended h ended) (λ k by. is ∙ ap end_status (same_end w.status.ended h k ended (ends_so b began (whole_seen w) k kept by)));
        whole = λ by. never_cut w.status.ended uncut (ends_so b began (whole_seen w) how.Cut kept by);
      }

  -- and with its parts, as they are handed out
  pub served : (w : Whole K C F) (h : How) (status : ExitStatus) (kernel : K) (console : C) (files : F) (log : Log) → kernel ≡ w.kernel → console ≡ w.console → files ≡ w.files → log ≡ w.log →
      IsKept b began (whole_seen w) → w.status.ended ≡ Some h → is_cut w.status.ended ≡ false → LineWaits w.status w.line → w.orders ≡ true → status ≡ end_status h → Comes status kernel console files log
  served w h status kernel console files log k c f l kept ended uncut line asks is =
      subst (λ x. Comes status x console files log) (sym k)
      (subst (λ x. Comes status w.kernel x files log) (sym c)
      (subst (λ x. Comes status w.kernel w.console x log) (sym f)
      (subst (λ x. Comes status w.kernel w.console w.files x) (sym l) (served_core w h status kept ended uncut line asks is))))
