-- What an audit answers, from what its files are found to be.
use Rattle.std.proofs.Common.{◌≡◌, ℕ, suc, ◌≤◌, ◌⊎◌, List, ◌∷◌, Option, Err, sym, subst}
use Rattle.mv_syntax.specs.declared.fault.BornFault.{BornFault}
use Rattle.mv_outside.specs.Causes.{Rose}
use Rattle.mv_outside.specs.Files.{FileMap}
use Rattle.mv_history.specs.declared.log.Entry.{Entry}
use Rattle.mv_guest.specs.Standing.{Standing}
use Rattle.mv_transform.specs.Births.{started}
use Rattle.mv_inspect.specs.Told.{FileIs, IsMissing}
use Rattle.mv_inspect.specs.Logs.{HasRecord}
use Rattle.mv_inspect.specs.Audits.{AuditGoes, HasSomeLog, IsInspected, NotStarted, StartsWith, update_files}
use Rattle.mv_inspect.specs.Steps.{HasGuest, IsNoFile, IsUnread, answer_to}
use Rattle.mv_inspect.specs.declared.naming.Unread.{Unread}
use Rattle.mv_inspect.specs.declared.naming.Unread.TheVariants as unread
use Rattle.mv_inspect.specs.declared.auditing.Inspected.{Inspected}
use Rattle.mv_inspect.specs.declared.auditing.Inspected.TheVariants as inspected
use Rattle.mv_inspect.proofs.Stops.{later_why, stops_first, stops_next}

module _ (told : Option FileMap) (log old : List ℕ) (names : List (List ℕ)) (a b : ℕ) where
  module _ (args : List (List ℕ)) (entries : List Entry) (has : HasRecord told log args entries) where
    log_goes : FileIs told log HasSomeLog
    log_goes files e = (has.0, has.1 files e, (args, entries, has.2))

    pub answers_module : (e : Unread) → IsNoFile old e → IsMissing told old ⊎ Rose a b → IsInspected told log old names a b (answer_to e)
    answers_module (unread.NoFile named) is why =
        subst (λ p. IsInspected told log old names a b (inspected.NoFile p)) (sym is)
        (stops_next told old (AuditGoes told log) _ log (old ∷ update_files names) log_goes
        (stops_first told old (λ n. AuditGoes told log (suc n)) _ (update_files names) why))
    answers_module unread.NoMemory is why = tt

    pub refuses_module : (fault : BornFault) → FileIs told old (λ text. started text args ≡ Err fault) → FileIs told log HasSomeLog × FileIs told old (λ text. NotStarted told log text fault)
    refuses_module fault is = (log_goes, (λ files e. let found = is files e in (found.0, found.1, (args, entries, has, found.2))))

    module _ (first : Standing) (starts : HasGuest told old args first) where
      start_goes : FileIs told old (StartsWith told log)
      start_goes files e = (starts.0, starts.1 files e, (args, entries, first, has, starts.2))

      pub answers_updates : (e : Unread) → IsUnread told (update_files names) a b e → IsInspected told log old names a b (answer_to e)
      answers_updates (unread.NoFile path) is =
          stops_next told path (AuditGoes told log) _ log (old ∷ update_files names) log_goes
          (stops_next told path (λ n. AuditGoes told log (suc n)) _ old (update_files names) start_goes is)
      answers_updates unread.NoMemory is = tt

-- ## After other reads, which change no file

inspected_after : (told : Option FileMap) (log old : List ℕ) (names : List (List ℕ)) (a b c : ℕ) (i : Inspected) → a ≤ b → IsInspected told log old names b c i → IsInspected told log old names a c i
inspected_after told log old names a b c (inspected.NoFile path) later is = record { number = is.number; named = is.named; earlier = is.earlier; stops = later_why told path a b c later is.stops }
inspected_after told log old names a b c inspected.NoMemory later is = tt
inspected_after told log old names a b c (inspected.BadLog fault) later is = is
inspected_after told log old names a b c (inspected.BadModule fault) later is = is
inspected_after told log old names a b c inspected.Legal later is = is
inspected_after told log old names a b c (inspected.Illegal entry) later is = is

-- what is answered from here on is what is answered from before it
pub inspected_later : (told mid : Option FileMap) (log old : List ℕ) (names : List (List ℕ)) (a b c : ℕ) (i : Inspected) → mid ≡ told → a ≤ b
    → IsInspected mid log old names b c i → IsInspected told log old names a c i
inspected_later told mid log old names a b c i same later is = inspected_after told log old names a b c i later (subst (λ t. IsInspected t log old names b c i) same is)

pub record_before : (told mid : Option FileMap) (log : List ℕ) (args : List (List ℕ)) (entries : List Entry) → mid ≡ told → HasRecord told log args entries → HasRecord mid log args entries
record_before told mid log args entries same has = subst (λ t. HasRecord t log args entries) (sym same) has

pub guest_before : (told mid : Option FileMap) (old : List ℕ) (args : List (List ℕ)) (first : Standing) → mid ≡ told → HasGuest told old args first → HasGuest mid old args first
guest_before told mid old args first same has = subst (λ t. HasGuest t old args first) (sym same) has
