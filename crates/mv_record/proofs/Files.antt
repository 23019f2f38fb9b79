-- The two laws of a whole file: what is read is spelled so, and what is spelled so is read.
use Rattle.std.proofs.Common.{◌≡◌, ℕ, zero, suc, ◌-◌, ◌<◌, ◌≤◌, Bool, true, false, cond, eqb, ltb, List, [], ◌∷◌, ◌++◌, length, codes, Result, Ok, Err, refl, sym, ap, subst, ◌∙◌, append_assoc, arith}
use Rattle.std.specs.Prelude.{IfOk}
use Rattle.std.specs.List.{flat_map, AllByRecursion}
use Rattle.std.proofs.lemmas.Bool.{eqb-true, le-ltb}
use Rattle.std.proofs.lemmas.List.{length-append}
use Rattle.std.proofs.lemmas.List.Concat.{flat_map-cons}
use Rattle.byteorder.specs.Endian.{little_bytes}
use Rattle.byteorder.specs.Numbers.{length-bytes_low_first}
use Rattle.mv_calls.specs.declared.fault.Or.{Or}
use Rattle.mv_history.specs.declared.log.Entry.{Entry}
use Rattle.mv_record.specs.declared.fault.BodyFault.{BodyFault}
use Rattle.mv_record.specs.declared.fault.RecordFault.{RecordFault}
use Rattle.mv_record.specs.declared.fault.RecordKind.TheVariants.{Magic, Limit}
use Rattle.mv_record.specs.Spelling.{byte_list, list_text, body_text, entry_text, file_text}
use Rattle.mv_history.specs.declared.log.Entry.TheVariants as entry
use Rattle.mv_history.specs.declared.log.Mark.{Mark}
use Rattle.mv_history.specs.declared.log.Mark.TheVariants as mark
use Rattle.mv_history.specs.declared.log.Cause.{Cause}
use Rattle.mv_history.specs.declared.log.Cause.TheVariants as cause
use Rattle.mv_version.specs.declared.event.Event.{Event}
use Rattle.mv_version.specs.declared.event.Event.TheVariants as event
use Rattle.mv_record.specs.Fitting.{IsTold, IsToldCause, IsToldMark, IsToldEntry, FitsGot, FitsCause, FitsMark, FitsBody, IsSmall, FitsList, FitsEntry, FitsFile, IsFile}
use Rattle.mv_record.specs.Reading.{◌>>=◌, Gives, byte_list_at, list_at, whole_body}
use Rattle.mv_record.specs.File.{unless_cut, record_at, entries_at, after_magic, placed, fault, contents_of, log_of, file_limit}
use Rattle.mv_record.proofs.Rows.{IsBytes, IsRow, rest_bytes, byte_list_row, byte_list_again, list_row, list_again}
use Rattle.mv_record.proofs.RowsBodies.{whole_takes, whole_again}

step_ok : {A B : Type 0} (r : Result A RecordFault) (f : A → Result B RecordFault) (y : B) → (r >>= f) ≡ Ok y → (x : A) × (r ≡ Ok x) × (f x ≡ Ok y)
step_ok (Ok x) f y e = (x, refl, e)
step_ok (Err d) f y e = absurd cc

step_again : {A B : Type 0} (r : Result A RecordFault) (f : A → Result B RecordFault) (x : A) → r ≡ Ok x → (r >>= f) ≡ f x
step_again r f x e = ap (λ (q : Result _ RecordFault). q >>= f) e

abbrev read_ok : {A : Type 0} → A → Result A RecordFault
read_ok x = Ok x

same_ok : {A : Type 0} (x y : A) → read_ok x ≡ read_ok y → x ≡ y
same_ok x y e = cc

uncut : {A : Type 0} (total : ℕ) (r : Result A BodyFault) (x : A) → unless_cut total r ≡ Ok x → r ≡ Ok x
uncut total (Ok y) x e = ap (λ (z : _). Ok z) (same_ok y x e)
uncut total (Err d) x e = absurd cc

unplaced : {A : Type 0} (total here after : ℕ) (r : Result A BodyFault) (x : A) → placed total here after r ≡ Ok x → r ≡ Ok x
unplaced total here after (Ok y) x e = ap (λ (z : _). Ok z) (same_ok y x e)
unplaced total here after (Err d) x e = absurd cc

-- ---- the first bytes

magic_byte : (total m b : ℕ) (ms bs rest : List ℕ) (t : Bool) → eqb b m ≡ t → cond t (after_magic total ms bs) (Err (fault Magic (total - length (b ∷ bs)))) ≡ Ok rest
    → (after_magic total ms bs ≡ Ok rest → bs ≡ ms ++ rest) → b ∷ bs ≡ m ∷ (ms ++ rest)
magic_byte total m b ms bs rest true test e tail = let t = tail e in let head = eqb-true b m test in cc
magic_byte total m b ms bs rest false test e tail = absurd cc

magic_takes : (total : ℕ) (magic bytes rest : List ℕ) → after_magic total magic bytes ≡ Ok rest → bytes ≡ magic ++ rest
magic_takes total [] bytes rest e = same_ok bytes rest e
magic_takes total (m ∷ ms) [] rest e = absurd cc
magic_takes total (m ∷ ms) (b ∷ bs) rest e = magic_byte total m b ms bs rest (eqb b m) refl e (magic_takes total ms bs rest)

-- ---- entries

cons_bytes : (x : ℕ) (a : List ℕ) → x < 256 → IsBytes a → IsBytes (x ∷ a)
cons_bytes x a h all zero = h
cons_bytes x a h all (suc i) = all i

front_bytes : (a b : List ℕ) → IsBytes (a ++ b) → IsBytes a
front_bytes [] b h = λ i. omega arith
front_bytes (x ∷ a) b h = cons_bytes x a (h 0) (front_bytes a b (λ j. h (suc j)))

record_takes : (total : ℕ) (bytes : List ℕ) (x : Entry × List ℕ) → IsBytes bytes → record_at total bytes ≡ Ok x → (bytes ≡ entry_text x.0 ++ x.1) × FitsEntry x.0 × IsBytes x.1
unfolding record_at
record_takes total bytes x fits e =
    let a = step_ok (unless_cut total (byte_list_at bytes)) (λ text. placed total (length bytes) (length text.1) (whole_body text.0) >>= λ e. Ok (e, text.1)) x e in
    let b = step_ok (placed total (length bytes) (length a.0.1) (whole_body a.0.0)) (λ e. Ok (e, a.0.1)) x a.2 in
    let t = byte_list_row.takes bytes a.0.0 a.0.1 fits (uncut total (byte_list_at bytes) a.0 a.1) in
    let body_fits : IsBytes a.0.0 = front_bytes a.0.0 a.0.1 (rest_bytes (little_bytes 4 (length a.0.0)) (a.0.0 ++ a.0.1) (subst IsBytes (t.parts ∙ append_assoc (little_bytes 4 (length a.0.0)) a.0.0 a.0.1) fits)) in
    let u = whole_takes a.0.0 b.0 body_fits (unplaced total (length bytes) (length a.0.1) (whole_body a.0.0) b.0 b.1) in
    let whole : bytes ≡ entry_text b.0 ++ a.0.1 = t.parts ∙ ap (λ (r : List ℕ). byte_list r ++ a.0.1) u.1 in
    subst (λ (y : Entry × List ℕ). (bytes ≡ entry_text y.0 ++ y.1) × FitsEntry y.0 × IsBytes y.1) (same_ok (b.0, a.0.1) x b.2) (whole, (u.0, subst IsSmall u.1 t.fits), t.rest_fits)

entry_long : (e : Entry) → 4 ≤ length (entry_text e)
entry_long e = omega (arith, length-append (little_bytes 4 (length (body_text e))) (body_text e), length-bytes_low_first 0 4 (length (body_text e)))

entries_take : (total k : ℕ) (bytes : List ℕ) (es : List Entry) → IsBytes bytes → length bytes ≤ k → entries_at total k bytes ≡ Ok es → (bytes ≡ flat_map entry_text es) × AllByRecursion FitsEntry es
unfolding entries_at
entries_take total k [] es fits le e = subst (λ (y : List Entry). ([] ≡ flat_map entry_text y) × AllByRecursion FitsEntry y) (same_ok [] es e) (refl, tt)
entries_take total zero (b ∷ bs) es fits le e = absurd (omega arith)
entries_take total (suc k) (b ∷ bs) es fits le e =
    let a = step_ok (record_at total (b ∷ bs)) (λ first. entries_at total k first.1 >>= λ others. Ok (first.0 ∷ others)) es e in
    let c = step_ok (entries_at total k a.0.1) (λ others. Ok (a.0.0 ∷ others)) es a.2 in
    let t = record_takes total (b ∷ bs) a.0 fits a.1 in
    let shorter : length a.0.1 ≤ k = omega (arith, entry_long a.0.0, length-append (entry_text a.0.0) a.0.1, ap length t.0) in
    let u = entries_take total k a.0.1 c.0 t.2 shorter c.1 in
    let whole : b ∷ bs ≡ flat_map entry_text (a.0.0 ∷ c.0) = t.0 ∙ ap (λ (r : List ℕ). entry_text a.0.0 ++ r) u.0 ∙ sym (flat_map-cons entry_text a.0.0 c.0) in
    subst (λ (y : List Entry). (b ∷ bs ≡ flat_map entry_text y) × AllByRecursion FitsEntry y) (same_ok (a.0.0 ∷ c.0) es c.2) (whole, (t.1, u.1))

record_again : (total : ℕ) (e : Entry) (rest : List ℕ) → FitsEntry e → record_at total (entry_text e ++ rest) ≡ Ok (e, rest)
unfolding record_at
record_again total e rest fits = rw (byte_list_again (body_text e) rest fits.1, whole_again e fits.0) refl

-- a list that isn't empty is a cons
entries_step : (total k : ℕ) (bytes : List ℕ) (e : Entry) (es : List Entry) (rest : List ℕ) → 0 < length bytes → record_at total bytes ≡ Ok (e, rest) → entries_at total k rest ≡ Ok es → entries_at total (suc k) bytes ≡ Ok (e ∷ es)
unfolding entries_at
entries_step total k [] e es rest some h t = absurd (omega arith)
entries_step total k (b ∷ bs) e es rest some h t = rw (h, t) refl

entries_none : (total k : ℕ) → entries_at total k [] ≡ Ok []
unfolding entries_at
entries_none total k = refl

entries_again : (total k : ℕ) (es : List Entry) → length es ≤ k → AllByRecursion FitsEntry es → entries_at total k (flat_map entry_text es) ≡ Ok es
entries_again total k [] le fits = entries_none total k
entries_again total zero (e ∷ es) le fits = absurd (omega arith)
entries_again total (suc k) (e ∷ es) le fits =
    let some : 0 < length (entry_text e ++ flat_map entry_text es) = omega (arith, entry_long e, length-append (entry_text e) (flat_map entry_text es)) in
    ap (entries_at total (suc k)) (flat_map-cons entry_text e es)
    ∙ entries_step total k (entry_text e ++ flat_map entry_text es) e es (flat_map entry_text es) some (record_again total e (flat_map entry_text es) fits.0) (entries_again total k es (omega arith) fits.1)

count_entries : (es : List Entry) → length es ≤ length (flat_map entry_text es)
count_entries [] = omega arith
count_entries (e ∷ es) = omega (arith, entry_long e, count_entries es, length-append (entry_text e) (flat_map entry_text es), ap length (flat_map-cons entry_text e es))

-- ---- files

args_row : IsRow [] (list_text byte_list) (FitsList IsSmall) (list_at byte_list_at)
args_row = list_row byte_list IsSmall byte_list_at byte_list_row

contents_take : (bytes : List ℕ) (x : List (List ℕ) × List Entry) → IsBytes bytes → contents_of bytes ≡ Ok x → IsFile bytes x.0 x.1
unfolding contents_of
contents_take bytes x fits e =
    let total = length bytes in
    let a = step_ok (after_magic total (codes "MVLOG001") bytes) (λ rest. unless_cut total (list_at byte_list_at rest) >>= λ args. entries_at total (length args.1) args.1 >>= λ entries. Ok (args.0, entries)) x e in
    let c = step_ok (unless_cut total (list_at byte_list_at a.0)) (λ args. entries_at total (length args.1) args.1 >>= λ entries. Ok (args.0, entries)) x a.2 in
    let d = step_ok (entries_at total (length c.0.1) c.0.1) (λ entries. Ok (c.0.0, entries)) x c.2 in
    let t = magic_takes total (codes "MVLOG001") bytes a.0 a.1 in
    let u = args_row.takes a.0 c.0.0 c.0.1 (rest_bytes (codes "MVLOG001") a.0 (subst IsBytes t fits)) (uncut total (list_at byte_list_at a.0) c.0 c.1) in
    let v = entries_take total (length c.0.1) c.0.1 d.0 u.rest_fits (omega arith) d.1 in
    let whole : bytes ≡ file_text c.0.0 d.0 = t ∙ ap (λ (r : List ℕ). codes "MVLOG001" ++ r) (u.parts ∙ ap (λ (r : List ℕ). list_text byte_list c.0.0 ++ r) v.0) in
    subst (λ (y : List (List ℕ) × List Entry). IsFile bytes y.0 y.1) (same_ok (c.0.0, d.0) x d.2) (record { fits = record { arguments = u.fits; each = v.1 }; text = whole })

magic_again : (total : ℕ) (rest : List ℕ) → after_magic total (codes "MVLOG001") (codes "MVLOG001" ++ rest) ≡ Ok rest
magic_again total rest = refl

contents_again : (args : List (List ℕ)) (entries : List Entry) → FitsFile args entries → contents_of (file_text args entries) ≡ Ok (args, entries)
unfolding contents_of
contents_again args entries fits =
    let bytes = file_text args entries in
    let total = length bytes in
    let tail : List ℕ = flat_map entry_text entries in
    let front : List ℕ = list_text byte_list args ++ tail in
    let listed : unless_cut total (list_at byte_list_at front) ≡ Ok (args, tail) = ap (λ (r : Result (List (List ℕ) × List ℕ) BodyFault). unless_cut total r) (list_again byte_list IsSmall byte_list_at byte_list_again args tail fits.arguments) in
    step_again (after_magic total (codes "MVLOG001") bytes) (λ rest. unless_cut total (list_at byte_list_at rest) >>= λ a. entries_at total (length a.1) a.1 >>= λ es. Ok (a.0, es)) front (magic_again total front)
    ∙ step_again (unless_cut total (list_at byte_list_at front)) (λ a. entries_at total (length a.1) a.1 >>= λ es. Ok (a.0, es)) (args, tail) listed
    ∙ step_again (entries_at total (length tail) tail) (λ es. Ok (args, es)) entries (entries_again total (length tail) entries (count_entries entries) fits.each)

limit_ok : (b : Bool) (r : Result (List (List ℕ) × List Entry) RecordFault) (x : List (List ℕ) × List Entry) → cond b (Err (fault Limit 0)) r ≡ Ok x → r ≡ Ok x
limit_ok true r x e = absurd cc
limit_ok false r x e = e

pub log_takes : (bytes : List ℕ) (x : List (List ℕ) × List Entry) → IsBytes bytes → log_of bytes ≡ Ok x → IsFile bytes x.0 x.1
log_takes bytes x fits e = contents_take bytes x fits (limit_ok (ltb file_limit (length bytes)) (contents_of bytes) x e)

pub file_again : (bytes : List ℕ) (args : List (List ℕ)) (entries : List Entry) → IsFile bytes args entries → contents_of bytes ≡ Ok (args, entries)
file_again bytes args entries file = ap contents_of file.text ∙ contents_again args entries file.fits

pub log_again : (bytes : List ℕ) (args : List (List ℕ)) (entries : List Entry) → IsFile bytes args entries → length bytes ≤ file_limit → log_of bytes ≡ Ok (args, entries)
log_again bytes args entries file le = let small : ltb file_limit (length bytes) ≡ false = le-ltb _ _ le in rw small (file_again bytes args entries file)

pub is_found : {X : Type 0} (view : X → List (List ℕ) × List Entry) (bytes : List ℕ) (r : Result X (Or RecordFault)) → IsBytes bytes → Gives view r (log_of bytes) → IfOk r (λ x. IsFile bytes (view x).0 (view x).1)
is_found view bytes (Ok x) fits given = log_takes bytes (view x) fits given
is_found view bytes (Err e) fits given = tt

-- two readings of a file are one
pub one_log : (bytes : List ℕ) (args others : List (List ℕ)) (entries more : List Entry) → IsFile bytes args entries → IsFile bytes others more → (args ≡ others) × (entries ≡ more)
one_log bytes args others entries more file other =
    let same : (args, entries) ≡ (others, more) = same_ok (args, entries) (others, more) (sym (file_again bytes args entries file) ∙ file_again bytes others more other) in
    (ap (λ (x : List (List ℕ) × List Entry). x.0) same, ap (λ (x : List (List ℕ) × List Entry). x.1) same)

-- ---- what fits tells another call or an end at each Mismatch

told : (got : Event) → FitsGot got → IsTold got
told (event.Calls call) fits = tt
told event.Point fits = absurd fits
told (event.Ends code) fits = tt
told (event.Traps trap) fits = absurd fits

told_cause : (c : Cause) → FitsCause c → IsToldCause c
told_cause (cause.Trap k trap) fits = tt
told_cause (cause.Mismatch k want got) fits = told got fits.2
told_cause (cause.Refused fault) fits = tt
told_cause (cause.Rules side fault) fits = tt
told_cause (cause.Order n) fits = tt
told_cause cause.Memory fits = tt

told_mark : (m : Mark) → FitsMark m → IsToldMark m
told_mark (mark.Fork update) fits = tt
told_mark (mark.NoCopy update) fits = tt
told_mark (mark.Hand why) fits = tt
told_mark mark.Promote fits = tt
told_mark mark.Over fits = tt
told_mark mark.Back fits = tt
told_mark mark.Finish fits = tt
told_mark (mark.Discard cause) fits = told_cause cause fits
told_mark (mark.Dropped cause) fits = told_cause cause fits
told_mark (mark.End how) fits = tt

told_entry : (e : Entry) → FitsBody e → IsToldEntry e
told_entry (entry.Call item) fits = tt
told_entry entry.Point fits = tt
told_entry (entry.Order text reply) fits = tt
told_entry (entry.Mark mark) fits = told_mark mark fits

told_each : (entries : List Entry) → AllByRecursion FitsEntry entries → AllByRecursion IsToldEntry entries
told_each [] fits = tt
told_each (e ∷ es) fits = (told_entry e fits.0.0, told_each es fits.1)

pub can_be_written : (bytes : List ℕ) (args : List (List ℕ)) (entries : List Entry) → IsFile bytes args entries → AllByRecursion IsToldEntry entries
can_be_written bytes args entries file = told_each entries file.fits.each
