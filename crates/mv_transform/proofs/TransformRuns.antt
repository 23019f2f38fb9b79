-- A transformer's run: how many stops are allowed doesn't matter, since each but the first has counted an instruction, and of
-- the old guest only its module and its configuration do.
use Rattle.std.proofs.Common.{true, false, cond, Bool, ◌≡◌, ℕ, zero, suc, ◌+◌, ◌-◌, ◌≤◌, List, [], ◌∷◌, Option, Some, None, refl, sym, ap, ◌∙◌, subst, arith}
use Rattle.std.specs.Prelude.{Result, Ok, Err, ◌&&◌, slice_range}
use Rattle.std.proofs.lemmas.Bool.{ne_eqb}
use Rattle.mv_calls.specs.Or.{IfFault}
use Rattle.mv_calls.specs.declared.fault.Or.{Or}
use Rattle.mv_calls.specs.declared.fault.Or.TheVariants.{Fault}
use Rattle.mv_calls.specs.declared.trap.Trap.{Trap}
use Rattle.mv_syntax.specs.declared.fault.BornFault.{BornFault}
use Rattle.mv_syntax.specs.declared.fault.BornFault.TheVariants.{Transform, Code}
use Rattle.mv_syntax.specs.Sections.{Parts}
use Rattle.mv_memory.specs.Bytes.{written}
use Rattle.mv_memory.specs.Memory.{page_count}
use Rattle.mv_execution.specs.Config.{Program, Config, gap_limit}
use Rattle.mv_execution.specs.Instance.{program_of}
use Rattle.mv_execution.specs.Run.{Stop, Import, Ended, Trapped, Fuel, IsStuck, run, answered}
use Rattle.mv_machine.specs.Executions.{Execution}
use Rattle.mv_start.specs.Instances.{ample}
use Rattle.mv_start.proofs.Gaps.{RisesFrom, RisesAt, run-rises}
use Rattle.mv_wasi.specs.declared.made.LiveOp.{LiveOp}
use Rattle.mv_wasi.specs.declared.made.LiveOp.TheVariants.{Pages, Read, Global}
use Rattle.mv_wasi.specs.declared.made.Made.{Made}
use Rattle.mv_wasi.specs.declared.made.Made.TheVariants.{Outside, Local, Point as AtPoint, Exit, Live}
use Rattle.mv_wasi.specs.Machines.{clean, made_at, with_bytes}
use Rattle.mv_wasi.specs.Ranges.{is_within}
use Rattle.mv_version.specs.declared.event.Event.TheVariants.{Point}
use Rattle.mv_guest.specs.Standing.{Standing}
use Rattle.mv_guest.proofs.EventLaws.{answered-waiting, answered-gap, needs, needs-few}
use Rattle.mv_transform.specs.Transforms.{Met, Finished, Fails, GoesOn, global_met, read_met, asked, old_global, met_made, met, finished, transformed_within, transformed}
use Rattle.mv_transform.specs.Shown.{shown, met_by}

-- ---- stops at which a transformer goes on

answered-goes : (program : Program) (results : List ℕ) (c d : Config) → GoesOn (answered program results c) ≡ GoesOn d → (d.waiting ≡ None) × (d.gap ≡ c.gap)
answered-goes program results c d e =
    let k : answered program results c ≡ d = cc in
    (sym (ap (λ (z : Config). z.waiting) k) ∙ answered-waiting program results c, sym (ap (λ (z : Config). z.gap) k) ∙ answered-gap program results c)

global-goes : (program : Program) (c : Config) (o : Option ℕ) (d : Config) → global_met program c o ≡ GoesOn d → (d.waiting ≡ None) × (d.gap ≡ c.gap)
global-goes program c None d e = absurd (cc)
global-goes program c (Some v) d e = answered-goes program (v ∷ []) c d e

read-goes : (program : Program) (old : Standing) (c : Config) (src dst len : ℕ) (d : Config) → read_met program old c src dst len ≡ GoesOn d → (d.waiting ≡ None) × (d.gap ≡ c.gap)
read-goes program old c src dst len d e = by (is_within old.config.store.memory.bytes src len && is_within c.store.memory.bytes dst len) e
  where
    by : (b : Bool) → cond b (GoesOn (answered program (0 ∷ []) (with_bytes (written c.store.memory.bytes dst (slice_range old.config.store.memory.bytes src (src + len))) c))) (GoesOn (answered program (1 ∷ []) c)) ≡ GoesOn d → (d.waiting ≡ None) × (d.gap ≡ c.gap)
    by true k = answered-goes program (0 ∷ []) (with_bytes (written c.store.memory.bytes dst (slice_range old.config.store.memory.bytes src (src + len))) c) d k
    by false k = answered-goes program (1 ∷ []) c d k

asked-goes : (program : Program) (old : Standing) (c : Config) (op : LiveOp) (d : Config) → asked program old c op ≡ GoesOn d → (d.waiting ≡ None) × (d.gap ≡ c.gap)
asked-goes program old c Pages d e = answered-goes program (page_count old.config.store.memory ∷ []) c d e
asked-goes program old c (Read src dst len) d e = read-goes program old c src dst len d e
asked-goes program old c (Global n) d e = global-goes program c (old_global old n) d e

made-goes : (program : Program) (old : Standing) (c : Config) (made : Made) (d : Config) → met_made program old c made ≡ GoesOn d → (d.waiting ≡ None) × (d.gap ≡ c.gap)
made-goes program old c (Outside call) d e = absurd (cc)
made-goes program old c (Local errno) d e = absurd (cc)
made-goes program old c AtPoint d e = absurd (cc)
made-goes program old c (Exit code) d e = absurd (cc)
made-goes program old c (Live op) d e = asked-goes program old c op d e

met-goes : (p : Parts) (old : Standing) (c : Config) (stop : Stop) (d : Config) → met p old (c, stop) ≡ GoesOn d → (x : ℕ) × (stop ≡ Import x) × (d.waiting ≡ None) × (d.gap ≡ c.gap)
met-goes p old c (Import x) d e = let k = made-goes (program_of p) old c (made_at p [] x c).0 d e in (x, refl, k.0, k.1)
met-goes p old c (Ended results) d e = absurd (cc)
met-goes p old c (Trapped t) d e = absurd (cc)
met-goes p old c Fuel d e = absurd (cc)
met-goes p old c IsStuck d e = absurd (cc)

-- ---- how many stops there are at most

abbrev for_waiting : Option ℕ → ℕ
for_waiting None = 1
for_waiting (Some x) = 2

needs-is : (c : Config) → needs c ≡ gap_limit - c.gap + for_waiting c.waiting
needs-is c = by c.waiting refl
  where
    by : (w : Option ℕ) → c.waiting ≡ w → needs c ≡ gap_limit - c.gap + for_waiting w
    by None e = ap (λ w. needs (record c { waiting = w })) e
    by (Some x) e = ap (λ w. needs (record c { waiting = w })) e

needs-some : (c : Config) → 1 ≤ needs c
needs-some c = by c.waiting (needs-is c)
  where
    by : (w : Option ℕ) → needs c ≡ gap_limit - c.gap + for_waiting w → 1 ≤ needs c
    by None e = omega (arith, e)
    by (Some x) e = omega (arith, e)

fewer-from : (w : Option ℕ) (before after : ℕ) → RisesFrom w before after → gap_limit - after + 1 + 1 ≤ gap_limit - before + for_waiting w
fewer-from None before after h = omega (arith, h.0, h.1)
fewer-from (Some x) before after h = omega (arith, h)

fewer : (p : Parts) (old : Standing) (c d : Config) → met p old (run (program_of p) ample c) ≡ GoesOn d → needs d + 1 ≤ needs c
fewer p old c d e =
    let r = run (program_of p) ample c in
    let k = met-goes p old r.0 r.1 d e in
    let h : RisesFrom c.waiting c.gap r.0.gap = subst (λ s. RisesAt c.waiting c.gap s r.0.gap) k.1 (run-rises (program_of p) ample c) in
    let w : for_waiting d.waiting ≡ 1 = ap for_waiting k.2 in
    omega (arith, fewer-from c.waiting c.gap r.0.gap h, w, k.3, needs-is c, needs-is d)

within-more : (p : Parts) (old : Standing) (n : ℕ) (c : Config) → needs c ≤ n → transformed_within p old (suc n) c ≡ transformed_within p old n c
unfolding transformed_within
within-more p old zero c le = absurd (omega (arith, needs-some c, le))
within-more p old (suc m) c le = by (λ d h. within-more p old m d h) (met p old (run (program_of p) ample c)) refl
  where
    by : ((d : Config) → needs d ≤ m → transformed_within p old (suc m) d ≡ transformed_within p old m d) → (o : Met) → met p old (run (program_of p) ample c) ≡ o → elim o as (λ z. Result Config BornFault) [ Finished d code ↦ finished d code | Fails t ↦ Err (Transform t) | GoesOn d ↦ transformed_within p old (suc m) d ] ≡ elim o as (λ z. Result Config BornFault) [ Finished d code ↦ finished d code | Fails t ↦ Err (Transform t) | GoesOn d ↦ transformed_within p old m d ]
    by more (Finished d code) e = refl
    by more (Fails t) e = refl
    by more (GoesOn d) e = more d (omega (arith, fewer p old c d e, le))

-- ---- the whole run by its first stop

module _ (p : Parts) (old : Standing) where
  first-stop : (c : Config) (o : Met) → met p old (run (program_of p) ample c) ≡ o → transformed p old c ≡ elim o as (λ z. Result Config BornFault) [ Finished d code ↦ finished d code | Fails t ↦ Err (Transform t) | GoesOn d ↦ transformed_within p old (gap_limit + 1) d ]
  unfolding transformed_within
  first-stop c o e =
      ap (λ o. elim o as (λ z. Result Config BornFault) [ Finished d code ↦ finished d code | Fails t ↦ Err (Transform t) | GoesOn d ↦ transformed_within p old (gap_limit + 1) d ]) e

  pub run-goes : (c d : Config) (o : Option ℕ) → met p old (run (program_of p) ample c) ≡ met_by o d → o ≡ None → transformed p old c ≡ transformed p old d
  run-goes c d o e none =
      let k : met p old (run (program_of p) ample c) ≡ GoesOn d = e ∙ ap (λ z. met_by z d) none in
      first-stop c (GoesOn d) k ∙ sym (within-more p old (gap_limit + 1) d (omega (arith, fewer p old c d k, needs-few c)))

  pub run-fewer : (c d : Config) (o : Option ℕ) → met p old (run (program_of p) ample c) ≡ met_by o d → o ≡ None → needs d + 1 ≤ needs c
  run-fewer c d o e none = fewer p old c d (e ∙ ap (λ z. met_by z d) none)

  -- no call waits behind an answer
  pub run-answered : (c d : Config) (o : Option ℕ) → met p old (run (program_of p) ample c) ≡ met_by o d → o ≡ None → d.waiting ≡ None
  run-answered c d o e none = (met-goes p old (run (program_of p) ample c).0 (run (program_of p) ample c).1 d (e ∙ ap (λ z. met_by z d) none)).2

  pub run-finishes : (c d : Config) (o : Option ℕ) (code : ℕ) → met p old (run (program_of p) ample c) ≡ met_by o d → o ≡ Some code → transformed p old c ≡ finished d code
  run-finishes c d o code e some = first-stop c (Finished d code) (e ∙ ap (λ z. met_by z d) some)

  pub run-fails : (c : Config) (t : Trap) → met p old (run (program_of p) ample c) ≡ Fails t → transformed p old c ≡ Err (Transform t)
  run-fails c t e = first-stop c (Fails t) e

-- ---- in a loop

module _ (p q : Parts) (old : Standing) (same : q ≡ p) (first c : Config) (so_far : transformed p old first ≡ transformed p old c) where
  here : (met_with : Met) → met q old (run (program_of q) ample c) ≡ met_with → met p old (run (program_of p) ample c) ≡ met_with
  here met_with e = subst (λ z. met z old (run (program_of z) ample c) ≡ met_with) same e

  pub loop-goes : (d : Config) (o : Option ℕ) → met q old (run (program_of q) ample c) ≡ met_by o d → o ≡ None → transformed p old first ≡ transformed p old d
  loop-goes d o e none = so_far ∙ run-goes p old c d o (here (met_by o d) e) none

  pub loop-finishes : (d : Config) (o : Option ℕ) (code : ℕ) → met q old (run (program_of q) ample c) ≡ met_by o d → o ≡ Some code → transformed p old first ≡ finished d code
  loop-finishes d o code e some = so_far ∙ run-finishes p old c d o code (here (met_by o d) e) some

  pub loop-fails : (o : Or Trap) (t : Trap) → IfFault {T = Option ℕ} {E = Trap} (Err o) (λ f. met q old (run (program_of q) ample c) ≡ Fails f) → o ≡ Fault t → transformed p old first ≡ Err (Transform t)
  loop-fails o t e f = so_far ∙ run-fails p old c t (here (Fails t) (subst (λ z. IfFault {T = Option ℕ} {E = Trap} (Err z) (λ g. met q old (run (program_of q) ample c) ≡ Fails g)) f e))

-- a code other than 0
pub other-code : (d : Config) (code : ℕ) → (code ≡ 0 → ⊥) → finished d code ≡ Err (Code code)
other-code d code h = ap (λ b. cond b (Ok d) (Err (Code code))) (ne_eqb code 0 h)

-- ---- what it depends on

abbrev core : Parts → Config → Standing
core q c = record { parts = q; args = []; config = c; event = Point; ready = false }

within-core : (p : Parts) (old : Standing) (n : ℕ) (c : Config) → transformed_within p old n c ≡ transformed_within p (core old.parts old.config) n c
unfolding transformed_within
within-core p old zero c = refl
within-core p old (suc n) c = by (λ d. within-core p old n d) (met p old (run (program_of p) ample c))
  where
    by : ((d : Config) → transformed_within p old n d ≡ transformed_within p (core old.parts old.config) n d) → (o : Met) → elim o as (λ z. Result Config BornFault) [ Finished d code ↦ finished d code | Fails t ↦ Err (Transform t) | GoesOn d ↦ transformed_within p old n d ] ≡ elim o as (λ z. Result Config BornFault) [ Finished d code ↦ finished d code | Fails t ↦ Err (Transform t) | GoesOn d ↦ transformed_within p (core old.parts old.config) n d ]
    by more (Finished d code) = refl
    by more (Fails t) = refl
    by more (GoesOn d) = more d

-- a machine that stands where the old guest does shows the same
pub run-shown : (p : Parts) (old : Standing) (m : Execution) (c : Config) → m.parts ≡ old.parts → clean m.config ≡ old.config → transformed p (shown m) c ≡ transformed p old c
run-shown p old m c q k =
    ap (λ z. transformed p (core z (clean m.config)) c) q ∙ ap (λ z. transformed p (core old.parts z) c) k ∙ sym (within-core p old (gap_limit + 2) c)
