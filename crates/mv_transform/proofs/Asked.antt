-- What a transformer asks, as the code finds it.
use Rattle.std.proofs.Common.{true, false, cond, Bool, ◌≡◌, ℕ, zero, suc, ◌<◌, List, [], ◌∷◌, length, Option, Some, None, refl, sym, ap, ◌∙◌, subst}
use Rattle.std.specs.Prelude.{◌==◌, ◌&&◌, ◌*◌, ◌%◌, ◌^◌, slice_get, nat_lt, min, take}
use Rattle.std.proofs.lemmas.Bool.{eqb-true}
use Rattle.mv_calls.specs.declared.trap.Trap.TheVariants as trap
use Rattle.mv_calls.specs.declared.calls.Call.TheVariants as call
use Rattle.mv_calls.specs.declared.subs.Sub.{Sub}
use Rattle.mv_syntax.specs.declared.module.Export.{Export}
use Rattle.mv_syntax.specs.Sections.{Parts}
use Rattle.mv_validator.specs.Valid.{IsValid, exported_count}
use Rattle.mv_execution.specs.Config.{Program, Config}
use Rattle.mv_execution.specs.Instance.{program_of}
use Rattle.mv_imports.specs.declared.function.HostFunction.{HostFunction}
use Rattle.mv_imports.specs.declared.function.HostFunction.TheVariants as function
use Rattle.mv_machine.specs.Executions.{Execution}
use Rattle.mv_wasi.specs.declared.made.Made.{Made}
use Rattle.mv_wasi.specs.declared.made.Made.TheVariants.{Outside, Local}
use Rattle.mv_memory.specs.Bytes.{written}
use Rattle.mv_wasi.specs.Ranges.{is_within, with_number, text_size, text_bytes, place_bytes, pieces, pieces_are_within, total, joined, vector_limit, transfer_limit}
use Rattle.mv_wasi.specs.Polls.{subs_at}
use Rattle.mv_wasi.specs.Decoding.{checked, polled, sizes_answered, texts_answered, decoded}
use Rattle.mv_wasi.specs.Machines.{function_at, argument_at, made_at}
use Rattle.mv_wasi.specs.Known.{AreKnown, IsWaitingFor}
use Rattle.mv_wasi.proofs.Decodes.{waiting-for, made-known}
use Rattle.mv_guest.specs.Standing.{Standing}
use Rattle.mv_transform.specs.Transforms.{Fails, exported_globals, met_made}
use Rattle.mv_transform.specs.Shown.{shown}

-- ---- exported globals

exported-there : (xs : List Export) (n v : ℕ) → slice_get (exported_globals xs) n ≡ Some v → (k : ℕ) × (x : Export) × (slice_get xs k ≡ Some x) × (x.kind ≡ 3) × (x.index ≡ v)
exported-there [] n v e = absurd (cc)
exported-there (x ∷ xs) n v e = by (λ m h. let r = exported-there xs m v h in (suc r.0, r.1, r.2, r.3, r.4)) n (x.kind == 3) refl e
  where
    by : ((m : ℕ) → slice_get (exported_globals xs) m ≡ Some v → (k : ℕ) × (y : Export) × (slice_get (x ∷ xs) k ≡ Some y) × (y.kind ≡ 3) × (y.index ≡ v)) → (i : ℕ) (b : Bool) → (x.kind == 3) ≡ b → slice_get (cond b (x.index ∷ exported_globals xs) (exported_globals xs)) i ≡ Some v → (k : ℕ) × (y : Export) × (slice_get (x ∷ xs) k ≡ Some y) × (y.kind ≡ 3) × (y.index ≡ v)
    by more zero true q h = (0, x, refl, eqb-true x.kind 3 q, cc)
    by more (suc i) true q h = more i h
    by more i false q h = more i h

counted-globals : (p : Parts) (i kind : ℕ) → kind ≡ 3 → i < exported_count p kind → i < length p.globals
counted-globals p i kind e lt = subst (λ k. i < exported_count p k) e lt

-- an exported global of a valid module is there
pub exported-within : (p : Parts) (xs : List Export) (n v : ℕ) → IsValid p → xs ≡ p.exports → slice_get (exported_globals xs) n ≡ Some v → v < length p.globals
exported-within p xs n v valid e h =
    let r = exported-there p.exports n v (subst (λ l. slice_get (exported_globals l) n ≡ Some v) e h) in
    subst (λ i. i < length p.globals) r.4 (counted-globals p r.1.index r.1.kind r.3 (valid.exports r.0 r.1 r.2))

-- ---- calls that are no questions

module _ (program : Program) (old : Standing) (c : Config) where
  checked-fails : (m : List ℕ) (refused within : Bool) (made : Made × List ℕ) → met_made program old c made.0 ≡ Fails trap.CallInTransform → met_made program old c (checked m refused within made).0 ≡ Fails trap.CallInTransform
  checked-fails m true within made h = refl
  checked-fails m false true made h = h
  checked-fails m false false made h = refl

  polled-fails : (o : Option (List Sub)) → met_made program old c (polled o) ≡ Fails trap.CallInTransform
  polled-fails None = refl
  polled-fails (Some subs) = refl

  sizes-fail : (m : List ℕ) (a b : ℕ) (texts : List (List ℕ)) → met_made program old c (sizes_answered a b texts m).0 ≡ Fails trap.CallInTransform
  sizes-fail m a b texts = checked-fails m false (is_within m a 4 && is_within m b 4) (Local 0, with_number b 4 (text_size texts % 2 ^ 32) (with_number a 4 (length texts % 2 ^ 32) m)) refl

  texts-fail : (m : List ℕ) (a b : ℕ) (texts : List (List ℕ)) → met_made program old c (texts_answered a b texts m).0 ≡ Fails trap.CallInTransform
  texts-fail m a b texts = checked-fails m false (is_within m a (4 * length texts) && is_within m b (text_size texts)) (Local 0, written (written m a (place_bytes b texts)) b (text_bytes texts)) refl

  other-fails : (f : HostFunction) → (f ≡ function.OldPages → ⊥) → (f ≡ function.OldRead → ⊥) → (f ≡ function.OldGlobal → ⊥) → (a b d e : ℕ) (texts : List (List ℕ)) (m : List ℕ) → met_made program old c (decoded f a b d e texts m).0 ≡ Fails trap.CallInTransform
  other-fails function.FdRead x y z a b d e texts m = checked-fails m (nat_lt vector_limit d) (pieces_are_within m b d e) (Outside (call.Read a (min (total (pieces m b d)) transfer_limit)), m) refl
  other-fails function.FdWrite x y z a b d e texts m = checked-fails m (nat_lt vector_limit d) (pieces_are_within m b d e) (Outside (call.Write a (take transfer_limit (joined m (pieces m b d)))), m) refl
  other-fails function.FdClose x y z a b d e texts m = refl
  other-fails function.FdFdstatGet x y z a b d e texts m = checked-fails m false (is_within m b 24) (Outside (call.FdStat a), m) refl
  other-fails function.SchedYield x y z a b d e texts m = refl
  other-fails function.ClockTimeGet x y z a b d e texts m = checked-fails m (nat_lt 1 a) (is_within m d 8) (Outside (call.Clock a), m) refl
  other-fails function.RandomGet x y z a b d e texts m = checked-fails m (nat_lt transfer_limit b) (is_within m a b) (Outside (call.Random b), m) refl
  other-fails function.PollOneoff x y z a b d e texts m = checked-fails m _ _ (polled (subs_at m a d), m) (polled-fails (subs_at m a d))
  other-fails function.SockAccept x y z a b d e texts m = checked-fails m false (is_within m d 4) _ refl
  other-fails function.SockShutdown x y z a b d e texts m = checked-fails m _ true (Outside (call.Shutdown a b), m) refl
  other-fails function.ArgsSizesGet x y z a b d e texts m = sizes-fail m a b texts
  other-fails function.ArgsGet x y z a b d e texts m = texts-fail m a b texts
  other-fails function.EnvironSizesGet x y z a b d e texts m = sizes-fail m a b []
  other-fails function.EnvironGet x y z a b d e texts m = texts-fail m a b []
  other-fails function.FdSeek x y z a b d e texts m = refl
  other-fails function.FdPrestatGet x y z a b d e texts m = refl
  other-fails function.FdPrestatDirName x y z a b d e texts m = refl
  other-fails function.ProcExit x y z a b d e texts m = refl
  other-fails function.Point x y z a b d e texts m = refl
  other-fails function.OldPages x y z a b d e texts m = absurd (x refl)
  other-fails function.OldRead x y z a b d e texts m = absurd (y refl)
  other-fails function.OldGlobal x y z a b d e texts m = absurd (z refl)

-- ---- the function that is called

-- which question it is
pub asks : (m : Execution) (x : ℕ) (o : Option HostFunction) (f g : HostFunction) → AreKnown m.parts → m.config.waiting ≡ Some x → o ≡ function_at m.parts x → o ≡ Some f → f ≡ g → IsWaitingFor m g
asks m x o f g known w e k same = waiting-for m x g known w (sym e ∙ k ∙ ap (λ (z : HostFunction). Some z) same)

pub other-call : (m old : Execution) (x : ℕ) (o : Option HostFunction) (f : HostFunction) → o ≡ function_at m.parts x → o ≡ Some f → (f ≡ function.OldPages → ⊥) → (f ≡ function.OldRead → ⊥) → (f ≡ function.OldGlobal → ⊥) → met_made (program_of m.parts) (shown old) m.config (made_at m.parts [] x m.config).0 ≡ Fails trap.CallInTransform
other-call m old x o f e k a b d =
    ap (λ (z : Made × List ℕ). met_made (program_of m.parts) (shown old) m.config z.0) (made-known m x [] f (sym e ∙ k))
    ∙ other-fails (program_of m.parts) (shown old) m.config f a b d (argument_at m.parts m.config 0) (argument_at m.parts m.config 1) (argument_at m.parts m.config 2) (argument_at m.parts m.config 3) [] m.config.store.memory.bytes
