-- A call of the outside was judged before it was made: what an answer to it writes and reads is in bounds.
use Rattle.std.proofs.Common.{true, false, Bool, ◌&&◌, ◌≡◌, ℕ, zero, suc, ◌+◌, ◌*◌, ◌<◌, ◌≤◌, List, [], ◌∷◌, length, get_or, Option, Some, None, refl, sym, ap, ◌∙◌, subst, arith}
use Rattle.std.specs.Prelude.{◌%◌, ◌^◌, ◌==◌, ◌||◌, nat_lt, take, min}
use Rattle.std.proofs.lemmas.Bool.{leb-true, ltb-false}
use Rattle.mv_calls.specs.declared.subs.Sub.{Sub}
use Rattle.mv_calls.specs.declared.calls.Call.{Call}
use Rattle.mv_calls.specs.declared.calls.Call.TheVariants as call
use Rattle.mv_syntax.specs.Sections.{Parts}
use Rattle.mv_memory.specs.Memory.{Contents, disowned}
use Rattle.mv_execution.specs.Config.{Config}
use Rattle.mv_execution.specs.Instance.{with_memory}
use Rattle.mv_machine.specs.Executions.{Execution}
use Rattle.mv_imports.specs.declared.function.HostFunction.{HostFunction}
use Rattle.mv_imports.specs.declared.function.HostFunction.TheVariants as function
use Rattle.mv_wasi.specs.declared.made.LiveOp.TheVariants.{Pages}
use Rattle.mv_wasi.specs.declared.made.Made.{Made}
use Rattle.mv_wasi.specs.declared.made.Made.TheVariants.{Outside, Local, Live}
use Rattle.mv_wasi.specs.Ranges.{is_within, are_within, vector_limit, transfer_limit, pieces, pieces_are_within, total, joined, text_size}
use Rattle.mv_wasi.specs.Polls.{sub_at, subs_at, joins}
use Rattle.mv_wasi.specs.Decoding.{checked, polled, decoded}
use Rattle.mv_wasi.specs.Answers.{written_ranges}
use Rattle.mv_wasi.specs.Machines.{function_at, argument_at, made_at}
use Rattle.mv_wasi.specs.Known.{IsMadeThere, IsWaitingFor}
use Rattle.mv_wasi.specs.Readies.{HasArray, HasInput, LieWithin, HasRoomFor}

-- ---- tests

and-both : (a b : Bool) → a && b ≡ true → (a ≡ true) × (b ≡ true)
and-both true b e = (refl, e)
and-both false b e = absurd (let bad : false ≡ true = e in cc)

or-none : (a b : Bool) → a || b ≡ false → b ≡ false
or-none true b e = absurd (let bad : true ≡ false = e in cc)
or-none false b e = e

inside : (m : List ℕ) (place len : ℕ) → is_within m place len ≡ true → place + len ≤ length m
inside m place len e = leb-true (place + len) (length m) e

pub pieces-inside : (m : List ℕ) (xs : List (ℕ × ℕ)) → are_within m xs ≡ true → LieWithin m xs
unfolding are_within
pieces-inside m [] e = tt
pieces-inside m (x ∷ xs) e =
    let both = and-both (is_within m x.0 x.1) (are_within m xs) e in
    (inside m x.0 x.1 both.0, pieces-inside m xs both.1)

-- ---- ranges

-- one of them
pub range-lies : (m : List ℕ) (xs : List (ℕ × ℕ)) (i : ℕ) (d : ℕ × ℕ) → i < length xs → LieWithin m xs → (get_or xs i d).0 + (get_or xs i d).1 ≤ length m
range-lies m [] i d lt h = absurd (omega arith)
range-lies m (x ∷ xs) zero d lt h = h.0
range-lies m (x ∷ xs) (suc i) d lt h = range-lies m xs i d (omega arith) h.1

-- the pieces of the same bytes
pub pieces-lie : (m n : List ℕ) (iovs count : ℕ) (xs : List (ℕ × ℕ)) → n ≡ m → xs ≡ pieces n iovs count → LieWithin m (pieces m iovs count) → LieWithin n xs
pieces-lie m n iovs count xs same are h =
    subst (LieWithin n) (sym are) (subst (λ z. LieWithin z (pieces z iovs count)) (sym same) h)

-- ---- what was judged

-- a call that was made is refused for nothing, and its ranges are in bounds
record IsJudged (refused within : Bool) (made : Made) (c : Call) : Type 0 where
  allowed : refused ≡ false
  inside : within ≡ true
  becomes : made ≡ Outside c

judged : (m left : List ℕ) (refused within : Bool) (made : Made) (c : Call) → (checked m refused within (made, left)).0 ≡ Outside c → IsJudged refused within made c
judged m left true within made c e = absurd (cc)
judged m left false true made c e = record { allowed = refl; inside = refl; becomes = e }
judged m left false false made c e = absurd (cc)

joins-some : (o : Option Sub) (more : Option (List Sub)) (all : List Sub) → joins o more ≡ Some all → (rest : List Sub) × (more ≡ Some rest) × (length all ≡ length rest + 1)
joins-some None more all e = absurd (cc)
joins-some (Some sub) None all e = absurd (cc)
joins-some (Some sub) (Some rest) all e =
    let same : sub ∷ rest ≡ all = cc in
    (rest, refl, sym (ap length same) ∙ (let k : length (sub ∷ rest) ≡ length rest + 1 = omega arith in k))

-- there are as many subscriptions as were asked for
subs-count : (m : List ℕ) (place count : ℕ) (all : List Sub) → subs_at m place count ≡ Some all → length all ≡ count
unfolding subs_at
subs-count m place zero all e = let same : [] ≡ all = cc in sym (ap length same)
subs-count m place (suc count) all e =
    let k = joins-some (sub_at m place) (subs_at m (place + 48) count) all e in
    let h : length k.0 ≡ count = subs-count m (place + 48) count k.0 k.1 in
    omega (arith, k.2, h)

-- what the code judges of a read
pieces-judged : (memory : Contents) (iovs count result_at : ℕ) → count ≤ vector_limit → pieces_are_within memory.bytes iovs count result_at ≡ true → HasArray memory iovs 8 count × LieWithin memory.bytes ((result_at, 4) ∷ pieces memory.bytes iovs count)
pieces-judged memory iovs count result_at few e =
    let m : List ℕ = memory.bytes in
    let first = and-both (is_within m result_at 4) (is_within m iovs (8 * count) && are_within m (pieces m iovs count)) e in
    let then = and-both (is_within m iovs (8 * count)) (are_within m (pieces m iovs count)) first.1 in
    (record { few = few; within = inside m iovs (8 * count) then.0 }, (inside m result_at 4 first.0, pieces-inside m (pieces m iovs count) then.1))

-- ---- by the function that makes the call

module _ (memory : Contents) where
  abbrev Inputs : Call → ℕ → ℕ → ℕ → ℕ → Type 0
  Inputs (call.Read fd cap) a b c d = HasArray memory b 8 c
  Inputs (call.Poll subs) a b c d = HasArray memory a 48 (length subs)
  Inputs k a b c d = Unit {0}

  record Lies (a b c d : ℕ) (k : Call) : Type 0 where
    outputs : LieWithin memory.bytes (written_ranges k a b c d memory.bytes)
    input : Inputs k a b c d

  along : (a b c d : ℕ) (mine k : Call) → Outside mine ≡ Outside k → Lies a b c d mine → Lies a b c d k
  along a b c d mine k e h = let same : mine ≡ k = cc in subst (Lies a b c d) same h

  read-lies : (fd iovs count result_at cap : ℕ) → nat_lt vector_limit count ≡ false → pieces_are_within memory.bytes iovs count result_at ≡ true → Lies fd iovs count result_at (call.Read fd cap)
  read-lies fd iovs count result_at cap few e =
      let k = pieces-judged memory iovs count result_at (ltb-false vector_limit count few) e in
      record { outputs = k.1; input = k.0 }

  write-lies : (fd iovs count result_at : ℕ) (bytes : List ℕ) → pieces_are_within memory.bytes iovs count result_at ≡ true → Lies fd iovs count result_at (call.Write fd bytes)
  write-lies fd iovs count result_at bytes e =
      let m : List ℕ = memory.bytes in
      let first = and-both (is_within m result_at 4) (is_within m iovs (8 * count) && are_within m (pieces m iovs count)) e in
      record { outputs = (inside m result_at 4 first.0, tt); input = tt }

  subs-lie : (subs events count result_at : ℕ) (all : List Sub) → length all ≡ count → (count == 0 || nat_lt vector_limit count) ≡ false → (is_within memory.bytes result_at 4 && (is_within memory.bytes subs (48 * count) && is_within memory.bytes events (32 * count))) ≡ true → Lies subs events count result_at (call.Poll all)
  subs-lie subs events count result_at all size few e =
      let m : List ℕ = memory.bytes in
      let first = and-both (is_within m result_at 4) (is_within m subs (48 * count) && is_within m events (32 * count)) e in
      let then = and-both (is_within m subs (48 * count)) (is_within m events (32 * count)) first.1 in
      let most : count ≤ vector_limit = ltb-false vector_limit count (or-none (count == 0) (nat_lt vector_limit count) few) in
      let array : subs + 48 * count ≤ length m = inside m subs (48 * count) then.0 in
      let room : events + 32 * count ≤ length m = inside m events (32 * count) then.1 in
      record {
        outputs = (inside m result_at 4 first.0, (omega (arith, size, room), tt));
        input = record { few = omega (arith, size, most); within = omega (arith, size, array) };
      }

  poll-lies : (subs events count result_at : ℕ) (o : Option (List Sub)) (k : Call) → subs_at memory.bytes subs count ≡ o → (count == 0 || nat_lt vector_limit count) ≡ false → (is_within memory.bytes result_at 4 && (is_within memory.bytes subs (48 * count) && is_within memory.bytes events (32 * count))) ≡ true → polled o ≡ Outside k → Lies subs events count result_at k
  poll-lies subs events count result_at None k is few e made = absurd (cc)
  poll-lies subs events count result_at (Some all) k is few e made =
      along subs events count result_at (call.Poll all) k made (subs-lie subs events count result_at all (subs-count memory.bytes subs count all is) few e)

  lies : (f : HostFunction) (a b c d : ℕ) (texts : List (List ℕ)) (k : Call) → (decoded f a b c d texts memory.bytes).0 ≡ Outside k → Lies a b c d k
  lies function.FdRead a b c d texts k h =
      let m : List ℕ = memory.bytes in
      let cap : ℕ = min (total (pieces m b c)) transfer_limit in
      let j = judged m m (nat_lt vector_limit c) (pieces_are_within m b c d) (Outside (call.Read a cap)) k h in
      along a b c d (call.Read a cap) k j.becomes (read-lies a b c d cap j.allowed j.inside)
  lies function.FdWrite a b c d texts k h =
      let m : List ℕ = memory.bytes in
      let bytes : List ℕ = take transfer_limit (joined m (pieces m b c)) in
      let j = judged m m (nat_lt vector_limit c) (pieces_are_within m b c d) (Outside (call.Write a bytes)) k h in
      along a b c d (call.Write a bytes) k j.becomes (write-lies a b c d bytes j.inside)
  lies function.FdClose a b c d texts k h = along a b c d (call.Close a) k h (record { outputs = tt; input = tt })
  lies function.FdFdstatGet a b c d texts k h =
      let m : List ℕ = memory.bytes in
      let j = judged m m false (is_within m b 24) (Outside (call.FdStat a)) k h in
      along a b c d (call.FdStat a) k j.becomes (record { outputs = (inside m b 24 j.inside, tt); input = tt })
  lies function.SchedYield a b c d texts k h = along a b c d call.Yield k h (record { outputs = tt; input = tt })
  lies function.ClockTimeGet a b c d texts k h =
      let m : List ℕ = memory.bytes in
      let j = judged m m (nat_lt 1 a) (is_within m c 8) (Outside (call.Clock a)) k h in
      along a b c d (call.Clock a) k j.becomes (record { outputs = (inside m c 8 j.inside, tt); input = tt })
  lies function.RandomGet a b c d texts k h =
      let m : List ℕ = memory.bytes in
      let j = judged m m (nat_lt transfer_limit b) (is_within m a b) (Outside (call.Random b)) k h in
      along a b c d (call.Random b) k j.becomes (record { outputs = (inside m a b j.inside, tt); input = tt })
  lies function.PollOneoff a b c d texts k h =
      let m : List ℕ = memory.bytes in
      let j = judged m m (c == 0 || nat_lt vector_limit c) (is_within m d 4 && (is_within m a (48 * c) && is_within m b (32 * c))) (polled (subs_at m a c)) k h in
      poll-lies a b c d (subs_at m a c) k refl j.allowed j.inside j.becomes
  lies function.SockAccept a b c d texts k h =
      let m : List ℕ = memory.bytes in
      let j = judged m m false (is_within m c 4) (Outside (call.Accept a (b % 2 ^ 16))) k h in
      along a b c d (call.Accept a (b % 2 ^ 16)) k j.becomes (record { outputs = (inside m c 4 j.inside, tt); input = tt })
  lies function.SockShutdown a b c d texts k h =
      let m : List ℕ = memory.bytes in
      let j = judged m m (b == 0 || nat_lt 3 b) true (Outside (call.Shutdown a b)) k h in
      along a b c d (call.Shutdown a b) k j.becomes (record { outputs = tt; input = tt })
  lies function.ArgsSizesGet a b c d texts k h = let j = judged memory.bytes _ false (is_within memory.bytes a 4 && is_within memory.bytes b 4) (Local 0) k h in absurd (let bad : Local 0 ≡ Outside k = j.becomes in cc)
  lies function.ArgsGet a b c d texts k h = let j = judged memory.bytes _ false (is_within memory.bytes a (4 * length texts) && is_within memory.bytes b (text_size texts)) (Local 0) k h in absurd (let bad : Local 0 ≡ Outside k = j.becomes in cc)
  lies function.EnvironSizesGet a b c d texts k h = let j = judged memory.bytes _ false (is_within memory.bytes a 4 && is_within memory.bytes b 4) (Local 0) k h in absurd (let bad : Local 0 ≡ Outside k = j.becomes in cc)
  lies function.EnvironGet a b c d texts k h = let j = judged memory.bytes _ false (is_within memory.bytes a (4 * 0) && is_within memory.bytes b (text_size [])) (Local 0) k h in absurd (let bad : Local 0 ≡ Outside k = j.becomes in cc)
  lies function.FdSeek a b c d texts k h = absurd (cc)
  lies function.FdPrestatGet a b c d texts k h = absurd (cc)
  lies function.FdPrestatDirName a b c d texts k h = absurd (cc)
  lies function.ProcExit a b c d texts k h = absurd (cc)
  lies function.Point a b c d texts k h = absurd (cc)
  lies function.OldPages a b c d texts k h = absurd (cc)
  lies function.OldRead a b c d texts k h = absurd (cc)
  lies function.OldGlobal a b c d texts k h = absurd (cc)

-- ---- at a machine

input-is : (e : Execution) (k : Call) → Inputs e.config.store.memory k (argument_at e.parts e.config 0) (argument_at e.parts e.config 1) (argument_at e.parts e.config 2) (argument_at e.parts e.config 3) → HasInput e k
input-is e (call.Read fd cap) h = h
input-is e (call.Poll subs) h = h
input-is e k h = tt

-- a call that is made at the machine has its ranges in bounds
pub made-room : (e : Execution) (k : Call) → IsMadeThere e k → HasRoomFor e k
made-room e k h = by (function_at e.parts h.import) h.becomes
  where
    by : (o : Option HostFunction) → (elim o as (λ z. Made × List ℕ) [
      | None ↦ (Live Pages, e.config.store.memory.bytes)
      | Some g ↦ decoded g (argument_at e.parts e.config 0) (argument_at e.parts e.config 1) (argument_at e.parts e.config 2) (argument_at e.parts e.config 3) h.args e.config.store.memory.bytes
    ]).0 ≡ Outside k → HasRoomFor e k
    by None made = absurd (cc)
    by (Some g) made =
        let it = lies e.config.store.memory g (argument_at e.parts e.config 0) (argument_at e.parts e.config 1) (argument_at e.parts e.config 2) (argument_at e.parts e.config 3) h.args k made in
        record { outputs = it.outputs; input = input-is e k it.input }

-- ---- a machine that owns nothing any more

module _ (e n : Execution) (k : n ≡ record e { config = with_memory (disowned e.config.store.memory) e.config }) where
  pub waits-still : (f : HostFunction) → IsWaitingFor e f → IsWaitingFor n f
  waits-still f h = subst (λ z. IsWaitingFor z f) (sym k) (record { import = h.import; waits = h.waits; found = h.found; typed = h.typed })

  pub room-still : (c : Call) → IsMadeThere e c → HasRoomFor n c
  room-still c h = made-room n c (subst (λ z. IsMadeThere z c) (sym k) (record { args = h.args; import = h.import; waits = h.waits; becomes = h.becomes }))

-- ---- a call of the outside writes nothing when it is made

same-left : (m : List ℕ) (refused within : Bool) (made : Made) → (checked m refused within (made, m)).1 ≡ m
same-left m true within made = refl
same-left m false true made = refl
same-left m false false made = refl

none-left : (m left : List ℕ) (within : Bool) (errno : ℕ) (k : Call) → (checked m false within (Local errno, left)).0 ≡ Outside k → (checked m false within (Local errno, left)).1 ≡ m
none-left m left true errno k e = absurd (cc)
none-left m left false errno k e = absurd (cc)

decoded-kept : (f : HostFunction) (a b c d : ℕ) (texts : List (List ℕ)) (m : List ℕ) (k : Call) → (decoded f a b c d texts m).0 ≡ Outside k → (decoded f a b c d texts m).1 ≡ m
decoded-kept function.FdRead a b c d texts m k h = same-left m (nat_lt vector_limit c) (pieces_are_within m b c d) (Outside (call.Read a (min (total (pieces m b c)) transfer_limit)))
decoded-kept function.FdWrite a b c d texts m k h = same-left m (nat_lt vector_limit c) (pieces_are_within m b c d) (Outside (call.Write a (take transfer_limit (joined m (pieces m b c)))))
decoded-kept function.FdClose a b c d texts m k h = refl
decoded-kept function.FdFdstatGet a b c d texts m k h = same-left m false (is_within m b 24) (Outside (call.FdStat a))
decoded-kept function.SchedYield a b c d texts m k h = refl
decoded-kept function.ClockTimeGet a b c d texts m k h = same-left m (nat_lt 1 a) (is_within m c 8) (Outside (call.Clock a))
decoded-kept function.RandomGet a b c d texts m k h = same-left m (nat_lt transfer_limit b) (is_within m a b) (Outside (call.Random b))
decoded-kept function.PollOneoff a b c d texts m k h = same-left m (c == 0 || nat_lt vector_limit c) (is_within m d 4 && (is_within m a (48 * c) && is_within m b (32 * c))) (polled (subs_at m a c))
decoded-kept function.SockAccept a b c d texts m k h = same-left m false (is_within m c 4) (Outside (call.Accept a (b % 2 ^ 16)))
decoded-kept function.SockShutdown a b c d texts m k h = same-left m (b == 0 || nat_lt 3 b) true (Outside (call.Shutdown a b))
decoded-kept function.ArgsSizesGet a b c d texts m k h = none-left m _ (is_within m a 4 && is_within m b 4) 0 k h
decoded-kept function.ArgsGet a b c d texts m k h = none-left m _ (is_within m a (4 * length texts) && is_within m b (text_size texts)) 0 k h
decoded-kept function.EnvironSizesGet a b c d texts m k h = none-left m _ (is_within m a 4 && is_within m b 4) 0 k h
decoded-kept function.EnvironGet a b c d texts m k h = none-left m _ (is_within m a (4 * 0) && is_within m b (text_size [])) 0 k h
decoded-kept f a b c d texts m k h = refl

pub made-kept : (p : Parts) (args : List (List ℕ)) (x : ℕ) (c : Config) (k : Call) → (made_at p args x c).0 ≡ Outside k → (made_at p args x c).1 ≡ c.store.memory.bytes
made-kept p args x c k made = by (function_at p x) made
  where
    by : (o : Option HostFunction) → (elim o as (λ z. Made × List ℕ) [
      | None ↦ (Live Pages, c.store.memory.bytes)
      | Some g ↦ decoded g (argument_at p c 0) (argument_at p c 1) (argument_at p c 2) (argument_at p c 3) args c.store.memory.bytes
    ]).0 ≡ Outside k → (elim o as (λ z. Made × List ℕ) [
      | None ↦ (Live Pages, c.store.memory.bytes)
      | Some g ↦ decoded g (argument_at p c 0) (argument_at p c 1) (argument_at p c 2) (argument_at p c 3) args c.store.memory.bytes
    ]).1 ≡ c.store.memory.bytes
    by None e = refl
    by (Some g) e = decoded-kept g (argument_at p c 0) (argument_at p c 1) (argument_at p c 2) (argument_at p c 3) args c.store.memory.bytes k e
