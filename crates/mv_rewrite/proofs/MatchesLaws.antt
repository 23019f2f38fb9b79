-- Each binding under which a left side matches is found.
use Rattle.std.specs.Prelude.{◌≡◌, ◌⊎◌, ℕ, ◌==◌, nat_eq, nat_le, ◌+◌, Bool, true, false, List, [], ◌∷◌, ◌++◌, length, take, drop, Option, Some, None, option_and_then, unwrap_or, if◌then◌else◌, refl}
use Rattle.std.specs.Option.{option_map}
use Rattle.std.specs.Str.{bytes_eq}
use Rattle.std.proofs.Common.{sym, ◌∙◌, ap, subst, arith, inl, inr, eq-eqb}
use Rattle.std.proofs.lemmas.List.{append-nil, take_at, drop_at, length-append}
use Rattle.std.proofs.lemmas.Bool.Decides.{nat_tests}
use Rattle.std.proofs.lemmas.Slice.Eq.{bytes_eq-Decides}
use Rattle.mv_calls.specs.declared.calls.Call.{Call}
use Rattle.mv_calls.specs.declared.calls.Call.TheVariants as calls
use Rattle.mv_calls.specs.declared.calls.Reply.{Reply}
use Rattle.mv_calls.specs.declared.calls.Reply.TheVariants as replies
use Rattle.mv_rules.specs.declared.rule.FdTerm.{FdTerm}
use Rattle.mv_rules.specs.declared.rule.FdTerm.TheVariants as fds
use Rattle.mv_rules.specs.declared.rule.TimeTerm.{TimeTerm}
use Rattle.mv_rules.specs.declared.rule.TimeTerm.TheVariants as times
use Rattle.mv_rules.specs.declared.rule.Part.{Part}
use Rattle.mv_rules.specs.declared.rule.Part.TheVariants.{Text, Sized, Named, Length}
use Rattle.mv_rules.specs.declared.rule.Pattern.{Pattern}
use Rattle.mv_rules.specs.declared.rule.Pattern.TheVariants as patterns
use Rattle.mv_rewrite.specs.Bound.{Bound, unbound}
use Rattle.mv_rewrite.specs.Matching.{value_of, bind_found, bind, bind_fd, bind_time, bind_bytes, bind_part, bind_parts, only_if, bind_item, fd_value, time_value, bytes_value, made_of, trimmed}
use Rattle.mv_rules.specs.Names.{parts_in}
use Rattle.mv_rewrite.specs.Matches.{Agrees, HaveValues, PartsHold}

pushed_at : {V : Type 0} (test : Bool) (first : V) (rest longer : Option V) (v : V) (P : Type 0)
    → (longer ≡ Some v → (rest ≡ Some v) ⊎ P)
    → (if test then Some first else longer) ≡ Some v → ((if test then Some first else rest) ≡ Some v) ⊎ P
pushed_at true first rest longer v P others h = inl h
pushed_at false first rest longer v P others h = others h

only_at : {V : Type 0} (name other : List ℕ) (u v : V) (test : Bool) → bytes_eq name other ≡ test → (if test then Some u else None) ≡ Some v → (name ≡ other) × (u ≡ v)
only_at name other u v true t h = ((bytes_eq-Decides name other).0 t, cc)
only_at name other u v false t h = cc

pushed : {V : Type 0} (entries : List (List ℕ × V)) (name other : List ℕ) (u v : V) → value_of other (entries ++ (name, u) ∷ []) ≡ Some v
    → (value_of other entries ≡ Some v) ⊎ ((name ≡ other) × (u ≡ v))
pushed [] name other u v h = inr (only_at name other u v (bytes_eq name other) refl h)
pushed {V} (e ∷ entries) name other u v h =
    pushed_at (bytes_eq e.0 other) e.1 (value_of other entries) (value_of other (entries ++ (name, u) ∷ [])) v ((name ≡ other) × (u ≡ v)) (pushed entries name other u v) h

-- binding a name to its value succeeds
abbrev pub Found : {V : Type 0} → Option (List (List ℕ × V)) → (List ℕ → V) → Type 0
Found {V} bound value = (new : List (List ℕ × V)) × (bound ≡ Some new) × HaveValues new value

found_by : {V : Type 0} (same : V → V → Bool) (alike : (v : V) → same v v ≡ true) (name : List ℕ) (old : List (List ℕ × V)) (value : List ℕ → V) (o : Option V)
    → value_of name old ≡ o → HaveValues old value → Found (bind_found same name (value name) old o) value
found_by {V} same alike name old value None is have = (
  old ++ (name, value name) ∷ [],
  refl,
  λ other v h.
      elim (pushed old name other (value name) v h) as (λ _. value other ≡ v) [ inl k ↦ have other v k | inr k ↦ ap value (sym k.0) ∙ k.1 ],
)
found_by {V} same alike name old value (Some bound) is have =
    let e : value name ≡ bound = have name bound is in
    let t : same bound (value name) ≡ true = subst (λ (v : V). same bound v ≡ true) (sym e) (alike bound) in
    (old, rw t refl, have)

bind_finds : {V : Type 0} (same : V → V → Bool) (alike : (v : V) → same v v ≡ true) (name : List ℕ) (v : V) (old : List (List ℕ × V)) (value : List ℕ → V)
    → value name ≡ v → HaveValues old value → Found (bind same name v old) value
bind_finds {V} same alike name v old value is have =
    subst (λ (u : V). Found (bind same name u old) value) is (found_by same alike name old value (value_of name old) refl have)

alike_numbers : (v : ℕ) → nat_eq v v ≡ true
alike_numbers v = eq-eqb v v refl

alike_bytes : (v : List ℕ) → bytes_eq v v ≡ true
alike_bytes v = (bytes_eq-Decides v v).1 refl

abbrev pub Goes : Option Bound → Bound → Type 0
Goes bound d = (c : Bound) × (bound ≡ Some c) × Agrees c d

fd_goes : (term : FdTerm) (fd : ℕ) (b d : Bound) → Agrees b d → fd_value term d ≡ fd → Goes (bind_fd term fd b) d
fd_goes (fds.Number number) fd b d agrees is =
    let t : (number == fd) ≡ true = eq-eqb number fd is in (b, rw t refl, agrees)
fd_goes (fds.Name name) fd b d agrees is =
    let f = bind_finds nat_eq alike_numbers name fd b.fds (λ n. unwrap_or (value_of n d.fds) 0) is agrees.fds in (
      record b { fds = f.0 },
      ap (λ (o : Option (List (List ℕ × ℕ))). option_map (λ entries. let r : Bound = record b { fds = entries } in r) o) f.1,
      record { fds = f.2; times = agrees.times; bytes = agrees.bytes },
    )

time_goes : (term : TimeTerm) (time : ℕ) (b d : Bound) → Agrees b d → time_value term d ≡ time → Goes (bind_time term time b) d
time_goes (times.Number number) time b d agrees is =
    let t : (number == time) ≡ true = eq-eqb number time is in (b, rw t refl, agrees)
time_goes (times.Name name) time b d agrees is =
    let f = bind_finds nat_eq alike_numbers name time b.times (λ n. unwrap_or (value_of n d.times) 0) is agrees.times in (
      record b { times = f.0 },
      ap (λ (o : Option (List (List ℕ × ℕ))). option_map (λ entries. let r : Bound = record b { times = entries } in r) o) f.1,
      record { fds = agrees.fds; times = f.2; bytes = agrees.bytes },
    )

bytes_go : (name value : List ℕ) (b d : Bound) → Agrees b d → unwrap_or (value_of name d.bytes) [] ≡ value → Goes (bind_bytes name value b) d
bytes_go name value b d agrees is =
    let f = bind_finds bytes_eq alike_bytes name value b.bytes (λ n. unwrap_or (value_of n d.bytes) []) is agrees.bytes in (
      record b { bytes = f.0 },
      ap (λ (o : Option (List (List ℕ × List ℕ))). option_map (λ entries. let r : Bound = record b { bytes = entries } in r) o) f.1,
      record { fds = agrees.fds; times = agrees.times; bytes = f.2 },
    )

-- ## Byte lists

after_part : (part : Part) (parts : List Part) (bytes rest : List ℕ) (b c d : Bound) → bind_part part bytes b ≡ Some (c, rest)
    → Goes (bind_parts parts rest c) d → Goes (bind_parts (part ∷ parts) bytes b) d
after_part part parts bytes rest b c d h g =
    (g.0, ap (λ (o : Option (Bound × List ℕ)). option_and_then (λ t. bind_parts parts t.1 t.0) o) h ∙ g.1, g.2)

with_rest : (rest : List ℕ) (o : Option Bound) (c : Bound) → o ≡ Some c → option_map (λ c. let t : Bound × List ℕ = (c, rest) in t) o ≡ Some (c, rest)
with_rest rest o c h = ap (λ (o : Option Bound). option_map (λ c. let t : Bound × List ℕ = (c, rest) in t) o) h

within : (count : ℕ) (value rest : List ℕ) → length value ≡ count → nat_le count (length (value ++ rest)) ≡ true
within count value rest h = let e : length (value ++ rest) ≡ length value + length rest = length-append value rest in grind (arith, nat_tests)

parts_go : (parts : List Part) (bytes : List ℕ) (b d : Bound) → Agrees b d → PartsHold d parts → bytes_value parts d ≡ bytes
    → Goes (bind_parts parts bytes b) d
parts_go [] bytes b d agrees hold is = subst (λ (k : List ℕ). Goes (bind_parts [] k b) d) is (b, refl, agrees)
parts_go (Text text ∷ parts) bytes b d agrees hold is =
    let rest = bytes_value parts d in
    let t : take (length text) (text ++ rest) ≡ text = take_at text rest (length text) refl in
    let u : drop (length text) (text ++ rest) ≡ rest = drop_at text rest (length text) refl in
    let a : bytes_eq text text ≡ true = alike_bytes text in
    let h : bind_part (Text text) (text ++ rest) b ≡ Some (b, rest) = rw (t, a, u) refl in
    subst (λ (k : List ℕ). Goes (bind_parts (Text text ∷ parts) k b) d) is
    (after_part (Text text) parts (text ++ rest) rest b b d h (parts_go parts rest b d agrees hold.1 refl))
parts_go (Sized name count ∷ parts) bytes b d agrees hold is =
    let rest = bytes_value parts d in
    let value = unwrap_or (value_of name d.bytes) [] in
    let l : nat_le count (length (value ++ rest)) ≡ true = within count value rest hold.0 in
    let t : take count (value ++ rest) ≡ value = take_at value rest count hold.0 in
    let u : drop count (value ++ rest) ≡ rest = drop_at value rest count hold.0 in
    let g = bytes_go name value b d agrees refl in
    let h : bind_part (Sized name count) (value ++ rest) b ≡ Some (g.0, rest) = rw (l, t, u) (with_rest rest (bind_bytes name value b) g.0 g.1) in
    subst (λ (k : List ℕ). Goes (bind_parts (Sized name count ∷ parts) k b) d) is
    (after_part (Sized name count) parts (value ++ rest) rest b g.0 d h (parts_go parts rest g.0 d g.2 hold.1 refl))
parts_go (Named name ∷ parts) bytes b d agrees hold is =
    let value = unwrap_or (value_of name d.bytes) [] in
    let n : value ++ [] ≡ bytes = ap (λ (k : List ℕ). value ++ k) (sym hold.0) ∙ is in
    let g = bytes_go name bytes b d agrees (sym (append-nil value) ∙ n) in
    let h : bind_part (Named name) bytes b ≡ Some (g.0, []) = with_rest [] (bind_bytes name bytes b) g.0 g.1 in
    after_part (Named name) parts bytes [] b g.0 d h (parts_go parts [] g.0 d g.2 hold.1 hold.0)
parts_go (Length name ∷ parts) bytes b d agrees hold is = absurd hold.0

-- ## Items

chain_goes : (f : Bound → Option Bound) (o : Option Bound) (d : Bound) → Goes o d → ((c : Bound) → Agrees c d → Goes (f c) d) → Goes (option_and_then f o) d
chain_goes f o d g next =
    let m = next g.0 g.2 in
    (m.0, ap (λ (o : Option Bound). option_and_then f o) g.1 ∙ m.1, m.2)

guard_goes : (m n : ℕ) (o : Option Bound) (d : Bound) → m ≡ n → Goes o d → Goes (only_if (m == n) o) d
guard_goes m n o d is g = let t : (m == n) ≡ true = eq-eqb m n is in rw t g

write_goes : (fd : FdTerm) (parts : List Part) (f : ℕ) (bytes : List ℕ) (b d : Bound) → Agrees b d → PartsHold d parts
    → fd_value fd d ≡ f → bytes_value parts d ≡ bytes → Goes (option_and_then (bind_parts parts bytes) (bind_fd fd f b)) d
write_goes fd parts f bytes b d agrees hold term is =
    chain_goes (bind_parts parts bytes) (bind_fd fd f b) d (fd_goes fd f b d agrees term) (λ c k. parts_go parts bytes c d k hold is)

abbrev call_made : Bound → Pattern → Call
call_made d pattern = (made_of d pattern).0

pub item_goes : (pattern : Pattern) (call : Call) (reply : Reply) (b d : Bound) → Agrees b d → PartsHold d (parts_in pattern) → (made_of d pattern).0 ≡ (trimmed call reply).0 → (made_of d pattern).1 ≡ (trimmed call reply).1
    → Goes (bind_item pattern call reply b) d
item_goes (patterns.Read fd parts) (calls.Read f most) (replies.Bytes bytes) b d agrees hold hc hr =
    write_goes fd parts f bytes b d agrees hold (cc) (cc)
item_goes (patterns.ReadErrno fd errno) (calls.Read f most) (replies.Errno e) b d agrees hold hc hr =
    guard_goes errno e (bind_fd fd f b) d (cc) (fd_goes fd f b d agrees (cc))
item_goes (patterns.Write fd parts) (calls.Write f bytes) (replies.Count count) b d agrees hold hc hr =
    let v : bytes_value parts d ≡ bytes = cc in
    let n : length (bytes_value parts d) ≡ count = cc in
    guard_goes count (length bytes) (option_and_then (bind_parts parts bytes) (bind_fd fd f b)) d (sym n ∙ ap length v) (write_goes fd parts f bytes b d agrees hold (cc) v)
item_goes (patterns.WriteErrno fd parts errno) (calls.Write f bytes) (replies.Errno e) b d agrees hold hc hr =
    guard_goes errno e (option_and_then (bind_parts parts bytes) (bind_fd fd f b)) d (cc) (write_goes fd parts f bytes b d agrees hold (cc) (cc))
item_goes (patterns.Accept listener flags made) (calls.Accept f k) (replies.Fd n) b d agrees hold hc hr =
    let m : fd_value made d ≡ n = cc in
    guard_goes flags k (option_and_then (bind_fd made n) (bind_fd listener f b)) d (cc)
    (chain_goes (bind_fd made n) (bind_fd listener f b) d (fd_goes listener f b d agrees (cc)) (λ c g. fd_goes made n c d g m))
item_goes (patterns.AcceptErrno listener flags errno) (calls.Accept f k) (replies.Errno e) b d agrees hold hc hr =
    guard_goes flags k (only_if (errno == e) (bind_fd listener f b)) d (cc) (guard_goes errno e (bind_fd listener f b) d (cc) (fd_goes listener f b d agrees (cc)))
item_goes (patterns.Close fd) (calls.Close f) replies.Done b d agrees hold hc hr = fd_goes fd f b d agrees (cc)
item_goes (patterns.CloseErrno fd errno) (calls.Close f) (replies.Errno e) b d agrees hold hc hr =
    guard_goes errno e (bind_fd fd f b) d (cc) (fd_goes fd f b d agrees (cc))
item_goes (patterns.Shutdown fd how) (calls.Shutdown f g) replies.Done b d agrees hold hc hr =
    guard_goes how g (bind_fd fd f b) d (cc) (fd_goes fd f b d agrees (cc))
item_goes (patterns.ShutdownErrno fd how errno) (calls.Shutdown f g) (replies.Errno e) b d agrees hold hc hr =
    guard_goes how g (only_if (errno == e) (bind_fd fd f b)) d (cc) (guard_goes errno e (bind_fd fd f b) d (cc) (fd_goes fd f b d agrees (cc)))
item_goes patterns.Yield calls.Yield replies.Done b d agrees hold hc hr = (b, refl, agrees)
item_goes (patterns.Clock id time) (calls.Clock i) (replies.Time u) b d agrees hold hc hr =
    guard_goes id i (bind_time time u b) d (cc) (time_goes time u b d agrees (cc))
item_goes (patterns.Random parts) (calls.Random len) (replies.Bytes bytes) b d agrees hold hc hr = parts_go parts bytes b d agrees hold (cc)
item_goes pattern call reply b d agrees hold hc hr = cc

pub unbound_agrees : (d : Bound) → Agrees unbound d
unbound_agrees d = record { fds = λ name v h. cc; times = λ name v h. cc; bytes = λ name v h. cc }
