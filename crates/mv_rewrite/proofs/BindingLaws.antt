-- One binding serves a whole left side: under it each pattern makes the item that it matched, but for the cap of a read.
use Rattle.std.specs.Prelude.{◌≡◌, ℕ, ◌==◌, nat_eq, nat_le, Bool, true, false, List, [], ◌∷◌, ◌++◌, length, take, drop, map, Option, Some, None, option_and_then, unwrap_or, if◌then◌else◌, refl}
use Rattle.std.specs.Option.{option_map}
use Rattle.std.specs.Str.{bytes_eq}
use Rattle.std.proofs.Common.{sym, ◌∙◌, ap, subst, arith}
use Rattle.std.proofs.lemmas.List.{append-nil, take-append-drop, length-take-le}
use Rattle.std.proofs.lemmas.Bool.{eqb-true, leb-true}
use Rattle.std.proofs.lemmas.Slice.Eq.{bytes_eq-Decides}
use Rattle.mv_calls.specs.declared.calls.Call.{Call}
use Rattle.mv_calls.specs.declared.calls.Call.TheVariants as calls
use Rattle.mv_calls.specs.declared.calls.Reply.{Reply}
use Rattle.mv_calls.specs.declared.calls.Reply.TheVariants as replies
use Rattle.mv_rules.specs.declared.rule.FdTerm.{FdTerm}
use Rattle.mv_rules.specs.declared.rule.FdTerm.TheVariants as fds
use Rattle.mv_rules.specs.declared.rule.TimeTerm.{TimeTerm}
use Rattle.mv_rules.specs.declared.rule.TimeTerm.TheVariants as times
use Rattle.mv_rules.specs.declared.rule.Part.{Part}
use Rattle.mv_rules.specs.declared.rule.Part.TheVariants.{Text, Sized, Named, Length}
use Rattle.mv_rules.specs.declared.rule.Guard.{Guard}
use Rattle.mv_rules.specs.declared.rule.Pattern.{Pattern}
use Rattle.mv_rules.specs.declared.rule.Pattern.TheVariants as patterns
use Rattle.mv_rewrite.specs.Bound.{Bound}
use Rattle.mv_rewrite.specs.declared.fit.Fit.{Fit}
use Rattle.mv_rewrite.specs.declared.fit.Fit.TheVariants.{Whole}
use Rattle.mv_rewrite.specs.Matching.{value_of, bind_found, bind, bind_fd, bind_time, bind_bytes, bind_part, bind_parts, only_if, bind_item, guards_pass, bind_guarded, fd_value, time_value, part_value, bytes_value, made_of, trimmed, fit_after, fit_of}
use Rattle.mv_rewrite.specs.Matches.{PartHolds, PartsHold, ItemUnder, ItemsUnder}

-- what has a value keeps it
abbrev pub Keeps : {V : Type 0} → List (List ℕ × V) → List (List ℕ × V) → Type 0
Keeps {V} old new = (name : List ℕ) (v : V) → value_of name old ≡ Some v → value_of name new ≡ Some v

pub record Extends (old new : Bound) : Type 0 where
  pub fds : Keeps old.fds new.fds
  pub times : Keeps old.times new.times
  pub bytes : Keeps old.bytes new.bytes

pub same_bound : (b : Bound) → Extends b b
same_bound b = record { fds = λ name v h. h; times = λ name v h. h; bytes = λ name v h. h }

pub both_extend : (a b c : Bound) → Extends a b → Extends b c → Extends a c
both_extend a b c h k = record {
  fds = λ name v e. k.fds name v (h.fds name v e);
  times = λ name v e. k.times name v (h.times name v e);
  bytes = λ name v e. k.bytes name v (h.bytes name v e);
}

-- an entry at the end changes no value
kept_entry : {V : Type 0} (test : Bool) (first : V) (rest : Option V) (longer : Option V) (v : V)
    → (rest ≡ Some v → longer ≡ Some v) → (if test then Some first else rest) ≡ Some v → (if test then Some first else longer) ≡ Some v
kept_entry true first rest longer v others h = h
kept_entry false first rest longer v others h = others h

kept_push : {V : Type 0} (entries : List (List ℕ × V)) (entry : List ℕ × V) → Keeps entries (entries ++ entry ∷ [])
kept_push [] entry name v h = cc
kept_push (e ∷ entries) entry name v h =
    kept_entry (bytes_eq e.0 name) e.1 (value_of name entries) (value_of name (entries ++ entry ∷ [])) v (kept_push entries entry name v) h

-- it is the value of a name that had none
new_entry : {V : Type 0} (test : Bool) (first : V) (rest : Option V) (longer : Option V) (v : V)
    → (rest ≡ None → longer ≡ Some v) → (if test then Some first else rest) ≡ None → (if test then Some first else longer) ≡ Some v
new_entry true first rest longer v others h = cc
new_entry false first rest longer v others h = others h

new_push : {V : Type 0} (entries : List (List ℕ × V)) (name : List ℕ) (v : V) → value_of name entries ≡ None → value_of name (entries ++ (name, v) ∷ []) ≡ Some v
new_push [] name v h = let e : bytes_eq name name ≡ true = (bytes_eq-Decides name name).1 refl in rw e refl
new_push (e ∷ entries) name v h =
    new_entry (bytes_eq e.0 name) e.1 (value_of name entries) (value_of name (entries ++ (name, v) ∷ [])) v (new_push entries name v) h

-- a test that tells equal values
abbrev pub TellsEqual : {V : Type 0} → (V → V → Bool) → Type 0
TellsEqual {V} same = (x y : V) → same x y ≡ true → x ≡ y

tells_numbers : TellsEqual nat_eq
tells_numbers x y h = eqb-true x y h

tells_bytes : TellsEqual bytes_eq
tells_bytes x y h = (bytes_eq-Decides x y).0 h

-- binding keeps the other values, and gives the name this value
abbrev pub Binds : {V : Type 0} → List ℕ → V → List (List ℕ × V) → List (List ℕ × V) → Type 0
Binds name v old new = Keeps old new × (value_of name new ≡ Some v)

binds_same : {V : Type 0} (same : V → V → Bool) (tells : TellsEqual same) (name : List ℕ) (v bound : V) (old new : List (List ℕ × V)) (test : Bool)
    → same bound v ≡ test → value_of name old ≡ Some bound → (if test then Some old else None) ≡ Some new → Binds name v old new
binds_same {V} same tells name v bound old new true t found h =
    let e : old ≡ new = cc in
    let b : bound ≡ v = tells bound v t in
    subst (λ (k : List (List ℕ × V)). Binds name v old k) e ((λ n u k. k), found ∙ ap (λ (u : V). Some u) b)
binds_same same tells name v bound old new false t found h = cc

binds_found : {V : Type 0} (same : V → V → Bool) (tells : TellsEqual same) (name : List ℕ) (v : V) (old new : List (List ℕ × V)) (o : Option V)
    → value_of name old ≡ o → bind_found same name v old o ≡ Some new → Binds name v old new
binds_found {V} same tells name v old new None found h =
    let e : old ++ (name, v) ∷ [] ≡ new = cc in
    subst (λ (k : List (List ℕ × V)). Binds name v old k) e (kept_push old (name, v), new_push old name v found)
binds_found same tells name v old new (Some bound) found h = binds_same same tells name v bound old new (same bound v) refl found h

bind_binds : {V : Type 0} (same : V → V → Bool) (tells : TellsEqual same) (name : List ℕ) (v : V) (old new : List (List ℕ × V))
    → bind same name v old ≡ Some new → Binds name v old new
bind_binds same tells name v old new h = binds_found same tells name v old new (value_of name old) refl h

pub mapped : {A B : Type 0} (f : A → B) (o : Option A) (c : B) → option_map f o ≡ Some c → (x : A) × (o ≡ Some x) × (f x ≡ c)
mapped f None c h = cc
mapped f (Some x) c h = (x, refl, cc)

pub chained : {A B : Type 0} (f : A → Option B) (o : Option A) (c : B) → option_and_then f o ≡ Some c → (x : A) × (o ≡ Some x) × (f x ≡ Some c)
chained f None c h = cc
chained f (Some x) c h = (x, refl, h)

pub tested : {B : Type 0} (test : Bool) (o : Option B) (c : B) → (if test then o else None) ≡ Some c → (test ≡ true) × (o ≡ Some c)
tested true o c h = (refl, h)
tested false o c h = cc

pub guarded : (test : Bool) (o : Option Bound) (c : Bound) → only_if test o ≡ Some c → (test ≡ true) × (o ≡ Some c)
guarded true o c h = (refl, h)
guarded false o c h = cc

-- a term has the value that it was bound to, in each binding that goes on from there
pub fd_binds : (term : FdTerm) (fd : ℕ) (b c : Bound) → bind_fd term fd b ≡ Some c
    → Extends b c × ((d : Bound) → Extends c d → fd_value term d ≡ fd)
fd_binds (fds.Number number) fd b c h =
    let t = tested (number == fd) (Some b) c h in
    let e : b ≡ c = cc in
    (subst (λ (k : Bound). Extends b k) e (same_bound b), λ d x. eqb-true number fd t.0)
fd_binds (fds.Name name) fd b c h =
    let m = mapped (λ entries. record b { fds = entries }) (bind nat_eq name fd b.fds) c h in
    let k = bind_binds nat_eq tells_numbers name fd b.fds m.0 m.1 in (
      subst (λ (k : Bound). Extends b k) m.2 (record { fds = k.0; times = λ n v h. h; bytes = λ n v h. h }),
      λ d x. ap (λ (o : Option ℕ). unwrap_or o 0) (x.fds name fd (subst (λ (k : Bound). value_of name k.fds ≡ Some fd) m.2 k.1)),
    )

pub time_binds : (term : TimeTerm) (time : ℕ) (b c : Bound) → bind_time term time b ≡ Some c
    → Extends b c × ((d : Bound) → Extends c d → time_value term d ≡ time)
time_binds (times.Number number) time b c h =
    let t = tested (number == time) (Some b) c h in
    let e : b ≡ c = cc in
    (subst (λ (k : Bound). Extends b k) e (same_bound b), λ d x. eqb-true number time t.0)
time_binds (times.Name name) time b c h =
    let m = mapped (λ entries. record b { times = entries }) (bind nat_eq name time b.times) c h in
    let k = bind_binds nat_eq tells_numbers name time b.times m.0 m.1 in (
      subst (λ (k : Bound). Extends b k) m.2 (record { fds = λ n v h. h; times = k.0; bytes = λ n v h. h }),
      λ d x. ap (λ (o : Option ℕ). unwrap_or o 0) (x.times name time (subst (λ (k : Bound). value_of name k.times ≡ Some time) m.2 k.1)),
    )

bytes_binds : (name value : List ℕ) (b c : Bound) → bind_bytes name value b ≡ Some c
    → Extends b c × ((d : Bound) → Extends c d → unwrap_or (value_of name d.bytes) [] ≡ value)
bytes_binds name value b c h =
    let m = mapped (λ entries. record b { bytes = entries }) (bind bytes_eq name value b.bytes) c h in
    let k = bind_binds bytes_eq tells_bytes name value b.bytes m.0 m.1 in (
      subst (λ (k : Bound). Extends b k) m.2 (record { fds = λ n v h. h; times = λ n v h. h; bytes = k.0 }),
      λ d x. ap (λ (o : Option (List ℕ)). unwrap_or o []) (x.bytes name value (subst (λ (k : Bound). value_of name k.bytes ≡ Some value) m.2 k.1)),
    )

none_left : (bytes : List ℕ) → (length bytes == 0) ≡ true → [] ≡ bytes
none_left [] h = refl
none_left (x ∷ bytes) h = let e = eqb-true (length (x ∷ bytes)) 0 h in absurd (omega arith)

-- as many bytes as a length says
taken_len : (count : ℕ) (bytes : List ℕ) → nat_le count (length bytes) ≡ true → length (take count bytes) ≡ count
taken_len count bytes h = length-take-le count bytes (leb-true count (length bytes) h)

-- what a part takes it makes, and it stands where it may
abbrev pub PartUnder : Bound → Part → List ℕ → List ℕ → Type 0
PartUnder d part rest bytes = (part_value d part ++ rest ≡ bytes) × PartHolds d part rest

pub part_binds : (part : Part) (bytes : List ℕ) (b : Bound) (t : Bound × List ℕ) → bind_part part bytes b ≡ Some t
    → Extends b t.0 × ((d : Bound) → Extends t.0 d → PartUnder d part t.1 bytes)
part_binds (Text text) bytes b t h =
    let k = tested (bytes_eq (take (length text) bytes) text) (Some (b, drop (length text) bytes)) t h in
    let start : Option (Bound × List ℕ) = Some (b, drop (length text) bytes) in
    let f : start ≡ Some t = k.1 in
    let e : (b, drop (length text) bytes) ≡ t = cc in
    let front : take (length text) bytes ≡ text = tells_bytes (take (length text) bytes) text k.0 in
    subst (λ (t : Bound × List ℕ). Extends b t.0 × ((d : Bound) → Extends t.0 d → PartUnder d (Text text) t.1 bytes)) e
    (same_bound b, λ d x. (ap (λ (k : List ℕ). k ++ drop (length text) bytes) (sym front) ∙ take-append-drop (length text) bytes, tt))
part_binds (Sized name count) bytes b t h =
    let k = tested (nat_le count (length bytes)) (option_map (λ c. (c, drop count bytes)) (bind_bytes name (take count bytes) b)) t h in
    let m = mapped (λ (c : Bound). let p : Bound × List ℕ = (c, drop count bytes) in p) (bind_bytes name (take count bytes) b) t k.1 in
    let first = bytes_binds name (take count bytes) b m.0 m.1 in
    subst (λ (t : Bound × List ℕ). Extends b t.0 × ((d : Bound) → Extends t.0 d → PartUnder d (Sized name count) t.1 bytes)) m.2 (
      first.0,
      λ d x. (
        ap (λ (k : List ℕ). k ++ drop count bytes) (first.1 d x) ∙ take-append-drop count bytes,
        ap (λ (k : List ℕ). length k) (first.1 d x) ∙ taken_len count bytes k.0,
      ),
    )
part_binds (Named name) bytes b t h =
    let m = mapped (λ (c : Bound). let p : Bound × List ℕ = (c, []) in p) (bind_bytes name bytes b) t h in
    let first = bytes_binds name bytes b m.0 m.1 in
    subst (λ (t : Bound × List ℕ). Extends b t.0 × ((d : Bound) → Extends t.0 d → PartUnder d (Named name) t.1 bytes)) m.2
    (first.0, λ d x. (ap (λ (k : List ℕ). k ++ []) (first.1 d x) ∙ append-nil bytes, refl))
part_binds (Length name) bytes b t h = cc

pub parts_bind : (parts : List Part) (bytes : List ℕ) (b c : Bound) → bind_parts parts bytes b ≡ Some c
    → Extends b c × ((d : Bound) → Extends c d → (bytes_value parts d ≡ bytes) × PartsHold d parts)
parts_bind [] bytes b c h =
    let t = tested (length bytes == 0) (Some b) c h in
    let e : b ≡ c = cc in
    (subst (λ (k : Bound). Extends b k) e (same_bound b), λ d x. (none_left bytes t.0, tt))
parts_bind (part ∷ parts) bytes b c h =
    let m = chained (λ (t : Bound × List ℕ). bind_parts parts t.1 t.0) (bind_part part bytes b) c h in
    let first = part_binds part bytes b m.0 m.1 in
    let rest = parts_bind parts m.0.1 m.0.0 c m.2 in (
      both_extend b m.0.0 c first.0 rest.0,
      λ d x.
          let f = first.1 d (both_extend m.0.0 c d rest.0 x) in
          let r = rest.1 d x in (
            ap (λ (k : List ℕ). part_value d part ++ k) r.0 ∙ f.0,
            (subst (λ (k : List ℕ). PartHolds d part k) (sym r.0) f.1, r.1),
          ),
    )

-- a term, and then the parts
term_and_parts : (fd : FdTerm) (parts : List Part) (f : ℕ) (bytes : List ℕ) (b c : Bound)
    → option_and_then (bind_parts parts bytes) (bind_fd fd f b) ≡ Some c
    → Extends b c × ((d : Bound) → Extends c d → (fd_value fd d ≡ f) × (bytes_value parts d ≡ bytes) × PartsHold d parts)
term_and_parts fd parts f bytes b c h =
    let m = chained (bind_parts parts bytes) (bind_fd fd f b) c h in
    let first = fd_binds fd f b m.0 m.1 in
    let rest = parts_bind parts bytes m.0 c m.2 in
    (both_extend b m.0 c first.0 rest.0, λ d x. let r = rest.1 d x in (first.1 d (both_extend m.0 c d rest.0 x), r.0, r.1))

-- what a pattern matched it makes, in each binding that goes on from there
abbrev pub Makes : Pattern → Call → Reply → Bound → Bound → Type 0
Makes pattern call reply b c = Extends b c × ((d : Bound) → Extends c d → ItemUnder d pattern (call, reply))

pub item_binds : (pattern : Pattern) (call : Call) (reply : Reply) (b c : Bound) → bind_item pattern call reply b ≡ Some c → Makes pattern call reply b c
item_binds (patterns.Read fd parts) (calls.Read f cap) (replies.Bytes bytes) b c h =
    let k = term_and_parts fd parts f bytes b c h in
    (k.0, λ d x. let p = k.1 d x in let e = p.0 in let g = p.1 in (rw (e, g) refl, p.2))
item_binds (patterns.ReadErrno fd errno) (calls.Read f cap) (replies.Errno e) b c h =
    let t = guarded (errno == e) (bind_fd fd f b) c h in
    let n : errno ≡ e = eqb-true errno e t.0 in
    let k = fd_binds fd f b c t.1 in
    (k.0, λ d x. let p = k.1 d x in (rw (p, n) refl, tt))
item_binds (patterns.Write fd parts) (calls.Write f bytes) (replies.Count count) b c h =
    let t = guarded (count == length bytes) (option_and_then (bind_parts parts bytes) (bind_fd fd f b)) c h in
    let n : count ≡ length bytes = eqb-true count (length bytes) t.0 in
    let k = term_and_parts fd parts f bytes b c t.1 in
    (k.0, λ d x. let p = k.1 d x in let e = p.0 in let g = p.1 in (rw (e, g, n) refl, p.2))
item_binds (patterns.WriteErrno fd parts errno) (calls.Write f bytes) (replies.Errno e) b c h =
    let t = guarded (errno == e) (option_and_then (bind_parts parts bytes) (bind_fd fd f b)) c h in
    let n : errno ≡ e = eqb-true errno e t.0 in
    let k = term_and_parts fd parts f bytes b c t.1 in
    (k.0, λ d x. let p = k.1 d x in let e = p.0 in let g = p.1 in (rw (e, g, n) refl, p.2))
item_binds (patterns.Accept listener flags made) (calls.Accept f k) (replies.Fd n) b c h =
    let t = guarded (flags == k) (option_and_then (bind_fd made n) (bind_fd listener f b)) c h in
    let same : flags ≡ k = eqb-true flags k t.0 in
    let m = chained (bind_fd made n) (bind_fd listener f b) c t.1 in
    let first = fd_binds listener f b m.0 m.1 in
    let rest = fd_binds made n m.0 c m.2 in
    (both_extend b m.0 c first.0 rest.0, λ d x. let p = first.1 d (both_extend m.0 c d rest.0 x) in let q = rest.1 d x in (rw (p, q, same) refl, tt))
item_binds (patterns.AcceptErrno listener flags errno) (calls.Accept f k) (replies.Errno e) b c h =
    let t = guarded (flags == k) (only_if (errno == e) (bind_fd listener f b)) c h in
    let u = guarded (errno == e) (bind_fd listener f b) c t.1 in
    let same : flags ≡ k = eqb-true flags k t.0 in
    let n : errno ≡ e = eqb-true errno e u.0 in
    let r = fd_binds listener f b c u.1 in
    (r.0, λ d x. let p = r.1 d x in (rw (p, same, n) refl, tt))
item_binds (patterns.Close fd) (calls.Close f) replies.Done b c h =
    let k = fd_binds fd f b c h in (k.0, λ d x. let p = k.1 d x in (rw p refl, tt))
item_binds (patterns.CloseErrno fd errno) (calls.Close f) (replies.Errno e) b c h =
    let t = guarded (errno == e) (bind_fd fd f b) c h in
    let n : errno ≡ e = eqb-true errno e t.0 in
    let k = fd_binds fd f b c t.1 in
    (k.0, λ d x. let p = k.1 d x in (rw (p, n) refl, tt))
item_binds (patterns.Shutdown fd how) (calls.Shutdown f g) replies.Done b c h =
    let t = guarded (how == g) (bind_fd fd f b) c h in
    let n : how ≡ g = eqb-true how g t.0 in
    let k = fd_binds fd f b c t.1 in
    (k.0, λ d x. let p = k.1 d x in (rw (p, n) refl, tt))
item_binds (patterns.ShutdownErrno fd how errno) (calls.Shutdown f g) (replies.Errno e) b c h =
    let t = guarded (how == g) (only_if (errno == e) (bind_fd fd f b)) c h in
    let u = guarded (errno == e) (bind_fd fd f b) c t.1 in
    let same : how ≡ g = eqb-true how g t.0 in
    let n : errno ≡ e = eqb-true errno e u.0 in
    let r = fd_binds fd f b c u.1 in
    (r.0, λ d x. let p = r.1 d x in (rw (p, same, n) refl, tt))
item_binds patterns.Yield calls.Yield replies.Done b c h =
    let e : b ≡ c = cc in (subst (λ (k : Bound). Extends b k) e (same_bound b), λ d x. (refl, tt))
item_binds (patterns.Clock id time) (calls.Clock i) (replies.Time u) b c h =
    let t = guarded (id == i) (bind_time time u b) c h in
    let n : id ≡ i = eqb-true id i t.0 in
    let k = time_binds time u b c t.1 in
    (k.0, λ d x. let p = k.1 d x in (rw (p, n) refl, tt))
item_binds (patterns.Random parts) (calls.Random len) (replies.Bytes bytes) b c h =
    let k = parts_bind parts bytes b c h in
    (k.0, λ d x. let p = k.1 d x in let e = p.0 in (rw e refl, p.1))
item_binds pattern call reply b c h = cc

pub fitted : (o : Option Bound) (rest : Bound → Fit) (c : Bound) → fit_after o rest ≡ Whole c → (m : Bound) × (o ≡ Some m) × (rest m ≡ Whole c)
fitted None rest c h = cc
fitted (Some m) rest c h = (m, refl, h)

-- where a guarded pattern binds, the pattern binds, and the guards pass
pub guarded_binds : (guards : List Guard) (pattern : Pattern) (call : Call) (reply : Reply) (b c : Bound)
    → bind_guarded guards pattern call reply b ≡ Some c → (bind_item pattern call reply b ≡ Some c) × (guards_pass c guards ≡ true)
guarded_binds guards pattern call reply b c h =
    let m = chained (λ (c : Bound). only_if (guards_pass c guards) (Some c)) (bind_item pattern call reply b) c h in
    let t = guarded (guards_pass m.0 guards) (Some m.0) c m.2 in
    let s : Some m.0 ≡ Some c = t.1 in
    let e : m.0 ≡ c = cc in
    (m.1 ∙ s, subst (λ (k : Bound). guards_pass k guards ≡ true) e t.0)

-- under its binding a whole match is one of as many items as the left side has
pub fit_matches : (guards : List Guard) (left : List Pattern) (items : List (Call × Reply)) (b c : Bound) → fit_of guards left items b ≡ Whole c
    → Extends b c × ((d : Bound) → Extends c d → ItemsUnder d left (take (length left) items))
fit_matches guards [] items b c h = let e : b ≡ c = cc in (subst (λ (k : Bound). Extends b k) e (same_bound b), λ d x. tt)
fit_matches guards (pattern ∷ left) [] b c h = cc
fit_matches guards (pattern ∷ left) (item ∷ items) b c h =
    let m = fitted (bind_guarded guards pattern item.0 item.1 b) (fit_of guards left items) c h in
    let g = guarded_binds guards pattern item.0 item.1 b m.0 m.1 in
    let first = item_binds pattern item.0 item.1 b m.0 g.0 in
    let rest = fit_matches guards left items m.0 c m.2 in
    (both_extend b m.0 c first.0 rest.0, λ d x. (first.1 d (both_extend m.0 c d rest.0 x), rest.1 d x))

-- the left side makes the items that it matches, but for the caps of reads
pub items_make : (d : Bound) (left : List Pattern) (items : List (Call × Reply)) → ItemsUnder d left items → map (made_of d) left ≡ map (λ i. trimmed i.0 i.1) items
items_make d [] [] h = refl
items_make d [] (item ∷ items) h = absurd h
items_make d (pattern ∷ left) [] h = absurd h
items_make d (pattern ∷ left) (item ∷ items) h =
    ap (λ (i : Call × Reply). i ∷ map (made_of d) left) h.0.0
    ∙ ap (λ (l : List (Call × Reply)). trimmed item.0 item.1 ∷ l) (items_make d left items h.1)

pub fit_makes : (guards : List Guard) (left : List Pattern) (items : List (Call × Reply)) (b c : Bound) → fit_of guards left items b ≡ Whole c
    → Extends b c × (map (made_of c) left ≡ map (λ i. trimmed i.0 i.1) (take (length left) items))
fit_makes guards left items b c h =
    let m = fit_matches guards left items b c h in
    (m.0, items_make c left (take (length left) items) (m.1 c (same_bound c)))
