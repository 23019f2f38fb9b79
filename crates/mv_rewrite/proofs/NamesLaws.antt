-- Which byte names have a value after a match, and what guards say of them.
use Rattle.std.specs.Prelude.{◌≡◌, ℕ, ◌==◌, nat_eq, nat_le, Bool, true, false, ◌||◌, ◌&&◌, List, [], ◌∷◌, ◌++◌, length, take, drop, Option, Some, None, is_some, option_and_then, unwrap_or, if◌then◌else◌, refl}
use Rattle.std.specs.Option.{option_map}
use Rattle.std.specs.List.{flat_map}
use Rattle.std.specs.Str.{bytes_eq}
use Rattle.std.proofs.Common.{sym, ◌∙◌, ap, subst, arith, eq-eqb}
use Rattle.std.proofs.lemmas.Bool.{eqb-true}
use Rattle.std.proofs.lemmas.Bool.Decides.{nat_tests}
use Rattle.std.proofs.lemmas.Slice.Eq.{bytes_eq-Decides}
use Rattle.mv_calls.specs.declared.calls.Call.{Call}
use Rattle.mv_calls.specs.declared.calls.Call.TheVariants as calls
use Rattle.mv_calls.specs.declared.calls.Reply.{Reply}
use Rattle.mv_calls.specs.declared.calls.Reply.TheVariants as replies
use Rattle.mv_rules.specs.declared.rule.FdTerm.{FdTerm}
use Rattle.mv_rules.specs.declared.rule.FdTerm.TheVariants as fds
use Rattle.mv_rules.specs.declared.rule.TimeTerm.{TimeTerm}
use Rattle.mv_rules.specs.declared.rule.TimeTerm.TheVariants as times
use Rattle.mv_rules.specs.declared.rule.Part.{Part}
use Rattle.mv_rules.specs.declared.rule.Part.TheVariants.{Text, Sized, Named, Length}
use Rattle.mv_rules.specs.declared.rule.Pattern.{Pattern}
use Rattle.mv_rules.specs.declared.rule.Pattern.TheVariants as patterns
use Rattle.mv_rules.specs.declared.rule.Comparison.{Comparison}
use Rattle.mv_rules.specs.declared.rule.Comparison.TheVariants.{Equal, Less, Greater}
use Rattle.mv_rules.specs.declared.rule.Guard.{Guard}
use Rattle.mv_rewrite.specs.Bound.{Bound, unbound}
use Rattle.mv_rewrite.specs.declared.fit.Fit.TheVariants.{Whole}
use Rattle.mv_rewrite.specs.Matching.{value_of, bind_found, bind, bind_fd, bind_time, bind_bytes, bind_part, bind_parts, only_if, bind_item, stands_to, guard_passes, guards_pass, bind_guarded, bytes_named, fit_of}
use Rattle.mv_rules.specs.Names.{parts_in}
use Rattle.mv_rewrite.specs.Matches.{Agrees, names_of_part, byte_names, is_among, StandsTo, GuardHolds, GuardsHold}
use Rattle.mv_rewrite.proofs.BindingLaws.{mapped, chained, tested, guarded, guarded_binds, fitted}

or_false : (b : Bool) → b ≡ (b || false)
or_false true = refl
or_false false = refl

or_assoc : (a b c : Bool) → ((a || b) || c) ≡ (a || (b || c))
or_assoc true b c = refl
or_assoc false b c = refl

pub among_append : (name : List ℕ) (first others : List (List ℕ)) → is_among name (first ++ others) ≡ (is_among name first || is_among name others)
among_append name [] others = refl
among_append name (other ∷ first) others =
    ap (λ (b : Bool). bytes_eq other name || b) (among_append name first others)
    ∙ sym (or_assoc (bytes_eq other name) (is_among name first) (is_among name others))

-- ## Names that are bound

-- after binding, the byte names with a value are those of before, and these
abbrev pub Adds : Bound → Bound → List (List ℕ) → Type 0
Adds b c names = (name : List ℕ) → is_some (value_of name c.bytes) ≡ (is_some (value_of name b.bytes) || is_among name names)

adds_none : (b c : Bound) → b.bytes ≡ c.bytes → Adds b c []
adds_none b c h name = ap (λ (k : List (List ℕ × List ℕ)). is_some (value_of name k)) (sym h) ∙ or_false (is_some (value_of name b.bytes))

adds_both : (b m c : Bound) (first others : List (List ℕ)) → Adds b m first → Adds m c others → Adds b c (first ++ others)
adds_both b m c first others h k name =
    k name
    ∙ ap (λ (t : Bool). t || is_among name others) (h name)
    ∙ or_assoc (is_some (value_of name b.bytes)) (is_among name first) (is_among name others)
    ∙ ap (λ (t : Bool). is_some (value_of name b.bytes) || t) (sym (among_append name first others))

-- the same, of the byte entries alone
abbrev AddsName : List (List ℕ × List ℕ) → List (List ℕ × List ℕ) → List ℕ → Type 0
AddsName old new name = (other : List ℕ) → is_some (value_of other new) ≡ (is_some (value_of other old) || (bytes_eq name other || false))

pushed_none : (test : Bool) (v : List ℕ) → is_some (if test then Some v else None) ≡ (test || false)
pushed_none true v = refl
pushed_none false v = refl

pushed_some : (test : Bool) (v : List ℕ) (rest longer : Option (List ℕ)) (b : Bool) → is_some longer ≡ (is_some rest || b)
    → is_some (if test then Some v else longer) ≡ (is_some (if test then Some v else rest) || b)
pushed_some true v rest longer b h = refl
pushed_some false v rest longer b h = h

push_adds : (entries : List (List ℕ × List ℕ)) (name v : List ℕ) → AddsName entries (entries ++ (name, v) ∷ []) name
push_adds [] name v other = pushed_none (bytes_eq name other) v
push_adds (e ∷ entries) name v other =
    pushed_some (bytes_eq e.0 other) e.1 (value_of other entries) (value_of other (entries ++ (name, v) ∷ [])) (bytes_eq name other || false)
    (push_adds entries name v other)

had_at : (name other : List ℕ) (entries : List (List ℕ × List ℕ)) (bound : List ℕ) (test : Bool) → bytes_eq name other ≡ test → value_of name entries ≡ Some bound
    → is_some (value_of other entries) ≡ (is_some (value_of other entries) || (test || false))
had_at name other entries bound true t found =
    let e : name ≡ other = (bytes_eq-Decides name other).0 t in
    let f : value_of other entries ≡ Some bound = subst (λ (k : List ℕ). value_of k entries ≡ Some bound) e found in
    rw f refl
had_at name other entries bound false t found = or_false (is_some (value_of other entries))

same_adds : (name v bound : List ℕ) (old new : List (List ℕ × List ℕ)) (test : Bool) → value_of name old ≡ Some bound
    → (if test then Some old else None) ≡ Some new → AddsName old new name
same_adds name v bound old new true found h =
    let e : old ≡ new = cc in
    subst (λ (k : List (List ℕ × List ℕ)). AddsName old k name) e (λ other. had_at name other old bound (bytes_eq name other) refl found)
same_adds name v bound old new false found h = cc

found_adds : (name v : List ℕ) (old new : List (List ℕ × List ℕ)) (o : Option (List ℕ)) → value_of name old ≡ o
    → bind_found bytes_eq name v old o ≡ Some new → AddsName old new name
found_adds name v old new None found h =
    let e : old ++ (name, v) ∷ [] ≡ new = cc in
    subst (λ (k : List (List ℕ × List ℕ)). AddsName old k name) e (push_adds old name v)
found_adds name v old new (Some bound) found h = same_adds name v bound old new (bytes_eq bound v) found h

bytes_add : (name v : List ℕ) (b c : Bound) → bind_bytes name v b ≡ Some c → Adds b c (name ∷ [])
bytes_add name v b c h =
    let m = mapped (λ entries. let r : Bound = record b { bytes = entries } in r) (bind bytes_eq name v b.bytes) c h in
    subst (λ (k : Bound). Adds b k (name ∷ [])) m.2 (found_adds name v b.bytes m.0 (value_of name b.bytes) refl m.1)

fd_adds : (term : FdTerm) (fd : ℕ) (b c : Bound) → bind_fd term fd b ≡ Some c → Adds b c []
fd_adds (fds.Number number) fd b c h =
    let t = tested (number == fd) (Some b) c h in
    let e : b ≡ c = cc in
    adds_none b c (ap (λ (k : Bound). k.bytes) e)
fd_adds (fds.Name name) fd b c h =
    let m = mapped (λ entries. let r : Bound = record b { fds = entries } in r) (bind nat_eq name fd b.fds) c h in
    adds_none b c (ap (λ (k : Bound). k.bytes) m.2)

time_adds : (term : TimeTerm) (time : ℕ) (b c : Bound) → bind_time term time b ≡ Some c → Adds b c []
time_adds (times.Number number) time b c h =
    let t = tested (number == time) (Some b) c h in
    let e : b ≡ c = cc in
    adds_none b c (ap (λ (k : Bound). k.bytes) e)
time_adds (times.Name name) time b c h =
    let m = mapped (λ entries. let r : Bound = record b { times = entries } in r) (bind nat_eq name time b.times) c h in
    adds_none b c (ap (λ (k : Bound). k.bytes) m.2)

part_adds : (part : Part) (bytes : List ℕ) (b : Bound) (t : Bound × List ℕ) → bind_part part bytes b ≡ Some t → Adds b t.0 (names_of_part part)
part_adds (Text text) bytes b t h =
    let k = tested (bytes_eq (take (length text) bytes) text) (Some (b, drop (length text) bytes)) t h in
    let start : Option (Bound × List ℕ) = Some (b, drop (length text) bytes) in
    let f : start ≡ Some t = k.1 in
    let e : (b, drop (length text) bytes) ≡ t = cc in
    adds_none b t.0 (ap (λ (p : Bound × List ℕ). p.0.bytes) e)
part_adds (Sized name count) bytes b t h =
    let k = tested (nat_le count (length bytes)) (option_map (λ c. (c, drop count bytes)) (bind_bytes name (take count bytes) b)) t h in
    let m = mapped (λ (c : Bound). let p : Bound × List ℕ = (c, drop count bytes) in p) (bind_bytes name (take count bytes) b) t k.1 in
    subst (λ (p : Bound × List ℕ). Adds b p.0 (name ∷ [])) m.2 (bytes_add name (take count bytes) b m.0 m.1)
part_adds (Named name) bytes b t h =
    let m = mapped (λ (c : Bound). let p : Bound × List ℕ = (c, []) in p) (bind_bytes name bytes b) t h in
    subst (λ (p : Bound × List ℕ). Adds b p.0 (name ∷ [])) m.2 (bytes_add name bytes b m.0 m.1)
part_adds (Length name) bytes b t h = cc

parts_add : (parts : List Part) (bytes : List ℕ) (b c : Bound) → bind_parts parts bytes b ≡ Some c → Adds b c (flat_map names_of_part parts)
parts_add [] bytes b c h =
    let t = tested (length bytes == 0) (Some b) c h in
    let e : b ≡ c = cc in
    adds_none b c (ap (λ (k : Bound). k.bytes) e)
parts_add (part ∷ parts) bytes b c h =
    let m = chained (λ (t : Bound × List ℕ). bind_parts parts t.1 t.0) (bind_part part bytes b) c h in
    adds_both b m.0.0 c (names_of_part part) (flat_map names_of_part parts) (part_adds part bytes b m.0 m.1) (parts_add parts m.0.1 m.0.0 c m.2)

term_adds : (fd : FdTerm) (parts : List Part) (f : ℕ) (bytes : List ℕ) (b c : Bound)
    → option_and_then (bind_parts parts bytes) (bind_fd fd f b) ≡ Some c → Adds b c (flat_map names_of_part parts)
term_adds fd parts f bytes b c h =
    let m = chained (bind_parts parts bytes) (bind_fd fd f b) c h in
    adds_both b m.0 c [] (flat_map names_of_part parts) (fd_adds fd f b m.0 m.1) (parts_add parts bytes m.0 c m.2)

pub item_adds : (pattern : Pattern) (call : Call) (reply : Reply) (b c : Bound) → bind_item pattern call reply b ≡ Some c
    → Adds b c (flat_map names_of_part (parts_in pattern))
item_adds (patterns.Read fd parts) (calls.Read f cap) (replies.Bytes bytes) b c h = term_adds fd parts f bytes b c h
item_adds (patterns.ReadErrno fd errno) (calls.Read f cap) (replies.Errno e) b c h = fd_adds fd f b c (guarded (errno == e) (bind_fd fd f b) c h).1
item_adds (patterns.Write fd parts) (calls.Write f bytes) (replies.Count count) b c h =
    term_adds fd parts f bytes b c (guarded (count == length bytes) (option_and_then (bind_parts parts bytes) (bind_fd fd f b)) c h).1
item_adds (patterns.WriteErrno fd parts errno) (calls.Write f bytes) (replies.Errno e) b c h =
    term_adds fd parts f bytes b c (guarded (errno == e) (option_and_then (bind_parts parts bytes) (bind_fd fd f b)) c h).1
item_adds (patterns.Accept listener flags made) (calls.Accept f k) (replies.Fd n) b c h =
    let t = guarded (flags == k) (option_and_then (bind_fd made n) (bind_fd listener f b)) c h in
    let m = chained (bind_fd made n) (bind_fd listener f b) c t.1 in
    adds_both b m.0 c [] [] (fd_adds listener f b m.0 m.1) (fd_adds made n m.0 c m.2)
item_adds (patterns.AcceptErrno listener flags errno) (calls.Accept f k) (replies.Errno e) b c h =
    let t = guarded (flags == k) (only_if (errno == e) (bind_fd listener f b)) c h in
    fd_adds listener f b c (guarded (errno == e) (bind_fd listener f b) c t.1).1
item_adds (patterns.Close fd) (calls.Close f) replies.Done b c h = fd_adds fd f b c h
item_adds (patterns.CloseErrno fd errno) (calls.Close f) (replies.Errno e) b c h = fd_adds fd f b c (guarded (errno == e) (bind_fd fd f b) c h).1
item_adds (patterns.Shutdown fd how) (calls.Shutdown f g) replies.Done b c h = fd_adds fd f b c (guarded (how == g) (bind_fd fd f b) c h).1
item_adds (patterns.ShutdownErrno fd how errno) (calls.Shutdown f g) (replies.Errno e) b c h =
    let t = guarded (how == g) (only_if (errno == e) (bind_fd fd f b)) c h in
    fd_adds fd f b c (guarded (errno == e) (bind_fd fd f b) c t.1).1
item_adds patterns.Yield calls.Yield replies.Done b c h = let e : b ≡ c = cc in adds_none b c (ap (λ (k : Bound). k.bytes) e)
item_adds (patterns.Clock id time) (calls.Clock i) (replies.Time u) b c h = time_adds time u b c (guarded (id == i) (bind_time time u b) c h).1
item_adds (patterns.Random parts) (calls.Random len) (replies.Bytes bytes) b c h = parts_add parts bytes b c h
item_adds pattern call reply b c h = cc

pub guarded_adds : (guards : List Guard) (pattern : Pattern) (call : Call) (reply : Reply) (b c : Bound)
    → bind_guarded guards pattern call reply b ≡ Some c → Adds b c (flat_map names_of_part (parts_in pattern))
guarded_adds guards pattern call reply b c h = item_adds pattern call reply b c (guarded_binds guards pattern call reply b c h).0

-- ## Guards of a match

fit_adds : (guards : List Guard) (left : List Pattern) (items : List (Call × Reply)) (b c : Bound) → fit_of guards left items b ≡ Whole c
    → Adds b c (byte_names left)
fit_adds guards [] items b c h = let e : b ≡ c = cc in adds_none b c (ap (λ (k : Bound). k.bytes) e)
fit_adds guards (pattern ∷ left) [] b c h = cc
fit_adds guards (pattern ∷ left) (item ∷ items) b c h =
    let m = fitted (bind_guarded guards pattern item.0 item.1 b) (fit_of guards left items) c h in
    adds_both b m.0 c (flat_map names_of_part (parts_in pattern)) (byte_names left) (guarded_adds guards pattern item.0 item.1 b m.0 m.1) (fit_adds guards left items m.0 c m.2)

fit_passes : (guards : List Guard) (left : List Pattern) (items : List (Call × Reply)) (b c : Bound) → guards_pass b guards ≡ true
    → fit_of guards left items b ≡ Whole c → guards_pass c guards ≡ true
fit_passes guards [] items b c pass h = let e : b ≡ c = cc in subst (λ (k : Bound). guards_pass k guards ≡ true) e pass
fit_passes guards (pattern ∷ left) [] b c pass h = cc
fit_passes guards (pattern ∷ left) (item ∷ items) b c pass h =
    let m = fitted (bind_guarded guards pattern item.0 item.1 b) (fit_of guards left items) c h in
    fit_passes guards left items m.0 c (guarded_binds guards pattern item.0 item.1 b m.0 m.1).1 m.2

unbound_passes : (guards : List Guard) → guards_pass unbound guards ≡ true
unbound_passes [] = refl
unbound_passes (guard ∷ guards) = unbound_passes guards

both_true : (a b : Bool) → (a && b) ≡ true → (a ≡ true) × (b ≡ true)
both_true true b h = (refl, h)
both_true false b h = cc

stands_true : (comparison : Comparison) (size number : ℕ) → stands_to comparison size number ≡ true → StandsTo comparison size number
stands_true Equal size number h = eqb-true size number h
stands_true Less size number h = grind (arith, nat_tests)
stands_true Greater size number h = grind (arith, nat_tests)

true_stands : (comparison : Comparison) (size number : ℕ) → StandsTo comparison size number → stands_to comparison size number ≡ true
true_stands Equal size number h = eq-eqb size number h
true_stands Less size number h = grind (arith, nat_tests)
true_stands Greater size number h = grind (arith, nat_tests)

-- the byte names with a value are these
abbrev pub AreBound : Bound → List (List ℕ) → Type 0
AreBound c names = (name : List ℕ) → is_some (value_of name c.bytes) ≡ is_among name names

passes_holds : (c : Bound) (guard : Guard) (o : Option (List ℕ)) → value_of guard.name c.bytes ≡ o → is_some o ≡ true → guard_passes guard o ≡ true → GuardHolds c guard
passes_holds c guard None is some pass = cc
passes_holds c guard (Some bytes) is some pass =
    subst (λ (o : Option (List ℕ)). StandsTo guard.comparison (length (unwrap_or o [])) guard.length) (sym is)
    (stands_true guard.comparison (length bytes) guard.length pass)

pass_hold : (c : Bound) (guards : List Guard) (names : List (List ℕ)) → AreBound c names → guards_pass c guards ≡ true → GuardsHold c guards names
pass_hold c [] names bound pass = tt
pass_hold c (guard ∷ guards) names bound pass =
    let both = both_true (guard_passes guard (value_of guard.name c.bytes)) (guards_pass c guards) pass in (
      λ among. passes_holds c guard (value_of guard.name c.bytes) refl (bound guard.name ∙ among) both.0,
      pass_hold c guards names bound both.1,
    )

holds_passes : (c d : Bound) (guard : Guard) (names : List (List ℕ)) (o : Option (List ℕ)) → value_of guard.name c.bytes ≡ o → AreBound c names → Agrees c d
    → (is_among guard.name names ≡ true → GuardHolds d guard) → guard_passes guard o ≡ true
holds_passes c d guard names None is bound agrees hold = refl
holds_passes c d guard names (Some bytes) is bound agrees hold =
    let some : is_some (value_of guard.name c.bytes) ≡ true = ap (λ (o : Option (List ℕ)). is_some o) is in
    let value : bytes_named d guard.name ≡ bytes = agrees.bytes guard.name bytes is in
    true_stands guard.comparison (length bytes) guard.length
    (subst (λ (k : List ℕ). StandsTo guard.comparison (length k) guard.length) value (hold (sym (bound guard.name) ∙ some)))

pub hold_pass : (c d : Bound) (guards : List Guard) (names : List (List ℕ)) → AreBound c names → Agrees c d → GuardsHold d guards names → guards_pass c guards ≡ true
hold_pass c d [] names bound agrees hold = refl
hold_pass c d (guard ∷ guards) names bound agrees hold =
    let first : guard_passes guard (value_of guard.name c.bytes) ≡ true = holds_passes c d guard names (value_of guard.name c.bytes) refl bound agrees hold.0 in
    rw first (hold_pass c d guards names bound agrees hold.1)

-- guards on fewer names
among_more : (name : List ℕ) (first others : List (List ℕ)) → is_among name first ≡ true → is_among name (first ++ others) ≡ true
among_more name first others h = among_append name first others ∙ ap (λ (b : Bool). b || is_among name others) h

pub hold_fewer : (d : Bound) (guards : List Guard) (first others : List (List ℕ)) → GuardsHold d guards (first ++ others) → GuardsHold d guards first
hold_fewer d [] first others h = tt
hold_fewer d (guard ∷ guards) first others h = (λ among. h.0 (among_more guard.name first others among), hold_fewer d guards first others h.1)

none_bound : (name : List ℕ) → is_some (value_of name unbound.bytes) ≡ is_among name []
none_bound name = refl

-- the byte names of a match are those of its lines
pub bound_after : (b c : Bound) (first others : List (List ℕ)) → AreBound b first → Adds b c others → AreBound c (first ++ others)
bound_after b c first others bound adds name =
    adds name ∙ ap (λ (t : Bool). t || is_among name others) (bound name) ∙ sym (among_append name first others)

-- the guards of a whole match hold under its binding
pub whole_holds : (guards : List Guard) (left : List Pattern) (items : List (Call × Reply)) (c : Bound) → fit_of guards left items unbound ≡ Whole c
    → GuardsHold c guards (byte_names left)
whole_holds guards left items c h =
    pass_hold c guards (byte_names left) (bound_after unbound c [] (byte_names left) none_bound (fit_adds guards left items unbound c h))
    (fit_passes guards left items unbound c (unbound_passes guards) h)
