-- Ends of blocks and returns keep a configuration typed and counted, where no call waits.
use Rattle.std.proofs.Common.{true, false, cond, Bool, ◌≡◌, ℕ, ◌+◌, ◌<◌, List, [], ◌∷◌, ◌++◌, length, take, Option, Some, None, refl, sym, ap, ◌∙◌, subst, arith, length-append, Vec, Global}
use Rattle.std.specs.Prelude.{reverse, map, IsSome}
use Rattle.std.specs.Option.{option_map}
use Rattle.std.proofs.lemmas.List.{length-reverse, length-take, take_all}
use Rattle.mv_syntax.specs.declared.ops.ValType.{ValType}
use Rattle.mv_syntax.specs.declared.module.Func.{Func}
use Rattle.mv_syntax.specs.Sections.{Parts}
use Rattle.mv_syntax.specs.Tree.{Tree, done, plain, block, loop, choice}
use Rattle.mv_validator.specs.Types.{operands_of}
use Rattle.mv_validator.specs.Typing.{Context, Types}
use Rattle.mv_execution.specs.Config.{OpenBlock, Frame, Config, operand_count}
use Rattle.mv_execution.specs.Run.{is_none}
use Rattle.mv_execution.specs.Fits.{AreOf, in_function, FitBlocks, FitsUnder, Fits, FitFrames, FitsCalls, FitsConfig, module_context}
use Rattle.mv_execution.proofs.Operands.{are-length}
use Rattle.mv_execution.proofs.Branches.{absorb}
use Rattle.mv_execution.proofs.Advances.{inner}
use Rattle.mv_frames.specs.Arity.{arity_if}
use Rattle.mv_frames.specs.Blocks.{closed, closed_in}
use Rattle.mv_frames.specs.Frames.{frame_of, IsPlaced}
use Rattle.mv_frames.specs.Stores.{store_of}
use Rattle.mv_frames.specs.declared.frame.Frame.{Frame as FlatFrame}
use Rattle.mv_machine.specs.declared.state.State.{State}
use Rattle.mv_machine.specs.States.{code_at, call_of, calls_of, config_of, values_of, ArePlacedIn, open_count, IsAnswerable, IsGivenLast, IsFine}
use Rattle.mv_machine.specs.Calls.{closed_in_newest, closed_newest, returned_from, returned_newest}
use Rattle.mv_machine.proofs.Newest.{Newest, calls-are, operands-are}
use Rattle.mv_machine.proofs.Written.{Written, written-config, written-fine}
use Rattle.mv_machine.proofs.Moves.{idle-fits}

-- ---- a block that is left

closed-in-fits : (c : Context) (f g : Frame) (b : OpenBlock) (outer : List OpenBlock) → Fits c f → f.blocks ≡ b ∷ outer → closed_in b.rest outer f ≡ Some g → Fits c g
closed-in-fits c f g b outer h e k = by b.rest refl k
  where
    left : b.rest ≡ done → Fits c (record f { blocks = outer })
    left d =
        let n = inner c f b outer h e in
        let types : n.fits.types ≡ operands_of n.result = subst (λ x. Types (record c { labels = n.label ∷ n.labels }) x n.fits.types (operands_of n.result)) d n.fits.typed in
        let are : AreOf (operands_of n.result) n.own = subst (λ x. AreOf x n.own) types n.fits.are in
        record { labels = n.labels; results = n.results; blocks = subst (λ os. FitBlocks c n.labels n.results outer [] os) (sym n.split) (absorb c n.labels n.results outer (operands_of n.result) n.own n.below n.around are); locals = h.locals; gives = h.gives }

    by : (t : Tree) → b.rest ≡ t → closed_in t outer f ≡ Some g → Fits c g
    by done d k = let same : record f { blocks = outer } ≡ g = cc in subst (Fits c) same (left d)
    by (plain i t) d k = absurd (cc)
    by (block ty x t) d k = absurd (cc)
    by (loop ty x t) d k = absurd (cc)
    by (choice ty x y t) d k = absurd (cc)

closed-fits : (c : Context) (f g : Frame) → Fits c f → closed f ≡ Some g → Fits c g
closed-fits c f g h k = by f.blocks refl k
  where
    by : (bs : List OpenBlock) → f.blocks ≡ bs → elim bs as (λ x. Option Frame) [ [] ↦ None | b ∷ outer ↦ closed_in b.rest outer f ] ≡ Some g → Fits c g
    by [] e k = absurd (cc)
    by (b ∷ outer) e k = closed-in-fits c f g b outer h e k

closed-operands : (f g : Frame) → closed f ≡ Some g → g.operands ≡ f.operands
closed-operands f g k = by f.blocks k
  where
    within : (t : Tree) (outer : List OpenBlock) → closed_in t outer f ≡ Some g → g.operands ≡ f.operands
    within done outer k = let same : record f { blocks = outer } ≡ g = cc in sym (ap (λ (x : Frame). x.operands) same)
    within (plain i t) outer k = absurd (cc)
    within (block ty x t) outer k = absurd (cc)
    within (loop ty x t) outer k = absurd (cc)
    within (choice ty x y t) outer k = absurd (cc)

    by : (bs : List OpenBlock) → elim bs as (λ x. Option Frame) [ [] ↦ None | b ∷ outer ↦ closed_in b.rest outer f ] ≡ Some g → g.operands ≡ f.operands
    by [] k = absurd (cc)
    by (b ∷ outer) k = within b.rest outer k

-- ---- a return

none-is : (bs : List OpenBlock) → is_none bs ≡ true → bs ≡ []
none-is [] h = refl
none-is (b ∷ bs) h = absurd (cc)

ended : (c : Context) (labels ts : List (Option ValType)) (operands : List ℕ) → FitBlocks c labels ts [] [] operands → AreOf (operands_of c.result) operands
ended c [] [] operands h = subst (λ x. AreOf x operands) h.2 h.1
ended c [] (t ∷ ts) operands h = absurd h
ended c (l ∷ labels) [] operands h = absurd h
ended c (l ∷ labels) (t ∷ ts) operands h = absurd h

-- a typed call without open blocks has exactly the operands that it gives
pub ended-operands : (c : Context) (f : Frame) → Fits c f → is_none f.blocks ≡ true → AreOf (operands_of c.result) f.operands
ended-operands c f h e = ended c h.labels h.results f.operands (subst (λ bs. FitBlocks c h.labels h.results bs [] f.operands) (none-is f.blocks e) h.blocks)

pub ended-count : (c : Context) (f : Frame) → Fits c f → is_none f.blocks ≡ true → f.results ≡ length f.operands
ended-count c f h e = omega (arith, h.gives, are-length (operands_of c.result) f.operands (ended-operands c f h e))

-- the call that it returns to has them over its own
given-under : (c : Context) (pushed : List ValType) (vs : List ℕ) (f : Frame) → FitsUnder c pushed f → AreOf pushed vs → Fits c (record f { operands = vs ++ f.operands })
given-under c pushed vs f h are =
    record { labels = h.labels; results = h.results; blocks = absorb c h.labels h.results f.blocks pushed vs f.operands h.blocks are; locals = h.locals; gives = h.gives }

cond-some : {A : Type 0} (b : Bool) (x y : A) → cond b (Some x) None ≡ Some y → (b ≡ true) × (x ≡ y)
cond-some true x y h = (refl, cc)
cond-some false x y h = absurd (cc)

returned-frames : (m : Context) (gs : List ValType) (c next : Config) (frames : List Frame) → FitsConfig m gs c → c.waiting ≡ None → c.given ≡ [] → FitFrames m gs [] frames → returned_from c frames ≡ Some next → FitsConfig m gs next
returned-frames m gs c next [] h w g fit e = absurd (cc)
returned-frames m gs c next (f ∷ []) h w g (ls, r, fit, more) e =
    let k = cond-some (is_none f.blocks) (record c { frames = []; given = take f.results f.operands }) next e in
    let are = ended-operands (in_function m ls r) f fit k.0 in
    let all : take f.results f.operands ≡ f.operands = take_all f.results f.operands (omega (arith, ended-count (in_function m ls r) f fit k.0)) in
    let calls : FitsCalls m gs None [] (take f.results f.operands) = (operands_of r, subst (AreOf (operands_of r)) (sym all) are, more) in
    subst (FitsConfig m gs) k.1 (record { store = h.store; calls = subst (λ x. FitsCalls m gs x [] (take f.results f.operands)) (sym w) calls })
returned-frames m gs c next (f ∷ u ∷ fs) h w g (ls, r, fit, (us, q, under, more)) e =
    let vs = take f.results f.operands in
    let k = cond-some (is_none f.blocks) (record c { frames = record u { operands = vs ++ u.operands } ∷ fs }) next e in
    let are = ended-operands (in_function m ls r) f fit k.0 in
    let all : vs ≡ f.operands = take_all f.results f.operands (omega (arith, ended-count (in_function m ls r) f fit k.0)) in
    let there : FitFrames m gs [] (record u { operands = vs ++ u.operands } ∷ fs) = (us, q, given-under (in_function m us q) (operands_of r) vs u under (subst (AreOf (operands_of r)) (sym all) are), more) in
    let calls : FitsCalls m gs None (record u { operands = vs ++ u.operands } ∷ fs) [] = ([], tt, there) in
    subst (FitsConfig m gs) k.1 (record { store = h.store; calls = subst (λ x. FitsCalls m gs x (record u { operands = vs ++ u.operands } ∷ fs) c.given) (sym w) (subst (λ x. FitsCalls m gs None (record u { operands = vs ++ u.operands } ∷ fs) x) (sym g) calls) })

pub returned-fits : (m : Context) (gs : List ValType) (c next : Config) → FitsConfig m gs c → c.waiting ≡ None → c.given ≡ [] → returned_newest c ≡ Some next → FitsConfig m gs next
returned-fits m gs c next h w g e = returned-frames m gs c next c.frames h w g (idle-fits m gs c h w g) e

closed-frames : (m : Context) (gs : List ValType) (c next : Config) (frames : List Frame) → FitsConfig m gs c → c.waiting ≡ None → c.given ≡ [] → FitFrames m gs [] frames → closed_in_newest c frames ≡ Some next → FitsConfig m gs next
closed-frames m gs c next [] h w g fit e = absurd (cc)
closed-frames m gs c next (f ∷ fs) h w g (ls, r, fit, more) e = by (closed f) refl e
  where
    by : (o : Option Frame) → closed f ≡ o → option_map (λ x. record c { frames = x ∷ fs }) o ≡ Some next → FitsConfig m gs next
    by None k e = absurd (cc)
    by (Some x) k e =
        let same : record c { frames = x ∷ fs } ≡ next = cc in
        let there : FitFrames m gs [] (x ∷ fs) = (ls, r, closed-fits (in_function m ls r) f x fit k, more) in
        let calls : FitsCalls m gs None (x ∷ fs) [] = ([], tt, there) in
        subst (FitsConfig m gs) same (record { store = h.store; calls = subst (λ z. FitsCalls m gs z (x ∷ fs) c.given) (sym w) (subst (λ z. FitsCalls m gs None (x ∷ fs) z) (sym g) calls) })

pub closed-newest-fits : (m : Context) (gs : List ValType) (c next : Config) → FitsConfig m gs c → c.waiting ≡ None → c.given ≡ [] → closed_newest c ≡ Some next → FitsConfig m gs next
closed-newest-fits m gs c next h w g e = closed-frames m gs c next c.frames h w g (idle-fits m gs c h w g) e

-- ---- the newest call of the code leaves a block

module _ (p : Parts) (s : State) (n : ℕ) (f : FlatFrame) (t : Newest s.frames.items n f) where
  pub newest-ends : IsSome (closed_newest (config_of p s)) → IsSome (closed (call_of p.funcs f))
  newest-ends h = by (closed (call_of p.funcs f)) (subst (λ x. IsSome (closed_in_newest (config_of p s) x)) (calls-are p.funcs s.frames.items n f t) h)
    where
      by : (o : Option Frame) → IsSome (option_map (λ g. record (config_of p s) { frames = g ∷ map (call_of p.funcs) t.older }) o) → IsSome o
      by None k = absurd (cc)
      by (Some g) k = refl

  module _ (new : State) (g : FlatFrame) (w : Written s new n g) (same : g.func ≡ f.func) (store : store_of new.store ≡ store_of s.store) (closes : closed (call_of p.funcs f) ≡ Some (frame_of (code_at p.funcs f.func) g)) where
    pub closed-written : closed_newest (config_of p s) ≡ Some (config_of p new)
    closed-written =
        ap (closed_in_newest (config_of p s)) (calls-are p.funcs s.frames.items n f t) ∙ ap (option_map (λ x. record (config_of p s) { frames = x ∷ map (call_of p.funcs) t.older })) closes ∙ ap Some (sym (written-config p s n f t new g w same (store_of s.store) (frame_of (code_at p.funcs f.func) g) store refl))

    pub closed-fine : IsFine p s → s.waiting ≡ None → new.operands ≡ s.operands → IsPlaced (code_at p.funcs f.func) g → IsFine p new
    closed-fine h idle ops here =
        let none : s.given ≡ None = subst (IsGivenLast s.given) t.listed h.given in
        let typed = closed-newest-fits (module_context p) h.gives (config_of p s) (config_of p new) h.typed idle (ap values_of none) closed-written in
        let len : length g.operands.items ≡ length f.operands.items = omega (arith, length-reverse g.operands.items, length-reverse f.operands.items, ap (λ (x : List ℕ). length x) (closed-operands (call_of p.funcs f) (frame_of (code_at p.funcs f.func) g) closes)) in
        let counted : new.operands ≡ length g.operands.items + operand_count (map (call_of p.funcs) t.older) = omega (arith, ops, h.counted, operands-are p.funcs s.frames.items n f t, len) in
        written-fine p s n f t new g w same h here h.gives typed (subst (λ x. IsAnswerable p x (g ∷ t.older)) (sym (w.waiting ∙ idle)) tt) counted (omega (arith, ops, h.operands))

-- ---- the newest call of the code returns

returned-some : (c : Config) (b : Bool) → IsSome (cond b (Some c) None) → (b ≡ true) × (cond b (Some c) None ≡ Some c)
returned-some c true h = (refl, refl)
returned-some c false h = absurd (cc)

pub newest-ended : (c : Config) (f : Frame) (fs : List Frame) → c.frames ≡ f ∷ fs → IsSome (returned_newest c) → is_none f.blocks ≡ true
newest-ended c f [] e some = (returned-some (record c { frames = []; given = take f.results f.operands }) (is_none f.blocks) (subst (λ x. IsSome (returned_from c x)) e some)).0
newest-ended c f (g ∷ fs) e some = (returned-some (record c { frames = record g { operands = take f.results f.operands ++ g.operands } ∷ fs }) (is_none f.blocks) (subst (λ x. IsSome (returned_from c x)) e some)).0

-- it has exactly the operands that it gives
pub given-count : (p : Parts) (s : State) (f : FlatFrame) (fs : List FlatFrame) → IsFine p s → s.waiting ≡ None → reverse s.frames.items ≡ f ∷ fs → is_none (call_of p.funcs f).blocks ≡ true → arity_if f.gives ≡ length f.operands.items
given-count p s f fs h idle listed none =
    let given : s.given ≡ None = subst (IsGivenLast s.given) listed h.given in
    let fit = idle-fits (module_context p) h.gives (config_of p s) h.typed idle (ap values_of given) in
    let k : FitFrames (module_context p) h.gives [] (call_of p.funcs f ∷ map (call_of p.funcs) fs) = subst (FitFrames (module_context p) h.gives []) (ap (map (call_of p.funcs)) listed) fit in
    omega (arith, ended-count (in_function (module_context p) k.0 k.1) (call_of p.funcs f) k.2 none, length-reverse f.operands.items)

-- ---- to the call before it

-- with these values over its own operands
under : (funcs : List Func) (g k : FlatFrame) (vs : List ℕ) → k ≡ record g { operands = k.operands } → reverse k.operands.items ≡ vs ++ reverse g.operands.items → call_of funcs k ≡ record (call_of funcs g) { operands = vs ++ reverse g.operands.items }
under funcs g k vs same ops =
    ap (λ (x : FlatFrame). call_of funcs x) same ∙ ap (λ os. let x : Frame = record (call_of funcs g) { operands = os } in x) ops

-- a call with other operands is at its place
placed-under : (funcs : List Func) (g k : FlatFrame) (older : List FlatFrame) → k ≡ record g { operands = k.operands } → ArePlacedIn funcs (g ∷ older) → ArePlacedIn funcs (k ∷ older)
placed-under funcs g k older same h =
    subst (λ x. (x.func < length funcs) × IsPlaced (code_at funcs x.func) x × ArePlacedIn funcs older) (sym same) h

returned-two : (c : Config) (f g : Frame) (fs : List Frame) → c.frames ≡ f ∷ g ∷ fs → IsSome (returned_newest c) → (is_none f.blocks ≡ true) × (returned_newest c ≡ Some (record c { frames = record g { operands = take f.results f.operands ++ g.operands } ∷ fs }))
returned-two c f g fs e some =
    let r = returned-some (record c { frames = record g { operands = take f.results f.operands ++ g.operands } ∷ fs }) (is_none f.blocks) (subst (λ x. IsSome (returned_from c x)) e some) in
    (r.0, ap (returned_from c) e ∙ r.1)

module _ (p : Parts) (s : State) (f g k : FlatFrame) (older : List FlatFrame) (listed : reverse s.frames.items ≡ f ∷ g ∷ older) (same : k ≡ record g { operands = k.operands }) (v : Vec FlatFrame Global) where
  calls-two : calls_of p.funcs s.frames.items ≡ call_of p.funcs f ∷ call_of p.funcs g ∷ map (call_of p.funcs) older
  calls-two = ap (map (call_of p.funcs)) listed

  placed-two : IsFine p s → ArePlacedIn p.funcs (f ∷ g ∷ older)
  placed-two h = subst (ArePlacedIn p.funcs) listed h.placed

  count-two : IsFine p s → s.operands ≡ length f.operands.items + (length g.operands.items + operand_count (map (call_of p.funcs) older))
  count-two h = omega (arith, h.counted, ap operand_count calls-two, length-reverse f.operands.items, length-reverse g.operands.items)

  none-given : IsFine p s → s.given ≡ None
  none-given h = subst (IsGivenLast s.given) listed h.given

  length-two : length s.frames.items ≡ length older + 2
  length-two = omega (arith, ap (λ (x : List FlatFrame). length x) listed, length-reverse s.frames.items)

  -- where the one before it has the values, and it is gone
  module _ (some : IsSome (returned_newest (config_of p s))) (vs : List ℕ) (gives : take (arity_if f.gives) (reverse f.operands.items) ≡ vs) (relisted : reverse v.items ≡ k ∷ older) (ops : reverse k.operands.items ≡ vs ++ reverse g.operands.items) where
    pub returned-config : returned_newest (config_of p s) ≡ Some (config_of p (record s { frames = v }))
    returned-config =
        (returned-two (config_of p s) (call_of p.funcs f) (call_of p.funcs g) (map (call_of p.funcs) older) calls-two some).1 ∙ ap (λ x. Some (record (config_of p s) { frames = record (call_of p.funcs g) { operands = x ++ reverse g.operands.items } ∷ map (call_of p.funcs) older })) gives ∙ ap (λ x. Some (record (config_of p s) { frames = x ∷ map (call_of p.funcs) older })) (sym (under p.funcs g k vs same ops)) ∙ ap (λ x. Some (record (config_of p s) { frames = map (call_of p.funcs) x })) (sym relisted)

    pub returned-fewer : open_count (reverse v.items) < open_count (reverse s.frames.items)
    returned-fewer = rw (relisted, listed) (omega (arith, ap (λ (x : FlatFrame). length x.labels.items) same))

    pub returned-fine : IsFine p s → s.waiting ≡ None → IsFine p (record s { frames = v })
    returned-fine h idle =
        let none = (returned-two (config_of p s) (call_of p.funcs f) (call_of p.funcs g) (map (call_of p.funcs) older) calls-two some).0 in
        let count : arity_if f.gives ≡ length f.operands.items = given-count p s f (g ∷ older) h idle listed none in
        let len : length vs ≡ length f.operands.items = omega (arith, ap (λ (x : List ℕ). length x) gives, length-take (arity_if f.gives) (reverse f.operands.items), length-reverse f.operands.items, count) in
        let own : length k.operands.items ≡ length f.operands.items + length g.operands.items = omega (arith, len, ap (λ (x : List ℕ). length x) ops, length-append vs (reverse g.operands.items), length-reverse k.operands.items, length-reverse g.operands.items) in
        let after : operand_count (calls_of p.funcs v.items) ≡ length k.operands.items + operand_count (map (call_of p.funcs) older) = omega (arith, ap (λ x. operand_count (map (call_of p.funcs) x)) relisted, length-reverse k.operands.items) in
        record {
          program = h.program;
          gives = h.gives;
          typed = returned-fits (module_context p) h.gives (config_of p s) (config_of p (record s { frames = v })) h.typed idle (ap values_of (none-given h)) returned-config;
          placed = subst (ArePlacedIn p.funcs) (sym relisted) (placed-under p.funcs g k older same (placed-two h).2);
          counted = omega (arith, after, own, count-two h);
          operands = h.operands;
          frames = omega (arith, h.frames, length-two, ap (λ (x : List FlatFrame). length x) relisted, length-reverse v.items);
          gap = h.gap;
          answerable = subst (λ x. IsAnswerable p x (reverse v.items)) (sym idle) tt;
          given = subst (IsGivenLast s.given) (sym relisted) (none-given h);
        }

  -- where nothing could be put there
  module _ (relisted : reverse v.items ≡ f ∷ k ∷ older) (ops : k.operands.items ≡ g.operands.items) where
    pub kept-config : config_of p (record s { frames = v }) ≡ config_of p s
    kept-config =
        let call : call_of p.funcs k ≡ call_of p.funcs g = under p.funcs g k [] same (ap reverse ops) in
        ap (λ x. let c : Config = record (config_of p s) { frames = map (call_of p.funcs) x } in c) relisted ∙ ap (λ x. let c : Config = record (config_of p s) { frames = call_of p.funcs f ∷ x ∷ map (call_of p.funcs) older } in c) call ∙ ap (λ x. let c : Config = record (config_of p s) { frames = x } in c) (sym calls-two)

    pub kept-fine : IsFine p s → s.waiting ≡ None → IsFine p (record s { frames = v })
    kept-fine h idle =
        let q = placed-two h in
        record {
          program = h.program;
          gives = h.gives;
          typed = subst (FitsConfig (module_context p) h.gives) (sym kept-config) h.typed;
          placed = subst (ArePlacedIn p.funcs) (sym relisted) (q.0, q.1, placed-under p.funcs g k older same q.2);
          counted = h.counted ∙ sym (ap (λ (x : Config). operand_count x.frames) kept-config);
          operands = h.operands;
          frames = omega (arith, h.frames, length-two, ap (λ (x : List FlatFrame). length x) relisted, length-reverse v.items);
          gap = h.gap;
          answerable = subst (λ x. IsAnswerable p x (reverse v.items)) (sym idle) tt;
          given = subst (IsGivenLast s.given) (sym relisted) (none-given h);
        }

-- ---- from the last call

returned-one : (c : Config) (f : Frame) → c.frames ≡ f ∷ [] → IsSome (returned_newest c) → (is_none f.blocks ≡ true) × (returned_newest c ≡ Some (record c { frames = []; given = take f.results f.operands }))
returned-one c f e some =
    let r = returned-some (record c { frames = []; given = take f.results f.operands }) (is_none f.blocks) (subst (λ x. IsSome (returned_from c x)) e some) in
    (r.0, ap (returned_from c) e ∙ r.1)

module _ (p : Parts) (s : State) (f : FlatFrame) (listed : reverse s.frames.items ≡ f ∷ []) (some : IsSome (returned_newest (config_of p s))) (value : Option ℕ) (gives : take (arity_if f.gives) (reverse f.operands.items) ≡ values_of value) (v : Vec FlatFrame Global) (gone : v.items ≡ []) where
  pub ended-config : returned_newest (config_of p s) ≡ Some (config_of p (record s { frames = v; operands = 0; given = value }))
  ended-config =
      (returned-one (config_of p s) (call_of p.funcs f) (ap (map (call_of p.funcs)) listed) some).1 ∙ ap (λ x. Some (record (config_of p s) { frames = []; given = x })) gives ∙ ap (λ x. Some (record (config_of p s) { frames = calls_of p.funcs x; given = values_of value })) (sym gone)

  pub ended-fewer : open_count (reverse v.items) < open_count (reverse s.frames.items)
  ended-fewer = rw (gone, listed) (omega arith)

  pub ended-fine : IsFine p s → s.waiting ≡ None → IsFine p (record s { frames = v; operands = 0; given = value })
  ended-fine h idle =
      let given : s.given ≡ None = subst (IsGivenLast s.given) listed h.given in
      record {
        program = h.program;
        gives = h.gives;
        typed = returned-fits (module_context p) h.gives (config_of p s) (config_of p (record s { frames = v; operands = 0; given = value })) h.typed idle (ap values_of given) ended-config;
        placed = subst (λ x. ArePlacedIn p.funcs (reverse x)) (sym gone) tt;
        counted = sym (ap (λ x. operand_count (calls_of p.funcs x)) gone);
        operands = omega arith;
        frames = omega (arith, ap (λ (x : List FlatFrame). length x) gone);
        gap = h.gap;
        answerable = subst (λ x. IsAnswerable p x (reverse v.items)) (sym idle) tt;
        given = subst (λ x. IsGivenLast value (reverse x)) (sym gone) tt;
      }
