-- A frame of a typed function, at its innermost block, and where a branch leads from there.
use Rattle.std.proofs.Common.{true, cond, ◌≡◌, ℕ, zero, suc, ◌+◌, ◌-◌, ◌≤◌, List, [], ◌∷◌, ◌++◌, length, take, drop, Option, Some, None, refl, sym, ap, ◌∙◌, subst, arith, append_assoc, length-append}
use Rattle.std.proofs.lemmas.List.{take_at, drop_at}
use Rattle.std.proofs.lemmas.Bool.{le-leb}
use Rattle.std.specs.Prelude.{nat_le, slice_get}
use Rattle.mv_syntax.specs.declared.ops.ValType.{ValType}
use Rattle.mv_syntax.specs.Tree.{Tree}
use Rattle.mv_validator.specs.Types.{operands_of}
use Rattle.mv_validator.specs.Typing.{Context, Types}
use Rattle.mv_execution.specs.Config.{Store, OpenBlock, Frame}
use Rattle.mv_execution.specs.Rows.{Goes, Traps, Stuck, Next, kept, carried, begun_again, branched_to, branched}
use Rattle.mv_execution.specs.Fits.{AreOf, AreSound, AgainFits, FitBlocks, Fits, FitsStore}
use Rattle.mv_execution.proofs.Operands.{are-length, are-append}

-- the operands of an inner block come over those of the block around it
pub absorb : (c : Context) (labels ts : List (Option ValType)) (bs : List OpenBlock) (pushed : List ValType) (vs below : List ℕ) → FitBlocks c labels ts bs pushed below → AreOf pushed vs → FitBlocks c labels ts bs [] (vs ++ below)
absorb c [] [] [] pushed vs below h a = (pushed ++ h.0, are-append pushed h.0 vs below a h.1, h.2)
absorb c [] [] (b ∷ bs) pushed vs below h a = absurd h
absorb c [] (t ∷ ts) bs pushed vs below h a = absurd h
absorb c (l ∷ labels) [] bs pushed vs below h a = absurd h
absorb c (l ∷ labels) (t ∷ ts) [] pushed vs below h a = absurd h
absorb c (l ∷ labels) (t ∷ ts) (b ∷ bs) pushed vs below (own, under, split, height, f, around) a =
    (vs ++ own, under, ap (λ x. vs ++ x) split ∙ sym (append_assoc vs own under), height, record { types = pushed ++ f.types; are = are-append pushed f.types vs own a f.are; typed = f.typed; sound = f.sound; arity = f.arity; again = f.again }, around)

-- A frame, but for the type of what is left of its innermost block.
pub record Front (c : Context) (f : Frame) : Type 0 where
  pub label : Option ValType
  pub result : Option ValType
  pub labels : List (Option ValType)
  pub results : List (Option ValType)
  pub block : OpenBlock
  pub outer : List OpenBlock
  pub own : List ℕ
  pub below : List ℕ
  pub blocks : f.blocks ≡ block ∷ outer
  pub split : f.operands ≡ own ++ below
  pub height : block.height ≡ length below
  pub arity : block.arity ≡ length (operands_of label)
  pub again : AgainFits (record c { labels = label ∷ labels }) label result block.again
  pub around : FitBlocks c labels results outer (operands_of result) below
  pub locals : AreOf c.locals f.locals
  pub gives : f.results ≡ length (operands_of c.result)

-- the context of its innermost block
abbrev pub inside : (c : Context) (f : Frame) → Front c f → Context
inside c f h = record c { labels = h.label ∷ h.labels }

-- with its type it is a frame that fits
pub front-fits : (c : Context) (f : Frame) (h : Front c f) (types : List ValType) → AreOf types h.own → Types (inside c f h) h.block.rest types (operands_of h.result) → AreSound h.block.rest → Fits c f
front-fits c f h types are typed sound =
    record { labels = h.label ∷ h.labels; results = h.result ∷ h.results; blocks = subst (λ bs. FitBlocks c (h.label ∷ h.labels) (h.result ∷ h.results) bs [] f.operands) (sym h.blocks) (h.own, h.below, h.split, h.height, record { types = types; are = are; typed = typed; sound = sound; arity = h.arity; again = h.again }, h.around); locals = h.locals; gives = h.gives }

-- an open block that a branch finds
record Found (c : Context) (labels ts : List (Option ValType)) (bs : List OpenBlock) (operands : List ℕ) (n : ℕ) (label : Option ValType) (least : ℕ) : Type 0 where
  block : OpenBlock
  outer : List OpenBlock
  result : Option ValType
  labels' : List (Option ValType)
  results' : List (Option ValType)
  over : List ℕ
  below : List ℕ
  dropped : drop n bs ≡ block ∷ outer
  split : operands ≡ over ++ below
  enough : least ≤ length over
  height : block.height ≡ length below
  arity : block.arity ≡ length (operands_of label)
  again : AgainFits (record c { labels = label ∷ labels' }) label result block.again
  around : FitBlocks c labels' results' outer (operands_of result) below

found : (c : Context) (labels ts : List (Option ValType)) (bs : List OpenBlock) (pushed : List ValType) (operands : List ℕ) (n : ℕ) (label : Option ValType) → FitBlocks c labels ts bs pushed operands → slice_get labels n ≡ Some label → Found c labels ts bs operands n label 0
found c [] ts bs pushed operands n label h e = absurd (cc)
found c (l ∷ labels) [] bs pushed operands n label h e = absurd h
found c (l ∷ labels) (t ∷ ts) [] pushed operands n label h e = absurd h
found c (l ∷ labels) (t ∷ ts) (b ∷ bs) pushed operands zero label (own, below, split, height, f, around) e =
    let same : l ≡ label = cc in
    record { block = b; outer = bs; result = t; labels' = labels; results' = ts; over = own; below = below; dropped = refl; split = split; enough = omega arith; height = height; arity = subst (λ x. b.arity ≡ length (operands_of x)) same f.arity; again = subst (λ x. AgainFits (record c { labels = x ∷ labels }) x t b.again) same f.again; around = around }
found c (l ∷ labels) (t ∷ ts) (b ∷ bs) pushed operands (suc n) label (own, below, split, height, f, around) e =
    let g = found c labels ts bs (operands_of t) below n label around e in
    record { block = g.block; outer = g.outer; result = g.result; labels' = g.labels'; results' = g.results'; over = own ++ g.over; below = g.below; dropped = g.dropped; split = split ∙ ap (λ x. own ++ x) g.split ∙ sym (append_assoc own g.over g.below); enough = omega arith; height = g.height; arity = g.arity; again = g.again; around = g.around }

found-front : (c : Context) (f : Frame) (h : Front c f) (n : ℕ) (label : Option ValType) → slice_get (h.label ∷ h.labels) n ≡ Some label → Found c (h.label ∷ h.labels) (h.result ∷ h.results) f.blocks f.operands n label (length h.own)
found-front c f h zero label e =
    let same : h.label ≡ label = cc in
    record { block = h.block; outer = h.outer; result = h.result; labels' = h.labels; results' = h.results; over = h.own; below = h.below; dropped = h.blocks; split = h.split; enough = omega arith; height = h.height; arity = subst (λ x. h.block.arity ≡ length (operands_of x)) same h.arity; again = subst (λ x. AgainFits (record c { labels = x ∷ h.labels }) x h.result h.block.again) same h.again; around = h.around }
found-front c f h (suc n) label e =
    let g = found c h.labels h.results h.outer (operands_of h.result) h.below n label h.around e in
    record { block = g.block; outer = g.outer; result = g.result; labels' = g.labels'; results' = g.results'; over = h.own ++ g.over; below = g.below; dropped = ap (drop (suc n)) h.blocks ∙ g.dropped; split = h.split ∙ ap (λ x. h.own ++ x) g.split ∙ sym (append_assoc h.own g.over g.below); enough = omega (arith, length-append h.own g.over); height = g.height; arity = g.arity; again = g.again; around = g.around }

-- where a branch leads fits
begun-fits : (c : Context) (f : Frame) (label result : Option ValType) (labels results : List (Option ValType)) (b : OpenBlock) (outer : List OpenBlock) (vs below : List ℕ) (o : Option Tree) → b.again ≡ o → b.height ≡ length below → b.arity ≡ length (operands_of label) → AgainFits (record c { labels = label ∷ labels }) label result o → FitBlocks c labels results outer (operands_of result) below → AreOf (operands_of label) vs → AreOf c.locals f.locals → f.results ≡ length (operands_of c.result) → Fits c (record f { operands = vs ++ below; blocks = begun_again b outer })
begun-fits c f label result labels results b outer vs below None is height arity again around are locals gives =
    let e : begun_again b outer ≡ outer = ap (λ x. elim x as (λ y. List OpenBlock) [ None ↦ outer | Some body ↦ record b { rest = body } ∷ outer ]) is in
    record { labels = labels; results = results; blocks = subst (λ bs. FitBlocks c labels results bs [] (vs ++ below)) (sym e) (absorb c labels results outer (operands_of result) vs below around (subst (λ x. AreOf (operands_of x) vs) again are)); locals = locals; gives = gives }
begun-fits c f label result labels results b outer vs below (Some body) is height arity (none, typed, sound) around are locals gives =
    let e : begun_again b outer ≡ record b { rest = body } ∷ outer = ap (λ x. elim x as (λ y. List OpenBlock) [ None ↦ outer | Some body ↦ record b { rest = body } ∷ outer ]) is in
    let vs-none : vs ≡ [] = no-values vs (subst (λ x. AreOf (operands_of x) vs) none are) in
    record { labels = label ∷ labels; results = result ∷ results; blocks = subst (λ bs. FitBlocks c (label ∷ labels) (result ∷ results) bs [] (vs ++ below)) (sym e) ([], below, ap (λ x. x ++ below) vs-none, height, record { types = []; are = tt; typed = typed; sound = sound; arity = arity; again = subst (λ x. AgainFits (record c { labels = label ∷ labels }) label result x) (sym is) (none, typed, sound) }, around); locals = locals; gives = gives }
  where
    no-values : (vs : List ℕ) → AreOf [] vs → vs ≡ []
    no-values [] h = refl
    no-values (v ∷ vs) h = absurd h

-- what an instruction came to has the types of the module and of the frame's function
abbrev pub OutFits : Context → Context → Next → Type 0
OutFits m c (Goes next) = FitsStore m next.0 × Fits c next.1
OutFits m c (Traps t) = Unit {0}
OutFits m c Stuck = ⊥

pub branch-fits : (m c : Context) (s : Store) → FitsStore m s → (f : Frame) (h : Front c f) (n : ℕ) (label : Option ValType) (vs w : List ℕ) → slice_get (h.label ∷ h.labels) n ≡ Some label → h.own ≡ vs ++ w → AreOf (operands_of label) vs → OutFits m c (kept s (branched n f))
branch-fits m c s store f h n label vs w e own are =
    let d = found-front c f h n label e in
    let len-vs : length (operands_of label) ≡ length vs = are-length (operands_of label) vs are in
    let own-len : length h.own ≡ length vs + length w = ap (λ (x : List ℕ). length x) own ∙ length-append vs w in
    let ops-len : length f.operands ≡ length d.over + length d.below = ap (λ (x : List ℕ). length x) d.split ∙ length-append d.over d.below in
    let front : f.operands ≡ vs ++ (w ++ h.below) = h.split ∙ ap (λ x. x ++ h.below) own ∙ append_assoc vs w h.below in
    let t : take d.block.arity f.operands ≡ vs = ap (take d.block.arity) front ∙ take_at vs (w ++ h.below) d.block.arity (sym len-vs ∙ sym d.arity) in
    let u : drop (length f.operands - d.block.height) f.operands ≡ d.below = ap (drop (length f.operands - d.block.height)) d.split ∙ drop_at d.over d.below (length f.operands - d.block.height) (omega (arith, ops-len, d.height)) in
    let k : carried d.block f.operands ≡ vs ++ d.below = rw (t, u) refl in
    let can : nat_le (d.block.height + d.block.arity) (length f.operands) ≡ true = le-leb (d.block.height + d.block.arity) (length f.operands) (omega (arith, d.height, d.arity, len-vs, own-len, ops-len, d.enough)) in
    let is : branched n f ≡ Some (record f { operands = vs ++ d.below; blocks = begun_again d.block d.outer }) = ap (λ bs. branched_to bs f) d.dropped ∙ ap (λ b. cond b (Some (record f { operands = carried d.block f.operands; blocks = begun_again d.block d.outer })) None) can ∙ ap (λ os. Some (record f { operands = os; blocks = begun_again d.block d.outer })) k in
    subst (λ o. OutFits m c (kept s o)) (sym is) (store, begun-fits c f label d.result d.labels' d.results' d.block d.outer vs d.below d.block.again refl d.height d.arity d.again d.around are h.locals h.gives)

-- the same frame with other operands of its innermost block
abbrev pub with_own : (c : Context) (f : Frame) → Front c f → List ℕ → Frame
with_own c f h own = record f { operands = own ++ h.below }

abbrev pub set-own : (c : Context) (f : Frame) (h : Front c f) (own : List ℕ) → Front c (with_own c f h own)
set-own c f h own =
    record { label = h.label; result = h.result; labels = h.labels; results = h.results; block = h.block; outer = h.outer; own = own; below = h.below; blocks = h.blocks; split = refl; height = h.height; arity = h.arity; again = h.again; around = h.around; locals = h.locals; gives = h.gives }
