-- The first instruction of what is left of a typed frame's innermost block.
use Rattle.std.proofs.Common.{true, false, cond, Bool, ◌≡◌, ℕ, ◌^◌, List, [], ◌∷◌, ◌++◌, length, Option, Some, None, refl, sym, ap, ◌∙◌, subst}
use Rattle.std.specs.Prelude.{◌==◌}
use Rattle.std.proofs.lemmas.Bool.{lt-ltb}
use Rattle.mv_syntax.specs.declared.ops.ValType.{ValType}
use Rattle.mv_syntax.specs.declared.ops.ValType.TheVariants.{I32}
use Rattle.mv_syntax.specs.Tree.{Tree, done, plain, block, loop, choice}
use Rattle.mv_validator.specs.Types.{operands_of}
use Rattle.mv_validator.specs.Typing.{Context, Types}
use Rattle.mv_syntax.specs.Types.{bit_width}
use Rattle.mv_execution.specs.Values.{is_of, arity_of}
use Rattle.mv_execution.specs.Config.{Store, OpenBlock, Frame}
use Rattle.mv_execution.specs.Rows.{kept, entered, advanced}
use Rattle.mv_execution.specs.Fits.{AreOf, AreSound, in_function, AgainFits, FitsBlock, FitBlocks, Fits, FitsStore}
use Rattle.mv_execution.proofs.Operands.{one}
use Rattle.mv_execution.proofs.Branches.{Front, OutFits}
use Rattle.mv_execution.proofs.Acts.{stays, acted-goes}

-- The front of a frame that fits, and the type of what is left of its innermost block.
pub record Inner (c : Context) (f : Frame) (b : OpenBlock) (outer : List OpenBlock) : Type 0 where
  pub label : Option ValType
  pub result : Option ValType
  pub labels : List (Option ValType)
  pub results : List (Option ValType)
  pub own : List ℕ
  pub below : List ℕ
  pub split : f.operands ≡ own ++ below
  pub height : b.height ≡ length below
  pub fits : FitsBlock (record c { labels = label ∷ labels }) label result b [] own
  pub around : FitBlocks c labels results outer (operands_of result) below

inner-of : (c : Context) (f : Frame) (labels ts : List (Option ValType)) (b : OpenBlock) (outer : List OpenBlock) → FitBlocks c labels ts (b ∷ outer) [] f.operands → Inner c f b outer
inner-of c f [] [] b outer h = absurd h
inner-of c f [] (t ∷ ts) b outer h = absurd h
inner-of c f (l ∷ labels) [] b outer h = absurd h
inner-of c f (l ∷ labels) (t ∷ ts) b outer (own, below, split, height, fits, around) =
    record { label = l; result = t; labels = labels; results = ts; own = own; below = below; split = split; height = height; fits = fits; around = around }

pub inner : (c : Context) (f : Frame) (b : OpenBlock) (outer : List OpenBlock) → Fits c f → f.blocks ≡ b ∷ outer → Inner c f b outer
inner c f b outer h e = inner-of c f h.labels h.results b outer (subst (λ bs. FitBlocks c h.labels h.results bs [] f.operands) e h.blocks)

-- with what is left behind the first instruction
abbrev pub front-of : (c : Context) (f : Frame) (b : OpenBlock) (outer : List OpenBlock) (rest : Tree) → Inner c f b outer → AreOf c.locals f.locals → f.results ≡ length (operands_of c.result) → Front c (record f { blocks = record b { rest = rest } ∷ outer })
front-of c f b outer rest n locals gives =
    record { label = n.label; result = n.result; labels = n.labels; results = n.results; block = record b { rest = rest }; outer = outer; own = n.own; below = n.below; blocks = refl; split = n.split; height = n.height; arity = n.fits.arity; again = n.fits.again; around = n.around; locals = locals; gives = gives }

-- the tree begins with an instruction that calls nothing
abbrev pub Stays : Tree → Type 0
Stays done = ⊥
Stays (plain i rest) = stays i ≡ true
Stays t = Unit {0}

-- a frame in a new block
entered-fits : (c : Context) (f : Frame) (b : OpenBlock) (outer : List OpenBlock) (n : Inner c f b outer) (label t : Option ValType) (body rest : Tree) (again : Option Tree) (arity : ℕ) (under : List ℕ) (m : List ValType) (own : List ℕ) → under ≡ own ++ n.below → AreOf m own → Types (record c { labels = label ∷ n.label ∷ n.labels }) body [] (operands_of t) → AreSound body → arity ≡ length (operands_of label) → AgainFits (record c { labels = label ∷ n.label ∷ n.labels }) label t again → Types (record c { labels = n.label ∷ n.labels }) rest (operands_of t ++ m) (operands_of n.result) → AreSound rest → AreOf c.locals f.locals → f.results ≡ length (operands_of c.result) → Fits c (entered again arity body rest b outer (record f { operands = under }))
entered-fits c f b outer n label t body rest again arity under m own split are typed sound ar ag after sound' locals gives =
    record { labels = label ∷ n.label ∷ n.labels; results = t ∷ n.result ∷ n.results; blocks = ([], under, refl, refl, record { types = []; are = tt; typed = typed; sound = sound; arity = ar; again = ag }, (own, n.below, split, n.height, record { types = m; are = are; typed = after; sound = sound'; arity = n.fits.arity; again = n.fits.again }, n.around)); locals = locals; gives = gives }

arity-length : (t : Option ValType) → arity_of t ≡ length (operands_of t)
arity-length None = refl
arity-length (Some u) = refl

-- One instruction that stays in its frame is never stuck, and the frame fits again.
pub advanced-goes : (m : Context) (ls : List ValType) (r : Option ValType) (s : Store) (f : Frame) (b : OpenBlock) (outer : List OpenBlock) (n : Inner (in_function m ls r) f b outer) (tree : Tree) → FitsStore m s → AreOf ls f.locals → f.results ≡ length (operands_of r) → Types (record (in_function m ls r) { labels = n.label ∷ n.labels }) tree n.fits.types (operands_of n.result) → AreSound tree → Stays tree → OutFits m (in_function m ls r) (advanced tree b outer s f)
advanced-goes m ls r s f b outer n done store locals gives typed sound st = absurd st
advanced-goes m ls r s f b outer n (plain i rest) store locals gives (x, y, u, ty, xe, typed) sound st =
    acted-goes m ls r s (record f { blocks = record b { rest = rest } ∷ outer }) (front-of (in_function m ls r) f b outer rest n locals gives) i x y u store (subst (λ z. AreOf z n.own) xe n.fits.are) ty typed sound.1 sound.0 st
advanced-goes m ls r s f b outer n (block t body rest) store locals gives typed sound st =
    (store, entered-fits (in_function m ls r) f b outer n t t body rest None (arity_of t) f.operands n.fits.types n.own n.split n.fits.are typed.0 sound.0 (arity-length t) refl typed.1 sound.1 locals gives)
advanced-goes m ls r s f b outer n (loop t body rest) store locals gives typed sound st =
    (store, entered-fits (in_function m ls r) f b outer n None t body rest (Some body) 0 f.operands n.fits.types n.own n.split n.fits.are typed.0 sound.0 refl (refl, typed.0, sound.0) typed.1 sound.1 locals gives)
advanced-goes m ls r s f b outer n (choice t first second rest) store locals gives (below, e, ft, sd, after) sound st =
    let c = in_function m ls r in
    let o = one I32 below n.own (subst (λ z. AreOf z n.own) e n.fits.are) in
    let ops : f.operands ≡ o.0 ∷ (o.1 ++ n.below) = n.split ∙ ap (λ z. z ++ n.below) o.2 in
    subst (λ os. OutFits m c (kept s (elim os as (λ z. Option Frame) [ [] ↦ None | v ∷ under ↦ cond (is_of I32 v) (Some (entered None (arity_of t) (cond (v == 0) second first) rest b outer (record f { operands = under }))) None ]))) (sym ops)
    (subst (λ z. OutFits m c (kept s (cond z (Some (entered None (arity_of t) (cond (o.0 == 0) second first) rest b outer (record f { operands = o.1 ++ n.below }))) None))) (sym (lt-ltb o.0 (2 ^ bit_width I32) o.3))
    (store, by (o.0 == 0) o.1 o.4))
  where
    by : (test : Bool) (own : List ℕ) → AreOf below own → Fits (in_function m ls r) (entered None (arity_of t) (cond test second first) rest b outer (record f { operands = own ++ n.below }))
    by true own are = entered-fits (in_function m ls r) f b outer n t t second rest None (arity_of t) (own ++ n.below) below own refl are sd sound.1 (arity-length t) refl after sound.2 locals gives
    by false own are = entered-fits (in_function m ls r) f b outer n t t first rest None (arity_of t) (own ++ n.below) below own refl are ft sound.0 (arity-length t) refl after sound.2 locals gives
