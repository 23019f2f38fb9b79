-- What stands in front of the newest call of the code, and what passing an end keeps.
use Rattle.std.proofs.Common.{true, false, cond, Bool, ◌≡◌, ℕ, ◌<◌, List, [], ◌∷◌, ◌++◌, length, take, get_or, Option, Some, None, refl, sym, ap, ◌∙◌, subst, arith}
use Rattle.std.specs.Prelude.{reverse, IsSome, is_some, map}
use Rattle.std.specs.Option.{option_map}
use Rattle.mv_syntax.specs.declared.instr.Instr.{Instr}
use Rattle.mv_syntax.specs.declared.instr.Instr.TheVariants.{Block, Loop, If, Else, End}
use Rattle.mv_syntax.specs.declared.module.Func.{Func}
use Rattle.mv_syntax.specs.Sections.{Parts}
use Rattle.mv_syntax.specs.Tree.{Tree, done, plain, block, loop, choice, Rest, in_front, ends_list}
use Rattle.mv_syntax.proofs.TreeLaws.{behind-at}
use Rattle.mv_execution.specs.Config.{OpenBlock, Frame, Config}
use Rattle.mv_execution.specs.Run.{is_done, open_blocks, is_none, settled_frames, with_frames, settled}
use Rattle.mv_frames.specs.declared.frame.Label.{Label}
use Rattle.mv_frames.specs.declared.frame.Frame.{Frame as FlatFrame}
use Rattle.mv_frames.specs.Blocks.{closed, closed_in}
use Rattle.mv_frames.specs.Frames.{left_at, block_of, blocks_of}
use Rattle.mv_frames.proofs.Advances.{Top, top, tree-end, tree-else, front-opened, front-chosen}
use Rattle.mv_machine.specs.declared.state.State.{State}
use Rattle.mv_machine.specs.States.{code_at, call_of, values_of, config_of, IsGivenLast, IsFine}
use Rattle.mv_machine.specs.Turns.{AreReady, IsReady}
use Rattle.mv_machine.specs.Calls.{closed_in_newest, closed_newest, returned_from, returned_newest}
use Rattle.mv_machine.proofs.Newest.{Newest, newest-placed, calls-are}

-- ---- over trees: an end that is passed leaves what the configuration settles to

settled-where : (c : Config) → c.waiting ≡ None → settled c ≡ with_frames c (settled_frames c.given c.frames)
settled-where c w = ap (λ o. elim o as (λ z. Config) [ Some x ↦ c | None ↦ with_frames c (settled_frames c.given c.frames) ]) w

-- what closes, and how
record Closing (f g : Frame) : Type 0 where
  block : OpenBlock
  outer : List OpenBlock
  blocks : f.blocks ≡ block ∷ outer
  ends : block.rest ≡ done
  left : record f { blocks = outer } ≡ g

closing-in : (t : Tree) (outer : List OpenBlock) (f g : Frame) → closed_in t outer f ≡ Some g → (t ≡ done) × (record f { blocks = outer } ≡ g)
closing-in done outer f g h = (refl, cc)
closing-in (plain i t) outer f g h = absurd (cc)
closing-in (block ty b t) outer f g h = absurd (cc)
closing-in (loop ty b t) outer f g h = absurd (cc)
closing-in (choice ty a b t) outer f g h = absurd (cc)

closing : (f g : Frame) → closed f ≡ Some g → Closing f g
closing f g h = by f.blocks refl h
  where
    by : (bs : List OpenBlock) → f.blocks ≡ bs → elim bs as (λ x. Option Frame) [ [] ↦ None | b ∷ outer ↦ closed_in b.rest outer f ] ≡ Some g → Closing f g
    by [] e k = absurd (cc)
    by (b ∷ outer) e k = let c = closing-in b.rest outer f g k in record { block = b; outer = outer; blocks = e; ends = c.0; left = c.1 }

settled-close : (given : List ℕ) (f g : Frame) (fs : List Frame) → Closing f g → ◌≡◌ {A = List ℕ × List Frame} (settled_frames given (f ∷ fs)) (settled_frames given (g ∷ fs))
settled-close given f g fs k =
    let same : open_blocks f.blocks ≡ open_blocks k.outer = ap open_blocks k.blocks ∙ ap (λ t. cond (is_done t) (open_blocks k.outer) (k.block ∷ k.outer)) k.ends in
    ap (λ bs. cond (is_none bs) (settled_frames (take f.results (given ++ f.operands)) fs) ([], record f { operands = given ++ f.operands; blocks = bs } ∷ fs)) same ∙ ap (λ (x : Frame). settled_frames given (x ∷ fs)) k.left

-- a block is left
pub closed-settles : (c d : Config) → c.waiting ≡ None → closed_newest c ≡ Some d → settled c ≡ settled d
closed-settles c d w e = by c.frames refl e
  where
    on : (f : Frame) (fs : List Frame) (o : Option Frame) → c.frames ≡ f ∷ fs → closed f ≡ o → option_map (λ g. record c { frames = g ∷ fs }) o ≡ Some d → settled c ≡ settled d
    on f fs None l k h = absurd (cc)
    on f fs (Some g) l k h =
        let next : record c { frames = g ∷ fs } ≡ d = cc in
        settled-where c w ∙ ap (λ x. with_frames c (settled_frames c.given x)) l ∙ ap (with_frames c) (settled-close c.given f g fs (closing f g k)) ∙ sym (settled-where (record c { frames = g ∷ fs }) w) ∙ ap settled next

    by : (frames : List Frame) → c.frames ≡ frames → closed_in_newest c frames ≡ Some d → settled c ≡ settled d
    by [] l h = absurd (cc)
    by (f ∷ fs) l h = on f fs (closed f) l refl h

is-none : (bs : List OpenBlock) → is_none bs ≡ true → bs ≡ []
is-none [] h = refl
is-none (b ∷ bs) h = absurd (cc)

if-some : {A : Type 0} (b : Bool) (x y : A) → cond b (Some x) None ≡ Some y → (b ≡ true) × (x ≡ y)
if-some true x y h = (refl, cc)
if-some false x y h = absurd (cc)

settled-return : (f : Frame) (fs : List Frame) → f.blocks ≡ [] → ◌≡◌ {A = List ℕ × List Frame} (settled_frames [] (f ∷ fs)) (settled_frames (take f.results f.operands) fs)
settled-return f fs e =
    ap (λ bs. cond (is_none bs) (settled_frames (take f.results f.operands) fs) ([], record f { blocks = bs } ∷ fs)) (ap open_blocks e)

-- a call returns
pub returned-settles : (c d : Config) → c.waiting ≡ None → c.given ≡ [] → returned_newest c ≡ Some d → settled c ≡ settled d
returned-settles c d w none e = by c.frames refl e
  where
    start : (f : Frame) (fs : List Frame) → c.frames ≡ f ∷ fs → f.blocks ≡ [] → settled c ≡ with_frames c (settled_frames (take f.results f.operands) fs)
    start f fs l b =
        settled-where c w ∙ ap (λ x. with_frames c (settled_frames c.given x)) l ∙ ap (λ x. with_frames c (settled_frames x (f ∷ fs))) none ∙ ap (with_frames c) (settled-return f fs b)

    by : (frames : List Frame) → c.frames ≡ frames → returned_from c frames ≡ Some d → settled c ≡ settled d
    by [] l h = absurd (cc)
    by (f ∷ []) l h =
        let k = if-some (is_none f.blocks) (record c { frames = []; given = take f.results f.operands }) d h in
        start f [] l (is-none f.blocks k.0) ∙ sym (settled-where (record c { frames = []; given = take f.results f.operands }) w) ∙ ap settled k.1
    by (f ∷ g ∷ fs) l h =
        let next : Config = record c { frames = record g { operands = take f.results f.operands ++ g.operands } ∷ fs } in
        let k = if-some (is_none f.blocks) next d h in
        start f (g ∷ fs) l (is-none f.blocks k.0) ∙ sym (ap (λ x. with_frames c (settled_frames x next.frames)) none) ∙ sym (settled-where next w) ∙ ap settled k.1

-- ---- in the code

no-items : (ls : List Label) → length ls ≡ 0 → ls ≡ []
no-items [] h = refl
no-items (l ∷ ls) h = absurd (omega (arith, h))

pub no-blocks : (funcs : List Func) (f : FlatFrame) → length f.labels.items ≡ 0 → (call_of funcs f).blocks ≡ []
no-blocks funcs f h = ap (λ ls. blocks_of (code_at funcs f.func) (reverse ls) (left_at (code_at funcs f.func) f.at)) (no-items f.labels.items h)

list-ends : (code : List Instr) (f : FlatFrame) (t : Top code f) (i : Instr) → i ≡ get_or code f.at i → ends_list i ≡ true → t.rest.tree ≡ done
list-ends code f t End is h = tree-end code f t is
list-ends code f t Else is h = tree-else code f t is
list-ends code f t i is h = absurd (cc)

-- an instruction that ends no list stands in front of more
front-more : (i : Instr) (behind : List Rest) (r : Rest) (rs : List Rest) → ends_list i ≡ false → in_front i behind ≡ Some (r ∷ rs) → is_done r.tree ≡ false
front-more (Block ty) behind r rs not h = let o = front-opened (block ty) behind r rs h in ap is_done o.3
front-more (Loop ty) behind r rs not h = let o = front-opened (loop ty) behind r rs h in ap is_done o.3
front-more (If ty) behind r rs not h = let o = front-chosen ty behind r rs h in ap is_done o.3
front-more Else behind r rs not h = absurd (cc)
front-more End behind r rs not h = absurd (cc)
front-more i [] r rs not h = absurd (cc)
front-more i (x ∷ xs) r rs not h =
    let same : record { tree = plain i x.tree; other = x.other } ≡ r = cc in
    sym (ap (λ (y : Rest). is_done y.tree) same)

more-at : (code : List Instr) (f : FlatFrame) (i : Instr) (t : Top code f) → i ≡ get_or code f.at i → ends_list i ≡ false → is_done t.rest.tree ≡ false
more-at code f i t is not =
    let b = behind-at code f.at i (t.rest ∷ t.rests) is t.left (omega arith) in
    front-more i b.0 t.rest t.rests not b.2

closed-some : (f : Frame) (b : OpenBlock) (outer : List OpenBlock) → f.blocks ≡ b ∷ outer → b.rest ≡ done → IsSome (closed f)
closed-some f b outer e d = ap is_some (ap (λ bs. elim bs as (λ x. Option Frame) [ [] ↦ None | x ∷ xs ↦ closed_in x.rest xs f ]) e ∙ ap (λ t. closed_in t outer f) d)

module _ (p : Parts) (s : State) (n : ℕ) (f : FlatFrame) (t : Newest s.frames.items n f) where
  pub top-newest : IsFine p s → 0 < length f.labels.items → Top (code_at p.funcs f.func) f
  top-newest h some = top (code_at p.funcs f.func) f (newest-placed p.funcs s.frames.items n f t h.placed).1 some

  pub nothing-given : IsFine p s → values_of s.given ≡ []
  nothing-given h = ap values_of (let k : s.given ≡ None = subst (IsGivenLast s.given) t.listed h.given in k)

  pub newest-closes : IsFine p s → 0 < length f.labels.items → (i : Instr) → i ≡ get_or (code_at p.funcs f.func) f.at i → ends_list i ≡ true → IsSome (closed_newest (config_of p s))
  newest-closes h some i is e =
      let q = top-newest h some in
      let d = list-ends (code_at p.funcs f.func) f q i is e in
      subst (λ x. IsSome (closed_in_newest (config_of p s) x)) (sym (calls-are p.funcs s.frames.items n f t)) (by (closed (call_of p.funcs f)) (closed-some (call_of p.funcs f) _ _ q.blocks d))
    where
      by : (o : Option Frame) → IsSome o → IsSome (option_map (λ g. record (config_of p s) { frames = g ∷ map (call_of p.funcs) t.older }) o)
      by None k = k
      by (Some g) k = refl

  pub newest-ready : IsFine p s → s.waiting ≡ None → 0 < length f.labels.items → (i : Instr) → i ≡ get_or (code_at p.funcs f.func) f.at i → ends_list i ≡ false → IsReady (config_of p s)
  newest-ready h w some i is e =
      let q = top-newest h some in
      record { waiting = w; given = nothing-given h; calls = subst AreReady (sym (calls-are p.funcs s.frames.items n f t)) (block_of (code_at p.funcs f.func) q.label q.rest, blocks_of (code_at p.funcs f.func) q.labels q.rests, q.blocks, more-at (code_at p.funcs f.func) f i q is e) }
