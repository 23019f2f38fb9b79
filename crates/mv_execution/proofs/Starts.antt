-- A function whose code was found typed has its type as the machine enters it.
use Rattle.std.proofs.Common.{◌≡◌, ℕ, true, List, [], ◌∷◌, ◌++◌, length, Option, Some, None, refl, sym, ap, subst, inl, inr}
use Rattle.std.specs.Prelude.{unwrap_or}
use Rattle.std.specs.List.{AllByRecursion}
use Rattle.mv_syntax.specs.declared.ops.ValType.{ValType}
use Rattle.mv_syntax.specs.declared.ops.ValType.TheVariants.{I32, I64}
use Rattle.mv_syntax.specs.declared.types.FuncType.{FuncType}
use Rattle.mv_syntax.specs.declared.instr.Instr.{Instr}
use Rattle.mv_syntax.specs.declared.instr.Instr.TheVariants as instr
use Rattle.mv_syntax.specs.Kept.{IsSpellable, IsWidth}
use Rattle.mv_syntax.specs.Tree.{Tree, done, plain, block, loop, choice, Rest, rest_of, other_of, joined, in_front, rests}
use Rattle.mv_syntax.proofs.TreeLaws.{rests-behind, without-some}
use Rattle.mv_validator.specs.Typing.{Context, IsTyped}
use Rattle.mv_execution.specs.Values.{is_width}
use Rattle.mv_execution.specs.Instance.{first_tree, tree_of}
use Rattle.mv_execution.specs.Fits.{IsSound, AreSound, in_function, FitsBody}

abbrev OtherSound : Option Tree → Type 0
OtherSound None = Unit {0}
OtherSound (Some t) = AreSound t

abbrev RestsSound : List Rest → Type 0
RestsSound [] = Unit {0}
RestsSound (r ∷ rs) = (AreSound r.tree × OtherSound r.other) × RestsSound rs

other-sound : (o : Option Tree) → OtherSound o → AreSound (other_of o)
other-sound None h = tt
other-sound (Some t) h = h

joined-sound : (make : Tree → Tree) (behind rs : List Rest) → ((t : Tree) → AreSound t → AreSound (make t)) → RestsSound behind → joined make behind ≡ Some rs → RestsSound rs
joined-sound make [] rs m h e = absurd (cc)
joined-sound make (r ∷ outer) rs m h e =
    let same : record { tree = make r.tree; other = r.other } ∷ outer ≡ rs = cc in
    subst RestsSound same ((m r.tree h.0.0, h.0.1), h.1)

front-sound : (i : Instr) (behind rs : List Rest) → IsSound i → RestsSound behind → in_front i behind ≡ Some rs → RestsSound rs
front-sound (instr.Block t) [] rs k h e = absurd (cc)
front-sound (instr.Block t) (b ∷ outer) rs k h e = joined-sound (block t b.tree) outer rs (λ x c. (h.0.0, c)) h.1 (without-some b.other (joined (block t b.tree) outer) rs e).1
front-sound (instr.Loop t) [] rs k h e = absurd (cc)
front-sound (instr.Loop t) (b ∷ outer) rs k h e = joined-sound (loop t b.tree) outer rs (λ x c. (h.0.0, c)) h.1 (without-some b.other (joined (loop t b.tree) outer) rs e).1
front-sound (instr.If t) [] rs k h e = absurd (cc)
front-sound (instr.If t) (b ∷ outer) rs k h e = joined-sound (choice t b.tree (other_of b.other)) outer rs (λ x c. (h.0.0, other-sound b.other h.0.1, c)) h.1 e
front-sound instr.Else [] rs k h e = absurd (cc)
front-sound instr.Else (r ∷ outer) rs k h e =
    let w = without-some r.other (Some (record { tree = done; other = Some r.tree } ∷ outer)) rs e in
    let same : record { tree = done; other = Some r.tree } ∷ outer ≡ rs = cc in
    subst RestsSound same ((tt, h.0.0), h.1)
front-sound instr.End behind rs k h e = let same : rest_of done ∷ behind ≡ rs = cc in subst RestsSound same ((tt, tt), h)
front-sound i [] rs k h e = absurd (cc)
front-sound i (r ∷ outer) rs k h e =
    let same : record { tree = plain i r.tree; other = r.other } ∷ outer ≡ rs = cc in
    subst RestsSound same (((k, h.0.0), h.0.1), h.1)

rests-sound : (code : List Instr) (rs : List Rest) → AllByRecursion IsSound code → rests code ≡ Some rs → RestsSound rs
rests-sound [] rs k e = let same : [] ≡ rs = cc in subst RestsSound same tt
rests-sound (i ∷ code) rs k e =
    let b = rests-behind i code rs e in
    front-sound i b.0 rs k.0 (rests-sound code b.0 k.1 b.1) b.2

-- A function that was found typed has its type.
pub typed-body : (m : Context) (t : FuncType) (locals : List ValType) (code : List Instr) → IsTyped (in_function m (t.params ++ locals) t.result) code → AllByRecursion IsSound code → FitsBody m t (Some (record { locals = length locals; tree = tree_of code }))
typed-body m t locals code (body, is, typed) k =
    let c = rests-sound code (rest_of body ∷ []) k is in
    let same : tree_of code ≡ body = ap (λ o. first_tree (unwrap_or o [])) is in
    subst (λ x. FitsBody m t (Some (record { locals = length locals; tree = x }))) (sym same) (locals, refl, typed, c.0.0)

width-is : (t : ValType) (n : ℕ) → IsWidth t n → is_width t n ≡ true
width-is I32 n (inl e) = subst (λ n. is_width I32 n ≡ true) (sym e) refl
width-is I32 n (inr (inl e)) = subst (λ n. is_width I32 n ≡ true) (sym e) refl
width-is I32 n (inr (inr e)) = subst (λ n. is_width I32 n ≡ true) (sym e) refl
width-is I64 n (inl e) = subst (λ n. is_width I64 n ≡ true) (sym e) refl
width-is I64 n (inr (inl e)) = subst (λ n. is_width I64 n ≡ true) (sym e) refl
width-is I64 n (inr (inr (inl e))) = subst (λ n. is_width I64 n ≡ true) (sym e) refl
width-is I64 n (inr (inr (inr e))) = subst (λ n. is_width I64 n ≡ true) (sym e) refl

-- what some bytes spell is sound
pub spellable-sound : (i : Instr) → IsSpellable i → IsSound i
spellable-sound (instr.Const t v) h = h
spellable-sound (instr.Load t n signed align offset) h = width-is t n h.width
spellable-sound (instr.Store t n align offset) h = width-is t n h
spellable-sound i h = tt
