-- What is left of the open blocks, from one instruction to the next: laws for those who walk through code.
use Rattle.std.proofs.Common.{true, false, ◌≡◌, ℕ, zero, suc, ◌+◌, ◌-◌, ◌<◌, ◌≤◌, List, [], ◌∷◌, length, drop, Option, Some, None, refl, sym, ap, ◌∙◌, arith, add-one, get_or, ⊎_elim}
use Rattle.std.proofs.lemmas.List.{at_drop_more, at_drop_all, length-drop}
use Rattle.std.proofs.lemmas.Bool.{cases_lt}
use Rattle.std.specs.Prelude.{option_and_then}
use Rattle.mv_syntax.specs.declared.ops.ValType.{ValType}
use Rattle.mv_syntax.specs.declared.instr.Instr.{Instr}
use Rattle.mv_syntax.specs.declared.instr.Instr.TheVariants.{Block, Loop, If, Else, End}
use Rattle.mv_syntax.specs.Tree.{Tree, done, plain, block, loop, choice, Rest, rest_of, other_of, joined, without, opened, chosen, followed, elsed, in_front, rests, open_after, rests_at, ends_list, with_other}

-- what is left behind the first instruction
pub rests-behind : (i : Instr) (code : List Instr) (rs : List Rest) → rests (i ∷ code) ≡ Some rs → (behind : List Rest) × (rests code ≡ Some behind) × (in_front i behind ≡ Some rs)
rests-behind i code rs h = split (rests code) refl h
  where
    split : (o : Option (List Rest)) → rests code ≡ o → option_and_then (in_front i) o ≡ Some rs → (behind : List Rest) × (rests code ≡ Some behind) × (in_front i behind ≡ Some rs)
    split None e h = absurd (cc)
    split (Some behind) e h = (behind, e, h)

pub without-some : {A : Type 0} (o : Option Tree) (x : Option A) (y : A) → without o x ≡ Some y → (o ≡ None) × (x ≡ Some y)
without-some None x y h = (refl, h)
without-some (Some t) x y h = absurd (cc)

-- a list of one more rest keeps what is behind it
joined-drop : (make : Tree → Tree) (behind rs : List Rest) (n : ℕ) → joined make behind ≡ Some rs → suc n ≤ length rs → (suc n ≤ length behind) × (drop (suc n) behind ≡ drop (suc n) rs)
joined-drop make [] rs n h le = absurd (cc)
joined-drop make (after ∷ outer) rs n h le =
    let e : record { tree = make after.tree; other = after.other } ∷ outer ≡ rs = cc in
    (omega (arith, ap length e), ap (drop (suc n)) e)

opened-drop : (make : Tree → Tree → Tree) (behind rs : List Rest) (n : ℕ) → opened make behind ≡ Some rs → suc n ≤ length rs → (suc n + 1 ≤ length behind) × (drop (suc n + 1) behind ≡ drop (suc n) rs)
opened-drop make [] rs n h le = absurd (cc)
opened-drop make (body ∷ outer) rs n h le =
    let w = without-some body.other (joined (make body.tree) outer) rs h in
    let j = joined-drop (make body.tree) outer rs n w.1 le in
    (omega (arith, j.0), rw add-one j.1)

chosen-drop : (t : Option ValType) (behind rs : List Rest) (n : ℕ) → chosen t behind ≡ Some rs → suc n ≤ length rs → (suc n + 1 ≤ length behind) × (drop (suc n + 1) behind ≡ drop (suc n) rs)
chosen-drop t [] rs n h le = absurd (cc)
chosen-drop t (body ∷ outer) rs n h le =
    let j = joined-drop (choice t body.tree (other_of body.other)) outer rs n h le in
    (omega (arith, j.0), rw add-one j.1)

followed-drop : (i : Instr) (behind rs : List Rest) (n : ℕ) → followed i behind ≡ Some rs → suc n ≤ length rs → (suc n ≤ length behind) × (drop (suc n) behind ≡ drop (suc n) rs)
followed-drop i [] rs n h le = absurd (cc)
followed-drop i (r ∷ outer) rs n h le =
    let e : record { tree = plain i r.tree; other = r.other } ∷ outer ≡ rs = cc in
    (omega (arith, ap length e), ap (drop (suc n)) e)

elsed-drop : (behind rs : List Rest) (n : ℕ) → elsed behind ≡ Some rs → suc n ≤ length rs → (suc n ≤ length behind) × (drop (suc n) behind ≡ drop (suc n) rs)
elsed-drop [] rs n h le = absurd (cc)
elsed-drop (r ∷ outer) rs n h le =
    let w = without-some r.other (Some (record { tree = done; other = Some r.tree } ∷ outer)) rs h in
    let e : record { tree = done; other = Some r.tree } ∷ outer ≡ rs = cc in
    (omega (arith, ap length e), ap (drop (suc n)) e)

-- Past one instruction the blocks outside the open ones stay.
pub front-drop : (i : Instr) (behind rs : List Rest) (n : ℕ) → in_front i behind ≡ Some rs → suc n ≤ length rs → (open_after i (suc n) ≤ length behind) × (drop (open_after i (suc n)) behind ≡ drop (suc n) rs)
front-drop (Block t) behind rs n h le = opened-drop (block t) behind rs n h le
front-drop (Loop t) behind rs n h le = opened-drop (loop t) behind rs n h le
front-drop (If t) behind rs n h le = chosen-drop t behind rs n h le
front-drop Else behind rs n h le = elsed-drop behind rs n h le
front-drop End behind rs n h le =
    let e : rest_of done ∷ behind ≡ rs = cc in
    let same : suc n - 1 ≡ n = omega arith in
    (omega (arith, ap length e), rw same (ap (drop (suc n)) e))
front-drop i behind rs n h le = followed-drop i behind rs n h le

joined-length : (make : Tree → Tree) (behind rs : List Rest) → joined make behind ≡ Some rs → length rs ≡ length behind
joined-length make [] rs h = absurd (cc)
joined-length make (after ∷ outer) rs h =
    let e : record { tree = make after.tree; other = after.other } ∷ outer ≡ rs = cc in
    sym (ap length e)

front-length : (i : Instr) (behind rs : List Rest) → in_front i behind ≡ Some rs → length rs ≤ length behind + 1
front-length (Block t) [] rs h = absurd (cc)
front-length (Block t) (body ∷ outer) rs h =
    let w = without-some body.other (joined (block t body.tree) outer) rs h in
    omega (arith, joined-length (block t body.tree) outer rs w.1)
front-length (Loop t) [] rs h = absurd (cc)
front-length (Loop t) (body ∷ outer) rs h =
    let w = without-some body.other (joined (loop t body.tree) outer) rs h in
    omega (arith, joined-length (loop t body.tree) outer rs w.1)
front-length (If t) [] rs h = absurd (cc)
front-length (If t) (body ∷ outer) rs h =
    omega (arith, joined-length (choice t body.tree (other_of body.other)) outer rs h)
front-length Else [] rs h = absurd (cc)
front-length Else (r ∷ outer) rs h =
    let w = without-some r.other (Some (record { tree = done; other = Some r.tree } ∷ outer)) rs h in
    let e : record { tree = done; other = Some r.tree } ∷ outer ≡ rs = cc in
    omega (arith, ap length e)
front-length End behind rs h =
    let e : rest_of done ∷ behind ≡ rs = cc in
    omega (arith, ap length e)
front-length i [] rs h = absurd (cc)
front-length i (r ∷ outer) rs h =
    let e : record { tree = plain i r.tree; other = r.other } ∷ outer ≡ rs = cc in
    omega (arith, ap length e)

-- no more blocks are open than there are instructions to end them
pub rests-length : (code : List Instr) (rs : List Rest) → rests code ≡ Some rs → length rs ≤ length code
rests-length [] rs h =
    let e : [] ≡ rs = cc in
    omega (arith, ap length e)
rests-length (i ∷ code) rs h =
    let b = rests-behind i code rs h in
    omega (arith, rests-length code b.0 b.1, front-length i b.0 rs b.2)

-- a place where a block is open lies within the code
pub within-code : (code : List Instr) (at : ℕ) (rs : List Rest) → rests_at code at ≡ Some rs → 0 < length rs → at < length code
within-code code at rs h some =
    ⊎_elim (λ lt. lt) (λ ge. let e : Some [] ≡ Some rs = sym (at_drop_all rests code at ge) ∙ h in let e' : [] ≡ rs = cc in absurd (omega (arith, ap length e'))) (cases_lt at (length code))

-- what is left, one place further on
pub behind-at : (code : List Instr) (at : ℕ) (i : Instr) (rs : List Rest) → i ≡ get_or code at i → rests_at code at ≡ Some rs → 0 < length rs → (behind : List Rest) × (rests_at code (at + 1) ≡ Some behind) × (in_front i behind ≡ Some rs)
behind-at code at i rs is h some =
    let d = at_drop_more rests code at i (within-code code at rs h some) in
    rests-behind i (drop (at + 1) code) rs (ap (λ x. rests (x ∷ drop (at + 1) code)) is ∙ sym d ∙ h)

-- one step of a walk to the end of the open blocks
pub walk_step : (code : List Instr) (at depth : ℕ) (i : Instr) (rs : List Rest) → i ≡ get_or code at i → rests_at code at ≡ Some rs → 0 < depth → depth ≤ length rs → (behind : List Rest) × (rests_at code (at + 1) ≡ Some behind) × (open_after i depth ≤ length behind) × (drop (open_after i depth) behind ≡ drop depth rs)
walk_step code at zero i rs is h some le = absurd (omega arith)
walk_step code at (suc n) i rs is h some le =
    let b = behind-at code at i rs is h (omega arith) in
    let f = front-drop i b.0 rs n b.2 le in
    (b.0, b.1, f.0, f.1)

-- what is open is less than any length of code
pub depth-below : (code : List Instr) (at depth : ℕ) (rs : List Rest) → rests_at code at ≡ Some rs → depth ≤ length rs → depth ≤ length code
depth-below code at depth rs h le = omega (arith, rests-length (drop at code) rs h, length-drop at code)

joined-other : (make : Tree → Tree) (behind rs : List Rest) → joined make behind ≡ Some rs → with_other behind ≡ with_other rs
joined-other make [] rs h = absurd (cc)
joined-other make (after ∷ outer) rs h =
    let e : record { tree = make after.tree; other = after.other } ∷ outer ≡ rs = cc in
    ap with_other e

-- one instruction of the list itself leaves the other list and the blocks around
front-other : (i : Instr) (behind rs : List Rest) → ends_list i ≡ false → in_front i behind ≡ Some rs → with_other (drop (open_after i 0) behind) ≡ with_other rs
front-other (Block t) [] rs not h = absurd (cc)
front-other (Block t) (body ∷ outer) rs not h = joined-other (block t body.tree) outer rs (without-some body.other (joined (block t body.tree) outer) rs h).1
front-other (Loop t) [] rs not h = absurd (cc)
front-other (Loop t) (body ∷ outer) rs not h = joined-other (loop t body.tree) outer rs (without-some body.other (joined (loop t body.tree) outer) rs h).1
front-other (If t) [] rs not h = absurd (cc)
front-other (If t) (body ∷ outer) rs not h = joined-other (choice t body.tree (other_of body.other)) outer rs h
front-other Else behind rs not h = absurd (cc)
front-other End behind rs not h = absurd (cc)
front-other i [] rs not h = absurd (cc)
front-other i (r ∷ outer) rs not h =
    let e : record { tree = plain i r.tree; other = r.other } ∷ outer ≡ rs = cc in
    ap with_other e

with_other-some : (xs ys : List Rest) → with_other xs ≡ with_other ys → 0 < length ys → 0 < length xs
with_other-some [] [] e h = h
with_other-some [] (y ∷ ys) e h = absurd (cc)
with_other-some (x ∷ xs) ys e h = omega arith

-- one step of a walk to the end of the list, inside so many blocks of it
pub list_step : (code : List Instr) (at inner : ℕ) (i : Instr) (rs : List Rest) → i ≡ get_or code at i → rests_at code at ≡ Some rs → inner < length rs → (inner ≡ 0 → ends_list i ≡ false) → (behind : List Rest) × (rests_at code (at + 1) ≡ Some behind) × (open_after i inner < length behind) × (with_other (drop (open_after i inner) behind) ≡ with_other (drop inner rs))
list_step code at zero i rs is h le not =
    let b = behind-at code at i rs is h (omega arith) in
    let e = front-other i b.0 rs (not refl) b.2 in
    let some : 0 < length (drop (open_after i 0) b.0) = with_other-some (drop (open_after i 0) b.0) rs e le in
    (b.0, b.1, omega (arith, some, length-drop (open_after i 0) b.0), e)
list_step code at (suc n) i rs is h le not =
    let b = behind-at code at i rs is h (omega arith) in
    let f = front-drop i b.0 rs n b.2 (omega arith) in
    let e = ap (λ (xs : List Rest). length xs) f.1 in
    (b.0, b.1, omega (arith, e, length-drop (open_after i (suc n)) b.0, length-drop (suc n) rs), ap with_other f.1)

-- an `else` leads to the other list
pub list_else : (code : List Instr) (at : ℕ) (i : Instr) (rs : List Rest) → i ≡ get_or code at i → i ≡ Else → rests_at code at ≡ Some rs → 0 < length rs → rests_at code (at + 1) ≡ Some (with_other rs)
list_else code at i rs is eq h some =
    let b = behind-at code at i rs is h some in
    b.1 ∙ ap Some (from b.0 (ap (λ x. in_front x b.0) (sym eq) ∙ b.2))
  where
    from : (behind : List Rest) → elsed behind ≡ Some rs → behind ≡ with_other rs
    from [] e = absurd (cc)
    from (r ∷ outer) e =
        let w = without-some r.other (Some (record { tree = done; other = Some r.tree } ∷ outer)) rs e in
        let same : record { tree = done; other = Some r.tree } ∷ outer ≡ rs = cc in
        let eta : r ≡ rest_of r.tree = ap (λ o. let x : Rest = record { tree = r.tree; other = o } in x) w.0 in
        ap (λ x. x ∷ outer) eta ∙ ap with_other same

-- an `end` is where the empty other list stands
pub list_end : (code : List Instr) (at : ℕ) (i : Instr) (rs : List Rest) → i ≡ get_or code at i → i ≡ End → rests_at code at ≡ Some rs → 0 < length rs → rs ≡ with_other rs
list_end code at i rs is eq h some =
    let b = behind-at code at i rs is h some in
    let e : Some (rest_of done ∷ b.0) ≡ Some rs = ap (λ x. in_front x b.0) (sym eq) ∙ b.2 in
    let e' : rest_of done ∷ b.0 ≡ rs = cc in
    sym e' ∙ ap with_other e'

pub ends_list-end : (i : Instr) → ends_list i ≡ true → (i ≡ Else → ⊥) → i ≡ End
ends_list-end Else h not = absurd (not refl)
ends_list-end End h not = refl
ends_list-end i h not = absurd (cc)

joined-some : (make : Tree → Tree) (behind rs : List Rest) → joined make behind ≡ Some rs → rs ≡ [] → ⊥
joined-some make [] rs h e = absurd (cc)
joined-some make (after ∷ outer) rs h e =
    let same : record { tree = make after.tree; other = after.other } ∷ outer ≡ rs = cc in absurd (cc)

-- something is left in front of each instruction
pub front-some : (i : Instr) (behind rs : List Rest) → in_front i behind ≡ Some rs → rs ≡ [] → ⊥
front-some (Block t) [] rs h e = absurd (cc)
front-some (Block t) (body ∷ outer) rs h e = joined-some (block t body.tree) outer rs (without-some body.other (joined (block t body.tree) outer) rs h).1 e
front-some (Loop t) [] rs h e = absurd (cc)
front-some (Loop t) (body ∷ outer) rs h e = joined-some (loop t body.tree) outer rs (without-some body.other (joined (loop t body.tree) outer) rs h).1 e
front-some (If t) [] rs h e = absurd (cc)
front-some (If t) (body ∷ outer) rs h e = joined-some (choice t body.tree (other_of body.other)) outer rs h e
front-some Else [] rs h e = absurd (cc)
front-some Else (r ∷ outer) rs h e =
    let w = without-some r.other (Some (record { tree = done; other = Some r.tree } ∷ outer)) rs h in
    let same : record { tree = done; other = Some r.tree } ∷ outer ≡ rs = cc in absurd (cc)
front-some End behind rs h e = let same : rest_of done ∷ behind ≡ rs = cc in absurd (cc)
front-some i [] rs h e = absurd (cc)
front-some i (r ∷ outer) rs h e =
    let same : record { tree = plain i r.tree; other = r.other } ∷ outer ≡ rs = cc in absurd (cc)
