-- The bodies are the standard's expressions.
use Rattle.std.proofs.Common.{◌≡◌, ℕ, zero, suc, ◌≤◌, false, List, [], ◌∷◌, ◌++◌, length, Option, Some, None, refl, sym, ap, subst, ◌∙◌, append_assoc, arith, inl, inr}
use Rattle.std.proofs.lemmas.List.{length-append}
use Rattle.std.specs.Prelude.{◌↔◌, IsTrue}
use Rattle.mv_syntax.specs.declared.ops.ValType.{ValType}
use Rattle.mv_syntax.specs.declared.instr.Instr.{Instr}
use Rattle.mv_syntax.specs.declared.instr.Instr.TheVariants.{Block, Loop, If, Else, End}
use Rattle.mv_syntax.specs.Tree.{Tree, done, plain, block, loop, choice, Rest, rest_of, other_of, joined, opened, chosen, followed, elsed, in_front, rests, IsBody}
use Rattle.mv_syntax.proofs.TreeLaws.{rests-behind, without-some}
use Rattle.mv_syntax.proofs.NestingLaws.{no_rests}
use Rattle.mv_syntax.specs.Expressions.{is_plain, Enclosed, Parted, Lists, IsExpression}

-- a tree in front of what ends its list
abbrev at_front : Tree → Option Tree → List Rest → Option (List Rest)
at_front t other outer = Some (record { tree = t; other = other } ∷ outer)

front_step : (i : Instr) (code : List Instr) (rs : List Rest) → rests code ≡ Some rs → rests (i ∷ code) ≡ in_front i rs
front_step i code rs e = ap (λ (o : Option (List Rest)). elim o as (λ x. Option (List Rest)) [ None ↦ None | Some rs ↦ in_front i rs ]) e

not_false : {A : Type 0} → IsTrue false → A
not_false h = absurd cc

front_plain : (i : Instr) (rs : List Rest) → IsTrue (is_plain i) → in_front i rs ≡ followed i rs
front_plain (Block t) rs h = not_false h
front_plain (Loop t) rs h = not_false h
front_plain (If t) rs h = not_false h
front_plain Else rs h = not_false h
front_plain End rs h = not_false h
front_plain i rs h = refl

-- ---- an expression is a body

abbrev Stands : Tree → List Instr → Type 0
Stands t c = (tail : List Instr) (other : Option Tree) (outer : List Rest) → rests tail ≡ at_front done other outer → rests (c ++ tail) ≡ at_front t other outer

-- a list with its `end`, in front of what follows
inner_stands : (body rest : Tree) (inside behind tail : List Instr) (other : Option Tree) (outer : List Rest) → Stands body inside → Stands rest behind → rests tail ≡ at_front done other outer
    → rests (inside ++ End ∷ (behind ++ tail)) ≡ Some (rest_of body ∷ record { tree = rest; other = other } ∷ outer)
inner_stands body rest inside behind tail other outer b r e =
    b (End ∷ (behind ++ tail)) None (record { tree = rest; other = other } ∷ outer) (front_step End (behind ++ tail) (record { tree = rest; other = other } ∷ outer) (r tail other outer e))

enclosed_stands : (head : Instr) (make : Tree → Tree → Tree) (body rest : Tree) (c : List Instr) → ((rs : List Rest) → in_front head (rest_of body ∷ rs) ≡ joined (make body) rs)
    → (e : Enclosed head (λ c. Lists body c) (λ c. Lists rest c) c) → Stands body e.inside → Stands rest e.behind → Stands (make body rest) c
enclosed_stands head make body rest c is h b r tail other outer e =
    let inner = inner_stands body rest h.inside h.behind tail other outer b r e in
    let made : rests (head ∷ (h.inside ++ End ∷ (h.behind ++ tail))) ≡ at_front (make body rest) other outer =
    front_step head (h.inside ++ End ∷ (h.behind ++ tail)) (rest_of body ∷ record { tree = rest; other = other } ∷ outer) inner ∙ is (record { tree = rest; other = other } ∷ outer) in
    let regroup : c ++ tail ≡ head ∷ (h.inside ++ End ∷ (h.behind ++ tail)) =
    ap (λ (l : List Instr). l ++ tail) h.code_is ∙ ap (λ (l : List Instr). head ∷ l) (append_assoc h.inside (End ∷ h.behind) tail) in
    ap rests regroup ∙ made

parted_stands : (t : Option ValType) (first second rest : Tree) (c : List Instr) → (e : Parted (If t) (λ c. Lists first c) (λ c. Lists second c) (λ c. Lists rest c) c)
    → Stands first e.inside → Stands second e.others → Stands rest e.behind → Stands (choice t first second rest) c
parted_stands t first second rest c h a b r tail other outer e =
    let after : List Rest = record { tree = rest; other = other } ∷ outer in
    let inner = inner_stands second rest h.others h.behind tail other outer b r e in
    let begun : rests (Else ∷ (h.others ++ End ∷ (h.behind ++ tail))) ≡ at_front done (Some second) after = front_step Else (h.others ++ End ∷ (h.behind ++ tail)) (rest_of second ∷ after) inner in
    let all : rests (h.inside ++ Else ∷ (h.others ++ End ∷ (h.behind ++ tail))) ≡ at_front first (Some second) after = a (Else ∷ (h.others ++ End ∷ (h.behind ++ tail))) (Some second) after begun in
    let made : rests (If t ∷ (h.inside ++ Else ∷ (h.others ++ End ∷ (h.behind ++ tail)))) ≡ at_front (choice t first second rest) other outer =
    front_step (If t) (h.inside ++ Else ∷ (h.others ++ End ∷ (h.behind ++ tail))) (record { tree = first; other = Some second } ∷ after) all in
    ap rests (ap (λ (l : List Instr). l ++ tail) h.code_is ∙ regroup (If t) h.inside h.others h.behind tail) ∙ made
  where
    regroup : (head : Instr) (a b c d : List Instr) → (head ∷ (a ++ Else ∷ (b ++ End ∷ c))) ++ d ≡ head ∷ (a ++ Else ∷ (b ++ End ∷ (c ++ d)))
    regroup head a b c d = simp append_assoc

pub listed_stands : (t : Tree) (c : List Instr) → Lists t c → Stands t c
listed_stands done c h tail other outer e = ap (λ (l : List Instr). rests (l ++ tail)) h ∙ e
listed_stands (plain i rest) c h tail other outer e =
    let behind = listed_stands rest h.1.0 h.1.2 tail other outer e in
    ap (λ (l : List Instr). rests (l ++ tail)) h.1.1 ∙ front_step i (h.1.0 ++ tail) (record { tree = rest; other = other } ∷ outer) behind ∙ front_plain i (record { tree = rest; other = other } ∷ outer) h.0
listed_stands (block t body rest) c h tail other outer e = enclosed_stands (Block t) (block t) body rest c (λ rs. refl) h (listed_stands body h.inside h.inner_is) (listed_stands rest h.behind h.rest_is) tail other outer e
listed_stands (loop t body rest) c h tail other outer e = enclosed_stands (Loop t) (loop t) body rest c (λ rs. refl) h (listed_stands body h.inside h.inner_is) (listed_stands rest h.behind h.rest_is) tail other outer e
listed_stands (choice t first second rest) c (inl h) tail other outer e =
    let made : Stands (choice t first done rest) c = enclosed_stands (If t) (λ b. choice t b done) first rest c (λ rs. refl) h.1 (listed_stands first h.1.inside h.1.inner_is) (listed_stands rest h.1.behind h.1.rest_is) in
    subst (λ (s : Tree). Stands (choice t first s rest) c) (sym h.0) made tail other outer e
listed_stands (choice t first second rest) c (inr h) tail other outer e = parted_stands t first second rest c h (listed_stands first h.inside h.first_is) (listed_stands second h.others h.second_is) (listed_stands rest h.behind h.rest_is) tail other outer e

-- ---- a body is an expression

-- what ends a list: its `end`, or its `else` and another list
abbrev Ending : Option Tree → List Rest → List Instr → Type 0
Ending None outer tail = (behind : List Instr) × (tail ≡ End ∷ behind) × (rests behind ≡ Some outer)
Ending (Some s) outer tail = (others : List Instr) × (behind : List Instr) × (tail ≡ Else ∷ (others ++ End ∷ behind)) × Lists s others × (rests behind ≡ Some outer)

record Front (r : Rest) (outer : List Rest) (code : List Instr) : Type 0 where
  inside : List Instr
  tail : List Instr
  code_is : code ≡ inside ++ tail
  listed : Lists r.tree inside
  ending : Ending r.other outer tail

-- what is known of shorter code
abbrev Shorter : List Instr → Type 0
Shorter code = (c : List Instr) (r : Rest) (outer : List Rest) → length c ≤ length code → rests c ≡ Some (r ∷ outer) → Front r outer c

-- the front of these rests is that of those
moved : (code : List Instr) (r r' : Rest) (outer outer' : List Rest) → r ∷ outer ≡ r' ∷ outer' → Front r outer code → Front r' outer' code
moved code r r' outer outer' e f =
    let one : r ≡ r' = cc in
    let others : outer ≡ outer' = cc in
    subst (λ (o : List Rest). Front r' o code) others (subst (λ (x : Rest). Front x outer code) one f)

-- a list that ends with its `end`
ended : (other : Option Tree) (outer : List Rest) (tail : List Instr) → other ≡ None → Ending other outer tail → Ending None outer tail
ended other outer tail e h = subst (λ (o : Option Tree). Ending o outer tail) e h

plain_front : (i : Instr) (code : List Instr) (r : Rest) (outer : List Rest) → IsTrue (is_plain i) → Front r outer code → Front (record { tree = plain i r.tree; other = r.other }) outer (i ∷ code)
plain_front i code r outer p f = record {
  inside = i ∷ f.inside;
  tail = f.tail;
  code_is = ap (λ (c : List Instr). i ∷ c) f.code_is;
  listed = (p, (f.inside, refl, f.listed));
  ending = f.ending;
}

block_front : (head : Instr) (make : Tree → Tree → Tree) (body after : Rest) (outer : List Rest) (code : List Instr)
    → ((c : List Instr) → Enclosed head (λ c. Lists body.tree c) (λ c. Lists after.tree c) c → Lists (make body.tree after.tree) c)
    → (f : Front body (after ∷ outer) code) → (d : Ending None (after ∷ outer) f.tail) → Front after outer d.0 → Front (record { tree = make body.tree after.tree; other = after.other }) outer (head ∷ code)
block_front head make body after outer code lists f d g = record {
  inside = head ∷ (f.inside ++ End ∷ g.inside);
  tail = g.tail;
  code_is = ap (λ (c : List Instr). head ∷ c) (f.code_is ∙ ap (λ (c : List Instr). f.inside ++ c) (d.1 ∙ ap (λ (c : List Instr). End ∷ c) g.code_is) ∙ sym (append_assoc f.inside (End ∷ g.inside) g.tail));
  listed = lists (head ∷ (f.inside ++ End ∷ g.inside)) (record { inside = f.inside; behind = g.inside; code_is = refl; inner_is = f.listed; rest_is = g.listed });
  ending = g.ending;
}

-- what follows a block is shorter
behind_shorter : (code inside tail behind : List Instr) (i : Instr) → code ≡ inside ++ tail → tail ≡ i ∷ behind → length behind ≤ length code
behind_shorter code inside tail behind i e d = omega (arith, ap length e, length-append inside tail, ap length d)

joined_is : (make : Tree → Tree) (outer : List Rest) (r : Rest) (rs : List Rest) → joined make outer ≡ Some (r ∷ rs) → (after : Rest) × (o : List Rest) × (outer ≡ after ∷ o) × (record { tree = make after.tree; other = after.other } ∷ o ≡ r ∷ rs)
joined_is make [] r rs e = absurd cc
joined_is make (after ∷ o) r rs e = (after, o, refl, cc)

opened_front : (head : Instr) (make : Tree → Tree → Tree) (behind : List Rest) (code : List Instr) (r : Rest) (outer : List Rest)
    → ((a b : Tree) (c : List Instr) → Enclosed head (λ c. Lists a c) (λ c. Lists b c) c → Lists (make a b) c)
    → rests code ≡ Some behind → opened make behind ≡ Some (r ∷ outer) → Shorter code → Front r outer (head ∷ code)
opened_front head make [] code r outer lists e h short = absurd cc
opened_front head make (body ∷ rest) code r outer lists e h short =
    let w = without-some body.other (joined (make body.tree) rest) (r ∷ outer) h in
    let j = joined_is (make body.tree) rest r outer w.1 in
    let f : Front body (j.0 ∷ j.1) code = short code body (j.0 ∷ j.1) (omega arith) (e ∙ ap (λ (l : List Rest). Some (body ∷ l)) j.2) in
    let d = ended body.other (j.0 ∷ j.1) f.tail w.0 f.ending in
    let g = short d.0 j.0 j.1 (behind_shorter code f.inside f.tail d.0 End f.code_is d.1) d.2 in
    moved (head ∷ code) _ r j.1 outer j.3 (block_front head make body j.0 j.1 code (lists body.tree j.0.tree) f d g)

-- the two lists of an `if`, or the one
choice_front : (t : Option ValType) (tree : Tree) (other : Option Tree) (after : Rest) (outer : List Rest) (code : List Instr)
    → Front (record { tree = tree; other = other }) (after ∷ outer) code → Shorter code → Front (record { tree = choice t tree (other_of other) after.tree; other = after.other }) outer (If t ∷ code)
choice_front t tree None after outer code f short =
    let body : Rest = rest_of tree in
    let g = short f.ending.0 after outer (behind_shorter code f.inside f.tail f.ending.0 End f.code_is f.ending.1) f.ending.2 in
    block_front (If t) (λ a b. choice t a done b) body after outer code (λ c s. inl (refl, s)) f f.ending g
choice_front t tree (Some s) after outer code f short =
    let others = f.ending.0 in
    let behind = f.ending.1 in
    let whole : code ≡ f.inside ++ Else ∷ (others ++ End ∷ behind) = f.code_is ∙ ap (λ (c : List Instr). f.inside ++ c) f.ending.2 in
    let less : length behind ≤ length code = omega (arith, ap length whole, length-append f.inside (Else ∷ (others ++ End ∷ behind)), length-append others (End ∷ behind)) in
    let g = short behind after outer less f.ending.4 in
    let front : List Instr = If t ∷ (f.inside ++ Else ∷ (others ++ End ∷ g.inside)) in
    record {
      inside = front;
      tail = g.tail;
      code_is = ap (λ (c : List Instr). If t ∷ c) whole ∙ ap (λ (c : List Instr). If t ∷ (f.inside ++ Else ∷ (others ++ End ∷ c))) g.code_is ∙ regroup (If t) f.inside others g.inside g.tail;
      listed = inr (record { inside = f.inside; others = others; behind = g.inside; code_is = refl; first_is = f.listed; second_is = f.ending.3; rest_is = g.listed });
      ending = g.ending;
    }
  where
    regroup : (head : Instr) (a b c d : List Instr) → head ∷ (a ++ Else ∷ (b ++ End ∷ (c ++ d))) ≡ (head ∷ (a ++ Else ∷ (b ++ End ∷ c))) ++ d
    regroup head a b c d = simp append_assoc

chosen_front : (t : Option ValType) (behind : List Rest) (code : List Instr) (r : Rest) (outer : List Rest) → rests code ≡ Some behind → chosen t behind ≡ Some (r ∷ outer) → Shorter code → Front r outer (If t ∷ code)
chosen_front t [] code r outer e h short = absurd cc
chosen_front t (body ∷ rest) code r outer e h short =
    let j = joined_is (choice t body.tree (other_of body.other)) rest r outer h in
    let f : Front body (j.0 ∷ j.1) code = short code body (j.0 ∷ j.1) (omega arith) (e ∙ ap (λ (l : List Rest). Some (body ∷ l)) j.2) in
    moved (If t ∷ code) _ r j.1 outer j.3 (choice_front t body.tree body.other j.0 j.1 code f short)

elsed_front : (behind : List Rest) (code : List Instr) (r : Rest) (outer : List Rest) → rests code ≡ Some behind → elsed behind ≡ Some (r ∷ outer) → Shorter code → Front r outer (Else ∷ code)
elsed_front [] code r outer e h short = absurd cc
elsed_front (x ∷ rest) code r outer e h short =
    let w = without-some x.other (Some (record { tree = done; other = Some x.tree } ∷ rest)) (r ∷ outer) h in
    let same : record { tree = done; other = Some x.tree } ∷ rest ≡ r ∷ outer = cc in
    let f : Front x rest code = short code x rest (omega arith) e in
    let d = ended x.other rest f.tail w.0 f.ending in
    let is : Else ∷ code ≡ Else ∷ (f.inside ++ End ∷ d.0) = ap (λ (c : List Instr). Else ∷ c) (f.code_is ∙ ap (λ (c : List Instr). f.inside ++ c) d.1) in
    moved (Else ∷ code) (record { tree = done; other = Some x.tree }) r rest outer same
    (record { inside = []; tail = Else ∷ code; code_is = refl; listed = refl; ending = (f.inside, d.0, is, f.listed, d.2) })

followed_front : (i : Instr) (behind : List Rest) (code : List Instr) (r : Rest) (outer : List Rest) → IsTrue (is_plain i) → rests code ≡ Some behind → followed i behind ≡ Some (r ∷ outer) → Shorter code → Front r outer (i ∷ code)
followed_front i [] code r outer p e h short = absurd cc
followed_front i (x ∷ rest) code r outer p e h short =
    let same : record { tree = plain i x.tree; other = x.other } ∷ rest ≡ r ∷ outer = cc in
    moved (i ∷ code) (record { tree = plain i x.tree; other = x.other }) r rest outer same (plain_front i code x rest p (short code x rest (omega arith) e))

front : (i : Instr) (behind : List Rest) (code : List Instr) (r : Rest) (outer : List Rest) → rests code ≡ Some behind → in_front i behind ≡ Some (r ∷ outer) → Shorter code → Front r outer (i ∷ code)
front (Block t) behind code r outer e h short = opened_front (Block t) (block t) behind code r outer (λ a b c s. s) e h short
front (Loop t) behind code r outer e h short = opened_front (Loop t) (loop t) behind code r outer (λ a b c s. s) e h short
front (If t) behind code r outer e h short = chosen_front t behind code r outer e h short
front Else behind code r outer e h short = elsed_front behind code r outer e h short
front End behind code r outer e h short =
    let same : rest_of done ∷ behind ≡ r ∷ outer = cc in
    moved (End ∷ code) (rest_of done) r behind outer same (record { inside = []; tail = End ∷ code; code_is = refl; listed = refl; ending = (code, refl, e) })
front i behind code r outer e h short = followed_front i behind code r outer refl e h short

front_of : (n : ℕ) (code : List Instr) (r : Rest) (outer : List Rest) → length code ≤ n → rests code ≡ Some (r ∷ outer) → Front r outer code
front_of n [] r outer le e = absurd cc
front_of zero (i ∷ code) r outer le e = absurd (omega arith)
front_of (suc n) (i ∷ code) r outer le e =
    let b = rests-behind i code (r ∷ outer) e in
    front i b.0 code r outer b.1 b.2 (λ c x o less h. front_of n c x o (omega arith) h)

body_expression : (code : List Instr) (t : Tree) → IsBody code t → IsExpression code t
body_expression code t b =
    let f = front_of (length code) code (rest_of t) [] (omega arith) b in
    let last : f.ending.0 ≡ [] = no_rests f.ending.0 f.ending.2 in
    record { inside = f.inside; code_is = f.code_is ∙ ap (λ (c : List Instr). f.inside ++ c) (f.ending.1 ∙ ap (λ (c : List Instr). End ∷ c) last); listed = f.listed }

expression_body : (code : List Instr) (t : Tree) → IsExpression code t → IsBody code t
expression_body code t x = ap rests x.code_is ∙ listed_stands t x.inside x.listed (End ∷ []) None [] refl

pub bodies_law : (code : List Instr) (t : Tree) → IsBody code t ↔ IsExpression code t
bodies_law code t = (body_expression code t, expression_body code t)
