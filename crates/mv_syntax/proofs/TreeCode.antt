-- A tree as a list of marks that gives it back.
use Rattle.std.specs.Prelude.{◌≡◌, List, [], ◌∷◌, ◌++◌, Option, refl}
use Rattle.std.proofs.Common.{ap, ◌∙◌, append_assoc}
use Rattle.std.specs.Coded.{Coded, code_by, coded_list}
use Rattle.mv_syntax.specs.declared.ops.ValType.{ValType}
use Rattle.mv_syntax.specs.declared.instr.Instr.{Instr}
use Rattle.mv_syntax.specs.Tree.{Tree, done, plain, block, loop, choice}

pub data Mark : Type 0 where
  close : Mark
  item : (i : Instr) → Mark
  block_at : (t : Option ValType) → Mark
  loop_at : (t : Option ValType) → Mark
  choice_at : (t : Option ValType) → Mark

abbrev pub marks : Tree → List Mark
marks done = close ∷ []
marks (plain i rest) = item i ∷ marks rest
marks (block t body rest) = block_at t ∷ (marks body ++ marks rest)
marks (loop t body rest) = loop_at t ∷ (marks body ++ marks rest)
marks (choice t first second rest) = choice_at t ∷ (marks first ++ (marks second ++ marks rest))

abbrev pub one : (Tree → Tree) → List Tree → List Tree
one f [] = []
one f (a ∷ ts) = f a ∷ ts

abbrev pub two : (Tree → Tree → Tree) → List Tree → List Tree
two f [] = []
two f (a ∷ ts) = one (f a) ts

abbrev pub three : (Tree → Tree → Tree → Tree) → List Tree → List Tree
three f [] = []
three f (a ∷ ts) = two (f a) ts

abbrev pub trees : List Mark → List Tree
trees [] = []
trees (close ∷ ms) = done ∷ trees ms
trees (item i ∷ ms) = one (plain i) (trees ms)
trees (block_at t ∷ ms) = two (block t) (trees ms)
trees (loop_at t ∷ ms) = two (loop t) (trees ms)
trees (choice_at t ∷ ms) = three (choice t) (trees ms)

abbrev pub first_of : List Tree → Tree
first_of [] = done
first_of (t ∷ ts) = t

pub trees-marks : (t : Tree) (ms : List Mark) → trees (marks t ++ ms) ≡ t ∷ trees ms
trees-marks done ms = refl
trees-marks (plain i rest) ms = ap (one (plain i)) (trees-marks rest ms)
trees-marks (block t body rest) ms =
    ap (λ l. two (block t) (trees l)) (append_assoc (marks body) (marks rest) ms) ∙ ap (two (block t)) (trees-marks body (marks rest ++ ms) ∙ ap (λ l. body ∷ l) (trees-marks rest ms))
trees-marks (loop t body rest) ms =
    ap (λ l. two (loop t) (trees l)) (append_assoc (marks body) (marks rest) ms) ∙ ap (two (loop t)) (trees-marks body (marks rest ++ ms) ∙ ap (λ l. body ∷ l) (trees-marks rest ms))
trees-marks (choice t first second rest) ms =
    ap (λ l. three (choice t) (trees l)) (append_assoc (marks first) (marks second ++ marks rest) ms ∙ ap (λ l. marks first ++ l) (append_assoc (marks second) (marks rest) ms)) ∙ ap (three (choice t)) (trees-marks first (marks second ++ (marks rest ++ ms)) ∙ ap (λ l. first ∷ l) (trees-marks second (marks rest ++ ms) ∙ ap (λ l. second ∷ l) (trees-marks rest ms)))

pub marks-back : (t : Tree) → first_of (trees (marks t)) ≡ t
marks-back t = ap (λ l. first_of (trees l)) (append-back (marks t)) ∙ ap first_of (trees-marks t [])
  where
    append-back : (l : List Mark) → l ≡ l ++ []
    append-back [] = refl
    append-back (x ∷ l) = ap (λ r. x ∷ r) (append-back l)

-- a tree is stored as its marks
abbrev pub tree_code : Coded Mark → Coded Tree
tree_code c = code_by (List Mark) (coded_list c) marks (λ ms. first_of (trees ms)) marks-back
