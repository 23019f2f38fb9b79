-- The paths of an order line are UTF-8: the line is, and they are cut out of it at spaces.
use Rattle.std.specs.Prelude.{◌≡◌, ◌+◌, ◌<◌, ℕ, List, ◌∷◌, ◌++◌, Ok, Err, Result, length, codes, IsUtf8, IfOk}
use Rattle.std.proofs.Common.{arith, subst, length-append, get_or}
use Rattle.std.proofs.Math.Seq.{take-append_seam, drop-append-add, get_or-append_seam}
use Rattle.std.proofs.lemmas.Str.{IsUtf8-take, IsUtf8-drop, IsCharBoundary-before_ascii, IsCharBoundary-after_ascii}
use Rattle.mv_orders.specs.declared.order.Order.{Order}
use Rattle.mv_orders.specs.declared.order.Order.TheVariants.{Update, Promote, Discard, Finish, Back, Halt, Status}
use Rattle.mv_orders.specs.Order.{Reads, HasTextPaths}

-- a text is cut at a space
cut_utf8 : (xs ys : List ℕ) → IsUtf8 (xs ++ 32 ∷ ys) → IsUtf8 xs × IsUtf8 ys
cut_utf8 xs ys u =
    let whole = xs ++ 32 ∷ ys in
    let inside : length xs < length whole = (let l = length-append xs (32 ∷ ys) in omega (arith, l)) in
    let space : get_or whole (length xs) 0 ≡ 32 = get_or-append_seam xs 32 ys 0 in
    let ascii : get_or whole (length xs) 0 < 128 = omega (arith, space) in (
      subst IsUtf8 (take-append_seam xs (32 ∷ ys)) (IsUtf8-take whole (length xs) u (IsCharBoundary-before_ascii whole (length xs) inside ascii)),
      subst IsUtf8 (drop-append-add xs (32 ∷ ys) 1) (IsUtf8-drop whole (length xs + 1) u (IsCharBoundary-after_ascii whole (length xs) u inside ascii)),
    )

-- the three paths of an update
update_paths : (line m f r : List ℕ) → Reads line (Ok (Update m f r)) → HasTextPaths (Update m f r)
update_paths line m f r reads =
    let u : IsUtf8 (codes "update" ++ 32 ∷ (m ++ 32 ∷ (f ++ 32 ∷ r))) = subst IsUtf8 reads.2.joined reads.1 in
    let one = (cut_utf8 (codes "update") (m ++ 32 ∷ (f ++ 32 ∷ r)) u).1 in
    let two = cut_utf8 m (f ++ 32 ∷ r) one in
    let three = cut_utf8 f r two.1 in
    (two.0, three.0, three.1)

pub paths_text : (line : List ℕ) (order : Order) → Reads line (Ok order) → HasTextPaths order
paths_text line (Update m f r) reads = update_paths line m f r reads
paths_text line Promote reads = tt
paths_text line Discard reads = tt
paths_text line Finish reads = tt
paths_text line Back reads = tt
paths_text line Halt reads = tt
paths_text line Status reads = tt

-- so are those of what is answered
pub answered_paths : {E : Type 0} (line : List ℕ) (r : Result Order E) → IfOk r (λ order. Reads line (Ok order)) → IfOk r (λ order. HasTextPaths order)
answered_paths line (Ok order) reads = paths_text line order reads
answered_paths line (Err e) reads = tt
