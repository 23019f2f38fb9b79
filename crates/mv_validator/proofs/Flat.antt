-- Levels of the code, of which the newest is last.
use Rattle.std.proofs.Common.{◌≡◌, ℕ, zero, suc, ◌-◌, ◌<◌, ◌≤◌, List, [], ◌∷◌, ◌++◌, length, get_or, Some, None, refl, sym, ap, ◌∙◌, arith}
use Rattle.std.specs.Prelude.{map, slice_get, reverse}
use Rattle.std.proofs.lemmas.List.{get_or-reverse, length-reverse, length-map, reverse-append}
use Rattle.mv_validator.specs.declared.control_frame.ControlFrame.{ControlFrame as FlatFrame}
use Rattle.mv_validator.specs.ControlFrames.{ControlFrame, label_of, labels_of}
use Rattle.mv_validator.specs.Views.{frame_of, frames_of}

pub get-behind : {A : Type 0} (x : A) (xs : List A) (n : ℕ) → 0 < n → slice_get (x ∷ xs) n ≡ slice_get xs (n - 1)
get-behind x xs zero lt = absurd (omega arith)
get-behind x xs (suc n) lt = let e : n ≡ suc n - 1 = omega arith in ap (slice_get xs) e

label-get : (ls : List FlatFrame) (k : ℕ) (d : FlatFrame) → k < length ls → slice_get (labels_of (map frame_of ls)) k ≡ Some (label_of (get_or ls k d).kind (get_or ls k d).result)
label-get [] k d lt = absurd (omega arith)
label-get (l ∷ ls) zero d lt = refl
label-get (l ∷ ls) (suc k) d lt = label-get ls k d (omega arith)

label-past : (ls : List FlatFrame) (k : ℕ) → length ls ≤ k → slice_get (labels_of (map frame_of ls)) k ≡ None
label-past [] k le = refl
label-past (l ∷ ls) zero le = absurd (omega arith)
label-past (l ∷ ls) (suc k) le = label-past ls k (omega arith)

pub label-at : (l : ControlFrame) (outer : List FlatFrame) (n : ℕ) (x : FlatFrame) → 0 < n → n ≤ length outer → x ≡ get_or outer (length outer - n) x → slice_get (labels_of (l ∷ frames_of outer)) n ≡ Some (label_of x.kind x.result)
label-at l outer n x some le is =
    let lt : n - 1 < length (reverse outer) = omega (arith, length-reverse outer) in
    let lt' : n - 1 < length outer = omega arith in
    let k : length outer - 1 - (n - 1) ≡ length outer - n = omega arith in
    let r : get_or (reverse outer) (n - 1) x ≡ x = get_or-reverse outer (n - 1) x lt' ∙ ap (λ m. get_or outer m x) k ∙ sym is in
    get-behind (label_of l.kind l.result) (labels_of (frames_of outer)) n some ∙ label-get (reverse outer) (n - 1) x lt ∙ ap (λ (y : FlatFrame). Some (label_of y.kind y.result)) r

pub label-none : (l : ControlFrame) (outer : List FlatFrame) (n : ℕ) → 0 < n → length outer < n → slice_get (labels_of (l ∷ frames_of outer)) n ≡ None
label-none l outer n some lt =
    get-behind (label_of l.kind l.result) (labels_of (frames_of outer)) n some ∙ label-past (reverse outer) (n - 1) (omega (arith, length-reverse outer))

-- one more frame
pub frames_push : (xs : List FlatFrame) (x : FlatFrame) → frames_of (xs ++ x ∷ []) ≡ frame_of x ∷ frames_of xs
frames_push xs x = ap (map frame_of) (reverse-append xs (x ∷ []))

pub frames-length : (xs : List FlatFrame) → length (frames_of xs) ≡ length xs
frames-length xs = length-map (reverse xs) frame_of ∙ length-reverse xs
