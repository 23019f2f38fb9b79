-- What a write done in part leaves.
use Rattle.std.proofs.Common.{◌≡◌, ℕ, ◌+◌, ◌<◌, ◌≤◌, List, [], ◌∷◌, ◌++◌, length, take, drop, sym, ◌∙◌, ap, arith, append_assoc, length-append, length-take, length-drop}
use Rattle.std.proofs.lemmas.List.{append-nil, take_all, drop_all, take_at, drop_at, ext_get_or, get_or-take, get_or-drop}
use Rattle.mv_disk.specs.Disk.{Torn, with_bytes}

-- what stands before its range
pub front_same : (at n : ℕ) (before now : List ℕ) → at ≤ length before → Torn at n before now → take at now ≡ take at before
front_same at n before now within torn =
    ext_get_or 0 (take at now) (take at before)
    (omega (arith, length-take at now, length-take at before, torn.no_shorter))
    (λ p h. let below : p < at = omega (arith, length-take at now) in
    get_or-take at now p 0 below ∙ torn.front p below (omega arith) ∙ sym (get_or-take at before p 0 below))

-- what stands behind it, where it ends inside
pub back_same : (at n : ℕ) (before now : List ℕ) → at + n ≤ length before → Torn at n before now → drop (at + n) now ≡ drop (at + n) before
back_same at n before now within torn =
    let long : length now ≡ length before = omega (arith, torn.no_shorter, torn.no_longer) in
    ext_get_or 0 (drop (at + n) now) (drop (at + n) before)
    (omega (arith, length-drop (at + n) now, length-drop (at + n) before))
    (λ p h. get_or-drop (at + n) now p 0 ∙ torn.back (at + n + p) (omega arith) (omega (arith, length-drop (at + n) now)) ∙ sym (get_or-drop (at + n) before p 0))

-- a write at the end
pub with_bytes-end : (content : List ℕ) (end : ℕ) (bytes : List ℕ) → end ≡ length content → with_bytes content end bytes ≡ content ++ bytes
with_bytes-end content end bytes is =
    ap (λ (l : List ℕ). l ++ (bytes ++ drop (end + length bytes) content)) (take_all end content (omega arith))
    ∙ ap (λ (l : List ℕ). content ++ (bytes ++ l)) (drop_all (end + length bytes) content (omega arith))
    ∙ ap (λ (l : List ℕ). content ++ l) (append-nil bytes)

-- a write of one byte
pub with_bytes-one : (front : List ℕ) (old new : ℕ) (back : List ℕ) (at : ℕ) → at ≡ length front → with_bytes (front ++ old ∷ back) at (new ∷ []) ≡ front ++ new ∷ back
with_bytes-one front old new back at is =
    ap (λ (l : List ℕ). l ++ (new ∷ drop (at + 1) (front ++ old ∷ back))) (take_at front (old ∷ back) at (sym is))
    ∙ ap (λ (l : List ℕ). front ++ (new ∷ l)) (drop_past front old back at is)
  where
    drop_past : (front : List ℕ) (old : ℕ) (back : List ℕ) (at : ℕ) → at ≡ length front → drop (at + 1) (front ++ old ∷ back) ≡ back
    drop_past front old back at is =
        ap (λ (l : List ℕ). drop (at + 1) l) (sym (append_assoc front (old ∷ []) back))
        ∙ drop_at (front ++ old ∷ []) back (at + 1) (omega (arith, length-append front (old ∷ [])))
