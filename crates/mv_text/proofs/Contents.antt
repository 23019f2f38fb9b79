-- What stands before a comment stands in front of the line.
use Rattle.std.proofs.Common.{◌≡◌, ℕ, Bool, true, false, cond, List, [], ◌∷◌, length, take, refl, ap, ◌&&◌}
use Rattle.mv_text.specs.declared.comments.Quoting.{Quoting}
use Rattle.mv_text.specs.Comments.{after_byte, before_comment, begins_comment, is_outside}

front_at : (place : Quoting) (b : ℕ) (bytes : List ℕ) (t : Bool) → take (length (before_comment (after_byte place b) bytes)) bytes ≡ before_comment (after_byte place b) bytes
    → take (length (cond t [] (b ∷ before_comment (after_byte place b) bytes))) (b ∷ bytes) ≡ cond t [] (b ∷ before_comment (after_byte place b) bytes)
front_at place b bytes true h = refl
front_at place b bytes false h = ap (λ (x : List ℕ). b ∷ x) h

pub front_is : (place : Quoting) (line : List ℕ) → take (length (before_comment place line)) line ≡ before_comment place line
front_is place [] = refl
front_is place (b ∷ bytes) = front_at place b bytes (is_outside place && begins_comment (b ∷ bytes)) (front_is (after_byte place b) bytes)
