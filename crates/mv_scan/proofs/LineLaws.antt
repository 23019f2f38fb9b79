-- Lines, one after another.
use Rattle.std.proofs.Common.{◌≡◌, inl, inr, ℕ, zero, suc, ◌==◌, ◌<◌, ◌||◌, Bool, true, false, List, [], ◌∷◌, length, take, drop, refl, ap, ◌∙◌, arith, eqb-true}
use Rattle.std.proofs.lemmas.Grind.{common_steps}
use Rattle.std.specs.List.{list_any}
use Rattle.std.specs.Prelude.{if◌then◌else◌}
use Rattle.mv_scan.specs.Lines.{lines_of, onto_line, line_len, IsFirstLine}
use Rattle.mv_scan.proofs.GrammarFinds.{by_test}

abbrev front : ℕ → List ℕ → List (List ℕ)
front n bytes = take n bytes ∷ lines_of (drop (suc n) bytes)

step : (b : ℕ) (bytes : List ℕ) (is_feed : Bool)
    → ((c : ℕ) (cs : List ℕ) → bytes ≡ c ∷ cs → lines_of bytes ≡ front (line_len bytes) bytes)
    → (if is_feed then [] ∷ lines_of bytes else onto_line b (lines_of bytes)) ≡ front (if is_feed then 0 else suc (line_len bytes)) (b ∷ bytes)
step b bytes true h = refl
step b [] false h = refl
step b (c ∷ cs) false h = ap (onto_line b) (h c cs refl)

front_at : (b : ℕ) (bytes : List ℕ) → lines_of (b ∷ bytes) ≡ front (line_len (b ∷ bytes)) (b ∷ bytes)
front_at b [] = step b [] (b == 10) (λ c cs e. grind (arith, common_steps, e))
front_at b (c ∷ cs) = step b (c ∷ cs) (b == 10) (λ d ds e. front_at c cs)

lines_whole : (bytes : List ℕ) → 0 < length bytes → lines_of bytes ≡ front (line_len bytes) bytes
lines_whole [] h = absurd (omega arith)
lines_whole (b ∷ bytes) h = front_at b bytes

drop_one : (n : ℕ) (bytes : List ℕ) → drop 1 (drop n bytes) ≡ drop (suc n) bytes
drop_one zero [] = refl
drop_one zero (b ∷ bytes) = refl
drop_one (suc n) [] = refl
drop_one (suc n) (b ∷ bytes) = drop_one n bytes

-- the first line, and the lines behind it
pub lines_front : (bytes line behind : List ℕ) → 0 < length bytes → line ≡ take (line_len bytes) bytes → behind ≡ drop (line_len bytes) bytes
    → lines_of bytes ≡ line ∷ lines_of (drop 1 behind)
lines_front bytes line behind h front back = rw (front, back, drop_one) (lines_whole bytes h)

-- ## The first line

onto_first : (b : ℕ) (line behind bytes : List ℕ) → (b == 10) ≡ false → IsFirstLine line behind bytes → IsFirstLine (b ∷ line) behind (b ∷ bytes)
onto_first b line behind bytes e (free, inl split) = (ap (λ (k : Bool). k || list_any (λ c. c == 10) line) e ∙ free, inl (ap (λ (k : List ℕ). b ∷ k) split))
onto_first b line behind bytes e (free, inr last) = (ap (λ (k : Bool). k || list_any (λ c. c == 10) line) e ∙ free, inr (ap (λ (k : List ℕ). b ∷ k) last.0, last.1))

first_is : (bytes : List ℕ) → IsFirstLine (take (line_len bytes) bytes) (drop (suc (line_len bytes)) bytes) bytes
first_is [] = (refl, inr (refl, refl))
first_is (b ∷ bytes) =
    by_test (λ (n : ℕ). IsFirstLine (take n (b ∷ bytes)) (drop (suc n) (b ∷ bytes)) (b ∷ bytes)) (b == 10) 0 (suc (line_len bytes))
    (λ e. (refl, inl (ap (λ (k : ℕ). k ∷ bytes) (eqb-true b 10 e))))
    (λ e. onto_first b (take (line_len bytes) bytes) (drop (suc (line_len bytes)) bytes) bytes e (first_is bytes))

pub first_front : (bytes line behind : List ℕ) → line ≡ take (line_len bytes) bytes → behind ≡ drop (line_len bytes) bytes → IsFirstLine line (drop 1 behind) bytes
first_front bytes line behind front back = rw (front, back, drop_one) (first_is bytes)
