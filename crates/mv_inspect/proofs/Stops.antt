-- The first of some files that isn't read, when more files stand before it or behind it.
use Rattle.std.proofs.Common.{◌≡◌, ℕ, zero, suc, ◌≤◌, ◌<◌, ◌⊎◌, inl, inr, List, [], ◌∷◌, ◌++◌, Option, Some, None, refl, sym, ◌∙◌, subst, arith}
use Rattle.std.specs.Prelude.{slice_get}
use Rattle.mv_outside.specs.Causes.{Rose}
use Rattle.mv_outside.specs.Files.{FileMap}
use Rattle.mv_inspect.specs.Told.{FileIs, IsMissing, StopsAmong}
use Rattle.mv_inspect.specs.Steps.{IsAnyText, IsUnread}
use Rattle.mv_inspect.specs.declared.naming.Unread.{Unread}
use Rattle.mv_inspect.specs.declared.naming.Unread.TheVariants as unread

not_some : (path : List ℕ) → None ≡ Some path → ⊥
not_some path e = cc

get_front : (a b : List (List ℕ)) (n : ℕ) (path : List ℕ) → slice_get a n ≡ Some path → slice_get (a ++ b) n ≡ Some path
get_front [] b n path named = absurd (not_some path named)
get_front (x ∷ a) b zero path named = named
get_front (x ∷ a) b (suc n) path named = get_front a b n path named

get_below : (a b : List (List ℕ)) (k n : ℕ) (path : List ℕ) → slice_get a k ≡ Some path → n < k → slice_get (a ++ b) n ≡ slice_get a n
get_below [] b k n path named below = absurd (not_some path named)
get_below (x ∷ a) b k zero path named below = refl
get_below (x ∷ a) b zero (suc n) path named below = absurd (omega arith)
get_below (x ∷ a) b (suc k) (suc n) path named below = get_below a b k n path named (omega arith)

module _ (told : Option FileMap) (path : List ℕ) where
  pub stops_first : (Goes : ℕ → List ℕ → Type 0) (P : ℕ → Type 0) (rest : List (List ℕ)) → P 0 → StopsAmong (path ∷ rest) Goes told path P
  stops_first Goes P rest p = record { number = 0; named = refl; earlier = λ n other below named. absurd (omega arith); stops = p }

  earlier_next : (Goes : ℕ → List ℕ → Type 0) (first : List ℕ) (rest : List (List ℕ)) (number : ℕ) → FileIs told first (Goes 0)
      → ((n : ℕ) (other : List ℕ) → n < number → slice_get rest n ≡ Some other → FileIs told other (Goes (suc n)))
      → (n : ℕ) (other : List ℕ) → n < suc number → slice_get (first ∷ rest) n ≡ Some other → FileIs told other (Goes n)
  earlier_next Goes first rest number there earlier zero other below named = let same : first ≡ other = cc in subst (λ p. FileIs told p (Goes 0)) same there
  earlier_next Goes first rest number there earlier (suc n) other below named = earlier n other (omega arith) named

  pub stops_next : (Goes : ℕ → List ℕ → Type 0) (P : ℕ → Type 0) (first : List ℕ) (rest : List (List ℕ)) → FileIs told first (Goes 0)
      → StopsAmong rest (λ n. Goes (suc n)) told path (λ n. P (suc n)) → StopsAmong (first ∷ rest) Goes told path P
  stops_next Goes P first rest there s = record { number = suc s.number; named = s.named; earlier = earlier_next Goes first rest s.number there s.earlier; stops = s.stops }

  pub stops_front : (Goes : ℕ → List ℕ → Type 0) (P : ℕ → Type 0) (a b : List (List ℕ)) → StopsAmong a Goes told path P → StopsAmong (a ++ b) Goes told path P
  stops_front Goes P a b s = record {
    number = s.number;
    named = get_front a b s.number path s.named;
    earlier = λ n other below named. s.earlier n other below (sym (get_below a b s.number n path s.named below) ∙ named);
    stops = s.stops;
  }

-- each of these files is there
abbrev pub AreThere : Option FileMap → List (List ℕ) → Type 0
AreThere told [] = Unit {0}
AreThere told (path ∷ paths) = FileIs told path (λ text. Unit {0}) × AreThere told paths

stops_behind : (told : Option FileMap) (path : List ℕ) (X : Type 0) (a b : List (List ℕ)) → AreThere told a → StopsAmong b IsAnyText told path (λ n. X) → StopsAmong (a ++ b) IsAnyText told path (λ n. X)
stops_behind told path X [] b there s = s
stops_behind told path X (x ∷ a) b there s = stops_next told path IsAnyText (λ n. X) x (a ++ b) there.0 (stops_behind told path X a b there.1 s)

rose_later : (a b c : ℕ) → a ≤ b → Rose b c → Rose a c
rose_later a b c later h = grind (arith, later, h)

-- ## The same of what isn't read

pub unread_front : (told : Option FileMap) (a b : List (List ℕ)) (faults now : ℕ) (e : Unread) → IsUnread told a faults now e → IsUnread told (a ++ b) faults now e
unread_front told a b faults now (unread.NoFile path) is = stops_front told path IsAnyText _ a b is
unread_front told a b faults now unread.NoMemory is = tt

pub unread_behind : (told : Option FileMap) (a b : List (List ℕ)) (faults now : ℕ) (e : Unread) → AreThere told a → IsUnread told b faults now e → IsUnread told (a ++ b) faults now e
unread_behind told a b faults now (unread.NoFile path) there is = stops_behind told path _ a b there is
unread_behind told a b faults now unread.NoMemory there is = tt

pub later_why : (told : Option FileMap) (path : List ℕ) (a b c : ℕ) → a ≤ b → IsMissing told path ⊎ Rose b c → IsMissing told path ⊎ Rose a c
later_why told path a b c later (inl missing) = inl missing
later_why told path a b c later (inr rose) = inr (rose_later a b c later rose)

unread_after : (told : Option FileMap) (paths : List (List ℕ)) (a b c : ℕ) (e : Unread) → a ≤ b → IsUnread told paths b c e → IsUnread told paths a c e
unread_after told paths a b c (unread.NoFile path) later is = record { number = is.number; named = is.named; earlier = is.earlier; stops = later_why told path a b c later is.stops }
unread_after told paths a b c unread.NoMemory later is = tt

-- what isn't read after other reads wasn't there before them, where they change no file
pub unread_later : (told mid : Option FileMap) (paths : List (List ℕ)) (a b c : ℕ) (e : Unread) → mid ≡ told → a ≤ b → IsUnread mid paths b c e → IsUnread told paths a c e
unread_later told mid paths a b c e same later is = unread_after told paths a b c e later (subst (λ t. IsUnread t paths b c e) same is)
