-- Random bytes and events, one more at a time.
use Rattle.std.specs.Prelude.{◌≡◌, ℕ, ◌+◌, ◌<◌, List, [], ◌∷◌, ◌++◌, length, take, get_or, Option, Some, None, option_to_list, refl}
use Rattle.std.proofs.Common.{arith, ap, sym, ◌∙◌}
use Rattle.std.specs.List.{filter_map, enumerate_from, cons_option}
use Rattle.std.proofs.lemmas.List.{take_more, length-take}
use Rattle.std.proofs.lemmas.List.Elements.{filter_map-append}
use Rattle.std.proofs.lemmas.List.FromFn.{map-range_with_len_more}
use Rattle.mv_calls.specs.declared.happenings.Happened.{Happened}
use Rattle.mv_calls.specs.declared.subs.Sub.{Sub}
use Rattle.mv_kernmem.specs.States.{ScriptState}
use Rattle.mv_kernmem.specs.Replies.{random_at, random_bytes}
use Rattle.mv_kernmem.specs.Polls.{told_event, events_of}

-- one random byte more
pub random_more : (random : List ℕ) (place len : ℕ) → random_bytes random place (len + 1) ≡ random_bytes random place len ++ random_at random (place + len) ∷ []
random_more random place len = map-range_with_len_more (λ k. random_at random (place + k)) 0 len len (omega arith)

-- where the byte behind those so far is pushed
pub random_step : (random : List ℕ) (place len more byte : ℕ) (items new : List ℕ) → items ≡ random_bytes random place len →
    new ≡ items ++ byte ∷ [] → byte ≡ random_at random (place + len) → more ≡ len + 1 → new ≡ random_bytes random place more
random_step random place len more byte items new so_far pushed is_next longer =
    pushed
    ∙ (ap (λ front. front ++ byte ∷ []) so_far
    ∙ (ap (λ b. random_bytes random place len ++ b ∷ []) is_next
    ∙ (sym (random_more random place len) ∙ ap (random_bytes random place) (sym longer))))

-- one numbered subscription more
numbered_more : (first : ℕ) (subs : List Sub) (sub : Sub) → enumerate_from first (subs ++ sub ∷ []) ≡ enumerate_from first subs ++ (first + length subs, sub) ∷ []
numbered_more first [] sub = ap (λ (n : ℕ). (n, sub) ∷ []) (omega arith)
numbered_more first (other ∷ subs) sub =
    ap (λ rest. (first, other) ∷ rest) (numbered_more (first + 1) subs sub
    ∙ ap (λ (n : ℕ). enumerate_from (first + 1) subs ++ (n, sub) ∷ []) (omega arith))

-- what is made of one
one_event : (s : ScriptState) (number : ℕ) (sub : Sub) → filter_map (told_event s) ((number, sub) ∷ []) ≡ option_to_list (told_event s (number, sub))
one_event s number sub = as_list (told_event s (number, sub))
  where
    as_list : (event : Option Happened) → cons_option event [] ≡ option_to_list event
    as_list None = refl
    as_list (Some event) = refl

-- one subscription more
events_more : (s : ScriptState) (subs : List Sub) (number : ℕ) (other : Sub) → number < length subs →
    events_of s (take (number + 1) subs) ≡ events_of s (take number subs) ++ option_to_list (told_event s (number, get_or subs number other))
events_more s subs number other within =
    ap (events_of s) (take_more subs number other within)
    ∙ (ap (filter_map (told_event s)) (numbered_more 0 (take number subs) (get_or subs number other))
    ∙ (filter_map-append (told_event s) (enumerate_from 0 (take number subs)) ((0 + length (take number subs), get_or subs number other) ∷ [])
    ∙ ap (λ more. events_of s (take number subs) ++ more)
    (ap (λ n. filter_map (told_event s) ((n, get_or subs number other) ∷ [])) (omega (arith, length-take number subs)) ∙ one_event s number (get_or subs number other))))

-- where the event of the subscription behind those so far is pushed, if there is one
pub events_step : (s : ScriptState) (subs : List Sub) (number : ℕ) (other : Sub) (events new : List Happened) (event : Option Happened) →
    number < length subs → events ≡ events_of s (take number subs) → event ≡ told_event s (number, get_or subs number other) →
    new ≡ events ++ option_to_list event → new ≡ events_of s (take (number + 1) subs)
events_step s subs number other events new event within so_far is_next pushed =
    pushed
    ∙ (ap (λ front. front ++ option_to_list event) so_far
    ∙ (ap (λ e. events_of s (take number subs) ++ option_to_list e) is_next ∙ sym (events_more s subs number other within)))
