-- The bytes of a schedule, one after another.
use Rattle.std.proofs.Common.{◌≡◌, ◌<◌, ◌≤◌, ◌+◌, [], ◌∷◌, ◌++◌, ℕ, List, Bool, true, false, length, drop, get_or, refl, ap, sym, ◌∙◌, Option, Some, None, not, ◌||◌, append_assoc}
use Rattle.std.specs.Prelude.{is_some, option_to_list}
use Rattle.std.proofs.lemmas.List.{drop_more, append-nil, drop_all}
use Rattle.mv_rehearse.specs.declared.beats.Beat.{Beat}
use Rattle.mv_schedule.specs.Schedules.{beat_of, beats_in, first_other, is_blank, with_beat}

abbrev pub passes : ℕ → Bool
passes byte = is_some (beat_of byte) || is_blank byte

pub other_here : (text : List ℕ) (i d : ℕ) → i < length text → true ≡ not (passes (get_or text i d)) → first_other i (drop i text) ≡ Some i
unfolding first_other
other_here text i d within e = ap (first_other i) (drop_more text i d within) ∙ at (passes (get_or text i d)) refl e
  where
    at : (b : Bool) → passes (get_or text i d) ≡ b → true ≡ not b → first_other i (get_or text i d ∷ drop (i + 1) text) ≡ Some i
    at true p e = absurd cc
    at false p e = rw p refl

pub none_here : (text : List ℕ) (i d : ℕ) → i < length text → false ≡ not (passes (get_or text i d)) → first_other i (drop i text) ≡ first_other (i + 1) (drop (i + 1) text)
unfolding first_other
none_here text i d within e = ap (first_other i) (drop_more text i d within) ∙ at (passes (get_or text i d)) refl e
  where
    at : (b : Bool) → passes (get_or text i d) ≡ b → false ≡ not b → first_other i (get_or text i d ∷ drop (i + 1) text) ≡ first_other (i + 1) (drop (i + 1) text)
    at true p e = rw p refl
    at false p e = absurd cc

pub none_at_end : (text : List ℕ) (i : ℕ) → length text ≤ i → first_other i (drop i text) ≡ None
unfolding first_other
none_at_end text i end = rw (drop_all i text end) refl

pub beats_step : (front : List Beat) (text : List ℕ) (i d : ℕ) → i < length text → (front ++ option_to_list (beat_of (get_or text i d))) ++ beats_in (drop (i + 1) text) ≡ front ++ beats_in (drop i text)
unfolding beats_in
beats_step front text i d within = sym (ap (λ (t : List ℕ). front ++ beats_in t) (drop_more text i d within) ∙ at (beat_of (get_or text i d)))
  where
    rest : List Beat
    rest = beats_in (drop (i + 1) text)

    at : (o : Option Beat) → front ++ with_beat o rest ≡ (front ++ option_to_list o) ++ rest
    at None = ap (λ (f : List Beat). f ++ rest) (sym (append-nil front))
    at (Some beat) = sym (append_assoc front (beat ∷ []) rest)

pub beats_at_end : (text : List ℕ) (i : ℕ) → length text ≤ i → beats_in (drop i text) ≡ []
unfolding beats_in
beats_at_end text i end = rw (drop_all i text end) refl

pub beats_done : (front : List Beat) (text : List ℕ) (i : ℕ) → length text ≤ i → front ++ beats_in (drop i text) ≡ front
beats_done front text i end = ap (λ (bs : List Beat). front ++ bs) (beats_at_end text i end) ∙ append-nil front
