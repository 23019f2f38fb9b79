-- What the two writes of an append leave.
use Rattle.std.proofs.Common.{◌≡◌, ◌⊎◌, inl, inr, ⊎_elim, ℕ, ◌+◌, ◌-◌, ◌^◌, ◌<◌, List, [], ◌∷◌, ◌++◌, length, get_or, take, drop, sym, ◌∙◌, ap, subst, arith, append_assoc, length-append, take-append-drop}
use Rattle.std.specs.List.{flat_map}
use Rattle.std.proofs.lemmas.Bool.{cases_eq}
use Rattle.std.proofs.lemmas.Grind.{flat_map-append}
use Rattle.std.proofs.lemmas.List.{append-nil, take_all, take_at, drop_at, drop_more}
use Rattle.std.proofs.lemmas.List.Elements.{All-push}
use Rattle.mv_disk.specs.Disk.{Torn, Only, with_bytes}
use Rattle.mv_disk.specs.Records.{mark, records}
use Rattle.mv_disk.specs.Journal.{sized, row, at_rest, IsAtRest}
use Rattle.mv_disk.proofs.RecordLaws.{records-shut, records-more, records-at_rest}
use Rattle.mv_disk.proofs.TornLaws.{front_same, back_same, with_bytes-end, with_bytes-one}

abbrev Short : List ℕ → Type 0
Short body = length body < 2 ^ 32

-- the mark and these records, without the last gate
abbrev pub before_gate : List (List ℕ) → List ℕ
before_gate bodies = mark ++ flat_map row bodies

-- with a record behind this gate
abbrev pub with_record : List (List ℕ) → ℕ → List ℕ → List ℕ
with_record bodies gate body = before_gate bodies ++ gate ∷ (sized body ++ 0 ∷ [])

regroup : (bodies : List (List ℕ)) (more : List ℕ) → before_gate bodies ++ more ≡ mark ++ (flat_map row bodies ++ more)
regroup bodies more = append_assoc mark (flat_map row bodies) more

at_rest_is : (bodies : List (List ℕ)) → at_rest bodies ≡ before_gate bodies ++ 0 ∷ []
at_rest_is bodies = sym (regroup bodies (0 ∷ []))

module _ (end : ℕ) (outcomes : List ℕ → Type 0) (content : List ℕ) (rest : IsAtRest end outcomes content) where
  pub holds : records content ≡ rest.bodies
  holds = ap records rest.content_is ∙ records-at_rest rest.bodies rest.short

  -- where the closed gate stands
  pub gate_place : end ≡ length (before_gate rest.bodies) + 1
  gate_place = omega (arith, rest.end_is, ap length (rest.content_is ∙ at_rest_is rest.bodies), length-append (before_gate rest.bodies) (0 ∷ []))

  -- the first write
  pub staged : (body : List ℕ) → with_bytes content end (sized body ++ 0 ∷ []) ≡ with_record rest.bodies 0 body
  staged body =
      with_bytes-end content end (sized body ++ 0 ∷ []) rest.end_is
      ∙ ap (λ (l : List ℕ). l ++ (sized body ++ 0 ∷ [])) (rest.content_is ∙ at_rest_is rest.bodies)
      ∙ append_assoc (before_gate rest.bodies) (0 ∷ []) (sized body ++ 0 ∷ [])

  -- what stands behind a closed gate is no record
  pub torn_behind : (n : ℕ) (c : List ℕ) → Torn end n content c → records c ≡ records content
  torn_behind n c torn =
      let front : take end c ≡ before_gate rest.bodies ++ 0 ∷ [] =
      front_same end n content c (omega (arith, rest.end_is)) torn ∙ take_all end content (omega (arith, rest.end_is)) ∙ rest.content_is ∙ at_rest_is rest.bodies in
      let whole : c ≡ mark ++ (flat_map row rest.bodies ++ 0 ∷ drop end c) =
      sym (take-append-drop end c) ∙ ap (λ (l : List ℕ). l ++ drop end c) front
      ∙ append_assoc (before_gate rest.bodies) (0 ∷ []) (drop end c) ∙ regroup rest.bodies (0 ∷ drop end c) in
      ap records whole ∙ records-shut rest.bodies 0 (drop end c) rest.short (omega arith) ∙ sym holds

  -- a whole record behind any gate counts or it doesn't
  any_gate : (body : List ℕ) (gate : ℕ) → Short body →
      (records (with_record rest.bodies gate body) ≡ records content) ⊎ (records (with_record rest.bodies gate body) ≡ records content ++ body ∷ [])
  any_gate body gate short =
      let is : with_record rest.bodies gate body ≡ mark ++ (flat_map row rest.bodies ++ gate ∷ (sized body ++ 0 ∷ [])) = regroup rest.bodies (gate ∷ (sized body ++ 0 ∷ [])) in
      ⊎_elim
      (λ (opened : gate ≡ 1). inr (ap records is
      ∙ ap (λ (g : ℕ). records (mark ++ (flat_map row rest.bodies ++ g ∷ (sized body ++ 0 ∷ [])))) opened
      ∙ records-more rest.bodies body rest.short short ∙ ap (λ (l : List (List ℕ)). l ++ body ∷ []) (sym holds)))
      (λ shut. inl (ap records is ∙ records-shut rest.bodies gate (sized body ++ 0 ∷ []) rest.short shut ∙ sym holds))
      (cases_eq gate 1)

  -- the second write, done in part
  pub torn_gate : (body : List ℕ) (c : List ℕ) → Short body → Torn (end - 1) 1 (with_record rest.bodies 0 body) c →
      (records c ≡ records content) ⊎ (records c ≡ records content ++ body ∷ [])
  torn_gate body c short torn =
      let place : end - 1 ≡ length (before_gate rest.bodies) = omega (arith, gate_place) in
      let tail : List ℕ = sized body ++ 0 ∷ [] in
      let long : length (with_record rest.bodies 0 body) ≡ length (before_gate rest.bodies) + (1 + length tail) = omega (arith, length-append (before_gate rest.bodies) (0 ∷ tail)) in
      let gate : ℕ = get_or c (end - 1) 0 in
      let front : take (end - 1) c ≡ before_gate rest.bodies =
      front_same (end - 1) 1 (with_record rest.bodies 0 body) c (omega arith) torn ∙ take_at (before_gate rest.bodies) (0 ∷ tail) (end - 1) (sym place) in
      let behind : drop (end - 1 + 1) (with_record rest.bodies 0 body) ≡ tail =
      ap (λ (l : List ℕ). drop (end - 1 + 1) l) (sym (append_assoc (before_gate rest.bodies) (0 ∷ []) tail))
      ∙ drop_at (before_gate rest.bodies ++ 0 ∷ []) tail (end - 1 + 1) (omega (arith, length-append (before_gate rest.bodies) (0 ∷ []))) in
      let back : drop (end - 1) c ≡ gate ∷ tail =
      drop_more c (end - 1) 0 (omega (arith, torn.no_shorter))
      ∙ ap (λ (l : List ℕ). gate ∷ l) (back_same (end - 1) 1 (with_record rest.bodies 0 body) c (omega arith) torn ∙ behind) in
      let whole : c ≡ with_record rest.bodies gate body =
      sym (take-append-drop (end - 1) c) ∙ ap (λ (l : List ℕ). l ++ drop (end - 1) c) front ∙ ap (λ (l : List ℕ). before_gate rest.bodies ++ l) back in
      subst (λ (l : List ℕ). (records l ≡ records content) ⊎ (records l ≡ records content ++ body ∷ [])) (sym whole) (any_gate body gate short)

  -- and done
  pub opened : (body : List ℕ) → with_bytes (with_record rest.bodies 0 body) (end - 1) (1 ∷ []) ≡ at_rest (rest.bodies ++ body ∷ [])
  opened body =
      let tail : List ℕ = sized body ++ 0 ∷ [] in
      with_bytes-one (before_gate rest.bodies) 0 1 tail (end - 1) (omega (arith, gate_place))
      ∙ regroup rest.bodies (1 ∷ tail)
      ∙ ap (λ (l : List ℕ). mark ++ l)
      (sym (ap (λ (l : List ℕ). l ++ 0 ∷ []) (flat_map-append row rest.bodies (body ∷ []) ∙ ap (λ (l : List ℕ). flat_map row rest.bodies ++ l) (append-nil (row body)))
      ∙ append_assoc (flat_map row rest.bodies) (row body) (0 ∷ [])))

  pub length-opened : (body : List ℕ) → length (at_rest (rest.bodies ++ body ∷ [])) ≡ end + (length (sized body) + 1)
  length-opened body =
      let tail : List ℕ = sized body ++ 0 ∷ [] in
      let same : at_rest (rest.bodies ++ body ∷ []) ≡ before_gate rest.bodies ++ 1 ∷ tail =
      sym (opened body) ∙ with_bytes-one (before_gate rest.bodies) 0 1 tail (end - 1) (omega (arith, gate_place)) in
      omega (arith, ap length same, length-append (before_gate rest.bodies) (1 ∷ tail), length-append (sized body) (0 ∷ []), gate_place)

  -- the record is there, and the content ends at its new end
  pub rests : (body : List ℕ) (next : ℕ) (now : List ℕ → Type 0) (new : List ℕ) → Short body → next ≡ end + (length (sized body) + 1) →
      new ≡ at_rest (rest.bodies ++ body ∷ []) → Only new now → IsAtRest next now new
  rests body next now new short is new_is only = record {
    bodies = rest.bodies ++ body ∷ [];
    content_is = new_is;
    short = All-push Short rest.bodies body rest.short short;
    end_is = omega (arith, is, ap length new_is, length-opened body);
    lasts = only;
  }

  pub holds_more : (body : List ℕ) (new : List ℕ) → Short body → new ≡ at_rest (rest.bodies ++ body ∷ []) → records new ≡ records content ++ body ∷ []
  holds_more body new short new_is =
      ap records new_is ∙ records-at_rest (rest.bodies ++ body ∷ []) (All-push Short rest.bodies body rest.short short) ∙ ap (λ (l : List (List ℕ)). l ++ body ∷ []) (sym holds)
