-- What contents made of records hold.
use Rattle.std.proofs.Common.{◌≡◌, ◌≢◌, ℕ, zero, suc, ◌+◌, ◌^◌, ◌<◌, ◌≤◌, true, false, cond, List, [], ◌∷◌, ◌++◌, length, take, drop, Option, Some, None, refl, ◌∙◌, ap, arith, append_assoc, length-append, length-drop}
use Rattle.std.specs.Int.{w32, from_le_bytes, to_le_bytes}
use Rattle.std.specs.List.{flat_map, All}
use Rattle.std.specs.Option.{option_map_or}
use Rattle.std.specs.Str.{bytes_eq}
use Rattle.std.proofs.lemmas.Bool.Decides.{nat_tests}
use Rattle.std.proofs.lemmas.List.{append-nil, take_at, drop_at}
use Rattle.std.proofs.lemmas.List.Elements.{All-head, All-tail}
use Rattle.std.proofs.lemmas.Nat.{from_le_bytes-to_le_bytes_4}
use Rattle.mv_disk.specs.Records.{mark, front_body, records_within, records_from, records}
use Rattle.mv_disk.specs.Journal.{sized, row, at_rest}

-- the bound is no matter, where it is one
same_bound : (n m : ℕ) (rest : List ℕ) → length rest ≤ n → length rest ≤ m → records_within n rest ≡ records_within m rest
unfolding records_within front_body
same_bound zero zero rest h k = refl
same_bound zero (suc m) [] h k = refl
same_bound zero (suc m) (x ∷ rest) h k = absurd (omega arith)
same_bound (suc n) zero [] h k = refl
same_bound (suc n) zero (x ∷ rest) h k = absurd (omega arith)
same_bound (suc n) (suc m) rest h k =
    let With : ℕ → Option (List ℕ) → List (List ℕ) = λ k o. option_map_or (λ body. body ∷ records_within k (drop (5 + length body) rest)) o [] in
    elim (front_body rest) as (λ o. With n o ≡ With m o) [
      | None ↦ refl
      | Some body ↦ ap (λ (l : List (List ℕ)). body ∷ l)
          (same_bound n m (drop (5 + length body) rest) (omega (arith, length-drop (5 + length body) rest)) (omega (arith, length-drop (5 + length body) rest)))
    ]

-- the record that begins here, and those behind it
pub records_from-front : (rest body : List ℕ) → front_body rest ≡ Some body → records_from rest ≡ body ∷ records_from (drop (5 + length body) rest)
unfolding records_within front_body
records_from-front [] body h = absurd cc
records_from-front (x ∷ rest) body h =
    let more : List ℕ = drop (5 + length body) (x ∷ rest) in
    ap (λ (o : Option (List ℕ)). option_map_or (λ (b : List ℕ). b ∷ records_within (length rest) (drop (5 + length b) (x ∷ rest))) o []) h
    ∙ ap (λ (l : List (List ℕ)). body ∷ l)
    (same_bound (length rest) (length more) more (omega (arith, length-drop (5 + length body) (x ∷ rest))) (omega arith))

-- none that counts begins here
pub records_from-end : (rest : List ℕ) → front_body rest ≡ None → records_from rest ≡ []
unfolding records_within front_body
records_from-end [] h = refl
records_from-end (x ∷ rest) h =
    ap (λ (o : Option (List ℕ)). option_map_or (λ (b : List ℕ). b ∷ records_within (length rest) (drop (5 + length b) (x ∷ rest))) o []) h

-- what begins here, by the gate and the length
pub front_body-open : (rest : List ℕ) (size : ℕ) → from_le_bytes w32 rest ≡ size → 4 + size < length rest → front_body (1 ∷ rest) ≡ Some (take size (drop 4 rest))
unfolding front_body
front_body-open rest size is fits = grind (arith, nat_tests)

pub front_body-long : (gate : ℕ) (rest : List ℕ) (size : ℕ) → from_le_bytes w32 rest ≡ size → length rest ≤ 4 + size → front_body (gate ∷ rest) ≡ None
unfolding front_body
front_body-long gate rest size is long = grind (arith, nat_tests)

pub front_body-shut : (gate : ℕ) (rest : List ℕ) → gate ≢ 1 → front_body (gate ∷ rest) ≡ None
unfolding front_body
front_body-shut gate rest shut = grind (arith, nat_tests)

-- a byte is no record
pub front_body-short : (rest : List ℕ) → length rest ≤ 5 → front_body rest ≡ None
unfolding front_body
front_body-short [] h = refl
front_body-short (gate ∷ rest) h = front_body-long gate rest (from_le_bytes w32 rest) refl (omega arith)

pub length-sized : (body : List ℕ) → length (sized body) ≡ 4 + length body
length-sized body = omega (arith, length-append (to_le_bytes w32 (length body)) body)

-- an open record with something behind it is the first
pub records_from-row : (body more : List ℕ) → length body < 2 ^ 32 → 0 < length more → records_from (row body ++ more) ≡ body ∷ records_from more
records_from-row body more short some =
    let rest : List ℕ = sized body ++ more in
    let size : from_le_bytes w32 rest ≡ length body = from_le_bytes-to_le_bytes_4 (length body) short in
    let long : length rest ≡ 4 + (length body + length more) = omega (arith, length-append body more) in
    let front : front_body (row body ++ more) ≡ Some body =
    front_body-open rest (length body) size (omega arith) ∙ ap Some (take_at body more (length body) refl) in
    let behind : drop (5 + length body) (row body ++ more) ≡ more =
    drop_at (row body) more (5 + length body) (omega (arith, length-sized body)) in
    records_from-front (row body ++ more) body front ∙ ap (λ (l : List ℕ). body ∷ records_from l) behind

pub records_from-rows : (bodies : List (List ℕ)) (more : List ℕ) → All (λ body. length body < 2 ^ 32) bodies → 0 < length more → records_from (flat_map row bodies ++ more) ≡ bodies ++ records_from more
records_from-rows [] more short some = refl
records_from-rows (body ∷ bodies) more short some =
    let rest : List ℕ = flat_map row bodies ++ more in
    ap (λ (l : List ℕ). records_from l) (append_assoc (row body) (flat_map row bodies) more)
    ∙ records_from-row body rest (All-head (λ (b : List ℕ). length b < 2 ^ 32) body bodies short) (omega (arith, length-append (flat_map row bodies) more))
    ∙ ap (λ (l : List (List ℕ)). body ∷ l) (records_from-rows bodies more (All-tail (λ (b : List ℕ). length b < 2 ^ 32) body bodies short) some)

-- behind the mark
pub records-mark : (rest : List ℕ) → records (mark ++ rest) ≡ records_from rest
records-mark rest = refl

pub records-rows : (bodies : List (List ℕ)) (more : List ℕ) → All (λ body. length body < 2 ^ 32) bodies → 0 < length more → records (mark ++ (flat_map row bodies ++ more)) ≡ bodies ++ records_from more
records-rows bodies more short some = records_from-rows bodies more short some

-- a closed gate ends them
pub records-shut : (bodies : List (List ℕ)) (gate : ℕ) (more : List ℕ) → All (λ body. length body < 2 ^ 32) bodies → gate ≢ 1 → records (mark ++ (flat_map row bodies ++ gate ∷ more)) ≡ bodies
records-shut bodies gate more short shut =
    records-rows bodies (gate ∷ more) short (omega arith)
    ∙ ap (λ (l : List (List ℕ)). bodies ++ l) (records_from-end (gate ∷ more) (front_body-shut gate more shut)) ∙ append-nil bodies

pub records-at_rest : (bodies : List (List ℕ)) → All (λ body. length body < 2 ^ 32) bodies → records (at_rest bodies) ≡ bodies
records-at_rest bodies short = records-shut bodies 0 [] short (omega arith)

-- a record more, behind an open gate
pub records-more : (bodies : List (List ℕ)) (body : List ℕ) → All (λ body. length body < 2 ^ 32) bodies → length body < 2 ^ 32 →
    records (mark ++ (flat_map row bodies ++ 1 ∷ (sized body ++ 0 ∷ []))) ≡ bodies ++ body ∷ []
records-more bodies body short one =
    records-rows bodies (row body ++ 0 ∷ []) short (omega arith)
    ∙ ap (λ (l : List (List ℕ)). bodies ++ l) (records_from-row body (0 ∷ []) one (omega arith)
    ∙ ap (λ (l : List (List ℕ)). body ∷ l) (records_from-end (0 ∷ []) (front_body-shut 0 [] (omega arith))))

-- without a record behind it a mark has none
pub records-few : (content : List ℕ) → front_body (drop 8 content) ≡ None → records content ≡ []
records-few content none =
    elim (bytes_eq (take 8 content) mark) as (λ b. cond b (records_from (drop 8 content)) [] ≡ []) [
      | true ↦ records_from-end (drop 8 content) none
      | false ↦ refl
    ]
