-- A record, read back.
use Rattle.std.proofs.Common.{◌≡◌, ◌≢◌, ℕ, ◌+◌, ◌-◌, ◌*◌, ◌<◌, ◌≤◌, ◌==◌, ◌&&◌, Bool, true, false, cond, nat_lt, List, [], ◌∷◌, ◌++◌, length, get_or, take, drop, Option, Some, None, refl, sym, ◌∙◌, ap, arith, append_assoc, length-take, length-drop}
use Rattle.std.specs.Int.{w32, from_le_bytes}
use Rattle.std.specs.Option.{option_map}
use Rattle.std.proofs.lemmas.Bool.Decides.{nat_tests}
use Rattle.std.proofs.lemmas.List.{append-nil, drop-drop}
use Rattle.mv_disk.specs.Records.{front_body, records_from}
use Rattle.mv_disk.proofs.RecordLaws.{front_body-open, front_body-long, front_body-shut, records_from-front, records_from-end}

-- the length as the code reads it
abbrev pub size_read : List ℕ → ℕ
size_read head = get_or head 1 0 + get_or head 2 0 * 256 + get_or head 3 0 * 65536 + get_or head 4 0 * 16777216

pub read_open : (rest head : List ℕ) (size : ℕ) → 5 < length rest → head ≡ take 5 rest → get_or head 0 0 ≡ 1 → size ≡ size_read head → size < length rest - 5 → Some size ≡ option_map length (front_body rest)
read_open (gate ∷ a ∷ b ∷ c ∷ d ∷ more) head size long is opened size_is fits =
    let rest : List ℕ = a ∷ b ∷ c ∷ d ∷ more in
    let gate_is : gate ≡ 1 = sym (ap (λ (l : List ℕ). get_or l 0 0) is) ∙ opened in
    let read : from_le_bytes w32 rest ≡ size = sym (size_is ∙ ap size_read is) in
    let front : front_body (gate ∷ rest) ≡ Some (take size (drop 4 rest)) = ap (λ (g : ℕ). front_body (g ∷ rest)) gate_is ∙ front_body-open rest size read (omega arith) in
    let short : size ≡ length (take size more) = omega (arith, length-take size more) in
    ap Some short ∙ sym (ap (λ (o : Option (List ℕ)). option_map length o) front)
read_open [] head size long is opened size_is fits = absurd (omega arith)
read_open (a ∷ []) head size long is opened size_is fits = absurd (omega arith)
read_open (a ∷ b ∷ []) head size long is opened size_is fits = absurd (omega arith)
read_open (a ∷ b ∷ c ∷ []) head size long is opened size_is fits = absurd (omega arith)
read_open (a ∷ b ∷ c ∷ d ∷ []) head size long is opened size_is fits = absurd (omega arith)

pub read_shut : (rest head : List ℕ) → 5 < length rest → head ≡ take 5 rest → get_or head 0 0 ≢ 1 → None ≡ option_map length (front_body rest)
read_shut [] head long is shut = absurd (omega arith)
read_shut (gate ∷ rest) head long is shut =
    let not_one : gate ≢ 1 = λ opened. shut (ap (λ (l : List ℕ). get_or l 0 0) is ∙ opened) in
    sym (ap (λ (o : Option (List ℕ)). option_map length o) (front_body-shut gate rest not_one))

pub read_long : (rest head : List ℕ) (size : ℕ) → 5 < length rest → head ≡ take 5 rest → size ≡ size_read head → length rest - 5 ≤ size → None ≡ option_map length (front_body rest)
read_long (gate ∷ a ∷ b ∷ c ∷ d ∷ more) head size long is size_is past =
    let rest : List ℕ = a ∷ b ∷ c ∷ d ∷ more in
    let read : from_le_bytes w32 rest ≡ size = sym (size_is ∙ ap size_read is) in
    sym (ap (λ (o : Option (List ℕ)). option_map length o) (front_body-long gate rest size read (omega arith)))
read_long [] head size long is size_is past = absurd (omega arith)
read_long (a ∷ []) head size long is size_is past = absurd (omega arith)
read_long (a ∷ b ∷ []) head size long is size_is past = absurd (omega arith)
read_long (a ∷ b ∷ c ∷ []) head size long is size_is past = absurd (omega arith)
read_long (a ∷ b ∷ c ∷ d ∷ []) head size long is size_is past = absurd (omega arith)

-- a test that chose
chosen : (b : Bool) (x y : List ℕ) → cond b (Some x) None ≡ Some y → (b ≡ true) × (x ≡ y)
chosen true x y h = (refl, cc)
chosen false x y h = absurd cc

both_true : (a b : Bool) → a && b ≡ true → b ≡ true
both_true true b h = h
both_true false b h = absurd cc

below : (m n : ℕ) → nat_lt m n ≡ true → m < n
below m n h = grind (arith, nat_tests)

-- the body stands behind the gate and the length
pub front_is : (rest body : List ℕ) → front_body rest ≡ Some body → body ≡ take (length body) (drop 5 rest)
unfolding front_body
front_is [] body h = absurd cc
front_is (gate ∷ rest) body h =
    let size : ℕ = from_le_bytes w32 rest in
    let parts = chosen ((gate == 1) && nat_lt (4 + size) (length rest)) (take size (drop 4 rest)) body h in
    let fits : 4 + size < length rest = below (4 + size) (length rest) (both_true (gate == 1) (nat_lt (4 + size) (length rest)) parts.0) in
    let long : length body ≡ size = omega (arith, ap length parts.1, length-take size (drop 4 rest), length-drop 4 rest) in
    sym parts.1 ∙ ap (λ (n : ℕ). take n (drop 4 rest)) (sym long)

read_back : (rest : List ℕ) (size : ℕ) (found : Option (List ℕ)) → front_body rest ≡ found → Some size ≡ option_map length found → Some (take size (drop 5 rest)) ≡ found
read_back rest size None is sized = absurd cc
read_back rest size (Some body) is sized =
    let same : size ≡ length body = cc in
    ap (λ (n : ℕ). Some (take n (drop 5 rest))) same ∙ ap Some (sym (front_is rest body is))

pub read_record : (content : List ℕ) (at size : ℕ) → Some size ≡ option_map length (front_body (drop at content)) → Some (take size (drop (at + 5) content)) ≡ front_body (drop at content)
read_record content at size sized =
    ap (λ (l : List ℕ). Some (take size l)) (sym (drop-drop 5 at content)) ∙ read_back (drop at content) size (front_body (drop at content)) refl sized

-- one record more was read
pub found_more : (content : List ℕ) (at : ℕ) (found now : List (List ℕ)) (body : List ℕ) → Some body ≡ front_body (drop at content) →
    found ++ records_from (drop at content) ≡ records_from (drop 8 content) → now ≡ found ++ body ∷ [] →
    now ++ records_from (drop (at + (5 + length body)) content) ≡ records_from (drop 8 content)
found_more content at found now body front so_far is =
    ap (λ (l : List (List ℕ)). l ++ records_from (drop (at + (5 + length body)) content)) is
    ∙ append_assoc found (body ∷ []) (records_from (drop (at + (5 + length body)) content))
    ∙ ap (λ (l : List ℕ). found ++ body ∷ records_from l) (sym (drop-drop (5 + length body) at content))
    ∙ ap (λ (l : List (List ℕ)). found ++ l) (sym (records_from-front (drop at content) body (sym front)))
    ∙ so_far

-- and no more
pub found_all : (content : List ℕ) (at : ℕ) (found : List (List ℕ)) → None ≡ front_body (drop at content) →
    found ++ records_from (drop at content) ≡ records_from (drop 8 content) → found ≡ records_from (drop 8 content)
found_all content at found front so_far =
    sym (append-nil found) ∙ ap (λ (l : List (List ℕ)). found ++ l) (sym (records_from-end (drop at content) (sym front))) ∙ so_far
