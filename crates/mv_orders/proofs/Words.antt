-- The words of a line: cutting it at spaces, and joining them again.
use Rattle.std.proofs.Common.{◌≡◌, ◌≢◌, ◌∷◌, ◌<◌, ◌≤◌, [], ℕ, List, Bool, true, false, length, get_or, refl, ap, sym, ◌∙◌, subst, eqb, All, Result, Ok, Err, cond, arith}
use Rattle.std.specs.Prelude.{IsUtf8}
use Rattle.std.specs.List.{AllByRecursion, slice_split, onto_first, join_with_byte}
use Rattle.std.proofs.lemmas.List.Splits.{join_with_byte-slice_split, slice_split_none, slice_split_at}
use Rattle.std.proofs.lemmas.Bool.{ne_eqb, eqb-false}
use Rattle.std.proofs.lemmas.List.Elements.{All-from_recursion}
use Rattle.mv_calls.specs.declared.fault.Or.{Or}
use Rattle.mv_calls.specs.declared.fault.Or.TheVariants as or
use Rattle.std.specs.Prelude.{IfOk}
use Rattle.mv_calls.specs.Or.{IfFault}
use Rattle.mv_orders.specs.Answers.{AllowsAnswer}
use Rattle.mv_orders.specs.declared.order.Order.{Order}
use Rattle.mv_orders.specs.declared.order.Order.TheVariants.{Update, Promote, Discard, Finish, Back, Halt, Status}
use Rattle.mv_orders.specs.declared.order.OrderFault.{OrderFault}
use Rattle.mv_orders.specs.declared.order.OrderFault.TheVariants.{Long, Utf8, Unknown}
use Rattle.mv_orders.specs.Order.{IsWord, IsOrder, Reads, ReadsWords, order_words, line_limit}

abbrev HasNoSpace : List ℕ → Type 0
HasNoSpace = AllByRecursion (λ b. b ≢ 32)

abbrev pub cut : List ℕ → List (List ℕ)
cut = slice_split (λ b. eqb b 32)

-- ---- no part has a space

onto_first_plain : (x : ℕ) (parts : List (List ℕ)) → x ≢ 32 → AllByRecursion HasNoSpace parts → AllByRecursion HasNoSpace (onto_first x parts)
onto_first_plain x [] ne all = ((ne, tt), tt)
onto_first_plain x (part ∷ parts) ne all = ((ne, all.0), all.1)

pub cut_plain : (line : List ℕ) → AllByRecursion HasNoSpace (cut line)
cut_plain [] = (tt, tt)
cut_plain (x ∷ xs) = at_byte x xs (eqb x 32) refl (cut_plain xs)
  where
    at_byte : (x : ℕ) (xs : List ℕ) (b : Bool) → eqb x 32 ≡ b → AllByRecursion HasNoSpace (cut xs) → AllByRecursion HasNoSpace (cond b ([] ∷ cut xs) (onto_first x (cut xs)))
    at_byte x xs true e all = (tt, all)
    at_byte x xs false e all = onto_first_plain x (cut xs) (eqb-false x 32 e) all

-- ---- cutting what was joined

word_passes : (word : List ℕ) → HasNoSpace word → All (λ b. eqb b 32 ≡ false) word
word_passes word plain = All-from_recursion (λ b. eqb b 32 ≡ false) word (each word plain)
  where
    each : (word : List ℕ) → HasNoSpace word → AllByRecursion (λ b. eqb b 32 ≡ false) word
    each [] plain = tt
    each (b ∷ bs) plain = (ne_eqb b 32 plain.0, each bs plain.1)

cut_join : (word : List ℕ) (more : List (List ℕ)) → AllByRecursion HasNoSpace (word ∷ more) → cut (join_with_byte 32 (word ∷ more)) ≡ word ∷ more
cut_join word [] plain = slice_split_none (λ b. eqb b 32) word (word_passes word plain.0)
cut_join word (next ∷ more) plain =
    slice_split_at (λ b. eqb b 32) word 32 (join_with_byte 32 (next ∷ more)) (word_passes word plain.0) refl ∙ ap (λ (ws : List (List ℕ)). word ∷ ws) (cut_join next more plain.1)

-- ---- orders

are_words : (words : List (List ℕ)) → AllByRecursion (λ w. 0 < length w) words → AllByRecursion HasNoSpace words → AllByRecursion IsWord words
are_words [] full plain = tt
are_words (w ∷ ws) full plain = ((full.0, plain.0), are_words ws full.1 plain.1)

full_words : (words : List (List ℕ)) → AllByRecursion IsWord words → AllByRecursion (λ w. 0 < length w) words
full_words [] all = tt
full_words (w ∷ ws) all = (all.0.0, full_words ws all.1)

plain_words : (words : List (List ℕ)) → AllByRecursion IsWord words → AllByRecursion HasNoSpace words
plain_words [] all = tt
plain_words (w ∷ ws) all = (all.0.1, plain_words ws all.1)

-- the words of an order, joined, are cut to the same words
cut_order : (order : Order) → AllByRecursion HasNoSpace (order_words order) → cut (join_with_byte 32 (order_words order)) ≡ order_words order
cut_order (Update m f r) plain = cut_join _ _ plain
cut_order Promote plain = cut_join _ _ plain
cut_order Discard plain = cut_join _ _ plain
cut_order Finish plain = cut_join _ _ plain
cut_order Back plain = cut_join _ _ plain
cut_order Halt plain = cut_join _ _ plain
cut_order Status plain = cut_join _ _ plain

order_from_cut : (line : List ℕ) (order : Order) → cut line ≡ order_words order → AllByRecursion (λ w. 0 < length w) (cut line) → IsOrder line order
order_from_cut line order e full =
    let plain : AllByRecursion HasNoSpace (order_words order) = subst (AllByRecursion HasNoSpace) e (cut_plain line) in
    record {
      words = are_words (order_words order) (subst (AllByRecursion (λ w. 0 < length w)) e full) plain;
      joined = sym (join_with_byte-slice_split 32 line) ∙ ap (join_with_byte 32) e;
    }

no_order : (line : List ℕ) → ((order : Order) → cut line ≡ order_words order → ¬ AllByRecursion (λ w. 0 < length w) (cut line)) → (order : Order) → ¬ IsOrder line order
no_order line none order is =
    let e : cut line ≡ order_words order = ap cut is.joined ∙ cut_order order (plain_words (order_words order) is.words) in
    none order e (subst (AllByRecursion (λ w. 0 < length w)) (sym e) (full_words (order_words order) is.words))

-- what the words give is what the line gives
pub line_reads : (line : List ℕ) (r : Result Order (Or OrderFault)) → length line ≤ line_limit → IsUtf8 line → AllowsAnswer (ReadsWords (cut line)) r → AllowsAnswer (Reads line) r
line_reads line (Ok order) short text given = (short, text, order_from_cut line order given.0 given.1)
line_reads line (Err (or.Fault Long)) short text given = absurd given
line_reads line (Err (or.Fault Utf8)) short text given = absurd given
line_reads line (Err (or.Fault Unknown)) short text given = (short, text, no_order line given)
line_reads line (Err or.OutOfMemory) short text given = tt

-- ---- one reading

abbrev letter : List (List ℕ) → ℕ
letter ws = get_or (get_or ws 0 []) 0 0

-- the order of words that are an order's
abbrev found : List (List ℕ) → Order
found ws = cond (eqb (letter ws) 117) (Update (get_or ws 1 []) (get_or ws 2 []) (get_or ws 3 []))
    (cond (eqb (letter ws) 112) Promote (cond (eqb (letter ws) 100) Discard (cond (eqb (letter ws) 102) Finish
    (cond (eqb (letter ws) 98) Back (cond (eqb (letter ws) 104) Halt Status)))))

found_is : (order : Order) → found (order_words order) ≡ order
found_is (Update m f r) = refl
found_is Promote = refl
found_is Discard = refl
found_is Finish = refl
found_is Back = refl
found_is Halt = refl
found_is Status = refl

same_order : (line : List ℕ) (x y : Order) → IsOrder line x → IsOrder line y → x ≡ y
same_order line x y p q =
    let words : order_words x ≡ order_words y = sym (cut_order x (plain_words _ p.words)) ∙ ap cut (sym p.joined ∙ q.joined) ∙ cut_order y (plain_words _ q.words) in
    sym (found_is x) ∙ ap found words ∙ found_is y

-- two readings of one line are one
pub same_reading : (line : List ℕ) (a b : Result Order OrderFault) → Reads line a → Reads line b → a ≡ b
same_reading line (Ok x) (Ok y) p q = ap (λ (o : Order). Ok o) (same_order line x y p.2 q.2)
same_reading line (Ok x) (Err Long) p q = absurd (omega (arith, p.0, q))
same_reading line (Ok x) (Err Utf8) p q = absurd (q.1 p.1)
same_reading line (Ok x) (Err Unknown) p q = absurd (q.2 x p.2)
same_reading line (Err Long) (Ok y) p q = absurd (omega (arith, p, q.0))
same_reading line (Err Long) (Err Long) p q = refl
same_reading line (Err Long) (Err Utf8) p q = absurd (omega (arith, p, q.0))
same_reading line (Err Long) (Err Unknown) p q = absurd (omega (arith, p, q.0))
same_reading line (Err Utf8) (Ok y) p q = absurd (p.1 q.1)
same_reading line (Err Utf8) (Err Long) p q = absurd (omega (arith, p.0, q))
same_reading line (Err Utf8) (Err Utf8) p q = refl
same_reading line (Err Utf8) (Err Unknown) p q = absurd (p.1 q.1)
same_reading line (Err Unknown) (Ok y) p q = absurd (p.2 y q.2)
same_reading line (Err Unknown) (Err Long) p q = absurd (omega (arith, p.0, q))
same_reading line (Err Unknown) (Err Utf8) p q = absurd (q.1 p.1)
same_reading line (Err Unknown) (Err Unknown) p q = refl

-- ---- the two clauses of an answer

pub answers_ok : {X E : Type 0} (P : Result X E → Type 0) (r : Result X (Or E)) → AllowsAnswer P r → IfOk r (λ x. P (Ok x))
answers_ok P (Ok x) is = is
answers_ok P (Err e) is = tt

pub answers_fault : {X E : Type 0} (P : Result X E → Type 0) (r : Result X (Or E)) → AllowsAnswer P r → IfFault r (λ e. P (Err e))
answers_fault P (Ok x) is = tt
answers_fault P (Err (or.Fault e)) is = is
answers_fault P (Err or.OutOfMemory) is = tt
