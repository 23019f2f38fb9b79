-- What the fault of a form hangs on, kept by each way in which forms are made: the bytes in front of its place, what
-- stands there, and how many bytes follow.
use Rattle.std.proofs.Common.{◌≡◌, ℕ, ◌+◌, ◌≤◌, ◌<◌, Bool, true, false, cond, eqb, ltb, List, [], ◌∷◌, ◌++◌, length, take, drop, Result, Ok, Err, refl, sym, ap, subst, ◌∙◌, append_assoc, add-zero, arith, ◌⊎◌, inl, inr}
use Rattle.std.proofs.lemmas.Bool.{ltb-true, ltb-false, le-ltb}
use Rattle.std.proofs.lemmas.List.{append-nil, take_at, take-append-drop, length-append, length-take-le, take_all, nil_from_length}
use Rattle.mv_syntax.specs.declared.fault.ReadFault.{ReadFault}
use Rattle.mv_syntax.specs.declared.fault.ReadKind.{ReadKind}
use Rattle.mv_syntax.specs.declared.fault.ReadKind.TheVariants.{Cut, Size, Count}
use Rattle.mv_syntax.specs.Form.{At, past, fault, runs_out, after, Form}
use Rattle.mv_syntax.specs.Forms.{give, ◌>>=◌, byte_from, byte, judged, means, choose, bytes, ended, window, split_from, sized, unless_short, clipped_from, clipped, headed}
use Rattle.mv_syntax.specs.FirstFaults.{Stands}
use Rattle.mv_syntax.proofs.FormLaws.{Agrees}

-- ---- results that fail

abbrev pub failed : {X : Type 0} → ReadFault → Result X ReadFault
failed d = Err d

pub err_is : {X : Type 0} (d e : ReadFault) → failed {X = X} d ≡ Err e → d ≡ e
err_is d e h = cc

-- the first of two steps failed, or the second
pub after_err : {A B : Type 0} (r : Result A ReadFault) (k : A → Result B ReadFault) (e : ReadFault) → after r k ≡ Err e → (r ≡ Err e) ⊎ ((x : A) × (r ≡ Ok x) × (k x ≡ Err e))
after_err (Ok x) k e h = inr (x, refl, h)
after_err {A} {B} (Err d) k e h = inl (ap (λ (d : ReadFault). failed {X = A} d) (err_is {X = B} d e h))

pub guard_err : {X : Type 0} (b : Bool) (d : ReadFault) (x : X) (e : ReadFault) → cond b (failed d) (Ok x) ≡ Err e → (b ≡ true) × (d ≡ e)
guard_err {X} true d x e h = (refl, err_is {X = X} d e h)
guard_err false d x e h = absurd cc

pub unless_err : {X : Type 0} (b : Bool) (x : X) (d e : ReadFault) → cond b (Ok x) (failed d) ≡ Err e → (b ≡ false) × (d ≡ e)
unless_err true x d e h = absurd cc
unless_err {X} false x d e h = (refl, err_is {X = X} d e h)

-- ---- what a fault hangs on

-- it isn't at the end that the fault is, or it is at that of a window
abbrev pub IsWithin : At → ReadFault → Type 0
IsWithin at e = (e.place < at.place + length at.rest) ⊎ ((e.kind ≡ Size) × (at.short ≡ Cut))

-- how many bytes may stand in place of so many: as many, or also more
abbrev pub Fits : Bool → At → ReadFault → ℕ → ℕ → Type 0
Fits false at e n m = m ≡ n
Fits true at e n m = (m ≡ n) ⊎ ((n ≤ m) × IsWithin at e)

abbrev pub with_rest : At → List ℕ → At
with_rest at rest = record { place = at.place; rest = rest; short = at.short }

pub record Fixed {X : Type 0} (grows : Bool) (reads : At → Result X ReadFault) (at : At) (e : ReadFault) : Type 0 where
  pub front : List ℕ
  pub text : List ℕ
  pub back : List ℕ
  pub parts : at.rest ≡ front ++ (text ++ back)
  pub place_is : e.place ≡ at.place + length front
  pub stands : Stands e.kind text
  pub cut : e.kind ≡ Cut → (at.short ≡ Cut) × (back ≡ [])
  pub same : (others : List ℕ) → Fits grows at e (length back) (length others) → reads (with_rest at (front ++ (text ++ others))) ≡ Err e

abbrev pub IsShort : ReadKind → Type 0
IsShort k = (k ≡ Cut) ⊎ (k ≡ Size)

abbrev pub Settles : {X : Type 0} → Bool → (At → Result X ReadFault) → Type 0
Settles {X} g reads = (at : At) (e : ReadFault) → IsShort at.short → reads at ≡ Err e → Fixed g reads at e

pub fits_le : (g : Bool) (at : At) (e : ReadFault) (n m : ℕ) → Fits g at e n m → n ≤ m
fits_le false at e n m f = omega (arith, f)
fits_le true at e n m (inl f) = omega (arith, f)
fits_le true at e n m (inr f) = f.0

-- with more bytes in front on both sides
fits_more : (g : Bool) (at : At) (e : ReadFault) (n m k l : ℕ) → (m ≡ n → l ≡ k) → (n ≤ m → k ≤ l) → Fits g at e n m → Fits g at e k l
fits_more false at e n m k l same less f = same f
fits_more true at e n m k l same less (inl f) = inl (same f)
fits_more true at e n m k l same less (inr f) = inr (less f.0, f.1)

fits_next : (g : Bool) (at next : At) (e : ReadFault) (n m : ℕ) → next.place + length next.rest ≡ at.place + length at.rest → next.short ≡ at.short → Fits g at e n m → Fits g next e n m
fits_next false at next e n m end short f = f
fits_next true at next e n m end short (inl f) = inl f
fits_next true at next e n m end short (inr f) = inr (f.0, within f.1)
  where
    within : IsWithin at e → IsWithin next e
    within (inl lt) = inl (omega (arith, lt, end))
    within (inr w) = inr (w.0, short ∙ w.1)

-- the lengths of what is read, where other bytes follow
whole_fits : (g : Bool) (at : At) (e : ReadFault) (front text back others : List ℕ) → at.rest ≡ front ++ (text ++ back) → Fits g at e (length back) (length others) → Fits g at e (length at.rest) (length (front ++ (text ++ others)))
whole_fits g at e front text back others parts f =
    let one : length at.rest ≡ length front + (length text + length back) = omega (arith, ap length parts, length-append front (text ++ back), length-append text back) in
    let two : length (front ++ (text ++ others)) ≡ length front + (length text + length others) = omega (arith, length-append front (text ++ others), length-append text others) in
    fits_more g at e (length back) (length others) (length at.rest) (length (front ++ (text ++ others))) (λ same. omega (arith, same, one, two)) (λ less. omega (arith, less, one, two)) f

-- read another way with the same faults
pub fixed_as : {X Y : Type 0} (g : Bool) (one : At → Result X ReadFault) (two : At → Result Y ReadFault) (at : At) (e : ReadFault) → ((there : At) → Fits g at e (length at.rest) (length there.rest) → one there ≡ Err e → two there ≡ Err e) → Fixed g one at e → Fixed g two at e
fixed_as g one two at e onward F = record {
  front = F.front;
  text = F.text;
  back = F.back;
  parts = F.parts;
  place_is = F.place_is;
  stands = F.stands;
  cut = F.cut;
  same = λ others fits. onward (with_rest at (F.front ++ (F.text ++ others))) (whole_fits g at e F.front F.text F.back others F.parts fits) (F.same others fits);
}

-- a first step failed
pub carried : {X Y : Type 0} (g : Bool) (reads : At → Result X ReadFault) (k : At → X → Result Y ReadFault) (at : At) (e : ReadFault) → Fixed g reads at e → Fixed g (λ at. after (reads at) (k at)) at e
carried {X} {Y} g reads k at e F = fixed_as g reads (λ at. after (reads at) (k at)) at e (λ there fits h. ap (λ (r : Result X ReadFault). after r (k there)) h) F

-- ---- the end

not_within : (at : At) (e : ReadFault) → e.place ≡ at.place + length at.rest → (e.kind ≡ at.short) ⊎ (e.kind ≡ Count) → IsWithin at e → ⊥
not_within at e place kind (inl lt) = absurd (omega (arith, place, lt))
not_within at e place (inl kind) (inr w) = let clash : Size ≡ Cut = sym w.0 ∙ kind ∙ w.1 in absurd cc
not_within at e place (inr kind) (inr w) = let clash : Size ≡ Count = sym w.0 ∙ kind in absurd cc

end_fits : (g : Bool) (at : At) (e : ReadFault) (m : ℕ) → e.place ≡ at.place + length at.rest → (e.kind ≡ at.short) ⊎ (e.kind ≡ Count) → Fits g at e 0 m → m ≡ 0
end_fits false at e m place kind f = f
end_fits true at e m place kind (inl f) = f
end_fits true at e m place kind (inr f) = absurd (not_within at e place kind f.1)

end_stands : (short kind : ReadKind) → IsShort short → (kind ≡ short) ⊎ (kind ≡ Count) → Stands kind []
end_stands short k s (inr c) = subst (λ (k : ReadKind). Stands k []) (sym c) (inl refl)
end_stands short k (inl s) (inl c) = subst (λ (k : ReadKind). Stands k []) (sym (c ∙ s)) refl
end_stands short k (inr s) (inl c) = subst (λ (k : ReadKind). Stands k []) (sym (c ∙ s)) refl

end_cut : (short kind : ReadKind) → (kind ≡ short) ⊎ (kind ≡ Count) → kind ≡ Cut → short ≡ Cut
end_cut short k (inl c) h = sym c ∙ h
end_cut short k (inr c) h = let clash : Count ≡ Cut = sym c ∙ h in absurd cc

-- a fault of the end hangs on all the bytes
pub end_fixed : {X : Type 0} (g : Bool) (reads : At → Result X ReadFault) (at : At) (e : ReadFault) → IsShort at.short → reads at ≡ Err e → e.place ≡ at.place + length at.rest → (e.kind ≡ at.short) ⊎ (e.kind ≡ Count) → Fixed g reads at e
end_fixed {X} g reads at e short h place kind = record {
  front = at.rest;
  text = [];
  back = [];
  parts = sym (append-nil at.rest);
  place_is = place;
  stands = end_stands at.short e.kind short kind;
  cut = λ c. (end_cut at.short e.kind kind c, refl);
  same = λ others fits. (let none : others ≡ [] = nil_from_length others (end_fits g at e (length others) place kind fits) in
      ap (λ (o : List ℕ). reads (with_rest at (at.rest ++ o))) none ∙ ap (λ (r : List ℕ). reads (with_rest at r)) (append-nil at.rest) ∙ h);
}

pub out_fixed : {X : Type 0} (g : Bool) (reads : At → Result X ReadFault) (at : At) (e : ReadFault) → IsShort at.short → reads at ≡ Err e → record { place = at.place + length at.rest; kind = at.short } ≡ e → Fixed g reads at e
out_fixed g reads at e short h is = end_fixed g reads at e short h (sym (ap (λ (d : ReadFault). d.place) is)) (inl (sym (ap (λ (d : ReadFault). d.kind) is)))

-- ---- nothing, a byte, so many bytes

pub give_settles : {A : Type 0} (g : Bool) (a : A) → Settles g (give a).reads
give_settles g a at e short h = absurd cc

byte_err : (place : ℕ) (kind : ReadKind) (rest : List ℕ) (e : ReadFault) → byte_from place kind rest ≡ Err e → record { place = place + length rest; kind = kind } ≡ e
byte_err place k [] e h = ap (λ (p : ℕ). record { place = p; kind = k }) (add-zero place) ∙ err_is {X = ℕ × At} (record { place = place; kind = k }) e h
byte_err place k (b ∷ rest) e h = absurd cc

pub byte_settles : (g : Bool) → Settles g byte.reads
unfolding byte
byte_settles g at e short h = out_fixed g byte.reads at e short h (byte_err at.place at.short at.rest e h)

pub bytes_settles : (g : Bool) (n : ℕ) → Settles g (bytes n).reads
unfolding bytes
bytes_settles g n at e short h =
    let d : ReadFault = record { place = at.place + length at.rest; kind = at.short } in
    let out = guard_err {X = List ℕ × At} (ltb (length at.rest) n) d (take n at.rest, past at (take n at.rest) (drop n at.rest)) e h in
    out_fixed g (bytes n).reads at e short h out.1

-- ---- one form after another

later_fixed : {A X : Type 0} (g : Bool) (f : Form A) (kf : Agrees f) (k : A → At → Result X ReadFault) (at : At) (e : ReadFault) (a : A) (next : At) → f.reads at ≡ Ok (a, next) → Fixed g (k a) next e → Fixed g (λ at. after (f.reads at) (λ r. k r.0 r.1)) at e
later_fixed {A} {X} g f kf k at e a next read F =
    let t = kf.sound at a next read in
    let place : next.place ≡ at.place + length t.text = ap (λ (n : At). n.place) t.next_is in
    let short : next.short ≡ at.short = ap (λ (n : At). n.short) t.next_is in
    let end : next.place + length next.rest ≡ at.place + length at.rest = omega (arith, place, ap length t.parts, length-append t.text next.rest) in
    record {
      front = t.text ++ F.front;
      text = F.text;
      back = F.back;
      parts = t.parts ∙ ap (λ (r : List ℕ). t.text ++ r) F.parts ∙ sym (append_assoc t.text F.front (F.text ++ F.back));
      place_is = omega (arith, F.place_is, place, length-append t.text F.front);
      stands = F.stands;
      cut = λ c. (sym short ∙ (F.cut c).0, (F.cut c).1);
      same = λ others fits. (let more : List ℕ = F.front ++ (F.text ++ others) in
          let there : At = with_rest at ((t.text ++ F.front) ++ (F.text ++ others)) in
          let one : f.reads there ≡ Ok (a, past there t.text more) = kf.complete there t.text a more t.spelled (append_assoc t.text F.front (F.text ++ others)) in
          let moved : past there t.text more ≡ with_rest next more = ap (λ (n : At). with_rest n more) (sym t.next_is) in
          ap (λ (r : Result (A × At) ReadFault). after r (λ r. k r.0 r.1)) one ∙ ap (λ (n : At). k a n) moved ∙ F.same others (fits_next g at next e (length F.back) (length others) end short fits));
    }

pub next_short : {A : Type 0} (f : Form A) (kf : Agrees f) (at : At) (a : A) (next : At) → f.reads at ≡ Ok (a, next) → IsShort at.short → IsShort next.short
next_short f kf at a next read short = subst IsShort (sym (ap (λ (n : At). n.short) (kf.sound at a next read).next_is)) short

pub then_fixed : {A X : Type 0} (g : Bool) (f : Form A) (kf : Agrees f) (k : A → At → Result X ReadFault) (at : At) (e : ReadFault) → IsShort at.short → Settles g f.reads → ((a : A) (next : At) → f.reads at ≡ Ok (a, next) → IsShort next.short → k a next ≡ Err e → Fixed g (k a) next e)
    → after (f.reads at) (λ r. k r.0 r.1) ≡ Err e → Fixed g (λ at. after (f.reads at) (λ r. k r.0 r.1)) at e
then_fixed {A} {X} g f kf k at e short hf hk h = elim (after_err (f.reads at) (λ r. k r.0 r.1) e h) [
  | inl d ↦ carried g f.reads (λ _ r. k r.0 r.1) at e (hf at e short d)
  | inr x ↦ later_fixed g f kf k at e x.0.0 x.0.1 x.1 (hk x.0.0 x.0.1 x.1 (next_short f kf at x.0.0 x.0.1 x.1 short) x.2)
]

abbrev pub joined : {A B : Type 0} → Form A → (A → Form B) → Form B
joined f k = f >>= k

pub then_settles : {A B : Type 0} (g : Bool) (f : Form A) (kf : Agrees f) (k : A → Form B) → Settles g f.reads → ((a : A) → Settles g (k a).reads) → Settles g (joined f k).reads
then_settles g f kf k hf hk at e short h = then_fixed g f kf (λ a. (k a).reads) at e short hf (λ a next read s j. hk a next e s j) h

-- a value made of what is read
pub map_settles : {A B : Type 0} (g : Bool) (f : Form A) (make : A → B) → Settles g f.reads → Settles g (joined f (λ a. give (make a))).reads
map_settles {A} {B} g f make hf at e short h = elim (after_err {B = B × At} (f.reads at) (λ r. Ok (make r.0, r.1)) e h) [
  | inl d ↦ carried {Y = B × At} g f.reads (λ _ r. Ok (make r.0, r.1)) at e (hf at e short d)
  | inr x ↦ let clash = x.2 in absurd cc
]

pub choose_settles : {A : Type 0} (g b : Bool) (f h : Form A) → Settles g f.reads → Settles g h.reads → Settles g (choose b f h).reads
choose_settles g true f h hf hh = hf
choose_settles g false f h hf hh = hh

-- ---- a value with no meaning

-- the same, of the kinds that aren't of an end
abbrev pub Own : ReadKind → List ℕ → Type 0
Own Cut text = ⊥
Own Size text = ⊥
Own k text = Stands k text

own_stands : (k : ReadKind) (text : List ℕ) → Own k text → Stands k text
own_stands Cut text o = absurd o
own_stands Size text o = absurd o
own_stands k text o = o

own_not_cut : (k : ReadKind) (text : List ℕ) → Own k text → k ≡ Cut → ⊥
own_not_cut Cut text o c = o
own_not_cut k text o c = absurd cc

judged_err : {B : Type 0} (start : ℕ) (next : At) (r : Result B ReadKind) (e : ReadFault) → judged start next r ≡ Err e → (r ≡ Err e.kind) × (e.place ≡ start)
judged_err start next (Ok b) e h = absurd cc
judged_err {B} start next (Err k) e h =
    let is = err_is {X = B × At} (record { place = start; kind = k }) e h in
    (ap (λ (d : ReadFault). Err d.kind) is, sym (ap (λ (d : ReadFault). d.place) is))

meant_fixed : {A B : Type 0} (g : Bool) (f : Form A) (kf : Agrees f) (meaning : A → Result B ReadKind) → ((text : List ℕ) (a : A) (k : ReadKind) → f.spells text a → meaning a ≡ Err k → Own k text)
    → (at : At) (e : ReadFault) (a : A) (next : At) → f.reads at ≡ Ok (a, next) → judged at.place next (meaning a) ≡ Err e → Fixed g (means f meaning).reads at e
meant_fixed {A} {B} g f kf meaning own at e a next read j =
    let t = kf.sound at a next read in
    let m = judged_err at.place next (meaning a) e j in
    let o = own t.text a e.kind t.spelled m.0 in
    record {
      front = [];
      text = t.text;
      back = next.rest;
      parts = t.parts;
      place_is = m.1 ∙ sym (add-zero at.place);
      stands = own_stands e.kind t.text o;
      cut = λ c. absurd (own_not_cut e.kind t.text o c);
      same = λ others fits. (let there : At = with_rest at (t.text ++ others) in
          let one : f.reads there ≡ Ok (a, past there t.text others) = kf.complete there t.text a others t.spelled refl in
          ap (λ (r : Result (A × At) ReadFault). after r (λ r. judged at.place r.1 (meaning r.0))) one ∙ ap (judged at.place (past there t.text others)) m.0 ∙ ap (λ (p : ℕ). fault {A = B × At} p e.kind) (sym m.1));
    }

pub means_settles : {A B : Type 0} (g : Bool) (f : Form A) (kf : Agrees f) (meaning : A → Result B ReadKind) → Settles g f.reads → ((text : List ℕ) (a : A) (k : ReadKind) → f.spells text a → meaning a ≡ Err k → Own k text) → Settles g (means f meaning).reads
means_settles {A} {B} g f kf meaning hf own at e short h = elim (after_err (f.reads at) (λ r. judged at.place r.1 (meaning r.0)) e h) [
  | inl d ↦ carried g f.reads (λ at r. judged at.place r.1 (meaning r.0)) at e (hf at e short d)
  | inr x ↦ meant_fixed g f kf meaning own at e x.0.0 x.0.1 x.1 x.2
]

-- ---- windows

behind : ℕ → At → At
behind n at = past at (take n at.rest) (drop n at.rest)

-- a window of other bytes, of which as many or, where the window was whole, more follow
window_same : (n : ℕ) (xs front text back others : List ℕ) → take n xs ≡ front ++ (text ++ back) → length (back ++ drop n xs) ≤ length others → (length xs < n → length others ≡ length (back ++ drop n xs)) → take n (front ++ (text ++ others)) ≡ front ++ (text ++ take (length back) others)
window_same n xs front text back others parts le exact = by_test (ltb (length xs) n) refl
  where
    sizes : length front + (length text + length back) ≡ length (take n xs)
    sizes = omega (arith, ap length parts, length-append front (text ++ back), length-append text back)

    all : length xs ≡ length (take n xs) + length (drop n xs)
    all = sym (ap length (take-append-drop n xs)) ∙ length-append (take n xs) (drop n xs)

    behind_all : length (back ++ drop n xs) ≡ length back + length (drop n xs)
    behind_all = length-append back (drop n xs)

    by_test : (b : Bool) → ltb (length xs) n ≡ b → take n (front ++ (text ++ others)) ≡ front ++ (text ++ take (length back) others)
    by_test true test =
        let less : length xs < n = ltb-true _ _ test in
        let same : take n xs ≡ xs = take_all n xs (omega (arith, less)) in
        let none : length (drop n xs) ≡ 0 = omega (arith, all, ap length same) in
        let count : length others ≡ length back = omega (arith, exact less, behind_all, none) in
        let o : take (length back) others ≡ others = take_all (length back) others (omega (arith, count)) in
        let size : length (front ++ (text ++ others)) ≤ n = omega (arith, length-append front (text ++ others), length-append text others, count, sizes, ap length same, less) in
        take_all n (front ++ (text ++ others)) size ∙ ap (λ (x : List ℕ). front ++ (text ++ x)) (sym o)
    by_test false test =
        let long : n ≤ length xs = ltb-false _ _ test in
        let few : length (take (length back) others) ≡ length back = length-take-le (length back) others (omega (arith, le, behind_all)) in
        let size : length (front ++ (text ++ take (length back) others)) ≡ n = omega (arith, length-append front (text ++ take (length back) others), length-append text (take (length back) others), few, sizes, length-take-le n xs long) in
        let split : others ≡ take (length back) others ++ drop (length back) others = sym (take-append-drop (length back) others) in
        let whole : front ++ (text ++ others) ≡ (front ++ (text ++ take (length back) others)) ++ drop (length back) others =
        ap (λ (x : List ℕ). front ++ (text ++ x)) split ∙ ap (λ (x : List ℕ). front ++ x) (sym (append_assoc text (take (length back) others) (drop (length back) others))) ∙ sym (append_assoc front (text ++ take (length back) others) (drop (length back) others)) in
        ap (take n) whole ∙ take_at (front ++ (text ++ take (length back) others)) (drop (length back) others) n size

window_fixed : {X Y : Type 0} (g : Bool) (inner : At → Result X ReadFault) (outer : At → Result Y ReadFault) (n : ℕ) (at : At) (e : ReadFault) → Fixed false inner (window n at) e
    → ((m k : ℕ) → Fits g at e k m → length at.rest < n → m ≡ k)
    → ((there : At) → Fits g at e (length at.rest) (length there.rest) → inner (window n there) ≡ Err e → outer there ≡ Err e) → Fixed g outer at e
window_fixed {X} {Y} g inner outer n at e F exact onward =
    let back : List ℕ = F.back ++ drop n at.rest in
    let parts : at.rest ≡ F.front ++ (F.text ++ back) =
    sym (take-append-drop n at.rest) ∙ ap (λ (x : List ℕ). x ++ drop n at.rest) F.parts ∙ append_assoc F.front (F.text ++ F.back) (drop n at.rest) ∙ ap (λ (x : List ℕ). F.front ++ x) (append_assoc F.text F.back (drop n at.rest)) in
    record {
      front = F.front;
      text = F.text;
      back = back;
      parts = parts;
      place_is = F.place_is;
      stands = F.stands;
      cut = λ c. (let clash : Size ≡ Cut = (F.cut c).0 in absurd cc);
      same = λ others fits. (let there : At = with_rest at (F.front ++ (F.text ++ others)) in
          let le : length back ≤ length others = fits_le g at e (length back) (length others) fits in
          let some : length (take (length F.back) others) ≡ length F.back = length-take-le (length F.back) others (omega (arith, le, length-append F.back (drop n at.rest))) in
          let rest-is : take n there.rest ≡ F.front ++ (F.text ++ take (length F.back) others) = window_same n at.rest F.front F.text F.back others F.parts le (λ less. exact (length others) (length back) fits less) in
          let read : inner (window n there) ≡ Err e = ap (λ (r : List ℕ). inner (record { place = at.place; rest = r; short = Size })) rest-is ∙ F.same (take (length F.back) others) some in
          onward there (whole_fits g at e F.front F.text back others parts fits) read);
    }

-- contents that end where their window does
abbrev closed : {A : Type 0} → (At → Result (A × At) ReadFault) → At → At → Result (A × At) ReadFault
closed f next w = after (f w) (λ r. ended next r.0 r.1)

closed_any : {A : Type 0} (next other : At) (r : Result (A × At) ReadFault) (e : ReadFault) → after r (λ r. ended next r.0 r.1) ≡ Err e → after r (λ r. ended other r.0 r.1) ≡ Err e
closed_any {A} next other (Err d) e h = h
closed_any {A} next other (Ok x) e h =
    let g = unless_err {X = A × At} (eqb (length x.1.rest) 0) (x.0, next) (record { place = x.1.place; kind = x.1.short }) e h in
    ap (λ (b : Bool). cond b (Ok (x.0, other)) (fault x.1.place x.1.short)) g.0 ∙ ap (λ (d : ReadFault). failed {X = A × At} d) g.1

left_fixed : {A : Type 0} (f : Form A) (kf : Agrees f) (next w : At) (e : ReadFault) → w.short ≡ Size → (a : A) (inner : At) → f.reads w ≡ Ok (a, inner) → ended next a inner ≡ Err e → Fixed false (closed f.reads next) w e
left_fixed {A} f kf next w e size a inner read h =
    let g = unless_err {X = A × At} (eqb (length inner.rest) 0) (a, next) (record { place = inner.place; kind = inner.short }) e h in
    let t = kf.sound w a inner read in
    let place : inner.place ≡ w.place + length t.text = ap (λ (n : At). n.place) t.next_is in
    let kind : e.kind ≡ Size = sym (ap (λ (d : ReadFault). d.kind) g.1) ∙ ap (λ (n : At). n.short) t.next_is ∙ size in
    record {
      front = t.text;
      text = [];
      back = inner.rest;
      parts = t.parts;
      place_is = sym (ap (λ (d : ReadFault). d.place) g.1) ∙ place;
      stands = subst (λ (k : ReadKind). Stands k []) (sym kind) refl;
      cut = λ c. (let clash : Size ≡ Cut = sym kind ∙ c in absurd cc);
      same = λ others fits. (let there : At = with_rest w (t.text ++ others) in
          let one : f.reads there ≡ Ok (a, past there t.text others) = kf.complete there t.text a others t.spelled refl in
          let some : eqb (length others) 0 ≡ false = ap (λ (n : ℕ). eqb n 0) fits ∙ g.0 in
          let moved : failed {X = A × At} (record { place = w.place + length t.text; kind = w.short }) ≡ failed (record { place = inner.place; kind = inner.short }) = ap (λ (n : At). failed (record { place = n.place; kind = n.short })) (sym t.next_is) in
          ap (λ (r : Result (A × At) ReadFault). after r (λ r. ended next r.0 r.1)) one ∙ ap (λ (b : Bool). cond b (Ok (a, next)) (fault (w.place + length t.text) w.short)) some ∙ moved ∙ ap (λ (d : ReadFault). failed {X = A × At} d) g.1);
    }

closed_fixed : {A : Type 0} (f : Form A) → Agrees f → Settles false f.reads → (next w : At) (e : ReadFault) → w.short ≡ Size → closed f.reads next w ≡ Err e → Fixed false (closed f.reads next) w e
closed_fixed {A} f kf hf next w e size h = elim (after_err (f.reads w) (λ r. ended next r.0 r.1) e h) [
  | inl d ↦ carried false f.reads (λ _ r. ended next r.0 r.1) w e (hf w e (inr size) d)
  | inr x ↦ left_fixed f kf next w e size x.0.0 x.0.1 x.1 x.2
]

-- the bytes of a window are missing, or the fault is in what it holds
split_err : {X : Type 0} (n : ℕ) (at : At) (k : At → At → Result X ReadFault) (e : ReadFault) → after (split_from n at) (λ w. k w.1 w.0) ≡ Err e → (record { place = at.place + length at.rest; kind = at.short } ≡ e) ⊎ ((n ≤ length at.rest) × (k (behind n at) (window n at) ≡ Err e))
unfolding behind
split_err {X} n at k e h = by_test (ltb (length at.rest) n) refl h
  where
    by_test : (b : Bool) → ltb (length at.rest) n ≡ b → after {A = At × At} (cond b (runs_out at) (Ok (window n at, past at (take n at.rest) (drop n at.rest)))) (λ w. k w.1 w.0) ≡ Err e → (record { place = at.place + length at.rest; kind = at.short } ≡ e) ⊎ ((n ≤ length at.rest) × (k (behind n at) (window n at) ≡ Err e))
    by_test true test j = inl (err_is {X = X} (record { place = at.place + length at.rest; kind = at.short }) e j)
    by_test false test j = inr (ltb-false _ _ test, j)

split_holds : {X : Type 0} (n : ℕ) (at : At) (k : At → At → Result X ReadFault) → n ≤ length at.rest → after (split_from n at) (λ w. k w.1 w.0) ≡ k (behind n at) (window n at)
unfolding behind
split_holds n at k le = ap (λ (b : Bool). after {A = At × At} (cond b (runs_out at) (Ok (window n at, past at (take n at.rest) (drop n at.rest)))) (λ w. k w.1 w.0)) (le-ltb _ _ le)

-- what a window holds, and what is read of the window's bytes alone
windowed : {X : Type 0} (g : Bool) (n : ℕ) (k : At → At → Result X ReadFault) (at : At) (e : ReadFault) → IsShort at.short
    → ((next other w : At) → k next w ≡ Err e → k other w ≡ Err e) → (k (behind n at) (window n at) ≡ Err e → Fixed false (k (behind n at)) (window n at) e)
    → after (split_from n at) (λ w. k w.1 w.0) ≡ Err e → Fixed g (λ at. after (split_from n at) (λ w. k w.1 w.0)) at e
windowed {X} g n k at e short any inside h = elim (split_err n at k e h) [
  | inl d ↦ out_fixed g (λ at. after (split_from n at) (λ w. k w.1 w.0)) at e short h d
  | inr s ↦ window_fixed g (k (behind n at)) (λ at. after (split_from n at) (λ w. k w.1 w.0)) n at e (inside s.1)
      (λ m j fits less. absurd (omega (arith, s.0, less)))
      (λ there fits read. split_holds n there k (omega (arith, s.0, fits_le g at e (length at.rest) (length there.rest) fits)) ∙ any (behind n at) (behind n there) (window n there) read)
]

pub sized_settles : {A : Type 0} (g : Bool) (n : ℕ) (f : Form A) → Agrees f → Settles false f.reads → Settles g (sized n f).reads
sized_settles {A} g n f kf hf at e short h =
    windowed g n (closed f.reads) at e short (λ next other w j. closed_any next other (f.reads w) e j) (λ j. closed_fixed f kf hf (behind n at) (window n at) e refl j) h

opened_any : {A : Type 0} (next other : At) (r : Result (A × At) ReadFault) (e : ReadFault) → after {B = A × At} r (λ r. Ok (r.0, next)) ≡ Err e → after {B = A × At} r (λ r. Ok (r.0, other)) ≡ Err e
opened_any next other (Err d) e h = h
opened_any next other (Ok x) e h = absurd cc

opened_fixed : {A : Type 0} (f : Form A) → Settles false f.reads → (next w : At) (e : ReadFault) → w.short ≡ Size → after {B = A × At} (f.reads w) (λ r. Ok (r.0, next)) ≡ Err e → Fixed {X = A × At} false (λ w. after (f.reads w) (λ r. Ok (r.0, next))) w e
opened_fixed {A} f hf next w e size h = elim (after_err {B = A × At} (f.reads w) (λ r. Ok (r.0, next)) e h) [
  | inl d ↦ carried {Y = A × At} false f.reads (λ _ r. Ok (r.0, next)) w e (hf w e (inr size) d)
  | inr x ↦ let clash = x.2 in absurd cc
]

pub headed_settles : {A : Type 0} (g : Bool) (n : ℕ) (f : Form A) → Settles false f.reads → Settles g (headed n f).reads
headed_settles {A} g n f hf at e short h =
    windowed {X = A × At} g n (λ next w. after (f.reads w) (λ r. Ok (r.0, next))) at e short (λ next other w j. opened_any next other (f.reads w) e j) (λ j. opened_fixed f hf (behind n at) (window n at) e refl j) h

-- ---- a window that may pass the end

assoc : {A B C : Type 0} (r : Result A ReadFault) (g : A → Result B ReadFault) (h : B → Result C ReadFault) → after r (λ x. after (g x) h) ≡ after (after r g) h
assoc (Ok x) g h = refl
assoc (Err d) g h = refl

clipped_is : {A : Type 0} (n : ℕ) (f : Form A) (at : At) → clipped_from f.reads n at ≡ after (closed f.reads (behind n at) (window n at)) (unless_short n at)
unfolding behind
clipped_is n f at = assoc (f.reads (window n at)) (λ r. ended (past at (take n at.rest) (drop n at.rest)) r.0 r.1) (unless_short n at)

pub clipped_settles : {A : Type 0} (n : ℕ) (f : Form A) → Agrees f → Settles false f.reads → Settles false (clipped n f).reads
clipped_settles {A} n f kf hf at e short h = elim (after_err (closed f.reads (behind n at) (window n at)) (unless_short n at) e (sym (clipped_is n f at) ∙ h)) [
  | inl d ↦ window_fixed false (closed f.reads (behind n at)) (clipped_from f.reads n) n at e (closed_fixed f kf hf (behind n at) (window n at) e refl d)
      (λ m k fits less. fits)
      (λ there fits read. clipped_is n f there ∙ ap (λ (r : Result (A × At) ReadFault). after r (unless_short n there)) (closed_any (behind n at) (behind n there) (f.reads (window n there)) e read))
  | inr x ↦ out_fixed false (clipped_from f.reads n) at e short h (guard_err {X = A × At} (ltb (length at.rest) n) (record { place = at.place + length at.rest; kind = at.short }) x.0 e x.2).1
]
