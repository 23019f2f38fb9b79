-- The laws of the ways in which forms are made: what is read is spelled so, and what is spelled so is read.
use Rattle.std.proofs.Common.{◌≡◌, ℕ, ◌+◌, ◌≤◌, Bool, true, false, cond, eqb, ltb, List, [], ◌∷◌, ◌++◌, length, take, drop, Result, Ok, Err, Some, None, zero, suc, refl, sym, ap, subst, ◌∙◌, append_assoc, add-zero, arith}
use Rattle.std.proofs.lemmas.Bool.{eqb-true, ltb-false, le-ltb}
use Rattle.std.proofs.lemmas.List.{append-nil, take_at, drop_at, take-append-drop, length-append, length-take, nil_from_length}
use Rattle.mv_syntax.specs.declared.fault.ReadFault.{ReadFault}
use Rattle.mv_syntax.specs.declared.fault.ReadKind.{ReadKind}
use Rattle.mv_syntax.specs.declared.fault.ReadKind.TheVariants.{Size}
use Rattle.mv_syntax.specs.Form.{At, past, runs_out, after, Form}
use Rattle.mv_syntax.specs.Forms.{Nothing, give, Joined, ◌>>=◌, OneByte, byte_from, byte, Means, judged, means, Chosen, choose, Bytes, bytes_from, bytes, Sized, ended, window, split_from, sized_from, sized, unless_short, clipped_from, clipped, Headed, headed_from, headed, many, each_of, at_most_one}

-- what was read: the bytes that spell it, and where the reader stands then
pub record Took {A : Type 0} (spells : List ℕ → A → Type 0) (at : At) (a : A) (next : At) : Type 0 where
  pub text : List ℕ
  pub spelled : spells text a
  pub parts : at.rest ≡ text ++ next.rest
  pub next_is : next ≡ past at text next.rest

-- what is read is spelled so, and what is spelled so is read, whatever follows
pub record Agrees {A : Type 0} (f : Form A) : Type 0 where
  pub sound : (at : At) (a : A) (next : At) → f.reads at ≡ Ok (a, next) → Took f.spells at a next
  pub complete : (at : At) (text : List ℕ) (a : A) (more : List ℕ) → f.spells text a → at.rest ≡ text ++ more → f.reads at ≡ Ok (a, past at text more)

-- the value of a step that did not fail
pub after_ok : {A B : Type 0} (r : Result A ReadFault) (f : A → Result B ReadFault) (y : B) → after r f ≡ Ok y → (x : A) × (r ≡ Ok x) × (f x ≡ Ok y)
after_ok (Ok x) f y e = (x, refl, e)
after_ok (Err d) f y e = absurd cc

abbrev done : {A : Type 0} → A → Result A ReadFault
done x = Ok x

pub ok_is : {A : Type 0} (x y : A) → done x ≡ done y → x ≡ y
ok_is x y e = cc

pub past_past : (at : At) (front back more : List ℕ) → past (past at front (back ++ more)) back more ≡ past at (front ++ back) more
past_past at front back more =
    let e : at.place + length front + length back ≡ at.place + length (front ++ back) = omega (arith, length-append front back) in
    ap (λ (p : ℕ). record { place = p; rest = more; short = at.short }) e

-- ---- nothing

past_nothing : (at : At) → at ≡ past at [] at.rest
past_nothing at = ap (λ (p : ℕ). record { place = p; rest = at.rest; short = at.short }) (sym (add-zero at.place))

pub give_sound : {A : Type 0} (a : A) (at : At) (b : A) (next : At) → done {A = A × At} (a, at) ≡ Ok (b, next) → Took (Nothing a) at b next
give_sound {A} a at b next e =
    let p = ok_is (a, at) (b, next) e in
    let b-is : b ≡ a = sym (ap (λ (x : A × At). x.0) p) in
    let next-is : at ≡ next = ap (λ (x : A × At). x.1) p in
    subst (λ (n : At). Took (Nothing a) at b n) next-is (record { text = []; spelled = (refl, b-is); parts = refl; next_is = past_nothing at })

pub give_complete : {A : Type 0} (a : A) (at : At) (text : List ℕ) (b : A) (more : List ℕ) → Nothing a text b → at.rest ≡ text ++ more → done {A = A × At} (a, at) ≡ Ok (b, past at text more)
give_complete {A} a at text b more s e =
    let e2 : at.rest ≡ more = e ∙ ap (λ (t : List ℕ). t ++ more) s.0 in
    let p : past at text more ≡ at = ap (λ (t : List ℕ). past at t more) s.0 ∙ ap (λ (m : List ℕ). past at [] m) (sym e2) ∙ sym (past_nothing at) in
    rw (s.1, p) refl

-- ---- one form after another

pub then_sound : {A B : Type 0} (f : Form A) (g : A → Form B) (kf : Agrees f) (kg : (a : A) → Agrees (g a)) (at : At) (b : B) (next : At) → after (f.reads at) (λ r. (g r.0).reads r.1) ≡ Ok (b, next) → Took (Joined f.spells (λ a. (g a).spells)) at b next
then_sound {A} {B} f g kf kg at b next e =
    let one = after_ok (f.reads at) (λ r. (g r.0).reads r.1) (b, next) e in
    let t0 = kf.sound at one.0.0 one.0.1 one.1 in
    let t1 = (kg one.0.0).sound one.0.1 b next one.2 in
    let whole : at.rest ≡ (t0.text ++ t1.text) ++ next.rest = t0.parts ∙ ap (λ (x : List ℕ). t0.text ++ x) t1.parts ∙ sym (append_assoc t0.text t1.text next.rest) in
    let mid : one.0.1 ≡ past at t0.text (t1.text ++ next.rest) = t0.next_is ∙ ap (λ (x : List ℕ). past at t0.text x) t1.parts in
    let end : next ≡ past at (t0.text ++ t1.text) next.rest = t1.next_is ∙ ap (λ (x : At). past x t1.text next.rest) mid ∙ past_past at t0.text t1.text next.rest in
    record {
      text = t0.text ++ t1.text;
      spelled = record { first = one.0.0; front = t0.text; back = t1.text; whole = refl; front_spells = t0.spelled; back_spells = t1.spelled };
      parts = whole;
      next_is = end;
    }

pub then_complete : {A B : Type 0} (f : Form A) (g : A → Form B) (kf : Agrees f) (kg : (a : A) → Agrees (g a)) (at : At) (text : List ℕ) (b : B) (more : List ℕ) → Joined f.spells (λ a. (g a).spells) text b → at.rest ≡ text ++ more
    → after (f.reads at) (λ r. (g r.0).reads r.1) ≡ Ok (b, past at text more)
then_complete {A} {B} f g kf kg at text b more s e =
    let parts : at.rest ≡ s.front ++ (s.back ++ more) = e ∙ ap (λ (x : List ℕ). x ++ more) s.whole ∙ append_assoc s.front s.back more in
    let one = kf.complete at s.front s.first (s.back ++ more) s.front_spells parts in
    let two = (kg s.first).complete (past at s.front (s.back ++ more)) s.back b more s.back_spells refl in
    let three : past (past at s.front (s.back ++ more)) s.back more ≡ past at text more = past_past at s.front s.back more ∙ ap (λ (t : List ℕ). past at t more) (sym s.whole) in
    ap (λ (r : Result (A × At) ReadFault). after r (λ r. (g r.0).reads r.1)) one ∙ two ∙ ap (λ (x : At). Ok (b, x)) three

-- ---- one byte

byte_sound_from : (place : ℕ) (short : ReadKind) (rest : List ℕ) (b : ℕ) (next : At) → byte_from place short rest ≡ Ok (b, next) → Took OneByte (record { place = place; rest = rest; short = short }) b next
byte_sound_from place short [] b next e = absurd cc
byte_sound_from place short (c ∷ rest) b next e =
    let p = ok_is (c, record { place = place + 1; rest = rest; short = short }) (b, next) e in
    subst (λ (x : ℕ × At). Took OneByte (record { place = place; rest = c ∷ rest; short = short }) x.0 x.1) p (record { text = c ∷ []; spelled = refl; parts = refl; next_is = refl })

pub byte_sound : (at : At) (b : ℕ) (next : At) → byte_from at.place at.short at.rest ≡ Ok (b, next) → Took OneByte at b next
byte_sound at b next e = byte_sound_from at.place at.short at.rest b next e

pub byte_complete : (at : At) (text : List ℕ) (b : ℕ) (more : List ℕ) → OneByte text b → at.rest ≡ text ++ more → byte_from at.place at.short at.rest ≡ Ok (b, past at text more)
byte_complete at text b more s e =
    let e2 : at.rest ≡ b ∷ more = e ∙ ap (λ (t : List ℕ). t ++ more) s in
    let p : past at text more ≡ past at (b ∷ []) more = ap (λ (t : List ℕ). past at t more) s in
    ap (byte_from at.place at.short) e2 ∙ ap (λ (x : At). Ok (b, x)) (sym p)

-- ---- a value with a meaning, or with a fault at its first byte

judged_ok : {B : Type 0} (start : ℕ) (next : At) (r : Result B ReadKind) (b : B) (end : At) → judged start next r ≡ Ok (b, end) → (r ≡ Ok b) × (next ≡ end)
judged_ok {B} start next (Ok c) b end e =
    let p = ok_is (c, next) (b, end) e in
    (ap (λ (x : B × At). Ok x.0) p, ap (λ (x : B × At). x.1) p)
judged_ok start next (Err k) b end e = absurd cc

pub meant_sound : {A B : Type 0} (f : Form A) (kf : Agrees f) (meaning : A → Result B ReadKind) (at : At) (b : B) (next : At) → after (f.reads at) (λ r. judged at.place r.1 (meaning r.0)) ≡ Ok (b, next) → Took (Means f.spells meaning) at b next
meant_sound {A} {B} f kf meaning at b next e =
    let one = after_ok (f.reads at) (λ r. judged at.place r.1 (meaning r.0)) (b, next) e in
    let two = judged_ok at.place one.0.1 (meaning one.0.0) b next one.2 in
    let t = kf.sound at one.0.0 one.0.1 one.1 in
    subst (λ (n : At). Took (Means f.spells meaning) at b n) two.1 (record { text = t.text; spelled = record { sign = one.0.0; spelled = t.spelled; meant = two.0 }; parts = t.parts; next_is = t.next_is })

pub meant_complete : {A B : Type 0} (f : Form A) (kf : Agrees f) (meaning : A → Result B ReadKind) (at : At) (text : List ℕ) (b : B) (more : List ℕ) → Means f.spells meaning text b → at.rest ≡ text ++ more
    → after (f.reads at) (λ r. judged at.place r.1 (meaning r.0)) ≡ Ok (b, past at text more)
meant_complete {A} {B} f kf meaning at text b more s e =
    let one = kf.complete at text s.sign more s.spelled e in
    ap (λ (r : Result (A × At) ReadFault). after r (λ r. judged at.place r.1 (meaning r.0))) one ∙ ap (judged at.place (past at text more)) s.meant

-- ---- so many bytes

pub guard_ok : {A : Type 0} (b : Bool) (d : ReadFault) (x y : A) → cond b (Err d) (done x) ≡ Ok y → (b ≡ false) × (x ≡ y)
guard_ok true d x y e = absurd cc
guard_ok false d x y e = (refl, cc)

pub bytes_sound : (n : ℕ) (at : At) (bytes : List ℕ) (next : At) → bytes_from n at ≡ Ok (bytes, next) → Took (Bytes n) at bytes next
bytes_sound n at bytes next e =
    let g = guard_ok (ltb (length at.rest) n) (record { place = at.place + length at.rest; kind = at.short }) (take n at.rest, past at (take n at.rest) (drop n at.rest)) (bytes, next) e in
    let long : n ≤ length at.rest = ltb-false _ _ g.0 in
    let len : length (take n at.rest) ≡ n = omega (arith, length-take n at.rest) in
    subst (λ (x : List ℕ × At). Took (Bytes n) at x.0 x.1) g.1 (record { text = take n at.rest; spelled = (refl, len); parts = sym (take-append-drop n at.rest); next_is = refl })

pub bytes_complete : (n : ℕ) (at : At) (text bytes more : List ℕ) → Bytes n text bytes → at.rest ≡ text ++ more → bytes_from n at ≡ Ok (bytes, past at text more)
bytes_complete n at text bytes more s e =
    let long : ltb (length at.rest) n ≡ false = le-ltb _ _ (omega (arith, ap length e, length-append text more, s.1)) in
    let front : take n at.rest ≡ text = ap (take n) e ∙ take_at text more n s.1 in
    let back : drop n at.rest ≡ more = ap (drop n) e ∙ drop_at text more n s.1 in
    rw (long, front, back, s.0) refl

-- ---- contents of exactly so many bytes

guard_ended : {A : Type 0} (b : Bool) (d : ReadFault) (x y : A) → cond b (done x) (Err d) ≡ Ok y → (b ≡ true) × (x ≡ y)
guard_ended true d x y e = (refl, cc)
guard_ended false d x y e = absurd cc

-- the bytes of a window, and those behind it
split_sound : (n : ℕ) (at : At) (w : At × At) → split_from n at ≡ Ok w → (n ≤ length at.rest) × (w ≡ (window n at, past at (take n at.rest) (drop n at.rest)))
split_sound n at w e =
    let g = guard_ok (ltb (length at.rest) n) (record { place = at.place + length at.rest; kind = at.short }) (window n at, past at (take n at.rest) (drop n at.rest)) w e in
    (ltb-false _ _ g.0, sym g.1)

split_complete : (n : ℕ) (at : At) (text more : List ℕ) → length text ≡ n → at.rest ≡ text ++ more → split_from n at ≡ Ok (record { place = at.place; rest = text; short = Size }, past at text more)
split_complete n at text more len e =
    let long : ltb (length at.rest) n ≡ false = le-ltb _ _ (omega (arith, ap length e, length-append text more, len)) in
    let front : take n at.rest ≡ text = ap (take n) e ∙ take_at text more n len in
    let back : drop n at.rest ≡ more = ap (drop n) e ∙ drop_at text more n len in
    rw (long, front, back) refl

pub sized_sound : {A : Type 0} (f : Form A) (kf : Agrees f) (n : ℕ) (at : At) (a : A) (next : At) → sized_from f.reads n at ≡ Ok (a, next) → Took (Sized f.spells n) at a next
sized_sound {A} f kf n at a next e =
    let zero_ = after_ok (split_from n at) (λ w. after (f.reads w.0) (λ r. ended w.1 r.0 r.1)) (a, next) e in
    let w-is = split_sound n at zero_.0 zero_.1 in
    let len : length (take n at.rest) ≡ n = omega (arith, length-take n at.rest, w-is.0) in
    let from : after (f.reads (window n at)) (λ r. ended (past at (take n at.rest) (drop n at.rest)) r.0 r.1) ≡ Ok (a, next) = subst (λ (w : At × At). after (f.reads w.0) (λ r. ended w.1 r.0 r.1) ≡ Ok (a, next)) w-is.1 zero_.2 in
    let one = after_ok (f.reads (window n at)) (λ r. ended (past at (take n at.rest) (drop n at.rest)) r.0 r.1) (a, next) from in
    let t = kf.sound (window n at) one.0.0 one.0.1 one.1 in
    let h = guard_ended (eqb (length one.0.1.rest) 0) (record { place = one.0.1.place; kind = one.0.1.short }) (one.0.0, past at (take n at.rest) (drop n at.rest)) (a, next) one.2 in
    let empty : one.0.1.rest ≡ [] = nil_from_length one.0.1.rest (eqb-true _ _ h.0) in
    let text-is : take n at.rest ≡ t.text = t.parts ∙ ap (λ (r : List ℕ). t.text ++ r) empty ∙ append-nil t.text in
    let spelled : f.spells (take n at.rest) one.0.0 = subst (λ (x : List ℕ). f.spells x one.0.0) (sym text-is) t.spelled in
    subst (λ (x : A × At). Took (Sized f.spells n) at x.0 x.1) h.1 (record { text = take n at.rest; spelled = (spelled, len); parts = sym (take-append-drop n at.rest); next_is = refl })

pub sized_complete : {A : Type 0} (f : Form A) (kf : Agrees f) (n : ℕ) (at : At) (text : List ℕ) (a : A) (more : List ℕ) → Sized f.spells n text a → at.rest ≡ text ++ more → sized_from f.reads n at ≡ Ok (a, past at text more)
sized_complete {A} f kf n at text a more s e =
    let inner = kf.complete (record { place = at.place; rest = text; short = Size }) text a [] s.0 (sym (append-nil text)) in
    rw (split_complete n at text more s.1 e, inner) refl

-- ---- a window that may pass the end

whole_ended : {A : Type 0} (at : At) (r : Result (A × At) ReadFault) → after r (λ x. cond false (runs_out at) (Ok x)) ≡ r
whole_ended at (Ok x) = refl
whole_ended at (Err d) = refl

whole_window : {A : Type 0} (n : ℕ) (at next : At) (r : Result (A × At) ReadFault) → ltb (length at.rest) n ≡ false → after r (λ r. after (ended next r.0 r.1) (unless_short n at)) ≡ after r (λ r. ended next r.0 r.1)
whole_window {A} n at next (Ok x) e =
    ap (λ (b : Bool). after (ended next x.0 x.1) (λ (y : A × At). cond b (runs_out at) (Ok y))) e ∙ whole_ended at (ended next x.0 x.1)
whole_window n at next (Err d) e = refl

-- where the bytes are there, it is the window
pub clipped_is_sized : {A : Type 0} (f : At → Result (A × At) ReadFault) (n : ℕ) (at : At) → n ≤ length at.rest → clipped_from f n at ≡ sized_from f n at
clipped_is_sized {A} f n at le =
    let long : ltb (length at.rest) n ≡ false = le-ltb _ _ le in
    let next : At = past at (take n at.rest) (drop n at.rest) in
    let sized_is : after (cond false (runs_out at) (Ok (window n at, next))) (λ (w : At × At). after (f w.0) (λ r. ended w.1 r.0 r.1)) ≡ sized_from f n at =
    ap (λ (b : Bool). after (cond b (runs_out at) (Ok (window n at, next))) (λ (w : At × At). after (f w.0) (λ r. ended w.1 r.0 r.1))) (sym long) in
    whole_window n at next (f (window n at)) long ∙ sized_is

-- what is read has its bytes
clipped_whole : {A : Type 0} (f : At → Result (A × At) ReadFault) (n : ℕ) (at : At) (x : A × At) → clipped_from f n at ≡ Ok x → n ≤ length at.rest
clipped_whole {A} f n at x e =
    let next : At = past at (take n at.rest) (drop n at.rest) in
    let one = after_ok (f (window n at)) (λ r. after (ended next r.0 r.1) (unless_short n at)) x e in
    let two = after_ok (ended next one.0.0 one.0.1) (unless_short n at) x one.2 in
    let g = guard_ok (ltb (length at.rest) n) (record { place = at.place + length at.rest; kind = at.short }) two.0 x two.2 in
    ltb-false _ _ g.0

pub clipped_sound : {A : Type 0} (f : Form A) (kf : Agrees f) (n : ℕ) (at : At) (a : A) (next : At) → clipped_from f.reads n at ≡ Ok (a, next) → Took (Sized f.spells n) at a next
clipped_sound {A} f kf n at a next e = sized_sound f kf n at a next (sym (clipped_is_sized f.reads n at (clipped_whole f.reads n at (a, next) e)) ∙ e)

pub clipped_complete : {A : Type 0} (f : Form A) (kf : Agrees f) (n : ℕ) (at : At) (text : List ℕ) (a : A) (more : List ℕ) → Sized f.spells n text a → at.rest ≡ text ++ more → clipped_from f.reads n at ≡ Ok (a, past at text more)
clipped_complete {A} f kf n at text a more s e =
    let le : n ≤ length at.rest = omega (arith, ap length e, length-append text more, s.1) in
    clipped_is_sized f.reads n at le ∙ sized_complete f kf n at text a more s e

-- ---- contents that only begin with a form

pub headed_sound : {A : Type 0} (f : Form A) (kf : Agrees f) (n : ℕ) (at : At) (a : A) (next : At) → headed_from f.reads n at ≡ Ok (a, next) → Took (Headed f.spells n) at a next
headed_sound {A} f kf n at a next e =
    let zero_ = after_ok (split_from n at) (λ w. after (f.reads w.0) (λ r. Ok (r.0, w.1))) (a, next) e in
    let w-is = split_sound n at zero_.0 zero_.1 in
    let len : length (take n at.rest) ≡ n = omega (arith, length-take n at.rest, w-is.0) in
    let end : At = past at (take n at.rest) (drop n at.rest) in
    let from : after {B = A × At} (f.reads (window n at)) (λ r. Ok (r.0, end)) ≡ Ok (a, next) = subst (λ (w : At × At). after {B = A × At} (f.reads w.0) (λ r. Ok (r.0, w.1)) ≡ Ok (a, next)) w-is.1 zero_.2 in
    let one = after_ok {B = A × At} (f.reads (window n at)) (λ r. Ok (r.0, end)) (a, next) from in
    let t = kf.sound (window n at) one.0.0 one.0.1 one.1 in
    let h = ok_is (one.0.0, end) (a, next) one.2 in
    subst (λ (x : A × At). Took (Headed f.spells n) at x.0 x.1) h (record { text = take n at.rest; spelled = record { front = t.text; back = one.0.1.rest; whole = t.parts; spelled = t.spelled; size = len }; parts = sym (take-append-drop n at.rest); next_is = refl })

pub headed_complete : {A : Type 0} (f : Form A) (kf : Agrees f) (n : ℕ) (at : At) (text : List ℕ) (a : A) (more : List ℕ) → Headed f.spells n text a → at.rest ≡ text ++ more → headed_from f.reads n at ≡ Ok (a, past at text more)
headed_complete {A} f kf n at text a more s e =
    let inner = kf.complete (record { place = at.place; rest = text; short = Size }) s.front a s.back s.spelled s.whole in
    rw (split_complete n at text more s.size e, inner) refl

-- ---- one of two, by a test

pub chosen_sound : {A : Type 0} (b : Bool) (f g : Form A) (kf : Agrees f) (kg : Agrees g) (at : At) (a : A) (next : At) → cond b (f.reads at) (g.reads at) ≡ Ok (a, next) → Took (Chosen b f.spells g.spells) at a next
chosen_sound true f g kf kg at a next e = let t = kf.sound at a next e in record { text = t.text; spelled = t.spelled; parts = t.parts; next_is = t.next_is }
chosen_sound false f g kf kg at a next e = let t = kg.sound at a next e in record { text = t.text; spelled = t.spelled; parts = t.parts; next_is = t.next_is }

pub chosen_complete : {A : Type 0} (b : Bool) (f g : Form A) (kf : Agrees f) (kg : Agrees g) (at : At) (text : List ℕ) (a : A) (more : List ℕ) → Chosen b f.spells g.spells text a → at.rest ≡ text ++ more → cond b (f.reads at) (g.reads at) ≡ Ok (a, past at text more)
chosen_complete true f g kf kg at text a more s e = kf.complete at text a more s e
chosen_complete false f g kf kg at text a more s e = kg.complete at text a more s e

-- ---- no value

pub nowhere_sound : {A : Type 0} (at : At) (a : A) (next : At) → runs_out {A = A × At} at ≡ Ok (a, next) → Took (λ text a. ⊥) at a next
nowhere_sound at a next e = absurd cc

pub nowhere_complete : {A : Type 0} (at : At) (text : List ℕ) (a : A) (more : List ℕ) → ⊥ → at.rest ≡ text ++ more → runs_out {A = A × At} at ≡ Ok (a, past at text more)
nowhere_complete at text a more h e = absurd h

-- ---- each way of making forms keeps that they agree

pub give_agrees : {A : Type 0} (a : A) → Agrees (give a)
give_agrees a = record { sound = give_sound a; complete = give_complete a }

pub then_agrees : {A B : Type 0} {f : Form A} {g : A → Form B} → Agrees f → ((a : A) → Agrees (g a)) → Agrees (f >>= g)
then_agrees {A} {B} {f} {g} kf kg = record { sound = then_sound f g kf kg; complete = then_complete f g kf kg }

pub byte_agrees : Agrees byte
unfolding byte
byte_agrees = record { sound = byte_sound; complete = byte_complete }

pub means_agrees : {A B : Type 0} {f : Form A} → Agrees f → (meaning : A → Result B ReadKind) → Agrees (means f meaning)
means_agrees {A} {B} {f} kf meaning = record { sound = meant_sound f kf meaning; complete = meant_complete f kf meaning }

pub choose_agrees : {A : Type 0} (b : Bool) {f g : Form A} → Agrees f → Agrees g → Agrees (choose b f g)
choose_agrees {A} b {f} {g} kf kg = record { sound = chosen_sound b f g kf kg; complete = chosen_complete b f g kf kg }

pub bytes_agrees : (n : ℕ) → Agrees (bytes n)
unfolding bytes
bytes_agrees n = record { sound = bytes_sound n; complete = bytes_complete n }

pub sized_agrees : {A : Type 0} (n : ℕ) {f : Form A} → Agrees f → Agrees (sized n f)
sized_agrees {A} n {f} kf = record { sound = sized_sound f kf n; complete = sized_complete f kf n }

pub clipped_agrees : {A : Type 0} (n : ℕ) {f : Form A} → Agrees f → Agrees (clipped n f)
clipped_agrees {A} n {f} kf = record { sound = clipped_sound f kf n; complete = clipped_complete f kf n }

pub headed_agrees : {A : Type 0} (n : ℕ) {f : Form A} → Agrees f → Agrees (headed n f)
headed_agrees {A} n {f} kf = record { sound = headed_sound f kf n; complete = headed_complete f kf n }

pub many_agrees : {A : Type 0} {f : Form A} → Agrees f → (n : ℕ) → Agrees (many f n)
unfolding many
many_agrees kf zero = give_agrees []
many_agrees kf (suc n) = then_agrees kf (λ first. then_agrees (many_agrees kf n) (λ others. give_agrees (first ∷ others)))

pub each_agrees : {A B : Type 0} {f : B → Form A} → ((b : B) → Agrees (f b)) → (bs : List B) → Agrees (each_of f bs)
unfolding each_of
each_agrees kf [] = give_agrees []
each_agrees kf (b ∷ bs) = then_agrees (kf b) (λ first. then_agrees (each_agrees kf bs) (λ others. give_agrees (first ∷ others)))

pub at_most_one_agrees : {A : Type 0} {f : Form A} → Agrees f → (n : ℕ) → Agrees (at_most_one f n)
unfolding at_most_one
at_most_one_agrees kf n = choose_agrees (eqb n 0) (give_agrees None) (then_agrees kf (λ a. give_agrees (Some a)))
