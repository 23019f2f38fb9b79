-- What is read as a module is spelled so, and what is spelled so is read.
use Rattle.std.proofs.Common.{◌≡◌, ℕ, zero, suc, ◌+◌, ◌^◌, ◌≤◌, ◌<◌, Bool, true, false, cond, eqb, ltb, List, [], ◌++◌, length, Result, Ok, Err, refl, sym, ap, eq-eqb, ne_eqb, subst, ◌∙◌, arith}
use Rattle.std.proofs.lemmas.Bool.{eqb-true, ltb-false, le-ltb}
use Rattle.std.proofs.lemmas.List.{length-append, nil_from_length}
use Rattle.mv_syntax.specs.declared.fault.ReadFault.{ReadFault}
use Rattle.mv_syntax.specs.declared.fault.ReadKind.TheVariants.{Cut, Count, Limit}
use Rattle.mv_syntax.specs.Form.{At, past, after}
use Rattle.mv_syntax.proofs.SectionLaws.{section_agrees, preamble_agrees}
use Rattle.mv_syntax.proofs.FormLaws.{after_ok}
use Rattle.mv_syntax.specs.Forms.{byte}
use Rattle.mv_syntax.specs.Sections.{Parts, Sections, nothing_yet, section, sections, preamble}
use Rattle.mv_syntax.specs.Modules.{Spells, finished, sections_from, module_at}

section_long : (s : Sections) (text : List ℕ) (more : Sections) → (section s).spells text more → 0 < length text
unfolding section byte
section_long s text more j =
    let one : length j.front ≡ 1 = ap length j.front_spells.spelled in
    omega (arith, ap length j.whole, length-append j.front j.back)

pub section_shorter : (s : Sections) (at : At) (more : Sections) (next : At) → (section s).reads at ≡ Ok (more, next) → length next.rest < length at.rest
section_shorter s at more next e =
    let t = (section_agrees s).sound at more next e in
    omega (arith, ap length t.parts, length-append t.text next.rest, section_long s t.text more t.spelled)

guard_first : {A : Type 0} (b : Bool) (x : A) (d : ReadFault) (y : A) → cond b (Ok x) (Err d) ≡ Ok y → (b ≡ true) × (x ≡ y)
guard_first true x d y e = (refl, cc)
guard_first false x d y e = absurd cc

-- sections up to the end of the file
pub record Ends (s : Sections) (text : List ℕ) (p : Parts) : Type 0 where
  pub count : ℕ
  pub held : Sections
  pub spelled : (sections count s).spells text held
  pub bodies : length held.parts.funcs ≡ length held.declared
  pub parts_is : held.parts ≡ p

ends_here : (s : Sections) (at : At) (p : Parts) → at.rest ≡ [] → finished at.place s ≡ Ok p → Ends s at.rest p
unfolding sections
ends_here s at p none e =
    let g = guard_first (eqb (length s.parts.funcs) (length s.declared)) s.parts (record { place = at.place; kind = Count }) p e in
    record { count = 0; held = s; spelled = (none, refl); bodies = eqb-true _ _ g.0; parts_is = g.1 }

ends_later : (s more : Sections) (front back text : List ℕ) (p : Parts) → text ≡ front ++ back → (section s).spells front more → Ends more back p → Ends s text p
unfolding sections
ends_later s more front back text p whole spelled e = record {
  count = suc e.count;
  held = e.held;
  spelled = record { first = more; front = front; back = back; whole = whole; front_spells = spelled; back_spells = e.spelled };
  bodies = e.bodies;
  parts_is = e.parts_is;
}

abbrev Below : ℕ → Type 0
Below n = (s : Sections) (at : At) (p : Parts) → length at.rest ≤ n → sections_from n s at ≡ Ok p → Ends s at.rest p

choice_sound : (n : ℕ) → Below n → (s : Sections) (at : At) (p : Parts) (b : Bool) → eqb (length at.rest) 0 ≡ b → length at.rest ≤ suc n
    → cond b (finished at.place s) (after ((section s).reads at) (λ r. sections_from n r.0 r.1)) ≡ Ok p → Ends s at.rest p
choice_sound n below s at p true test le e = ends_here s at p (nil_from_length at.rest (eqb-true _ _ test)) e
choice_sound n below s at p false test le e =
    let one = after_ok ((section s).reads at) (λ r. sections_from n r.0 r.1) p e in
    let t = (section_agrees s).sound at one.0.0 one.0.1 one.1 in
    let shorter : length one.0.1.rest ≤ n = omega (arith, ap length t.parts, length-append t.text one.0.1.rest, section_long s t.text one.0.0 t.spelled) in
    ends_later s one.0.0 t.text one.0.1.rest at.rest p t.parts t.spelled (below one.0.0 one.0.1 p shorter one.2)

pub sections_sound : (n : ℕ) (s : Sections) (at : At) (p : Parts) → length at.rest ≤ n → sections_from n s at ≡ Ok p → Ends s at.rest p
unfolding sections_from
sections_sound zero s at p le e = ends_here s at p (nil_from_length at.rest (omega arith)) e
sections_sound (suc n) s at p le e = choice_sound n (sections_sound n) s at p (eqb (length at.rest) 0) refl le e

finished_is : (place : ℕ) (s : Sections) → length s.parts.funcs ≡ length s.declared → finished place s ≡ Ok s.parts
finished_is place s e = rw (eq-eqb (length s.parts.funcs) (length s.declared) e) refl

-- at the end of the file
here_complete : (s held : Sections) (at : At) → held ≡ s → length held.parts.funcs ≡ length held.declared → finished at.place s ≡ Ok held.parts
here_complete s held at e bodies = subst (λ (h : Sections). length h.parts.funcs ≡ length h.declared → finished at.place s ≡ Ok h.parts) (sym e) (finished_is at.place s) bodies

pub sections_complete : (count n : ℕ) (s held : Sections) (at : At) → (sections count s).spells at.rest held → length held.parts.funcs ≡ length held.declared → length at.rest ≤ n → sections_from n s at ≡ Ok held.parts
unfolding sections sections_from
sections_complete zero zero s held at j bodies le = here_complete s held at j.1 bodies
sections_complete zero (suc n) s held at j bodies le =
    let none : eqb (length at.rest) 0 ≡ true = eq-eqb (length at.rest) 0 (ap length j.0) in
    rw none (here_complete s held at j.1 bodies)
sections_complete (suc count) zero s held at j bodies le = absurd (omega (arith, ap length j.whole, length-append j.front j.back, section_long s j.front j.first j.front_spells))
sections_complete (suc count) (suc n) s held at j bodies le =
    let size : length at.rest ≡ length j.front + length j.back = ap length j.whole ∙ length-append j.front j.back in
    let long = section_long s j.front j.first j.front_spells in
    let some : eqb (length at.rest) 0 ≡ false = ne_eqb (length at.rest) 0 (λ e. omega arith) in
    let one = (section_agrees s).complete at j.front j.first j.back j.front_spells j.whole in
    let two = sections_complete count n j.first held (past at j.front j.back) j.back_spells bodies (omega arith) in
    rw (some, one) two

guard_ok : {A : Type 0} (b : Bool) (d : ReadFault) (r : Result A ReadFault) (y : A) → cond b (Err d) r ≡ Ok y → (b ≡ false) × (r ≡ Ok y)
guard_ok true d r y e = absurd cc
guard_ok false d r y e = (refl, e)

preamble_value : (text : List ℕ) (b : ℕ) → preamble.spells text b → b ≡ 0
unfolding preamble byte
preamble_value text b j = j.back_spells.back_spells.back_spells.back_spells.back_spells.back_spells.back_spells.back_spells.1

-- what is read is spelled so
pub module_sound : (file : List ℕ) (p : Parts) → module_at file ≡ Ok p → Spells file p
unfolding module_at
module_sound file p e =
    let start : At = record { place = 0; rest = file; short = Cut } in
    let g = guard_ok (ltb (2 ^ 24) (length file)) (record { place = 0; kind = Limit }) (after (preamble.reads start) (λ r. sections_from (length r.1.rest) nothing_yet r.1)) p e in
    let one = after_ok (preamble.reads start) (λ r. sections_from (length r.1.rest) nothing_yet r.1) p g.1 in
    let t = preamble_agrees.sound start one.0.0 one.0.1 one.1 in
    let s = sections_sound (length one.0.1.rest) nothing_yet one.0.1 p (omega arith) one.2 in
    record {
      small = ltb-false _ _ g.0;
      spelled = record {
        front = t.text;
        back = one.0.1.rest;
        whole = t.parts;
        begins = subst (λ (b : ℕ). preamble.spells t.text b) (preamble_value t.text one.0.0 t.spelled) t.spelled;
        count = s.count;
        held = s.held;
        goes_on = s.spelled;
        bodies = s.bodies;
        parts_is = s.parts_is;
      };
    }

-- what is spelled so is read
pub module_complete : (file : List ℕ) (p : Parts) → Spells file p → module_at file ≡ Ok p
unfolding module_at
module_complete file p s =
    let start : At = record { place = 0; rest = file; short = Cut } in
    let j = s.spelled in
    let fits : ltb (2 ^ 24) (length file) ≡ false = le-ltb _ _ s.small in
    let one = preamble_agrees.complete start j.front 0 j.back j.begins j.whole in
    let two = sections_complete j.count (length j.back) nothing_yet j.held (past start j.front j.back) j.goes_on j.bodies (omega arith) in
    rw (fits, one) (two ∙ ap (λ (p : Parts). Ok p) j.parts_is)
