-- The first fault of a file: it is settled by the bytes in front of its place, what stands there, and how many follow.
use Rattle.std.proofs.Common.{◌≡◌, ℕ, zero, suc, ◌+◌, ◌^◌, ◌≤◌, ◌<◌, Bool, true, false, cond, eqb, ltb, List, [], ◌++◌, length, Result, Ok, Err, refl, sym, ap, eq-eqb, ne_eqb, subst, ◌∙◌, arith, ◌⊎◌, inl, inr}
use Rattle.std.proofs.lemmas.Bool.{ltb-true, ltb-false, lt-ltb, le-ltb}
use Rattle.std.proofs.lemmas.List.{length-append}
use Rattle.mv_syntax.specs.declared.fault.ReadFault.{ReadFault}
use Rattle.mv_syntax.specs.declared.fault.ReadKind.{ReadKind}
use Rattle.mv_syntax.specs.declared.fault.ReadKind.TheVariants.{Cut, Size, Count, Limit}
use Rattle.mv_syntax.specs.Form.{At, after}
use Rattle.mv_syntax.specs.Sections.{Parts, Sections, nothing_yet, section, preamble}
use Rattle.mv_syntax.specs.Modules.{Spells, finished, sections_from, module_at}
use Rattle.mv_syntax.specs.FirstFaults.{HasFault, Stands, IsInside, Settled}
use Rattle.mv_syntax.proofs.SectionLaws.{section_agrees, preamble_agrees}
use Rattle.mv_syntax.proofs.ModuleLaws.{section_shorter, module_sound, module_complete}
use Rattle.mv_syntax.proofs.FaultForms.{failed, err_is, unless_err, Fixed, IsShort, fits_le, fixed_as, end_fixed, then_fixed}
use Rattle.mv_syntax.proofs.FaultParts.{section_settles, preamble_settles}

-- ---- the sections up to the end of the file

after_same : {A B : Type 0} (r : Result A ReadFault) (j k : A → Result B ReadFault) → ((x : A) → r ≡ Ok x → j x ≡ k x) → after r j ≡ after r k
after_same (Ok x) j k h = h x refl
after_same (Err d) j k h = refl

-- as many sections as there are bytes are enough
sections_enough : (m n : ℕ) (s : Sections) (at : At) → length at.rest ≤ m → length at.rest ≤ n → sections_from m s at ≡ sections_from n s at
unfolding sections_from
sections_enough zero zero s at lm ln = refl
sections_enough zero (suc n) s at lm ln = ap (λ (b : Bool). cond b (finished at.place s) (after ((section s).reads at) (λ r. sections_from n r.0 r.1))) (sym (eq-eqb (length at.rest) 0 (omega (arith, lm))))
sections_enough (suc m) zero s at lm ln = ap (λ (b : Bool). cond b (finished at.place s) (after ((section s).reads at) (λ r. sections_from m r.0 r.1))) (eq-eqb (length at.rest) 0 (omega (arith, ln)))
sections_enough (suc m) (suc n) s at lm ln =
    ap (λ (r : Result Parts ReadFault). cond (eqb (length at.rest) 0) (finished at.place s) r) (after_same ((section s).reads at) (λ r. sections_from m r.0 r.1) (λ r. sections_from n r.0 r.1)
    (λ x e. sections_enough m n x.0 x.1 (omega (arith, lm, section_shorter s at x.0 x.1 e)) (omega (arith, ln, section_shorter s at x.0 x.1 e))))

abbrev all_sections : Sections → At → Result Parts ReadFault
all_sections s at = sections_from (length at.rest) s at

sections_step : (n : ℕ) (s : Sections) (at : At) → length at.rest ≡ n → 0 < n → all_sections s at ≡ after ((section s).reads at) (λ r. all_sections r.0 r.1)
unfolding sections_from
sections_step zero s at len some = absurd (omega (arith, some))
sections_step (suc n) s at len some =
    let more : eqb (length at.rest) 0 ≡ false = ne_eqb (length at.rest) 0 (λ e. omega (arith, e, len)) in
    let first : sections_from (suc n) s at ≡ after ((section s).reads at) (λ r. sections_from n r.0 r.1) = ap (λ (b : Bool). cond b (finished at.place s) (after ((section s).reads at) (λ r. sections_from n r.0 r.1))) more in
    ap (λ (k : ℕ). sections_from k s at) len ∙ first ∙ after_same ((section s).reads at) (λ r. sections_from n r.0 r.1) (λ r. all_sections r.0 r.1)
    (λ x e. sections_enough n (length x.1.rest) x.0 x.1 (omega (arith, len, section_shorter s at x.0 x.1 e)) (omega arith))

finished_err : (place : ℕ) (s : Sections) (e : ReadFault) → finished place s ≡ Err e → record { place = place; kind = Count } ≡ e
finished_err place s e h = (unless_err {X = Parts} (eqb (length s.parts.funcs) (length s.declared)) s.parts (record { place = place; kind = Count }) e h).1

ends_settle : (s : Sections) (at : At) (e : ReadFault) → length at.rest ≡ 0 → IsShort at.short → all_sections s at ≡ Err e → Fixed true (all_sections s) at e
unfolding sections_from
ends_settle s at e len short h =
    let last : finished at.place s ≡ Err e = ap (λ (k : ℕ). sections_from k s at) (sym len) ∙ h in
    let is = finished_err at.place s e last in
    let place : e.place ≡ at.place + length at.rest = omega (arith, ap (λ (d : ReadFault). d.place) is, len) in
    end_fixed true (all_sections s) at e short h place (inr (sym (ap (λ (d : ReadFault). d.kind) is)))

sections_settle : (n k : ℕ) (s : Sections) (at : At) (e : ReadFault) → length at.rest ≡ k → k ≤ n → IsShort at.short → all_sections s at ≡ Err e → Fixed true (all_sections s) at e
sections_settle n zero s at e len le short h = ends_settle s at e len short h
sections_settle zero (suc k) s at e len le short h = absurd (omega (arith, le))
sections_settle (suc n) (suc k) s at e len le short h =
    let some : 0 < length at.rest = omega (arith, len) in
    let first : after ((section s).reads at) (λ r. all_sections r.0 r.1) ≡ Err e = sym (sections_step (length at.rest) s at refl some) ∙ h in
    let F = then_fixed true (section s) (section_agrees s) (λ more next. all_sections more next) at e short (section_settles s)
    (λ more next read s2 j. sections_settle n (length next.rest) more next e refl (omega (arith, len, le, section_shorter s at more next read)) s2 j) first in
    fixed_as true (λ at. after ((section s).reads at) (λ r. all_sections r.0 r.1)) (all_sections s) at e
    (λ there fits j. sections_step (length there.rest) s there refl (omega (arith, some, fits_le true at e (length at.rest) (length there.rest) fits)) ∙ j) F

-- ---- the whole file

abbrev whole_file : At → Result Parts ReadFault
whole_file at = after (preamble.reads at) (λ r. all_sections nothing_yet r.1)

abbrev start_of : List ℕ → At
start_of bytes = record { place = 0; rest = bytes; short = Cut }

file_settles : (at : At) (e : ReadFault) → IsShort at.short → whole_file at ≡ Err e → Fixed true whole_file at e
file_settles at e short h = then_fixed true preamble preamble_agrees (λ _ next. all_sections nothing_yet next) at e short preamble_settles
    (λ _ next read s j. sections_settle (length next.rest) (length next.rest) nothing_yet next e refl (omega arith) s j) h

small_file : (bytes : List ℕ) → length bytes ≤ 2 ^ 24 → module_at bytes ≡ whole_file (start_of bytes)
unfolding module_at
small_file bytes small = ap (λ (b : Bool). cond b (failed (record { place = 0; kind = Limit })) (whole_file (start_of bytes))) (le-ltb (2 ^ 24) (length bytes) small)

large_file : (bytes : List ℕ) → 2 ^ 24 < length bytes → module_at bytes ≡ Err (record { place = 0; kind = Limit })
unfolding module_at
large_file bytes large = ap (λ (b : Bool). cond b (failed (record { place = 0; kind = Limit })) (whole_file (start_of bytes))) (lt-ltb (2 ^ 24) (length bytes) large)

-- what settles a fault, and where the file is cut
record Held (bytes : List ℕ) (f : ReadFault) : Type 0 where
  settled : Settled bytes f
  cut : f.kind ≡ Cut → settled.back ≡ []

large_held : (bytes : List ℕ) (f : ReadFault) → 2 ^ 24 < length bytes → HasFault bytes f → Held bytes f
large_held bytes f large h =
    let limit : ReadFault = record { place = 0; kind = Limit } in
    let is : limit ≡ f = err_is {X = Parts} limit f (sym (large_file bytes large) ∙ h) in
    record {
      settled = record {
        front = [];
        text = [];
        back = bytes;
        bytes_are = refl;
        place_is = sym (ap (λ (d : ReadFault). d.place) is);
        stands = subst (λ (d : ReadFault). Stands d.kind []) is (inl refl);
        as_long = λ others len. large_file others (omega (arith, len, large)) ∙ ap (λ (d : ReadFault). failed {X = Parts} d) is;
        longer = λ inside others le small. absurd (omega (arith, le, small, large));
      };
      cut = λ c. (let clash : Limit ≡ Cut = ap (λ (d : ReadFault). d.kind) is ∙ c in absurd cc);
    }

small_held : (bytes : List ℕ) (f : ReadFault) → length bytes ≤ 2 ^ 24 → HasFault bytes f → Held bytes f
small_held bytes f small h =
    let F = file_settles (start_of bytes) f (inl refl) (sym (small_file bytes small) ∙ h) in
    let size : (others : List ℕ) → length others ≡ length F.back → length (F.front ++ (F.text ++ others)) ≤ 2 ^ 24 = λ others len.
    omega (arith, len, small, ap length F.parts, length-append F.front (F.text ++ F.back), length-append F.text F.back, length-append F.front (F.text ++ others), length-append F.text others) in
    record {
      settled = record {
        front = F.front;
        text = F.text;
        back = F.back;
        bytes_are = F.parts;
        place_is = omega (arith, F.place_is);
        stands = F.stands;
        as_long = λ others len. small_file (F.front ++ (F.text ++ others)) (size others len) ∙ F.same others (inl len);
        longer = λ inside others le most. small_file (F.front ++ (F.text ++ others)) most ∙ F.same others (inr (le, within inside));
      };
      cut = λ c. (F.cut c).1;
    }
  where
    within : IsInside bytes f → (f.place < 0 + length bytes) ⊎ ((f.kind ≡ Size) × (Cut ≡ Cut))
    within (inl lt) = inl (omega (arith, lt))
    within (inr size) = inr (size, refl)

held : (bytes : List ℕ) (f : ReadFault) → HasFault bytes f → Held bytes f
held bytes f h = by_test (ltb (2 ^ 24) (length bytes)) refl
  where
    by_test : (b : Bool) → ltb (2 ^ 24) (length bytes) ≡ b → Held bytes f
    by_test true test = large_held bytes f (ltb-true _ _ test) h
    by_test false test = small_held bytes f (ltb-false _ _ test) h

-- ---- the laws

pub fault_settled : (bytes : List ℕ) (f : ReadFault) → HasFault bytes f → Settled bytes f
fault_settled bytes f h = (held bytes f h).settled

pub fault_within : (bytes : List ℕ) (f : ReadFault) → HasFault bytes f → f.place ≤ length bytes
fault_within bytes f h =
    let s = fault_settled bytes f h in
    omega (arith, s.place_is, ap length s.bytes_are, length-append s.front (s.text ++ s.back))

pub cut_at_end : (bytes : List ℕ) (f : ReadFault) → HasFault bytes f → f.kind ≡ Cut → f.place ≡ length bytes
cut_at_end bytes f h c =
    let k = held bytes f h in
    let s = k.settled in
    let none : s.text ≡ [] = subst (λ (k : ReadKind). Stands k s.text) c s.stands in
    omega (arith, s.place_is, ap length s.bytes_are, length-append s.front (s.text ++ s.back), length-append s.text s.back, ap length none, ap length (k.cut c))

pub one_fault : (bytes : List ℕ) (f g : ReadFault) → HasFault bytes f → HasFault bytes g → f ≡ g
one_fault bytes f g h j = err_is {X = Parts} f g (sym h ∙ j)

pub faulty_is_no_module : (bytes : List ℕ) (f : ReadFault) → HasFault bytes f → (p : Parts) → Spells bytes p → ⊥
faulty_is_no_module bytes f h p s = let clash : failed {X = Parts} f ≡ Ok p = sym h ∙ module_complete bytes p s in absurd cc

pub no_module_is_faulty : (bytes : List ℕ) → ((p : Parts) → Spells bytes p → ⊥) → (f : ReadFault) × HasFault bytes f
no_module_is_faulty bytes none = by_result (module_at bytes) refl
  where
    by_result : (r : Result Parts ReadFault) → module_at bytes ≡ r → (f : ReadFault) × HasFault bytes f
    by_result (Ok p) e = absurd (none p (module_sound bytes p e))
    by_result (Err f) e = (f, e)
