-- The laws of the ways in which forms are made: what is read without a fault is written so, and what is written so is read.
use Rattle.std.proofs.Common.{◌≡◌, ℕ, Bool, true, false, cond, List, [], ◌∷◌, ◌++◌, Result, Ok, Err, Option, Some, None, refl, sym, ap, subst, ◌∙◌, append_assoc}
use Rattle.mv_scan.specs.declared.token.Token.{Token}
use Rattle.mv_statements.specs.declared.fault.TextKind.{TextKind}
use Rattle.mv_statements.specs.declared.fault.TextKind.TheVariants.{Count}
use Rattle.mv_statements.specs.Form.{At, clean, with_fault, sooner, Took, Form}

clean_is : (at : At) → at.fault ≡ None → at ≡ clean at.rest
clean_is at e = ap (λ (f : Option TextKind). record { rest = at.rest; fault = f }) e

-- ---- no word

abbrev pub Nothing : {A : Type 0} → A → A → List Token → List Token → Type 0
Nothing a b words more = (words ≡ []) × (b ≡ a)

pub give_sound : {A : Type 0} (a : A) (at : At) (b : A) (next : At) → (let r : A × At = (a, at) in r) ≡ (b, next) → next.fault ≡ None → Took (Nothing a) at b next
give_sound {A} a at b next e none =
    let b_is : a ≡ b = ap (λ (x : A × At). x.0) e in
    let next_is : at ≡ next = ap (λ (x : A × At). x.1) e in
    record { clean = ap (λ (x : At). x.fault) next_is ∙ none; words = []; spelled = (refl, sym b_is); parts = ap (λ (x : At). x.rest) next_is }

pub give_complete : {A : Type 0} (a b : A) (words more : List Token) → Nothing a b words more → (let r : A × At = (a, clean (words ++ more)) in r) ≡ (b, clean more)
give_complete a b words more s = rw (s.0, s.1) refl

-- ---- one form after another

pub record Joined {A B : Type 0} (f : A → List Token → List Token → Type 0) (g : A → B → List Token → List Token → Type 0) (b : B) (words more : List Token) : Type 0 where
  pub first : A
  pub front : List Token
  pub back : List Token
  pub whole : words ≡ front ++ back
  pub front_spells : f first front (back ++ more)
  pub back_spells : g first b back more

pub then_sound : {A B : Type 0} (f : Form A) (g : A → Form B) (at : At) (b : B) (next : At) → (let r = f.reads at in (g r.0).reads r.1) ≡ (b, next) → next.fault ≡ None → Took (Joined f.spells (λ a. (g a).spells)) at b next
then_sound {A} {B} f g at b next e none =
    let r : A × At = f.reads at in
    let two = (g r.0).sound r.1 b next e none in
    let one = f.sound at r.0 r.1 refl two.clean in
    record {
      clean = one.clean;
      words = one.words ++ two.words;
      spelled = record { first = r.0; front = one.words; back = two.words; whole = refl; front_spells = subst (λ (x : List Token). f.spells r.0 one.words x) two.parts one.spelled; back_spells = two.spelled };
      parts = one.parts ∙ ap (λ (x : List Token). one.words ++ x) two.parts ∙ sym (append_assoc one.words two.words next.rest);
    }

pub then_complete : {A B : Type 0} (f : Form A) (g : A → Form B) (b : B) (words more : List Token) → Joined f.spells (λ a. (g a).spells) b words more → (let r = f.reads (clean (words ++ more)) in (g r.0).reads r.1) ≡ (b, clean more)
then_complete {A} {B} f g b words more s =
    let parts : words ++ more ≡ s.front ++ (s.back ++ more) = ap (λ (x : List Token). x ++ more) s.whole ∙ append_assoc s.front s.back more in
    let one : f.reads (clean (words ++ more)) ≡ (s.first, clean (s.back ++ more)) = ap (λ (x : List Token). f.reads (clean x)) parts ∙ f.complete s.first s.front (s.back ++ more) s.front_spells in
    ap (λ (r : A × At). (g r.0).reads r.1) one ∙ (g s.first).complete b s.back more s.back_spells

-- ---- one word with a meaning

pub record OneWord {A : Type 0} (meaning : Token → Result A TextKind) (a : A) (words more : List Token) : Type 0 where
  pub word : Token
  pub written : words ≡ word ∷ []
  pub meant : meaning word ≡ Ok a

abbrev pub judged : {A : Type 0} → A → At → Result A TextKind → A × At
judged other next (Ok a) = (a, next)
judged other next (Err kind) = (other, with_fault kind next)

abbrev pub word_from : {A : Type 0} → A → (Token → Result A TextKind) → Option TextKind → List Token → A × At
word_from other meaning fault [] = (other, with_fault Count (record { rest = []; fault = fault }))
word_from other meaning fault (word ∷ rest) = judged other (record { rest = rest; fault = fault }) (meaning word)

judged_is : {A : Type 0} (other : A) (next : At) (r : Result A TextKind) (a : A) (end : At) → judged other next r ≡ (a, end) → end.fault ≡ None → (r ≡ Ok a) × (next ≡ end)
judged_is {A} other next (Ok b) a end e none = (ap (λ (x : A × At). Ok x.0) e, ap (λ (x : A × At). x.1) e)
judged_is {A} other next (Err kind) a end e none = absurd (let met : Some (sooner next.fault kind) ≡ None = ap (λ (x : A × At). x.1.fault) e ∙ none in cc)

word_sound_from : {A : Type 0} (other : A) (meaning : Token → Result A TextKind) (fault : Option TextKind) (rest : List Token) (a : A) (next : At) → word_from other meaning fault rest ≡ (a, next) → next.fault ≡ None → Took (OneWord meaning) (record { rest = rest; fault = fault }) a next
word_sound_from {A} other meaning fault [] a next e none = absurd (let met : Some (sooner fault Count) ≡ None = ap (λ (x : A × At). x.1.fault) e ∙ none in cc)
word_sound_from {A} other meaning fault (word ∷ rest) a next e none =
    let p = judged_is other (record { rest = rest; fault = fault }) (meaning word) a next e none in
    record { clean = ap (λ (x : At). x.fault) p.1 ∙ none; words = word ∷ []; spelled = record { word = word; written = refl; meant = p.0 }; parts = ap (λ (x : At). word ∷ x.rest) p.1 }

pub word_sound : {A : Type 0} (other : A) (meaning : Token → Result A TextKind) (at : At) (a : A) (next : At) → word_from other meaning at.fault at.rest ≡ (a, next) → next.fault ≡ None → Took (OneWord meaning) at a next
word_sound other meaning at a next e none = word_sound_from other meaning at.fault at.rest a next e none

pub word_complete : {A : Type 0} (other : A) (meaning : Token → Result A TextKind) (a : A) (words more : List Token) → OneWord meaning a words more → word_from other meaning None (words ++ more) ≡ (a, clean more)
word_complete other meaning a words more s = rw (s.written, s.meant) refl

-- ---- what the words that are left show

abbrev pub Shows : (List Token → ℕ) → ℕ → List Token → List Token → Type 0
Shows show n words more = (words ≡ []) × (n ≡ show more)

pub seen_sound : (show : List Token → ℕ) (at : At) (n : ℕ) (next : At) → (let r : ℕ × At = (show at.rest, at) in r) ≡ (n, next) → next.fault ≡ None → Took (Shows show) at n next
seen_sound show at n next e none =
    let n_is : show at.rest ≡ n = ap (λ (x : ℕ × At). x.0) e in
    let next_is : at ≡ next = ap (λ (x : ℕ × At). x.1) e in
    record { clean = ap (λ (x : At). x.fault) next_is ∙ none; words = []; spelled = (refl, sym n_is ∙ ap (λ (x : At). show x.rest) next_is); parts = ap (λ (x : At). x.rest) next_is }

pub seen_complete : (show : List Token → ℕ) (n : ℕ) (words more : List Token) → Shows show n words more → (let r : ℕ × At = (show (words ++ more), clean (words ++ more)) in r) ≡ (n, clean more)
seen_complete show n words more s = rw (s.1, s.0) refl

-- ---- a value that may stand

abbrev pub Holds : {A : Type 0} → Bool → A → A → List Token → List Token → Type 0
Holds test a b words more = (words ≡ []) × (b ≡ a) × (test ≡ true)

abbrev pub unless : Bool → TextKind → At → At
unless true kind at = at
unless false kind at = with_fault kind at

provided_at : (test : Bool) (kind : TextKind) (at : At) → (unless test kind at).fault ≡ None → (test ≡ true) × (unless test kind at ≡ at)
provided_at true kind at none = (refl, refl)
provided_at false kind at none = absurd cc

pub provided_sound : {A : Type 0} (test : Bool) (kind : TextKind) (a : A) (at : At) (b : A) (next : At) → (let r : A × At = (a, unless test kind at) in r) ≡ (b, next) → next.fault ≡ None → Took (Holds test a) at b next
provided_sound {A} test kind a at b next e none =
    let b_is : a ≡ b = ap (λ (x : A × At). x.0) e in
    let next_is : unless test kind at ≡ next = ap (λ (x : A × At). x.1) e in
    let p = provided_at test kind at (ap (λ (x : At). x.fault) next_is ∙ none) in
    let same : at ≡ next = sym p.1 ∙ next_is in
    record { clean = ap (λ (x : At). x.fault) same ∙ none; words = []; spelled = (refl, sym b_is, p.0); parts = ap (λ (x : At). x.rest) same }

pub provided_complete : {A : Type 0} (test : Bool) (kind : TextKind) (a b : A) (words more : List Token) → Holds test a b words more → (let r : A × At = (a, unless test kind (clean (words ++ more))) in r) ≡ (b, clean more)
provided_complete test kind a b words more s = rw (s.0, s.1, s.2) refl

-- ---- one form or the other

abbrev pub Chosen : {A : Type 0} → Bool → (A → List Token → List Token → Type 0) → (A → List Token → List Token → Type 0) → A → List Token → List Token → Type 0
Chosen true f g = f
Chosen false f g = g

pub chosen_sound : {A : Type 0} (b : Bool) (f g : Form A) (at : At) (a : A) (next : At) → cond b (f.reads at) (g.reads at) ≡ (a, next) → next.fault ≡ None → Took (Chosen b f.spells g.spells) at a next
chosen_sound true f g at a next e none = f.sound at a next e none
chosen_sound false f g at a next e none = g.sound at a next e none

pub chosen_complete : {A : Type 0} (b : Bool) (f g : Form A) (a : A) (words more : List Token) → Chosen b f.spells g.spells a words more → cond b (f.reads (clean (words ++ more))) (g.reads (clean (words ++ more))) ≡ (a, clean more)
chosen_complete true f g a words more s = f.complete a words more s
chosen_complete false f g a words more s = g.complete a words more s
