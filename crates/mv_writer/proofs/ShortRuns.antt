-- Locals in runs: no list of runs that gives the same locals is shorter than that in which neighbours of one type are
-- joined.
use Rattle.std.proofs.Common.{◌≡◌, ℕ, zero, suc, ◌+◌, ◌-◌, ◌/◌, ◌%◌, ◌≤◌, ◌<◌, Bool, true, false, cond, ltb, List, [], ◌∷◌, ◌++◌, length, replicate, refl, sym, ap, subst, ◌∙◌, append_assoc, arith}
use Rattle.std.specs.Prelude.{flat_map}
use Rattle.std.proofs.lemmas.Bool.{le-leb, lt-ltb}
use Rattle.std.proofs.lemmas.List.{append-nil, length-append, length-replicate, replicate-append-replicate}
use Rattle.mv_syntax.specs.declared.fault.ReadKind.TheVariants.{Limit}
use Rattle.mv_syntax.specs.declared.ops.ValType.{ValType}
use Rattle.mv_syntax.specs.declared.ops.ValType.TheVariants.{I32, I64}
use Rattle.mv_syntax.specs.declared.module.Func.{Func}
use Rattle.mv_syntax.specs.Form.{Form}
use Rattle.mv_syntax.specs.Forms.{◌>>=◌, byte}
use Rattle.mv_syntax.specs.Numbers.{u32}
use Rattle.mv_syntax.specs.Types.{val_type, same_type}
use Rattle.mv_syntax.specs.Code.{code}
use Rattle.mv_syntax.specs.Parts.{run, runs, body, func}
use Rattle.mv_writer.specs.Written.{short_u32, short_groups, written_vector, written_type, written_code, joined_to, runs_of, written_run, written_body, written_func}
use Rattle.mv_syntax.proofs.NumberBounds.{u32_below}
use Rattle.mv_writer.proofs.ShortForms.{Shortens, shortens_give, shortens_then, shortens_as, u32_short, u32_made, u32_grows, some_group, val_type_short, up_to_below, up_to_short, sized_short}
use Rattle.mv_writer.proofs.ShortInstructions.{code_short}

-- the locals of runs
abbrev pub locals_of : List (ℕ × ValType) → List ValType
locals_of [] = []
locals_of (r ∷ given) = replicate r.0 r.1 ++ locals_of given

same_self : (t : ValType) → same_type t t ≡ true
same_self I32 = refl
same_self I64 = refl

pub same_is : (t u : ValType) → same_type t u ≡ true → t ≡ u
same_is I32 I32 e = refl
same_is I64 I64 e = refl
same_is I32 I64 e = absurd cc
same_is I64 I32 e = absurd cc

-- ---- the runs of some locals give them

joined_locals_at : (n : ℕ) (t : ValType) (r : ℕ × ValType) (given : List (ℕ × ValType)) (b : Bool) → same_type t r.1 ≡ b
    → locals_of (cond b ((n + r.0, t) ∷ given) ((n, t) ∷ r ∷ given)) ≡ replicate n t ++ locals_of (r ∷ given)
joined_locals_at n t r given true e =
    ap (λ (x : List ValType). x ++ locals_of given) (sym (replicate-append-replicate n r.0 t)) ∙ append_assoc (replicate n t) (replicate r.0 t) (locals_of given) ∙ ap (λ (u : ValType). replicate n t ++ (replicate r.0 u ++ locals_of given)) (same_is t r.1 e)
joined_locals_at n t r given false e = refl

joined_locals : (n : ℕ) (t : ValType) (given : List (ℕ × ValType)) → locals_of (joined_to n t given) ≡ replicate n t ++ locals_of given
joined_locals n t [] = refl
joined_locals n t (r ∷ given) = joined_locals_at n t r given (same_type t r.1) refl

pub runs_locals : (locals : List ValType) → locals_of (runs_of locals) ≡ locals
runs_locals [] = refl
runs_locals (t ∷ locals) = joined_locals 1 t (runs_of locals) ∙ ap (λ (x : List ValType). t ∷ x) (runs_locals locals)

-- ---- joining makes no list of runs longer

two_groups : (v : ℕ) → v < 16384 → length (short_u32 v) ≤ 2
unfolding short_u32
two_groups v lt = at_most (ltb v 128)
  where
    high : ltb (v / 128) 128 ≡ true
    high = lt-ltb _ _ (omega arith)

    at_most : (t : Bool) → length (cond t (v ∷ []) ((128 + v % 128) ∷ short_groups 4 (v / 128))) ≤ 2
    at_most true = omega arith
    at_most false = rw high (omega arith)

abbrev runs_text : List (ℕ × ValType) → List ℕ
runs_text given = flat_map written_run given

run_length : (r : ℕ × ValType) → length (written_run r) ≡ length (short_u32 r.0) + 1
run_length r = length-append (short_u32 r.0) (written_type r.1)

joined_short_at : (n : ℕ) (t : ValType) (r : ℕ × ValType) (given : List (ℕ × ValType)) (b : Bool) → n + r.0 < 16384
    → (length (cond b ((n + r.0, t) ∷ given) ((n, t) ∷ r ∷ given)) ≤ suc (length (r ∷ given)))
    × (length (runs_text (cond b ((n + r.0, t) ∷ given) ((n, t) ∷ r ∷ given))) ≤ length (written_run (n, t)) + length (runs_text (r ∷ given)))
joined_short_at n t r given true lt = (
  omega arith,
  omega (arith, length-append (written_run (n + r.0, t)) (runs_text given), length-append (written_run r) (runs_text given), run_length (n + r.0, t), run_length (n, t), run_length r, two_groups (n + r.0) lt, some_group n, some_group r.0),
)
joined_short_at n t r given false lt = (omega arith, omega (arith, length-append (written_run (n, t)) (runs_text (r ∷ given))))

joined_short : (n : ℕ) (t : ValType) (given : List (ℕ × ValType)) → n + length (locals_of given) ≤ 10000
    → (length (joined_to n t given) ≤ suc (length given)) × (length (runs_text (joined_to n t given)) ≤ length (written_run (n, t)) + length (runs_text given))
joined_short n t [] le = (omega arith, omega (arith, length-append (written_run (n, t)) []))
joined_short n t (r ∷ given) le = joined_short_at n t r given (same_type t r.1) (omega (arith, length-append (replicate r.0 r.1) (locals_of given), length-replicate r.0 r.1))

pub joined_twice : (n m : ℕ) (t : ValType) (given : List (ℕ × ValType)) → joined_to n t (joined_to m t given) ≡ joined_to (n + m) t given
joined_twice n m t [] = rw (same_self t) refl
joined_twice n m t (r ∷ given) = at_one (same_type t r.1)
  where
    at_one : (b : Bool) → joined_to n t (cond b ((m + r.0, t) ∷ given) ((m, t) ∷ r ∷ given)) ≡ cond b ((n + m + r.0, t) ∷ given) ((n + m, t) ∷ r ∷ given)
    at_one true = rw (same_self t) (ap (λ (k : ℕ). (k, t) ∷ given) (omega arith))
    at_one false = rw (same_self t) refl

-- what begins with a run
run_first : (n : ℕ) (t : ValType) (locals : List ValType) → runs_of (replicate (suc n) t ++ locals) ≡ joined_to (suc n) t (runs_of locals)
run_first zero t locals = refl
run_first (suc n) t locals = ap (joined_to 1 t) (run_first n t locals) ∙ joined_twice 1 (suc n) t (runs_of locals) ∙ ap (λ (k : ℕ). joined_to k t (runs_of locals)) (omega arith)

-- no more runs than these, and in no more bytes
abbrev NoLonger : List ValType → List (ℕ × ValType) → Type 0
NoLonger locals given = (length (runs_of locals) ≤ length given) × (length (runs_text (runs_of locals)) ≤ length (runs_text given))

one_more : (n : ℕ) (t : ValType) (given : List (ℕ × ValType)) → n + length (locals_of given) ≤ 10000 → NoLonger (locals_of given) given → NoLonger (replicate n t ++ locals_of given) ((n, t) ∷ given)
one_more zero t given le h = (omega (arith, h.0), omega (arith, h.1, length-append (written_run (0, t)) (runs_text given)))
one_more (suc n) t given le h =
    let j = joined_short (suc n) t (runs_of (locals_of given)) (omega (arith, ap length (runs_locals (locals_of given)))) in
    rw (run_first n t (locals_of given)) (omega (arith, j.0, h.0), omega (arith, j.1, h.1, length-append (written_run (suc n, t)) (runs_text given)))

pub runs_no_longer : (given : List (ℕ × ValType)) → length (locals_of given) ≤ 10000 → NoLonger (locals_of given) given
runs_no_longer [] le = (omega arith, omega arith)
runs_no_longer (r ∷ given) le =
    let size = length-append (replicate r.0 r.1) (locals_of given) in
    one_more r.0 r.1 given (omega (arith, size, length-replicate r.0 r.1)) (runs_no_longer given (omega (arith, size)))

-- ---- what spells locals

pub record InRuns (k : ℕ) (before : List ValType) (text : List ℕ) (locals : List ValType) : Type 0 where
  pub given : List (ℕ × ValType)
  pub count : length given ≡ k
  pub list : locals ≡ before ++ locals_of given
  pub few : length before ≤ 10000 → length locals ≤ 10000
  pub long : length (runs_text given) ≤ length text

runs_parts : (k : ℕ) (before : List ValType) (text : List ℕ) (locals : List ValType) → (runs k before).spells text locals → InRuns k before text locals
unfolding runs run
runs_parts zero before text locals s = record { given = []; count = refl; list = s.1 ∙ sym (append-nil before); few = λ le. omega (arith, ap length s.1); long = omega arith }
runs_parts (suc k) before text locals s =
    let r = s.front_spells in
    let q = r.back_spells in
    let n : ℕ = r.first in
    let t : ValType = q.first in
    let rest = runs_parts k s.first s.back locals s.back_spells in
    let first-is : s.first ≡ before ++ replicate n t = q.back_spells.1 in
    let below : n ≤ 10000 - length before = up_to_below (10000 - length before) Limit r.front_spells.sign n r.front_spells.meant in
    let size : length s.first ≡ length before + n = omega (arith, ap length first-is, length-append before (replicate n t), length-replicate n t) in
    record {
      given = (n, t) ∷ rest.given;
      count = ap suc rest.count;
      list = rest.list ∙ ap (λ (x : List ValType). x ++ locals_of rest.given) first-is ∙ append_assoc before (replicate n t) (locals_of rest.given);
      few = λ le. rest.few (omega arith);
      long = omega (
        arith,
        length-append (written_run (n, t)) (runs_text rest.given),
        run_length (n, t),
        rest.long,
        ap length s.whole,
        length-append s.front s.back,
        ap length r.whole,
        length-append r.front r.back,
        ap length q.whole,
        length-append q.front q.back,
        (up_to_short (10000 - length before) Limit).shorter r.front n r.front_spells,
        val_type_short.shorter q.front t q.front_spells,
      );
    }

type_made : (t : ValType) → val_type.spells (written_type t) t
unfolding val_type byte
type_made I32 = record { sign = 127; spelled = refl; meant = refl }
type_made I64 = record { sign = 126; spelled = refl; meant = refl }

run_made : (r : ℕ × ValType) (before : List ValType) → r.0 ≤ 10000 - length before → (run before).spells (written_run r) (before ++ replicate r.0 r.1)
unfolding run
run_made r before le = record {
  first = r.0;
  front = short_u32 r.0;
  back = written_type r.1;
  whole = refl;
  front_spells = record { sign = r.0; spelled = u32_made r.0 (omega arith); meant = rw (le-leb r.0 (10000 - length before) le) refl };
  back_spells = record { first = r.1; front = written_type r.1; back = []; whole = refl; front_spells = type_made r.1; back_spells = (refl, refl) };
}

runs_made : (given : List (ℕ × ValType)) (before : List ValType) → length before + length (locals_of given) ≤ 10000 → (runs (length given) before).spells (runs_text given) (before ++ locals_of given)
unfolding runs
runs_made [] before le = (refl, append-nil before)
runs_made (r ∷ given) before le =
    let size = length-append (replicate r.0 r.1) (locals_of given) in
    let one = length-replicate r.0 r.1 in
    let rest = runs_made given (before ++ replicate r.0 r.1) (omega (arith, length-append before (replicate r.0 r.1))) in
    record {
      first = before ++ replicate r.0 r.1;
      front = written_run r;
      back = runs_text given;
      whole = refl;
      front_spells = run_made r before (omega arith);
      back_spells = subst (λ (x : List ValType). (runs (length given) (before ++ replicate r.0 r.1)).spells (runs_text given) x) (append_assoc before (replicate r.0 r.1) (locals_of given)) rest;
    }

abbrev written_locals : List ValType → List ℕ
written_locals locals = written_vector written_run (runs_of locals)

locals_short : Shortens (u32 >>= λ k. runs k []) written_locals
locals_short = record {
  again = λ text locals s.
      let p = runs_parts s.first [] s.back locals s.back_spells in
      let no_longer : NoLonger locals p.given = subst (λ (x : List ValType). NoLonger x p.given) (sym p.list) (runs_no_longer p.given (omega (arith, p.few (omega arith), ap length p.list))) in
      let same = runs_locals locals in
      let made = runs_made (runs_of locals) [] (omega (arith, p.few (omega arith), ap length same)) in
      record {
        first = length (runs_of locals);
        front = short_u32 (length (runs_of locals));
        back = runs_text (runs_of locals);
        whole = refl;
        front_spells = u32_made (length (runs_of locals)) (omega (arith, no_longer.0, p.count, u32_below s.front s.first s.front_spells));
        back_spells = subst (λ (x : List ValType). (runs (length (runs_of locals)) []).spells (runs_text (runs_of locals)) x) same made;
      };
  shorter = λ text locals s.
      let p = runs_parts s.first [] s.back locals s.back_spells in
      let no_longer : NoLonger locals p.given = subst (λ (x : List ValType). NoLonger x p.given) (sym p.list) (runs_no_longer p.given (omega (arith, p.few (omega arith), ap length p.list))) in
      omega (
        arith,
        length-append (short_u32 (length (runs_of locals))) (runs_text (runs_of locals)),
        ap length s.whole,
        length-append s.front s.back,
        u32_grows (length (runs_of locals)) s.first (omega (arith, no_longer.0, p.count)),
        u32_short.shorter s.front s.first s.front_spells,
        no_longer.1,
        p.long,
      );
}

-- three forms one behind another, the first two taken together
grouped : {A B C : Type 0} (f : Form A) (g : A → Form B) (h : B → Form C) (text : List ℕ) (c : C) → (f >>= λ a. g a >>= h).spells text c → (f >>= g >>= h).spells text c
grouped f g h text c s =
    let r = s.back_spells in record {
      first = r.first;
      front = s.front ++ r.front;
      back = r.back;
      whole = s.whole ∙ ap (λ (x : List ℕ). s.front ++ x) r.whole ∙ sym (append_assoc s.front r.front r.back);
      front_spells = record { first = s.first; front = s.front; back = r.front; whole = refl; front_spells = s.front_spells; back_spells = r.front_spells };
      back_spells = r.back_spells;
    }

ungrouped : {A B C : Type 0} (f : Form A) (g : A → Form B) (h : B → Form C) (text : List ℕ) (c : C) → (f >>= g >>= h).spells text c → (f >>= λ a. g a >>= h).spells text c
ungrouped f g h text c s =
    let r = s.front_spells in record {
      first = r.first;
      front = r.front;
      back = r.back ++ s.back;
      whole = s.whole ∙ ap (λ (x : List ℕ). x ++ s.back) r.whole ∙ append_assoc r.front r.back s.back;
      front_spells = r.front_spells;
      back_spells = record { first = s.first; front = r.back; back = s.back; whole = refl; front_spells = r.back_spells; back_spells = s.back_spells };
    }

shortens_ungrouped : {A B C : Type 0} (f : Form A) (g : A → Form B) (h : B → Form C) (w : C → List ℕ) → Shortens (f >>= g >>= h) w → Shortens (f >>= λ a. g a >>= h) w
shortens_ungrouped f g h w sf = record {
  again = λ text c s. ungrouped f g h (w c) c (sf.again text c (grouped f g h text c s));
  shorter = λ text c s. sf.shorter text c (grouped f g h text c s);
}

-- ---- functions

body_parts : (t : ℕ) → Shortens (body t) (λ f. written_locals f.locals ++ (written_code f.code ++ []))
unfolding body
body_parts t =
    shortens_ungrouped u32 (λ k. runs k []) _ _ (
    shortens_then (u32 >>= λ k. runs k []) _ written_locals _ (λ (f : Func). f.locals) (λ ls front back f p q. ap (λ (f : Func). f.locals) q.back_spells.1) locals_short (λ ls.
    shortens_then code _ written_code _ (λ (f : Func). f.code) (λ c front back f p q. ap (λ (f : Func). f.code) q.1) code_short (λ c.
    shortens_give (record { ftype = t; locals = ls; code = c }))))

pub body_short : (t : ℕ) → Shortens (body t) written_body
body_short t = shortens_as (body t) _ written_body (λ f. simp (append-nil) refl) (body_parts t)

pub func_short : (t : ℕ) → Shortens (func t) written_func
unfolding func
func_short t = let s = sized_short (body t) written_body (body_short t) in record { again = s.again; shorter = s.shorter }

-- the type that a function was declared with
pub func_type_is : (t : ℕ) (text : List ℕ) (f : Func) → (func t).spells text f → f.ftype ≡ t
unfolding func body
func_type_is t text f s = ap (λ (f : Func). f.ftype) s.back_spells.0.back_spells.back_spells.back_spells.1
