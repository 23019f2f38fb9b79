-- The numbers of a statement that words spell fit, and it is no larger than they are.
use Rattle.std.proofs.Common.{◌≡◌, ℕ, zero, suc, ◌+◌, ◌-◌, ◌^◌, ◌≤◌, ◌<◌, Bool, true, false, cond, eqb, leb, List, [], ◌∷◌, ◌++◌, length, Option, Some, None, Result, Ok, Err, refl, sym, ap, subst, ◌∙◌, arith}
use Rattle.std.specs.Prelude.{codes, IfSome}
use Rattle.std.specs.List.{AllByRecursion}
use Rattle.std.specs.Option.{ok_or}
use Rattle.std.specs.Str.{is_utf8}
use Rattle.std.proofs.lemmas.Bool.{leb-true, eqb-false}
use Rattle.mv_syntax.specs.declared.ops.ValType.{ValType}
use Rattle.mv_syntax.specs.declared.ops.ValType.TheVariants.{I32, I64}
use Rattle.mv_syntax.specs.declared.types.Limits.{Limits}
use Rattle.mv_syntax.specs.declared.instr.Instr.{Instr}
use Rattle.mv_syntax.specs.declared.instr.Instr.TheVariants as instr
use Rattle.mv_syntax.specs.Types.{bit_width}
use Rattle.mv_syntax.specs.Kept.{IsSpellable}
use Rattle.mv_scan.specs.declared.token.Token.{Token}
use Rattle.mv_scan.specs.declared.token.Token.TheVariants.{Plain, Quoted, Glued}
use Rattle.mv_scan.specs.Numbers.{decimal}
use Rattle.mv_scan.specs.Words.{is_word}
use Rattle.mv_statements.specs.declared.fault.TextKind.{TextKind}
use Rattle.mv_statements.specs.declared.fault.TextKind.TheVariants.{Word, Quote, Number}
use Rattle.mv_statements.specs.declared.head.Head.{Head}
use Rattle.mv_statements.specs.declared.head.Head.TheVariants as heads
use Rattle.mv_statements.specs.declared.statement.Statement.{Statement}
use Rattle.mv_statements.specs.declared.statement.Statement.TheVariants as statements
use Rattle.mv_statements.specs.Forms.{give, ◌>>=◌, choose, many, maybe, last}
use Rattle.mv_statements.specs.FormLaws.{OneWord}
use Rattle.mv_statements.specs.Numerals.{numeral, at_most, negated, negative, constant}
use Rattle.mv_statements.specs.Words.{number_in, number_up_to, number, index, constant_word, val_type, kind_in, kind, text_in, text, name_in, name}
use Rattle.mv_statements.specs.Statements.{immediates, signature, import_, func, limits, constant_code, global, export, start, element, segment, instruction, behind, statement, IsHead, Spells}
use Rattle.mv_writer.specs.Writable.{AreU32, InstrInRange, LimitsInRange}
use Rattle.mv_writer.proofs.Small.{Small}
use Rattle.mv_text.proofs.Sizes.{label_count}

-- ## What words cost

abbrev pub weight : Token → ℕ
weight (Plain bytes) = 1
weight (Quoted None) = 1
weight (Quoted (Some text)) = 1 + length text
weight Glued = 1

abbrev pub cost : List Token → ℕ
cost [] = 0
cost (token ∷ tokens) = weight token + cost tokens

cost-append : (xs ys : List Token) → cost (xs ++ ys) ≡ cost xs + cost ys
cost-append [] ys = omega arith
cost-append (x ∷ xs) ys = omega (arith, cost-append xs ys)

weighs : (token : Token) → 1 ≤ weight token
weighs (Plain bytes) = omega arith
weighs (Quoted None) = omega arith
weighs (Quoted (Some text)) = omega arith
weighs Glued = omega arith

-- the texts are bytes
abbrev pub IsGood : Token → Type 0
IsGood (Quoted (Some text)) = Small text
IsGood token = Unit {0}

abbrev pub AreGood : List Token → Type 0
AreGood tokens = AllByRecursion IsGood tokens

good_parts : (xs ys : List Token) → AreGood (xs ++ ys) → AreGood xs × AreGood ys
good_parts [] ys h = (tt, h)
good_parts (x ∷ xs) ys h = let r = good_parts xs ys h.1 in ((h.0, r.0), r.1)

-- ## Words

at_most_is : (most : ℕ) (o : Option ℕ) (n : ℕ) → at_most most o ≡ Some n → n ≤ most
at_most_is most None n e = absurd cc
at_most_is most (Some k) n e = picked (leb k most) refl e
  where
    picked : (t : Bool) → leb k most ≡ t → cond t (Some k) None ≡ Some n → n ≤ most
    picked true is e = (let same : k ≡ n = cc in omega (arith, leb-true _ _ is, same))
    picked false is e = absurd cc

some_of : (o : Option ℕ) (n : ℕ) (kind : TextKind) → ok_or o kind ≡ Ok n → o ≡ Some n
some_of None n kind e = absurd cc
some_of (Some k) n kind e = cc

number_below : (most : ℕ) (token : Token) (n : ℕ) → number_in (number_up_to most) token ≡ Ok n → n ≤ most
number_below most (Plain bytes) n e = at_most_is most (numeral bytes) n (some_of (at_most most (numeral bytes)) n Number e)
number_below most (Quoted (Some text)) n e = absurd cc
number_below most (Quoted None) n e = absurd cc
number_below most Glued n e = absurd cc

power : (t : ValType) → 1 ≤ 2 ^ bit_width t
power I32 = omega arith
power I64 = omega arith

negated_below : (t : ValType) (n : ℕ) (b : Bool) → eqb n 0 ≡ b → cond b 0 (2 ^ bit_width t - n) < 2 ^ bit_width t
negated_below t n true is = omega (arith, power t)
negated_below t n false is = (let some = eqb-false n 0 is in omega (arith, power t))

negative_below : (t : ValType) (o : Option ℕ) (v : ℕ) → negative t o ≡ Some v → v < 2 ^ bit_width t
negative_below t None v e = absurd cc
negative_below t (Some n) v e = (let same : negated t n ≡ v = cc in subst (λ (x : ℕ). x < 2 ^ bit_width t) same (negated_below t n (eqb n 0) refl))

signed_below : (t : ValType) (b : ℕ) (bytes : List ℕ) (v : ℕ) (s : Bool) → cond s (negative t (at_most (2 ^ (bit_width t - 1)) (decimal bytes))) (at_most (2 ^ bit_width t - 1) (numeral (b ∷ bytes))) ≡ Some v → v < 2 ^ bit_width t
signed_below t b bytes v true e = negative_below t (at_most (2 ^ (bit_width t - 1)) (decimal bytes)) v e
signed_below t b bytes v false e = omega (arith, at_most_is (2 ^ bit_width t - 1) (numeral (b ∷ bytes)) v e, power t)

constant_bytes : (t : ValType) (bytes : List ℕ) (v : ℕ) → constant t bytes ≡ Some v → v < 2 ^ bit_width t
constant_bytes t [] v e = absurd cc
constant_bytes t (b ∷ bytes) v e = signed_below t b bytes v (eqb b 45) e

constant_below : (t : ValType) (token : Token) (v : ℕ) → number_in (constant t) token ≡ Ok v → v < 2 ^ bit_width t
constant_below t (Plain bytes) v e = constant_bytes t bytes v (some_of (constant t bytes) v Number e)
constant_below t (Quoted (Some text)) v e = absurd cc
constant_below t (Quoted None) v e = absurd cc
constant_below t Glued v e = absurd cc

kind_at : (a b c d : Bool) (k : ℕ) → cond a (Ok 0) (cond b (Ok 1) (cond c (Ok 2) (cond d (Ok 3) (Err Word)))) ≡ Ok k → k ≤ 3
kind_at true b c d k e = (let same : 0 ≡ k = cc in omega arith)
kind_at false true c d k e = (let same : 1 ≡ k = cc in omega arith)
kind_at false false true d k e = (let same : 2 ≡ k = cc in omega arith)
kind_at false false false true k e = (let same : 3 ≡ k = cc in omega arith)
kind_at false false false false k e = absurd cc

kind_few : (token : Token) (k : ℕ) → kind_in token ≡ Ok k → k ≤ 3
kind_few token k e = kind_at (is_word (codes "func") token) (is_word (codes "table") token) (is_word (codes "memory") token) (is_word (codes "global") token) k e

text_fits : (token : Token) (t : List ℕ) → IsGood token → text_in token ≡ Ok t → (length t ≤ weight token) × Small t
text_fits (Plain bytes) t h e = absurd cc
text_fits (Quoted None) t h e = absurd cc
text_fits Glued t h e = absurd cc
text_fits (Quoted (Some bytes)) t h e = (let same : bytes ≡ t = cc in subst (λ (x : List ℕ). (length x ≤ 1 + length bytes) × Small x) same (omega arith, h))

pub record SoundName (t : List ℕ) : Type 0 where
  pub utf8 : is_utf8 t ≡ true
  pub small : Small t

name_at : (bytes t : List ℕ) (b : Bool) → is_utf8 bytes ≡ b → cond b (Ok bytes) (Err Quote) ≡ Ok t → (bytes ≡ t) × (is_utf8 bytes ≡ true)
name_at bytes t true is e = (cc, is)
name_at bytes t false is e = absurd cc

name_fits : (token : Token) (t : List ℕ) → IsGood token → name_in token ≡ Ok t → SoundName t × (length t ≤ weight token)
name_fits (Plain bytes) t h e = absurd cc
name_fits (Quoted None) t h e = absurd cc
name_fits Glued t h e = absurd cc
name_fits (Quoted (Some bytes)) t h e =
    let n = name_at bytes t (is_utf8 bytes) refl e in
    subst (λ (x : List ℕ). SoundName x × (length x ≤ 1 + length bytes)) n.0 (record { utf8 = n.1; small = h }, omega arith)

-- a word that stands alone costs its weight, and is good among good ones
one_cost : {A : Type 0} (meaning : Token → Result A TextKind) (a : A) (words more : List Token) → (h : OneWord meaning a words more) → cost words ≡ weight h.word
one_cost meaning a words more h = ap cost h.written ∙ omega arith

one_good : {A : Type 0} (meaning : Token → Result A TextKind) (a : A) (words more : List Token) → (h : OneWord meaning a words more) → AreGood words → IsGood h.word
one_good meaning a words more h good = (subst AreGood h.written good).0

index_fits : (n : ℕ) (words more : List Token) → index.spells n words more → n < 2 ^ 32
unfolding number
index_fits n words more h = let le = number_below 4294967295 h.word n h.meant in omega arith

number_fits : (most n : ℕ) (words more : List Token) → (number most).spells n words more → n ≤ most
unfolding number
number_fits most n words more h = number_below most h.word n h.meant

constant_fits : (t : ValType) (v : ℕ) (words more : List Token) → (constant_word t).spells v words more → v < 2 ^ bit_width t
unfolding constant_word
constant_fits t v words more h = constant_below t h.word v h.meant

kind_fits : (k : ℕ) (words more : List Token) → kind.spells k words more → k ≤ 3
unfolding kind
kind_fits k words more h = kind_few h.word k h.meant

names_fit : (t : List ℕ) (words more : List Token) → name.spells t words more → AreGood words → SoundName t × (length t ≤ cost words)
unfolding name
names_fit t words more h good =
    let one = one_cost name_in t words more h in
    let r = name_fits h.word t (one_good name_in t words more h good) h.meant in
    (r.0, omega (arith, r.1))

texts_fit : (t : List ℕ) (words more : List Token) → text.spells t words more → AreGood words → (length t ≤ cost words) × Small t
unfolding text
texts_fit t words more h good =
    let one = one_cost text_in t words more h in
    let r = text_fits h.word t (one_good text_in t words more h good) h.meant in
    (omega (arith, r.0), r.1)

index_cost : (n : ℕ) (words more : List Token) → index.spells n words more → 1 ≤ cost words
unfolding number
index_cost n words more h = let one = one_cost (number_in (number_up_to 4294967295)) n words more h in omega (arith, weighs h.word)

type_cost : (t : ValType) (words more : List Token) → val_type.spells t words more → 1 ≤ cost words
unfolding val_type
type_cost t words more h = omega (arith, ap cost h.written, weighs h.word)

many_indices : (k : ℕ) (xs : List ℕ) (words more : List Token) → (many index k).spells xs words more → AreU32 xs × (length xs ≤ cost words)
unfolding many
many_indices zero xs words more h = subst (λ (x : List ℕ). AreU32 x × (length x ≤ cost words)) (sym h.1) (tt, omega arith)
many_indices (suc k) xs words more h =
    let r = h.back_spells in
    let rest = many_indices k r.first r.front (r.back ++ more) r.front_spells in
    let size : suc (length r.first) ≤ cost words = omega (arith, ap cost h.whole, cost-append h.front h.back, ap cost r.whole, cost-append r.front r.back, index_cost h.first h.front (h.back ++ more) h.front_spells, rest.1) in
    subst (λ (x : List ℕ). AreU32 x × (length x ≤ cost words)) (sym r.back_spells.1) ((index_fits h.first h.front (h.back ++ more) h.front_spells, rest.0), size)

many_types : (k : ℕ) (xs : List ValType) (words more : List Token) → (many val_type k).spells xs words more → (length xs ≡ k) × (length xs ≤ cost words)
unfolding many
many_types zero xs words more h = subst (λ (x : List ValType). (length x ≡ 0) × (length x ≤ cost words)) (sym h.1) (refl, omega arith)
many_types (suc k) xs words more h =
    let r = h.back_spells in
    let rest = many_types k r.first r.front (r.back ++ more) r.front_spells in
    let size : suc (length r.first) ≤ cost words = omega (arith, ap cost h.whole, cost-append h.front h.back, ap cost r.whole, cost-append r.front r.back, type_cost h.first h.front (h.back ++ more) h.front_spells, rest.1) in
    subst (λ (x : List ValType). (length x ≡ suc k) × (length x ≤ cost words)) (sym r.back_spells.1) (ap suc rest.0, size)

maybe_at : (b : Bool) (o : Option ℕ) (words more : List Token) → (choose b (give None) (index >>= λ a. give (Some a))).spells o words more → IfSome o (λ n. n < 2 ^ 32)
maybe_at true o words more h = subst (λ (x : Option ℕ). IfSome x (λ n. n < 2 ^ 32)) (sym h.1) tt
maybe_at false o words more h = subst (λ (x : Option ℕ). IfSome x (λ n. n < 2 ^ 32)) (sym h.back_spells.1) (index_fits h.first h.front (h.back ++ more) h.front_spells)

maybe_fits : (o : Option ℕ) (words more : List Token) → (maybe index).spells o words more → IfSome o (λ n. n < 2 ^ 32)
unfolding maybe
maybe_fits o words more h = maybe_at (eqb h.first 0) o h.back more h.back_spells

-- ## Statements

abbrev pub IsFit : Statement → ℕ → Type 0
IsFit (statements.Signature t) c = (length t.params ≤ 1000) × (length t.params ≤ c)
IsFit (statements.Import i) c = SoundName i.«module» × SoundName i.name × (i.ftype < 2 ^ 32) × (length i.«module» + length i.name ≤ c)
IsFit (statements.Func t locals) c = (t < 2 ^ 32) × (length locals ≤ 10000) × (length locals ≤ c)
IsFit statements.EndFunc c = Unit {0}
IsFit (statements.Table l) c = (l.min ≤ 65536) × LimitsInRange l
IsFit (statements.Memory l) c = (l.min ≤ 1024) × LimitsInRange l
IsFit (statements.Global g) c = (v : ℕ) × (g ≡ record { vtype = g.vtype; mutable = g.mutable; init = constant_code g.vtype v }) × (v < 2 ^ bit_width g.vtype)
IsFit (statements.Export x) c = SoundName x.name × (x.kind ≤ 3) × (x.index < 2 ^ 32) × (length x.name ≤ c)
IsFit (statements.Start f) c = f < 2 ^ 32
IsFit (statements.Element e) c = (v : ℕ) × (e ≡ record { offset = constant_code I32 v; funcs = e.funcs }) × (v < 2 ^ 32) × AreU32 e.funcs × (length e.funcs ≤ c)
IsFit (statements.Segment s) c = (v : ℕ) × (s ≡ record { offset = constant_code I32 v; bytes = s.bytes }) × (v < 2 ^ 32) × (length s.bytes ≤ c) × Small s.bytes
IsFit (statements.Instr i) c = IsSpellable i × InstrInRange i × (label_count i ≤ c)

-- ## Directives

signature_fits : (s : Statement) (words more : List Token) (c : ℕ) → signature.spells s words more → cost words ≤ c → IsFit s c
unfolding signature
signature_fits s words more c h le =
    let a = h.back_spells in
    let d = a.back_spells.back_spells.back_spells in
    let t = many_types h.first a.first a.front (a.back ++ more) a.front_spells in
    let few : h.first ≤ 1000 = leb-true h.first 1000 d.2 in
    subst (λ (x : Statement). IsFit x c) (sym d.1) (omega (arith, t.0), omega (arith, t.1, ap cost h.whole, cost-append h.front h.back, ap cost a.whole, cost-append a.front a.back))

import_fits : (s : Statement) (words more : List Token) (c : ℕ) → import_.spells s words more → AreGood words → cost words ≤ c → IsFit s c
unfolding import_
import_fits s words more c h good le =
    let a = h.back_spells in
    let b = a.back_spells in
    let g = good_parts h.front h.back (subst AreGood h.whole good) in
    let k = good_parts a.front a.back (subst AreGood a.whole g.1) in
    let size : cost h.front + cost a.front ≤ c = omega (arith, ap cost h.whole, cost-append h.front h.back, ap cost a.whole, cost-append a.front a.back) in
    let m = names_fit h.first h.front (h.back ++ more) h.front_spells g.0 in
    let n = names_fit a.first a.front (a.back ++ more) a.front_spells k.0 in
    subst (λ (x : Statement). IsFit x c) (sym b.back_spells.1) (m.0, n.0, index_fits b.first b.front (b.back ++ more) b.front_spells, omega (arith, m.1, n.1))

func_fits : (s : Statement) (words more : List Token) (c : ℕ) → func.spells s words more → cost words ≤ c → IsFit s c
unfolding func
func_fits s words more c h le =
    let a = h.back_spells in
    let d = a.back_spells in
    let q = a.front_spells in
    let t = many_types q.first a.first q.back (a.back ++ more) q.back_spells in
    let few : length a.first ≤ 10000 = leb-true (length a.first) 10000 d.2 in
    subst (λ (x : Statement). IsFit x c) (sym d.1)
    (index_fits h.first h.front (h.back ++ more) h.front_spells, few, omega (arith, t.1, ap cost h.whole, cost-append h.front h.back, ap cost a.whole, cost-append a.front a.back, ap cost q.whole, cost-append q.front q.back))

limits_fit : (least : ℕ) (make : Limits → Statement) (s : Statement) (words more : List Token) (c : ℕ) → (limits least make).spells s words more → ((l : Limits) → l.min ≤ least → LimitsInRange l → IsFit (make l) c) → IsFit s c
unfolding limits
limits_fit least make s words more c h fits =
    let a = h.back_spells in
    subst (λ (x : Statement). IsFit x c) (sym a.back_spells.1) (fits (record { min = h.first; max = a.first }) (number_fits least h.first h.front (h.back ++ more) h.front_spells) (maybe_fits a.first a.front (a.back ++ more) a.front_spells))

global_fits : (s : Statement) (words more : List Token) (c : ℕ) → global.spells s words more → IsFit s c
unfolding global
global_fits s words more c h =
    let b = h.back_spells.back_spells in
    subst (λ (x : Statement). IsFit x c) (sym b.back_spells.1) (b.first, refl, constant_fits h.first b.first b.front (b.back ++ more) b.front_spells)

export_fits : (s : Statement) (words more : List Token) (c : ℕ) → export.spells s words more → AreGood words → cost words ≤ c → IsFit s c
unfolding export
export_fits s words more c h good le =
    let a = h.back_spells in
    let b = a.back_spells in
    let g = good_parts h.front h.back (subst AreGood h.whole good) in
    let size : cost h.front ≤ c = omega (arith, ap cost h.whole, cost-append h.front h.back) in
    let n = names_fit h.first h.front (h.back ++ more) h.front_spells g.0 in
    subst (λ (x : Statement). IsFit x c) (sym b.back_spells.1) (n.0, kind_fits a.first a.front (a.back ++ more) a.front_spells, index_fits b.first b.front (b.back ++ more) b.front_spells, omega (arith, n.1, size))

start_fits : (s : Statement) (words more : List Token) (c : ℕ) → start.spells s words more → IsFit s c
unfolding start
start_fits s words more c h = subst (λ (x : Statement). IsFit x c) (sym h.back_spells.1) (index_fits h.first h.front (h.back ++ more) h.front_spells)

element_fits : (s : Statement) (words more : List Token) (c : ℕ) → element.spells s words more → cost words ≤ c → IsFit s c
unfolding element
element_fits s words more c h le =
    let a = h.back_spells in
    let q = a.front_spells in
    let t = many_indices q.first a.first q.back (a.back ++ more) q.back_spells in
    subst (λ (x : Statement). IsFit x c) (sym a.back_spells.1)
    (h.first, refl, constant_fits I32 h.first h.front (h.back ++ more) h.front_spells, t.0, omega (arith, t.1, ap cost h.whole, cost-append h.front h.back, ap cost a.whole, cost-append a.front a.back, ap cost q.whole, cost-append q.front q.back))

segment_fits : (s : Statement) (words more : List Token) (c : ℕ) → segment.spells s words more → AreGood words → cost words ≤ c → IsFit s c
unfolding segment
segment_fits s words more c h good le =
    let a = h.back_spells in
    let g = good_parts h.front h.back (subst AreGood h.whole good) in
    let k = good_parts a.front a.back (subst AreGood a.whole g.1) in
    let t = texts_fit a.first a.front (a.back ++ more) a.front_spells k.0 in
    subst (λ (x : Statement). IsFit x c) (sym a.back_spells.1)
    (h.first, refl, constant_fits I32 h.first h.front (h.back ++ more) h.front_spells, omega (arith, t.0, ap cost h.whole, cost-append h.front h.back, ap cost a.whole, cost-append a.front a.back), t.1)

-- ## Instructions

abbrev Fits : Instr → ℕ → Type 0
Fits i c = IsSpellable i × InstrInRange i × (label_count i ≤ c)

immediates_fit : (i j : Instr) (words more : List Token) (c : ℕ) → IsSpellable i → (immediates i).spells j words more → cost words ≤ c → Fits j c
unfolding immediates
immediates_fit (instr.Block t) j words more c good h le = subst (λ (x : Instr). Fits x c) (sym h.back_spells.1) (tt, tt, omega arith)
immediates_fit (instr.Loop t) j words more c good h le = subst (λ (x : Instr). Fits x c) (sym h.back_spells.1) (tt, tt, omega arith)
immediates_fit (instr.If t) j words more c good h le = subst (λ (x : Instr). Fits x c) (sym h.back_spells.1) (tt, tt, omega arith)
immediates_fit (instr.Br x) j words more c good h le = subst (λ (x : Instr). Fits x c) (sym h.back_spells.1) (tt, index_fits h.first h.front (h.back ++ more) h.front_spells, omega arith)
immediates_fit (instr.BrIf x) j words more c good h le = subst (λ (x : Instr). Fits x c) (sym h.back_spells.1) (tt, index_fits h.first h.front (h.back ++ more) h.front_spells, omega arith)
immediates_fit (instr.Call x) j words more c good h le = subst (λ (x : Instr). Fits x c) (sym h.back_spells.1) (tt, index_fits h.first h.front (h.back ++ more) h.front_spells, omega arith)
immediates_fit (instr.CallIndirect x) j words more c good h le = subst (λ (x : Instr). Fits x c) (sym h.back_spells.1) (tt, index_fits h.first h.front (h.back ++ more) h.front_spells, omega arith)
immediates_fit (instr.LocalGet x) j words more c good h le = subst (λ (x : Instr). Fits x c) (sym h.back_spells.1) (tt, index_fits h.first h.front (h.back ++ more) h.front_spells, omega arith)
immediates_fit (instr.LocalSet x) j words more c good h le = subst (λ (x : Instr). Fits x c) (sym h.back_spells.1) (tt, index_fits h.first h.front (h.back ++ more) h.front_spells, omega arith)
immediates_fit (instr.LocalTee x) j words more c good h le = subst (λ (x : Instr). Fits x c) (sym h.back_spells.1) (tt, index_fits h.first h.front (h.back ++ more) h.front_spells, omega arith)
immediates_fit (instr.GlobalGet x) j words more c good h le = subst (λ (x : Instr). Fits x c) (sym h.back_spells.1) (tt, index_fits h.first h.front (h.back ++ more) h.front_spells, omega arith)
immediates_fit (instr.GlobalSet x) j words more c good h le = subst (λ (x : Instr). Fits x c) (sym h.back_spells.1) (tt, index_fits h.first h.front (h.back ++ more) h.front_spells, omega arith)
immediates_fit (instr.BrTable ls l) j words more c good h le =
    let a = h.back_spells in
    let b = a.back_spells in
    let t = many_indices (h.first - 1) a.first a.front (a.back ++ more) a.front_spells in
    let size : length a.first ≤ c = omega (arith, t.1, ap cost h.whole, cost-append h.front h.back, ap cost a.whole, cost-append a.front a.back) in
    subst (λ (x : Instr). Fits x c) (sym b.back_spells.1) (tt, (t.0, index_fits b.first b.front (b.back ++ more) b.front_spells), size)
immediates_fit (instr.Load t n signed align offset) j words more c good h le =
    let a = h.back_spells in
    subst (λ (x : Instr). Fits x c) (sym a.back_spells.1) (good, (index_fits h.first h.front (h.back ++ more) h.front_spells, index_fits a.first a.front (a.back ++ more) a.front_spells), omega arith)
immediates_fit (instr.Store t n align offset) j words more c good h le =
    let a = h.back_spells in
    subst (λ (x : Instr). Fits x c) (sym a.back_spells.1) (good, (index_fits h.first h.front (h.back ++ more) h.front_spells, index_fits a.first a.front (a.back ++ more) a.front_spells), omega arith)
immediates_fit (instr.Const t v) j words more c good h le = subst (λ (x : Instr). Fits x c) (sym h.back_spells.1) (constant_fits t h.first h.front (h.back ++ more) h.front_spells, tt, omega arith)
immediates_fit instr.Unreachable j words more c good h le = subst (λ (x : Instr). Fits x c) (sym h.1) (tt, tt, omega arith)
immediates_fit instr.Nop j words more c good h le = subst (λ (x : Instr). Fits x c) (sym h.1) (tt, tt, omega arith)
immediates_fit instr.Else j words more c good h le = subst (λ (x : Instr). Fits x c) (sym h.1) (tt, tt, omega arith)
immediates_fit instr.End j words more c good h le = subst (λ (x : Instr). Fits x c) (sym h.1) (tt, tt, omega arith)
immediates_fit instr.Return j words more c good h le = subst (λ (x : Instr). Fits x c) (sym h.1) (tt, tt, omega arith)
immediates_fit instr.Drop j words more c good h le = subst (λ (x : Instr). Fits x c) (sym h.1) (tt, tt, omega arith)
immediates_fit instr.Select j words more c good h le = subst (λ (x : Instr). Fits x c) (sym h.1) (tt, tt, omega arith)
immediates_fit instr.MemorySize j words more c good h le = subst (λ (x : Instr). Fits x c) (sym h.1) (tt, tt, omega arith)
immediates_fit instr.MemoryGrow j words more c good h le = subst (λ (x : Instr). Fits x c) (sym h.1) (tt, tt, omega arith)
immediates_fit (instr.Un op) j words more c good h le = subst (λ (x : Instr). Fits x c) (sym h.1) (tt, tt, omega arith)
immediates_fit (instr.Test op) j words more c good h le = subst (λ (x : Instr). Fits x c) (sym h.1) (tt, tt, omega arith)
immediates_fit (instr.Rel r) j words more c good h le = subst (λ (x : Instr). Fits x c) (sym h.1) (tt, tt, omega arith)
immediates_fit (instr.Bin r) j words more c good h le = subst (λ (x : Instr). Fits x c) (sym h.1) (tt, tt, omega arith)

-- ## Lines

behind_fits : (head : Head) (s : Statement) (words more : List Token) (c : ℕ) → IsHead head → (behind head).spells s words more → AreGood words → cost words ≤ c → IsFit s c
unfolding behind instruction
behind_fits heads.Signature s words more c head h good le = signature_fits s words more c h le
behind_fits heads.Import s words more c head h good le = import_fits s words more c h good le
behind_fits heads.Func s words more c head h good le = func_fits s words more c h le
behind_fits heads.EndFunc s words more c head h good le = subst (λ (x : Statement). IsFit x c) (sym h.1) tt
behind_fits heads.Table s words more c head h good le = limits_fit 65536 statements.Table s words more c h (λ l a b. (a, b))
behind_fits heads.Memory s words more c head h good le = limits_fit 1024 statements.Memory s words more c h (λ l a b. (a, b))
behind_fits heads.Global s words more c head h good le = global_fits s words more c h
behind_fits heads.Export s words more c head h good le = export_fits s words more c h good le
behind_fits heads.Start s words more c head h good le = start_fits s words more c h
behind_fits heads.Element s words more c head h good le = element_fits s words more c h le
behind_fits heads.Segment s words more c head h good le = segment_fits s words more c h good le
behind_fits (heads.Instr i) s words more c head h good le =
    subst (λ (x : Statement). IsFit x c) (sym h.back_spells.1)
    (immediates_fit i h.first h.front (h.back ++ more) c head h.front_spells (omega (arith, ap cost h.whole, cost-append h.front h.back)))

pub spelled_fits : (s : Statement) (words : List Token) → Spells s words → AreGood words → IsFit s (cost words)
unfolding statement last
spelled_fits s words h good =
    let f = h.form in
    let rest : AreGood h.rest = (subst AreGood h.written good).1 in
    let front = good_parts f.front f.back (subst AreGood f.whole rest) in
    let size : cost f.front ≤ cost words = omega (arith, ap cost h.written, ap cost f.whole, cost-append f.front f.back) in
    subst (λ (x : Statement). IsFit x (cost words)) (sym f.back_spells.back_spells.1) (behind_fits h.head f.first f.front (f.back ++ []) (cost words) h.good f.front_spells front.0 size)
