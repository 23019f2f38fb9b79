-- The instruction that is looked for under a name has this name.
use Rattle.std.proofs.Common.{◌≡◌, ℕ, Bool, true, false, cond, List, [], ◌∷◌, ◌++◌, take, drop, Option, Some, None, ◌⊎◌, inl, inr, refl, sym, ap, subst, ◌∙◌, arith}
use Rattle.std.specs.Option.{option_map}
use Rattle.std.specs.Str.{bytes_eq}
use Rattle.std.proofs.lemmas.Slice.Eq.{bytes_eq-Decides}
use Rattle.std.proofs.lemmas.List.{take-append-drop}
use Rattle.mv_syntax.specs.declared.ops.ValType.{ValType}
use Rattle.mv_syntax.specs.declared.ops.ValType.TheVariants.{I32, I64}
use Rattle.mv_syntax.specs.declared.instr.Instr.{Instr}
use Rattle.mv_syntax.specs.declared.ops.Compare.{Compare}
use Rattle.mv_syntax.specs.declared.ops.Binary.{Binary}
use Rattle.mv_syntax.specs.Kept.{IsSpellable}
use Rattle.mv_statements.specs.declared.head.Head.{Head}
use Rattle.mv_statements.specs.declared.head.Head.TheVariants as heads
use Rattle.mv_statements.specs.Mnemonics.{prefix, compare_name, binary_name, instr_name, lookup, compare_names, binary_names, unary_names, access_names, plain_names, or_else, binary_of, compare_of, typed_named, instr_named}
use Rattle.mv_statements.specs.Statements.{IsHead, head_word, head_named, directive_words}

-- ## Tables

abbrev pub AllRows : {A : Type 0} → (List ℕ → A → Type 0) → List (List ℕ × A) → Type 0
AllRows P [] = Unit {0}
AllRows P (row ∷ rows) = P row.0 row.1 × AllRows P rows

lookup_at : {A : Type 0} (P : List ℕ → A → Type 0) (word name : List ℕ) (v x : A) (rest : Option A) (t : Bool) → bytes_eq word name ≡ t → P name v → (rest ≡ Some x → P word x) → cond t (Some v) rest ≡ Some x → P word x
lookup_at {A} P word name v x rest true is h more e =
    let same : v ≡ x = cc in
    let named : name ≡ word = sym ((bytes_eq-Decides word name).0 is) in
    subst (λ (y : A). P word y) same (subst (λ (w : List ℕ). P w v) named h)
lookup_at P word name v x rest false is h more e = more e

pub lookup_is : {A : Type 0} (P : List ℕ → A → Type 0) (word : List ℕ) (rows : List (List ℕ × A)) (x : A) → AllRows P rows → lookup word rows ≡ Some x → P word x
lookup_is P word [] x h e = absurd cc
lookup_is P word (row ∷ rows) x h e = lookup_at P word row.0 row.1 x (lookup word rows) (bytes_eq word row.0) refl h.0 (λ (more : lookup word rows ≡ Some x). lookup_is P word rows x h.1 more) e

or_is : {A : Type 0} (a b : Option A) (x : A) → or_else a b ≡ Some x → (a ≡ Some x) ⊎ (b ≡ Some x)
or_is (Some a) b x e = inl e
or_is None b x e = inr e

mapped : {A B : Type 0} (f : A → B) (o : Option A) (x : B) → option_map f o ≡ Some x → (a : A) × (o ≡ Some a) × (f a ≡ x)
mapped f None x e = absurd cc
mapped f (Some a) x e = (a, refl, cc)

-- ## Instructions

-- behind a prefix, the word is the rest of the name
abbrev pub IsNamed : List ℕ → List ℕ → Instr → Type 0
IsNamed front word i = (instr_name i ≡ front ++ word) × IsSpellable i

abbrev IsCompare : List ℕ → Compare → Type 0
IsCompare word op = compare_name op ≡ word

abbrev IsBinary : List ℕ → Binary → Type 0
IsBinary word op = binary_name op ≡ word

compares : AllRows IsCompare compare_names
compares = (refl, (refl, (refl, (refl, (refl, (refl, (refl, (refl, (refl, (refl, tt))))))))))

binaries : AllRows IsBinary binary_names
binaries = (refl, (refl, (refl, (refl, (refl, (refl, (refl, (refl, (refl, (refl, (refl, (refl, (refl, (refl, (refl, tt)))))))))))))))

unaries : (t : ValType) → AllRows (IsNamed (prefix t)) (unary_names t)
unaries I32 = (
  (refl, tt),
  (
    (refl, tt),
    (
      (refl, tt),
      (
        (refl, tt),
        (
          (refl, tt),
          tt,
        ),
      ),
    ),
  ),
)
unaries I64 = (
  (refl, tt),
  (
    (refl, tt),
    (
      (refl, tt),
      (
        (refl, tt),
        (
          (refl, tt),
          (
            (refl, tt),
            tt,
          ),
        ),
      ),
    ),
  ),
)

accesses : (t : ValType) → AllRows (IsNamed (prefix t)) (access_names t)
accesses I32 = (
  (refl, omega arith),
  (
    (refl, record { width = inr (inr refl); whole = λ e. refl }),
    (
      (refl, record { width = inl refl; whole = λ e. absurd (omega arith) }),
      (
        (refl, record { width = inl refl; whole = λ e. refl }),
        (
          (refl, record { width = inr (inl refl); whole = λ e. absurd (omega arith) }),
          (
            (refl, record { width = inr (inl refl); whole = λ e. refl }),
            (
              (refl, inr (inr refl)),
              (
                (refl, inl refl),
                (
                  (refl, inr (inl refl)),
                  tt,
                ),
              ),
            ),
          ),
        ),
      ),
    ),
  ),
)
accesses I64 = (
  (refl, omega arith),
  (
    (refl, record { width = inr (inr (inr refl)); whole = λ e. refl }),
    (
      (refl, record { width = inl refl; whole = λ e. absurd (omega arith) }),
      (
        (refl, record { width = inl refl; whole = λ e. refl }),
        (
          (refl, record { width = inr (inl refl); whole = λ e. absurd (omega arith) }),
          (
            (refl, record { width = inr (inl refl); whole = λ e. refl }),
            (
              (refl, record { width = inr (inr (inl refl)); whole = λ e. absurd (omega arith) }),
              (
                (refl, record { width = inr (inr (inl refl)); whole = λ e. refl }),
                (
                  (refl, inr (inr (inr refl))),
                  (
                    (refl, inl refl),
                    (
                      (refl, inr (inl refl)),
                      (
                        (refl, inr (inr (inl refl))),
                        tt,
                      ),
                    ),
                  ),
                ),
              ),
            ),
          ),
        ),
      ),
    ),
  ),
)

plains : AllRows (IsNamed []) plain_names
plains = (
  (refl, tt),
  (
    (refl, tt),
    (
      (refl, tt),
      (
        (refl, tt),
        (
          (refl, tt),
          (
            (refl, tt),
            (
              (refl, tt),
              (
                (refl, tt),
                (
                  (refl, tt),
                  (
                    (refl, tt),
                    (
                      (refl, tt),
                      (
                        (refl, tt),
                        (
                          (refl, tt),
                          (
                            (refl, tt),
                            (
                              (refl, tt),
                              (
                                (refl, tt),
                                (
                                  (refl, tt),
                                  (
                                    (refl, tt),
                                    (
                                      (refl, tt),
                                      (
                                        (refl, tt),
                                        (
                                          (refl, tt),
                                          (
                                            (refl, tt),
                                            tt,
                                          ),
                                        ),
                                      ),
                                    ),
                                  ),
                                ),
                              ),
                            ),
                          ),
                        ),
                      ),
                    ),
                  ),
                ),
              ),
            ),
          ),
        ),
      ),
    ),
  ),
)

binary_is : (t : ValType) (word : List ℕ) (i : Instr) → option_map (binary_of t) (lookup word binary_names) ≡ Some i → IsNamed (prefix t) word i
binary_is t word i e =
    let m = mapped (binary_of t) (lookup word binary_names) i e in
    let named : binary_name m.0 ≡ word = lookup_is IsBinary word binary_names m.0 binaries m.1 in
    subst (λ (x : Instr). IsNamed (prefix t) word x) m.2 (ap (λ (w : List ℕ). prefix t ++ w) named, tt)

compare_is : (t : ValType) (word : List ℕ) (i : Instr) → option_map (compare_of t) (lookup word compare_names) ≡ Some i → IsNamed (prefix t) word i
compare_is t word i e =
    let m = mapped (compare_of t) (lookup word compare_names) i e in
    let named : compare_name m.0 ≡ word = lookup_is IsCompare word compare_names m.0 compares m.1 in
    subst (λ (x : Instr). IsNamed (prefix t) word x) m.2 (ap (λ (w : List ℕ). prefix t ++ w) named, tt)

typed_is : (t : ValType) (word : List ℕ) (i : Instr) → typed_named t word ≡ Some i → IsNamed (prefix t) word i
typed_is t word i e = elim (or_is (lookup word (access_names t)) _ i e) [
  | inl a ↦ lookup_is (IsNamed (prefix t)) word (access_names t) i (accesses t) a
  | inr b ↦ elim (or_is (lookup word (unary_names t)) _ i b) [
    | inl a ↦ lookup_is (IsNamed (prefix t)) word (unary_names t) i (unaries t) a
    | inr d ↦ elim (or_is (option_map (binary_of t) (lookup word binary_names)) (option_map (compare_of t) (lookup word compare_names)) i d) [
      | inl a ↦ binary_is t word i a
      | inr a ↦ compare_is t word i a
    ]
  ]
]

whole_is : (t : ValType) (word : List ℕ) (i : Instr) → bytes_eq (take 4 word) (prefix t) ≡ true → IsNamed (prefix t) (drop 4 word) i → IsNamed [] word i
whole_is t word i same h =
    let front : take 4 word ≡ prefix t = (bytes_eq-Decides (take 4 word) (prefix t)).0 same in
    (h.0 ∙ ap (λ (w : List ℕ). w ++ drop 4 word) (sym front) ∙ take-append-drop 4 word, h.1)

instr_at : (word : List ℕ) (i : Instr) (a b : Bool) → bytes_eq (take 4 word) (prefix I32) ≡ a → bytes_eq (take 4 word) (prefix I64) ≡ b
    → cond a (typed_named I32 (drop 4 word)) (cond b (typed_named I64 (drop 4 word)) (lookup word plain_names)) ≡ Some i → IsNamed [] word i
instr_at word i true b p q e = whole_is I32 word i p (typed_is I32 (drop 4 word) i e)
instr_at word i false true p q e = whole_is I64 word i q (typed_is I64 (drop 4 word) i e)
instr_at word i false false p q e = lookup_is (IsNamed []) word plain_names i plains e

pub instr_is : (word : List ℕ) (i : Instr) → instr_named word ≡ Some i → IsNamed [] word i
instr_is word i e = instr_at word i (bytes_eq (take 4 word) (prefix I32)) (bytes_eq (take 4 word) (prefix I64)) refl refl e

-- ## Heads

abbrev HeadIs : List ℕ → Head → Type 0
HeadIs word head = (head_word head ≡ word) × IsHead head

directives : AllRows HeadIs directive_words
directives = ((refl, tt), ((refl, tt), ((refl, tt), ((refl, tt), ((refl, tt), ((refl, tt), ((refl, tt), ((refl, tt), ((refl, tt), ((refl, tt), ((refl, tt), tt)))))))))))

pub head_is : (word : List ℕ) (head : Head) → head_named word ≡ Some head → (head_word head ≡ word) × IsHead head
head_is word head e = elim (or_is (lookup word directive_words) (option_map heads.Instr (instr_named word)) head e) [
  | inl a ↦ lookup_is HeadIs word directive_words head directives a
  | inr b ↦ (let m = mapped heads.Instr (instr_named word) head b in subst (λ (h : Head). HeadIs word h) m.2 (instr_is word m.0 m.1))
]
