-- What stands first where a number is spelled: its last group, or a group and the higher ones.
use Rattle.std.proofs.Common.{◌≡◌, ℕ, suc, ◌+◌, ◌*◌, ◌-◌, ◌%◌, ◌≤◌, ◌<◌, Bool, true, false, ltb, List, [], ◌∷◌, ◌++◌, Option, refl, sym, ap, subst, ◌∙◌, ◌⊎◌, inl, inr}
use Rattle.std.proofs.lemmas.Bool.{ltb-true, ltb-false, lt-ltb, le-ltb}
use Rattle.std.proofs.lemmas.List.{append-nil}
use Rattle.std.specs.Option.{option_map}
use Rattle.mv_syntax.specs.Forms.{give, ◌>>=◌, byte, choose}
use Rattle.mv_syntax.specs.Numbers.{groups, last_group}

-- the last group, or a group and the higher ones
pub record IsLast (signed : Bool) (w : ℕ) (text : List ℕ) (o : Option ℕ) : Type 0 where
  pub byte : ℕ
  pub below : byte < 128
  pub text_is : text ≡ byte ∷ []
  pub value : o ≡ last_group signed w byte

pub record IsMore (signed : Bool) (n w : ℕ) (text : List ℕ) (o : Option ℕ) : Type 0 where
  pub byte : ℕ
  pub above : 128 ≤ byte
  pub rest : List ℕ
  pub text_is : text ≡ byte ∷ rest
  pub high : Option ℕ
  pub spelled : (groups signed n (w - 7)).spells rest high
  pub value : o ≡ option_map (λ h. byte % 128 + 128 * h) high

abbrev Tail : Bool → Bool → ℕ → ℕ → ℕ → List ℕ → Option ℕ → Type 0
Tail t signed n w b text o = (choose t (give (last_group signed w b)) (groups signed n (w - 7) >>= λ high. give (option_map (λ h. b % 128 + 128 * h) high))).spells text o

tail_parts : (t signed : Bool) (n w b : ℕ) (front back text : List ℕ) (o : Option ℕ) → ltb b 128 ≡ t → front ≡ b ∷ [] → text ≡ front ++ back → Tail t signed n w b back o → IsLast signed w text o ⊎ IsMore signed n w text o
tail_parts true signed n w b front back text o test one whole s =
    let text-is : text ≡ b ∷ [] = whole ∙ ap (λ (x : List ℕ). x ++ back) one ∙ ap (λ (x : List ℕ). b ∷ x) s.0 in
    inl (record { byte = b; below = ltb-true _ _ test; text_is = text-is; value = s.1 })
tail_parts false signed n w b front back text o test one whole s =
    let back-is : back ≡ s.front = s.whole ∙ ap (λ (x : List ℕ). s.front ++ x) s.back_spells.0 ∙ append-nil s.front in
    let text-is : text ≡ b ∷ s.front = whole ∙ ap (λ (x : List ℕ). x ++ back) one ∙ ap (λ (x : List ℕ). b ∷ x) back-is in
    inr (record { byte = b; above = ltb-false _ _ test; rest = s.front; text_is = text-is; high = s.first; spelled = s.front_spells; value = s.back_spells.1 })

pub groups_parts : (signed : Bool) (n w : ℕ) (text : List ℕ) (o : Option ℕ) → (groups signed (suc n) w).spells text o → IsLast signed w text o ⊎ IsMore signed n w text o
unfolding groups byte
groups_parts signed n w text o s = tail_parts (ltb s.first 128) signed n w s.first s.front s.back text o refl s.front_spells s.whole s.back_spells

pub groups_last : (signed : Bool) (n w b : ℕ) → b < 128 → (groups signed (suc n) w).spells (b ∷ []) (last_group signed w b)
unfolding groups byte
groups_last signed n w b lt = record {
  first = b;
  front = b ∷ [];
  back = [];
  whole = refl;
  front_spells = refl;
  back_spells = (let made : Tail true signed n w b [] (last_group signed w b) = (refl, refl) in
      subst (λ (t : Bool). Tail t signed n w b [] (last_group signed w b)) (sym (lt-ltb b 128 lt)) made);
}

pub groups_more : (signed : Bool) (n w b : ℕ) (rest : List ℕ) (high : Option ℕ) → 128 ≤ b → (groups signed n (w - 7)).spells rest high → (groups signed (suc n) w).spells (b ∷ rest) (option_map (λ h. b % 128 + 128 * h) high)
unfolding groups byte
groups_more signed n w b rest high le s = record {
  first = b;
  front = b ∷ [];
  back = rest;
  whole = refl;
  front_spells = refl;
  back_spells = (let made : Tail false signed n w b rest (option_map (λ h. b % 128 + 128 * h) high) = record { first = high; front = rest; back = []; whole = sym (append-nil rest); front_spells = s; back_spells = (refl, refl) } in
      subst (λ (t : Bool). Tail t signed n w b rest (option_map (λ h. b % 128 + 128 * h) high)) (sym (le-ltb b 128 le)) made);
}
