-- Laws of rewriting, for any rules that are steady: the result of a list is a front of that of each longer list.
use Rattle.std.specs.Prelude.{◌≡◌, ℕ, zero, suc, ◌-◌, ◌<◌, ◌≤◌, Bool, true, false, ◌&&◌, List, [], ◌∷◌, ◌++◌, length, take, drop, Option, Some, None, refl}
use Rattle.std.proofs.Common.{sym, ◌∙◌, ap, subst, arith, append_assoc}
use Rattle.std.proofs.lemmas.List.{drop-append-le, take-append-drop}
use Rattle.std.proofs.lemmas.List.Concat.{flat_map-append}
use Rattle.mv_rewrite.specs.Deciding.{first_of_two, chosen, decision, given_by, groups_after, groups, joined, Decides, BeginsWith}

-- What is asked of a rule for the laws below: what holds of each rule of a file.
pub record IsSteady {R I : Type 0} (front : R → List I → Option (List I × ℕ)) (could : R → List I → Bool) (r : R) : Type 0 where
  -- a match takes at least one item, and none that isn't there
  pub takes : (l made : List I) (n : ℕ) → front r l ≡ Some (made, n) → (0 < n) × (n ≤ length l)
  -- a match stays with more items behind
  pub stays : (l m made : List I) (n : ℕ) → front r l ≡ Some (made, n) → front r (l ++ m) ≡ Some (made, n)
  -- what can't match can't with more items behind
  pub fails : (l m : List I) → front r l ≡ None → could r l ≡ false → (front r (l ++ m) ≡ None) × (could r (l ++ m) ≡ false)
  -- what could match lacks an item of at most eight
  pub short : (l : List I) → could r l ≡ true → length l < 8

abbrev pub AreSteady : {R I : Type 0} → (R → List I → Option (List I × ℕ)) → (R → List I → Bool) → List R → Type 0
AreSteady front could [] = Unit {0}
AreSteady front could (r ∷ rules) = IsSteady front could r × AreSteady front could rules

-- what a rule decides or leaves may, and then the rules behind it
stays_at : {R I : Type 0} (front : R → List I → Option (List I × ℕ)) (could : R → List I → Bool)
    (r : R) (steady : IsSteady front could r) (rules : List R) (x : I) (l m : List I) (more : Bool) (t : List I × ℕ) (o : Option (List I × ℕ)) (b : Bool)
    → front r (x ∷ l) ≡ o → could r (x ∷ l) ≡ b
    → (chosen front could true rules x l ≡ Some t → chosen front could more rules x (l ++ m) ≡ Some t)
    → first_of_two o (b && true) (chosen front could true rules x l) ≡ Some t
    → first_of_two (front r (x ∷ (l ++ m))) (could r (x ∷ (l ++ m)) && more) (chosen front could more rules x (l ++ m)) ≡ Some t
stays_at front could r steady rules x l m more t (Some u) b found may others h =
    let e : front r (x ∷ (l ++ m)) ≡ Some u = steady.stays (x ∷ l) m u.0 u.1 found in rw e h
stays_at front could r steady rules x l m more t None true found may others h = cc
stays_at front could r steady rules x l m more t None false found may others h =
    let e = steady.fails (x ∷ l) m found may in
    let f : front r (x ∷ (l ++ m)) ≡ None = e.0 in
    let g : could r (x ∷ (l ++ m)) ≡ false = e.1 in
    rw (f, g) (others h)

-- a decision stays with more items behind, whether or not still more may come
pub chosen_stays : {R I : Type 0} (front : R → List I → Option (List I × ℕ)) (could : R → List I → Bool)
    (rules : List R) (steady : AreSteady front could rules) (x : I) (l m : List I) (more : Bool) (t : List I × ℕ)
    → chosen front could true rules x l ≡ Some t → chosen front could more rules x (l ++ m) ≡ Some t
chosen_stays front could [] steady x l m more t h = h
chosen_stays front could (r ∷ rules) steady x l m more t h =
    stays_at front could r steady.0 rules x l m more t (front r (x ∷ l)) (could r (x ∷ l)) refl refl
    (chosen_stays front could rules steady.1 x l m more t) h

pub decision_stays : {R I : Type 0} (front : R → List I → Option (List I × ℕ)) (could : R → List I → Bool)
    (rules : List R) (steady : AreSteady front could rules) (l m : List I) (more : Bool) (t : List I × ℕ)
    → decision front could true rules l ≡ Some t → decision front could more rules (l ++ m) ≡ Some t
decision_stays front could rules steady [] m more t h = cc
decision_stays front could rules steady (x ∷ l) m more t h = chosen_stays front could rules steady x l m more t h

takes_at : {R I : Type 0} (front : R → List I → Option (List I × ℕ)) (could : R → List I → Bool)
    (r : R) (steady : IsSteady front could r) (x : I) (l : List I) (others : Option (List I × ℕ)) (t : List I × ℕ) (o : Option (List I × ℕ)) (b : Bool)
    → front r (x ∷ l) ≡ o
    → (others ≡ Some t → (0 < t.1) × (t.1 ≤ length (x ∷ l)))
    → first_of_two o b others ≡ Some t
    → (0 < t.1) × (t.1 ≤ length (x ∷ l))
takes_at front could r steady x l others t (Some u) b found rest h =
    let e : u ≡ t = cc in subst (λ (v : List _ × ℕ). (0 < v.1) × (v.1 ≤ length (x ∷ l))) e (steady.takes (x ∷ l) u.0 u.1 found)
takes_at front could r steady x l others t None true found rest h = cc
takes_at front could r steady x l others t None false found rest h = rest h

-- a decision takes at least one item, and none that isn't there
pub chosen_takes : {R I : Type 0} (front : R → List I → Option (List I × ℕ)) (could : R → List I → Bool)
    (rules : List R) (steady : AreSteady front could rules) (x : I) (l : List I) (more : Bool) (t : List I × ℕ)
    → chosen front could more rules x l ≡ Some t → (0 < t.1) × (t.1 ≤ length (x ∷ l))
chosen_takes {R} {I} front could [] steady x l more t h =
    let start : Option (List I × ℕ) = Some (x ∷ [], 1) in
    let k : start ≡ Some t = h in
    let e : (x ∷ [], 1) ≡ t = cc in
    let n : 1 ≡ t.1 = ap (λ (v : List I × ℕ). v.1) e in
    (omega arith, omega arith)
chosen_takes front could (r ∷ rules) steady x l more t h =
    takes_at front could r steady.0 x l (chosen front could more rules x l) t (front r (x ∷ l)) (could r (x ∷ l) && more) refl
    (chosen_takes front could rules steady.1 x l more t) h

pub decision_takes : {R I : Type 0} (front : R → List I → Option (List I × ℕ)) (could : R → List I → Bool)
    (rules : List R) (steady : AreSteady front could rules) (l : List I) (more : Bool) (t : List I × ℕ)
    → decision front could more rules l ≡ Some t → (0 < t.1) × (t.1 ≤ length l)
decision_takes front could rules steady [] more t h = cc
decision_takes front could rules steady (x ∷ l) more t h = chosen_takes front could rules steady x l more t h

-- what each rule makes has at most so many items
abbrev pub RuleBounded : {R I : Type 0} → (R → List I → Option (List I × ℕ)) → ℕ → R → Type 0
RuleBounded {R} {I} front most r = (l made : List I) (n : ℕ) → front r l ≡ Some (made, n) → length made ≤ most

abbrev pub RulesBounded : {R I : Type 0} → (R → List I → Option (List I × ℕ)) → ℕ → List R → Type 0
RulesBounded front most [] = Unit {0}
RulesBounded front most (r ∷ rules) = RuleBounded front most r × RulesBounded front most rules

bounded_at : {R I : Type 0} (front : R → List I → Option (List I × ℕ)) (most : ℕ) (r : R) (bounded : RuleBounded front most r)
    (x : I) (l : List I) (t : List I × ℕ) (o : Option (List I × ℕ)) (b : Bool) (others : Option (List I × ℕ))
    → front r (x ∷ l) ≡ o → (others ≡ Some t → length t.0 ≤ most) → first_of_two o b others ≡ Some t → length t.0 ≤ most
bounded_at {R} {I} front most r bounded x l t (Some u) b others found rest h =
    let e : u ≡ t = cc in subst (λ (v : List I × ℕ). length v.0 ≤ most) e (bounded (x ∷ l) u.0 u.1 found)
bounded_at front most r bounded x l t None true others found rest h = cc
bounded_at front most r bounded x l t None false others found rest h = rest h

chosen_bounded : {R I : Type 0} (front : R → List I → Option (List I × ℕ)) (could : R → List I → Bool) (most : ℕ) (some : 0 < most)
    (rules : List R) (bounded : RulesBounded front most rules) (x : I) (l : List I) (more : Bool) (t : List I × ℕ)
    → chosen front could more rules x l ≡ Some t → length t.0 ≤ most
chosen_bounded {R} {I} front could most some [] bounded x l more t h =
    let start : Option (List I × ℕ) = Some (x ∷ [], 1) in
    let k : start ≡ Some t = h in
    let e : (x ∷ [], 1) ≡ t = cc in
    let n : length (x ∷ []) ≡ length t.0 = ap (λ (v : List I × ℕ). length v.0) e in
    omega arith
chosen_bounded front could most some (r ∷ rules) bounded x l more t h =
    bounded_at front most r bounded.0 x l t (front r (x ∷ l)) (could r (x ∷ l) && more) (chosen front could more rules x l) refl
    (chosen_bounded front could most some rules bounded.1 x l more t) h

-- so has what a decision gives
pub decision_bounded : {R I : Type 0} (front : R → List I → Option (List I × ℕ)) (could : R → List I → Bool) (most : ℕ) (some : 0 < most)
    (rules : List R) (bounded : RulesBounded front most rules) (l : List I) (more : Bool) (t : List I × ℕ)
    → decision front could more rules l ≡ Some t → length t.0 ≤ most
decision_bounded front could most some rules bounded [] more t h = cc
decision_bounded front could most some rules bounded (x ∷ l) more t h = chosen_bounded front could most some rules bounded x l more t h

waits_at : {R I : Type 0} (front : R → List I → Option (List I × ℕ)) (could : R → List I → Bool)
    (r : R) (steady : IsSteady front could r) (x : I) (l : List I) (more : Bool) (others : Option (List I × ℕ)) (o : Option (List I × ℕ)) (b : Bool)
    → could r (x ∷ l) ≡ b
    → (others ≡ None → length (x ∷ l) < 8)
    → first_of_two o (b && more) others ≡ None
    → length (x ∷ l) < 8
waits_at front could r steady x l more others (Some u) b may rest h = cc
waits_at front could r steady x l more others None true may rest h = steady.short (x ∷ l) may
waits_at front could r steady x l more others None false may rest h = rest h

-- at most seven items are left where a decision waits for more
pub chosen_waits : {R I : Type 0} (front : R → List I → Option (List I × ℕ)) (could : R → List I → Bool)
    (rules : List R) (steady : AreSteady front could rules) (x : I) (l : List I) (more : Bool)
    → chosen front could more rules x l ≡ None → length (x ∷ l) < 8
chosen_waits front could [] steady x l more h = cc
chosen_waits front could (r ∷ rules) steady x l more h =
    waits_at front could r steady.0 x l more (chosen front could more rules x l) (front r (x ∷ l)) (could r (x ∷ l)) refl
    (chosen_waits front could rules steady.1 x l more) h

pub decision_waits : {R I : Type 0} (front : R → List I → Option (List I × ℕ)) (could : R → List I → Bool)
    (rules : List R) (steady : AreSteady front could rules) (l : List I) (more : Bool)
    → decision front could more rules l ≡ None → length l < 8
decision_waits front could rules steady [] more h = omega arith
decision_waits front could rules steady (x ∷ l) more h = chosen_waits front could rules steady x l more h

ends_at : {T : Type 0} (o : Option T) (b : Bool) (others : Option T) → (others ≡ None → ⊥) → first_of_two o (b && false) others ≡ None → ⊥
ends_at (Some u) b others some h = cc
ends_at None true others some h = some h
ends_at None false others some h = some h

chosen_ends : {R I : Type 0} (front : R → List I → Option (List I × ℕ)) (could : R → List I → Bool) (rules : List R) (x : I) (l : List I)
    → chosen front could false rules x l ≡ None → ⊥
chosen_ends front could [] x l h = cc
chosen_ends front could (r ∷ rules) x l h =
    ends_at (front r (x ∷ l)) (could r (x ∷ l)) (chosen front could false rules x l) (chosen_ends front could rules x l) h

-- where no more items come, nothing is left in the end
pub decision_ends : {R I : Type 0} (front : R → List I → Option (List I × ℕ)) (could : R → List I → Bool) (rules : List R) (l : List I)
    → decision front could false rules l ≡ None → l ≡ []
decision_ends front could rules [] h = refl
decision_ends front could rules (x ∷ l) h = absurd (chosen_ends front could rules x l h)

-- ## Groups

-- passing over items is dropping them
pub groups_passed : {I : Type 0} (decide : List I → Option (List I × ℕ)) (k : ℕ) (l : List I) → groups_after decide k l ≡ groups decide (drop k l)
groups_passed decide zero l = refl
groups_passed decide (suc k) [] = refl
groups_passed decide (suc k) (x ∷ l) = groups_passed decide k l

-- a decision function that takes at least one item
abbrev pub TakesSome : {I : Type 0} → (List I → Option (List I × ℕ)) → Type 0
TakesSome {I} decide = (l : List I) (t : List I × ℕ) → decide l ≡ Some t → (0 < t.1) × (t.1 ≤ length l)

groups_given : {I : Type 0} (decide : List I → Option (List I × ℕ)) (x : I) (l : List I) (t : List I × ℕ) (n : ℕ)
    → TakesSome decide → decide (x ∷ l) ≡ Some t → t.1 ≡ n → groups decide (x ∷ l) ≡ t.0 ∷ groups decide (drop n (x ∷ l))
groups_given decide x l t zero some h n = let k = some (x ∷ l) t h in absurd (omega arith)
groups_given decide x l t (suc k) some h n =
    let e : t.1 - 1 ≡ k = omega arith in
    rw h (ap (λ (j : ℕ). t.0 ∷ groups_after decide j l) e ∙ ap (λ rest. t.0 ∷ rest) (groups_passed decide k l))

-- a decision gives the first group
pub groups_step : {I : Type 0} (decide : List I → Option (List I × ℕ)) (l : List I) (t : List I × ℕ)
    → TakesSome decide → decide l ≡ Some t → groups decide l ≡ t.0 ∷ groups decide (drop t.1 l)
groups_step decide [] t some h = let k : (0 < t.1) × (t.1 ≤ 0) = some [] t h in absurd (omega arith)
groups_step decide (x ∷ l) t some h = groups_given decide x l t t.1 some h refl

-- where no decision comes there is no group
pub groups_stop : {I : Type 0} (decide : List I → Option (List I × ℕ)) (l : List I) → decide l ≡ None → groups decide l ≡ []
groups_stop decide [] h = refl
groups_stop decide (x ∷ l) h = rw h refl

-- the groups of some decisions, and then those of what they leave, are those of all
pub groups-decided : {I : Type 0} (decide : List I → Option (List I × ℕ)) (l : List I) (given : List (List I)) (rest : List I)
    → TakesSome decide → Decides decide l given rest → groups decide l ≡ given ++ groups decide rest
groups-decided decide l [] rest some h = ap (λ l. groups decide l) h
groups-decided decide l (group ∷ given) rest some h =
    groups_step decide l (group, h.0) some h.1 ∙ ap (λ gs. group ∷ gs) (groups-decided decide (drop h.0 l) given rest some h.2)

-- what the decisions leave in the end
decides_by : {I : Type 0} (decide : List I → Option (List I × ℕ)) (passed : ℕ) (l : List I) (o : Option (List I × ℕ))
    → TakesSome decide
    → ((k : ℕ) → (rest : List I) × Decides decide (drop k l) (groups_after decide k l) rest × (decide rest ≡ None))
    → (x : I) → decide (x ∷ l) ≡ o
    → (rest : List I) × Decides decide (x ∷ l) (given_by o (λ k. groups_after decide k l)) rest × (decide rest ≡ None)
decides_by decide passed l None some others x h = (x ∷ l, refl, h)
decides_by {I} decide passed l (Some t) some others x h =
    let k = some (x ∷ l) t h in
    let o = others (t.1 - 1) in
    let e : suc (t.1 - 1) ≡ t.1 = omega arith in
    (o.0, (t.1, h, subst (λ (n : ℕ). Decides decide (drop n (x ∷ l)) (groups_after decide (t.1 - 1) l) o.0) e o.1), o.2)

pub decides_all : {I : Type 0} (decide : List I → Option (List I × ℕ)) (passed : ℕ) (l : List I)
    → TakesSome decide → decide [] ≡ None
    → (rest : List I) × Decides decide (drop passed l) (groups_after decide passed l) rest × (decide rest ≡ None)
decides_all decide zero [] some none = ([], refl, none)
decides_all decide (suc passed) [] some none = ([], refl, none)
decides_all decide (suc passed) (x ∷ l) some none = decides_all decide passed l some none
decides_all decide zero (x ∷ l) some none =
    decides_by decide 0 l (decide (x ∷ l)) some (λ k. decides_all decide k l some none) x refl

-- decisions that another way of deciding keeps with more items behind
abbrev pub Keeps : {I : Type 0} → (List I → Option (List I × ℕ)) → (List I → Option (List I × ℕ)) → Type 0
Keeps {I} decide later = (l m : List I) (t : List I × ℕ) → decide l ≡ Some t → later (l ++ m) ≡ Some t

pub decides_more : {I : Type 0} (decide later : List I → Option (List I × ℕ)) (l m : List I) (given : List (List I)) (rest : List I)
    → TakesSome decide → Keeps decide later → Decides decide l given rest → Decides later (l ++ m) given (rest ++ m)
decides_more decide later l m [] rest some keeps h = ap (λ l. l ++ m) h
decides_more {I} decide later l m (group ∷ given) rest some keeps h =
    let n = some l (group, h.0) h.1 in
    let le : h.0 ≤ length l = n.1 in
    let e : drop h.0 (l ++ m) ≡ drop h.0 l ++ m = drop-append-le h.0 l m le in (
      h.0,
      keeps l m (group, h.0) h.1,
      subst (λ (k : List I). Decides later k given (rest ++ m)) (sym e) (decides_more decide later (drop h.0 l) m given rest some keeps h.2),
    )

-- one more decision
pub decides_next : {I : Type 0} (decide : List I → Option (List I × ℕ)) (l : List I) (given : List (List I)) (rest : List I) (t : List I × ℕ)
    → Decides decide l given rest → decide rest ≡ Some t → Decides decide l (given ++ t.0 ∷ []) (drop t.1 rest)
decides_next {I} decide l [] rest t h next = (t.1, subst (λ (k : List I). decide k ≡ Some t) (sym h) next, ap (λ (k : List I). drop t.1 k) h)
decides_next decide l (group ∷ given) rest t h next = (h.0, h.1, decides_next decide (drop h.0 l) given rest t h.2 next)

-- the groups of a list are the first of those of a longer one
pub groups_front : {I : Type 0} (decide later : List I → Option (List I × ℕ)) (l m : List I)
    → TakesSome decide → TakesSome later → Keeps decide later → decide [] ≡ None → BeginsWith (groups later (l ++ m)) (groups decide l)
groups_front decide later l m some later_some keeps none =
    let d = decides_all decide 0 l some none in
    (groups later (d.0 ++ m), groups-decided later (l ++ m) (groups decide l) (d.0 ++ m) later_some (decides_more decide later l m (groups decide l) d.0 some keeps d.1))

pub joined_front : {I : Type 0} (whole front : List (List I)) → BeginsWith whole front → BeginsWith (joined whole) (joined front)
joined_front {I} whole front h =
    (joined h.0, ap (λ (k : List (List I)). joined k) h.1 ∙ flat_map-append (λ (group : List I). group) front h.0)

-- ## What a measure of the items keeps

-- what is read off each decision's group is read off the items that it takes
abbrev pub KeepsMeasure : {I B : Type 0} → (List I → Option (List I × ℕ)) → (List I → List B) → Type 0
KeepsMeasure {I} decide measure = (l : List I) (t : List I × ℕ) → decide l ≡ Some t → measure t.0 ≡ measure (take t.1 l)

pub record IsAdditive {I B : Type 0} (measure : List I → List B) : Type 0 where
  pub none : measure [] ≡ []
  pub append : (l m : List I) → measure (l ++ m) ≡ measure l ++ measure m

-- a measure that each decision keeps is kept by all
pub measure_kept : {I B : Type 0} (decide : List I → Option (List I × ℕ)) (measure : List I → List B) (additive : IsAdditive measure)
    (keeps : KeepsMeasure decide measure) (l : List I) (given : List (List I)) (rest : List I)
    → Decides decide l given rest → measure (joined given) ++ measure rest ≡ measure l
measure_kept decide measure additive keeps l [] rest h = rw additive.none (ap (λ l. measure l) (sym h))
measure_kept {I} {B} decide measure additive keeps l (group ∷ given) rest h =
    let taken = take h.0 l in
    let left = drop h.0 l in
    let first : measure group ≡ measure taken = keeps l (group, h.0) h.1 in
    let others : measure (joined given) ++ measure rest ≡ measure left = measure_kept decide measure additive keeps left given rest h.2 in
    ap (λ (k : List B). k ++ measure rest) (additive.append group (joined given))
    ∙ append_assoc (measure group) (measure (joined given)) (measure rest)
    ∙ ap (λ (k : List B). k ++ (measure (joined given) ++ measure rest)) first
    ∙ ap (λ (k : List B). measure taken ++ k) others
    ∙ sym (additive.append taken left)
    ∙ ap (λ (k : List I). measure k) (take-append-drop h.0 l)

-- a rule that keeps a measure: what it makes measures as the items that it takes
abbrev pub RuleKeeps : {R I B : Type 0} → (R → List I → Option (List I × ℕ)) → (List I → List B) → R → Type 0
RuleKeeps {R} {I} front measure r = (l made : List I) (n : ℕ) → front r l ≡ Some (made, n) → measure made ≡ measure (take n l)

abbrev pub RulesKeep : {R I B : Type 0} → (R → List I → Option (List I × ℕ)) → (List I → List B) → List R → Type 0
RulesKeep front measure [] = Unit {0}
RulesKeep front measure (r ∷ rules) = RuleKeeps front measure r × RulesKeep front measure rules

keeps_at : {R I B : Type 0} (front : R → List I → Option (List I × ℕ)) (measure : List I → List B) (r : R) (keeps : RuleKeeps front measure r)
    (x : I) (l : List I) (t : List I × ℕ) (o : Option (List I × ℕ)) (b : Bool) (others : Option (List I × ℕ))
    → front r (x ∷ l) ≡ o
    → (others ≡ Some t → measure t.0 ≡ measure (take t.1 (x ∷ l)))
    → first_of_two o b others ≡ Some t → measure t.0 ≡ measure (take t.1 (x ∷ l))
keeps_at {R} {I} front measure r keeps x l t (Some u) b others found rest h =
    let e : u ≡ t = cc in
    subst (λ (v : List I × ℕ). measure v.0 ≡ measure (take v.1 (x ∷ l))) e (keeps (x ∷ l) u.0 u.1 found)
keeps_at front measure r keeps x l t None true others found rest h = cc
keeps_at front measure r keeps x l t None false others found rest h = rest h

chosen_keeps : {R I B : Type 0} (front : R → List I → Option (List I × ℕ)) (could : R → List I → Bool) (measure : List I → List B)
    (more : Bool) (rules : List R) (keeps : RulesKeep front measure rules) (x : I) (l : List I) (t : List I × ℕ)
    → chosen front could more rules x l ≡ Some t → measure t.0 ≡ measure (take t.1 (x ∷ l))
chosen_keeps {R} {I} front could measure more [] keeps x l t h =
    let start : Option (List I × ℕ) = Some (x ∷ [], 1) in
    let k : start ≡ Some t = h in
    let e : (x ∷ [], 1) ≡ t = cc in
    subst (λ (v : List I × ℕ). measure v.0 ≡ measure (take v.1 (x ∷ l))) e refl
chosen_keeps front could measure more (r ∷ rules) keeps x l t h =
    keeps_at front measure r keeps.0 x l t (front r (x ∷ l)) (could r (x ∷ l) && more) (chosen front could more rules x l) refl
    (chosen_keeps front could measure more rules keeps.1 x l t) h

-- where each rule keeps a measure, each decision does
pub decision_keeps : {R I B : Type 0} (front : R → List I → Option (List I × ℕ)) (could : R → List I → Bool) (measure : List I → List B)
    (more : Bool) (rules : List R) → RulesKeep front measure rules → KeepsMeasure (decision front could more rules) measure
decision_keeps front could measure more rules keeps [] t h = cc
decision_keeps front could measure more rules keeps (x ∷ l) t h = chosen_keeps front could measure more rules keeps x l t h
