-- A replay goes on from where it stands, and a failure stays.
use Rattle.std.specs.Prelude.{◌≡◌, ℕ, zero, suc, ◌+◌, ◌≤◌, Bool, true, false, cond, List, [], ◌∷◌, ◌++◌, refl, length}
use Rattle.std.proofs.Common.{ap, arith, sym, ◌∙◌}
use Rattle.mv_calls.specs.declared.calls.Call.{Call}
use Rattle.mv_calls.specs.declared.calls.Reply.{Reply}
use Rattle.mv_version.specs.Behaviour.{Behaviour, PointsEnd}
use Rattle.mv_version.specs.declared.event.Event.{Event}
use Rattle.mv_version.specs.declared.event.Event.TheVariants as event
use Rattle.mv_history.specs.Replay.{Stands, Fails, Unborn, replay, event_fits, past, past_in, points_left, is_point}

module _ {V : Type 0} (b : Behaviour V) where
  pub replay-fails : (k : ℕ) (s : V) (xs ys : List (Call × Reply)) (j : ℕ) (c : Call) (e : Event) → replay b k s xs ≡ Fails j c e → replay b k s (xs ++ ys) ≡ Fails j c e
  replay-fails k s [] ys j c e h = absurd (let bad : Stands s ≡ Fails j c e = h in cc)
  replay-fails k s (x ∷ xs) ys j c e h =
      (elim (event_fits (b.go (past b s)) x) as
      (λ t. cond t (replay b (k + 1) (b.after (past b s) x.1) xs) (Fails k x.0 (b.go (past b s))) ≡ Fails j c e → cond t (replay b (k + 1) (b.after (past b s) x.1) (xs ++ ys)) (Fails k x.0 (b.go (past b s))) ≡ Fails j c e)
      [ true ↦ replay-fails (k + 1) (b.after (past b s) x.1) xs ys j c e | false ↦ λ g. g ]) h

  pub replay-stands : (k : ℕ) (s : V) (xs ys : List (Call × Reply)) (t : V) → replay b k s (xs ++ ys) ≡ Stands t → (u : V) × (replay b k s xs ≡ Stands u)
  replay-stands k s [] ys t h = (s, refl)
  replay-stands k s (x ∷ xs) ys t h =
      (elim (event_fits (b.go (past b s)) x) as
      (λ f. cond f (replay b (k + 1) (b.after (past b s) x.1) (xs ++ ys)) (Fails k x.0 (b.go (past b s))) ≡ Stands t → (u : V) × (cond f (replay b (k + 1) (b.after (past b s) x.1) xs) (Fails k x.0 (b.go (past b s))) ≡ Stands u))
      [ true ↦ replay-stands (k + 1) (b.after (past b s) x.1) xs ys t | false ↦ λ g. absurd (let bad : Fails k x.0 (b.go (past b s)) ≡ Stands t = g in cc) ]) h

  -- a replay is never unborn
  pub replay-born : (k : ℕ) (s : V) (xs : List (Call × Reply)) (f : _) → replay b k s xs ≡ Unborn f → ⊥
  replay-born k s [] f h = absurd (let bad : Stands s ≡ Unborn f = h in cc)
  replay-born k s (x ∷ xs) f h =
      (elim (event_fits (b.go (past b s)) x) as
      (λ t. cond t (replay b (k + 1) (b.after (past b s) x.1) xs) (Fails k x.0 (b.go (past b s))) ≡ Unborn f → ⊥)
      [ true ↦ replay-born (k + 1) (b.after (past b s) x.1) xs f | false ↦ λ g. absurd (let bad : Fails k x.0 (b.go (past b s)) ≡ Unborn f = g in cc) ]) h

  -- a replay goes on from where a first part stands
  pub replay-append : (k : ℕ) (s : V) (xs ys : List (Call × Reply)) (t : V) → replay b k s xs ≡ Stands t → replay b k s (xs ++ ys) ≡ replay b (k + length xs) t ys
  replay-append k s [] ys t h = ap (λ x. replay b k x ys) (let e : Stands s ≡ Stands t = h in cc) ∙ ap (λ n. replay b n t ys) (omega arith)
  replay-append k s (x ∷ xs) ys t h =
      (elim (event_fits (b.go (past b s)) x) as
      (λ f. cond f (replay b (k + 1) (b.after (past b s) x.1) xs) (Fails k x.0 (b.go (past b s))) ≡ Stands t → cond f (replay b (k + 1) (b.after (past b s) x.1) (xs ++ ys)) (Fails k x.0 (b.go (past b s))) ≡ replay b (k + suc (length xs)) t ys)
      [ true ↦ (λ g. replay-append (k + 1) (b.after (past b s) x.1) xs ys t g ∙ ap (λ n. replay b n t ys) (omega arith)) | false ↦ λ g. absurd (let bad : Fails k x.0 (b.go (past b s)) ≡ Stands t = g in cc) ]) h

point_is : (e : Event) → is_point e ≡ true → e ≡ event.Point
point_is event.Point h = refl
point_is (event.Calls c) h = absurd (let bad : false ≡ true = h in cc)
point_is (event.Ends n) h = absurd (let bad : false ≡ true = h in cc)
point_is (event.Traps t) h = absurd (let bad : false ≡ true = h in cc)

module _ {V : Type 0} (b : Behaviour V) (ends : PointsEnd b) where
  -- a passed point leaves fewer
  pub passed_fewer : (s : V) → b.go s ≡ event.Point → points_left b (b.passed s) ≤ b.left s
  passed_fewer s here = fewer (is_point (b.go (b.passed s))) refl
    where
      fewer : (t : Bool) → is_point (b.go (b.passed s)) ≡ t → cond t (suc (b.left (b.passed s))) 0 ≤ b.left s
      fewer true is = let h = ends s here (point_is _ is) in omega (arith, h)
      fewer false is = omega arith

  -- enough is enough
  past_fuel : (n m : ℕ) (s : V) → points_left b s ≤ n → points_left b s ≤ m → past_in b n s ≡ past_in b m s
  past_fuel zero zero s enough enough' = refl
  past_fuel zero (suc m) s enough enough' = zero_fuel (is_point (b.go s)) enough
    where
      zero_fuel : (t : Bool) → cond t (suc (b.left s)) 0 ≤ 0 → s ≡ cond t (past_in b m (b.passed s)) s
      zero_fuel true bad = absurd (omega (arith, bad))
      zero_fuel false h = refl
  past_fuel (suc n) zero s enough enough' = zero_fuel (is_point (b.go s)) enough'
    where
      zero_fuel : (t : Bool) → cond t (suc (b.left s)) 0 ≤ 0 → cond t (past_in b n (b.passed s)) s ≡ s
      zero_fuel true bad = absurd (omega (arith, bad))
      zero_fuel false h = refl
  past_fuel (suc n) (suc m) s enough enough' = both (past_fuel n m (b.passed s)) (is_point (b.go s)) refl enough enough'
    where
      both : (points_left b (b.passed s) ≤ n → points_left b (b.passed s) ≤ m → past_in b n (b.passed s) ≡ past_in b m (b.passed s)) → (t : Bool) → is_point (b.go s) ≡ t → cond t (suc (b.left s)) 0 ≤ suc n → cond t (suc (b.left s)) 0 ≤ suc m → cond t (past_in b n (b.passed s)) s ≡ cond t (past_in b m (b.passed s)) s
      both rest true is one two = let fewer = passed_fewer s (point_is _ is) in rest (omega (arith, fewer, one)) (omega (arith, fewer, two))
      both rest false is one two = refl

  left_enough : (s : V) → points_left b s ≤ suc (b.left s)
  left_enough s = enough (is_point (b.go s))
    where
      enough : (t : Bool) → cond t (suc (b.left s)) 0 ≤ suc (b.left s)
      enough true = omega arith
      enough false = omega arith

  -- a point that is passed changes nothing of what lies past all points
  pub past_passed : (s : V) → b.go s ≡ event.Point → past b (b.passed s) ≡ past b s
  past_passed s here =
      past_fuel (suc (b.left (b.passed s))) (b.left s) (b.passed s) (left_enough (b.passed s)) (passed_fewer s here) ∙ sym (ap (λ e. cond (is_point e) (past_in b (b.left s) (b.passed s)) s) here)

  pub past_here : (s : V) → is_point (b.go s) ≡ false → past b s ≡ s
  past_here s other = ap (λ t. cond t (past_in b (b.left s) (b.passed s)) s) other

  -- past all points there is none
  past_in_ends : (n : ℕ) (s : V) → points_left b s ≤ n → is_point (b.go (past_in b n s)) ≡ false
  past_in_ends zero s enough = none (is_point (b.go s)) refl enough
    where
      none : (t : Bool) → is_point (b.go s) ≡ t → cond t (suc (b.left s)) 0 ≤ 0 → is_point (b.go s) ≡ false
      none true is bad = absurd (omega (arith, bad))
      none false is h = is
  past_in_ends (suc n) s enough = on (past_in_ends n (b.passed s)) (is_point (b.go s)) refl enough
    where
      on : (points_left b (b.passed s) ≤ n → is_point (b.go (past_in b n (b.passed s))) ≡ false) → (t : Bool) → is_point (b.go s) ≡ t → cond t (suc (b.left s)) 0 ≤ suc n →
          is_point (b.go (cond t (past_in b n (b.passed s)) s)) ≡ false
      on rest true is one = let fewer = passed_fewer s (point_is _ is) in rest (omega (arith, fewer, one))
      on rest false is one = is

  pub past_ends : (s : V) → is_point (b.go (past b s)) ≡ false
  past_ends s = past_in_ends (suc (b.left s)) s (left_enough s)
