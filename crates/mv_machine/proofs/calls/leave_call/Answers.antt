use Rattle.std.proofs.Common.{◌≡◌, ◌∙◌, ◌-◌, ◌<◌, ◌∷◌, ℕ, zero, suc, [], Option, Some, None, take, get_or, set, length, sym, ap, arith, subst, refl}
use Rattle.std.specs.Prelude.{IsSome, reverse, map}
use Rattle.std.specs.Vec.{with_item}
use Rattle.mv_frames.specs.Arity.{arity_if}
use Rattle.mv_frames.specs.declared.frame.Frame.{Frame}
use Rattle.mv_machine.specs.declared.state.State.{State}
use Rattle.mv_machine.specs.States.{call_of, config_of, values_of, IsFine}
use Rattle.mv_machine.specs.Calls.{returned_from}
use Rattle.mv_machine.proofs.Newest.{Newest, newest, last-listed, calls-are, Pair, pair, get_or-same, some-calls, on_err-always}
use Rattle.mv_machine.proofs.Leaves.{newest-ended, given-count, returned-fine, kept-config, kept-fine, ended-config, ended-fine}
use Rattle.mv_machine.proofs.calls.leave_call.Goals as goal
use Rattle.mv_machine.proofs.calls.leave_call.Goals.{After-index, in-Some+in_ok-push, in_default}

-- the newest call
some : (c : After-index) → 0 < length c.args.state.now.frames.items
some c = some-calls (λ x. IsSome (returned_from (config_of c.args.module.now c.args.state.now) x)) (λ k. absurd (cc)) c.args.module.now.funcs c.args.state.now.frames.items c.requires.returns

count : (c : After-index) → c.len-newest.result ≡ length c.args.state.now.frames.items
count c = c.len-newest.ensures ∙ c.args.state.now.frames.ok.0

call : (c : After-index) → Newest c.args.state.now.frames.items c.len-newest.result c.index.result.now
call c = newest c.args.state.now.frames.items c.len-newest.result c.index.result.now (count c) (omega (arith, count c, some c)) c.index.ensures

above : (k : ℕ) → (k ≡ 0 → ⊥) → 0 < k
above zero h = absurd (h refl)
above (suc k) h = omega arith

-- and the one before it
two : (c : After-index) (g : Frame) → (c.len-newest.result - 1 ≡ 0 → ⊥) → g ≡ get_or c.args.state.now.frames.items (c.len-newest.result - 1 - 1) g → Pair c.args.state.now.frames.items c.len-newest.result c.index.result.now g
two c g many is = pair c.args.state.now.frames.items c.len-newest.result c.index.result.now g (count c) (omega (arith, above (c.len-newest.result - 1) many)) c.index.ensures is

pub given_by-value-requires : goal.given_by-value-requires
given_by-value-requires c =
    let s = (goal.at.given_by-value-requires c).After-index in
    let p = c.args.module.now in
    let f = c.index.result.now in
    let t = call s in
    let none = newest-ended (config_of p c.args.state.now) (call_of p.funcs f) (map (call_of p.funcs) t.older) (calls-are p.funcs c.args.state.now.frames.items c.len-newest.result f t) c.requires.returns in
    omega (arith, given-count p c.args.state.now f t.older c.requires.fine c.requires.running t.listed none, f.operands.ok.0)

pub returns-then-newest-eq0-clause-ok : goal.returns-then-newest-eq0-clause-ok
returns-then-newest-eq0-clause-ok c =
    let s = (goal.at.returns-then-newest-eq0-clause-ok c).After-index in
    let f = c.index.result.now in
    let listed = last-listed c.args.state.now.frames.items c.len-newest.result f (call s) (count s) c.if-newest-eq0.true in
    ended-config c.args.module.now c.args.state.now f listed c.requires.returns c.given_by-value.result c.given_by-value.ensures c.clear.new.self c.clear.ensures.items

pub returns-then-newest-eq0-clause-fine : goal.returns-then-newest-eq0-clause-fine
returns-then-newest-eq0-clause-fine c =
    let s = (goal.at.returns-then-newest-eq0-clause-fine c).After-index in
    let f = c.index.result.now in
    let listed = last-listed c.args.state.now.frames.items c.len-newest.result f (call s) (count s) c.if-newest-eq0.true in
    ended-fine c.args.module.now c.args.state.now f listed c.requires.returns c.given_by-value.result c.given_by-value.ensures c.clear.new.self c.clear.ensures.items c.requires.fine c.requires.running

pub returns-in_err-push-clause-err : goal.returns-in_err-push-clause-err
returns-in_err-push-clause-err c =
    let s = (goal.at.returns-in_err-push-clause-err c).After-index in
    let f = c.index.result.now in
    let g = c.index_mut.result.now in
    let k = c.push.new.frame in
    let e = c.in_err-push.ensures.err in
    let t = two s g c.if-newest-eq0.false c.index_mut.ensures.value in
    on_err-always c.from_residual.result _ (kept-config c.args.module.now c.args.state.now f g k t.older t.listed e.0 (with_item c.args.state.now.frames (c.len-newest.result - 1 - 1) k) (t.written k) e.1)

pub returns-in_err-push-clause-fine : goal.returns-in_err-push-clause-fine
returns-in_err-push-clause-fine c =
    let s = (goal.at.returns-in_err-push-clause-fine c).After-index in
    let f = c.index.result.now in
    let g = c.index_mut.result.now in
    let k = c.push.new.frame in
    let e = c.in_err-push.ensures.err in
    let t = two s g c.if-newest-eq0.false c.index_mut.ensures.value in
    kept-fine c.args.module.now c.args.state.now f g k t.older t.listed e.0 (with_item c.args.state.now.frames (c.len-newest.result - 1 - 1) k) (t.written k) e.1 c.requires.fine c.requires.running

-- no value was given
none-given : (value : Option ℕ) → ((v : ℕ) → value ≡ Some v → ⊥) → value ≡ None
none-given None h = refl
none-given (Some v) h = absurd (h v refl)

pub returns-clause-fine : goal.returns-clause-fine
returns-clause-fine c =
    let s = (goal.at.returns-clause-fine c).After-index in
    let p = c.args.module.now in
    let fs = c.args.state.now.frames.items in
    let m = c.len-newest.result in
    let f = c.index.result.now in
    let v = c.truncate.new.self in
    elim c.match-value.branch [
      | in-Some+in_ok-push w ↦
          let g = w.index_mut.result.now in
          let k = w.push.new.frame in
          let ok = w.in_ok-push.ensures.ok in
          let t = two s g c.if-newest-eq0.false w.index_mut.ensures.value in
          let left : v.items ≡ take (m - 1) (set fs (m - 1 - 1) k) = c.truncate.ensures.items ∙ ap (λ (x : State). take (m - 1) x.frames.items) w.state-is in
          let gives : take (arity_if f.gives) (reverse f.operands.items) ≡ w.in-Some.value ∷ [] = c.given_by-value.ensures ∙ ap values_of w.in-Some.is in
          subst (λ (x : State). IsFine p (record x { frames = v })) (sym w.state-is) (returned-fine p c.args.state.now f g k t.older t.listed ok.0 v c.requires.returns (w.in-Some.value ∷ []) gives (ap reverse left ∙ t.kept k) ok.1 c.requires.fine c.requires.running)
      | in_default w ↦
          let g = get_or fs (m - 1 - 1) f in
          let many = above (m - 1) c.if-newest-eq0.false in
          let t = two s g c.if-newest-eq0.false (get_or-same fs (m - 1 - 1) f g (omega (arith, many, count s))) in
          let left : v.items ≡ take (m - 1) fs = c.truncate.ensures.items ∙ ap (λ (x : State). take (m - 1) x.frames.items) w.state-is in
          let gives : take (arity_if f.gives) (reverse f.operands.items) ≡ [] = c.given_by-value.ensures ∙ ap values_of (none-given c.given_by-value.result w.in_default.not-Some) in
          subst (λ (x : State). IsFine p (record x { frames = v })) (sym w.state-is) (returned-fine p c.args.state.now f g g t.older t.listed refl v c.requires.returns [] gives (ap reverse left ∙ t.shorter) refl c.requires.fine c.requires.running)
    ]
