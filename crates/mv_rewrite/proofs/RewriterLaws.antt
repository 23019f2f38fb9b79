-- What the calls of a rewriter leave of the lists that it stands for.
use Rattle.std.specs.Prelude.{◌≡◌, ◌⊎◌, ◌↔◌, ◌<◌, ◌≤◌, ℕ, Bool, true, false, not, List, [], ◌∷◌, ◌++◌, drop, length, Option, Some, None, IfNone, IfSome, refl}
use Rattle.std.proofs.Common.{sym, ◌∙◌, ap, subst, arith, inl, inr}
use Rattle.std.proofs.lemmas.List.{append-nil}
use Rattle.mv_calls.specs.declared.calls.Call.{Call}
use Rattle.mv_calls.specs.declared.calls.Reply.{Reply}
use Rattle.mv_rules.specs.declared.rule.Rule.{Rule}
use Rattle.mv_rules.specs.Shape.{AreShaped}
use Rattle.mv_rewrite.specs.Deciding.{Decides, groups, joined}
use Rattle.mv_rewrite.proofs.DecidingLaws.{decides_more, decides_next, groups-decided, groups_step, groups_stop, decision_waits, decision_ends, decision_bounded}
use Rattle.mv_rewrite.specs.Matching.{front_of, could_match}
use Rattle.mv_rewrite.specs.Matches.{WaitsOn}
use Rattle.mv_rewrite.proofs.MatchingLaws.{steady_rules, bounded_rules}
use Rattle.mv_rewrite.proofs.ExactLaws.{undecided}
use Rattle.mv_rewrite.specs.Rewriting.{decide}
use Rattle.mv_rewrite.proofs.RewritingLaws.{decide_takes, decide_keeps}
use Rattle.mv_rewrite.specs.RewriterState.{RewriterState, next_decision, IsUndecided, Advances, Stands, GivesNext, rewritten}

-- a new one stands for nothing fed and nothing given
pub stands_new : (w : RewriterState) → w.held ≡ [] → Stands w [] []
stands_new w empty = record { decided = sym empty }

-- one more item
pub stands_fed : (old new : RewriterState) (item : Call × Reply) → AreShaped old.rules → old.finished ≡ false
    → new ≡ record old { held = old.held ++ item ∷ [] }
    → (fed : List (Call × Reply)) (given : List (List (Call × Reply))) → Stands old fed given → Stands new (fed ++ item ∷ []) given
stands_fed old new item shaped running is fed given h =
    let sure_before : Decides (decide true old.rules) fed given old.held =
    subst (λ (b : Bool). Decides (decide (not b) old.rules) fed given old.held) running h.decided in
    let sure_after : Decides (decide true old.rules) (fed ++ item ∷ []) given (old.held ++ item ∷ []) =
    decides_more (decide true old.rules) (decide true old.rules) fed (item ∷ []) given old.held
    (decide_takes true old.rules shaped) (decide_keeps true old.rules shaped) sure_before in
    subst (λ (w : RewriterState). Stands w (fed ++ item ∷ []) given) (sym is)
    (record { decided = subst (λ (b : Bool). Decides (decide (not b) old.rules) (fed ++ item ∷ []) given (old.held ++ item ∷ [])) (sym running) sure_after })

finished_by : (before : Bool) (rules : List Rule) (held : List (Call × Reply)) (fed : List (Call × Reply)) (given : List (List (Call × Reply)))
    → AreShaped rules → Decides (decide (not before) rules) fed given held → Decides (decide false rules) fed given held
finished_by true rules held fed given shaped h = h
finished_by false rules held fed given shaped h =
    let more = decides_more (decide true rules) (decide false rules) fed [] given held (decide_takes true rules shaped) (decide_keeps false rules shaped) h in
    subst (λ (l : List (Call × Reply)). Decides (decide false rules) fed given l) (append-nil held)
    (subst (λ (l : List (Call × Reply)). Decides (decide false rules) l given (held ++ [])) (append-nil fed) more)

-- no more items
pub stands_finished : (old new : RewriterState) → AreShaped old.rules → new ≡ record old { finished = true }
    → (fed : List (Call × Reply)) (given : List (List (Call × Reply))) → Stands old fed given → Stands new fed given
stands_finished old new shaped is fed given h =
    subst (λ (w : RewriterState). Stands w fed given) (sym is) (record { decided = finished_by old.finished old.rules old.held fed given shaped h.decided })

-- one more group
pub stands_given : (old new : RewriterState) (group : List (Call × Reply)) → Advances old (Some group) new
    → (fed : List (Call × Reply)) (given : List (List (Call × Reply))) → Stands old fed given → Stands new fed (given ++ group ∷ [])
stands_given old new group a fed given h =
    subst (λ (w : RewriterState). Stands w fed (given ++ group ∷ [])) (sym a.2)
    (record { decided = decides_next (decide (not old.finished) old.rules) fed given old.held (group, a.0) h.decided a.1 })

-- what was given comes first of what all that was fed gives, and what is held gives the rest
pub groups-stands : (w : RewriterState) (fed : List (Call × Reply)) (given : List (List (Call × Reply))) → AreShaped w.rules → Stands w fed given
    → groups (decide (not w.finished) w.rules) fed ≡ given ++ groups (decide (not w.finished) w.rules) w.held
groups-stands w fed given shaped h =
    groups-decided (decide (not w.finished) w.rules) fed given w.held (decide_takes (not w.finished) w.rules shaped) h.decided

-- the next decision gives the first of the rest
pub groups-next : (w : RewriterState) (group : List (Call × Reply)) (count : ℕ) → AreShaped w.rules → next_decision w ≡ Some (group, count)
    → groups (decide (not w.finished) w.rules) w.held ≡ group ∷ groups (decide (not w.finished) w.rules) (drop count w.held)
groups-next w group count shaped next = groups_step (decide (not w.finished) w.rules) w.held (group, count) (decide_takes (not w.finished) w.rules shaped) next

-- and where there is none, nothing is left
pub groups-none : (w : RewriterState) → next_decision w ≡ None → groups (decide (not w.finished) w.rules) w.held ≡ []
groups-none w none = groups_stop (decide (not w.finished) w.rules) w.held none

-- where no decision comes the groups given, joined, are the rewritten list
pub stands_whole : (w : RewriterState) → AreShaped w.rules → next_decision w ≡ None
    → (fed : List (Call × Reply)) (given : List (List (Call × Reply))) → Stands w fed given → joined given ≡ rewritten w fed
stands_whole w shaped none fed given h =
    sym (ap (λ (k : List (List (Call × Reply))). joined k)
    (groups-stands w fed given shaped h ∙ ap (λ (k : List (List (Call × Reply))). given ++ k) (groups-none w none) ∙ append-nil given))

-- then at most seven items are held
pub held_few : (w : RewriterState) → AreShaped w.rules → next_decision w ≡ None → length w.held < 8
held_few w shaped none = decision_waits front_of could_match w.rules (steady_rules w.rules shaped) w.held (not w.finished) none

-- both, for an answer of `next`
pub gives_next : (old : RewriterState) (group : Option (List (Call × Reply))) (new : RewriterState) → AreShaped old.rules → Advances old group new → GivesNext old group new
gives_next old None new shaped a = stands_whole old shaped a.0
gives_next old (Some group) new shaped a = stands_given old new group a

pub next_few : (old : RewriterState) (group : Option (List (Call × Reply))) (new : RewriterState) → AreShaped old.rules → Advances old group new → IfNone group (length new.held < 8)
next_few old None new shaped a = subst (λ (w : RewriterState). length w.held < 8) (sym a.1) (held_few old shaped a.0)
next_few old (Some group) new shaped a = tt

-- it answers none exactly where nothing can be decided
none_decided : (finished : Bool) (rules : List Rule) (held : List (Call × Reply))
    → (decide (not finished) rules held ≡ None) ↔ ((held ≡ []) ⊎ ((finished ≡ false) × WaitsOn rules held))
none_decided true rules held = (
  λ h. inl (decision_ends front_of could_match rules held h),
  λ h.
      elim h as (λ _. decide false rules held ≡ None) [
        | inl e ↦ subst (λ (l : List (Call × Reply)). decide false rules l ≡ None) (sym e) refl
        | inr w ↦ let never : true ≡ false = w.0 in cc
      ],
)
none_decided false rules held = (
  λ h. elim ((undecided rules held).0 h) as (λ _. (held ≡ []) ⊎ ((false ≡ false) × WaitsOn rules held)) [ inl e ↦ inl e | inr w ↦ inr (refl, w) ],
  λ h. elim h as (λ _. decide true rules held ≡ None) [ inl e ↦ (undecided rules held).1 (inl e) | inr w ↦ (undecided rules held).1 (inr w.1) ],
)

pub next_none : (old : RewriterState) (group : Option (List (Call × Reply))) (new : RewriterState) → Advances old group new → (group ≡ None) ↔ IsUndecided old
next_none old None new a = (λ h. (none_decided old.finished old.rules old.held).0 a.0, λ h. refl)
next_none old (Some group) new a = (
  λ h. cc,
  λ h.
      let none : next_decision old ≡ None = (none_decided old.finished old.rules old.held).1 h in
      let some : next_decision old ≡ Some (group, a.0) = a.1 in
      cc,
)

-- a group has at most sixteen items
pub next_bounded : (old : RewriterState) (group : Option (List (Call × Reply))) (new : RewriterState) → AreShaped old.rules → Advances old group new
    → IfSome group (λ items. length items ≤ 16)
next_bounded old None new shaped a = tt
next_bounded old (Some group) new shaped a =
    decision_bounded front_of could_match 16 (omega arith) old.rules (bounded_rules old.rules shaped) old.held (not old.finished) (group, a.0) a.1
