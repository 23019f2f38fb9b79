-- What contracts see of a rewriter, and the lists that it stands for.
use Rattle.std.specs.Prelude.{◌≡◌, ◌⊎◌, ℕ, Bool, false, not, List, [], ◌∷◌, ◌++◌, drop, take, Option, Some, None}
use Rattle.std.specs.List.{All}
use Rattle.mv_calls.specs.declared.calls.Call.{Call}
use Rattle.mv_calls.specs.declared.calls.Reply.{Reply}
use Rattle.mv_rules.specs.declared.rule.Rule.{Rule}
use Rattle.mv_rewrite.specs.Deciding.{Decides, groups, joined}
use Rattle.mv_rewrite.specs.Matches.{WaitsOn}
use Rattle.mv_rewrite.specs.Matching.{IsCounted}
use Rattle.mv_rewrite.specs.Rewriting.{decide}

-- its rules, the items that no decision has taken, and whether no more come
pub record RewriterState : Type 0 where
  pub rules : List Rule
  pub held : List (Call × Reply)
  pub finished : Bool

-- the decision at the front of the held items
abbrev pub next_decision : RewriterState → Option (List (Call × Reply) × ℕ)
next_decision w = decide (not w.finished) w.rules w.held

-- Nothing can be decided: nothing is held; or more items may come, and a rule that could match with them stands before each
-- that matches already.
abbrev pub IsUndecided : RewriterState → Type 0
IsUndecided w = (w.held ≡ []) ⊎ ((w.finished ≡ false) × WaitsOn w.rules w.held)

-- what an answer of `next` leaves: none, and the same; or a group, and the items that its decision didn't take
abbrev pub Advances : RewriterState → Option (List (Call × Reply)) → RewriterState → Type 0
Advances old None new = (next_decision old ≡ None) × (new ≡ old)
Advances old (Some group) new = (count : ℕ) × (next_decision old ≡ Some (group, count)) × (new ≡ record old { held = drop count old.held })

-- a group is the first held item as it came, or each of its items is counted
abbrev pub PassesOrCounts : RewriterState → List (Call × Reply) → Type 0
PassesOrCounts w group = (group ≡ take 1 w.held) ⊎ All IsCounted group

-- A rewriter stands for the items fed and the groups given where the groups are those of the first decisions, and
-- these leave the held items.
pub record Stands (w : RewriterState) (fed : List (Call × Reply)) (given : List (List (Call × Reply))) : Type 0 where
  pub decided : Decides (decide (not w.finished) w.rules) fed given w.held

-- the rewritten list: what is sure of it while items may come, and the whole once none do
abbrev pub rewritten : RewriterState → List (Call × Reply) → List (Call × Reply)
rewritten w fed = joined (groups (decide (not w.finished) w.rules) fed)

-- What an answer of `next` says of the lists that the rewriter stands for: a group is one more of those given; and
-- where there is none, the groups given, joined, are the rewritten list.
abbrev pub GivesNext : RewriterState → Option (List (Call × Reply)) → RewriterState → Type 0
GivesNext old None new = (fed : List (Call × Reply)) (given : List (List (Call × Reply))) → Stands old fed given → joined given ≡ rewritten old fed
GivesNext old (Some group) new = (fed : List (Call × Reply)) (given : List (List (Call × Reply))) → Stands old fed given → Stands new fed (given ++ group ∷ [])
