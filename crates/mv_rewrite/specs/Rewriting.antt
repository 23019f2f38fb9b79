-- Rewriting a list of items by rules.
--
-- At the front of the items the first rule in the file's order whose left side matches there is replaced by what its
-- right side makes; where none matches, the head passes. Each replacement or passing is one decision.
use Rattle.std.specs.Prelude.{◌≡◌, ℕ, ◌<◌, Bool, true, false, List, length, None, Option}
use Rattle.mv_calls.specs.declared.calls.Call.{Call}
use Rattle.mv_calls.specs.declared.calls.Reply.{Reply}
use Rattle.mv_rules.specs.declared.rule.Rule.{Rule}
use Rattle.mv_rewrite.specs.Deciding.{Decides, decision, groups, joined}
use Rattle.mv_rewrite.specs.Matching.{front_of, could_match}

-- The decision at the front: what is given, and how many items that takes. Where more items may come, there is none
-- while a rule that could match stands before each that matches.
abbrev pub decide : Bool → List Rule → List (Call × Reply) → Option (List (Call × Reply) × ℕ)
decide more rules items = decision front_of could_match more rules items

-- what each decision gives, where more items may come and where none do
abbrev pub sure_groups : List Rule → List (Call × Reply) → List (List (Call × Reply))
sure_groups rules items = groups (decide true rules) items

abbrev pub turned_groups : List Rule → List (Call × Reply) → List (List (Call × Reply))
turned_groups rules items = groups (decide false rules) items

-- what is sure of the rewritten list, whatever items come
abbrev pub sure : List Rule → List (Call × Reply) → List (Call × Reply)
sure rules items = joined (sure_groups rules items)

-- the whole rewritten list
abbrev pub turned : List Rule → List (Call × Reply) → List (Call × Reply)
turned rules items = joined (turned_groups rules items)

-- where the sure decisions stop at most seven items are left
pub record StopsShort (rules : List Rule) (items rest : List (Call × Reply)) : Type 0 where
  pub decided : Decides (decide true rules) items (sure_groups rules items) rest
  pub stopped : decide true rules rest ≡ None
  pub few : length rest < 8
