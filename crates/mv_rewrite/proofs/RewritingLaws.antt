-- What is sure of a list is a front of what is sure of each longer one, and of the whole rewritten longer one.
use Rattle.std.specs.Prelude.{◌≡◌, Bool, true, false, List, [], ◌++◌, refl}
use Rattle.std.proofs.Common.{subst}
use Rattle.mv_calls.specs.declared.calls.Call.{Call}
use Rattle.mv_calls.specs.declared.calls.Reply.{Reply}
use Rattle.mv_rules.specs.declared.rule.Rule.{Rule}
use Rattle.mv_rules.specs.Shape.{AreShaped}
use Rattle.mv_rewrite.specs.Deciding.{Decides, BeginsWith}
use Rattle.mv_rewrite.proofs.DecidingLaws.{decision_stays, decision_takes, decision_waits, decision_ends, TakesSome, Keeps, decides_all, groups_front, joined_front}
use Rattle.mv_rewrite.specs.Matching.{front_of, could_match}
use Rattle.mv_rewrite.proofs.MatchingLaws.{steady_rules}
use Rattle.mv_rewrite.specs.Rewriting.{StopsShort, decide, sure_groups, turned_groups, sure, turned}

-- a decision takes at least one item, and none that isn't there
pub decide_takes : (more : Bool) (rules : List Rule) → AreShaped rules → TakesSome (decide more rules)
decide_takes more rules shaped l t h = decision_takes front_of could_match rules (steady_rules rules shaped) l more t h

-- a sure decision stays, whatever items come, and where none come
pub decide_keeps : (more : Bool) (rules : List Rule) → AreShaped rules → Keeps (decide true rules) (decide more rules)
decide_keeps more rules shaped l m t h = decision_stays front_of could_match rules (steady_rules rules shaped) l m more t h

pub decide_stays : (more : Bool) (rules : List Rule) → AreShaped rules → Keeps (decide true rules) (decide more rules)
decide_stays more rules shaped l m t h = decide_keeps more rules shaped l m t h

-- what is sure of a list is a front of what is sure of a longer one
pub sure_front : (rules : List Rule) (l m : List (Call × Reply)) → AreShaped rules → BeginsWith (sure rules (l ++ m)) (sure rules l)
sure_front rules l m shaped =
    joined_front (sure_groups rules (l ++ m)) (sure_groups rules l)
    (groups_front (decide true rules) (decide true rules) l m (decide_takes true rules shaped) (decide_takes true rules shaped) (decide_keeps true rules shaped) refl)

-- and of the whole rewritten longer one
pub turned_front : (rules : List Rule) (l m : List (Call × Reply)) → AreShaped rules → BeginsWith (turned rules (l ++ m)) (sure rules l)
turned_front rules l m shaped =
    joined_front (turned_groups rules (l ++ m)) (sure_groups rules l)
    (groups_front (decide true rules) (decide false rules) l m (decide_takes true rules shaped) (decide_takes false rules shaped) (decide_keeps false rules shaped) refl)

-- where the sure decisions stop at most seven items are left
pub sure_stops : (rules : List Rule) (items : List (Call × Reply)) → AreShaped rules → (rest : List (Call × Reply)) × StopsShort rules items rest
sure_stops rules items shaped =
    let d = decides_all (decide true rules) 0 items (decide_takes true rules shaped) refl in
    (d.0, record { decided = d.1; stopped = d.2; few = decision_waits front_of could_match rules (steady_rules rules shaped) d.0 true d.2 })

-- the whole rewriting leaves nothing
pub turned_ends : (rules : List Rule) (items : List (Call × Reply)) → AreShaped rules → Decides (decide false rules) items (turned_groups rules items) []
turned_ends rules items shaped =
    let d = decides_all (decide false rules) 0 items (decide_takes false rules shaped) refl in
    let e : d.0 ≡ [] = decision_ends front_of could_match rules d.0 d.2 in
    subst (λ (rest : List (Call × Reply)). Decides (decide false rules) items (turned_groups rules items) rest) e d.1
