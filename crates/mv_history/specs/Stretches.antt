-- Stretches of a log in which one version leads, or one follower stands.
use Rattle.std.specs.Prelude.{List, [], ◌∷◌, ◌++◌}
use Rattle.mv_calls.specs.declared.calls.Call.{Call}
use Rattle.mv_calls.specs.declared.calls.Reply.{Reply}
use Rattle.mv_version.specs.Behaviour.{Behaviour}
use Rattle.mv_history.specs.declared.log.Entry.{Entry}
use Rattle.mv_history.specs.declared.log.Entry.TheVariants as entry
use Rattle.mv_history.specs.declared.log.Mark.{Mark}
use Rattle.mv_history.specs.declared.log.Mark.TheVariants as mark

-- the mark leaves the leader
abbrev pub KeepsLeader : Mark → Type 0
KeepsLeader mark.Promote = ⊥
KeepsLeader mark.Over = ⊥
KeepsLeader mark.Back = ⊥
KeepsLeader m = Unit {0}

-- the mark leaves the follower, or its absence
abbrev pub KeepsFollower : Mark → Type 0
KeepsFollower (mark.NoCopy u) = Unit {0}
KeepsFollower (mark.Hand x) = Unit {0}
KeepsFollower m = ⊥

abbrev pub MarksAre : (Mark → Type 0) → List Entry → Type 0
MarksAre P [] = Unit {0}
MarksAre P (entry.Mark m ∷ es) = P m × MarksAre P es
MarksAre P (e ∷ es) = MarksAre P es

-- what its calls and points make of a version
abbrev pub run_of : {V : Type 0} → Behaviour V → V → List Entry → V
run_of b s [] = s
run_of b s (entry.Call item ∷ es) = run_of b (b.after s item.1) es
run_of b s (entry.Point ∷ es) = run_of b (b.passed s) es
run_of b s (e ∷ es) = run_of b s es

-- the calls since the last copy or promotion, behind those before the entries
abbrev pub heard_since : List (Call × Reply) → List Entry → List (Call × Reply)
heard_since items [] = items
heard_since items (entry.Call item ∷ es) = heard_since (items ++ item ∷ []) es
heard_since items (entry.Mark (mark.Fork u) ∷ es) = heard_since [] es
heard_since items (entry.Mark mark.Promote ∷ es) = heard_since [] es
heard_since items (e ∷ es) = heard_since items es
