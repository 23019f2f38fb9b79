-- What a rewriter's calls leave, over the fields that they read and write.
use Rattle.std.proofs.Common.{◌≡◌, Bool, true, false, List, [], ◌∷◌, ◌++◌, ap, ◌∙◌, subst}
use Rattle.mv_calls.specs.declared.calls.Call.{Call}
use Rattle.mv_calls.specs.declared.calls.Reply.{Reply}
use Rattle.mv_rules.specs.declared.rule.Rule.{Rule}
use Rattle.mv_rules.specs.Shape.{AreShaped}
use Rattle.mv_rewrite.specs.RewriterState.{RewriterState, Stands}
use Rattle.mv_rewrite.proofs.RewriterLaws.{stands_fed, stands_finished}

abbrev pub state_of : List Rule → List (Call × Reply) → Bool → RewriterState
state_of rules held finished = record { rules = rules; held = held; finished = finished }

pub feed_stands : (rules : List Rule) (held later : List (Call × Reply)) (finished : Bool) (item : Call × Reply) (old : RewriterState)
    → state_of rules held finished ≡ old → AreShaped rules → old.finished ≡ false → later ≡ held ++ item ∷ []
    → (fed : List (Call × Reply)) (given : List (List (Call × Reply))) → Stands old fed given → Stands (state_of rules later finished) (fed ++ item ∷ []) given
feed_stands rules held later finished item old view shaped running is fed given h =
    stands_fed old (state_of rules later finished) item (subst (λ (w : RewriterState). AreShaped w.rules) view shaped) running
    (ap (λ (k : List (Call × Reply)). state_of rules k finished) is
    ∙ ap (λ (w : RewriterState). let r : RewriterState = record w { held = w.held ++ item ∷ [] } in r) view)
    fed given h

pub finish_stands : (rules : List Rule) (held : List (Call × Reply)) (finished : Bool) (old : RewriterState)
    → state_of rules held finished ≡ old → AreShaped rules
    → (fed : List (Call × Reply)) (given : List (List (Call × Reply))) → Stands old fed given → Stands (state_of rules held true) fed given
finish_stands rules held finished old view shaped fed given h =
    stands_finished old (state_of rules held true) (subst (λ (w : RewriterState). AreShaped w.rules) view shaped)
    (ap (λ (w : RewriterState). let r : RewriterState = record w { finished = true } in r) view)
    fed given h
