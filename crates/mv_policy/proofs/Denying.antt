-- A line that was taken and answered is one look.
use Rattle.std.proofs.Common.{◌≡◌, ℕ, true, false, List, [], ◌∷◌, ◌++◌, length, take, drop, ap, sym, ◌∙◌, subst, inl, inr, Option, Some}
use Rattle.mv_outside.specs.Told.{told_more, told_first}
use Rattle.mv_outside.specs.declared.console.Line.{Line}
use Rattle.mv_outside.specs.declared.console.Line.TheVariants as line
use Rattle.mv_policy.specs.declared.line.PolicyLine.{PolicyLine}
use Rattle.mv_policy.specs.declared.spoken.Spoken.TheVariants.{Denial}
use Rattle.mv_policy.specs.declared.decision.Decision.TheVariants.{Allowed, Denied}
use Rattle.mv_policy.specs.Decided.{decided}
use Rattle.mv_policy.specs.Spoken.{denial_text}
use Rattle.mv_policy.specs.Guarded.{Seen}
use Rattle.mv_policy.specs.Looks.{first_failure, Looks}
use Rattle.mv_policy.specs.Parted.{HasAnswered, HasDenied}

-- `made` is ready to look, `mid` has taken the line
denied_here : (made mid now : Seen) (r : Line) (text : List ℕ) (rule : ℕ) → made.coming ≡ told_first (Some text) mid.coming
    → mid ≡ record made { coming = mid.coming } → decided made.policy text ≡ Denied rule → made.deaf ≡ false → HasDenied rule mid r now → Looks made r now
denied_here made mid now (line.Line order) text rule taken same denied hears h = absurd h
denied_here made mid now line.Idle text rule taken same denied hears h =
    let come : mid.coming ≡ now.coming = sym (ap (λ (s : Seen). s.coming) h) in
    inr (record {
      text = text;
      rule = rule;
      taken = taken ∙ ap (told_first (Some text)) come;
      denied = denied;
      same = h ∙ ap (λ (s : Seen). record s { said = told_more s.said (denial_text rule); stored = s.stored ++ Denial rule ∷ [] }) same
          ∙ ap (λ (k : Option (List (Option (List ℕ)))). record made { coming = k; said = told_more made.said (denial_text rule); stored = made.stored ++ Denial rule ∷ [] }) come;
      hears = hears;
    })
denied_here made mid now line.Closed text rule taken same denied hears h = absurd h
denied_here made mid now line.Failed text rule taken same denied hears h =
    let come : mid.coming ≡ now.coming = sym (ap (λ (s : Seen). s.coming) h.1) in
    inr (record {
      text = text;
      rule = rule;
      part = h.0;
      taken = taken ∙ ap (told_first (Some text)) come;
      denied = denied;
      same = h.1 ∙ ap (λ (s : Seen). record s { said = told_more s.said (take h.0 (denial_text rule)); failed_at = first_failure s.failed_at (length s.stored); deaf = true }) same
          ∙ ap (λ (k : Option (List (Option (List ℕ)))). record made { coming = k; said = told_more made.said (take h.0 (denial_text rule)); failed_at = first_failure made.failed_at (length made.stored); deaf = true }) come;
      hears = hears;
    })
denied_here made mid now line.Memory text rule taken same denied hears h = absurd h

handed_here : (made mid now : Seen) (r : Line) (text order : List ℕ) (from rule : ℕ) → made.coming ≡ told_first (Some text) mid.coming
    → mid ≡ record made { coming = mid.coming } → r ≡ line.Line order → decided made.policy text ≡ Allowed from rule → order ≡ drop from text → now ≡ mid → made.deaf ≡ false → Looks made r now
handed_here made mid now r text order from rule taken same is allowed order_is still hears =
    let come : mid.coming ≡ now.coming = sym (ap (λ (s : Seen). s.coming) still) in
    subst (λ (l : Line). Looks made l now) (sym is) (record {
      text = text;
      from = from;
      rule = rule;
      taken = taken ∙ ap (told_first (Some text)) come;
      allowed = allowed;
      order_is = order_is;
      same = still ∙ same ∙ ap (λ (k : Option (List (Option (List ℕ)))). record made { coming = k }) come;
      hears = hears;
    })

answered_here : (made mid now : Seen) (r : Line) (text : List ℕ) → made.coming ≡ told_first (Some text) mid.coming
    → mid ≡ record made { coming = mid.coming } → made.deaf ≡ false → HasAnswered text mid r now → Looks made r now
answered_here made mid now r text taken same hears (inl h) =
    let own : mid.policy ≡ made.policy = ap (λ (s : Seen). s.policy) same in
    handed_here made mid now r text h.0 h.1 h.2 taken same h.3 (ap (λ (p : List PolicyLine). decided p text) (sym own) ∙ h.4) h.5 h.6 hears
answered_here made mid now r text taken same hears (inr h) =
    let own : mid.policy ≡ made.policy = ap (λ (s : Seen). s.policy) same in
    denied_here made mid now r text h.0 taken same (ap (λ (p : List PolicyLine). decided p text) (sym own) ∙ h.1) hears h.2

-- `made` is ready to look, `mid` has taken the line, `now` has answered it
pub answered_looks : (before made mid now : Seen) (r : Line) (text : List ℕ) → made ≡ before → made.coming ≡ told_first (Some text) mid.coming
    → mid ≡ record made { coming = mid.coming } → before.deaf ≡ false → HasAnswered text mid r now → Looks before r now
answered_looks before made mid now r text is taken same hears h =
    subst (λ (s : Seen). Looks s r now) is (answered_here made mid now r text taken same (ap (λ (s : Seen). s.deaf) is ∙ hears) h)
