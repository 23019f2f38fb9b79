-- What two lists brought in, one after the other.
use Rattle.std.specs.Prelude.{◌≡◌, ℕ, List, [], ◌∷◌, ◌++◌, refl}
use Rattle.std.proofs.Common.{ap, sym, ◌∙◌, append_assoc}
use Rattle.mv_calls.specs.Items.{eaten, eaten_by, accepted, accepted_by}
use Rattle.mv_calls.specs.declared.calls.Item.{Item}

pub eaten-append : (first rest : List Item) (fd : ℕ) → eaten (first ++ rest) fd ≡ eaten first fd ++ eaten rest fd
eaten-append [] rest fd = refl
eaten-append (item ∷ first) rest fd =
    ap (λ bytes. eaten_by item.0 item.1 fd ++ bytes) (eaten-append first rest fd)
    ∙ sym (append_assoc (eaten_by item.0 item.1 fd) (eaten first fd) (eaten rest fd))

pub accepted-append : (first rest : List Item) → accepted (first ++ rest) ≡ accepted first ++ accepted rest
accepted-append [] rest = refl
accepted-append (item ∷ first) rest =
    ap (λ pairs. accepted_by item.0 item.1 ++ pairs) (accepted-append first rest)
    ∙ sym (append_assoc (accepted_by item.0 item.1) (accepted first) (accepted rest))
