-- The steps of a plain fold over a log.
use Rattle.std.specs.Prelude.{◌≡◌, ℕ, ◌+◌, ◌<◌, ◌≤◌, ◌^◌, List, [], ◌∷◌, ◌++◌, length, refl, Option, None, Some, IfNone, IfSome}
use Rattle.std.proofs.Common.{ap, arith, sym, subst, ◌∙◌, append_assoc, append-nil, length-append}
use Rattle.mv_version.specs.Behaviour.{Behaviour}
use Rattle.mv_audit.specs.Audit.{IsCounted}
use Rattle.mv_history.specs.Statuses.{first_status}
use Rattle.mv_history.specs.World.{World, AreLegal, IsFirstIllegal, MayEnter, after_entries, after_entry}
use Rattle.mv_history.specs.declared.log.Entry.{Entry}
use Rattle.mv_history.specs.declared.updates.Update.{Update}
use Rattle.mv_history.proofs.Ending.{may_runs}
use Rattle.mv_history.proofs.Whole.{first_small}
use Rattle.mv_history.proofs.WorldLaws.{AreLegal-append, after_entries-append, entry_rises, legal_small}

module _ {V : Type 0} (b : Behaviour V) where
  module _ (updates : List Update) where
    -- the counts before an entry that may come
    pub counts_fit : (w : World V) (e : Entry) → MayEnter b updates w e → IsCounted w.status → (w.status.number < 2 ^ 63) × (w.status.since < 2 ^ 63) × (w.status.updates < 2 ^ 31) × (w.status.fresh < 2 ^ 31)
    counts_fit w e may counted =
        let few = counted.small.entries (may_runs b updates w e may) in
        let orders : w.status.fresh ≤ 64 = counted.small.orders in
        let number = counted.number in
        let accepted = counted.updates in
        (omega (arith, few, number), omega (arith, few), omega (arith, orders, accepted), omega (arith, orders))

    counted_once : (w : World V) (e : Entry) → MayEnter b updates w e → IsCounted w.status → IsCounted (after_entry b updates w e).status
    counted_once w e may counted =
        let number = counted.number in
        let accepted = counted.updates in
        let rise = (entry_rises w.status e).0 in
        record { small = legal_small b updates w (e ∷ []) (may, tt) counted.small; number = omega (arith, number); updates = omega (arith, accepted, rise) }

    -- i entries were read, and may come; the rest is left
    pub record IsFolded (first : World V) (es : List Entry) (i : ℕ) (rest : List Entry) (w : World V) : Type 0 where
      pub before : List Entry
      pub split : es ≡ before ++ rest
      pub count : length before ≡ i
      pub legal : AreLegal b updates first before
      pub world : w ≡ after_entries b updates first before
      pub counted : IsCounted w.status

    pub folded_first : (first : World V) (es : List Entry) → IsCounted first.status → IsFolded first es 0 es first
    folded_first first es counted = record { before = []; split = refl; count = refl; legal = tt; world = refl; counted = counted }

    pub folded_more : (first : World V) (es : List Entry) (i : ℕ) (e : Entry) (rest : List Entry) (w next : World V) → IsFolded first es i (e ∷ rest) w
        → MayEnter b updates w e → next ≡ after_entry b updates w e → IsFolded first es (i + 1) rest next
    folded_more first es i e rest w next folded may is =
        let P : World V → Type 0 = λ x. MayEnter b updates x e in
        let C : World V → Type 0 = λ x. IsCounted x.status in
        record {
          before = folded.before ++ e ∷ [];
          split = folded.split ∙ sym (append_assoc folded.before (e ∷ []) rest);
          count = length-append folded.before (e ∷ []) ∙ ap (λ n. n + 1) folded.count;
          legal = AreLegal-append b updates first folded.before (e ∷ []) folded.legal (subst P folded.world may, tt);
          world = is ∙ ap (λ x. after_entry b updates x e) folded.world ∙ sym (after_entries-append b updates first folded.before (e ∷ []));
          counted = subst C (sym is) (counted_once w e may folded.counted);
        }

    pub folded_bad : (first : World V) (es : List Entry) (i : ℕ) (e : Entry) (rest : List Entry) (w : World V) → IsFolded first es i (e ∷ rest) w
        → (MayEnter b updates w e → ⊥) → IsFirstIllegal b updates first es i
    folded_bad first es i e rest w folded bad =
        let P : World V → Type 0 = λ x. MayEnter b updates x e → ⊥ in
        record { before = folded.before; bad = e; behind = rest; split = folded.split; count = folded.count; legal = folded.legal; refused = subst P folded.world bad }

    pub folded_all : (first : World V) (es : List Entry) (i : ℕ) (w : World V) → IsFolded first es i [] w → AreLegal b updates first es
    folded_all first es i w folded =
        let P : List Entry → Type 0 = λ x. AreLegal b updates first x in
        subst P (sym (folded.split ∙ append-nil folded.before)) folded.legal

pub first_counted : IsCounted first_status
first_counted = record { small = first_small; number = omega arith; updates = omega arith }

-- ## What a turn answered

pub at_none : {X : Type 0} (o : Option X) (P : Type 0) → o ≡ None → IfNone o P → P
at_none None P is h = h
at_none (Some x) P is h = absurd (let bad : Some x ≡ None = is in cc)

pub at_some : {X : Type 0} (o : Option X) (x : X) (P : X → Type 0) → o ≡ Some x → IfSome o P → P x
at_some None x P is h = absurd (let bad : None ≡ Some x = is in cc)
at_some (Some y) x P is h = let same : Some y ≡ Some x = is in let one : y ≡ x = cc in subst P one h
