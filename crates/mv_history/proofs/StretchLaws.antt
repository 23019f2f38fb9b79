-- In a stretch without a change of leader the leader is what its calls and points make of it; in one without a change of the
-- follower, this has heard exactly the calls.
use Rattle.std.specs.Prelude.{◌≡◌, List, [], ◌∷◌, ◌++◌, Some, Option, refl}
use Rattle.std.proofs.Common.{ap, ◌∙◌, append_assoc}
use Rattle.mv_calls.specs.declared.calls.Call.{Call}
use Rattle.mv_calls.specs.declared.calls.Reply.{Reply}
use Rattle.mv_version.specs.Behaviour.{Behaviour}
use Rattle.mv_history.specs.Followers.{Following, hears}
use Rattle.mv_history.specs.Stretches.{KeepsLeader, KeepsFollower, MarksAre, run_of}
use Rattle.mv_history.specs.Ties.{with_more}
use Rattle.mv_history.specs.World.{World, also_hears, after_entry, after_entries, lead_marked, following_marked, outside}
use Rattle.mv_history.specs.declared.log.Entry.{Entry}
use Rattle.mv_history.specs.declared.log.Entry.TheVariants as entry
use Rattle.mv_history.specs.declared.log.Mark.{Mark}
use Rattle.mv_history.specs.declared.log.Mark.TheVariants as mark
use Rattle.mv_history.specs.declared.updates.Update.{Update}
use Rattle.mv_history.proofs.ExtendsLaws.{none_more}

module _ {V : Type 0} (b : Behaviour V) (updates : List Update) where
  mark_leads : (w : World V) (m : Mark) → KeepsLeader m → lead_marked b w m ≡ w.lead
  mark_leads w (mark.Fork u) keeps = refl
  mark_leads w (mark.NoCopy u) keeps = refl
  mark_leads w (mark.Hand x) keeps = refl
  mark_leads w mark.Promote keeps = absurd keeps
  mark_leads w mark.Over keeps = absurd keeps
  mark_leads w mark.Back keeps = absurd keeps
  mark_leads w mark.Finish keeps = refl
  mark_leads w (mark.Discard x) keeps = refl
  mark_leads w (mark.Dropped x) keeps = refl
  mark_leads w (mark.End x) keeps = refl

  pub stretch_leads : (w : World V) (es : List Entry) → MarksAre KeepsLeader es → (after_entries b updates w es).lead ≡ run_of b w.lead es
  stretch_leads w [] keeps = refl
  stretch_leads w (entry.Call item ∷ es) keeps = stretch_leads (after_entry b updates w (entry.Call item)) es keeps
  stretch_leads w (entry.Point ∷ es) keeps = stretch_leads (after_entry b updates w entry.Point) es keeps
  stretch_leads w (entry.Order text r ∷ es) keeps = stretch_leads (after_entry b updates w (entry.Order text r)) es keeps
  stretch_leads w (entry.Mark m ∷ es) keeps = stretch_leads (after_entry b updates w (entry.Mark m)) es keeps.1 ∙ ap (λ s. run_of b s es) (mark_leads w m keeps.0)

  mark_follows : (w : World V) (m : Mark) → KeepsFollower m → following_marked b updates w m ≡ w.following
  mark_follows w (mark.Fork u) keeps = absurd keeps
  mark_follows w (mark.NoCopy u) keeps = refl
  mark_follows w (mark.Hand x) keeps = refl
  mark_follows w mark.Promote keeps = absurd keeps
  mark_follows w mark.Over keeps = absurd keeps
  mark_follows w mark.Back keeps = absurd keeps
  mark_follows w mark.Finish keeps = absurd keeps
  mark_follows w (mark.Discard x) keeps = absurd keeps
  mark_follows w (mark.Dropped x) keeps = absurd keeps
  mark_follows w (mark.End x) keeps = absurd keeps

  more_of : (f : Following V) (xs ys : List (Call × Reply)) → with_more (with_more f xs) ys ≡ with_more f (xs ++ ys)
  more_of f xs ys = ap (λ l. let k : Following V = record { files = f.files; base = f.base; heard = l } in k) (append_assoc f.heard xs ys)

  pub stretch_hears : (w : World V) (es : List Entry) (f : Following V) → MarksAre KeepsFollower es → w.following ≡ Some f → (after_entries b updates w es).following ≡ Some (with_more f (outside es))
  stretch_hears w [] f keeps is = is ∙ ap (λ k. let o : Option (Following V) = Some k in o) (none_more f)
  stretch_hears w (entry.Call item ∷ es) f keeps is =
      stretch_hears (after_entry b updates w (entry.Call item)) es (hears f item) keeps (ap (λ o. also_hears o item) is)
      ∙ ap (λ k. let o : Option (Following V) = Some k in o) (more_of f (item ∷ []) (outside es))
  stretch_hears w (entry.Point ∷ es) f keeps is = stretch_hears (after_entry b updates w entry.Point) es f keeps is
  stretch_hears w (entry.Order text r ∷ es) f keeps is = stretch_hears (after_entry b updates w (entry.Order text r)) es f keeps is
  stretch_hears w (entry.Mark m ∷ es) f keeps is = stretch_hears (after_entry b updates w (entry.Mark m)) es f keeps.1 (mark_follows w m keeps.0 ∙ is)
