-- What a follower heard: the calls since the last copy or promotion.
use Rattle.std.proofs.Common.{◌≡◌, Option, Some, None, List, [], ◌∷◌, ◌++◌, refl, sym, ◌∙◌, ap}
use Rattle.mv_calls.specs.declared.calls.Call.{Call}
use Rattle.mv_calls.specs.declared.calls.Reply.{Reply}
use Rattle.mv_version.specs.Behaviour.{Behaviour}
use Rattle.mv_history.specs.Followers.{Standing, Following}
use Rattle.mv_history.specs.Stretches.{heard_since}
use Rattle.mv_history.specs.World.{World, after_entries, after_entry, also_hears, also_stands}
use Rattle.mv_history.specs.declared.log.Entry.{Entry}
use Rattle.mv_history.specs.declared.log.Entry.TheVariants as entry
use Rattle.mv_history.specs.declared.log.Mark.TheVariants as mark
use Rattle.mv_history.specs.declared.updates.Update.{Update}

module _ {V : Type 0} (b : Behaviour V) where
  -- a follower, if there is one, heard these
  abbrev pub Hears : Option (Following V) → List (Call × Reply) → Type 0
  Hears o items = (g : Following V) → o ≡ Some g → g.heard ≡ items

  hears_more : (o : Option (Following V)) (items : List (Call × Reply)) (item : Call × Reply) → Hears o items → Hears (also_hears o item) (items ++ item ∷ [])
  hears_more None items item h g is = absurd (let bad : None ≡ Some g = is in cc)
  hears_more (Some f) items item h g is = let same : (record { files = f.files; base = f.base; heard = f.heard ++ item ∷ [] }) ≡ g = cc in ap (λ x. x.heard) (sym same) ∙ ap (λ l. l ++ item ∷ []) (h f refl)

  hears_anew : (f : Following V) → f.heard ≡ [] → Hears (Some f) []
  hears_anew f none g is = let same : f ≡ g = cc in ap (λ x. x.heard) (sym same) ∙ none

  hears_stands : (lead : V) (o : Option (Following V)) → Hears (also_stands lead o) []
  hears_stands lead None g is = absurd (let bad : None ≡ Some g = is in cc)
  hears_stands lead (Some f) g is = hears_anew (record { files = f.files; base = Standing lead; heard = [] }) refl g is

  pub hears_none : (items : List (Call × Reply)) → Hears None items
  hears_none items g is = absurd (let bad : None ≡ Some g = is in cc)

  -- so it is over the entries of a log, whether or not they may come
  pub heard_is : (us : List Update) (w : World V) (items : List (Call × Reply)) (es : List Entry) → Hears w.following items → Hears (after_entries b us w es).following (heard_since items es)
  heard_is us w items [] h = h
  heard_is us w items (entry.Call item ∷ es) h = heard_is us (after_entry b us w (entry.Call item)) (items ++ item ∷ []) es (hears_more w.following items item h)
  heard_is us w items (entry.Point ∷ es) h = heard_is us (after_entry b us w entry.Point) items es h
  heard_is us w items (entry.Order text r ∷ es) h = heard_is us (after_entry b us w (entry.Order text r)) items es h
  heard_is us w items (entry.Mark (mark.Fork u) ∷ es) h = heard_is us (after_entry b us w (entry.Mark (mark.Fork u))) [] es (hears_anew _ refl)
  heard_is us w items (entry.Mark (mark.NoCopy u) ∷ es) h = heard_is us (after_entry b us w (entry.Mark (mark.NoCopy u))) items es h
  heard_is us w items (entry.Mark (mark.Hand x) ∷ es) h = heard_is us (after_entry b us w (entry.Mark (mark.Hand x))) items es h
  heard_is us w items (entry.Mark mark.Promote ∷ es) h = heard_is us (after_entry b us w (entry.Mark mark.Promote)) [] es (hears_stands w.lead w.following)
  heard_is us w items (entry.Mark mark.Over ∷ es) h = heard_is us (after_entry b us w (entry.Mark mark.Over)) items es (hears_none items)
  heard_is us w items (entry.Mark mark.Back ∷ es) h = heard_is us (after_entry b us w (entry.Mark mark.Back)) items es (hears_none items)
  heard_is us w items (entry.Mark mark.Finish ∷ es) h = heard_is us (after_entry b us w (entry.Mark mark.Finish)) items es (hears_none items)
  heard_is us w items (entry.Mark (mark.Discard x) ∷ es) h = heard_is us (after_entry b us w (entry.Mark (mark.Discard x))) items es (hears_none items)
  heard_is us w items (entry.Mark (mark.Dropped x) ∷ es) h = heard_is us (after_entry b us w (entry.Mark (mark.Dropped x))) items es (hears_none items)
  heard_is us w items (entry.Mark (mark.End x) ∷ es) h = heard_is us (after_entry b us w (entry.Mark (mark.End x))) items es (hears_none items)
