use Rattle.std.proofs.Common.{◌≡◌, ℕ, ◌-◌, ◌%◌, length, map, ap, sym, ◌∙◌, refl, subst, arith}
use Rattle.std.proofs.lemmas.List.{length-map}
use Rattle.mv_words.specs.Commands.{AreInThrees}
use Rattle.mv_words.proofs.Asking.{audit_asked, audit_are, rest_length, threes}
use Rattle.mv_words.proofs.reading.audit_of.Goals.{then-places-lt2-via-then-places-lt2, then-places-lt2-via-else-places-lt2+then-places-ne0}
use Rattle.mv_words.proofs.reading.audit_of.Goals as goal

pub returns-then-places-lt2-clause-bad : goal.returns-then-places-lt2-clause-bad
returns-then-places-lt2-clause-bad c = λ e command asks.
    let is = audit_asked _ _ command asks in
    let n : length (map (λ a. a.now) c.args.given.now.places.items) ≡ length c.as_slice-places.result.now = length-map _ _ ∙ ap length (sym c.as_slice-places.ensures.value) in
    elim c.then-places-lt2.branch [
      | then-places-lt2-via-then-places-lt2 w ↦ let some = is.enough in let less = w.if-places-lt2.true in omega (arith, n, some, less)
      | then-places-lt2-via-else-places-lt2+then-places-ne0 w ↦ w.if-places-ne0.true (ap (λ (k : ℕ). (k - 2) % 3) (sym n) ∙ is.in_threes)
    ]

pub returns-clause-ok : goal.returns-clause-ok
returns-clause-ok c = (
  refl,
  c.requires,
  audit_are (λ a. a.now) c.as_slice-places.result.now _ _ _ _ _ _ c.as_slice-places.ensures.value c.if-places-lt2.false (c.in_ok-log.ensures ∙ c.as_bytes.ensures.value) (c.in_ok-old.ensures ∙ c.as_bytes-2.ensures.value) c.in_ok-updates.ensures,
  subst AreInThrees (sym c.in_ok-updates.ensures) (threes _ (ap (λ (k : ℕ). k % 3) (rest_length (λ a. a.now) c.as_slice-places.result.now) ∙ c.if-places-ne0.false)),
)
