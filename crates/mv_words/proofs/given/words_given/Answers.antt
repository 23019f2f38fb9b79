use Rattle.std.proofs.Common.{◌≡◌, ◌<◌, length, map, drop, ap, sym, subst, ◌∙◌, false, inl, inr}
use Rattle.clap.specs.Kinds.{IsAmong}
use Rattle.clap.specs.Faults.{is_simple_and_free}
use Rattle.clap.specs.Words.{app_of, kind_of}
use Rattle.mv_words.specs.Hyphens.{has_short}
use Rattle.mv_words.proofs.Parsed.{gives_by, single_by, no_fault, short_gives, tail_map, some_words}
use Rattle.mv_words.proofs.given.words_given.Goals as goal

pub returns-then-has_short_word-clause-bad : goal.returns-then-has_short_word-clause-bad
returns-then-has_short_word-clause-bad c = λ e values placed one gives. short_gives _ values placed (c.if-has_short_word.ensures ∙ ap has_short (tail_map c.args.words.now)) gives

pub returns-in-Ok-clause-ok : goal.returns-in-Ok-clause-ok
returns-in-Ok-clause-ok c =
    let words = map (λ w. w.now) c.args.words.now in
    let some : 0 < length words = some_words c.args.words.now c.requires in
    let short : has_short (drop 1 words) ≡ false = ap has_short (sym (tail_map c.args.words.now)) ∙ sym c.if-has_short_word.ensures in
    let options = c.options_in-options.ensures in
    gives_by (app_of c.in_ok-command.command) words c.in-Ok.matches _ _ _ _ _ c.in_ok-command.ensures some short c.in-Ok.ensures.kinds (λ e. (c.in-Ok.ensures.matches e).0)
    options.ring options.log options.listen options.console c.in_ok-places-in-Ok.ensures

pub returns-in-Ok-clause-single : goal.returns-in-Ok-clause-single
returns-in-Ok-clause-single c = single_by _ _ _ _

pub returns-clause-bad : goal.returns-clause-bad
returns-clause-bad c = λ e values placed one gives.
    let words = map (λ w. w.now) c.args.words.now in
    let some : 0 < length words = some_words c.args.words.now c.requires in
    let short : has_short (drop 1 words) ≡ false = ap has_short (sym (tail_map c.args.words.now)) ∙ sym c.if-has_short_word.ensures in
    let none = no_fault (app_of c.in_ok-command.command) words values placed c.in_ok-command.ensures some short one gives in
    elim (c.in-Err.ensures.kinds (ap is_simple_and_free c.in_ok-command.ensures)) [
      | inl memory ↦ absurd (c.in_default.not-OutOfMemory (c.kind.ensures ∙ memory))
      | inr among ↦ subst (IsAmong (kind_of c.in-Err.error)) none among
    ]
