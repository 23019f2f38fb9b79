use Rattle.std.proofs.Common.{refl}
use Rattle.mv_words.proofs.Asking.{if_ok, nothing_given_of, nothing_asked, first_of_some, other_err, says_by}
use Rattle.mv_words.proofs.reading.read_texts.Goals as goal

pub returns-in-Ok-clause-ok : goal.returns-in-Ok-clause-ok
returns-in-Ok-clause-ok c =
    if_ok _ _ _ (λ command asks. says_by _ _ _ _ command (first_of_some (λ w. w.now) c.args.words.now _ c.if-is_empty.ensures) c.in-Ok.ensures.ok asks) c.command_of.ensures.ok

pub returns-in-Ok-clause-bad : goal.returns-in-Ok-clause-bad
returns-in-Ok-clause-bad c = λ e.
    nothing_asked _ _ _ _ (first_of_some (λ w. w.now) c.args.words.now _ c.if-is_empty.ensures) (c.in_default.ensures.no_help refl) (c.in_default.ensures.no_version refl) c.in-Ok.ensures.ok
    (c.command_of.ensures.bad e)

pub returns-in-Err-clause-bad : goal.returns-in-Err-clause-bad
returns-in-Err-clause-bad c = λ e.
    nothing_given_of (λ w. w.now) c.args.words.now c.if-is_empty.ensures (c.in_default.ensures.no_help refl) (c.in_default.ensures.no_version refl) (c.in-Err.ensures.bad (other_err _ _ e))
