-- A short content has no mark.
use Rattle.std.proofs.Common.{◌≡◌, ℕ, List, length, take, true, false, IsTrue, sym, ◌∙◌, ap, arith, length-take}
use Rattle.std.specs.Str.{bytes_eq}
use Rattle.std.proofs.lemmas.Slice.Eq.{bytes_eq-Decides}
use Rattle.mv_disk.specs.Records.{mark}
use Rattle.mv_disk.proofs.recovery.is_marked.Goals as goal

pub returns-then-len-lt8-clause-marked : goal.returns-then-len-lt8-clause-marked
returns-then-len-lt8-clause-marked g c = λ content told.
    (λ (no : IsTrue false). absurd (let bad : false ≡ true = no in cc), λ same. absurd (omega (arith, c.requires content told, ap length same, length-take 8 content, c.if-len-lt8.true)))

pub returns-clause-marked : goal.returns-clause-marked
returns-clause-marked g c = λ content told.
    let head = c.as_slice.ensures ∙ (c.in_ok-read_at.ensures.bytes content told ∙ ap (λ (n : ℕ). take n content) c.read_at.auto.into) in
    let is : c.eq.result ≡ bytes_eq (take 8 content) mark =
    c.eq.ensures ∙ (ap (λ (l : List ℕ). bytes_eq l c.as_slice-2.result.now) head ∙ ap (λ (l : List ℕ). bytes_eq (take 8 content) l) c.as_slice-2.ensures) in
    let decides = bytes_eq-Decides (take 8 content) mark in
    (λ yes. decides.0 (sym is ∙ yes), λ same. is ∙ decides.1 same)
