use Rattle.std.proofs.Common.{◌≡◌, ◌∷◌, take, drop, sym, ap, ◌∙◌, subst, ℕ, List}
use Rattle.mv_scan.specs.Lines.{lines_of, line_len, IsFirstLine}
use Rattle.mv_scan.proofs.LineLaws.{lines_front, first_front}
use Rattle.mv_scan.proofs.lines.first_line.Goals as goal

pub returns-clause-lines : goal.returns-clause-lines
returns-clause-lines c =
    let count = c.count_to_feed.ensures.count in
    let front : c.split_at.result.0.now ≡ take (line_len c.args.bytes.now) c.args.bytes.now =
    c.split_at.ensures.front ∙ ap (λ (n : ℕ). take n c.args.bytes.now) count in
    let back : c.split_at.result.1.now ≡ drop (line_len c.args.bytes.now) c.args.bytes.now =
    c.split_at.ensures.back ∙ ap (λ (n : ℕ). drop n c.args.bytes.now) count in
    lines_front c.args.bytes.now c.split_at.result.0.now c.split_at.result.1.now c.requires front back
    ∙ ap (λ (k : List ℕ). c.split_at.result.0.now ∷ lines_of k) (sym c.behind_first.ensures)

pub returns-clause-first : goal.returns-clause-first
returns-clause-first c =
    let count = c.count_to_feed.ensures.count in
    let front : c.split_at.result.0.now ≡ take (line_len c.args.bytes.now) c.args.bytes.now =
    c.split_at.ensures.front ∙ ap (λ (n : ℕ). take n c.args.bytes.now) count in
    let back : c.split_at.result.1.now ≡ drop (line_len c.args.bytes.now) c.args.bytes.now =
    c.split_at.ensures.back ∙ ap (λ (n : ℕ). drop n c.args.bytes.now) count in
    subst (λ (k : List ℕ). IsFirstLine c.split_at.result.0.now k c.args.bytes.now) (sym c.behind_first.ensures)
    (first_front c.args.bytes.now c.split_at.result.0.now c.split_at.result.1.now front back)
