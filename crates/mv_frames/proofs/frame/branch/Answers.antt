use Rattle.std.proofs.Common.{◌≡◌, ◌∙◌, ◌+◌, ◌-◌, ap, arith, length, reverse, take, drop, Some}
use Rattle.std.specs.Option.{option_map}
use Rattle.mv_frames.proofs.Branches.{Target, target, leaves, begins, branch-within}
use Rattle.mv_frames.proofs.Lists.{reverse-take}
use Rattle.mv_frames.proofs.frame.branch.Goals as goal
use Rattle.mv_frames.proofs.frame.branch.Goals.{After-index-label, After-truncate, After-truncate-in-None}
use Rattle.mv_execution.specs.Rows.{branched}
use Rattle.mv_frames.specs.Frames.{frame_of, IsPlaced}

pub overflow_sub-below-2 : goal.overflow_sub-below-2
overflow_sub-below-2 c = omega (arith, branch-within c.args.code.now c.args.frame.now c.args.n c.requires.placed c.requires.operands, c.len.ensures, c.args.frame.now.labels.ok.0)

there : (c : After-index-label) → Target c.args.code.now c.args.frame.now c.args.n c.index-label.result.now (reverse (take (c.len.result - 1 - c.args.n) c.args.frame.now.labels.items))
there c =
    let n = c.len.ensures ∙ c.args.frame.now.labels.ok.0 in
    target c.args.code.now c.args.frame.now c.args.n (c.len.result - 1 - c.args.n) c.index-label.result.now c.requires.placed c.requires.operands (ap (λ m. m - 1 - c.args.n) n) c.index-label.ensures

pub keep_top-requires : goal.keep_top-requires
keep_top-requires c =
    let t = there (goal.at.keep_top-requires c).After-index-label in
    omega (arith, t.fits, c.args.frame.now.operands.ok.0)

pub overflow_add-n : goal.overflow_add-n
overflow_add-n c =
    let t = there (goal.at.overflow_add-n c).After-index-label in
    omega (arith, t.listed, c.len.ensures, c.args.frame.now.labels.ok.0)

pub past_ends-frame-requires : goal.past_ends-frame-requires
past_ends-frame-requires c =
    let t = there (goal.at.past_ends-frame-requires c).After-index-label in
    (t.rs, t.left, omega (arith, t.within))

-- what a branch to a loop leaves
again : (c : After-truncate) → (branched c.args.n (frame_of c.args.code.now c.args.frame.now) ≡ Some (frame_of c.args.code.now (record c.args.frame.now { at = c.in-Some.start; operands = c.keep_top.new.operands; labels = c.truncate.new.self }))) × IsPlaced c.args.code.now (record c.args.frame.now { at = c.in-Some.start; operands = c.keep_top.new.operands; labels = c.truncate.new.self })
again c =
    let t = there (goal.at-returns-in-Some-clause-moves c).After-index-label in
    let items = c.args.frame.now.labels.items in
    let n : length items - (c.len.result - 1 - c.args.n + 1) ≡ c.args.n = omega (arith, t.listed, c.len.ensures, c.args.frame.now.labels.ok.0) in
    let ls = ap reverse c.truncate.ensures.items ∙ reverse-take (c.len.result - 1 - c.args.n + 1) items ∙ ap (λ m. drop m (reverse items)) n ∙ t.labels in
    begins c.args.code.now c.args.frame.now c.args.n c.index-label.result.now _ t c.in-Some.start (reverse c.keep_top.new.operands.items) (reverse c.truncate.new.self.items) c.in-Some.is (rw c.args.frame.now.operands.ok.0 at c.keep_top.ensures) ls

pub returns-in-Some-clause-moves : goal.returns-in-Some-clause-moves
returns-in-Some-clause-moves c = (again c).0

pub returns-in-Some-clause-placed : goal.returns-in-Some-clause-placed
returns-in-Some-clause-placed c = (again c).1

-- what a branch out of a block leaves
gone : (c : After-truncate-in-None) → (branched c.args.n (frame_of c.args.code.now c.args.frame.now) ≡ Some (frame_of c.args.code.now (record c.args.frame.now { at = c.past_ends-frame.result; operands = c.keep_top.new.operands; labels = c.truncate-in-None.new.self }))) × IsPlaced c.args.code.now (record c.args.frame.now { at = c.past_ends-frame.result; operands = c.keep_top.new.operands; labels = c.truncate-in-None.new.self })
gone c =
    let t = there (goal.at-returns-in-None-clause-moves c).After-index-label in
    let h = c.past_ends-frame.ensures.behind ∙ ap (option_map (drop (c.args.n + 1))) t.left in
    let r = leaves c.args.code.now c.args.frame.now c.args.n c.index-label.result.now _ t c.past_ends-frame.result (reverse c.keep_top.new.operands.items) (reverse c.truncate-in-None.new.self.items) c.in-None.is (rw c.args.frame.now.operands.ok.0 at c.keep_top.ensures) (ap reverse c.truncate-in-None.ensures.items) h in
    (r.0, (drop (c.args.n + 1) t.rs, r.1, r.2))

pub returns-in-None-clause-moves : goal.returns-in-None-clause-moves
returns-in-None-clause-moves c = (gone c).0

pub returns-in-None-clause-placed : goal.returns-in-None-clause-placed
returns-in-None-clause-placed c = (gone c).1
