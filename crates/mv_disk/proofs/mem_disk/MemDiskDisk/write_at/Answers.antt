-- A write, done whole or in part, is one step more.
use Rattle.std.proofs.Common.{◌≡◌, ◌/◌, ℕ, cond, List, [], ◌∷◌, ◌++◌, Some, sym, ◌∙◌, ap, arith, length, take, length-take}
use Rattle.std.proofs.lemmas.List.{take_all}
use Rattle.mv_disk.specs.Disk.{with_bytes}
use Rattle.mv_disk.specs.First.{first_of}
use Rattle.mv_disk.specs.MemDisk.{content_of}
use Rattle.mv_disk.specs.MemDiskLaws.{torn_by}
use Rattle.mv_disk.specs.declared.mem_disk.Step.TheVariants as step
use Rattle.mv_disk.proofs.MemLaws.{elapses, follows, written}
use Rattle.mv_disk.proofs.mem_disk.MemDiskDisk.write_at.Goals as goal
use Rattle.mv_disk.proofs.mem_disk.MemDiskDisk.write_at.Goals.{In_ok-do_write}

first_is : (c : In_ok-do_write) → first_of c.keep_first.new.first c.do_write.new.content.items ≡ c.args.self.now.first
first_is c =
    ap (λ o. first_of o c.do_write.new.content.items) c.in_ok-keep_first.ensures.kept
    ∙ (ap (λ l. first_of c.self.inside.first l) c.as_slice.ensures.value ∙ ap (λ d. d.first) c.self.view_is)

steps_are : (c : In_ok-do_write) → c.do_write.new.steps.items ≡ c.args.self.now.steps ++ step.Write c.args.at c.args.bytes.now c.done_of-done.result ∷ []
steps_are c = c.in_ok-do_write.ensures.step ∙ ap (λ d. d.steps ++ step.Write c.args.at c.args.bytes.now c.done_of-done.result ∷ []) c.self.view_is

pub invariant_of-self-then-fails : goal.invariant_of-self-then-fails
invariant_of-self-then-fails c =
    let d = (goal.at.invariant_of-self-then-fails c).In_ok-do_write in
    written c.args.self.now _ c.do_write.new.steps.items (first_is d) c.args.at c.args.bytes.now c.done_of-done.result (steps_are d)
    ∙ (ap (λ (l : List ℕ). with_bytes l c.args.at (take c.done_of-done.result c.args.bytes.now)) (sym (ap content_of c.self.view_is) ∙ c.self.invariant) ∙ sym c.in_ok-do_write.ensures.written)

pub invariant_of-self-else-fails : goal.invariant_of-self-else-fails
invariant_of-self-else-fails c =
    let d = (goal.at.invariant_of-self-else-fails c).In_ok-do_write in
    written c.args.self.now _ c.do_write.new.steps.items (first_is d) c.args.at c.args.bytes.now c.done_of-done.result (steps_are d)
    ∙ (ap (λ (l : List ℕ). with_bytes l c.args.at (take c.done_of-done.result c.args.bytes.now)) (sym (ap content_of c.self.view_is) ∙ c.self.invariant) ∙ sym c.in_ok-do_write.ensures.written)

pub returns-then-fails-clause-part : goal.returns-then-fails-clause-part
returns-then-fails-clause-part c =
    let d = (goal.at.returns-then-fails-clause-part c).In_ok-do_write in
    let piece : List ℕ = take c.done_of-done.result c.args.bytes.now in (
      with_bytes (content_of c.args.self.now) c.args.at piece,
      ap Some (written c.args.self.now _ c.do_write.new.steps.items (first_is d) c.args.at c.args.bytes.now c.done_of-done.result (steps_are d)),
      torn_by (content_of c.args.self.now) c.args.at (length c.args.bytes.now) piece (omega (arith, length-take c.done_of-done.result c.args.bytes.now)),
    )

pub returns-then-fails-clause-crash : goal.returns-then-fails-clause-crash
returns-then-fails-clause-crash c =
    let d = (goal.at.returns-then-fails-clause-crash c).In_ok-do_write in
    follows c.args.self.now _ c.do_write.new.steps.items (first_is d) c.args.at c.args.bytes.now c.done_of-done.result (steps_are d)

pub returns-then-fails-clause-time : goal.returns-then-fails-clause-time
returns-then-fails-clause-time c =
    let d = (goal.at.returns-then-fails-clause-time c).In_ok-do_write in
    elapses c.args.self.now _ c.do_write.new.steps.items (first_is d) (step.Write c.args.at c.args.bytes.now c.done_of-done.result) (steps_are d)

pub returns-clause-written : goal.returns-clause-written
returns-clause-written c =
    let d = (goal.at.returns-clause-written c).In_ok-do_write in
    let all : c.done_of-done.result ≡ length c.args.bytes.now =
    c.done_of-done.ensures ∙ ap (λ b. cond b (length c.args.bytes.now / 2) (length c.args.bytes.now)) c.if-fails.false in
    ap Some (written c.args.self.now _ c.do_write.new.steps.items (first_is d) c.args.at c.args.bytes.now c.done_of-done.result (steps_are d)
    ∙ ap (λ l. with_bytes (content_of c.args.self.now) c.args.at l) (take_all c.done_of-done.result c.args.bytes.now (omega arith)))

pub returns-clause-crash : goal.returns-clause-crash
returns-clause-crash c =
    let d = (goal.at.returns-clause-crash c).In_ok-do_write in
    follows c.args.self.now _ c.do_write.new.steps.items (first_is d) c.args.at c.args.bytes.now c.done_of-done.result (steps_are d)

pub returns-clause-time : goal.returns-clause-time
returns-clause-time c =
    let d = (goal.at.returns-clause-time c).In_ok-do_write in
    elapses c.args.self.now _ c.do_write.new.steps.items (first_is d) (step.Write c.args.at c.args.bytes.now c.done_of-done.result) (steps_are d)
