-- After a sync a crash leaves what is read.
use Rattle.std.proofs.Common.{◌≡◌, [], ◌∷◌, ◌++◌, Some, refl, sym, ◌∙◌, ap, subst, rules, arith}
use Rattle.std.proofs.lemmas.Grind.{common_steps}
use Rattle.mv_disk.specs.First.{first_of}
use Rattle.mv_disk.specs.MemDisk.{sync_fails, content_of, LeavesNow}
use Rattle.mv_disk.specs.MemDiskLaws.{leaves_read}
use Rattle.mv_disk.specs.declared.mem_disk.Step.TheVariants as step
use Rattle.mv_disk.proofs.MemLaws.{elapses, synced, only_synced, no_fault}
use Rattle.mv_disk.proofs.mem_disk.MemDiskDisk.sync.Goals as goal
use Rattle.mv_disk.proofs.mem_disk.MemDiskDisk.sync.Goals.{In_ok-push}

first_is : (c : In_ok-push) → first_of c.self.inside.first c.self.inside.content.items ≡ c.args.self.now.first
first_is c = ap (λ d. d.first) c.self.view_is

steps_are : (c : In_ok-push) → c.push.new.self.items ≡ c.args.self.now.steps ++ step.Sync ∷ []
steps_are c = c.in_ok-push.ensures.items ∙ ap (λ d. d.steps ++ step.Sync ∷ []) c.self.view_is

pub returns-in_err-push-clause-named : goal.returns-in_err-push-clause-named
returns-in_err-push-clause-named c = no_fault c.from_residual.result (sync_fails c.args.self.now) (grind (arith, common_steps)) (search rules)

pub invariant_of-self-2 : goal.invariant_of-self-2
invariant_of-self-2 c =
    synced c.args.self.now _ c.push.new.self.items (first_is c) (steps_are c) ∙ (sym (ap content_of c.self.view_is) ∙ c.self.invariant)

pub returns-clause-reads : goal.returns-clause-reads
returns-clause-reads c = ap Some (synced c.args.self.now _ c.push.new.self.items (first_is c) (steps_are c))

pub returns-clause-lasts : goal.returns-clause-lasts
returns-clause-lasts c = λ content told f left.
    let is = ap Some (synced c.args.self.now _ c.push.new.self.items (first_is c) (steps_are c)) in
    let both : Some (content_of c.args.self.now) ≡ Some content = sym is ∙ told in
    let same : content_of c.args.self.now ≡ content = cc in
    only_synced c.args.self.now _ c.push.new.self.items (first_is c) (steps_are c) f left ∙ same

pub returns-clause-crash : goal.returns-clause-crash
returns-clause-crash c = λ f left.
    subst (λ l. LeavesNow c.args.self.now l) (sym (only_synced c.args.self.now _ c.push.new.self.items (first_is c) (steps_are c) f left))
    (leaves_read c.args.self.now (content_of c.args.self.now) refl)

pub returns-clause-time : goal.returns-clause-time
returns-clause-time c = elapses c.args.self.now _ c.push.new.self.items (first_is c) step.Sync (steps_are c)
