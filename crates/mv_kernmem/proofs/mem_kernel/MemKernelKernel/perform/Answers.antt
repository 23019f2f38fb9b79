-- The reply suits the call, and has place in what was made for it.
use Rattle.std.proofs.Common.{◌≡◌, ap, sym, ◌∙◌, refl}
use Rattle.mv_kernmem.specs.Kernels.{KernelState}
use Rattle.mv_kernmem.specs.declared.mem_kernel.Saved.{Saved}
use Rattle.mv_kernmem.proofs.SuitLaws.{taken_is_ready, kept_suits, kept_place}
use Rattle.mv_kernmem.proofs.mem_kernel.MemKernelKernel.perform.Goals as goal

pub copy_reply-copy-requires : goal.copy_reply-copy-requires
copy_reply-copy-requires c =
    let same : c.requires.ready.copy ≡ c.in-Some.saved = taken_is_ready c.args.self.now.saved c.take.result c.requires.ready.copy c.in-Some.saved c.requires.ready.is_saved c.in-Some.is
    (c.take.ensures.value ∙ ap (λ (k : KernelState). k.saved) c.self.view_is) in
    kept_place c.requires.ready.copy c.in-Some.saved c.self.inside.scripted c.args.call.now c.reply_to-reply.result same c.requires.ready.enough c.reply_to-reply.ensures

pub invariant_of-push_reserved : goal.invariant_of-push_reserved
invariant_of-push_reserved c =
    let same : c.requires.ready.copy ≡ c.in-Some.saved = taken_is_ready c.args.self.now.saved c.take.result c.requires.ready.copy c.in-Some.saved c.requires.ready.is_saved c.in-Some.is
    (c.take.ensures.value ∙ ap (λ (k : KernelState). k.saved) c.self.view_is) in
    kept_suits c.self.inside.scripted c.args.call.now c.in-Some.saved.call c.copy_reply-copy.result
    (sym (ap (λ (s : Saved). s.call) same) ∙ c.requires.ready.same) (c.copy_reply-copy.ensures ∙ c.reply_to-reply.ensures)

pub returns-clause-suits : goal.returns-clause-suits
returns-clause-suits c = kept_suits c.self.inside.scripted c.args.call.now c.args.call.now c.reply_to-reply.result refl c.reply_to-reply.ensures
