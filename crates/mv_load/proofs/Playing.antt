-- A kernel that has played a script so far goes on with it.
use Rattle.std.proofs.Common.{◌≡◌, List, [], ◌∷◌, ◌++◌, Some, Result, Ok, Err, IfOk, OnOk, OnErr, ap, sym, subst, ◌∙◌}
use Rattle.mv_calls.specs.declared.calls.Call.{Call}
use Rattle.mv_calls.specs.declared.calls.Item.{Item}
use Rattle.mv_calls.specs.declared.calls.Reply.{Reply}
use Rattle.mv_outside.specs.Told.{told_more}
use Rattle.mv_outside.specs.declared.fault.Failed.{Failed}
use Rattle.mv_kernmem.specs.Changes.{state_after}
use Rattle.mv_kernmem.specs.Kernels.{KernelState, after_failure}
use Rattle.mv_kernmem.specs.Replies.{reply_of}
use Rattle.mv_kernmem.specs.States.{ScriptState, first_state}
use Rattle.mv_kernmem.specs.declared.script.Script.{Script}
use Rattle.mv_load.specs.Played.{IsPlayed, Plays}

played_on : (s : ScriptState) (items : List Item) (mid : ScriptState) (call : Call) (reply : Reply) → Plays s items mid → reply ≡ reply_of mid call → Plays s (items ++ (call, reply) ∷ []) (state_after mid call)
played_on s [] mid call reply e r = (r ∙ ap (λ (t : ScriptState). reply_of t call) e, ap (λ (t : ScriptState). state_after t call) e)
played_on s (item ∷ items) mid call reply h r = (h.0, played_on (state_after s item.0) items mid call reply h.1 r)

pub goes_on : (script : Script) (call : Call) (result : Result Reply Failed) (old new : KernelState) → IsPlayed script old → IfOk result (λ reply. reply ≡ reply_of old.state call) →
    IfOk result (λ reply. Some new.done ≡ told_more (Some old.done) ((call, reply) ∷ [])) → OnOk result (new.state ≡ state_after old.state call) → OnErr result (new ≡ after_failure old) → IsPlayed script new
goes_on script call (Ok reply) old new played r did st none =
    let d : new.done ≡ old.done ++ (call, reply) ∷ [] = cc in
    let p : Plays (first_state script) (old.done ++ (call, reply) ∷ []) (state_after old.state call) = played_on (first_state script) old.done old.state call reply played r in
    subst (λ (items : List Item). Plays (first_state script) items new.state) (sym d) (subst (λ (s : ScriptState). Plays (first_state script) (old.done ++ (call, reply) ∷ []) s) (sym st) p)
goes_on script call (Err f) old new played r did st none = subst (λ (k : KernelState). IsPlayed script k) (sym none) played
