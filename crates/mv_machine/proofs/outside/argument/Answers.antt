use Rattle.std.proofs.Common.{◌≡◌, ◌∙◌, ◌-◌, ◌≤◌, ap, sym, arith, length, List}
use Rattle.mv_syntax.specs.declared.ops.ValType.{ValType}
use Rattle.mv_execution.specs.Instance.{program_of}
use Rattle.mv_execution.specs.Run.{param_count}
use Rattle.mv_machine.proofs.Newest.{Newest, newest}
use Rattle.mv_machine.proofs.FromOutside.{params-are, waiting-found, argument-held, arguments-held, argument-is}
use Rattle.mv_machine.proofs.outside.argument.Goals as goal
use Rattle.mv_machine.proofs.outside.argument.Goals.{After-len-2}

-- the newest call, which has the arguments
caller : (c : After-len-2) → Newest c.args.state.now.frames.items c.len.result c.index-caller.result.now
caller c =
    let s = c.args.state.now in
    let n = c.len.ensures ∙ s.frames.ok.0 in
    newest s.frames.items c.len.result c.index-caller.result.now n (omega (arith, n, argument-held c.args.module.now s c.args.x c.args.n c.requires.fine c.requires.waits c.requires.within)) c.index-caller.ensures

count-is : (c : After-len-2) → length c.slice-count.result.now ≡ param_count (program_of c.args.module.now) c.args.x
count-is c =
    let p = c.args.module.now in
    let t = c.function_type.result.now in
    ap (λ (l : List ValType). length l) c.slice-count.ensures ∙ sym (params-are p c.args.x t c.requires.fine.program (waiting-found p c.args.state.now c.args.x t c.requires.fine c.requires.waits c.function_type.ensures))

operands-are : (c : After-len-2) → c.len-2.result ≡ length c.index-caller.result.now.operands.items
operands-are c = c.len-2.ensures ∙ c.index-caller.result.now.operands.ok.0

enough : (c : After-len-2) → param_count (program_of c.args.module.now) c.args.x ≤ length c.index-caller.result.now.operands.items
enough c = arguments-held c.args.module.now c.args.state.now c.args.x c.len.result c.index-caller.result.now c.requires.fine c.requires.waits (caller c)

pub overflow_sub-first : goal.overflow_sub-first
overflow_sub-first c = omega (arith, count-is c, operands-are c, enough c)

pub index-requires : goal.index-requires
index-requires c = omega (arith, count-is c, operands-are c, enough c, c.len-2.ensures, c.requires.within)

pub returns : goal.returns
returns c =
    let s = (goal.at.returns c).After-len-2 in
    let count = count-is s in
    let len = operands-are s in
    argument-is c.args.module.now c.args.state.now c.args.x c.len.result c.index-caller.result.now c.requires.fine c.requires.waits (caller s) c.args.n (c.len-2.result - length c.slice-count.result.now) c.index.result.now (omega (arith, count, len)) c.requires.within c.index.ensures
