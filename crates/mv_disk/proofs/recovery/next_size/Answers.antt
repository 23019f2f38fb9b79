-- The head of a record, as the code reads it.
use Rattle.std.proofs.Common.{◌<◌, ℕ, length, take, drop, sym, ◌∙◌, ap, arith, length-drop}
use Rattle.std.specs.Option.{option_map}
use Rattle.mv_disk.proofs.ReadLaws.{read_open, read_shut, read_long}
use Rattle.mv_disk.proofs.RecordLaws.{front_body-short}
use Rattle.mv_disk.proofs.recovery.next_size.Goals as goal
use Rattle.mv_disk.proofs.recovery.next_size.Goals.{else-gate-eq1-via-then-gate-eq1+else-size-left, else-gate-eq1-via-else-gate-eq1}

pub returns-then-left-le-HEAD-clause-size : goal.returns-then-left-le-HEAD-clause-size
returns-then-left-le-HEAD-clause-size g c = λ content told.
    ap (option_map length) (sym (front_body-short (drop c.args.at content) (omega (arith, c.requires.length content told, length-drop c.args.at content))))

pub returns-then-size-left-clause-size : goal.returns-then-size-left-clause-size
returns-then-size-left-clause-size g c = λ content told.
    let len = c.requires.length content told in
    let head = c.in_ok-read_at.ensures.bytes content told ∙ ap (λ (n : ℕ). take n (drop c.args.at content)) c.read_at.auto.into in
    read_open (drop c.args.at content) c.read_at.new.into c.from_le_bytes-size.result (omega (arith, len, length-drop c.args.at content)) head c.if-gate-eq1.true c.from_le_bytes-size.ensures
    (omega (arith, len, length-drop c.args.at content, c.if-size-left.true))

pub returns-else-gate-eq1-clause-size : goal.returns-else-gate-eq1-clause-size
returns-else-gate-eq1-clause-size g c = λ content told.
    let len = c.requires.length content told in
    let head = c.in_ok-read_at.ensures.bytes content told ∙ ap (λ (n : ℕ). take n (drop c.args.at content)) c.read_at.auto.into in
    let long : 5 < length (drop c.args.at content) = omega (arith, len, length-drop c.args.at content) in
    elim c.else-gate-eq1.branch [
      | else-gate-eq1-via-then-gate-eq1+else-size-left w ↦
          read_long (drop c.args.at content) c.read_at.new.into c.from_le_bytes-size.result long head c.from_le_bytes-size.ensures (omega (arith, len, length-drop c.args.at content, w.if-size-left.false))
      | else-gate-eq1-via-else-gate-eq1 w ↦ read_shut (drop c.args.at content) c.read_at.new.into long head w.if-gate-eq1.false
    ]
