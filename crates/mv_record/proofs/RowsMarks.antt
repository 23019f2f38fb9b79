-- Marks: each row is read as it is spelled, and read again.
use Rattle.std.proofs.Common.{[], ◌∷◌, ◌++◌, refl, ◌∙◌, append_assoc, arith}
use Rattle.byteorder.specs.Endian.{little_bytes}
use Rattle.mv_history.specs.declared.log.Side.TheVariants as side
use Rattle.mv_rules.specs.declared.fault.RuleKind.TheVariants as rule_kind
use Rattle.mv_version.specs.declared.event.Event.TheVariants as event
use Rattle.mv_history.specs.declared.log.Cause.TheVariants as cause
use Rattle.mv_history.specs.declared.log.Why.TheVariants as why
use Rattle.mv_history.specs.declared.log.How.TheVariants as how
use Rattle.mv_history.specs.declared.log.Mark.TheVariants as mark
use Rattle.mv_record.specs.Spelling.{born_fault_text, call_text, cause_text, got_text, how_text, mark_text, rule_fault_text, rule_kind_text, side_text, trap_text, why_text}
use Rattle.mv_record.specs.Fitting.{FitsBornFault, FitsCall, FitsCause, FitsGot, FitsHow, FitsMark, FitsRuleFault, IsU32, IsU64}
use Rattle.mv_record.specs.Reading.{◌⟫◌, born_fault_at, call_at, calls_got_at, cause_at, cause_table, discard_mark_at, dropped_mark_at, end_mark_at, ended_how_at, ends_got_at, fork_mark_at, got_at, got_table, hand_mark_at, how_at, how_table, made_rule_fault, mark_at, mark_table, mismatch_cause_at, no_copy_mark_at, number_at, order_cause_at, plain_at, refused_cause_at, rule_fault_at, rule_kind_at, rule_kind_table, rules_cause_at, side_at, side_table, trap_at, trap_cause_at, trap_why_at, trapped_how_at, why_at, why_table}
use Rattle.mv_record.proofs.Rows.{Any, IsRow, IsAgain, row4, row8, u32_again, u64_again, field_row, plain_row, then_again, ends_again, tagged_row, tagged_again}
use Rattle.mv_record.proofs.RowsCalls.{call_row, call_again}
use Rattle.mv_record.proofs.RowsBirths.{trap_row, trap_again, born_fault_row, born_fault_again}

-- ---- the side of a list of rules

pub side_row : IsRow [] side_text Any side_at
unfolding side_at
side_row = tagged_row [] side_text Any side_table
    (plain_row (0 ∷ []) side_text Any side.Forward refl tt, (plain_row (1 ∷ []) side_text Any side.Reverse refl tt, tt))

pub side_again : IsAgain side_text Any side_at
unfolding side_at
side_again side.Forward rest fits = tagged_again side_table 0 rest (omega arith)
side_again side.Reverse rest fits = tagged_again side_table 1 rest (omega arith)

-- ---- what is wrong with a line of rules

pub rule_kind_row : IsRow [] rule_kind_text Any rule_kind_at
unfolding rule_kind_at
rule_kind_row = tagged_row [] rule_kind_text Any rule_kind_table
    (plain_row (0 ∷ []) rule_kind_text Any rule_kind.Size refl tt, (plain_row (1 ∷ []) rule_kind_text Any rule_kind.Header refl tt, (plain_row (2 ∷ []) rule_kind_text Any rule_kind.Shape refl tt, (plain_row (3 ∷ []) rule_kind_text Any rule_kind.Many refl tt, (plain_row (4 ∷ []) rule_kind_text Any rule_kind.Empty refl tt, (plain_row (5 ∷ []) rule_kind_text Any rule_kind.Word refl tt, (plain_row (6 ∷ []) rule_kind_text Any rule_kind.Number refl tt, (plain_row (7 ∷ []) rule_kind_text Any rule_kind.Quote refl tt, (plain_row (8 ∷ []) rule_kind_text Any rule_kind.Name refl tt, (plain_row (9 ∷ []) rule_kind_text Any rule_kind.Twice refl tt, (plain_row (10 ∷ []) rule_kind_text Any rule_kind.Unbound refl tt, (plain_row (11 ∷ []) rule_kind_text Any rule_kind.Reads refl tt, (plain_row (12 ∷ []) rule_kind_text Any rule_kind.Accepts refl tt, (plain_row (13 ∷ []) rule_kind_text Any rule_kind.Guard refl tt, tt))))))))))))))

pub rule_kind_again : IsAgain rule_kind_text Any rule_kind_at
unfolding rule_kind_at
rule_kind_again rule_kind.Size rest fits = tagged_again rule_kind_table 0 rest (omega arith)
rule_kind_again rule_kind.Header rest fits = tagged_again rule_kind_table 1 rest (omega arith)
rule_kind_again rule_kind.Shape rest fits = tagged_again rule_kind_table 2 rest (omega arith)
rule_kind_again rule_kind.Many rest fits = tagged_again rule_kind_table 3 rest (omega arith)
rule_kind_again rule_kind.Empty rest fits = tagged_again rule_kind_table 4 rest (omega arith)
rule_kind_again rule_kind.Word rest fits = tagged_again rule_kind_table 5 rest (omega arith)
rule_kind_again rule_kind.Number rest fits = tagged_again rule_kind_table 6 rest (omega arith)
rule_kind_again rule_kind.Quote rest fits = tagged_again rule_kind_table 7 rest (omega arith)
rule_kind_again rule_kind.Name rest fits = tagged_again rule_kind_table 8 rest (omega arith)
rule_kind_again rule_kind.Twice rest fits = tagged_again rule_kind_table 9 rest (omega arith)
rule_kind_again rule_kind.Unbound rest fits = tagged_again rule_kind_table 10 rest (omega arith)
rule_kind_again rule_kind.Reads rest fits = tagged_again rule_kind_table 11 rest (omega arith)
rule_kind_again rule_kind.Accepts rest fits = tagged_again rule_kind_table 12 rest (omega arith)
rule_kind_again rule_kind.Guard rest fits = tagged_again rule_kind_table 13 rest (omega arith)

-- ---- the first fault of a rules file

pub rule_fault_row : IsRow [] rule_fault_text FitsRuleFault rule_fault_at
unfolding rule_fault_at
rule_fault_row = field_row (little_bytes 4) IsU32 (number_at 4) (λ line. rule_kind_at ⟫ λ kind. plain_at (made_rule_fault line kind)) ([]) rule_fault_text FitsRuleFault row4 (λ line line_fits. field_row rule_kind_text Any rule_kind_at (λ kind. plain_at (made_rule_fault line kind)) ([] ++ little_bytes 4 line) rule_fault_text FitsRuleFault rule_kind_row (λ kind kind_fits. plain_row (([] ++ little_bytes 4 line) ++ rule_kind_text kind) rule_fault_text FitsRuleFault (made_rule_fault line kind) refl line_fits))

pub rule_fault_again : IsAgain rule_fault_text FitsRuleFault rule_fault_at
unfolding rule_fault_at
rule_fault_again x rest fits =
    then_again (little_bytes 4) IsU32 (number_at 4) (λ line. rule_kind_at ⟫ λ kind. plain_at (made_rule_fault line kind)) u32_again x.line (rule_kind_text x.kind) rest fits
    ∙ ends_again rule_kind_text Any rule_kind_at (λ kind. plain_at (made_rule_fault x.line kind)) rule_kind_again x.kind rest tt

-- ---- what a follower did instead

calls_got_row : IsRow (0 ∷ []) got_text FitsGot calls_got_at
unfolding calls_got_at
calls_got_row = field_row call_text FitsCall call_at (λ call. plain_at (event.Calls call)) (0 ∷ []) got_text FitsGot call_row (λ call call_fits. plain_row ((0 ∷ []) ++ call_text call) got_text FitsGot (event.Calls call) refl call_fits)

ends_got_row : IsRow (1 ∷ []) got_text FitsGot ends_got_at
unfolding ends_got_at
ends_got_row = field_row (little_bytes 4) IsU32 (number_at 4) (λ code. plain_at (event.Ends code)) (1 ∷ []) got_text FitsGot row4 (λ code code_fits. plain_row ((1 ∷ []) ++ little_bytes 4 code) got_text FitsGot (event.Ends code) refl code_fits)

pub got_row : IsRow [] got_text FitsGot got_at
unfolding got_at
got_row = tagged_row [] got_text FitsGot got_table
    (calls_got_row, (ends_got_row, tt))

pub got_again : IsAgain got_text FitsGot got_at
unfolding got_at calls_got_at ends_got_at
got_again (event.Calls call) rest fits = tagged_again got_table 0 ((call_text call) ++ rest) (omega arith)
    ∙ ends_again call_text FitsCall call_at (λ call. plain_at (event.Calls call)) call_again call rest fits
got_again (event.Ends code) rest fits = tagged_again got_table 1 ((little_bytes 4 code) ++ rest) (omega arith)
    ∙ ends_again (little_bytes 4) IsU32 (number_at 4) (λ code. plain_at (event.Ends code)) u32_again code rest fits
got_again event.Point rest fits = absurd fits
got_again (event.Traps trap) rest fits = absurd fits

-- ---- why a follower is given up

trap_cause_row : IsRow (0 ∷ []) cause_text FitsCause trap_cause_at
unfolding trap_cause_at
trap_cause_row = field_row (little_bytes 8) IsU64 (number_at 8) (λ k. trap_at ⟫ λ trap. plain_at (cause.Trap k trap)) (0 ∷ []) cause_text FitsCause row8 (λ k k_fits. field_row trap_text Any trap_at (λ trap. plain_at (cause.Trap k trap)) ((0 ∷ []) ++ little_bytes 8 k) cause_text FitsCause trap_row (λ trap trap_fits. plain_row (((0 ∷ []) ++ little_bytes 8 k) ++ trap_text trap) cause_text FitsCause (cause.Trap k trap) refl k_fits))

mismatch_cause_row : IsRow (1 ∷ []) cause_text FitsCause mismatch_cause_at
unfolding mismatch_cause_at
mismatch_cause_row = field_row (little_bytes 8) IsU64 (number_at 8) (λ k. call_at ⟫ λ want. got_at ⟫ λ got. plain_at (cause.Mismatch k want got)) (1 ∷ []) cause_text FitsCause row8 (λ k k_fits. field_row call_text FitsCall call_at (λ want. got_at ⟫ λ got. plain_at (cause.Mismatch k want got)) ((1 ∷ []) ++ little_bytes 8 k) cause_text FitsCause call_row (λ want want_fits. field_row got_text FitsGot got_at (λ got. plain_at (cause.Mismatch k want got)) (((1 ∷ []) ++ little_bytes 8 k) ++ call_text want) cause_text FitsCause got_row (λ got got_fits. plain_row ((((1 ∷ []) ++ little_bytes 8 k) ++ call_text want) ++ got_text got) cause_text FitsCause (cause.Mismatch k want got) (simp append_assoc) (k_fits, want_fits, got_fits))))

refused_cause_row : IsRow (2 ∷ []) cause_text FitsCause refused_cause_at
unfolding refused_cause_at
refused_cause_row = field_row born_fault_text FitsBornFault born_fault_at (λ fault. plain_at (cause.Refused fault)) (2 ∷ []) cause_text FitsCause born_fault_row (λ fault fault_fits. plain_row ((2 ∷ []) ++ born_fault_text fault) cause_text FitsCause (cause.Refused fault) refl fault_fits)

rules_cause_row : IsRow (3 ∷ []) cause_text FitsCause rules_cause_at
unfolding rules_cause_at
rules_cause_row = field_row side_text Any side_at (λ side. rule_fault_at ⟫ λ fault. plain_at (cause.Rules side fault)) (3 ∷ []) cause_text FitsCause side_row (λ side side_fits. field_row rule_fault_text FitsRuleFault rule_fault_at (λ fault. plain_at (cause.Rules side fault)) ((3 ∷ []) ++ side_text side) cause_text FitsCause rule_fault_row (λ fault fault_fits. plain_row (((3 ∷ []) ++ side_text side) ++ rule_fault_text fault) cause_text FitsCause (cause.Rules side fault) refl fault_fits))

order_cause_row : IsRow (4 ∷ []) cause_text FitsCause order_cause_at
unfolding order_cause_at
order_cause_row = field_row (little_bytes 8) IsU64 (number_at 8) (λ n. plain_at (cause.Order n)) (4 ∷ []) cause_text FitsCause row8 (λ n n_fits. plain_row ((4 ∷ []) ++ little_bytes 8 n) cause_text FitsCause (cause.Order n) refl n_fits)

pub cause_row : IsRow [] cause_text FitsCause cause_at
unfolding cause_at
cause_row = tagged_row [] cause_text FitsCause cause_table
    (trap_cause_row, (mismatch_cause_row, (refused_cause_row, (rules_cause_row, (order_cause_row, (plain_row (5 ∷ []) cause_text FitsCause cause.Memory refl tt, tt))))))

pub cause_again : IsAgain cause_text FitsCause cause_at
unfolding cause_at trap_cause_at mismatch_cause_at refused_cause_at rules_cause_at order_cause_at
cause_again (cause.Trap k trap) rest fits = tagged_again cause_table 0 ((little_bytes 8 k ++ trap_text trap) ++ rest) (omega arith)
    ∙ then_again (little_bytes 8) IsU64 (number_at 8) (λ k. trap_at ⟫ λ trap. plain_at (cause.Trap k trap)) u64_again k (trap_text trap) rest fits
    ∙ ends_again trap_text Any trap_at (λ trap. plain_at (cause.Trap k trap)) trap_again trap rest tt
cause_again (cause.Mismatch k want got) rest fits = tagged_again cause_table 1 ((little_bytes 8 k ++ (call_text want ++ got_text got)) ++ rest) (omega arith)
    ∙ then_again (little_bytes 8) IsU64 (number_at 8) (λ k. call_at ⟫ λ want. got_at ⟫ λ got. plain_at (cause.Mismatch k want got)) u64_again k (call_text want ++ got_text got) rest fits.0
    ∙ then_again call_text FitsCall call_at (λ want. got_at ⟫ λ got. plain_at (cause.Mismatch k want got)) call_again want (got_text got) rest fits.1
    ∙ ends_again got_text FitsGot got_at (λ got. plain_at (cause.Mismatch k want got)) got_again got rest fits.2
cause_again (cause.Refused fault) rest fits = tagged_again cause_table 2 ((born_fault_text fault) ++ rest) (omega arith)
    ∙ ends_again born_fault_text FitsBornFault born_fault_at (λ fault. plain_at (cause.Refused fault)) born_fault_again fault rest fits
cause_again (cause.Rules side fault) rest fits = tagged_again cause_table 3 ((side_text side ++ rule_fault_text fault) ++ rest) (omega arith)
    ∙ then_again side_text Any side_at (λ side. rule_fault_at ⟫ λ fault. plain_at (cause.Rules side fault)) side_again side (rule_fault_text fault) rest tt
    ∙ ends_again rule_fault_text FitsRuleFault rule_fault_at (λ fault. plain_at (cause.Rules side fault)) rule_fault_again fault rest fits
cause_again (cause.Order n) rest fits = tagged_again cause_table 4 ((little_bytes 8 n) ++ rest) (omega arith)
    ∙ ends_again (little_bytes 8) IsU64 (number_at 8) (λ n. plain_at (cause.Order n)) u64_again n rest fits
cause_again cause.Memory rest fits = tagged_again cause_table 5 rest (omega arith)

-- ---- why a hand-over is asked for

trap_why_row : IsRow (2 ∷ []) why_text Any trap_why_at
unfolding trap_why_at
trap_why_row = field_row trap_text Any trap_at (λ trap. plain_at (why.Trap trap)) (2 ∷ []) why_text Any trap_row (λ trap trap_fits. plain_row ((2 ∷ []) ++ trap_text trap) why_text Any (why.Trap trap) refl tt)

pub why_row : IsRow [] why_text Any why_at
unfolding why_at
why_row = tagged_row [] why_text Any why_table
    (plain_row (0 ∷ []) why_text Any why.Promote refl tt, (plain_row (1 ∷ []) why_text Any why.Back refl tt, (trap_why_row, tt)))

pub why_again : IsAgain why_text Any why_at
unfolding why_at trap_why_at
why_again why.Promote rest fits = tagged_again why_table 0 rest (omega arith)
why_again why.Back rest fits = tagged_again why_table 1 rest (omega arith)
why_again (why.Trap trap) rest fits = tagged_again why_table 2 ((trap_text trap) ++ rest) (omega arith)
    ∙ ends_again trap_text Any trap_at (λ trap. plain_at (why.Trap trap)) trap_again trap rest tt

-- ---- how a run ended

ended_how_row : IsRow (0 ∷ []) how_text FitsHow ended_how_at
unfolding ended_how_at
ended_how_row = field_row (little_bytes 4) IsU32 (number_at 4) (λ code. plain_at (how.Ended code)) (0 ∷ []) how_text FitsHow row4 (λ code code_fits. plain_row ((0 ∷ []) ++ little_bytes 4 code) how_text FitsHow (how.Ended code) refl code_fits)

trapped_how_row : IsRow (1 ∷ []) how_text FitsHow trapped_how_at
unfolding trapped_how_at
trapped_how_row = field_row trap_text Any trap_at (λ trap. plain_at (how.Trapped trap)) (1 ∷ []) how_text FitsHow trap_row (λ trap trap_fits. plain_row ((1 ∷ []) ++ trap_text trap) how_text FitsHow (how.Trapped trap) refl tt)

pub how_row : IsRow [] how_text FitsHow how_at
unfolding how_at
how_row = tagged_row [] how_text FitsHow how_table
    (ended_how_row, (trapped_how_row, (plain_row (2 ∷ []) how_text FitsHow how.Halted refl tt, (plain_row (3 ∷ []) how_text FitsHow how.Cut refl tt, (plain_row (4 ∷ []) how_text FitsHow how.KernelFault refl tt, (plain_row (5 ∷ []) how_text FitsHow how.LogLimit refl tt, (plain_row (6 ∷ []) how_text FitsHow how.Memory refl tt, tt)))))))

pub how_again : IsAgain how_text FitsHow how_at
unfolding how_at ended_how_at trapped_how_at
how_again (how.Ended code) rest fits = tagged_again how_table 0 ((little_bytes 4 code) ++ rest) (omega arith)
    ∙ ends_again (little_bytes 4) IsU32 (number_at 4) (λ code. plain_at (how.Ended code)) u32_again code rest fits
how_again (how.Trapped trap) rest fits = tagged_again how_table 1 ((trap_text trap) ++ rest) (omega arith)
    ∙ ends_again trap_text Any trap_at (λ trap. plain_at (how.Trapped trap)) trap_again trap rest tt
how_again how.Halted rest fits = tagged_again how_table 2 rest (omega arith)
how_again how.Cut rest fits = tagged_again how_table 3 rest (omega arith)
how_again how.KernelFault rest fits = tagged_again how_table 4 rest (omega arith)
how_again how.LogLimit rest fits = tagged_again how_table 5 rest (omega arith)
how_again how.Memory rest fits = tagged_again how_table 6 rest (omega arith)

-- ---- a mark

fork_mark_row : IsRow (0 ∷ []) mark_text FitsMark fork_mark_at
unfolding fork_mark_at
fork_mark_row = field_row (little_bytes 4) IsU32 (number_at 4) (λ update. plain_at (mark.Fork update)) (0 ∷ []) mark_text FitsMark row4 (λ update update_fits. plain_row ((0 ∷ []) ++ little_bytes 4 update) mark_text FitsMark (mark.Fork update) refl update_fits)

no_copy_mark_row : IsRow (1 ∷ []) mark_text FitsMark no_copy_mark_at
unfolding no_copy_mark_at
no_copy_mark_row = field_row (little_bytes 4) IsU32 (number_at 4) (λ update. plain_at (mark.NoCopy update)) (1 ∷ []) mark_text FitsMark row4 (λ update update_fits. plain_row ((1 ∷ []) ++ little_bytes 4 update) mark_text FitsMark (mark.NoCopy update) refl update_fits)

hand_mark_row : IsRow (2 ∷ []) mark_text FitsMark hand_mark_at
unfolding hand_mark_at
hand_mark_row = field_row why_text Any why_at (λ why. plain_at (mark.Hand why)) (2 ∷ []) mark_text FitsMark why_row (λ why why_fits. plain_row ((2 ∷ []) ++ why_text why) mark_text FitsMark (mark.Hand why) refl tt)

discard_mark_row : IsRow (7 ∷ []) mark_text FitsMark discard_mark_at
unfolding discard_mark_at
discard_mark_row = field_row cause_text FitsCause cause_at (λ cause. plain_at (mark.Discard cause)) (7 ∷ []) mark_text FitsMark cause_row (λ cause cause_fits. plain_row ((7 ∷ []) ++ cause_text cause) mark_text FitsMark (mark.Discard cause) refl cause_fits)

dropped_mark_row : IsRow (8 ∷ []) mark_text FitsMark dropped_mark_at
unfolding dropped_mark_at
dropped_mark_row = field_row cause_text FitsCause cause_at (λ cause. plain_at (mark.Dropped cause)) (8 ∷ []) mark_text FitsMark cause_row (λ cause cause_fits. plain_row ((8 ∷ []) ++ cause_text cause) mark_text FitsMark (mark.Dropped cause) refl cause_fits)

end_mark_row : IsRow (9 ∷ []) mark_text FitsMark end_mark_at
unfolding end_mark_at
end_mark_row = field_row how_text FitsHow how_at (λ how. plain_at (mark.End how)) (9 ∷ []) mark_text FitsMark how_row (λ how how_fits. plain_row ((9 ∷ []) ++ how_text how) mark_text FitsMark (mark.End how) refl how_fits)

pub mark_row : IsRow [] mark_text FitsMark mark_at
unfolding mark_at
mark_row = tagged_row [] mark_text FitsMark mark_table
    (fork_mark_row, (no_copy_mark_row, (hand_mark_row, (plain_row (3 ∷ []) mark_text FitsMark mark.Promote refl tt, (plain_row (4 ∷ []) mark_text FitsMark mark.Over refl tt, (plain_row (5 ∷ []) mark_text FitsMark mark.Back refl tt, (plain_row (6 ∷ []) mark_text FitsMark mark.Finish refl tt, (discard_mark_row, (dropped_mark_row, (end_mark_row, tt))))))))))

pub mark_again : IsAgain mark_text FitsMark mark_at
unfolding mark_at fork_mark_at no_copy_mark_at hand_mark_at discard_mark_at dropped_mark_at end_mark_at
mark_again (mark.Fork update) rest fits = tagged_again mark_table 0 ((little_bytes 4 update) ++ rest) (omega arith)
    ∙ ends_again (little_bytes 4) IsU32 (number_at 4) (λ update. plain_at (mark.Fork update)) u32_again update rest fits
mark_again (mark.NoCopy update) rest fits = tagged_again mark_table 1 ((little_bytes 4 update) ++ rest) (omega arith)
    ∙ ends_again (little_bytes 4) IsU32 (number_at 4) (λ update. plain_at (mark.NoCopy update)) u32_again update rest fits
mark_again (mark.Hand why) rest fits = tagged_again mark_table 2 ((why_text why) ++ rest) (omega arith)
    ∙ ends_again why_text Any why_at (λ why. plain_at (mark.Hand why)) why_again why rest tt
mark_again mark.Promote rest fits = tagged_again mark_table 3 rest (omega arith)
mark_again mark.Over rest fits = tagged_again mark_table 4 rest (omega arith)
mark_again mark.Back rest fits = tagged_again mark_table 5 rest (omega arith)
mark_again mark.Finish rest fits = tagged_again mark_table 6 rest (omega arith)
mark_again (mark.Discard cause) rest fits = tagged_again mark_table 7 ((cause_text cause) ++ rest) (omega arith)
    ∙ ends_again cause_text FitsCause cause_at (λ cause. plain_at (mark.Discard cause)) cause_again cause rest fits
mark_again (mark.Dropped cause) rest fits = tagged_again mark_table 8 ((cause_text cause) ++ rest) (omega arith)
    ∙ ends_again cause_text FitsCause cause_at (λ cause. plain_at (mark.Dropped cause)) cause_again cause rest fits
mark_again (mark.End how) rest fits = tagged_again mark_table 9 ((how_text how) ++ rest) (omega arith)
    ∙ ends_again how_text FitsHow how_at (λ how. plain_at (mark.End how)) how_again how rest fits
