-- Answers to orders: each row is read as it is spelled, and read again.
use Rattle.std.proofs.Common.{[], ◌∷◌, ◌++◌, refl, ◌∙◌, append_assoc, arith}
use Rattle.byteorder.specs.Endian.{little_bytes}
use Rattle.mv_orders.specs.declared.stage.Word.TheVariants as word
use Rattle.mv_orders.specs.declared.stage.Stage.TheVariants as stage
use Rattle.mv_orders.specs.declared.stage.Last.TheVariants as last
use Rattle.mv_orders.specs.declared.reply.OrderReply.TheVariants as answer
use Rattle.mv_record.specs.Spelling.{answer_text, byte_list, last_text, stage_text, word_text}
use Rattle.mv_record.specs.Fitting.{FitsAnswer, IsSmall, IsU32}
use Rattle.mv_record.specs.Reading.{◌⟫◌, accepted_answer_at, answer_at, answer_table, busy_answer_at, byte_list_at, failed_answer_at, last_at, last_table, missing_answer_at, number_at, plain_at, stage_answer_at, stage_at, stage_table, told_answer_at, unknown_answer_at, word_at, word_table}
use Rattle.mv_record.proofs.Rows.{Any, IsRow, IsAgain, row4, u32_again, byte_list_row, byte_list_again, field_row, plain_row, then_again, ends_again, tagged_row, tagged_again}

-- ---- an accepted word

pub word_row : IsRow [] word_text Any word_at
unfolding word_at
word_row = tagged_row [] word_text Any word_table
    (plain_row (0 ∷ []) word_text Any word.Update refl tt, (plain_row (1 ∷ []) word_text Any word.Promote refl tt, (plain_row (2 ∷ []) word_text Any word.Discard refl tt, (plain_row (3 ∷ []) word_text Any word.Finish refl tt, (plain_row (4 ∷ []) word_text Any word.Back refl tt, (plain_row (5 ∷ []) word_text Any word.Halt refl tt, tt))))))

pub word_again : IsAgain word_text Any word_at
unfolding word_at
word_again word.Update rest fits = tagged_again word_table 0 rest (omega arith)
word_again word.Promote rest fits = tagged_again word_table 1 rest (omega arith)
word_again word.Discard rest fits = tagged_again word_table 2 rest (omega arith)
word_again word.Finish rest fits = tagged_again word_table 3 rest (omega arith)
word_again word.Back rest fits = tagged_again word_table 4 rest (omega arith)
word_again word.Halt rest fits = tagged_again word_table 5 rest (omega arith)

-- ---- a stage

pub stage_row : IsRow [] stage_text Any stage_at
unfolding stage_at
stage_row = tagged_row [] stage_text Any stage_table
    (plain_row (0 ∷ []) stage_text Any stage.OldAlone refl tt, (plain_row (1 ∷ []) stage_text Any stage.OldLeads refl tt, (plain_row (2 ∷ []) stage_text Any stage.NewLeads refl tt, (plain_row (3 ∷ []) stage_text Any stage.NewAlone refl tt, tt))))

pub stage_again : IsAgain stage_text Any stage_at
unfolding stage_at
stage_again stage.OldAlone rest fits = tagged_again stage_table 0 rest (omega arith)
stage_again stage.OldLeads rest fits = tagged_again stage_table 1 rest (omega arith)
stage_again stage.NewLeads rest fits = tagged_again stage_table 2 rest (omega arith)
stage_again stage.NewAlone rest fits = tagged_again stage_table 3 rest (omega arith)

-- ---- why the last follower was dropped

pub last_row : IsRow [] last_text Any last_at
unfolding last_at
last_row = tagged_row [] last_text Any last_table
    (plain_row (0 ∷ []) last_text Any last.Never refl tt, (plain_row (1 ∷ []) last_text Any last.Trap refl tt, (plain_row (2 ∷ []) last_text Any last.Mismatch refl tt, (plain_row (3 ∷ []) last_text Any last.Refused refl tt, (plain_row (4 ∷ []) last_text Any last.Rules refl tt, (plain_row (5 ∷ []) last_text Any last.Order refl tt, (plain_row (6 ∷ []) last_text Any last.Memory refl tt, tt)))))))

pub last_again : IsAgain last_text Any last_at
unfolding last_at
last_again last.Never rest fits = tagged_again last_table 0 rest (omega arith)
last_again last.Trap rest fits = tagged_again last_table 1 rest (omega arith)
last_again last.Mismatch rest fits = tagged_again last_table 2 rest (omega arith)
last_again last.Refused rest fits = tagged_again last_table 3 rest (omega arith)
last_again last.Rules rest fits = tagged_again last_table 4 rest (omega arith)
last_again last.Order rest fits = tagged_again last_table 5 rest (omega arith)
last_again last.Memory rest fits = tagged_again last_table 6 rest (omega arith)

-- ---- the answer to an order

accepted_answer_row : IsRow (0 ∷ []) answer_text FitsAnswer accepted_answer_at
unfolding accepted_answer_at
accepted_answer_row = field_row word_text Any word_at (λ word. number_at 4 ⟫ λ update. plain_at (answer.Accepted word update)) (0 ∷ []) answer_text FitsAnswer word_row (λ word word_fits. field_row (little_bytes 4) IsU32 (number_at 4) (λ update. plain_at (answer.Accepted word update)) ((0 ∷ []) ++ word_text word) answer_text FitsAnswer row4 (λ update update_fits. plain_row (((0 ∷ []) ++ word_text word) ++ little_bytes 4 update) answer_text FitsAnswer (answer.Accepted word update) refl update_fits))

told_answer_row : IsRow (1 ∷ []) answer_text FitsAnswer told_answer_at
unfolding told_answer_at
told_answer_row = field_row stage_text Any stage_at (λ stage. number_at 4 ⟫ λ update. last_at ⟫ λ last. plain_at (answer.Told stage update last)) (1 ∷ []) answer_text FitsAnswer stage_row (λ stage stage_fits. field_row (little_bytes 4) IsU32 (number_at 4) (λ update. last_at ⟫ λ last. plain_at (answer.Told stage update last)) ((1 ∷ []) ++ stage_text stage) answer_text FitsAnswer row4 (λ update update_fits. field_row last_text Any last_at (λ last. plain_at (answer.Told stage update last)) (((1 ∷ []) ++ stage_text stage) ++ little_bytes 4 update) answer_text FitsAnswer last_row (λ last last_fits. plain_row ((((1 ∷ []) ++ stage_text stage) ++ little_bytes 4 update) ++ last_text last) answer_text FitsAnswer (answer.Told stage update last) (simp append_assoc) update_fits)))

unknown_answer_row : IsRow (4 ∷ []) answer_text FitsAnswer unknown_answer_at
unfolding unknown_answer_at
unknown_answer_row = field_row byte_list IsSmall byte_list_at (λ text. plain_at (answer.Unknown text)) (4 ∷ []) answer_text FitsAnswer byte_list_row (λ text text_fits. plain_row ((4 ∷ []) ++ byte_list text) answer_text FitsAnswer (answer.Unknown text) refl text_fits)

stage_answer_row : IsRow (5 ∷ []) answer_text FitsAnswer stage_answer_at
unfolding stage_answer_at
stage_answer_row = field_row stage_text Any stage_at (λ now. plain_at (answer.Stage now)) (5 ∷ []) answer_text FitsAnswer stage_row (λ now now_fits. plain_row ((5 ∷ []) ++ stage_text now) answer_text FitsAnswer (answer.Stage now) refl tt)

busy_answer_row : IsRow (6 ∷ []) answer_text FitsAnswer busy_answer_at
unfolding busy_answer_at
busy_answer_row = field_row (little_bytes 4) IsU32 (number_at 4) (λ update. plain_at (answer.Busy update)) (6 ∷ []) answer_text FitsAnswer row4 (λ update update_fits. plain_row ((6 ∷ []) ++ little_bytes 4 update) answer_text FitsAnswer (answer.Busy update) refl update_fits)

missing_answer_row : IsRow (8 ∷ []) answer_text FitsAnswer missing_answer_at
unfolding missing_answer_at
missing_answer_row = field_row byte_list IsSmall byte_list_at (λ path. plain_at (answer.Missing path)) (8 ∷ []) answer_text FitsAnswer byte_list_row (λ path path_fits. plain_row ((8 ∷ []) ++ byte_list path) answer_text FitsAnswer (answer.Missing path) refl path_fits)

failed_answer_row : IsRow (9 ∷ []) answer_text FitsAnswer failed_answer_at
unfolding failed_answer_at
failed_answer_row = field_row byte_list IsSmall byte_list_at (λ path. plain_at (answer.Failed path)) (9 ∷ []) answer_text FitsAnswer byte_list_row (λ path path_fits. plain_row ((9 ∷ []) ++ byte_list path) answer_text FitsAnswer (answer.Failed path) refl path_fits)

pub answer_row : IsRow [] answer_text FitsAnswer answer_at
unfolding answer_at
answer_row = tagged_row [] answer_text FitsAnswer answer_table
    (accepted_answer_row, (told_answer_row, (plain_row (2 ∷ []) answer_text FitsAnswer answer.Long refl tt, (plain_row (3 ∷ []) answer_text FitsAnswer answer.Utf8 refl tt, (unknown_answer_row, (stage_answer_row, (busy_answer_row, (plain_row (7 ∷ []) answer_text FitsAnswer answer.Many refl tt, (missing_answer_row, (failed_answer_row, tt))))))))))

pub answer_again : IsAgain answer_text FitsAnswer answer_at
unfolding answer_at accepted_answer_at told_answer_at unknown_answer_at stage_answer_at busy_answer_at missing_answer_at failed_answer_at
answer_again (answer.Accepted word update) rest fits = tagged_again answer_table 0 ((word_text word ++ little_bytes 4 update) ++ rest) (omega arith)
    ∙ then_again word_text Any word_at (λ word. number_at 4 ⟫ λ update. plain_at (answer.Accepted word update)) word_again word (little_bytes 4 update) rest tt
    ∙ ends_again (little_bytes 4) IsU32 (number_at 4) (λ update. plain_at (answer.Accepted word update)) u32_again update rest fits
answer_again (answer.Told stage update last) rest fits = tagged_again answer_table 1 ((stage_text stage ++ (little_bytes 4 update ++ last_text last)) ++ rest) (omega arith)
    ∙ then_again stage_text Any stage_at (λ stage. number_at 4 ⟫ λ update. last_at ⟫ λ last. plain_at (answer.Told stage update last)) stage_again stage (little_bytes 4 update ++ last_text last) rest tt
    ∙ then_again (little_bytes 4) IsU32 (number_at 4) (λ update. last_at ⟫ λ last. plain_at (answer.Told stage update last)) u32_again update (last_text last) rest fits
    ∙ ends_again last_text Any last_at (λ last. plain_at (answer.Told stage update last)) last_again last rest tt
answer_again answer.Long rest fits = tagged_again answer_table 2 rest (omega arith)
answer_again answer.Utf8 rest fits = tagged_again answer_table 3 rest (omega arith)
answer_again (answer.Unknown text) rest fits = tagged_again answer_table 4 ((byte_list text) ++ rest) (omega arith)
    ∙ ends_again byte_list IsSmall byte_list_at (λ text. plain_at (answer.Unknown text)) byte_list_again text rest fits
answer_again (answer.Stage now) rest fits = tagged_again answer_table 5 ((stage_text now) ++ rest) (omega arith)
    ∙ ends_again stage_text Any stage_at (λ now. plain_at (answer.Stage now)) stage_again now rest tt
answer_again (answer.Busy update) rest fits = tagged_again answer_table 6 ((little_bytes 4 update) ++ rest) (omega arith)
    ∙ ends_again (little_bytes 4) IsU32 (number_at 4) (λ update. plain_at (answer.Busy update)) u32_again update rest fits
answer_again answer.Many rest fits = tagged_again answer_table 7 rest (omega arith)
answer_again (answer.Missing path) rest fits = tagged_again answer_table 8 ((byte_list path) ++ rest) (omega arith)
    ∙ ends_again byte_list IsSmall byte_list_at (λ path. plain_at (answer.Missing path)) byte_list_again path rest fits
answer_again (answer.Failed path) rest fits = tagged_again answer_table 9 ((byte_list path) ++ rest) (omega arith)
    ∙ ends_again byte_list IsSmall byte_list_at (λ path. plain_at (answer.Failed path)) byte_list_again path rest fits
