-- Calls and replies: each row is read as it is spelled, and read again.
use Rattle.std.proofs.Common.{[], ◌∷◌, ◌++◌, refl, ◌∙◌, append_assoc, arith}
use Rattle.byteorder.specs.Endian.{little_bytes}
use Rattle.mv_calls.specs.declared.subs.Sub.TheVariants as sub
use Rattle.mv_calls.specs.declared.calls.Call.TheVariants as call
use Rattle.mv_calls.specs.declared.calls.Reply.TheVariants as reply
use Rattle.mv_record.specs.Spelling.{byte, byte_list, call_text, happened_text, list_text, reply_text, sub_text}
use Rattle.mv_record.specs.Fitting.{FitsCall, FitsHappened, FitsList, FitsReply, FitsSub, IsSmall, IsU16, IsU32, IsU64, IsU8}
use Rattle.mv_record.specs.Reading.{◌⟫◌, accept_call_at, byte_list_at, bytes_reply_at, call_at, call_table, clock_call_at, clock_sub_at, close_call_at, count_reply_at, errno_reply_at, fd_reply_at, fd_stat_call_at, happened_at, list_at, made_happened, number_at, plain_at, poll_call_at, random_call_at, read_call_at, read_sub_at, ready_reply_at, reply_at, reply_table, shutdown_call_at, stat_reply_at, sub_at, sub_table, time_reply_at, write_call_at, write_sub_at}
use Rattle.mv_record.proofs.Rows.{IsRow, IsAgain, row2, row4, row8, byte_row, u16_again, u32_again, u64_again, byte_again, byte_list_row, byte_list_again, field_row, plain_row, then_again, ends_again, list_row, list_again, tagged_row, tagged_again}

-- ---- a subscription

clock_sub_row : IsRow (0 ∷ []) sub_text FitsSub clock_sub_at
unfolding clock_sub_at
clock_sub_row = field_row (little_bytes 4) IsU32 (number_at 4) (λ id. number_at 8 ⟫ λ timeout. number_at 2 ⟫ λ flags. plain_at (sub.Clock id timeout flags)) (0 ∷ []) sub_text FitsSub row4 (λ id id_fits. field_row (little_bytes 8) IsU64 (number_at 8) (λ timeout. number_at 2 ⟫ λ flags. plain_at (sub.Clock id timeout flags)) ((0 ∷ []) ++ little_bytes 4 id) sub_text FitsSub row8 (λ timeout timeout_fits. field_row (little_bytes 2) IsU16 (number_at 2) (λ flags. plain_at (sub.Clock id timeout flags)) (((0 ∷ []) ++ little_bytes 4 id) ++ little_bytes 8 timeout) sub_text FitsSub row2 (λ flags flags_fits. plain_row ((((0 ∷ []) ++ little_bytes 4 id) ++ little_bytes 8 timeout) ++ little_bytes 2 flags) sub_text FitsSub (sub.Clock id timeout flags) (simp append_assoc) (id_fits, timeout_fits, flags_fits))))

read_sub_row : IsRow (1 ∷ []) sub_text FitsSub read_sub_at
unfolding read_sub_at
read_sub_row = field_row (little_bytes 4) IsU32 (number_at 4) (λ fd. plain_at (sub.Read fd)) (1 ∷ []) sub_text FitsSub row4 (λ fd fd_fits. plain_row ((1 ∷ []) ++ little_bytes 4 fd) sub_text FitsSub (sub.Read fd) refl fd_fits)

write_sub_row : IsRow (2 ∷ []) sub_text FitsSub write_sub_at
unfolding write_sub_at
write_sub_row = field_row (little_bytes 4) IsU32 (number_at 4) (λ fd. plain_at (sub.Write fd)) (2 ∷ []) sub_text FitsSub row4 (λ fd fd_fits. plain_row ((2 ∷ []) ++ little_bytes 4 fd) sub_text FitsSub (sub.Write fd) refl fd_fits)

pub sub_row : IsRow [] sub_text FitsSub sub_at
unfolding sub_at
sub_row = tagged_row [] sub_text FitsSub sub_table
    (clock_sub_row, (read_sub_row, (write_sub_row, tt)))

pub sub_again : IsAgain sub_text FitsSub sub_at
unfolding sub_at clock_sub_at read_sub_at write_sub_at
sub_again (sub.Clock id timeout flags) rest fits = tagged_again sub_table 0 ((little_bytes 4 id ++ (little_bytes 8 timeout ++ little_bytes 2 flags)) ++ rest) (omega arith)
    ∙ then_again (little_bytes 4) IsU32 (number_at 4) (λ id. number_at 8 ⟫ λ timeout. number_at 2 ⟫ λ flags. plain_at (sub.Clock id timeout flags)) u32_again id (little_bytes 8 timeout ++ little_bytes 2 flags) rest fits.0
    ∙ then_again (little_bytes 8) IsU64 (number_at 8) (λ timeout. number_at 2 ⟫ λ flags. plain_at (sub.Clock id timeout flags)) u64_again timeout (little_bytes 2 flags) rest fits.1
    ∙ ends_again (little_bytes 2) IsU16 (number_at 2) (λ flags. plain_at (sub.Clock id timeout flags)) u16_again flags rest fits.2
sub_again (sub.Read fd) rest fits = tagged_again sub_table 1 ((little_bytes 4 fd) ++ rest) (omega arith)
    ∙ ends_again (little_bytes 4) IsU32 (number_at 4) (λ fd. plain_at (sub.Read fd)) u32_again fd rest fits
sub_again (sub.Write fd) rest fits = tagged_again sub_table 2 ((little_bytes 4 fd) ++ rest) (omega arith)
    ∙ ends_again (little_bytes 4) IsU32 (number_at 4) (λ fd. plain_at (sub.Write fd)) u32_again fd rest fits

-- ---- an event

pub happened_row : IsRow [] happened_text FitsHappened happened_at
unfolding happened_at
happened_row = field_row (little_bytes 4) IsU32 (number_at 4) (λ sub. number_at 2 ⟫ λ error. number_at 8 ⟫ λ nbytes. number_at 2 ⟫ λ flags. plain_at (made_happened sub error nbytes flags)) ([]) happened_text FitsHappened row4 (λ sub sub_fits. field_row (little_bytes 2) IsU16 (number_at 2) (λ error. number_at 8 ⟫ λ nbytes. number_at 2 ⟫ λ flags. plain_at (made_happened sub error nbytes flags)) ([] ++ little_bytes 4 sub) happened_text FitsHappened row2 (λ error error_fits. field_row (little_bytes 8) IsU64 (number_at 8) (λ nbytes. number_at 2 ⟫ λ flags. plain_at (made_happened sub error nbytes flags)) (([] ++ little_bytes 4 sub) ++ little_bytes 2 error) happened_text FitsHappened row8 (λ nbytes nbytes_fits. field_row (little_bytes 2) IsU16 (number_at 2) (λ flags. plain_at (made_happened sub error nbytes flags)) ((([] ++ little_bytes 4 sub) ++ little_bytes 2 error) ++ little_bytes 8 nbytes) happened_text FitsHappened row2 (λ flags flags_fits. plain_row (((([] ++ little_bytes 4 sub) ++ little_bytes 2 error) ++ little_bytes 8 nbytes) ++ little_bytes 2 flags) happened_text FitsHappened (made_happened sub error nbytes flags) (simp append_assoc) (sub_fits, error_fits, nbytes_fits, flags_fits)))))

pub happened_again : IsAgain happened_text FitsHappened happened_at
unfolding happened_at
happened_again x rest fits =
    then_again (little_bytes 4) IsU32 (number_at 4) (λ sub. number_at 2 ⟫ λ error. number_at 8 ⟫ λ nbytes. number_at 2 ⟫ λ flags. plain_at (made_happened sub error nbytes flags)) u32_again x.sub (little_bytes 2 x.error ++ (little_bytes 8 x.nbytes ++ little_bytes 2 x.flags)) rest fits.0
    ∙ then_again (little_bytes 2) IsU16 (number_at 2) (λ error. number_at 8 ⟫ λ nbytes. number_at 2 ⟫ λ flags. plain_at (made_happened x.sub error nbytes flags)) u16_again x.error (little_bytes 8 x.nbytes ++ little_bytes 2 x.flags) rest fits.1
    ∙ then_again (little_bytes 8) IsU64 (number_at 8) (λ nbytes. number_at 2 ⟫ λ flags. plain_at (made_happened x.sub x.error nbytes flags)) u64_again x.nbytes (little_bytes 2 x.flags) rest fits.2
    ∙ ends_again (little_bytes 2) IsU16 (number_at 2) (λ flags. plain_at (made_happened x.sub x.error x.nbytes flags)) u16_again x.flags rest fits.3

-- ---- a call

clock_call_row : IsRow (0 ∷ []) call_text FitsCall clock_call_at
unfolding clock_call_at
clock_call_row = field_row (little_bytes 4) IsU32 (number_at 4) (λ id. plain_at (call.Clock id)) (0 ∷ []) call_text FitsCall row4 (λ id id_fits. plain_row ((0 ∷ []) ++ little_bytes 4 id) call_text FitsCall (call.Clock id) refl id_fits)

random_call_row : IsRow (1 ∷ []) call_text FitsCall random_call_at
unfolding random_call_at
random_call_row = field_row (little_bytes 4) IsU32 (number_at 4) (λ len. plain_at (call.Random len)) (1 ∷ []) call_text FitsCall row4 (λ len len_fits. plain_row ((1 ∷ []) ++ little_bytes 4 len) call_text FitsCall (call.Random len) refl len_fits)

read_call_row : IsRow (2 ∷ []) call_text FitsCall read_call_at
unfolding read_call_at
read_call_row = field_row (little_bytes 4) IsU32 (number_at 4) (λ fd. number_at 4 ⟫ λ cap. plain_at (call.Read fd cap)) (2 ∷ []) call_text FitsCall row4 (λ fd fd_fits. field_row (little_bytes 4) IsU32 (number_at 4) (λ cap. plain_at (call.Read fd cap)) ((2 ∷ []) ++ little_bytes 4 fd) call_text FitsCall row4 (λ cap cap_fits. plain_row (((2 ∷ []) ++ little_bytes 4 fd) ++ little_bytes 4 cap) call_text FitsCall (call.Read fd cap) refl (fd_fits, cap_fits)))

write_call_row : IsRow (3 ∷ []) call_text FitsCall write_call_at
unfolding write_call_at
write_call_row = field_row (little_bytes 4) IsU32 (number_at 4) (λ fd. byte_list_at ⟫ λ bytes. plain_at (call.Write fd bytes)) (3 ∷ []) call_text FitsCall row4 (λ fd fd_fits. field_row byte_list IsSmall byte_list_at (λ bytes. plain_at (call.Write fd bytes)) ((3 ∷ []) ++ little_bytes 4 fd) call_text FitsCall byte_list_row (λ bytes bytes_fits. plain_row (((3 ∷ []) ++ little_bytes 4 fd) ++ byte_list bytes) call_text FitsCall (call.Write fd bytes) refl (fd_fits, bytes_fits)))

close_call_row : IsRow (4 ∷ []) call_text FitsCall close_call_at
unfolding close_call_at
close_call_row = field_row (little_bytes 4) IsU32 (number_at 4) (λ fd. plain_at (call.Close fd)) (4 ∷ []) call_text FitsCall row4 (λ fd fd_fits. plain_row ((4 ∷ []) ++ little_bytes 4 fd) call_text FitsCall (call.Close fd) refl fd_fits)

fd_stat_call_row : IsRow (5 ∷ []) call_text FitsCall fd_stat_call_at
unfolding fd_stat_call_at
fd_stat_call_row = field_row (little_bytes 4) IsU32 (number_at 4) (λ fd. plain_at (call.FdStat fd)) (5 ∷ []) call_text FitsCall row4 (λ fd fd_fits. plain_row ((5 ∷ []) ++ little_bytes 4 fd) call_text FitsCall (call.FdStat fd) refl fd_fits)

poll_call_row : IsRow (7 ∷ []) call_text FitsCall poll_call_at
unfolding poll_call_at
poll_call_row = field_row (list_text sub_text) (FitsList FitsSub) (list_at sub_at) (λ subs. plain_at (call.Poll subs)) (7 ∷ []) call_text FitsCall (list_row sub_text FitsSub sub_at sub_row) (λ subs subs_fits. plain_row ((7 ∷ []) ++ list_text sub_text subs) call_text FitsCall (call.Poll subs) refl subs_fits)

accept_call_row : IsRow (8 ∷ []) call_text FitsCall accept_call_at
unfolding accept_call_at
accept_call_row = field_row (little_bytes 4) IsU32 (number_at 4) (λ fd. number_at 2 ⟫ λ flags. plain_at (call.Accept fd flags)) (8 ∷ []) call_text FitsCall row4 (λ fd fd_fits. field_row (little_bytes 2) IsU16 (number_at 2) (λ flags. plain_at (call.Accept fd flags)) ((8 ∷ []) ++ little_bytes 4 fd) call_text FitsCall row2 (λ flags flags_fits. plain_row (((8 ∷ []) ++ little_bytes 4 fd) ++ little_bytes 2 flags) call_text FitsCall (call.Accept fd flags) refl (fd_fits, flags_fits)))

shutdown_call_row : IsRow (9 ∷ []) call_text FitsCall shutdown_call_at
unfolding shutdown_call_at
shutdown_call_row = field_row (little_bytes 4) IsU32 (number_at 4) (λ fd. number_at 1 ⟫ λ how. plain_at (call.Shutdown fd how)) (9 ∷ []) call_text FitsCall row4 (λ fd fd_fits. field_row byte IsU8 (number_at 1) (λ how. plain_at (call.Shutdown fd how)) ((9 ∷ []) ++ little_bytes 4 fd) call_text FitsCall byte_row (λ how how_fits. plain_row (((9 ∷ []) ++ little_bytes 4 fd) ++ byte how) call_text FitsCall (call.Shutdown fd how) refl (fd_fits, how_fits)))

pub call_row : IsRow [] call_text FitsCall call_at
unfolding call_at
call_row = tagged_row [] call_text FitsCall call_table
    (clock_call_row, (random_call_row, (read_call_row, (write_call_row, (close_call_row, (fd_stat_call_row, (plain_row (6 ∷ []) call_text FitsCall call.Yield refl tt, (poll_call_row, (accept_call_row, (shutdown_call_row, tt))))))))))

pub call_again : IsAgain call_text FitsCall call_at
unfolding call_at clock_call_at random_call_at read_call_at write_call_at close_call_at fd_stat_call_at poll_call_at accept_call_at shutdown_call_at
call_again (call.Clock id) rest fits = tagged_again call_table 0 ((little_bytes 4 id) ++ rest) (omega arith)
    ∙ ends_again (little_bytes 4) IsU32 (number_at 4) (λ id. plain_at (call.Clock id)) u32_again id rest fits
call_again (call.Random len) rest fits = tagged_again call_table 1 ((little_bytes 4 len) ++ rest) (omega arith)
    ∙ ends_again (little_bytes 4) IsU32 (number_at 4) (λ len. plain_at (call.Random len)) u32_again len rest fits
call_again (call.Read fd cap) rest fits = tagged_again call_table 2 ((little_bytes 4 fd ++ little_bytes 4 cap) ++ rest) (omega arith)
    ∙ then_again (little_bytes 4) IsU32 (number_at 4) (λ fd. number_at 4 ⟫ λ cap. plain_at (call.Read fd cap)) u32_again fd (little_bytes 4 cap) rest fits.0
    ∙ ends_again (little_bytes 4) IsU32 (number_at 4) (λ cap. plain_at (call.Read fd cap)) u32_again cap rest fits.1
call_again (call.Write fd bytes) rest fits = tagged_again call_table 3 ((little_bytes 4 fd ++ byte_list bytes) ++ rest) (omega arith)
    ∙ then_again (little_bytes 4) IsU32 (number_at 4) (λ fd. byte_list_at ⟫ λ bytes. plain_at (call.Write fd bytes)) u32_again fd (byte_list bytes) rest fits.0
    ∙ ends_again byte_list IsSmall byte_list_at (λ bytes. plain_at (call.Write fd bytes)) byte_list_again bytes rest fits.1
call_again (call.Close fd) rest fits = tagged_again call_table 4 ((little_bytes 4 fd) ++ rest) (omega arith)
    ∙ ends_again (little_bytes 4) IsU32 (number_at 4) (λ fd. plain_at (call.Close fd)) u32_again fd rest fits
call_again (call.FdStat fd) rest fits = tagged_again call_table 5 ((little_bytes 4 fd) ++ rest) (omega arith)
    ∙ ends_again (little_bytes 4) IsU32 (number_at 4) (λ fd. plain_at (call.FdStat fd)) u32_again fd rest fits
call_again call.Yield rest fits = tagged_again call_table 6 rest (omega arith)
call_again (call.Poll subs) rest fits = tagged_again call_table 7 ((list_text sub_text subs) ++ rest) (omega arith)
    ∙ ends_again (list_text sub_text) (FitsList FitsSub) (list_at sub_at) (λ subs. plain_at (call.Poll subs)) (list_again sub_text FitsSub sub_at sub_again) subs rest fits
call_again (call.Accept fd flags) rest fits = tagged_again call_table 8 ((little_bytes 4 fd ++ little_bytes 2 flags) ++ rest) (omega arith)
    ∙ then_again (little_bytes 4) IsU32 (number_at 4) (λ fd. number_at 2 ⟫ λ flags. plain_at (call.Accept fd flags)) u32_again fd (little_bytes 2 flags) rest fits.0
    ∙ ends_again (little_bytes 2) IsU16 (number_at 2) (λ flags. plain_at (call.Accept fd flags)) u16_again flags rest fits.1
call_again (call.Shutdown fd how) rest fits = tagged_again call_table 9 ((little_bytes 4 fd ++ byte how) ++ rest) (omega arith)
    ∙ then_again (little_bytes 4) IsU32 (number_at 4) (λ fd. number_at 1 ⟫ λ how. plain_at (call.Shutdown fd how)) u32_again fd (byte how) rest fits.0
    ∙ ends_again byte IsU8 (number_at 1) (λ how. plain_at (call.Shutdown fd how)) byte_again how rest fits.1

-- ---- a reply

errno_reply_row : IsRow (0 ∷ []) reply_text FitsReply errno_reply_at
unfolding errno_reply_at
errno_reply_row = field_row (little_bytes 2) IsU16 (number_at 2) (λ errno. plain_at (reply.Errno errno)) (0 ∷ []) reply_text FitsReply row2 (λ errno errno_fits. plain_row ((0 ∷ []) ++ little_bytes 2 errno) reply_text FitsReply (reply.Errno errno) refl errno_fits)

bytes_reply_row : IsRow (2 ∷ []) reply_text FitsReply bytes_reply_at
unfolding bytes_reply_at
bytes_reply_row = field_row byte_list IsSmall byte_list_at (λ bytes. plain_at (reply.Bytes bytes)) (2 ∷ []) reply_text FitsReply byte_list_row (λ bytes bytes_fits. plain_row ((2 ∷ []) ++ byte_list bytes) reply_text FitsReply (reply.Bytes bytes) refl bytes_fits)

count_reply_row : IsRow (3 ∷ []) reply_text FitsReply count_reply_at
unfolding count_reply_at
count_reply_row = field_row (little_bytes 4) IsU32 (number_at 4) (λ count. plain_at (reply.Count count)) (3 ∷ []) reply_text FitsReply row4 (λ count count_fits. plain_row ((3 ∷ []) ++ little_bytes 4 count) reply_text FitsReply (reply.Count count) refl count_fits)

fd_reply_row : IsRow (4 ∷ []) reply_text FitsReply fd_reply_at
unfolding fd_reply_at
fd_reply_row = field_row (little_bytes 4) IsU32 (number_at 4) (λ fd. plain_at (reply.Fd fd)) (4 ∷ []) reply_text FitsReply row4 (λ fd fd_fits. plain_row ((4 ∷ []) ++ little_bytes 4 fd) reply_text FitsReply (reply.Fd fd) refl fd_fits)

time_reply_row : IsRow (5 ∷ []) reply_text FitsReply time_reply_at
unfolding time_reply_at
time_reply_row = field_row (little_bytes 8) IsU64 (number_at 8) (λ time. plain_at (reply.Time time)) (5 ∷ []) reply_text FitsReply row8 (λ time time_fits. plain_row ((5 ∷ []) ++ little_bytes 8 time) reply_text FitsReply (reply.Time time) refl time_fits)

stat_reply_row : IsRow (6 ∷ []) reply_text FitsReply stat_reply_at
unfolding stat_reply_at
stat_reply_row = field_row byte IsU8 (number_at 1) (λ filetype. number_at 2 ⟫ λ flags. number_at 8 ⟫ λ rights. number_at 8 ⟫ λ heirs. plain_at (reply.Stat filetype flags rights heirs)) (6 ∷ []) reply_text FitsReply byte_row (λ filetype filetype_fits. field_row (little_bytes 2) IsU16 (number_at 2) (λ flags. number_at 8 ⟫ λ rights. number_at 8 ⟫ λ heirs. plain_at (reply.Stat filetype flags rights heirs)) ((6 ∷ []) ++ byte filetype) reply_text FitsReply row2 (λ flags flags_fits. field_row (little_bytes 8) IsU64 (number_at 8) (λ rights. number_at 8 ⟫ λ heirs. plain_at (reply.Stat filetype flags rights heirs)) (((6 ∷ []) ++ byte filetype) ++ little_bytes 2 flags) reply_text FitsReply row8 (λ rights rights_fits. field_row (little_bytes 8) IsU64 (number_at 8) (λ heirs. plain_at (reply.Stat filetype flags rights heirs)) ((((6 ∷ []) ++ byte filetype) ++ little_bytes 2 flags) ++ little_bytes 8 rights) reply_text FitsReply row8 (λ heirs heirs_fits. plain_row (((((6 ∷ []) ++ byte filetype) ++ little_bytes 2 flags) ++ little_bytes 8 rights) ++ little_bytes 8 heirs) reply_text FitsReply (reply.Stat filetype flags rights heirs) (simp append_assoc) (filetype_fits, flags_fits, rights_fits, heirs_fits)))))

ready_reply_row : IsRow (7 ∷ []) reply_text FitsReply ready_reply_at
unfolding ready_reply_at
ready_reply_row = field_row (list_text happened_text) (FitsList FitsHappened) (list_at happened_at) (λ happenings. plain_at (reply.Ready happenings)) (7 ∷ []) reply_text FitsReply (list_row happened_text FitsHappened happened_at happened_row) (λ happenings happenings_fits. plain_row ((7 ∷ []) ++ list_text happened_text happenings) reply_text FitsReply (reply.Ready happenings) refl happenings_fits)

pub reply_row : IsRow [] reply_text FitsReply reply_at
unfolding reply_at
reply_row = tagged_row [] reply_text FitsReply reply_table
    (errno_reply_row, (plain_row (1 ∷ []) reply_text FitsReply reply.Done refl tt, (bytes_reply_row, (count_reply_row, (fd_reply_row, (time_reply_row, (stat_reply_row, (ready_reply_row, tt))))))))

pub reply_again : IsAgain reply_text FitsReply reply_at
unfolding reply_at errno_reply_at bytes_reply_at count_reply_at fd_reply_at time_reply_at stat_reply_at ready_reply_at
reply_again (reply.Errno errno) rest fits = tagged_again reply_table 0 ((little_bytes 2 errno) ++ rest) (omega arith)
    ∙ ends_again (little_bytes 2) IsU16 (number_at 2) (λ errno. plain_at (reply.Errno errno)) u16_again errno rest fits
reply_again reply.Done rest fits = tagged_again reply_table 1 rest (omega arith)
reply_again (reply.Bytes bytes) rest fits = tagged_again reply_table 2 ((byte_list bytes) ++ rest) (omega arith)
    ∙ ends_again byte_list IsSmall byte_list_at (λ bytes. plain_at (reply.Bytes bytes)) byte_list_again bytes rest fits
reply_again (reply.Count count) rest fits = tagged_again reply_table 3 ((little_bytes 4 count) ++ rest) (omega arith)
    ∙ ends_again (little_bytes 4) IsU32 (number_at 4) (λ count. plain_at (reply.Count count)) u32_again count rest fits
reply_again (reply.Fd fd) rest fits = tagged_again reply_table 4 ((little_bytes 4 fd) ++ rest) (omega arith)
    ∙ ends_again (little_bytes 4) IsU32 (number_at 4) (λ fd. plain_at (reply.Fd fd)) u32_again fd rest fits
reply_again (reply.Time time) rest fits = tagged_again reply_table 5 ((little_bytes 8 time) ++ rest) (omega arith)
    ∙ ends_again (little_bytes 8) IsU64 (number_at 8) (λ time. plain_at (reply.Time time)) u64_again time rest fits
reply_again (reply.Stat filetype flags rights heirs) rest fits = tagged_again reply_table 6 ((byte filetype ++ (little_bytes 2 flags ++ (little_bytes 8 rights ++ little_bytes 8 heirs))) ++ rest) (omega arith)
    ∙ then_again byte IsU8 (number_at 1) (λ filetype. number_at 2 ⟫ λ flags. number_at 8 ⟫ λ rights. number_at 8 ⟫ λ heirs. plain_at (reply.Stat filetype flags rights heirs)) byte_again filetype (little_bytes 2 flags ++ (little_bytes 8 rights ++ little_bytes 8 heirs)) rest fits.0
    ∙ then_again (little_bytes 2) IsU16 (number_at 2) (λ flags. number_at 8 ⟫ λ rights. number_at 8 ⟫ λ heirs. plain_at (reply.Stat filetype flags rights heirs)) u16_again flags (little_bytes 8 rights ++ little_bytes 8 heirs) rest fits.1
    ∙ then_again (little_bytes 8) IsU64 (number_at 8) (λ rights. number_at 8 ⟫ λ heirs. plain_at (reply.Stat filetype flags rights heirs)) u64_again rights (little_bytes 8 heirs) rest fits.2
    ∙ ends_again (little_bytes 8) IsU64 (number_at 8) (λ heirs. plain_at (reply.Stat filetype flags rights heirs)) u64_again heirs rest fits.3
reply_again (reply.Ready happenings) rest fits = tagged_again reply_table 7 ((list_text happened_text happenings) ++ rest) (omega arith)
    ∙ ends_again (list_text happened_text) (FitsList FitsHappened) (list_at happened_at) (λ happenings. plain_at (reply.Ready happenings)) (list_again happened_text FitsHappened happened_at happened_again) happenings rest fits
