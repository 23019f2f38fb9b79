-- Names in items: which are well formed, which an item binds, which stand again (docs/FORMATS.md, "Rewrite rules").
use Rattle.std.specs.Prelude.{ℕ, Bool, true, false, ◌&&◌, ◌||◌, not, List, [], ◌∷◌, ◌++◌, Option, Some, None}
use Rattle.std.specs.List.{list_all, list_any}
use Rattle.std.specs.Str.{bytes_eq}
use Rattle.mv_rules.specs.declared.rule.FdTerm.{FdTerm}
use Rattle.mv_rules.specs.declared.rule.FdTerm.TheVariants as fds
use Rattle.mv_rules.specs.declared.rule.TimeTerm.{TimeTerm}
use Rattle.mv_rules.specs.declared.rule.TimeTerm.TheVariants as times
use Rattle.mv_rules.specs.declared.rule.Part.{Part}
use Rattle.mv_rules.specs.declared.rule.Part.TheVariants.{Text, Sized, Named, Length}
use Rattle.mv_rules.specs.declared.rule.Pattern.{Pattern}
use Rattle.mv_rules.specs.declared.rule.Pattern.TheVariants.{Read, ReadErrno, Write, WriteErrno, Accept, AcceptErrno, Close, CloseErrno, Shutdown, ShutdownErrno, Yield, Clock, Random}
use Rattle.mv_scan.specs.Names.{is_name}

-- ## What stands in an item

-- the descriptor that the call names
abbrev pub fd_in : Pattern → Option FdTerm
fd_in (Read fd bytes) = Some fd
fd_in (ReadErrno fd errno) = Some fd
fd_in (Write fd bytes) = Some fd
fd_in (WriteErrno fd bytes errno) = Some fd
fd_in (Accept listener flags made) = Some listener
fd_in (AcceptErrno listener flags errno) = Some listener
fd_in (Close fd) = Some fd
fd_in (CloseErrno fd errno) = Some fd
fd_in (Shutdown fd how) = Some fd
fd_in (ShutdownErrno fd how errno) = Some fd
fd_in Yield = None
fd_in (Clock id time) = None
fd_in (Random bytes) = None

-- the descriptor that an accept gives
abbrev pub made_in : Pattern → Option FdTerm
made_in (Accept listener flags made) = Some made
made_in pattern = None

abbrev pub time_in : Pattern → Option TimeTerm
time_in (Clock id time) = Some time
time_in pattern = None

abbrev pub parts_in : Pattern → List Part
parts_in (Read fd bytes) = bytes
parts_in (Write fd bytes) = bytes
parts_in (WriteErrno fd bytes errno) = bytes
parts_in (Random bytes) = bytes
parts_in pattern = []

-- the test holds of the term's name, if it has one
abbrev pub fd_name_passes : (List ℕ → Bool) → Option FdTerm → Bool
fd_name_passes test None = true
fd_name_passes test (Some (fds.Number n)) = true
fd_name_passes test (Some (fds.Name name)) = test name

abbrev pub time_name_passes : (List ℕ → Bool) → Option TimeTerm → Bool
time_name_passes test None = true
time_name_passes test (Some (times.Number n)) = true
time_name_passes test (Some (times.Name name)) = test name

abbrev pub part_name_passes : (List ℕ → Bool) → Part → Bool
part_name_passes test (Text text) = true
part_name_passes test (Sized name n) = test name
part_name_passes test (Named name) = test name
part_name_passes test (Length name) = test name

-- the tests hold of the names of descriptors, of moments and of bytes
abbrev pub names_pass : (List ℕ → Bool) → (List ℕ → Bool) → (List ℕ → Bool) → Pattern → Bool
names_pass fd time byte pattern =
    fd_name_passes fd (fd_in pattern) && (fd_name_passes fd (made_in pattern)
    && (time_name_passes time (time_in pattern) && list_all (part_name_passes byte) (parts_in pattern)))

-- ## Well formed

abbrev pub has_good_names : Pattern → Bool
has_good_names = names_pass is_name is_name is_name

abbrev pub is_rest : Part → Bool
is_rest (Named name) = true
is_rest part = false

abbrev pub is_end : List Part → Bool
is_end [] = true
is_end (part ∷ parts) = false

-- on the left nothing stands behind all the rest
abbrev pub rest_is_last : List Part → Bool
rest_is_last [] = true
rest_is_last (part ∷ parts) = (not (is_rest part) || is_end parts) && rest_is_last parts

-- on the right no part has a length
abbrev pub is_sized : Part → Bool
is_sized (Sized name n) = true
is_sized part = false

-- ## Bound

abbrev pub is_fd_name : List ℕ → Option FdTerm → Bool
is_fd_name name None = false
is_fd_name name (Some (fds.Number n)) = false
is_fd_name name (Some (fds.Name other)) = bytes_eq other name

abbrev pub is_time_name : List ℕ → Option TimeTerm → Bool
is_time_name name None = false
is_time_name name (Some (times.Number n)) = false
is_time_name name (Some (times.Name other)) = bytes_eq other name

abbrev pub is_part_name : List ℕ → Part → Bool
is_part_name name (Sized other n) = bytes_eq other name
is_part_name name (Named other) = bytes_eq other name
is_part_name name part = false

abbrev pub binds_fd : List ℕ → Pattern → Bool
binds_fd name pattern = is_fd_name name (fd_in pattern) || is_fd_name name (made_in pattern)

abbrev pub binds_time : List ℕ → Pattern → Bool
binds_time name pattern = is_time_name name (time_in pattern)

abbrev pub binds_bytes : List ℕ → Pattern → Bool
binds_bytes name pattern = list_any (is_part_name name) (parts_in pattern)

-- the left side binds the name with this sign
abbrev pub fd_is_bound : List Pattern → List ℕ → Bool
fd_is_bound left name = list_any (binds_fd name) left

abbrev pub time_is_bound : List Pattern → List ℕ → Bool
time_is_bound left name = list_any (binds_time name) left

abbrev pub bytes_are_bound : List Pattern → List ℕ → Bool
bytes_are_bound left name = list_any (binds_bytes name) left

-- the left side binds each name of the item
abbrev pub is_all_bound : List Pattern → Pattern → Bool
is_all_bound left = names_pass (fd_is_bound left) (time_is_bound left) (bytes_are_bound left)

-- ## Again

-- no part before has the name
abbrev pub is_new : List Pattern → List Part → List ℕ → Bool
is_new left before name = not (bytes_are_bound left name || list_any (is_part_name name) before)

-- a byte name stands again, in an earlier item or before in this list
abbrev pub has_again : List Pattern → List Part → List Part → Bool
has_again left before [] = false
has_again left before (part ∷ parts) = not (part_name_passes (is_new left before) part) || has_again left (before ++ part ∷ []) parts
