-- What stands at each path after a change of one file.
use Rattle.std.specs.Prelude.{◌≡◌, ◌≢◌, ◌↔◌, ◌+◌, ◌<◌, ◌≤◌, ℕ, zero, suc, Bool, true, false, ◌&&◌, is_none, drop, List, [], ◌∷◌, ◌++◌, length, take, Option, Some, None, IsTrue, Result, Err, refl}
use Rattle.std.proofs.Common.{arith, ap, sym, subst, ◌∙◌, cond, get_or, set}
use Rattle.std.specs.Option.{option_map, option_or}
use Rattle.std.specs.List.{find, position_or_len, slice_get}
use Rattle.std.specs.Str.{bytes_eq}
use Rattle.std.proofs.Math.Seq.{drop-cons}
use Rattle.std.proofs.lemmas.List.{get_or_default}
use Rattle.std.proofs.lemmas.List.Folds.{find-set, find_past, find-append, find_at}
use Rattle.std.proofs.lemmas.List.Sums.{passes_at_first}
use Rattle.std.proofs.lemmas.Option.{slice_get_past, slice_get-get_or}
use Rattle.std.proofs.lemmas.Slice.Eq.{bytes_eq-Decides}
use Rattle.mv_calls.specs.Or.{IsFault}
use Rattle.mv_calls.specs.declared.fault.Or.{Or}
use Rattle.mv_calls.specs.declared.fault.Or.TheVariants.{OutOfMemory}
use Rattle.mv_outside.specs.Files.{FileMap}
use Rattle.mv_outside.specs.MemFiles.{file_at, is_at, do_paths_differ, HoldsGiven, ChangesFile}
use Rattle.mv_outside.specs.declared.fault.Failed.{Failed}
use Rattle.mv_outside.specs.declared.files.Found.{Found}
use Rattle.mv_outside.specs.declared.files.Found.TheVariants as found
use Rattle.mv_outside.specs.declared.mem_files.FileAt.{FileAt}

-- the content of what was found
abbrev content_of : Option FileAt → Option (List ℕ)
content_of found = option_map (λ (file : FileAt). file.bytes) found

false_unless : (b : Bool) → (b ≡ true → ⊥) → b ≡ false
false_unless true h = absurd (h refl)
false_unless false h = refl

-- a file at one path isn't at another
at_no_other : (file : FileAt) (path other : List ℕ) → file.path ≡ path → other ≢ path → is_at other file ≡ false
at_no_other file path other here differs =
    false_unless (is_at other file) (λ same. differs (sym ((bytes_eq-Decides file.path other).0 same) ∙ here))

-- where no file has the path, nothing stands there
pub absent : (files : List FileAt) (path : List ℕ) → length files ≤ position_or_len (is_at path) files → file_at files path ≡ None
absent files path past = ap content_of (find_at (is_at path) files ∙ slice_get_past files (position_or_len (is_at path) files) past)

-- the first file of the path is what stands there
pub present : (files : List FileAt) (path : List ℕ) (i : ℕ) (file : FileAt) → i ≡ position_or_len (is_at path) files →
    i < length files → file ≡ get_or files i file → file_at files path ≡ Some file.bytes
present files path i file place within read =
    ap content_of (find_at (is_at path) files ∙ (ap (slice_get files) (sym place) ∙ (slice_get-get_or files i file within ∙ ap Some (sym read))))

-- and it has the path
found_here : (files : List FileAt) (path : List ℕ) (i : ℕ) (file : FileAt) → i ≡ position_or_len (is_at path) files →
    i < length files → file ≡ get_or files i file → is_at path file ≡ true
found_here files path i file place within read =
    let Within : ℕ → Type 0 = λ k. k < length files in
    let Passes : ℕ → Type 0 = λ k. is_at path (get_or files k file) ≡ true in
    let Here : FileAt → Type 0 = λ f. is_at path f ≡ true in
    subst Here (sym read) (subst Passes (sym place) (passes_at_first (is_at path) files file (subst Within place within)))

-- the new file stands at its path
pub set_here : (files : List FileAt) (path : List ℕ) (i : ℕ) (file new : FileAt) → i ≡ position_or_len (is_at path) files →
    i < length files → file ≡ get_or files i file → new.path ≡ file.path → file_at (set files i new) path ≡ Some new.bytes
set_here files path i file new place within read same =
    let here : is_at path new ≡ true = ap (λ p. bytes_eq p path) same ∙ found_here files path i file place within read in
    ap content_of (find-set (is_at path) files i new place within here)

-- and all others stay
pub set_others : (files : List FileAt) (path : List ℕ) (i : ℕ) (file new : FileAt) → i ≡ position_or_len (is_at path) files →
    i < length files → file ≡ get_or files i file → new.path ≡ file.path → ChangesFile files path (set files i new)
set_others files path i file new place within read same other differs =
    let here : file.path ≡ path = (bytes_eq-Decides file.path path).0 (found_here files path i file place within read) in
    let Away : FileAt → Type 0 = λ f. is_at other f ≡ false in
    let old_away : is_at other (get_or files i file) ≡ false = subst Away read (at_no_other file path other here differs) in
    let new_away : is_at other new ≡ false = at_no_other new path other (same ∙ here) differs in
    ap content_of (find_past (is_at other) files i new file old_away new_away)

-- the test of the one file of a list
find_one : (test : FileAt → Bool) (file : FileAt) → test file ≡ true → find test (file ∷ []) ≡ Some file
find_one test file h = ap (λ b. cond b (Some file) None) h

find_not_one : (test : FileAt → Bool) (file : FileAt) → test file ≡ false → find test (file ∷ []) ≡ None
find_not_one test file h = ap (λ b. cond b (Some file) None) h

or_none : (found : Option FileAt) → option_or found None ≡ found
or_none None = refl
or_none (Some file) = refl

-- a new file at the end stands at its path, where none did
pub push_here : (files : List FileAt) (path : List ℕ) (new : FileAt) → length files ≤ position_or_len (is_at path) files →
    new.path ≡ path → file_at (files ++ new ∷ []) path ≡ Some new.bytes
push_here files path new past same =
    let none : find (is_at path) files ≡ None = find_at (is_at path) files ∙ slice_get_past files (position_or_len (is_at path) files) past in
    let one : find (is_at path) (new ∷ []) ≡ Some new = find_one (is_at path) new ((bytes_eq-Decides new.path path).1 same) in
    ap content_of (find-append (is_at path) files (new ∷ []) ∙ (ap (λ f. option_or f (find (is_at path) (new ∷ []))) none ∙ one))

-- and all others stay
pub push_others : (files : List FileAt) (path : List ℕ) (new : FileAt) → new.path ≡ path → ChangesFile files path (files ++ new ∷ [])
push_others files path new same other differs =
    let none : find (is_at other) (new ∷ []) ≡ None = find_not_one (is_at other) new (at_no_other new path other same differs) in
    ap content_of (find-append (is_at other) files (new ∷ []) ∙ (ap (option_or (find (is_at other) files)) none ∙ or_none (find (is_at other) files)))

-- of two files in front of one another the first stands at its path
first_here : (first : FileAt) (rest : List FileAt) → file_at (first ∷ rest) first.path ≡ Some first.bytes
first_here first rest =
    let here : is_at first.path first ≡ true = (bytes_eq-Decides first.path first.path).1 refl in
    ap (λ b. content_of (cond b (Some first) (find (is_at first.path) rest))) here

-- and a later one at its own
later_here : (first : FileAt) (rest : List FileAt) (path bytes : List ℕ) → file_at rest first.path ≡ None →
    file_at rest path ≡ Some bytes → file_at (first ∷ rest) path ≡ Some bytes
later_here first rest path bytes none some =
    let away : is_at path first ≡ false = false_unless (is_at path first) (λ same.
    let here : first.path ≡ path = (bytes_eq-Decides first.path path).0 same in
    let both : None ≡ Some bytes = sym none ∙ (ap (file_at rest) here ∙ some) in cc) in
    ap (λ b. content_of (cond b (Some first) (find (is_at path) rest))) away ∙ some

first_of_two : (a b : Bool) → a && b ≡ true → a ≡ true
first_of_two true b h = refl
first_of_two false b h = absurd (let bad : false ≡ true = h in cc)

second_of_two : (a b : Bool) → a && b ≡ true → b ≡ true
second_of_two true b h = h
second_of_two false b h = absurd (let bad : false ≡ true = h in cc)

nothing : (told : Option (List ℕ)) → is_none told ≡ true → told ≡ None
nothing None h = refl
nothing (Some bytes) h = absurd (let bad : false ≡ true = h in cc)

-- where no path stands twice, each file stands at its path
pub holds_given : (files : List FileAt) → IsTrue (do_paths_differ files) → HoldsGiven files (file_at files)
holds_given [] differ k d h = absurd (omega arith)
holds_given (first ∷ rest) differ zero d h = first_here first rest
holds_given (first ∷ rest) differ (suc k) d h =
    later_here first rest (get_or rest k d).path (get_or rest k d).bytes
    (nothing (file_at rest first.path) (first_of_two (is_none (file_at rest first.path)) (do_paths_differ rest) differ))
    (holds_given rest (second_of_two (is_none (file_at rest first.path)) (do_paths_differ rest) differ) k d (omega arith))

-- what the told map says of a path
pub told_missing : (files told : FileMap) (path : List ℕ) → Some files ≡ Some told → files path ≡ None → told path ≡ None
told_missing files told path same none = let equal : files ≡ told = cc in ap (λ (map : FileMap). map path) (sym equal) ∙ none

pub told_bytes : (files told : FileMap) (path all bytes : List ℕ) (cap : ℕ) → Some files ≡ Some told → files path ≡ Some all →
    bytes ≡ take (cap + 1) all → (all : List ℕ) × (told path ≡ Some all) × (bytes ≡ take (cap + 1) all)
told_bytes files told path all bytes cap same some first =
    let equal : files ≡ told = cc in (all, ap (λ (map : FileMap). map path) (sym equal) ∙ some, first)

-- it is no failure exactly where it isn't to fail
pub not_failed : (r : Found) (fails : Bool) → fails ≡ false → r ≢ found.Failed → (r ≡ found.Failed) ↔ IsTrue fails
not_failed r fails fine differs = ((λ failed. absurd (differs failed)), (λ named. absurd (let bad : false ≡ true = sym fine ∙ named in cc)))

pub no_fault : (r : Result Unit (Or Failed)) (fails : Bool) → fails ≡ false → r ≡ Err OutOfMemory → IsFault r ↔ IsTrue fails
no_fault r fails fine memory =
    let P : Result Unit (Or Failed) → Type 0 = λ v. IsFault v ↔ IsTrue fails in
    subst P (sym memory) ((λ fault. absurd fault), (λ named. absurd (let bad : false ≡ true = sym fine ∙ named in cc)))

-- the i-th file and those after it
front : (files : List FileAt) (i : ℕ) (file : FileAt) → i < length files → file ≡ get_or files i file →
    drop i files ≡ file ∷ drop (i + 1) files
front files i file h read =
    let next : suc i ≡ i + 1 = omega arith in
    let After : ℕ → Type 0 = λ k. drop i files ≡ get_or files i file ∷ drop k files in
    let First : FileAt → Type 0 = λ f. drop i files ≡ f ∷ drop (i + 1) files in
    subst First (sym read) (subst After next (drop-cons files i file h))

-- the answer for the files from the i-th on is that for those after it, where it has no twin
pub differ_more : (files : List FileAt) (i : ℕ) (file : FileAt) → i < length files → file ≡ get_or files i file →
    length (drop (i + 1) files) ≤ position_or_len (is_at file.path) (drop (i + 1) files) →
    do_paths_differ (drop i files) ≡ do_paths_differ (drop (i + 1) files)
differ_more files i file h read past =
    ap do_paths_differ (front files i file h read)
    ∙ ap (λ told. is_none told && do_paths_differ (drop (i + 1) files)) (absent (drop (i + 1) files) file.path past)

-- and false where it has one
pub differ_not : (files : List FileAt) (i : ℕ) (file : FileAt) → i < length files → file ≡ get_or files i file →
    position_or_len (is_at file.path) (drop (i + 1) files) < length (drop (i + 1) files) →
    do_paths_differ (drop i files) ≡ false
differ_not files i file h read within =
    let rest : List FileAt = drop (i + 1) files in
    let place : ℕ = position_or_len (is_at file.path) rest in
    let twin : FileAt = get_or rest place file in
    ap do_paths_differ (front files i file h read)
    ∙ ap (λ told. is_none told && do_paths_differ (drop (i + 1) files))
    (present rest file.path place twin refl within (get_or_default rest place file twin within))
