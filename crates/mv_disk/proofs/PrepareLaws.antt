-- What the two writes on an empty disk leave.
use Rattle.std.proofs.Common.{◌≡◌, ℕ, ◌^◌, ◌<◌, List, [], ◌∷◌, length, drop, Option, Some, refl, sym, ◌∙◌, ap, arith, length-drop}
use Rattle.std.specs.Option.{option_map}
use Rattle.std.proofs.lemmas.List.Elements.{All-nil}
use Rattle.mv_disk.specs.Disk.{IsSameDisk, LeavesOnly, Torn, Only, with_bytes}
use Rattle.mv_disk.specs.Records.{mark, records, front_body}
use Rattle.mv_disk.specs.Journal.{at_rest, IsAtRest}
use Rattle.mv_disk.specs.Kept.{IsBlank}
use Rattle.mv_disk.proofs.Moments.{both_runs, unchanged}
use Rattle.mv_disk.proofs.RecordLaws.{records-few, records-at_rest, front_body-short, front_body-shut}
use Rattle.mv_disk.proofs.TornLaws.{back_same}

abbrev pub zeros : List ℕ
zeros = 0 ∷ 0 ∷ 0 ∷ 0 ∷ 0 ∷ 0 ∷ 0 ∷ 0 ∷ 0 ∷ []

-- nine bytes are no record
pub torn_zeros : (c : List ℕ) → Torn 0 9 [] c → records c ≡ []
torn_zeros c torn = records-few c (front_body-short (drop 8 c) (omega (arith, length-drop 8 c, torn.no_longer)))

-- nor is a closed gate behind any eight bytes
pub torn_mark : (c : List ℕ) → Torn 0 8 zeros c → records c ≡ []
torn_mark c torn =
    let back : drop 8 c ≡ 0 ∷ [] = back_same 0 8 zeros c (omega arith) torn in
    records-few c (ap front_body back ∙ front_body-shut 0 [] (omega arith))

pub marked : with_bytes zeros 0 mark ≡ at_rest []
marked = refl

pub rests_empty : (outcomes : List ℕ → Type 0) (new : List ℕ) → new ≡ at_rest [] → Only new outcomes → IsAtRest 9 outcomes new
rests_empty outcomes new is only = record {
  bodies = [];
  content_is = is;
  short = All-nil (λ (body : List ℕ). length body < 2 ^ 32);
  end_is = sym (ap length is);
  lasts = only;
}

pub holds_none : (new : List ℕ) → new ≡ at_rest [] → records new ≡ []
holds_none new is = ap records is ∙ records-at_rest [] (All-nil (λ (body : List ℕ). length body < 2 ^ 32))

pub empty_told : (content : List ℕ) → length content ≡ 0 → content ≡ []
empty_told [] h = refl
empty_told (x ∷ content) h = absurd (omega arith)

pub zeros_told : (told now : Option (List ℕ)) → told ≡ Some [] → now ≡ option_map (λ (l : List ℕ). with_bytes l 0 zeros) told → now ≡ Some zeros
zeros_told told now is written = written ∙ ap (λ (o : Option (List ℕ)). option_map (λ (l : List ℕ). with_bytes l 0 zeros) o) is

pub marked_told : (told now : Option (List ℕ)) → told ≡ Some zeros → now ≡ option_map (λ (l : List ℕ). with_bytes l 0 mark) told → now ≡ Some (at_rest [])
marked_told told now is written = written ∙ ap (λ (o : Option (List ℕ)). option_map (λ (l : List ℕ). with_bytes l 0 mark) o) is

abbrev pub HasNone : List ℕ → Type 0
HasNone c = records c ≡ []

module _ {D : Type 0} (reads : D → Option (List ℕ)) (may_leave : D → List ℕ → Type 0) (moment : D → ℕ) (left_since : D → ℕ → List ℕ → Type 0) (only_now : (disk : D) (c : List ℕ) → left_since disk (moment disk) c → may_leave disk c) where
  -- asking the length of a blank disk
  pub asked : (first next : D) → IsBlank (reads first) (may_leave first) → IsSameDisk reads may_leave moment left_since first next → LeavesOnly moment left_since first next HasNone
  asked first next blank same = unchanged moment left_since reads may_leave first next HasNone same (λ c left. ap records (blank.1 c (only_now first c left)))

  -- and the first write
  pub first_run : (first next mid : D) → IsBlank (reads first) (may_leave first) → IsSameDisk reads may_leave moment left_since first next →
      ((content : List ℕ) → reads next ≡ Some content → Only content (may_leave next) → LeavesOnly moment left_since next mid (Torn 0 9 content)) → LeavesOnly moment left_since first mid HasNone
  first_run first next mid blank same run =
      both_runs moment left_since first next mid HasNone (Torn 0 9 []) HasNone (asked first next blank same)
      (run [] (same.reads_same ∙ blank.0) (λ c left. blank.1 c ((same.leaves_same c).0 left))) (λ c h. h) torn_zeros

module _ {D : Type 0} (moment : D → ℕ) (left_since : D → ℕ → List ℕ → Type 0) where
  -- and the second
  pub second_run : (first mid last : D) → LeavesOnly moment left_since first mid HasNone → LeavesOnly moment left_since mid last (Torn 0 8 zeros) → LeavesOnly moment left_since first last HasNone
  second_run first mid last one two = both_runs moment left_since first mid last HasNone (Torn 0 8 zeros) HasNone one two (λ c h. h) torn_mark
