-- Equal calls, and that an answer which fits another call suits it.
use Rattle.std.specs.Prelude.{◌≡◌, ◌⊎◌, ◌↔◌, ℕ, Bool, true, false, ◌&&◌, ◌||◌, ◌==◌, nat_le, List, length, IsTrue, refl}
use Rattle.std.specs.Bool.{Decides}
use Rattle.std.proofs.Common.{arith, ap, sym, ◌∙◌, subst, inl, inr}
use Rattle.std.proofs.lemmas.Bool.Decides.{nat_tests, Decides-eqb}
use Rattle.std.proofs.lemmas.Slice.Eq.{bytes_eq-Decides, slice_eq-Decides}
use Rattle.mv_calls.specs.Suits.{suits_of}
use Rattle.mv_calls.specs.Fits.{fits_of, is_same_call, is_same_sub, are_same_subs, reads_enough}
use Rattle.mv_calls.specs.declared.subs.Sub.{Sub}
use Rattle.mv_calls.specs.declared.subs.Sub.TheVariants as sub
use Rattle.mv_calls.specs.declared.calls.Call.{Call}
use Rattle.mv_calls.specs.declared.calls.Call.TheVariants.{Clock, Random, Read, Write, Close, FdStat, Yield, Poll, Accept, Shutdown}
use Rattle.mv_calls.specs.declared.calls.Reply.{Reply}
use Rattle.mv_calls.specs.declared.calls.Reply.TheVariants.{Errno, Bytes}

first_of_two : (a b : Bool) → a && b ≡ true → a ≡ true
first_of_two true b h = refl
first_of_two false b h = absurd (let bad : false ≡ true = h in cc)

second_of_two : (a b : Bool) → a && b ≡ true → b ≡ true
second_of_two true b h = h
second_of_two false b h = absurd (let bad : false ≡ true = h in cc)

both : (a b : Bool) → a ≡ true → b ≡ true → a && b ≡ true
both true b p q = q
both false b p q = absurd cc

one_of_two : (a b : Bool) → a || b ≡ true → (a ≡ true) ⊎ (b ≡ true)
one_of_two true b h = inl refl
one_of_two false b h = inr h

same_number : (a b : ℕ) → a == b ≡ true → a ≡ b
same_number a b = (Decides-eqb a b).0

number_same : (a : ℕ) → a == a ≡ true
number_same a = (Decides-eqb a a).1 refl

-- the test of two subscriptions decides whether they are equal
sub_equal : (a b : Sub) → is_same_sub a b ≡ true → a ≡ b
sub_equal (sub.Clock id timeout flags) (sub.Clock other time bits) h = grind (arith, nat_tests)
sub_equal (sub.Read fd) (sub.Read other) h = grind (arith, nat_tests)
sub_equal (sub.Write fd) (sub.Write other) h = grind (arith, nat_tests)
sub_equal a b h = absurd (let bad : false ≡ true = h in cc)

sub_same : (a : Sub) → is_same_sub a a ≡ true
sub_same (sub.Clock id timeout flags) = both _ _ (number_same id) (both _ _ (number_same timeout) (number_same flags))
sub_same (sub.Read fd) = number_same fd
sub_same (sub.Write fd) = number_same fd

sub_decides : (a b : Sub) → Decides (is_same_sub a b) (a ≡ b)
sub_decides a b = (sub_equal a b, λ same. let P : Sub → Type 0 = λ other. is_same_sub a other ≡ true in subst P same (sub_same a))

subs_decide : (xs ys : List Sub) → Decides (are_same_subs xs ys) (xs ≡ ys)
subs_decide xs ys = slice_eq-Decides sub_decides xs ys (are_same_subs xs ys) refl

-- calls that pass the test are equal
pub call_equal : (a b : Call) → is_same_call a b ≡ true → a ≡ b
call_equal (Clock id) (Clock other) h = ap Clock (same_number id other h)
call_equal (Random len) (Random other) h = ap Random (same_number len other h)
call_equal (Read fd cap) (Read other asked) h =
    let p : fd ≡ other = same_number fd other (first_of_two _ _ h) in let q : cap ≡ asked = same_number cap asked (second_of_two (fd == other) _ h) in cc
call_equal (Write fd bytes) (Write other offered) h =
    let p : fd ≡ other = same_number fd other (first_of_two _ _ h) in let q : bytes ≡ offered = (bytes_eq-Decides bytes offered).0 (second_of_two (fd == other) _ h) in cc
call_equal (Close fd) (Close other) h = ap Close (same_number fd other h)
call_equal (FdStat fd) (FdStat other) h = ap FdStat (same_number fd other h)
call_equal Yield Yield h = refl
call_equal (Poll subs) (Poll others) h = ap Poll ((subs_decide subs others).0 h)
call_equal (Accept fd flags) (Accept other asked) h =
    let p : fd ≡ other = same_number fd other (first_of_two _ _ h) in let q : flags ≡ asked = same_number flags asked (second_of_two (fd == other) _ h) in cc
call_equal (Shutdown fd how) (Shutdown other asked) h =
    let p : fd ≡ other = same_number fd other (first_of_two _ _ h) in let q : how ≡ asked = same_number how asked (second_of_two (fd == other) _ h) in cc
call_equal a b h = absurd (let bad : false ≡ true = h in cc)

-- each call passes the test with itself
pub call_same : (a : Call) → is_same_call a a ≡ true
call_same (Clock id) = number_same id
call_same (Random len) = number_same len
call_same (Read fd cap) = both _ _ (number_same fd) (number_same cap)
call_same (Write fd bytes) = both _ _ (number_same fd) ((bytes_eq-Decides bytes bytes).1 refl)
call_same (Close fd) = number_same fd
call_same (FdStat fd) = number_same fd
call_same Yield = refl
call_same (Poll subs) = (subs_decide subs subs).1 refl
call_same (Accept fd flags) = both _ _ (number_same fd) (number_same flags)
call_same (Shutdown fd how) = both _ _ (number_same fd) (number_same how)

equal_same : (a b : Call) → a ≡ b → is_same_call a b ≡ true
equal_same a b same = let P : Call → Type 0 = λ other. is_same_call a other ≡ true in subst P same (call_same a)

-- the answer fits exactly where the calls are equal or the answer to the one read is short enough for the other
pub fits_means : (mine want : Call) (reply : Reply) →
    IsTrue (fits_of mine want reply) ↔ ((mine ≡ want) ⊎ IsTrue (reads_enough mine want reply))
fits_means mine want reply = (
  (λ h. elim (one_of_two (is_same_call mine want) (reads_enough mine want reply) h) [ inl same ↦ inl (call_equal mine want same) | inr enough ↦ inr enough ]),
  (λ h. elim h [ inl same ↦ ap (λ b. b || reads_enough mine want reply) (equal_same mine want same) | inr enough ↦ either_way (is_same_call mine want) (reads_enough mine want reply) enough ]),
)
  where
    either_way : (a b : Bool) → b ≡ true → a || b ≡ true
    either_way true b h = refl
    either_way false b h = h

-- an answer to one read that is short enough for another suits it
reads_suit : (mine want : Call) (reply : Reply) → IsTrue (reads_enough mine want reply) → IsTrue (suits_of want reply) → IsTrue (suits_of mine reply)
reads_suit (Read fd cap) (Read other asked) (Errno errno) h s = s
reads_suit (Read fd cap) (Read other asked) (Bytes bytes) h s = second_of_two (fd == other) (nat_le (length bytes) cap) h
reads_suit (Read fd cap) (Read other asked) reply h s = absurd (let bad : false ≡ true = second_of_two (fd == other) false h in cc)
reads_suit mine want reply h s = absurd (let bad : false ≡ true = h in cc)

-- a reply that suits one call suits each call that it fits
pub fits_suits : (mine want : Call) (reply : Reply) → IsTrue (fits_of mine want reply) → IsTrue (suits_of want reply) → IsTrue (suits_of mine reply)
fits_suits mine want reply fits suits =
    elim ((fits_means mine want reply).0 fits) [
      | inl same ↦ let P : Call → Type 0 = λ call. IsTrue (suits_of call reply) in subst P (sym same) suits
      | inr enough ↦ reads_suit mine want reply enough suits
    ]

-- the same of the answer to the test
pub fits_means_at : (mine want : Call) (reply : Reply) (r : Bool) → r ≡ fits_of mine want reply →
    IsTrue r ↔ ((mine ≡ want) ⊎ IsTrue (reads_enough mine want reply))
fits_means_at mine want reply r same =
    let P : Bool → Type 0 = λ test. IsTrue test ↔ ((mine ≡ want) ⊎ IsTrue (reads_enough mine want reply)) in
    subst P (sym same) (fits_means mine want reply)

-- the test of two calls decides whether they are equal
pub same_means_at : (mine want : Call) (r : Bool) → r ≡ is_same_call mine want → IsTrue r ↔ (mine ≡ want)
same_means_at mine want r same = (
  (λ h. call_equal mine want (sym same ∙ h)),
  (λ equal. same ∙ equal_same mine want equal),
)
