-- Bodies: each row is read as it is spelled, and read again.
use Rattle.std.proofs.Common.{◌≡◌, ℕ, Bool, true, false, cond, eqb, List, [], ◌∷◌, ◌++◌, length, Ok, Err, refl, sym, ap, subst, ◌∙◌, append_assoc, arith}
use Rattle.mv_calls.specs.declared.calls.Call.{Call}
use Rattle.mv_calls.specs.declared.calls.Reply.{Reply}
use Rattle.mv_history.specs.declared.log.Entry.TheVariants as entry
use Rattle.mv_history.specs.declared.log.Entry.{Entry}
use Rattle.mv_record.specs.Spelling.{answer_text, body_text, byte_list, call_text, item_text, mark_text, reply_text}
use Rattle.mv_record.specs.Fitting.{FitsAnswer, FitsBody, FitsItem, FitsMark, IsSmall}
use Rattle.mv_record.specs.Reading.{◌>>=◌, ◌⟫◌, answer_at, body_at, body_table, byte_list_at, call_at, call_body_at, item_at, mark_at, mark_body_at, order_body_at, plain_at, reply_at, whole_body}
use Rattle.mv_record.proofs.Rows.{IsBytes, joined, IsRow, IsAgain, Takes, bind_ok, bind_again, byte_list_row, byte_list_again, field_row, plain_row, then_again, ends_again, tagged_row, tagged_again}
use Rattle.mv_record.proofs.RowsCalls.{call_row, call_again, reply_row, reply_again}
use Rattle.mv_record.proofs.RowsOrders.{answer_row, answer_again}
use Rattle.mv_record.proofs.RowsMarks.{mark_row, mark_again}
use Rattle.std.proofs.lemmas.Bool.{eqb-true}
use Rattle.std.proofs.lemmas.List.{append-nil, nil_from_length}
use Rattle.mv_calls.specs.Suits.{suits_of}
use Rattle.mv_calls.specs.declared.calls.Reply.{Reply}
use Rattle.mv_record.specs.declared.fault.BodyFault.{BodyFault}
use Rattle.mv_record.specs.declared.fault.BodyFault.TheVariants.{Passes, Suit}

-- ---- calls with their replies

suit_guard : (b : Bool) (d : BodyFault) (x y : (Call × Reply) × List ℕ) → cond b (Ok x) (Err d) ≡ Ok y → (b ≡ true) × (x ≡ y)
suit_guard true d x y e = (refl, cc)
suit_guard false d x y e = absurd cc

item_row : IsRow [] item_text FitsItem item_at
unfolding item_at
item_row = record {
  takes = λ bytes x rest fits e.
      let a = bind_ok (call_at bytes) (λ c. reply_at c.1 >>= λ r. cond (suits_of c.0 r.0) (Ok ((c.0, r.0), r.1)) (Err (Suit (length c.1)))) (x, rest) e in
      let b = bind_ok (reply_at a.0.1) (λ r. cond (suits_of a.0.0 r.0) (Ok ((a.0.0, r.0), r.1)) (Err (Suit (length a.0.1)))) (x, rest) a.2 in
      let g = suit_guard (suits_of a.0.0 b.0.0) (Suit (length a.0.1)) ((a.0.0, b.0.0), b.0.1) (x, rest) b.2 in
      let t = call_row.takes bytes a.0.0 a.0.1 fits a.1 in
      let u = reply_row.takes a.0.1 b.0.0 b.0.1 t.rest_fits b.1 in
      let whole : bytes ≡ item_text (a.0.0, b.0.0) ++ b.0.1 = joined bytes (call_text a.0.0) (reply_text b.0.0) a.0.1 b.0.1 t.parts u.parts in
      subst (λ (p : (Call × Reply) × List ℕ). Takes [] bytes item_text FitsItem p.0 p.1) g.1 (record { parts = whole; fits = (t.fits, u.fits, g.0); rest_fits = u.rest_fits });
}

item_again : IsAgain item_text FitsItem item_at
unfolding item_at
item_again x rest fits =
    let first : call_at ((call_text x.0 ++ reply_text x.1) ++ rest) ≡ Ok (x.0, reply_text x.1 ++ rest) = ap call_at (append_assoc (call_text x.0) (reply_text x.1) rest) ∙ call_again x.0 (reply_text x.1 ++ rest) fits.0 in
    bind_again (call_at ((call_text x.0 ++ reply_text x.1) ++ rest)) _ (x.0, reply_text x.1 ++ rest) first ∙ bind_again (reply_at (reply_text x.1 ++ rest)) _ (x.1, rest) (reply_again x.1 rest fits.1) ∙ rw fits.2 refl

-- ---- an entry

call_body_row : IsRow (0 ∷ []) body_text FitsBody call_body_at
unfolding call_body_at
call_body_row = field_row item_text FitsItem item_at (λ item. plain_at (entry.Call item)) (0 ∷ []) body_text FitsBody item_row (λ item item_fits. plain_row ((0 ∷ []) ++ item_text item) body_text FitsBody (entry.Call item) refl item_fits)

order_body_row : IsRow (2 ∷ []) body_text FitsBody order_body_at
unfolding order_body_at
order_body_row = field_row byte_list IsSmall byte_list_at (λ text. answer_at ⟫ λ reply. plain_at (entry.Order text reply)) (2 ∷ []) body_text FitsBody byte_list_row (λ text text_fits. field_row answer_text FitsAnswer answer_at (λ reply. plain_at (entry.Order text reply)) ((2 ∷ []) ++ byte_list text) body_text FitsBody answer_row (λ reply reply_fits. plain_row (((2 ∷ []) ++ byte_list text) ++ answer_text reply) body_text FitsBody (entry.Order text reply) refl (text_fits, reply_fits)))

mark_body_row : IsRow (3 ∷ []) body_text FitsBody mark_body_at
unfolding mark_body_at
mark_body_row = field_row mark_text FitsMark mark_at (λ mark. plain_at (entry.Mark mark)) (3 ∷ []) body_text FitsBody mark_row (λ mark mark_fits. plain_row ((3 ∷ []) ++ mark_text mark) body_text FitsBody (entry.Mark mark) refl mark_fits)

pub body_row : IsRow [] body_text FitsBody body_at
unfolding body_at
body_row = tagged_row [] body_text FitsBody body_table
    (call_body_row, (plain_row (1 ∷ []) body_text FitsBody entry.Point refl tt, (order_body_row, (mark_body_row, tt))))

pub body_again : IsAgain body_text FitsBody body_at
unfolding body_at call_body_at order_body_at mark_body_at
body_again (entry.Call item) rest fits = tagged_again body_table 0 ((item_text item) ++ rest) (omega arith)
    ∙ ends_again item_text FitsItem item_at (λ item. plain_at (entry.Call item)) item_again item rest fits
body_again entry.Point rest fits = tagged_again body_table 1 rest (omega arith)
body_again (entry.Order text reply) rest fits = tagged_again body_table 2 ((byte_list text ++ answer_text reply) ++ rest) (omega arith)
    ∙ then_again byte_list IsSmall byte_list_at (λ text. answer_at ⟫ λ reply. plain_at (entry.Order text reply)) byte_list_again text (answer_text reply) rest fits.0
    ∙ ends_again answer_text FitsAnswer answer_at (λ reply. plain_at (entry.Order text reply)) answer_again reply rest fits.1
body_again (entry.Mark mark) rest fits = tagged_again body_table 3 ((mark_text mark) ++ rest) (omega arith)
    ∙ ends_again mark_text FitsMark mark_at (λ mark. plain_at (entry.Mark mark)) mark_again mark rest fits

-- ---- whole bodies

end_guard : (n : ℕ) (x y : Entry) → cond (eqb n 0) (Ok x) (Err Passes) ≡ Ok y → (n ≡ 0) × (x ≡ y)
end_guard n x y e = at (eqb n 0) refl e
  where
    at : (b : Bool) → eqb n 0 ≡ b → cond b (Ok x) (Err Passes) ≡ Ok y → (n ≡ 0) × (x ≡ y)
    at true test e = (eqb-true n 0 test, cc)
    at false test e = absurd cc

pub whole_takes : (bytes : List ℕ) (e : Entry) → IsBytes bytes → whole_body bytes ≡ Ok e → FitsBody e × (bytes ≡ body_text e)
unfolding whole_body
whole_takes bytes x fits e =
    let a = bind_ok (body_at bytes) (λ e. cond (eqb (length e.1) 0) (Ok e.0) (Err Passes)) x e in
    let g = end_guard (length a.0.1) a.0.0 x a.2 in
    let t = body_row.takes bytes a.0.0 a.0.1 fits a.1 in
    let whole : bytes ≡ body_text a.0.0 = t.parts ∙ ap (λ (r : List ℕ). body_text a.0.0 ++ r) (nil_from_length a.0.1 g.0) ∙ append-nil (body_text a.0.0) in
    subst (λ (v : Entry). FitsBody v × (bytes ≡ body_text v)) g.1 (t.fits, whole)

pub whole_again : (e : Entry) → FitsBody e → whole_body (body_text e) ≡ Ok e
unfolding whole_body
whole_again e fits =
    let first : body_at (body_text e) ≡ Ok (e, []) = ap body_at (sym (append-nil (body_text e))) ∙ body_again e [] fits in
    bind_again (body_at (body_text e)) _ (e, []) first
