-- Worked examples: the logs of small runs are legal, and with one entry changed they are not.
use Rattle.std.specs.Prelude.{◌≡◌, ◌≢◌, ℕ, ◌+◌, ◌==◌, Bool, true, false, cond, ◌||◌, Some, None, unwrap_or, slice_get, List, [], ◌∷◌, ◌++◌, length, take, drop, refl, codes, Ok}
use Rattle.std.specs.List.{AllByRecursion, list_any}
use Rattle.std.specs.Str.{bytes_eq}
use Rattle.std.specs.Fmt.{digits}
use Rattle.std.proofs.Common.{arith, inl, inr, sym, ◌∙◌, ap, lit≤}
use Rattle.mv_calls.specs.declared.calls.Call.{Call}
use Rattle.mv_calls.specs.declared.calls.Call.TheVariants as call
use Rattle.mv_calls.specs.declared.calls.Reply.{Reply}
use Rattle.mv_calls.specs.declared.calls.Reply.TheVariants as reply
use Rattle.mv_calls.specs.declared.trap.Trap.TheVariants as trap
use Rattle.mv_orders.specs.Order.{Reads}
use Rattle.mv_orders.specs.declared.order.Order.TheVariants as order
use Rattle.mv_orders.specs.declared.reply.OrderReply.TheVariants as answer
use Rattle.mv_orders.specs.declared.stage.Word.TheVariants as word
use Rattle.mv_version.specs.Behaviour.{Behaviour}
use Rattle.mv_version.specs.declared.event.Event.{Event}
use Rattle.mv_version.specs.declared.event.Event.TheVariants as event
use Rattle.mv_feed.specs.declared.msg.Msg.TheVariants as msg
use Rattle.mv_orders.specs.declared.stage.Stage.TheVariants.{OldLeads, NewLeads}
use Rattle.mv_history.specs.Answers.{none_word}
use Rattle.mv_history.specs.Leads.{failed_mark, ready_mark}
use Rattle.mv_history.specs.Places.{forked_place}
use Rattle.mv_history.specs.Spots.{Spot, StepsTo, Moves, GivesUp, IsReadyFor, cleared_spot, may_carry, no_spot, spot_after, standing_spot}
use Rattle.mv_history.specs.Rules.{no_rules_text, AreAccepted}
use Rattle.mv_history.specs.World.{begun, AreLegal, IsFirstIllegal, outside}
use Rattle.mv_history.specs.declared.log.Cause.TheVariants as cause
use Rattle.mv_history.specs.declared.log.Entry.{Entry}
use Rattle.mv_history.specs.declared.log.Entry.TheVariants as entry
use Rattle.mv_history.specs.declared.log.How.TheVariants as how
use Rattle.mv_history.specs.declared.log.Mark.TheVariants as mark
use Rattle.mv_history.specs.declared.log.Why.TheVariants as why
use Rattle.mv_history.specs.declared.status.AtPoint.TheVariants as at
use Rattle.mv_history.specs.Replay.{Replayed, Stands, Fails}
use Rattle.mv_history.specs.declared.updates.Update.{Update}
use Rattle.mv_history.specs.Statuses.{early_reply, first_status}
use Rattle.mv_history.proofs.WorldLaws.{AreLegal-front, AreLegal-append}

-- ## Two versions of a small server: it accepts a connection, reads, writes OK, reads, closes, and accepts again

abbrev serves : List ℕ → List Event
serves ok =
    event.Point ∷ event.Calls (call.Accept 3 0) ∷ event.Calls (call.Read 4 64) ∷ event.Calls (call.Write 4 ok)
    ∷ event.Point ∷ event.Calls (call.Read 4 64) ∷ event.Calls (call.Close 4) ∷ event.Point ∷ event.Calls (call.Accept 3 0) ∷ []

-- the third one traps once it has read
abbrev breaks : List Event
breaks = event.Point ∷ event.Calls (call.Accept 3 0) ∷ event.Calls (call.Read 4 64) ∷ event.Traps trap.Unreachable ∷ []

-- a state is which version it is, and where that stands
abbrev events_of : ℕ → List Event
events_of version = cond (version == 0) (serves (codes "OK\n")) (cond (version == 1) (serves (codes "+OK\n")) breaks)

abbrev State : Type 0
State = ℕ × ℕ

abbrev next_event : State → Event
next_event s = unwrap_or (slice_get (events_of s.0) s.1) (event.Ends 0)

abbrev one_on : State → State
one_on s = (s.0, s.1 + 1)

-- an accept that is to be tried again stays where it is
abbrev moves : State → Reply → State
moves s (reply.Errno n) = cond (n == 6) (one_on s) s
moves s r = one_on s

abbrev version_of : List ℕ → ℕ
version_of bytes = cond (bytes_eq bytes (codes "old")) 0 (cond (bytes_eq bytes (codes "new")) 1 2)

abbrev server : Behaviour State
server = record {
  state = λ s. s;
  go = next_event;
  after = moves;
  passed = one_on;
  started = λ bytes args. Ok (version_of bytes, 0);
  born = λ s bytes. Ok (version_of bytes, s.1);
  left = λ s. 0;
}

abbrev files : List ℕ → Update
files bytes = record { «module» = bytes; forward = no_rules_text; reverse = no_rules_text }

-- ## Their entries

abbrev accept : Entry
accept = entry.Call (call.Accept 3 0, reply.Fd 4)

abbrev read : Entry
read = entry.Call (call.Read 4 64, reply.Bytes (codes "a"))

abbrev write : Entry
write = entry.Call (call.Write 4 (codes "OK\n"), reply.Count 3)

abbrev read_end : Entry
read_end = entry.Call (call.Read 4 64, reply.Bytes [])

abbrev close : Entry
close = entry.Call (call.Close 4, reply.Done)

abbrev accept_none : Entry
accept_none = entry.Call (call.Accept 3 0, reply.Errno 6)

abbrev ended : Entry
ended = entry.Mark (mark.End (how.Ended 0))

abbrev fork : Entry
fork = entry.Mark (mark.Fork 1)

abbrev hand_promote : Entry
hand_promote = entry.Mark (mark.Hand why.Promote)

abbrev promote : Entry
promote = entry.Mark mark.Promote

-- ## Order lines

other_bytes : (bytes : List ℕ) → list_any (λ b. b == 32) bytes ≡ false → AllByRecursion (λ b. b ≢ 32) bytes
other_bytes [] h = tt
other_bytes (b ∷ bytes) h = first b bytes (b == 32) refl h (other_bytes bytes)
  where
    first : (b : ℕ) (bytes : List ℕ) (space : Bool) → (b == 32) ≡ space → (space || list_any (λ b. b == 32) bytes) ≡ false → (list_any (λ b. b == 32) bytes ≡ false → AllByRecursion (λ b. b ≢ 32) bytes) → AllByRecursion (λ b. b ≢ 32) (b ∷ bytes)
    first b bytes true is h rest = absurd (let bad : true ≡ false = h in cc)
    first b bytes false is h rest = ((λ same. let bad : true ≡ false = sym (ap (λ n. n == 32) same) ∙ is in cc), rest h)

reads_update_old : Reads (codes "update old none none") (Ok (order.Update (codes "old") none_word none_word))
unfolding lib.Utf8.encode
reads_update_old = (lit≤ tt, (codes "update old none none", (refl, refl)), record { words = ((lit≤ tt, other_bytes (codes "update") refl), ((lit≤ tt, other_bytes (codes "old") refl), ((lit≤ tt, other_bytes (codes "none") refl), ((lit≤ tt, other_bytes (codes "none") refl), tt)))); joined = refl })

reads_update_new : Reads (codes "update new none none") (Ok (order.Update (codes "new") none_word none_word))
unfolding lib.Utf8.encode
reads_update_new = (lit≤ tt, (codes "update new none none", (refl, refl)), record { words = ((lit≤ tt, other_bytes (codes "update") refl), ((lit≤ tt, other_bytes (codes "new") refl), ((lit≤ tt, other_bytes (codes "none") refl), ((lit≤ tt, other_bytes (codes "none") refl), tt)))); joined = refl })

reads_promote : Reads (codes "promote") (Ok (order.Promote))
unfolding lib.Utf8.encode
reads_promote = (lit≤ tt, (codes "promote", (refl, refl)), record { words = ((lit≤ tt, other_bytes (codes "promote") refl), tt); joined = refl })

reads_finish : Reads (codes "finish") (Ok (order.Finish))
unfolding lib.Utf8.encode
reads_finish = (lit≤ tt, (codes "finish", (refl, refl)), record { words = ((lit≤ tt, other_bytes (codes "finish") refl), tt); joined = refl })

reads_back : Reads (codes "back") (Ok (order.Back))
unfolding lib.Utf8.encode
reads_back = (lit≤ tt, (codes "back", (refl, refl)), record { words = ((lit≤ tt, other_bytes (codes "back") refl), tt); joined = refl })

reads_discard : Reads (codes "discard") (Ok (order.Discard))
unfolding lib.Utf8.encode
reads_discard = (lit≤ tt, (codes "discard", (refl, refl)), record { words = ((lit≤ tt, other_bytes (codes "discard") refl), tt); joined = refl })

reads_update_bad : Reads (codes "update bad none none") (Ok (order.Update (codes "bad") none_word none_word))
unfolding lib.Utf8.encode
reads_update_bad = (lit≤ tt, (codes "update bad none none", (refl, refl)), record { words = ((lit≤ tt, other_bytes (codes "update") refl), ((lit≤ tt, other_bytes (codes "bad") refl), ((lit≤ tt, other_bytes (codes "none") refl), ((lit≤ tt, other_bytes (codes "none") refl), tt)))); joined = refl })

abbrev order_update : List ℕ → Entry
order_update line = entry.Order line (answer.Accepted word.Update 1)

-- no rules are accepted
no_rules_accepted : (bytes : List ℕ) → AreAccepted (files bytes)
no_rules_accepted bytes = record { forward = ([], record { spelled = refl; kept = tt }); reverse = ([], record { spelled = refl; kept = tt }) }

-- ## The first promotion: 17 entries

abbrev first_promotion : List Entry
first_promotion =
    order_update (codes "update old none none")
    ∷ fork
    ∷ entry.Order (codes "promote") (answer.Accepted word.Promote 0)
    ∷ hand_promote
    ∷ promote
    ∷ entry.Order (codes "finish") (answer.Accepted word.Finish 0)
    ∷ entry.Mark mark.Finish
    ∷ entry.Point
    ∷ accept
    ∷ read
    ∷ write
    ∷ entry.Point
    ∷ read_end
    ∷ close
    ∷ entry.Point
    ∷ accept_none
    ∷ ended
    ∷ []

first_promotion_is_legal : AreLegal server (files (codes "old") ∷ []) (begun (0, 0)) first_promotion
unfolding digits
first_promotion_is_legal = (
  (record { is_open = record { runs = refl; unasked = refl; within = refl }; calm = refl }, (Ok (order.Update (codes "old") none_word none_word), reads_update_old, (refl, (files (codes "old"), refl, ((λ _. refl), (λ _. refl)))))),
  (
    (record { is_open = record { runs = refl; unasked = refl; within = refl }; calm = refl }, refl, refl),
    (
      (record { is_open = record { runs = refl; unasked = refl; within = refl }; calm = refl }, (Ok order.Promote, reads_promote, refl)),
      (
        (record { is_open = record { runs = refl; unasked = refl; within = refl }; calm = refl }, lit≤ tt, (refl, refl)),
        (
          (refl, refl, (3, refl), ((0, 0), record { accepted = no_rules_accepted (codes "old"); stands = refl })),
          (
            (record { is_open = record { runs = refl; unasked = refl; within = refl }; calm = refl }, (Ok order.Finish, reads_finish, refl)),
            (
              (record { runs = refl; unasked = refl; within = refl }, refl, refl),
              (
                (record { is_open = record { runs = refl; unasked = refl; within = refl }; calm = refl }, refl, refl),
                (
                  (record { is_open = record { runs = refl; unasked = refl; within = refl }; calm = refl }, refl),
                  (
                    (record { is_open = record { runs = refl; unasked = refl; within = refl }; calm = refl }, refl),
                    (
                      (record { is_open = record { runs = refl; unasked = refl; within = refl }; calm = refl }, refl),
                      (
                        (record { is_open = record { runs = refl; unasked = refl; within = refl }; calm = refl }, refl, refl),
                        (
                          (record { is_open = record { runs = refl; unasked = refl; within = refl }; calm = refl }, refl),
                          (
                            (record { is_open = record { runs = refl; unasked = refl; within = refl }; calm = refl }, refl),
                            (
                              (record { is_open = record { runs = refl; unasked = refl; within = refl }; calm = refl }, refl, refl),
                              (
                                (record { is_open = record { runs = refl; unasked = refl; within = refl }; calm = refl }, refl),
                                (
                                  (record { is_open = record { runs = refl; unasked = refl; within = refl }; calm = refl }, refl),
                                  tt,
                                ),
                              ),
                            ),
                          ),
                        ),
                      ),
                    ),
                  ),
                ),
              ),
            ),
          ),
        ),
      ),
    ),
  ),
)

-- ## Its roll-back: 18 entries

abbrev roll_back : List Entry
roll_back =
    order_update (codes "update old none none")
    ∷ fork
    ∷ entry.Order (codes "promote") (answer.Accepted word.Promote 0)
    ∷ hand_promote
    ∷ promote
    ∷ entry.Order (codes "back") (answer.Accepted word.Back 0)
    ∷ entry.Mark (mark.Hand why.Back)
    ∷ entry.Mark mark.Back
    ∷ entry.Point
    ∷ accept
    ∷ read
    ∷ write
    ∷ entry.Point
    ∷ read_end
    ∷ close
    ∷ entry.Point
    ∷ accept_none
    ∷ ended
    ∷ []

roll_back_is_legal : AreLegal server (files (codes "old") ∷ []) (begun (0, 0)) roll_back
unfolding digits
roll_back_is_legal = (
  (record { is_open = record { runs = refl; unasked = refl; within = refl }; calm = refl }, (Ok (order.Update (codes "old") none_word none_word), reads_update_old, (refl, (files (codes "old"), refl, ((λ _. refl), (λ _. refl)))))),
  (
    (record { is_open = record { runs = refl; unasked = refl; within = refl }; calm = refl }, refl, refl),
    (
      (record { is_open = record { runs = refl; unasked = refl; within = refl }; calm = refl }, (Ok order.Promote, reads_promote, refl)),
      (
        (record { is_open = record { runs = refl; unasked = refl; within = refl }; calm = refl }, lit≤ tt, (refl, refl)),
        (
          (refl, refl, (3, refl), ((0, 0), record { accepted = no_rules_accepted (codes "old"); stands = refl })),
          (
            (record { is_open = record { runs = refl; unasked = refl; within = refl }; calm = refl }, (Ok order.Back, reads_back, refl)),
            (
              (record { is_open = record { runs = refl; unasked = refl; within = refl }; calm = refl }, lit≤ tt, (refl, refl)),
              (
                (refl, refl, inl (6, refl), ((0, 0), record { accepted = no_rules_accepted (codes "old"); stands = refl })),
                (
                  (record { is_open = record { runs = refl; unasked = refl; within = refl }; calm = refl }, refl, refl),
                  (
                    (record { is_open = record { runs = refl; unasked = refl; within = refl }; calm = refl }, refl),
                    (
                      (record { is_open = record { runs = refl; unasked = refl; within = refl }; calm = refl }, refl),
                      (
                        (record { is_open = record { runs = refl; unasked = refl; within = refl }; calm = refl }, refl),
                        (
                          (record { is_open = record { runs = refl; unasked = refl; within = refl }; calm = refl }, refl, refl),
                          (
                            (record { is_open = record { runs = refl; unasked = refl; within = refl }; calm = refl }, refl),
                            (
                              (record { is_open = record { runs = refl; unasked = refl; within = refl }; calm = refl }, refl),
                              (
                                (record { is_open = record { runs = refl; unasked = refl; within = refl }; calm = refl }, refl, refl),
                                (
                                  (record { is_open = record { runs = refl; unasked = refl; within = refl }; calm = refl }, refl),
                                  (
                                    (record { is_open = record { runs = refl; unasked = refl; within = refl }; calm = refl }, refl),
                                    tt,
                                  ),
                                ),
                              ),
                            ),
                          ),
                        ),
                      ),
                    ),
                  ),
                ),
              ),
            ),
          ),
        ),
      ),
    ),
  ),
)

-- ## A mismatch at the third item

abbrev mismatch : List Entry
mismatch =
    order_update (codes "update new none none")
    ∷ fork
    ∷ entry.Point
    ∷ accept
    ∷ read
    ∷ write
    ∷ entry.Mark (mark.Discard (cause.Mismatch 2 (call.Write 4 (codes "OK\n")) (event.Calls (call.Write 4 (codes "+OK\n")))))
    ∷ entry.Point
    ∷ read_end
    ∷ close
    ∷ entry.Point
    ∷ accept_none
    ∷ ended
    ∷ []

mismatch_is_legal : AreLegal server (files (codes "new") ∷ []) (begun (0, 0)) mismatch
unfolding digits
mismatch_is_legal = (
  (record { is_open = record { runs = refl; unasked = refl; within = refl }; calm = refl }, (Ok (order.Update (codes "new") none_word none_word), reads_update_new, (refl, (files (codes "new"), refl, ((λ _. refl), (λ _. refl)))))),
  (
    (record { is_open = record { runs = refl; unasked = refl; within = refl }; calm = refl }, refl, refl),
    (
      (record { is_open = record { runs = refl; unasked = refl; within = refl }; calm = refl }, refl, refl),
      (
        (record { is_open = record { runs = refl; unasked = refl; within = refl }; calm = refl }, refl),
        (
          (record { is_open = record { runs = refl; unasked = refl; within = refl }; calm = refl }, refl),
          (
            (record { is_open = record { runs = refl; unasked = refl; within = refl }; calm = refl }, refl),
            (
              (refl, refl, (tt, record { accepted = no_rules_accepted (codes "new"); fails = refl })),
              (
                (record { is_open = record { runs = refl; unasked = refl; within = refl }; calm = refl }, refl, refl),
                (
                  (record { is_open = record { runs = refl; unasked = refl; within = refl }; calm = refl }, refl),
                  (
                    (record { is_open = record { runs = refl; unasked = refl; within = refl }; calm = refl }, refl),
                    (
                      (record { is_open = record { runs = refl; unasked = refl; within = refl }; calm = refl }, refl, refl),
                      (
                        (record { is_open = record { runs = refl; unasked = refl; within = refl }; calm = refl }, refl),
                        (
                          (record { is_open = record { runs = refl; unasked = refl; within = refl }; calm = refl }, refl),
                          tt,
                        ),
                      ),
                    ),
                  ),
                ),
              ),
            ),
          ),
        ),
      ),
    ),
  ),
)

-- ## A follower that is given up by order

abbrev order_discard : List Entry
order_discard =
    order_update (codes "update old none none")
    ∷ fork
    ∷ entry.Order (codes "discard") (answer.Accepted word.Discard 0)
    ∷ entry.Mark (mark.Discard (cause.Order 2))
    ∷ entry.Point
    ∷ accept
    ∷ read
    ∷ write
    ∷ entry.Point
    ∷ read_end
    ∷ close
    ∷ entry.Point
    ∷ accept_none
    ∷ ended
    ∷ []

order_discard_is_legal : AreLegal server (files (codes "old") ∷ []) (begun (0, 0)) order_discard
unfolding digits
order_discard_is_legal = (
  (record { is_open = record { runs = refl; unasked = refl; within = refl }; calm = refl }, (Ok (order.Update (codes "old") none_word none_word), reads_update_old, (refl, (files (codes "old"), refl, ((λ _. refl), (λ _. refl)))))),
  (
    (record { is_open = record { runs = refl; unasked = refl; within = refl }; calm = refl }, refl, refl),
    (
      (record { is_open = record { runs = refl; unasked = refl; within = refl }; calm = refl }, (Ok order.Discard, reads_discard, refl)),
      (
        (refl, refl, (tt, refl)),
        (
          (record { is_open = record { runs = refl; unasked = refl; within = refl }; calm = refl }, refl, refl),
          (
            (record { is_open = record { runs = refl; unasked = refl; within = refl }; calm = refl }, refl),
            (
              (record { is_open = record { runs = refl; unasked = refl; within = refl }; calm = refl }, refl),
              (
                (record { is_open = record { runs = refl; unasked = refl; within = refl }; calm = refl }, refl),
                (
                  (record { is_open = record { runs = refl; unasked = refl; within = refl }; calm = refl }, refl, refl),
                  (
                    (record { is_open = record { runs = refl; unasked = refl; within = refl }; calm = refl }, refl),
                    (
                      (record { is_open = record { runs = refl; unasked = refl; within = refl }; calm = refl }, refl),
                      (
                        (record { is_open = record { runs = refl; unasked = refl; within = refl }; calm = refl }, refl, refl),
                        (
                          (record { is_open = record { runs = refl; unasked = refl; within = refl }; calm = refl }, refl),
                          (
                            (record { is_open = record { runs = refl; unasked = refl; within = refl }; calm = refl }, refl),
                            tt,
                          ),
                        ),
                      ),
                    ),
                  ),
                ),
              ),
            ),
          ),
        ),
      ),
    ),
  ),
)

-- ## A trap of the new leader: the old one takes over

abbrev trap_after_promotion : List Entry
trap_after_promotion =
    order_update (codes "update bad none none")
    ∷ fork
    ∷ entry.Order (codes "promote") (answer.Accepted word.Promote 0)
    ∷ hand_promote
    ∷ promote
    ∷ entry.Point
    ∷ accept
    ∷ read
    ∷ entry.Mark (mark.Hand (why.Trap trap.Unreachable))
    ∷ entry.Mark mark.Back
    ∷ write
    ∷ entry.Point
    ∷ read_end
    ∷ close
    ∷ entry.Point
    ∷ accept_none
    ∷ ended
    ∷ []

trap_after_promotion_is_legal : AreLegal server (files (codes "bad") ∷ []) (begun (0, 0)) trap_after_promotion
unfolding digits
trap_after_promotion_is_legal = (
  (record { is_open = record { runs = refl; unasked = refl; within = refl }; calm = refl }, (Ok (order.Update (codes "bad") none_word none_word), reads_update_bad, (refl, (files (codes "bad"), refl, ((λ _. refl), (λ _. refl)))))),
  (
    (record { is_open = record { runs = refl; unasked = refl; within = refl }; calm = refl }, refl, refl),
    (
      (record { is_open = record { runs = refl; unasked = refl; within = refl }; calm = refl }, (Ok order.Promote, reads_promote, refl)),
      (
        (record { is_open = record { runs = refl; unasked = refl; within = refl }; calm = refl }, lit≤ tt, (refl, refl)),
        (
          (refl, refl, (3, refl), ((2, 0), record { accepted = no_rules_accepted (codes "bad"); stands = refl })),
          (
            (record { is_open = record { runs = refl; unasked = refl; within = refl }; calm = refl }, refl, refl),
            (
              (record { is_open = record { runs = refl; unasked = refl; within = refl }; calm = refl }, refl),
              (
                (record { is_open = record { runs = refl; unasked = refl; within = refl }; calm = refl }, refl),
                (
                  (record { is_open = record { runs = refl; unasked = refl; within = refl }; calm = refl }, lit≤ tt, refl),
                  (
                    (refl, refl, inr (trap.Unreachable, (8, refl)), ((0, 3), record { accepted = no_rules_accepted (codes "bad"); stands = refl })),
                    (
                      (record { is_open = record { runs = refl; unasked = refl; within = refl }; calm = refl }, refl),
                      (
                        (record { is_open = record { runs = refl; unasked = refl; within = refl }; calm = refl }, refl, refl),
                        (
                          (record { is_open = record { runs = refl; unasked = refl; within = refl }; calm = refl }, refl),
                          (
                            (record { is_open = record { runs = refl; unasked = refl; within = refl }; calm = refl }, refl),
                            (
                              (record { is_open = record { runs = refl; unasked = refl; within = refl }; calm = refl }, refl, refl),
                              (
                                (record { is_open = record { runs = refl; unasked = refl; within = refl }; calm = refl }, refl),
                                (
                                  (record { is_open = record { runs = refl; unasked = refl; within = refl }; calm = refl }, refl),
                                  tt,
                                ),
                              ),
                            ),
                          ),
                        ),
                      ),
                    ),
                  ),
                ),
              ),
            ),
          ),
        ),
      ),
    ),
  ),
)

-- ## A trap of the old leader: the new one takes over

abbrev trap_before_promotion : List Entry
trap_before_promotion =
    order_update (codes "update new none none")
    ∷ fork
    ∷ entry.Point
    ∷ accept
    ∷ read
    ∷ entry.Mark (mark.Hand (why.Trap trap.Unreachable))
    ∷ entry.Mark mark.Over
    ∷ entry.Call (call.Write 4 (codes "+OK\n"), reply.Count 4)
    ∷ entry.Point
    ∷ read_end
    ∷ close
    ∷ entry.Point
    ∷ accept_none
    ∷ ended
    ∷ []

trap_before_promotion_is_legal : AreLegal server (files (codes "new") ∷ []) (begun (2, 0)) trap_before_promotion
unfolding digits
trap_before_promotion_is_legal = (
  (record { is_open = record { runs = refl; unasked = refl; within = refl }; calm = refl }, (Ok (order.Update (codes "new") none_word none_word), reads_update_new, (refl, (files (codes "new"), refl, ((λ _. refl), (λ _. refl)))))),
  (
    (record { is_open = record { runs = refl; unasked = refl; within = refl }; calm = refl }, refl, refl),
    (
      (record { is_open = record { runs = refl; unasked = refl; within = refl }; calm = refl }, refl, refl),
      (
        (record { is_open = record { runs = refl; unasked = refl; within = refl }; calm = refl }, refl),
        (
          (record { is_open = record { runs = refl; unasked = refl; within = refl }; calm = refl }, refl),
          (
            (record { is_open = record { runs = refl; unasked = refl; within = refl }; calm = refl }, lit≤ tt, refl),
            (
              (refl, refl, (trap.Unreachable, (5, refl)), ((1, 3), record { accepted = no_rules_accepted (codes "new"); stands = refl })),
              (
                (record { is_open = record { runs = refl; unasked = refl; within = refl }; calm = refl }, refl),
                (
                  (record { is_open = record { runs = refl; unasked = refl; within = refl }; calm = refl }, refl, refl),
                  (
                    (record { is_open = record { runs = refl; unasked = refl; within = refl }; calm = refl }, refl),
                    (
                      (record { is_open = record { runs = refl; unasked = refl; within = refl }; calm = refl }, refl),
                      (
                        (record { is_open = record { runs = refl; unasked = refl; within = refl }; calm = refl }, refl, refl),
                        (
                          (record { is_open = record { runs = refl; unasked = refl; within = refl }; calm = refl }, refl),
                          (
                            (record { is_open = record { runs = refl; unasked = refl; within = refl }; calm = refl }, refl),
                            tt,
                          ),
                        ),
                      ),
                    ),
                  ),
                ),
              ),
            ),
          ),
        ),
      ),
    ),
  ),
)

-- ## Figures of these logs

first_promotion_count : length first_promotion ≡ 17
first_promotion_count = refl

roll_back_count : length roll_back ≡ 18
roll_back_count = refl

same_outside : outside first_promotion ≡ outside roll_back
same_outside = refl

-- ## With one entry changed a log is illegal from there

fails_same : (i j : ℕ) (c d : Call) (e f : Event) (x : Replayed State) → x ≡ Fails i c e → x ≡ Fails j d f → i ≡ j
fails_same i j c d e f x one other = let same : Fails i c e ≡ Fails j d f = sym one ∙ other in cc

fails_stands : (i : ℕ) (c : Call) (e : Event) (x : Replayed State) (s : State) → x ≡ Fails i c e → x ≡ Stands s → ⊥
fails_stands i c e x s one other = let same : Fails i c e ≡ Stands s = sym one ∙ other in cc

-- another call
another_call : IsFirstIllegal server (files (codes "old") ∷ []) (begun (0, 0)) ((take 8 first_promotion) ++ read ∷ (drop 9 first_promotion)) 8
unfolding digits
another_call = record {
  before = take 8 first_promotion;
  bad = read;
  behind = drop 9 first_promotion;
  split = refl;
  count = refl;
  legal = AreLegal-front server (files (codes "old") ∷ []) (begun (0, 0)) (take 8 first_promotion) (drop 8 first_promotion) first_promotion_is_legal;
  refused = λ may. let bad : event.Calls (call.Accept 3 0) ≡ event.Calls (call.Read 4 64) = may.1 in cc;
}

-- another reply: the guest goes on otherwise, and the entry behind it is wrong
another_reply : IsFirstIllegal server (files (codes "old") ∷ []) (begun (0, 0)) ((take 15 first_promotion ++ entry.Call (call.Accept 3 0, reply.Errno 7) ∷ []) ++ ended ∷ ([])) 16
unfolding digits
another_reply = record {
  before = take 15 first_promotion ++ entry.Call (call.Accept 3 0, reply.Errno 7) ∷ [];
  bad = ended;
  behind = [];
  split = refl;
  count = refl;
  legal = AreLegal-append server (files (codes "old") ∷ []) (begun (0, 0)) (take 15 first_promotion) (entry.Call (call.Accept 3 0, reply.Errno 7) ∷ []) (AreLegal-front server (files (codes "old") ∷ []) (begun (0, 0)) (take 15 first_promotion) (drop 15 first_promotion) first_promotion_is_legal) ((record { is_open = record { runs = refl; unasked = refl; within = refl }; calm = refl }, refl), tt);
  refused = λ may. let bad : event.Calls (call.Accept 3 0) ≡ event.Ends 0 = may.1 in cc;
}

-- a mismatch that names another item
another_item : IsFirstIllegal server (files (codes "new") ∷ []) (begun (0, 0)) ((take 6 mismatch) ++ (entry.Mark (mark.Discard (cause.Mismatch 1 (call.Write 4 (codes "OK\n")) (event.Calls (call.Write 4 (codes "+OK\n")))))) ∷ (drop 7 mismatch)) 6
unfolding digits
another_item = record {
  before = take 6 mismatch;
  bad = (entry.Mark (mark.Discard (cause.Mismatch 1 (call.Write 4 (codes "OK\n")) (event.Calls (call.Write 4 (codes "+OK\n"))))));
  behind = drop 7 mismatch;
  split = refl;
  count = refl;
  legal = AreLegal-front server (files (codes "new") ∷ []) (begun (0, 0)) (take 6 mismatch) (drop 6 mismatch) mismatch_is_legal;
  refused = λ may. let e = fails_same 2 1 (call.Write 4 (codes "OK\n")) (call.Write 4 (codes "OK\n")) (event.Calls (call.Write 4 (codes "+OK\n"))) (event.Calls (call.Write 4 (codes "+OK\n"))) _ refl may.2.1.fails in omega (arith, e);
}

-- a copy that nobody ordered
unordered_fork : IsFirstIllegal server (files (codes "old") ∷ []) (begun (0, 0)) ((take 0 first_promotion) ++ fork ∷ (drop 1 first_promotion)) 0
unfolding digits
unordered_fork = record {
  before = take 0 first_promotion;
  bad = fork;
  behind = drop 1 first_promotion;
  split = refl;
  count = refl;
  legal = AreLegal-front server (files (codes "old") ∷ []) (begun (0, 0)) (take 0 first_promotion) (drop 0 first_promotion) first_promotion_is_legal;
  refused = λ may. let bad : at.Passes ≡ at.Forks 1 = may.1 in cc;
}

-- a promotion that nobody asked for
unasked_promotion : IsFirstIllegal server (files (codes "old") ∷ []) (begun (0, 0)) ((take 3 first_promotion) ++ promote ∷ (drop 4 first_promotion)) 3
unfolding digits
unasked_promotion = record {
  before = take 3 first_promotion;
  bad = promote;
  behind = drop 4 first_promotion;
  split = refl;
  count = refl;
  legal = AreLegal-front server (files (codes "old") ∷ []) (begun (0, 0)) (take 3 first_promotion) (drop 3 first_promotion) first_promotion_is_legal;
  refused = λ may. let bad : None ≡ Some _ = may.2.1 in cc;
}

-- a promotion of a follower whose replay fails
promotion_without_replay : IsFirstIllegal server (files (codes "new") ∷ []) (begun (0, 0)) ((take 6 mismatch ++ entry.Order (codes "promote") (answer.Accepted word.Promote 0) ∷ hand_promote ∷ []) ++ promote ∷ ([])) 8
unfolding digits
promotion_without_replay = record {
  before = take 6 mismatch ++ entry.Order (codes "promote") (answer.Accepted word.Promote 0) ∷ hand_promote ∷ [];
  bad = promote;
  behind = [];
  split = refl;
  count = refl;
  legal = AreLegal-append server (files (codes "new") ∷ []) (begun (0, 0)) (take 6 mismatch) (entry.Order (codes "promote") (answer.Accepted word.Promote 0) ∷ hand_promote ∷ []) (AreLegal-front server (files (codes "new") ∷ []) (begun (0, 0)) (take 6 mismatch) (drop 6 mismatch) mismatch_is_legal) ((record { is_open = record { runs = refl; unasked = refl; within = refl }; calm = refl }, (Ok order.Promote, reads_promote, refl)), ((record { is_open = record { runs = refl; unasked = refl; within = refl }; calm = refl }, lit≤ tt, (refl, refl)), tt));
  refused = λ may. fails_stands 2 (call.Write 4 (codes "OK\n")) (event.Calls (call.Write 4 (codes "+OK\n"))) _ may.3.0 refl may.3.1.stands;
}

-- an entry after the end
entry_after_end : IsFirstIllegal server (files (codes "old") ∷ []) (begun (0, 0)) ((take 17 first_promotion) ++ entry.Point ∷ (drop 18 first_promotion)) 17
unfolding digits
entry_after_end = record {
  before = take 17 first_promotion;
  bad = entry.Point;
  behind = drop 18 first_promotion;
  split = refl;
  count = refl;
  legal = AreLegal-front server (files (codes "old") ∷ []) (begun (0, 0)) (take 17 first_promotion) (drop 17 first_promotion) first_promotion_is_legal;
  refused = λ may. let bad : Some (how.Ended 0) ≡ None = may.0.is_open.runs in cc;
}

-- an end by a trap while a follower stands
trapped_beside_follower : IsFirstIllegal server (files (codes "bad") ∷ []) (begun (0, 0)) ((take 8 trap_after_promotion) ++ (entry.Mark (mark.End (how.Trapped trap.Unreachable))) ∷ (drop 9 trap_after_promotion)) 8
unfolding digits
trapped_beside_follower = record {
  before = take 8 trap_after_promotion;
  bad = (entry.Mark (mark.End (how.Trapped trap.Unreachable)));
  behind = drop 9 trap_after_promotion;
  split = refl;
  count = refl;
  legal = AreLegal-front server (files (codes "bad") ∷ []) (begun (0, 0)) (take 8 trap_after_promotion) (drop 8 trap_after_promotion) trap_after_promotion_is_legal;
  refused = λ may. let bad : false ≡ true = may.1 in cc;
}

-- the update after the 64th
many_updates : early_reply (record first_status { updates = 70; fresh = 64 }) (order.Update (codes "old") none_word none_word) ≡ Some answer.Many
many_updates = refl

-- and the 64th
last_update : early_reply (record first_status { updates = 69; fresh = 63 }) (order.Update (codes "old") none_word none_word) ≡ None
last_update = refl

-- ## The work of a follower: its birth, a call that it matches, one that it doesn't, and a hand-over

abbrev accept_item : Call × Reply
accept_item = (call.Accept 3 0, reply.Fd 4)

abbrev copied : Spot State
copied = spot_after no_spot (msg.Fork 1 (0, 0) (codes "old") no_rules_text no_rules_text)

-- forward rules, reverse rules, birth
abbrev read_once : Spot State
read_once = record copied { births = 2 }

abbrev read_both : Spot State
read_both = record copied { births = 1; keeps = Some (record { update = 1; files = files (codes "old") }) }

abbrev newborn : Spot State
newborn = record read_both { births = 0 }

reads_forward : StepsTo server copied (Moves read_once)
reads_forward = record { place = unwrap_or copied.place (forked_place 0 (0, 0) [] [] []); place_is = refl; by = inl ((no_rules_accepted (codes "old")).forward, refl) }

reads_reverse : StepsTo server read_once (Moves read_both)
reads_reverse = record { place = unwrap_or copied.place (forked_place 0 (0, 0) [] [] []); place_is = refl; by = inl ((no_rules_accepted (codes "old")).reverse, refl) }

is_born : StepsTo server read_both (Moves newborn)
is_born = record { place = unwrap_or copied.place (forked_place 0 (0, 0) [] [] []); place_is = refl; by = inl ((0, 0), refl, refl) }

-- with nothing to match it becomes quiet, and takes a message
abbrev resting : Spot State
resting = record newborn { quiet = true }

rests : StepsTo server newborn (Moves resting)
rests = record { place = unwrap_or copied.place (forked_place 0 (0, 0) [] [] []); place_is = refl; by = record { matched = []; rest = []; items_are = refl; count = refl; reached = (0, 0); stands = refl; next_is = refl } }

waits_before : may_carry newborn ≡ false
waits_before = refl

takes_then : may_carry resting ≡ true
takes_then = refl

abbrev told : Spot State
told = spot_after resting (msg.Heard accept_item)

decides_one : StepsTo server told (Moves (record told { decisions = 1 }))
decides_one = record { place = unwrap_or told.place (forked_place 0 (0, 0) [] [] []); place_is = refl; by = record { matched = []; rest = []; items_are = refl; count = refl; reached = (0, 0); stands = refl; next_is = refl } }

matches_one : StepsTo server (record told { decisions = 1 }) (Moves (record told { decisions = 1; matched = 1 }))
matches_one = record {
  place = unwrap_or told.place (forked_place 0 (0, 0) [] [] []);
  place_is = refl;
  by = record { matched = []; rest = accept_item ∷ []; items_are = refl; count = refl; reached = (0, 0); stands = refl; next_is = refl };
}

-- another call
abbrev misled : Spot State
misled = spot_after resting (msg.Heard (call.Read 4 64, reply.Bytes (codes "a")))

gives_up : StepsTo server (record misled { decisions = 1 }) (GivesUp (cause.Mismatch 0 (call.Read 4 64) (event.Calls (call.Accept 3 0))))
gives_up = record {
  place = unwrap_or misled.place (forked_place 0 (0, 0) [] [] []);
  place_is = refl;
  by = record { matched = []; rest = (call.Read 4 64, reply.Bytes (codes "a")) ∷ []; items_are = refl; count = refl; reached = (0, 0); stands = refl; next_is = refl };
}

-- a hand-over behind the call
abbrev handed : Spot State
handed = spot_after (record told { decisions = 1; matched = 1; quiet = true }) (msg.Hand 5)

ready_then : StepsTo server handed (IsReadyFor (0, 2) 5)
ready_then = record {
  place = unwrap_or handed.place (forked_place 0 (0, 0) [] [] []);
  place_is = refl;
  by = record { matched = accept_item ∷ []; rest = []; items_are = refl; count = refl; reached = (0, 2); stands = refl; next_is = refl };
}

-- a guest that led follows by the rules that are kept
stands_then : spot_after (cleared_spot handed) (msg.Stand (0, 2)) ≡ standing_spot (Some (record { update = 1; files = files (codes "old") })) (0, 2)
stands_then = refl

skipped_without : spot_after no_spot (msg.Stand (0, 2)) ≡ no_spot {V = State}
skipped_without = refl

-- the judgements of the stages
ready_of_old : ready_mark OldLeads (Some (record { why = why.Promote; n = 5 })) ≡ Some mark.Promote
ready_of_old = refl

ready_at_trap : ready_mark OldLeads (Some (record { why = why.Trap trap.Unreachable; n = 5 })) ≡ Some mark.Over
ready_at_trap = refl

ready_of_new : ready_mark NewLeads (Some (record { why = why.Back; n = 5 })) ≡ Some mark.Back
ready_of_new = refl

failed_old : failed_mark NewLeads cause.Memory ≡ mark.Dropped cause.Memory
failed_old = refl

failed_new : failed_mark OldLeads cause.Memory ≡ mark.Discard cause.Memory
failed_new = refl
