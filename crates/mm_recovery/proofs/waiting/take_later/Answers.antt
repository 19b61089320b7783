use Rattle.mm_recovery.proofs.Below.{◌≡◌, List, ℕ, Ok, Option, Some, ap, inl, inr, rules, option_map, IsWaiting, PendingRecord}
use Rattle.mm_recovery.proofs.Below.{ReadsPendingRecord, later_record}
use Rattle.mm_store.specs.PendingRecord.{pending_of}
use Rattle.mm_recovery.proofs.waiting.take_later.Goals as goal

waits : (two three : List ℕ) (waiting in_two in_three : Option PendingRecord) → ReadsPendingRecord 2 two in_two
    → ReadsPendingRecord 3 three in_three
    → waiting ≡ later_record in_two in_three → IsWaiting two three waiting
waits two three waiting in_two in_three reads_two reads_three is =
    record { in_two = in_two; in_three = in_three; reads_two = reads_two; reads_three = reads_three; is = is }

pub returns-in_err-request-clause-takes : goal.returns-in_err-request-clause-takes
returns-in_err-request-clause-takes c = record {
  waiting = Some (pending_of c.in-Some.pending);
  is_waiting = waits _ _ _ (option_map pending_of c.read_pending.result) (option_map pending_of c.read_pending-2.result)
      c.read_pending.ensures.reads c.read_pending-2.ensures.reads c.in-Some.ensures;
  gives = inr (search rules);
}

pub returns-clause-takes : goal.returns-clause-takes
returns-clause-takes c = record {
  waiting = Some (pending_of c.in-Some.pending);
  is_waiting = waits _ _ _ (option_map pending_of c.read_pending.result) (option_map pending_of c.read_pending-2.result)
      c.read_pending.ensures.reads c.read_pending-2.ensures.reads c.in-Some.ensures;
  gives =
      inl (ap (λ (request : List ℕ). Ok (Some (record { position = c.in-Some.pending.position; request = request })))
      c.in_ok-request.ensures);
}
