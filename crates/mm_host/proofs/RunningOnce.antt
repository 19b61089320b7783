-- A session is one run whatever the slots hold: each first part of what was told, and how it ends; also where the cell was read before.
use Rattle.mm_host.proofs.Below.{bare, idle_again, ◌≡◌, ◌≢◌, ◌∙◌, ℕ, Bool, true, false, List, [], ◌∷◌, ◌++◌, Option, None, Some, Result, Ok}
use Rattle.mm_host.proofs.Below.{Err, IsSome, refl, sym, ap, subst, inl, inr, append_assoc, ◌⊎◌, append_cancel_left, StepFault, Standing}
use Rattle.mm_host.proofs.Below.{Batch, One, Meaning, Instance, opt_instance, History, requests_of, LostLife, life_of, StandsFor, Answer}
use Rattle.mm_host.proofs.Below.{Refusal, IsWithin, batch_result_of, fault_of, unless_idle, StoreFault, StoreStanding, PendingRecord, Slots}
use Rattle.mm_host.proofs.Below.{slot_front, HostFault, SessionFault, Host, Resumed, AreAskedInTurn, AsksNothingNew, EndsRun, RunsOnce}
use Rattle.mm_host.proofs.Below.{offer_after, first_offer, IsCall, IsInHand, CallsRunOver, served_calls_in, store_fault_as, refusal_fault}
use Rattle.mm_host.proofs.Below.{RequestMayBeCommitted, ServedCall, IsSession, served_lines, grows, IsWaiting, Met, by_refusal, map}
use Rattle.mm_host.proofs.Below.{AllByRecursion, Contains, fold, extended_message, Variant, Basic, Opt, Item, foreign_item, IsLawful}
use Rattle.mm_host.proofs.Below.{digest_after, trail, RegisterEntry, Value, Foreign, history_after, register_value_of, are_own, has_value}
use Rattle.mm_host.proofs.Below.{is_empty, AreMessagesIn, Digests, digests_of, opt_digests, messages_of_moves, state_after_moves}
use Rattle.mm_host.proofs.Below.{digest_level, list_level, AreShown, StandsAt, foreign_items, standing_items, stands_at, stands_for}
use Rattle.mm_host.proofs.Below.{agrees_is, foreign_may, is_agrees, counted_open, foreign_agrees, holds_open, within_items, within_of}
use Rattle.mm_host.proofs.Below.{foreign_all, holds_made, foreign_messages, history_with_values, taking_is, names_alike, shown_back}
use Rattle.mm_host.proofs.Below.{shown_front, shown_shut, MayStart, RunsOnceFrom, not_lost, was_powered, append-nil, SessionRunsOnce}
use Rattle.mm_host.proofs.Below.{counted_part, Answered, Lines, WriteFault, answer_reply, batch_answer_of}
use Rattle.mm_call.specs.CallFinding as growth
use Rattle.mm_schedule.specs.Replies.{IsBatchStep}
use Rattle.mm_host.proofs.Below.{SessionStanding, session_standing}
use Rattle.mm_model.specs.declared.refusal.Refusal.TheVariants as refusal
use Rattle.mm_store.specs.declared.fault.StoreFault.TheVariants as fault
use Rattle.mm_recovery.specs.declared.fault.HostFault.TheVariants as host
use Rattle.mm_host.proofs.Leading.{Laws, Reaches, basic_laws}
use Rattle.mm_host.proofs.CallsMade.{Ends, among_input, calls_split, chain_of, rests, stops, store_untold, told_in_part}
use Rattle.mm_host.proofs.InTurn.{AfterTurns, May, MindsNothing, StandsIn, calls_reach, ends_reach, met_last, pending_for, turns}
use Rattle.mm_host.proofs.InTurn.{chain_reaches}
use Rattle.mm_host.proofs.SessionRuns.{line_committed, runs_to, same_requests}
use Rattle.mm_host.proofs.Leading.{steps_again, steps_fresh}
use Rattle.mm_host.specs.Continuation.{last_bytes_in}
use Rattle.mm_host.proofs.Lines.{asks, fails, never_refused, never_stored, TellsCall, told_refused}
use Rattle.mm_digest.specs.Messages.{extended_digest_of}
use Rattle.mm_platform.specs.Standing.{StepGoes, ReadCell, items_beside}
use Rattle.mm_model.specs.Chains as chains
use Rattle.mm_model.specs.History.{items_of_all}
use Rattle.mm_call.specs.TrailLaws.{foreign_made, foreign_values, reads_beside, register_of_items, with_register}
use Rattle.mm_host.proofs.OptLeading.{opt_laws}
use Rattle.mm_host.specs.AnySlots.{CallsInTurn}

-- what came of the request in hand

pub by_fault : {A : Type 0} (why : Refusal) (broken : Option StepFault) → fault_of why ≡ broken → (fault_of why ≡ None → A)
    → IsSome (fault_of why) ⊎ A
by_fault why None e h = inr (h e)
by_fault why (Some broken) e h = inl (rw e refl)

-- a request is committed where it was answered, or a device failed
store_may : (why : StoreFault) → RequestMayBeCommitted {T = Resumed} (Err (store_fault_as why))
store_may fault.Memory = tt
store_may fault.Failed = tt

pub only_by : {A : Type 0} (call : Result Answer Refusal) (came : Result Resumed HostFault) → TellsCall call came
    → ((why : Refusal) → batch_result_of call ≡ Err why → fault_of why ≡ None → A) → A ⊎ RequestMayBeCommitted came
only_by (Err why) came t still = elim (by_fault why (fault_of why) refl (still why refl)) [
  | inl some ↦ inr (rw t
      (by_refusal (λ (w : Refusal) (f : HostFault). IsSome (fault_of w) → RequestMayBeCommitted {T = Resumed} (Err f))
      (λ e. tt) (λ w n e. e) why
      some))
  | inr it ↦ inl it
]
only_by (Ok answer) came (inl t) still = inr (rw t tt)
only_by (Ok answer) came (inr t) still = inr (rw t.1 (store_may t.0))

-- a refusal that is told is the call's, and isn't want of memory
pub call_refused : (call : Result Answer Refusal) (came : Result Resumed HostFault) (why : Refusal) → TellsCall call came
    → came ≡ Err (host.Refused why) → (call ≡ Err why) × (why ≡ refusal.Memory → ⊥)
call_refused (Err w) came why t e =
    let told : Err (refusal_fault w) ≡ Err (host.Refused why) = sym t ∙ e in
    let is : refusal_fault w ≡ host.Refused why = cc in
    let r = by_refusal (λ (x : Refusal) (f : HostFault). f ≡ host.Refused why → (x ≡ why) × (x ≡ refusal.Memory → ⊥)) (λ e. absurd (cc))
    (λ x n e. let same : x ≡ why = cc in (same, n)) w is in
    (ap (λ (x : Refusal). Err x) r.0, λ m. r.1 (r.0 ∙ m))
call_refused (Ok answer) came why (inl t) e = absurd (cc)
call_refused (Ok answer) came why (inr t) e =
    let told : Err (store_fault_as t.0) ≡ Err (host.Refused why) = sym t.1 ∙ e in
    absurd (never_stored t.0 why (cc))

module _ {all others : List (List ℕ)} {asked : List Batch} {i : Instance} {final : Standing} (laws : Laws all others asked i final) where
  -- an answer that is told is a step of the machine
  answered_steps : (y after : History) (offer request : List ℕ) (answer : Answer)
      → growth.HistoryGrows i y offer (One request) after (Ok (batch_answer_of answer))
      → IsBatchStep i.meaning (requests_of y.batches) (One request) (answer_reply answer) (requests_of after.batches)
  answered_steps y after offer request answer (growth.kept same answers) =
      let r = answers (batch_answer_of answer) refl in
      steps_again i y after r.ends.front request answer r.answer_is same r.ends.is
  answered_steps y after offer request answer (growth.grown content right at more answers) =
      steps_fresh i y after request answer (answers (batch_answer_of answer) refl) more

  pub call_steps : (y after : History) (offer request : List ℕ) (call : Result Answer Refusal) (came : Result Resumed HostFault)
      (answer : Answer) → TellsCall call came → came ≡ Ok (Answered answer)
      → growth.HistoryGrows i y offer (One request) after (batch_result_of call)
      → IsBatchStep i.meaning (requests_of y.batches) (One request) (answer_reply answer) (requests_of after.batches)
  call_steps y after offer request (Ok given) came answer (inl told) e g =
      let same : given ≡ answer = cc in
      subst (λ (a : Answer). IsBatchStep i.meaning (requests_of y.batches) (One request) (answer_reply a) (requests_of after.batches)) same
      (answered_steps y after offer request given g)
  call_steps y after offer request (Ok given) came answer (inr failed) e g =
      let clash : Ok (Answered answer) ≡ Err (store_fault_as failed.0) = sym e ∙ failed.1 in absurd (cc)
  call_steps y after offer request (Err why) came answer t e g =
      let clash : Ok (Answered answer) ≡ Err (refusal_fault why) = sym e ∙ t in absurd (cc)

  -- how a session ends behind what was told
  module _ (y z : History) (first : List ℕ) (at : Standing) (told : List ServedCall) (hand : List ℕ → Type 0) (sent : List ℕ)
      (stands : StandsFor i at z)
      (within : IsWithin all others asked i z) (run : CallsRunOver i.meaning (requests_of y.batches) told (requests_of z.batches))
      (powered : life_of i.variant y ≢ LostLife → life_of i.variant z ≢ LostLife) where
    rests_run : (result : Result Unit SessionFault) → final ≡ at → ((why : Refusal) → result ≡ Err (Host (host.Refused why)) → ⊥)
        → (result ≡ Err (Lines WriteFault) → ⊥) → EndsRun all others asked i y first final told hand sent result
    rests_run result same none unwritten = record {
      runs = runs_to y told hand z (rw same stands) within run (inl refl) (λ e. absurd (unwritten e)) powered;
      refuses = λ why r. absurd (none why r);
    }

    ends_run : (result : Result Unit SessionFault)
        → ((request : List ℕ) (call : Result Answer Refusal) → hand request
        → IsCall i.variant i.meaning at final (offer_after first told) request call
        → Met all others asked i z final (offer_after first told) (pending_for request) (batch_result_of call))
        → Ends i.variant i.meaning at final (offer_after first told) hand sent result
        → EndsRun all others asked i y first final told hand sent result
    ends_run result meets (rests same none unwritten) = rests_run result same none unwritten
    ends_run result meets (stops request h came (fails same why e) fault says is) =
        rests_run result same (λ (w : Refusal) (r : result ≡ Err (Host (host.Refused w))).
        let fault_is : fault ≡ Host (host.Refused w) = cc in never_refused why came sent fault w e says fault_is)
        (λ (w : result ≡ Err (Lines WriteFault)).
        let fault_is : fault ≡ Lines WriteFault = cc in store_untold why came sent fault e says fault_is)
    ends_run result meets (stops request h came (asks call c t) fault says is) =
        let m = meets request call h c in
        rw is (record {
          runs = runs_to y told hand m.after m.stands m.within run
              (line_committed z m.after request came sent fault hand h says (only_by call came t m.only)
              (grows i z (pending_for request) (offer_after first told) m.after (batch_result_of call) m.comes))
              (λ w. told_in_part i.meaning hand (requests_of z.batches) (requests_of m.after.batches) came sent fault says
              (λ answer e. (request, h, call_steps z m.after (offer_after first told) request call came answer t e m.comes))
              (same_requests z m.after came (only_by call came t m.only)) (cc))
              (λ p. m.powered (powered p));
          refuses = λ (why : Refusal) (r : Err fault ≡ Err (Host (host.Refused why))).
              let is = call_refused call came why t (told_refused came sent fault why says (cc)) in
              record {
                request = request;
                in_hand = h;
                judged = by_fault why (fault_of why) refl (λ none. elim (m.judged why (ap batch_result_of is.0) none) [
                  | inl memory ↦ absurd (is.1 memory)
                  | inr found ↦ found
                ]);
              };
        })

  -- A session from a history that is the same as this one but for others' values.
  module _ {before : Standing} {old new : StoreStanding} {left left' received received' : Option (List ℕ)}
      {result : Result Unit SessionFault}
      (s : IsSession i.variant i.meaning (session_standing before old left received) (session_standing final new left' received') result)
      (y z : History) (slots : Slots)
      (waiting : Option PendingRecord) (slots_told : old.slots ≡ Some slots)
      (w : IsWaiting (slot_front slots 2) (slot_front slots 3) waiting)
      (requests : List (List ℕ)) (here : StandsIn all others asked i y z before (first_offer slots waiting))
      (powered : life_of i.variant z ≢ LostLife → life_of i.variant y ≢ LostLife)
      (may : May laws y before (first_offer slots waiting) requests)
      (f : AreAskedInTurn all asked i z (first_offer slots waiting) requests) where
    abbrev first : List ℕ
    first = first_offer slots waiting

    turns_to : (front : List ServedCall) (at : Standing) (rest : List (List ℕ)) → served_lines front ++ rest ≡ requests
        → Reaches i.variant i at final → CallsInTurn i.variant i.meaning first before front at → AfterTurns laws y at first front rest
    turns_to front at rest e reaches calls = turns laws y z before at first front rest here (rw e may)
        (rw e f) calls reaches

    from_there : (calls : List ServedCall) (after : List (List ℕ)) → CallsRunOver i.meaning (requests_of y.batches) calls after
        → CallsRunOver i.meaning (requests_of z.batches) calls after
    from_there calls after r = rw (laws.batches y z here.same) at r

    pub runs_once : RunsOnce all others asked i z slots waiting left final (served_calls_in waiting s.goes)
        (IsInHand waiting s.goes) (last_bytes_in s.goes) requests result
    runs_once =
        let chain = chain_of s slots waiting slots_told w in
        let told : List ServedCall = served_calls_in waiting s.goes in
        record {
          fronts = λ front behind e among.
              let c = calls_split i.variant i.meaning first before chain.at front behind
              (rw e at chain.calls) in
              let t = turns_to front c.0 among.0 among.1
              (calls_reach laws (offer_after first front) c.0 chain.at behind c.2 (ends_reach laws chain.ends)) c.1 in
              (requests_of t.after.batches, from_there front (requests_of t.after.batches) t.run);
          ends = λ among.
              let rest : List (List ℕ) = among.served.0 in
              let t = turns_to told chain.at rest among.served.1 (ends_reach laws chain.ends) chain.calls in
              ends_run z t.after first chain.at told (IsInHand waiting s.goes) (last_bytes_in s.goes) t.here.stands t.here.within
              (from_there told (requests_of t.after.batches) t.run)
              (λ p. t.powered (powered p)) result
              (λ request call h c.
              let next = among.in_hand request h in
              let is : rest ≡ request ∷ next.0 = append_cancel_left (served_lines told) rest (request ∷ next.0)
              (among.served.1 ∙ sym next.1 ∙ append_assoc (served_lines told) (request ∷ []) next.0) in
              met_last laws t.after t.then_is chain.at (offer_after first told) (pending_for request) next.0 call t.here
              (subst (λ (rs : List (List ℕ)). AreAskedInTurn all asked i t.then_is (offer_after first told) rs) is t.asked_in_turn)
              (subst (λ (rs : List (List ℕ)). May laws t.after chain.at (offer_after first told) rs) is t.may) c)
              chain.ends;
          made = among_input s slots waiting slots_told w;
        }

-- something new is asked, or nothing

unless_open : {A : Type 0} (y : History) (flag : Bool) → y.is_open ≡ flag → ((y.is_open ≡ false → ⊥) → A) → A ⊎ (y.is_open ≡ false)
unless_open y true e unless = inl (unless (λ k. let clash : true ≡ false = sym e ∙ k in absurd (cc)))
unless_open y false e unless = inr e

pub unless_nothing : {A : Type 0} (i : Instance) (y : History) (offer : List ℕ) (requests : List (List ℕ))
    → ((AsksNothingNew i y offer requests → ⊥) → A) → A ⊎ AsksNothingNew i y offer requests
unless_nothing i y offer [] unless = unless_open y y.is_open refl unless
unless_nothing i y offer (request ∷ []) unless = unless_idle i y offer (One request) unless
unless_nothing i y offer (request ∷ next ∷ requests) unless = inl (unless (λ k. k))

pub minds_nothing : (meaning : Meaning) (key barrier : List ℕ) (y z : History) (offer : List ℕ) (requests : List (List ℕ))
    → bare z ≡ bare y → AsksNothingNew (opt_instance meaning key barrier) y offer requests
    → MindsNothing (opt_instance meaning key barrier) z offer requests
minds_nothing meaning key barrier y z offer [] e k = tt
minds_nothing meaning key barrier y z offer (request ∷ []) e k = (idle_again meaning key barrier y z offer (One request) e k, refl)
minds_nothing meaning key barrier y z offer (request ∷ next ∷ requests) e k = absurd k

-- what others put into the register meanwhile

pub foreign_of : (values : List (List ℕ)) → foreign_items (map foreign_item values) ≡ values
foreign_of [] = refl
foreign_of (v ∷ values) = ap (λ (vs : List (List ℕ)). v ∷ vs) (foreign_of values)

more_items : (items more : List RegisterEntry) → is_empty items ≡ false → is_empty (items ++ more) ≡ false
more_items [] more e = absurd (cc)
more_items (x ∷ items) more e = refl

module _ (meaning : Meaning) (key barrier : List ℕ) where
  abbrev i : Instance
  i = opt_instance meaning key barrier

  register_pushed : (y : History) (v : List ℕ)
      → register_value_of i (history_after i y (Foreign v)) ≡ digest_after extended_message (register_value_of i y) (v ∷ [])
  unfolding extended_digest_of
  register_pushed y v =
      ap (λ (d : Digests). d.register) (opt_digests meaning key barrier y (Foreign v) (foreign_may i y y.is_open v))

  pub register_looked : (values : List (List ℕ)) (y : History)
      → register_value_of i (state_after_moves (list_level i) y (map Foreign values)) ≡ digest_after extended_message
      (register_value_of i y) values
  register_looked [] y = refl
  register_looked (v ∷ values) y =
      register_looked values (history_after i y (Foreign v)) ∙ ap (λ (s : List ℕ). digest_after extended_message s values)
      (register_pushed y v)

  pub messages_looked : (values : List (List ℕ)) (y : History)
      → messages_of_moves i y (map Foreign values) ≡ trail extended_message (register_value_of i y) values
  messages_looked [] y = refl
  messages_looked (v ∷ values) y =
      let s : List ℕ = register_value_of i y in
      ap (λ (ms : List (List ℕ)). ms ++ messages_of_moves i (history_after i y (Foreign v)) (map Foreign values))
      (foreign_messages meaning key barrier y y.is_open v)
      ∙ ap (λ (ms : List (List ℕ)). extended_message s v ∷ ms)
      (rw (← register_pushed y v) (messages_looked values (history_after i y (Foreign v))))

  shut_of : (y : History) (offer : List ℕ) (requests : List (List ℕ)) → AsksNothingNew i y offer requests → y.is_open ≡ false
  shut_of y offer [] k = k
  shut_of y offer (r ∷ []) k = k.shut
  shut_of y offer (r ∷ next ∷ requests) k = absurd k

pub powered_looked : (values : List (List ℕ)) (y : History) → life_of Opt y ≢ LostLife
    → life_of Opt (history_with_values y values) ≢ LostLife
powered_looked values y p =
    not_lost y.is_open (is_empty (y.items ++ map Value values)) (are_own (y.items ++ map Value values) y.current)
    (has_value (items_of_all y.closed))
    (λ (e : y.is_open ≡ true). more_items y.items (map Value values)
    (was_powered y.is_open (is_empty y.items) (are_own y.items y.current) (has_value (items_of_all y.closed)) p e))

module _ (meaning : Meaning) (lawful : IsLawful meaning) (entry : Standing) (old new : SessionStanding) (brought_by : List (List ℕ))
    (cell : old.standing.cell ≡ entry.cell) (looked : old.standing.items ≡ items_beside brought_by entry.items)
    {result : Result Unit SessionFault} (s : IsSession Opt meaning old new result)
    (key barrier : List ℕ) (y : History) (slots : Slots) (all others : List (List ℕ)) (asked : List Batch)
    (requests : List (List ℕ)) (items more : List Item) (may : MayStart all others asked (opt_instance meaning key barrier)
    y slots entry old.kept)
    (known : entry.items ≡ Some items) (ends : new.standing.items ≡ Some (standing_items y.is_open items ++ more)) where
  abbrev j : Instance
  j = opt_instance meaning key barrier

  abbrev z : History
  z = history_with_values y brought_by

  abbrev offered : List ℕ
  offered = first_offer slots may.waiting

  abbrev brought : List Item
  brought = map foreign_item brought_by

  abbrev laws : Laws all others asked j new.standing
  laws = opt_laws meaning lawful key barrier all others asked new.standing may.clear may.apart

  -- where the session stands once it starts, and what is asked of what others do
  abbrev pub Enters : Type 0
  Enters = (here : StandsIn all others asked j z y old.standing offered) × May laws z old.standing offered requests

  there : old.standing.items ≡ Some (items ++ brought)
  there = looked ∙ ap (λ (xs : Option (List Item)). items_beside brought_by xs) known

  stands : StandsFor j old.standing z
  stands =
      let d : Digests = digests_of j y in
      let at = stands_at j entry y may.stands in
      let read : StandsAt j old.standing (with_register d (fold extended_digest_of d.register brought_by)) = record {
        spells = at.spells;
        cell = cell ∙ at.cell;
        reads = ap (λ (xs : Option (List Item)). register_of_items xs) looked ∙ reads_beside entry.items brought_by d.register at.reads;
      } in
      let is : with_register d (fold extended_digest_of d.register brought_by) ≡ digests_of j z =
      sym (foreign_made j d brought_by)
      ∙ agrees_is j (state_after_moves (list_level j) y (map Foreign brought_by))
      (state_after_moves (digest_level j) d (map Foreign brought_by))
      (foreign_agrees meaning key barrier brought_by y d (is_agrees j y d refl))
      ∙ ap (digests_of j) (taking_is j brought_by y) in
      stands_for j old.standing z (rw is at read)

  -- what is asked goes on
  within_open : (k : List Item) → y.is_open ≡ true → AreShown all others j y (brought ++ k) → IsWithin all others asked j z
  within_open k e a =
      let d : Digests = digests_of j y in
      let front = shown_front all others j y brought k a in
      let listed : AreMessagesIn (messages_of_moves j y (map Foreign brought_by)) all =
      rw (messages_looked meaning key barrier brought_by y, ← counted_open y e) (rw (foreign_values brought_by) at front.messages) in
      let outside : AllByRecursion (Contains others) brought_by = rw (foreign_of brought_by) at front.values in
      rw (taking_is j brought_by y) at
      (within_of meaning key barrier all others asked (state_after_moves (list_level j) y (map Foreign brought_by))
      (state_after_moves (digest_level j) d (map Foreign brought_by))
      (holds_made meaning key barrier all others asked (map Foreign brought_by) y d
      (holds_open meaning key barrier all others asked y d e (is_agrees j y d refl) may.within)
      (foreign_all meaning key barrier all others asked brought_by y outside) listed))

  shown_open : (k : List Item) → y.is_open ≡ true → AreShown all others j y (brought ++ k) → AreShown all others j z k
  shown_open k e a =
      shown_back all others j y z brought k
      (ap (register_value_of j) (counted_open z e ∙ sym (taking_is j brought_by y)) ∙ register_looked meaning key barrier brought_by y
      ∙ ap (λ (x : History). chains.digest_after extended_message (register_value_of j x) brought_by) (sym (counted_open y e))
      ∙ ap (λ (vs : List (List ℕ)). chains.digest_after extended_message (register_value_of j (counted_part y)) vs)
      (sym (foreign_values brought_by))) a

  enter_from : IsWithin all others asked j z → May laws z old.standing offered requests → Enters
  enter_from w m = (
    record {
      stands = stands;
      within = w;
      genuine = λ content right. names_alike meaning key barrier y z content refl (may.genuine content right);
      same = refl;
    },
    m,
  )

  enter_open : y.is_open ≡ true → AreShown all others j y more → Enters
  enter_open e shown_are =
      let reaches = chain_reaches laws (chain_of s slots may.waiting may.told may.is_waiting) in
      let stays = reaches (digests_of j z) (stands_at j old.standing z stands) e (items ++ brought) there in
      let both : Some (items ++ more) ≡ Some ((items ++ brought) ++ stays.more) =
      ap (λ (flag : Bool). Some (standing_items flag items ++ more)) (sym e) ∙ sym ends ∙ stays.shows in
      let whole : items ++ more ≡ (items ++ brought) ++ stays.more = cc in
      let same : items ++ more ≡ items ++ (brought ++ stays.more) = whole ∙ append_assoc items brought stays.more in
      let shown : AreShown all others j y (brought ++ stays.more) =
      rw (append_cancel_left items more (brought ++ stays.more) same) at shown_are in
      enter_from (within_open stays.more e shown) (inl (record {
        items = items ++ brought;
        known = there;
        more = stays.more;
        ends = stays.shows ∙ ap (λ (flag : Bool). Some (standing_items flag (items ++ brought) ++ stays.more)) (sym e);
        shown_are = shown_open stays.more e shown;
      }))

  enter_shut : y.is_open ≡ false → ((AsksNothingNew j y offered requests → ⊥) → AreShown all others j y more) → Enters
  enter_shut e shown_so =
      enter_from (within_items meaning key barrier all others asked y (y.items ++ map Value brought_by) e may.within)
      (elim (unless_nothing j y offered requests shown_so) [
        | inl are ↦ inl (record {
          items = items ++ brought;
          known = there;
          more = more;
          ends = ends ∙ ap (λ (flag : Bool). Some (standing_items flag items ++ more)) e
              ∙ ap (λ (flag : Bool). Some (standing_items flag (items ++ brought) ++ more)) (sym e);
          shown_are = shown_shut all others j y z more e e are;
        })
        | inr none ↦ inr (minds_nothing meaning key barrier y z offered requests refl none)
      ])

  pub enter_by : (flag : Bool) → y.is_open ≡ flag → ((AsksNothingNew j y offered requests → ⊥) → AreShown all others j y more) → Enters
  enter_by true e shown_so =
      enter_open e (shown_so (λ k. let clash : true ≡ false = sym e ∙ shut_of meaning key barrier y offered requests k in absurd (cc)))
  enter_by false e shown_so = enter_shut e shown_so

-- a session behind others' values
run_over : (variant : Variant) (meaning : Meaning) → IsLawful meaning → (entry : Standing) (old new : SessionStanding)
    (values : List (List ℕ)) → old.standing.cell ≡ entry.cell → old.standing.items ≡ items_beside values entry.items
    → (result : Result Unit SessionFault) → RunsOnceFrom variant meaning entry old new result
run_over Basic meaning lawful entry old new values cell looked result =
    λ s key y slots all others asked requests may f.
    runs_once (basic_laws meaning lawful key all others asked new.standing may.clear may.apart) s y y slots may.waiting may.told
    may.is_waiting requests (record {
      stands = record { spells = may.stands.spells; cell = cell ∙ may.stands.cell; register = tt };
      within = may.within;
      genuine = may.genuine;
      same = refl;
    }) (λ p. p) (inl tt) f
run_over Opt meaning lawful entry old new values cell looked result =
    λ s key barrier y slots all others asked requests items more may f known ends shown_so.
    let e = enter_by meaning lawful entry old new values cell looked s key barrier y slots all others asked requests items more may
    known ends y.is_open refl shown_so in
    runs_once (opt_laws meaning lawful key barrier all others asked new.standing may.clear may.apart) s (history_with_values y values) y
    slots may.waiting
    may.told may.is_waiting requests e.0 (powered_looked values y) e.1 f

-- behind a reading of the cell, whether that failed or not
pub runs_once_from : (variant : Variant) (meaning : Meaning) → IsLawful meaning
    → (entry : Standing) (fault : Option StepFault) (old new : SessionStanding) (result : Result Unit SessionFault)
    → StepGoes ReadCell entry old.standing fault → RunsOnceFrom variant meaning entry old new result
runs_once_from variant meaning lawful entry fault old new result g =
    run_over variant meaning lawful entry old new g.others g.cell g.items result

pub nothing_beside : (items : Option (List Item)) → items ≡ items_beside [] items
nothing_beside None = refl
nothing_beside (Some xs) = ap (λ (x : List Item). Some x) (sym (append-nil xs))

pub session_runs_once : (variant : Variant) (meaning : Meaning) → IsLawful meaning
    → (old new : SessionStanding) (result : Result Unit SessionFault) → SessionRunsOnce variant meaning old new result
session_runs_once variant meaning lawful old new =
    run_over variant meaning lawful old.standing old new [] refl (nothing_beside old.standing.items)
