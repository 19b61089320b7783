-- A session of one request over the slots of a first start meets what is asked of a life.
use Rattle.std.specs.Option.{option_and_then, option_map_or}
use Rattle.std.specs.Prelude.{◌&&◌, if◌then◌else◌, length}
use Rattle.std.specs.Result.{result_ok}
use Rattle.std.specs.Str.{bytes_eq}
use Rattle.std.proofs.Common.{Bool, true, false}
use Rattle.std.proofs.lemmas.Slice.Eq.{bytes_eq-Decides}
use Rattle.mm_digest.specs.Messages.{extended_message, zero_bytes}
use Rattle.mm_digest.specs.declared.variant.Variant.TheVariants.{Opt}
use Rattle.mm_seal.specs.FieldLaws.{sealed_parts}
use Rattle.mm_seal.specs.Snapshot.{Content, IsContent, Snapshot, tag_of}
use Rattle.mm_seal.specs.declared.snapshot.PartsFault.{PartsFault}
use Rattle.mm_platform.specs.Standing.{Standing}
use Rattle.mm_module.specs.RunLaws.{state_after-is_spelled, counter_is_lawful}
use Rattle.mm_model.specs.Chains.{guard, opt_instance, Instance, basic_instance}
use Rattle.mm_model.specs.History.{History}
use Rattle.mm_model.specs.Messages.{AreNoGuards}
use Rattle.mm_model.specs.Standing.{content_of_issue, issued_bytes}
use Rattle.mm_model.specs.declared.answer.Answer.{Answer}
use Rattle.mm_call.specs.OfferLaws.{opt_content}
use Rattle.mm_call.specs.CallPremises.{foreign_items, right_messages}
use Rattle.mm_outcome.specs.OneRun.{world_barrier}
use Rattle.mm_recovery.specs.FirstStart.{IsFirstStore, first_history_on}
use Rattle.mm_life.specs.Premises.{is_idle, life_batches, life_messages, opt_messages, shown_messages, IsFirstUntagged, call_messages}
use Rattle.mm_life.specs.OneStore.{OptRequestMeetsPremises, ShowsGuardAlone, one_session, OneRequestMeetsPremises, add_five}
use Rattle.std.specs.Io.KnownBytes.{Consumes, IsAtEnd}
use Rattle.std.specs.List.{AllByRecursion, Contains}
use Rattle.std.proofs.Common.{◌≡◌, ◌∙◌, ◌⊎◌, ℕ, List, [], ◌∷◌, ◌++◌, Option, None, Some, Result, Ok, Err, arith, refl, sym, ap, subst, inl, inr}
use Rattle.std.proofs.Common.{◌≤◌, append_assoc}
use Rattle.std.proofs.lemmas.List.{append-nil, take_all}
use Rattle.mm_base.specs.Input.{IsUnbroken, joined_lines, lines_of}
use Rattle.mm_base.specs.InputLaws.{lines_of-joined, lines_of-line}
use Rattle.mm_base.specs.declared.replay_fault.ReplayFault.TheVariants.{WriteFault}
use Rattle.mm_digest.specs.Messages.{start_message}
use Rattle.mm_digest.specs.declared.variant.Variant.{Variant}
use Rattle.mm_digest.specs.declared.variant.Variant.TheVariants.{Basic}
use Rattle.mm_module.specs.Batch.{Batch, One, normal_batch}
use Rattle.mm_module.specs.Meaning.{counter, Meaning}
use Rattle.mm_model.specs.FormLaws.{sealed_snapshot_of-most}
use Rattle.mm_model.specs.History.{first_history}
use Rattle.mm_model.specs.ListLaws.{each_append, each_left, each_self}
use Rattle.mm_model.specs.Messages.{AreMessagesIn, IsClear}
use Rattle.mm_call.specs.CallFinding.{right_content}
use Rattle.mm_call.specs.OfferLaws.{basic_content}
use Rattle.mm_outcome.specs.Laws.{one_ask}
use Rattle.mm_outcome.specs.Premises.{IsClearRun, IsGenuineRun, run_messages}
use Rattle.mm_outcome.proofs.Above.{clear_within}
use Rattle.mm_store.specs.PendingRecord.{PendingRecord}
use Rattle.mm_store.specs.StoreStanding.{Slots, longest_slot, slot_front}
use Rattle.mm_store.proofs.Above.{longest_slot-is}
use Rattle.mm_store.specs.declared.fault.StoreFault.{StoreFault}
use Rattle.mm_recovery.specs.FirstStart.{first_slots}
use Rattle.mm_recovery.specs.HostStanding.{HostStanding, HostGoesAfterRecord, HostGoesAfterFinding, first_offer, IsWaiting}
use Rattle.mm_recovery.specs.declared.fault.HostFault.{HostFault}
use Rattle.mm_recovery.specs.declared.resuming.Resumed.{Resumed}
use Rattle.mm_recovery.specs.declared.resuming.Resumed.TheVariants.{Answered}
use Rattle.mm_recovery.proofs.Above.{is_first, one_waiting, saw_two}
use Rattle.mm_host.specs.Continuation.{served_calls_in}
use Rattle.mm_host.specs.Sessions.{SessionStanding, host_of, BytesBeginWith, IsSession, ServedCall, ServesAllLines, ServesCalls}
use Rattle.mm_host.specs.Sessions.{SessionGoesAfterResume, SessionPlace, served_lines}
use Rattle.mm_host.specs.declared.fault.SessionFault.{SessionFault}
use Rattle.mm_host.specs.declared.fault.SessionFault.TheVariants.{Host, Lines}
use Rattle.mm_life.specs.Deeds.{LifeCall, call_of, IsFirstOffered, first_bytes, first_calls, found_host, found_record, last_calls}
use Rattle.mm_life.specs.Deeds.{recorded_calls, served_calls_of, session_calls, told_calls, untold_calls}
use Rattle.mm_life.specs.Laws.{OffersSlots, SessionsOfferSlots}

-- Nothing waits in slots where none is shown.

none_found : (two three : List ℕ) (found : Result (Option PendingRecord) StoreFault)
    → ((w : Option PendingRecord) → found ≡ Ok w → IsWaiting two three w) → IsWaiting two three None → found_record found ≡ None
none_found two three (Ok w) h none = one_waiting two three w None (h w refl) none
none_found two three (Err why) h none = refl

first_none : (variant : Variant) (meaning : Meaning) (found : Result (Option PendingRecord) StoreFault) (middle new : HostStanding)
    (came : Result Resumed HostFault) (g : HostGoesAfterFinding variant meaning found middle new came) → found_record found ≡ None
    → first_calls variant meaning found middle new came g ≡ []
first_none variant meaning (Ok (Some p)) middle new came g e = absurd (cc)
first_none variant meaning (Ok None) middle new came g e = refl
first_none variant meaning (Err why) middle new came g e = refl

-- no call was made, or one, for this request
abbrev AsksOnce : List ℕ → List LifeCall → Type 0
AsksOnce request calls = (calls ≡ []) ⊎ ((c : LifeCall) × (calls ≡ c ∷ []) × (c.batch ≡ One request))

-- no call was made for the line in hand, or one
abbrev AsksInHand : List ℕ → List LifeCall → Type 0
AsksInHand more calls =
    (calls ≡ [])
    ⊎ ((c : LifeCall) × (calls ≡ c ∷ []) × (request : List ℕ) × (c.batch ≡ One request) × (held : List ℕ)
    × BytesBeginWith more request held)

module _ (variant : Variant) (meaning : Meaning) where
  record_asks : (recorded : Result Unit StoreFault) (middle new : HostStanding) (last : Resumed) (line : List ℕ)
      (came : Result Resumed HostFault) (g : HostGoesAfterRecord variant meaning recorded middle new last line came)
      (more held : List ℕ) → BytesBeginWith more line held
      → AsksInHand more (recorded_calls variant meaning recorded middle new last line came g)
  record_asks (Ok it) middle new last line came g more held b = inr (_, refl, line, refl, held, b)
  record_asks (Err why) middle new last line came g more held b = inl refl

  last_asks : (number : ℕ) (from : SessionPlace) (new : HostStanding) (left : Option (List ℕ)) (bytes sent : List ℕ)
      (result : Result Unit SessionFault) (l : ServesAllLines variant meaning number from new left bytes sent result)
      → AsksInHand l.more (last_calls result l)
  last_asks number from new left bytes sent (Err (Host fault)) l =
      record_asks l.ends.asks.recorded (record l.at.host { kept = l.ends.asks.middle }) new l.at.last l.ends.line l.ends.came
      l.ends.asks.goes l.more l.ends.held l.ends.begins
  last_asks number from new left bytes sent (Err (Lines WriteFault)) l =
      record_asks l.ends.asks.recorded (record l.at.host { kept = l.ends.asks.middle }) new l.at.last l.ends.line l.ends.came
      l.ends.asks.goes l.more l.ends.held l.ends.begins
  last_asks number from new left bytes sent _ l = inl refl

  calls_unbroken : (calls : List ServedCall) (from to : SessionPlace) → ServesCalls variant meaning from calls to
      → AllByRecursion IsUnbroken (served_lines calls)
  calls_unbroken [] from to s = tt
  calls_unbroken (c ∷ calls) from to s = (
    s.within.unbroken,
    calls_unbroken calls (record { host = s.host; last = Answered c.answer }) to s.rest,
  )

-- the lines of an input, by what was served of it
record ServedOf (lines : List (List ℕ)) (served : List (List ℕ)) (left : Option (List ℕ)) (more : List ℕ) : Type 0 where
  behind : List ℕ
  are : lines ≡ served ++ lines_of (more ++ behind)
  over : IsAtEnd left → behind ≡ []

lines_by : (lines served : List (List ℕ)) (left : Option (List ℕ)) (taken more : List ℕ) → AllByRecursion IsUnbroken lines
    → AllByRecursion IsUnbroken served → Consumes (Some (joined_lines lines)) left taken → taken ≡ joined_lines served ++ more
    → ServedOf lines served left more
lines_by lines served None taken more a b c took = absurd c
lines_by lines served (Some rest) taken more a b c took =
    let is : joined_lines served ++ (more ++ rest) ≡ joined_lines lines =
    sym (append_assoc (joined_lines served) more rest) ∙ ap (λ (x : List ℕ). x ++ rest) (sym took) ∙ sym c in
    record {
      behind = rest;
      are = sym (append-nil lines) ∙ sym (lines_of-joined lines [] a) ∙ ap lines_of (append-nil (joined_lines lines) ∙ sym is)
          ∙ lines_of-joined served (more ++ rest) b;
      over = λ end. end;
    }

line_in_hand : (more request held behind : List ℕ) → BytesBeginWith more request held
    → lines_of (more ++ behind) ≡ request ∷ lines_of (held ++ behind)
line_in_hand more request held behind b =
    ap (λ (x : List ℕ). lines_of (x ++ behind)) b.cut ∙ ap lines_of (append_assoc request (10 ∷ held) behind)
    ∙ lines_of-line request (held ++ behind) b.within.unbroken

one_alone : (line request : List ℕ) (rest : List (List ℕ)) → line ∷ [] ≡ request ∷ rest → (request ≡ line) × (rest ≡ [])
one_alone line request rest e = (cc, cc)

none_behind : (a : List ℕ) (rest : List (List ℕ)) → [] ≡ a ∷ rest → ⊥
none_behind a rest e = absurd (cc)

-- one line is asked once
lines_ask : (line offer : List ℕ) (calls : List ServedCall) (last : List LifeCall) (more behind : List ℕ)
    → line ∷ [] ≡ served_lines calls ++ lines_of (more ++ behind) → AsksInHand more last → AsksOnce line (told_calls offer calls ++ last)
lines_ask line offer [] last more behind e (inl none) = inl none
lines_ask line offer [] last more behind e (inr (c, is, request, one, held, b)) =
    inr (c, is, one ∙ ap One (one_alone line request (lines_of (held ++ behind)) (e ∙ line_in_hand more request held behind b)).0)
lines_ask line offer (c ∷ calls) last more behind e hand =
    let both = one_alone line c.line (served_lines calls ++ lines_of (more ++ behind)) e in
    lines_behind calls both.0 both.1 hand
  where
    lines_behind : (calls : List ServedCall) → c.line ≡ line → served_lines calls ++ lines_of (more ++ behind) ≡ []
        → AsksInHand more last → AsksOnce line (told_calls offer (c ∷ calls) ++ last)
    lines_behind [] is none (inl nothing) =
        let made : LifeCall = call_of offer c.line (Ok c.answer) in
        inr (made, ap (λ (xs : List LifeCall). made ∷ xs) nothing, ap One is)
    lines_behind [] is none (inr (d, made, request, one, held, b)) =
        absurd (none_behind request (lines_of (held ++ behind)) (sym none ∙ line_in_hand more request held behind b))
    lines_behind (next ∷ calls) is none hand =
        absurd (none_behind next.line (served_lines calls ++ lines_of (more ++ behind)) (sym none))

-- one line is told, where the input came to its end
lines_told : (line : List ℕ) (calls : List ServedCall) → line ∷ [] ≡ served_lines calls ++ []
    → (c : ServedCall) × (calls ≡ c ∷ []) × (c.line ≡ line)
lines_told line [] e = absurd (cc)
lines_told line (c ∷ []) e = (c, refl, cc)
lines_told line (c ∷ next ∷ calls) e = absurd (cc)

module _ {variant : Variant} {meaning : Meaning} {old new : SessionStanding} {result : Result Unit SessionFault}
    (s : IsSession variant meaning old new result) (slots : Slots) (line : List ℕ) (unbroken : IsUnbroken line)
    (told : old.kept.slots ≡ Some slots) (none : IsWaiting (slot_front slots 2) (slot_front slots 3) None)
    (given : old.left ≡ Some (joined_lines (line ∷ []))) where
  abbrev Goes : Type 0
  Goes = SessionGoesAfterResume variant meaning s.begun s.middle (host_of new) new.left s.taken s.sent result

  found_is : found_record s.resumes.waiting ≡ None
  found_is =
      let r = s.resumes in
      none_found (slot_front slots 2) (slot_front slots 3) r.waiting
      (saw_two slots r.finds.two old.kept r.finds.middle r.middle r.waiting told r.finds.reads r.finds.goes).waiting none

  abbrev calls_by : Option PendingRecord → Goes → List LifeCall
  calls_by w goes = told_calls (first_bytes s) (served_calls_in w goes) ++ untold_calls s goes

  by_goes : (goes : Goes) → AsksOnce line (calls_by None goes) × (result ≡ Ok tt → (c : ServedCall)
      × (served_calls_in None goes ≡ c ∷ []) × (c.line ≡ line))
  by_goes (inl stops) = (
    inl (first_none variant meaning s.resumes.waiting (found_host s) s.middle s.begun s.resumes.goes found_is),
    λ ok. let clash : Ok tt ≡ Err stops.1.fault = sym ok ∙ stops.1.stops in absurd (cc),
  )
  by_goes (inr g) =
      let l = g.lines in
      let from : SessionPlace = record { host = s.middle; last = g.first } in
      let by = lines_by (line ∷ []) (served_lines l.calls) new.left s.taken l.more (unbroken, tt)
      (calls_unbroken variant meaning l.calls from l.at l.serves)
      (subst (λ (x : Option (List ℕ)). Consumes x new.left s.taken) given s.consumed) l.took in (
        lines_ask line (first_bytes s) l.calls (last_calls result l) l.more by.behind by.are
            (last_asks variant meaning 1 from (host_of new) new.left s.taken g.replies result l),
        λ ok. lines_told line l.calls (ended result l ok by.behind by.are by.over),
      )
    where
      ended : (r : Result Unit SessionFault)
          (l : ServesAllLines variant meaning 1 (record { host = s.middle; last = g.first }) (host_of new) new.left s.taken g.replies r)
          → r ≡ Ok tt → (behind : List ℕ) → line ∷ [] ≡ served_lines l.calls ++ lines_of (l.more ++ behind)
          → (IsAtEnd new.left → behind ≡ []) → line ∷ [] ≡ served_lines l.calls ++ []
      ended (Ok it) l ok behind are over =
          are ∙ ap (λ (x : List ℕ). served_lines l.calls ++ lines_of (x ++ behind)) l.ends.1
          ∙ ap (λ (x : List ℕ). served_lines l.calls ++ lines_of x) (over l.ends.2)
      ended (Err fault) l ok behind are over = absurd (cc)

  pub asks_once : AsksOnce line (session_calls s)
  asks_once = subst (λ (w : Option PendingRecord). AsksOnce line (calls_by w s.goes)) (sym found_is) (by_goes s.goes).0

  pub tells_once : result ≡ Ok tt → (c : ServedCall) × (served_calls_of s ≡ c ∷ []) × (c.line ≡ line)
  tells_once ok =
      subst (λ (w : Option PendingRecord). (c : ServedCall) × (served_calls_in w s.goes ≡ c ∷ []) × (c.line ≡ line)) (sym found_is)
      ((by_goes s.goes).1 ok)

-- so its messages are clear, and what it offers was issued

abbrev five : Batch
five = One add_five

add_five_unbroken : IsUnbroken add_five
add_five_unbroken = grind arith

fits_slot : (size slot : ℕ) → size ≤ 1048690 → slot ≡ 1100000 → size ≤ slot
fits_slot size slot h e = omega (arith, h, e)

module _ (i : Instance) (clear : IsClear (run_messages i one_ask)) (y : History) (first : IsFirstStore i y)
    (short : length (issued_bytes i first_history) ≤ 1048690) where
  abbrev all : List (List ℕ)
  all = run_messages i one_ask

  abbrev issued : List ℕ
  issued = issued_bytes i first_history

  start_heard : Contains all (start_message i.variant i.meaning.id)
  start_heard = (each_self [] all).0

  heard : AreMessagesIn (right_messages i five (right_content i issued)) all
  heard =
      each_left (Contains all) (right_messages i five (right_content i issued)) _ (each_left (Contains all) _ [] (each_self [] all).1)

  calls_heard : (calls : List LifeCall) → AsksOnce add_five calls → IsFirstOffered issued calls
      → AreMessagesIn (call_messages i (calls ++ [])) all
  calls_heard calls (inl none) offered =
      subst (λ (cs : List LifeCall). AreMessagesIn (call_messages i (cs ++ [])) all) (sym none) (start_heard, tt)
  calls_heard calls (inr (c, is, request)) offered =
      let offer : c.offer ≡ issued = subst (λ (cs : List LifeCall). IsFirstOffered issued cs) is offered in
      let of_call : AreMessagesIn (right_messages i (normal_batch c.batch) (right_content i c.offer)) all = rw (request, offer) heard in
      subst (λ (cs : List LifeCall). AreMessagesIn (call_messages i (cs ++ [])) all) (sym is)
      (start_heard, each_append (Contains all) (right_messages i (normal_batch c.batch) (right_content i c.offer)) [] of_call tt)

  untagged_by : (calls : List LifeCall) → IsFirstOffered issued calls → IsFirstUntagged i (issued ∷ []) calls
  untagged_by [] offered = tt
  untagged_by (c ∷ calls) offered = λ content right. (0, omega arith, sym offered)

  first_shown : slot_front (first_slots i) 0 ≡ issued
  first_shown = take_all longest_slot issued (fits_slot _ longest_slot short longest_slot-is)

  none_waits : IsWaiting (slot_front (first_slots i) 2) (slot_front (first_slots i) 3) None
  none_waits =
      subst (λ (w : Option PendingRecord). IsWaiting (slot_front (first_slots i) 2) (slot_front (first_slots i) 3) w) first.nothing_waits
      first.fits.is_waiting

  offers_issued : (calls : List LifeCall) → (calls ≡ []) ⊎ OffersSlots (first_slots i) calls → IsFirstOffered issued calls
  offers_issued calls (inl none) = rw none tt
  offers_issued calls (inr shown) =
      let slots : Slots = first_slots i in
      let none : shown.waiting ≡ None =
      one_waiting (slot_front slots 2) (slot_front slots 3) shown.waiting None shown.is_waiting none_waits in
      subst (λ (bytes : List ℕ). IsFirstOffered bytes calls) (ap (first_offer slots) none ∙ first_shown) shown.offered

  -- a session over the first slots
  module _ (offers : SessionsOfferSlots) {old new : SessionStanding} {result : Result Unit SessionFault}
      (s : IsSession i.variant i.meaning old new result) (told : old.kept.slots ≡ Some (first_slots i))
      (given : old.left ≡ Some (joined_lines (add_five ∷ []))) where
    offered_first : IsFirstOffered issued (session_calls s)
    offered_first = offers_issued (session_calls s) (offers i.variant i.meaning old new result s (first_slots i) told)

    session_heard : AreMessagesIn (call_messages i (session_calls s ++ [])) all
    session_heard =
        calls_heard (session_calls s) (asks_once s (first_slots i) add_five add_five_unbroken told none_waits given) offered_first

    session_untagged : IsFirstUntagged i (issued ∷ []) (session_calls s)
    session_untagged = untagged_by (session_calls s) offered_first

    session_tells : result ≡ Ok tt → (answer : Answer) × (served_calls_of s ≡ record { line = add_five; answer = answer } ∷ [])
    session_tells ok =
        let c = tells_once s (first_slots i) add_five add_five_unbroken told none_waits given ok in (
          c.0.answer,
          c.1 ∙ ap (λ (line : List ℕ). record { line = line; answer = c.0.answer } ∷ []) c.2,
        )

abbrev MetBy : (List ℕ → Instance) → Type 0
MetBy instance = (key : List ℕ) → IsClearRun (instance key) one_ask × IsGenuineRun (instance key) one_ask

pub one_request_meets : SessionsOfferSlots → MetBy (λ key. basic_instance counter key) → OneRequestMeetsPremises
one_request_meets offers met key start after p s told given =
    let i : Instance = basic_instance counter key in
    let clear = (met key).0.clear in
    let y : History = first_history_on [] in
    let first = is_first Basic counter key key [] counter_is_lawful in
    let short = sealed_snapshot_of-most _ _ (basic_content counter counter_is_lawful key first_history (omega arith)) in
    record {
      clear = clear_within (run_messages i one_ask) (life_messages i start (one_session p after) (s, tt)) clear
          (session_heard i clear y first short offers s told given);
      untagged = (session_untagged i clear y first short offers s told given, tt);
      told = session_tells i clear y first short offers s told given;
    }

-- in Opt the register's item is heard of too

module _ (key : List ℕ) where
  abbrev O : Instance
  O = opt_instance counter key world_barrier

  abbrev said : Content
  said = content_of_issue O first_history

  formed : IsContent said
  formed = opt_content counter counter_is_lawful key world_barrier first_history (omega arith)

  said_right : right_content O (issued_bytes O first_history) ≡ Some said
  said_right =
      let spelled : counter.is_spelled said.state ≡ true = state_after-is_spelled counter counter_is_lawful [] in
      let tagged : bytes_eq (tag_of key said) (tag_of key said) ≡ true = (bytes_eq-Decides (tag_of key said) (tag_of key said)).1 refl in
      let parts = sealed_parts key said Opt counter.id formed refl refl in
      ap (λ (r : Result Snapshot PartsFault).
      option_and_then (λ (snapshot : Snapshot). if counter.is_spelled snapshot.content.state
      && bytes_eq snapshot.tag (tag_of key snapshot.content) then Some snapshot.content else None) (result_ok r)) parts
      ∙ (λ j. if spelled j && tagged j then Some said else None)

  guard_heard : (all : List (List ℕ)) → AreMessagesIn (right_messages O five (right_content O (issued_bytes O first_history))) all
      → Contains all (extended_message zero_bytes (guard world_barrier five))
  guard_heard all w =
      (subst (λ (c : Option Content). AreMessagesIn (right_messages O five c) all) said_right w).1.0

none_if : (idle : Bool) (xs : List (List ℕ)) → xs ≡ [] → (if idle then [] else xs) ≡ []
none_if true xs e = refl
none_if false xs e = e

some_if : (idle : Bool) (xs list : List (List ℕ)) → AreMessagesIn xs list → AreMessagesIn (if idle then [] else xs) list
some_if true xs list w = tt
some_if false xs list w = w

module _ (barrier : List ℕ) (all : List (List ℕ)) (w : Contains all (extended_message zero_bytes (guard barrier five)))
    (after : Standing) where
  items_heard : ShowsGuardAlone barrier after → AreMessagesIn (shown_messages after.items) all
  items_heard (inl none) = rw none tt
  items_heard (inr one) = rw one (w, tt)

  no_foreign : ShowsGuardAlone barrier after → option_map_or foreign_items after.items [] ≡ []
  no_foreign (inl none) = rw none refl
  no_foreign (inr one) = rw one refl

no_guards : (barrier : List ℕ) (values : List (List ℕ)) (asked : List Batch) → values ≡ [] → AreNoGuards barrier values asked
no_guards barrier values asked e =
    subst (λ (vs : List (List ℕ)). AreNoGuards barrier vs asked) (sym e) (λ d b among batches. absurd (omega (arith, among.1)))

pub opt_request_meets : SessionsOfferSlots → MetBy (λ key. opt_instance counter key world_barrier) → OptRequestMeetsPremises
opt_request_meets offers met key start after p s told given shows =
    let i : Instance = opt_instance counter key world_barrier in
    let all : List (List ℕ) = run_messages i one_ask in
    let clear = (met key).0.clear in
    let y : History = first_history_on [] in
    let first = is_first Opt counter key world_barrier [] counter_is_lawful in
    let short = sealed_snapshot_of-most _ _ (opt_content counter counter_is_lawful key world_barrier first_history (omega arith)) in
    let calls : List LifeCall = session_calls s in
    let shown : List (List ℕ) = shown_messages after.items in
    let guarded = guard_heard key all (heard i clear y first short) in
    let of_calls = session_heard i clear y first short offers s told given in
    let of_items = some_if (is_idle start calls) (shown ++ []) all
    (each_append (Contains all) shown [] (items_heard world_barrier all guarded after shows) tt) in
    let values : List (List ℕ) = if is_idle start calls then [] else option_map_or foreign_items after.items [] in
    let none : values ++ [] ≡ [] =
    append-nil values ∙ none_if (is_idle start calls) (option_map_or foreign_items after.items [])
    (no_foreign world_barrier all guarded after shows) in
    record {
      clear = clear_within all (opt_messages i start (one_session p after) (s, tt)) clear
          (each_append (Contains all) (call_messages i (calls ++ [])) _ of_calls
          (each_append (Contains all) (if is_idle start calls then [] else shown ++ []) [] of_items tt));
      apart = no_guards world_barrier (values ++ []) (life_batches i start (one_session p after) (s, tt)) none;
      untagged = (session_untagged i clear y first short offers s told given, tt);
      told = session_tells i clear y first short offers s told given;
    }
