-- The steps of a session: its start, a turn from what the reader read and what came of the line,
-- and the rest of it. With it: how a session ends by digests, over any store.
use Rattle.std.specs.Prelude.{◌&&◌, if◌then◌else◌, nat_le}
use Rattle.std.specs.Result.{result_map_both}
use Rattle.std.specs.Str.{bytes_eq}
use Rattle.mm_bytes.specs.Limits.{last_position}
use Rattle.mm_base.specs.Streams.{ReadsNextLine}
use Rattle.mm_base.specs.declared.lines.LineFault.{LineFault}
use Rattle.mm_base.specs.declared.lines.Read.{Read}
use Rattle.mm_base.specs.declared.lines.Read.TheVariants.{Line}
use Rattle.mm_digest.specs.Messages.{zero_bytes}
use Rattle.mm_seal.specs.Snapshot.{Snapshot, tag_of}
use Rattle.mm_seal.specs.declared.snapshot.PartsFault.{PartsFault}
use Rattle.mm_seal.specs.declared.snapshot.PartsFault.TheVariants.{Form, Kind}
use Rattle.mm_seal.specs.declared.snapshot.Place.{Place}
use Rattle.mm_seal.specs.declared.snapshot.Place.TheVariants.{Basic as InBasic, Opt as InOpt}
use Rattle.mm_module.specs.Batch.{size_of}
use Rattle.mm_model.specs.Verdicts.{verdict_by, verdict_by_digests}
use Rattle.mm_model.specs.declared.refusal.Refusal.TheVariants as refusal
use Rattle.mm_model.specs.declared.verdict.Verdict.{Verdict}
use Rattle.mm_model.specs.declared.verdict.Verdict.TheVariants.{Lost}
use Rattle.mm_call.specs.CallFinding.{CallFinding, finding_by_verdict, check_of_offer, check_by_tests}
use Rattle.mm_call.specs.Standing.{instance_by}
use Rattle.mm_store.specs.declared.fault.StoreFault.TheVariants as fault
use Rattle.mm_recovery.specs.declared.fault.HostFault.TheVariants as host
use Rattle.mm_recovery.proofs.Above.{judged_refused}
use Rattle.mm_host.specs.AnySlots.{CallsInTurn, EndsAt, IsOfOffer}
use Rattle.mm_host.proofs.Below.{◌≡◌, ℕ, List, [], ◌++◌, Option, Result, Ok, Err, refl, ap, inl, inr, Appends-nil, Appends-trans}
use Rattle.mm_host.proofs.Below.{Consumes-nil, Variant, Meaning, HostFault, SessionFault, Host, Resumed, HostResumes, SendsReply}
use Rattle.mm_host.proofs.Below.{TellsReply, session_result_of, reply_text, IsSession, ServesInput, ◌∙◌, ◌+◌, ◌≤◌, ◌∷◌, sym, append_assoc}
use Rattle.mm_host.proofs.Below.{arith, longest_request, Lines, WriteFault, AsksNextRequest, SessionPlace, BytesBeginWith}
use Rattle.mm_host.proofs.Below.{SessionStopsInLine, most_lines, ServesNext, TurnGoes, length, Some, Consumes-trans, joined_lines, Answered}
use Rattle.mm_host.proofs.Below.{served_lines, replies_to, ServesLine, AsksAndTells, TurnSends, ServedCall, turn_answer_of, HostStanding}
use Rattle.mm_host.proofs.Below.{SessionStanding, session_standing, host_of, place_of, Bool, true, false, ◌⊎◌, None, Standing, One}
use Rattle.mm_host.proofs.Below.{Instance, Digests, Answer, Refusal, IsCall, offer_after, StandsAt, batch_result_of, finding_at}
use Rattle.mm_host.proofs.Below.{digest_level, fault_of, parts_of, Batch}
use Rattle.mm_host.proofs.CallsMade.{Chain, Ends, rests, stops}
use Rattle.mm_host.proofs.Lines.{line_tries, tried_answer, asks, fails, never_refused, told_refused}
use Rattle.mm_host.proofs.RunningOnce.{by_fault, call_refused}

-- what was begun, and what was told of it
module _ {variant : Variant} {meaning : Meaning} {old middle : HostStanding} {received received' : Option (List ℕ)}
    {begun : Result Resumed HostFault} {told : Result Resumed SessionFault} (r : HostResumes variant meaning old middle begun)
    (t : TellsReply begun received received' told) where
  pub stops_at_once : (left : Option (List ℕ)) (fault : SessionFault) → told ≡ Err fault
      → IsSession variant meaning (session_standing old.standing old.kept left received)
      (session_standing middle.standing middle.kept left received') (Err fault)
  stops_at_once left fault e = record {
    taken = [];
    sent = t.sent;
    consumed = Consumes-nil left;
    appended = t.appended;
    begun = begun;
    middle = middle;
    resumes = r;
    goes = inl (refl, record { fault = fault; says = rw e at t.says; stops = refl; nothing = refl });
  }

  told_on : (came : Result Resumed HostFault) (first : Resumed) → SendsReply came t.sent (Ok first)
      → (came ≡ Ok first) × (t.sent ≡ reply_text came)
  told_on (Ok resumed) first (inl s) =
      let told : Ok first ≡ session_result_of (Ok resumed) = s.1 in
      let same : resumed ≡ first = cc in
      (ap Ok same, s.0)
  told_on (Err fault) first (inl s) = let clash : Ok first ≡ session_result_of (Err fault) = s.1 in absurd (cc)
  told_on came first (inr s) = let e = s.0 in absurd (cc)

  pub goes_on : {new : SessionStanding} {left : Option (List ℕ)} {result : Result Unit SessionFault} (first : Resumed) → told ≡ Ok first
      → ServesInput variant meaning 1 first (session_standing middle.standing middle.kept left received') new [] result
      → IsSession variant meaning (session_standing old.standing old.kept left received) new result
  goes_on {new} first e s = let o = told_on begun first (rw e at t.says) in
      record {
        taken = s.taken;
        sent = t.sent ++ s.sent;
        consumed = s.consumed;
        appended = Appends-trans received received' new.received t.sent s.sent t.appended s.appended;
        begun = begun;
        middle = middle;
        resumes = r;
        goes = inr (record {
          first = first;
          begins = o.0;
          replies = s.sent;
          wrote = ap (λ (b : List ℕ). b ++ s.sent) o.1;
          lines = s.lines;
        });
      }

-- want of memory at once is that of a first read
pub lacks_memory : (variant : Variant) (meaning : Meaning) (at : SessionStanding)
    → IsSession variant meaning at at (Err (Host host.Memory))
lacks_memory variant meaning at =
    let begun : HostResumes variant meaning (host_of at) (host_of at) (Err host.Memory) = record {
      middle = at.kept;
      waiting = Err fault.Memory;
      finds = record {
        middle = at.kept;
        two = Err fault.Memory;
        reads = record { slots = refl; honest = refl; counted = refl; gives = tt; short = tt; unsynced = refl };
        goes = (refl, refl);
      };
      goes = (refl, refl);
    } in
    stops_at_once begun (record { sent = []; appended = Appends-nil at.received; says = inl (refl, refl) }) at.left (Host host.Memory) refl

-- A turn of a session, from what the reader read and what came of the line.

-- the session goes on with what was told
abbrev pub goes_on_with : Result Resumed SessionFault → Result (Option Resumed) SessionFault
goes_on_with (Ok next) = Ok (Some next)
goes_on_with (Err fault) = Err fault

-- what a line comes to
module _ {variant : Variant} {meaning : Meaning} {number : ℕ} {at : SessionPlace} {new : HostStanding}
    {bytes line held : List ℕ} (b : BytesBeginWith bytes line held) (few : number ≤ most_lines) where
  -- it stops the session
  in_line : (sent : List ℕ) (came : Result Resumed HostFault) (fault : SessionFault)
      → AsksNextRequest variant meaning at.host new at.last line came → SendsReply came sent (Err fault)
      → SessionStopsInLine variant meaning number at new bytes sent fault
  in_line sent came fault a s = record { line = line; held = held; begins = b; few = few; came = came; asks = a; says = s }

  -- by what is told of it
  went : (left : Option (List ℕ)) (sent : List ℕ) (came : Result Resumed HostFault) (told : Result Resumed SessionFault)
      → AsksNextRequest variant meaning at.host new at.last line came → SendsReply came sent told
      → TurnGoes variant meaning number at new left bytes held sent (goes_on_with told)
  unfolding in_line
  went left sent (Ok resumed) told a (inl s) =
      let answer = tried_answer resumed (line_tries a) in
      rw s.1 (record {
        line = line;
        begins = b;
        few = few;
        answer = answer.0;
        answered = answer.1;
        asks = rw answer.1 at a;
        told = rw answer.1 at s.0;
      })
  went left sent (Err fault) told a (inl s) = rw s.1 (in_line sent (Err fault) (Host fault) a (inl (s.0, refl)))
  went left sent came told a (inr s) = rw s.0 (in_line sent came (Lines WriteFault) a (inr (refl, s.1, s.2)))

  pub asked_and_told : (left : Option (List ℕ)) {received received' : Option (List ℕ)} (told : Result Resumed SessionFault)
      → AsksAndTells variant meaning at new received received' line told
      → TurnSends variant meaning number at new left bytes held received received' (goes_on_with told)
  asked_and_told left told t =
      record { sent = t.tells.sent; appended = t.tells.appended; went = went left t.tells.sent t.came told t.asks t.tells.says }

-- A line was read, and served or not.
pub turned_by_line : {variant : Variant} {meaning : Meaning} {number : ℕ} {last : Resumed} {old new : SessionStanding}
    {held held' : List ℕ} {result : Result (Option Resumed) SessionFault} (read : Result Read LineFault) (what : Read) (line : _)
    → number ≤ most_lines + 1 → ReadsNextLine longest_request old.left new.left held read held' → read ≡ Ok what → what ≡ Line line
    → ((left : Option (List ℕ)) (bytes held : List ℕ) → number ≤ most_lines + 1 → BytesBeginWith bytes line.now held
    → TurnSends variant meaning number (place_of old last) (host_of new) left bytes held old.received new.received result)
    → ServesNext variant meaning number last old new held held' result
turned_by_line {new = new} {held = held} {held' = held'} read what line few n is what_is t =
    let r = rw (is, what_is) at n in
    record {
      taken = r.takes.taken;
      consumed = r.takes.consumed;
      turns = t new.left (held ++ r.takes.taken) held' few
          (record { cut = r.takes.goes ∙ append_assoc line.now (10 ∷ []) held'; within = r.reads });
    }

-- The rest of a session from where it stands between two lines, and how a turn goes on to it or ends it.

module _ {variant : Variant} {meaning : Meaning} {last : Resumed} {number : ℕ} {old new : SessionStanding} {held held' : List ℕ}
    {result : Result (Option Resumed) SessionFault} (t : ServesNext variant meaning number last old new held held' result) where
  abbrev at : SessionPlace
  at = place_of old last

  abbrev said : List ℕ
  said = t.turns.sent

  went_as : (r : Result (Option Resumed) SessionFault) → result ≡ r
      → TurnGoes variant meaning number at (host_of new) new.left (held ++ t.taken) held' said r
  went_as r e = rw e at t.turns.went

  ends_of : (ended : Result Unit SessionFault)
      → TurnGoes variant meaning number at (host_of new) new.left (held ++ t.taken) held' said (turn_answer_of ended)
      → TurnGoes variant meaning number at (host_of new) new.left (held ++ t.taken) [] said (turn_answer_of ended)
  ends_of (Ok it) s = s
  ends_of (Err fault) s = s

  pub rest_ends : (ended : Result Unit SessionFault) → number ≤ most_lines + 1 → result ≡ turn_answer_of ended
      → ServesInput variant meaning number last old new held ended
  rest_ends ended few e = let none : 0 + number ≡ number = omega arith in record {
    taken = t.taken;
    sent = said;
    consumed = t.consumed;
    appended = t.turns.appended;
    lines = record {
      calls = [];
      few = omega arith;
      at = at;
      serves = refl;
      more = held ++ t.taken;
      last = said;
      took = refl;
      wrote = refl;
      ends = rw none (ends_of ended (went_as (turn_answer_of ended) e));
    };
  }

  -- one more line was served
  module _ (next : Resumed) (e : result ≡ Ok (Some next)) where
    served : ServesLine variant meaning number at (host_of new) (held ++ t.taken) held' said next
    served = went_as (Ok (Some next)) e

    pub one_more_few : number + 1 ≤ most_lines + 1
    one_more_few = omega (arith, served.few)

    pub rest_on : {final : SessionStanding} {ended : Result Unit SessionFault}
        → ServesInput variant meaning (number + 1) next new final held' ended → ServesInput variant meaning number last old final held ended
    rest_on {final} r =
        let w = served in
        let l = r.lines in
        let reply : List ℕ = reply_text (Ok (Answered w.answer)) in
        let lines : List ℕ = joined_lines (served_lines l.calls) in
        let calls : List ServedCall = record { line = w.line; answer = w.answer } ∷ l.calls in
        let counted : length l.calls + (number + 1) ≡ length calls + number = omega arith in
        record {
          taken = t.taken ++ r.taken;
          sent = said ++ r.sent;
          consumed = Consumes-trans old.left new.left final.left t.taken r.taken t.consumed r.consumed;
          appended = Appends-trans old.received new.received final.received said r.sent t.turns.appended r.appended;
          lines = record {
            calls = calls;
            few = rw counted at l.few;
            at = l.at;
            serves = record {
              within = w.begins.within;
              host = host_of new;
              asks = w.asks;
              rest = rw w.answered at l.serves;
            };
            more = l.more;
            last = l.last;
            took = sym (append_assoc held t.taken r.taken) ∙ ap (λ (b : List ℕ). b ++ r.taken) w.begins.cut
                ∙ append_assoc w.line (10 ∷ held') r.taken ∙ ap (λ (b : List ℕ). w.line ++ 10 ∷ b) l.took
                ∙ sym (append_assoc w.line (10 ∷ lines) l.more);
            wrote = ap (λ (b : List ℕ). b ++ r.sent) w.told ∙ ap (λ (b : List ℕ). reply ++ b) l.wrote
                ∙ sym (append_assoc reply (replies_to l.calls) l.last);
            ends = rw counted at l.ends;
          };
        }

-- How a session ends by digests, over any store; and what is refused there.

module _ (variant : Variant) (meaning : Meaning) (key barrier : List ℕ) where
  abbrev i : Instance
  i = instance_by variant meaning key barrier

  -- where the platform stands after a call, and that a refusal is that of the offer there
  pub record CallLeaves (new : Standing) (offer request : List ℕ) (call : Result Answer Refusal) : Type 0 where
    pub digests : Digests
    pub stands : StandsAt i new digests
    pub judged : (why : Refusal) → call ≡ Err why → fault_of why ≡ None
        → (why ≡ refusal.Memory) ⊎ (finding_at i (digest_level i) digests (One request) offer ≡ Err why)

  pub call_leaves : (old new : Standing) (offer request : List ℕ) (call : Result Answer Refusal)
      → IsCall variant meaning old new offer request call → (d : Digests) → StandsAt i old d → CallLeaves new offer request call
  call_leaves old new offer request call c d s =
      let g = c.goes.goes key barrier d s in
      record {
        digests = _;
        stands = g.stands;
        judged = λ why e none.
            judged_refused (digest_level i) i d c.goes.course (One request) offer why (sym g.gives ∙ ap batch_result_of e) none;
      }

  -- the digests after calls that were answered
  pub record StandsSomewhere (standing : Standing) : Type 0 where
    pub digests : Digests
    pub stands : StandsAt i standing digests

  pub calls_leave : (offer : List ℕ) (before at : Standing) (told : List ServedCall) → CallsInTurn variant meaning offer before told at
      → (d : Digests) → StandsAt i before d → StandsSomewhere at
  calls_leave offer before at [] same d s = rw same (record { digests = d; stands = s })
  calls_leave offer before at (c ∷ told) h d s =
      let l = call_leaves before h.0 offer c.line (Ok c.answer) h.1 d s in
      calls_leave c.answer.snapshot h.0 at told h.2 l.digests l.stands

  ends_leave : (at after : Standing) (offer : List ℕ) (hand : List ℕ → Type 0) (sent : List ℕ) (result : Result Unit SessionFault)
      (d : Digests)
      → StandsAt i at d → Ends variant meaning at after offer hand sent result → EndsAt i after offer hand result
  ends_leave at after offer hand sent result d s (rests same none unwritten) =
      rw same (record { digests = d; stands = s; refuses = λ why e. absurd (none why e) })
  ends_leave at after offer hand sent result d s (stops request h came (fails same why e) fault says is) = rw same (record {
    digests = d;
    stands = s;
    refuses = λ w r.
        let fault_is : fault ≡ Host (host.Refused w) = cc in absurd (never_refused why came sent fault w e says fault_is);
  })
  ends_leave at after offer hand sent result d s (stops request h came (asks call c t) fault says is) =
      let l = call_leaves at after offer request call c d s in
      record {
        digests = l.digests;
        stands = l.stands;
        refuses = λ why r.
            let fault_is : fault ≡ Host (host.Refused why) = cc in
            let told = call_refused call came why t (told_refused came sent fault why says fault_is) in
            record {
              request = request;
              in_hand = h;
              judged = by_fault why (fault_of why) refl (λ none. elim (l.judged why told.0 none) [
                | inl memory ↦ absurd (told.1 memory)
                | inr found ↦ found
              ]);
            };
      }

  pub chain_ends : {sent : List ℕ} (offer : List ℕ) (before after : Standing) (told : List ServedCall) (hand : List ℕ → Type 0)
      (result : Result Unit SessionFault) → Chain variant meaning offer before after told hand sent result → (d : Digests)
      → StandsAt i before d → EndsAt i after (offer_after offer told) hand result
  chain_ends {sent} offer before after told hand result c d s =
      let there = calls_leave offer before c.at told c.calls d s in
      ends_leave c.at after (offer_after offer told) hand sent result there.digests there.stands c.ends

-- What an offer may be refused for, and that this is lost power exactly where the digests show that.

weighed_as : (s t fits : Bool) (v : Verdict) (why : Refusal) → check_by_tests s t v fits ≡ Err why → IsOfOffer why
weighed_as s t fits v why e = grind (arith, e)

weighed_lost : (s t fits : Bool) (v : Verdict) → check_by_tests s t v fits ≡ Err refusal.Lost → v ≡ Lost
weighed_lost s t fits v e = grind (arith, e)

module _ (meaning : Meaning) (key : List ℕ) (snapshot : Snapshot) (b : Batch) (v : Verdict) where
  abbrev spelled : Bool
  spelled = meaning.is_spelled snapshot.content.state

  abbrev tagged : Bool
  tagged = bytes_eq snapshot.tag (tag_of key snapshot.content)

  abbrev fitting : Bool
  fitting = nat_le (snapshot.content.position + size_of b) last_position

  examined_as : (why : Refusal) → check_of_offer meaning key snapshot b v ≡ Err why → IsOfOffer why
  examined_as why e = weighed_as spelled tagged fitting v why e

  examined_lost : check_of_offer meaning key snapshot b v ≡ Err refusal.Lost → v ≡ Lost
  examined_lost e = weighed_lost spelled tagged fitting v e

mapped_err : (f : Bool → CallFinding) (r : Result Bool Refusal) (why : Refusal) → result_map_both f (λ w. w) r ≡ Err why → r ≡ Err why
mapped_err f r why e = grind (arith, e)

verdict_lost : (lost is_fresh is_repeat : Bool) → verdict_by lost is_fresh is_repeat ≡ Lost → lost ≡ true
verdict_lost lost is_fresh is_repeat e = grind (arith, e)

module _ (i : Instance) (d : Digests) (b : Batch) where
  abbrev pub shows_loss : Bool
  shows_loss = d.flag && bytes_eq d.register zero_bytes

  place_lost : (place : Place) → verdict_by_digests i.barrier d.flag d.digest d.register place b ≡ Lost → shows_loss ≡ true
  place_lost (InBasic s) e = let clash : false ≡ true = verdict_lost false _ _ e in absurd (cc)
  place_lost (InOpt a x) e = verdict_lost shows_loss _ _ e

  parts_as : (parts : Result Snapshot PartsFault) (why : Refusal) → finding_by_verdict i (digest_level i) d b parts ≡ Err why
      → IsOfOffer why
  parts_as (Ok snapshot) why e =
      examined_as i.meaning i.key snapshot b ((digest_level i).verdict d snapshot.content b) why (mapped_err _ _ why e)
  parts_as (Err Form) why e = let is : why ≡ refusal.Form = cc in rw is tt
  parts_as (Err Kind) why e = let is : why ≡ refusal.Kind = cc in rw is tt

  parts_lost : (parts : Result Snapshot PartsFault) → finding_by_verdict i (digest_level i) d b parts ≡ Err refusal.Lost → shows_loss ≡ true
  parts_lost (Ok snapshot) e =
      place_lost snapshot.content.place
      (examined_lost i.meaning i.key snapshot b ((digest_level i).verdict d snapshot.content b) (mapped_err _ _ refusal.Lost e))
  parts_lost (Err Form) e = absurd (cc)
  parts_lost (Err Kind) e = absurd (cc)

  as_by : (offer : List ℕ) (lost : Bool) (why : Refusal)
      → (if lost then Err refusal.Lost else finding_by_verdict i (digest_level i) d b (parts_of i.variant i.meaning.id offer)) ≡ Err why
      → IsOfOffer why
  as_by offer true why e = let is : why ≡ refusal.Lost = cc in rw is tt
  as_by offer false why e = parts_as (parts_of i.variant i.meaning.id offer) why e

  pub refused_as_offer : (offer : List ℕ) (why : Refusal) → finding_at i (digest_level i) d b offer ≡ Err why → IsOfOffer why
  refused_as_offer offer why e = as_by offer shows_loss why e

  lost_by : (offer : List ℕ) (lost : Bool) → shows_loss ≡ lost
      → (if lost then Err refusal.Lost else finding_by_verdict i (digest_level i) d b (parts_of i.variant i.meaning.id offer))
      ≡ Err refusal.Lost → shows_loss ≡ true
  lost_by offer true is e = is
  lost_by offer false is e = parts_lost (parts_of i.variant i.meaning.id offer) e

  pub lost_shown : (offer : List ℕ) → finding_at i (digest_level i) d b offer ≡ Err refusal.Lost → shows_loss ≡ true
  lost_shown offer e = lost_by offer shows_loss refl e

  pub shown_lost : (offer : List ℕ) → shows_loss ≡ true → finding_at i (digest_level i) d b offer ≡ Err refusal.Lost
  shown_lost offer e = rw e refl
