-- A session of a life: its calls one after another, and how it ends, from a history that the platform stands for.
use Rattle.std.specs.List.{AllByRecursion, Contains}
use Rattle.std.proofs.Common.{◌≡◌, ◌⊎◌, ℕ, List, [], ◌∷◌, ◌++◌, Result, Ok, Err, ◌∙◌, refl, sym, subst, inl, inr}
use Rattle.std.proofs.lemmas.Grind.{flat_map-append}
use Rattle.mm_seal.specs.Snapshot.{Content}
use Rattle.mm_digest.specs.declared.variant.Variant.{Variant}
use Rattle.mm_platform.specs.Standing.{Standing}
use Rattle.mm_module.specs.Batch.{Batch, One, normal_batch}
use Rattle.mm_module.specs.Meaning.{Meaning}
use Rattle.mm_model.specs.History.{History, requests_of}
use Rattle.mm_model.specs.Chains.{Instance}
use Rattle.mm_model.specs.ListLaws.{each_append, each_left, each_right}
use Rattle.mm_model.specs.Messages.{AreMessagesIn}
use Rattle.mm_model.specs.Moves.{Digests}
use Rattle.mm_model.specs.Standing.{NamesPosition, IsGenuine, StandsFor}
use Rattle.mm_model.specs.declared.answer.Answer.{Answer}
use Rattle.mm_model.specs.declared.answer.BatchAnswer.{BatchAnswer}
use Rattle.mm_model.specs.declared.refusal.Refusal.{Refusal}
use Rattle.mm_call.specs.CallPremises.{IsWithin, right_messages, IsIdle}
use Rattle.mm_call.specs.CallKind.{IsCallOnCourse}
use Rattle.mm_call.specs.CallFinding.{right_content, batch_answer_of, batch_result_of}
use Rattle.mm_call.specs.Standing.{StandsAt}
use Rattle.mm_recovery.proofs.Above.{Met, grows}
use Rattle.mm_host.specs.AnySlots.{offer_after}
use Rattle.mm_host.specs.Continuation.{CallsRunOver}
use Rattle.mm_host.specs.Sessions.{ServedCall}
use Rattle.mm_host.specs.declared.fault.SessionFault.{SessionFault}
use Rattle.mm_host.proofs.Above.{CallsInTurn, Laws, Makes, Reaches, Shows, calls_reach, line_committed, only_by, pending_for, reach_same, call_steps, same_requests, told_in_part}
use Rattle.mm_life.specs.Deeds.{LifeCall, call_of, IsFirstOffered, told_calls}
use Rattle.mm_life.specs.Stages.{IsLastJudged, SessionSteps}
use Rattle.mm_life.specs.Premises.{issued_snapshot_in, snapshots_of}
use Rattle.mm_life.proofs.Chains.{Chain, Ends, rests, stops, AreListed, all_genuine, answer_steps, issue_genuine, issues_genuine}
use Rattle.mm_life.proofs.Chains.{makes_call, met_judged}

-- the first of these calls offers what is genuine
abbrev pub IsFirstGenuine : Instance → History → List LifeCall → Type 0
IsFirstGenuine i y [] = Unit {0}
IsFirstGenuine i y (c ∷ calls) = IsGenuine i y c.offer

none_first : (i : Instance) (y : History) (calls : List LifeCall) → calls ≡ [] → IsFirstGenuine i y calls
none_first i y [] e = tt
none_first i y (c ∷ calls) e = absurd (cc)

first_by : (i : Instance) (y : History) (bytes : List ℕ) (told : List ServedCall) (untold : List LifeCall)
    → IsFirstOffered (offer_after bytes told) untold → IsGenuine i y bytes → IsFirstGenuine i y (told_calls bytes told ++ untold)
first_by i y bytes (c ∷ told) untold is g = g
first_by i y bytes [] [] is g = tt
first_by i y bytes [] (c ∷ untold) is g = rw is g

pub listed_rest : (all : List (List ℕ)) (asked : List Batch) (i : Instance) (c : LifeCall) (calls : List LifeCall)
    → AreListed all asked i (c ∷ calls)
    → AreListed all asked i calls
listed_rest all asked i c calls a = record {
  messages = each_right (Contains all) (right_messages i (normal_batch c.batch) (right_content i c.offer)) _ a.messages;
  batches = a.batches.1;
}

pub listed_first : (all : List (List ℕ)) (asked : List Batch) (i : Instance) (c : LifeCall) (calls : List LifeCall)
    → AreListed all asked i (c ∷ calls)
    → AreMessagesIn (right_messages i (normal_batch c.batch) (right_content i c.offer)) all
listed_first all asked i c calls a =
    each_left (Contains all) (right_messages i (normal_batch c.batch) (right_content i c.offer)) _ a.messages

-- the call behind those that were told offers the last answer's snapshot
pub offered_by : {variant : Variant} {meaning : Meaning} {at final : Standing} {offer : List ℕ} {hand : List ℕ → Type 0}
    {sent : List ℕ} {untold : List LifeCall} {result : Result Unit SessionFault}
    → Ends variant meaning at final offer hand sent untold result
    → IsFirstOffered offer untold
offered_by (rests same none unwritten) = rw none tt
offered_by (stops request hand gives c is came t fault says ends) = rw is refl

-- an answered call isn't judged, so the last one is that which wasn't told
judged_behind : (i : Instance) (y : History) (c : LifeCall) (calls : List LifeCall) → IsLastJudged i y calls
    → ((why : Refusal) → c.gives ≡ Err why → ⊥) → IsLastJudged i y (c ∷ calls)
judged_behind i y c [] h none = λ why e. absurd (none why e)
judged_behind i y c (next ∷ calls) h none = h

judged_told : (i : Instance) (y : History) (offer : List ℕ) (told : List ServedCall) (untold : List LifeCall) → IsLastJudged i y untold
    → IsLastJudged i y (told_calls offer told ++ untold)
judged_told i y offer [] untold h = h
judged_told i y offer (c ∷ told) untold h =
    judged_behind i y (call_of offer c.line (Ok c.answer)) (told_calls c.answer.snapshot told ++ untold)
    (judged_told i y c.answer.snapshot told untold h) (λ why e. cc)

-- Where a platform stands at digests, it stands at some afterwards.
abbrev pub Leads : Instance → Standing → Standing → Type 0
Leads i old new = (d : Digests) → StandsAt i old d → (e : Digests) × StandsAt i new e

-- so it is of each call
abbrev pub CallsLead : Instance → Type 0
CallsLead i =
    (old new : Standing) (offer request : List ℕ) (gives : Result BatchAnswer Refusal)
    → IsCallOnCourse i.variant i.meaning old new offer (One request) gives → Leads i old new

module _ (i : Instance) (leads : CallsLead i) where
  calls_lead : (told : List ServedCall) (offer : List ℕ) (old at : Standing) → CallsInTurn i.variant i.meaning offer old told at
      → Leads i old at
  calls_lead [] offer old at h = λ d s. (d, rw h s)
  calls_lead (c ∷ told) offer old at h = λ d s.
      let first = leads old h.0 offer c.line (Ok (batch_answer_of c.answer)) h.1.goes d s in
      calls_lead told c.answer.snapshot h.0 at h.2 first.0 first.1

  ends_lead : {at final : Standing} {offer : List ℕ} {hand : List ℕ → Type 0} {sent : List ℕ} {untold : List LifeCall}
      {result : Result Unit SessionFault} → Ends i.variant i.meaning at final offer hand sent untold result → Leads i at final
  ends_lead (rests same none unwritten) = λ d s. (d, rw same s)
  ends_lead {at} {final} {offer} (stops request hand gives c is came t fault says ends) =
      leads at final offer request (batch_result_of gives) c.goes

  pub chain_leads : {before final : Standing} {offer : List ℕ} {told : List ServedCall} {hand : List ℕ → Type 0} {sent : List ℕ}
      {untold : List LifeCall} {result : Result Unit SessionFault}
      → Chain i.variant i.meaning offer before final told hand sent untold result → Leads i before final
  chain_leads {before} {final} {offer} {told} k = λ d s.
      let first = calls_lead told offer before k.at k.calls d s in
      ends_lead k.ends first.0 first.1

module _ {all others : List (List ℕ)} {asked : List Batch} {i : Instance} {final : Standing} (laws : Laws all others asked i final) where
  -- what is known of the call that wasn't told: what the register shows, or that it minds none
  abbrev MayEnd : History → Standing → List ℕ → List LifeCall → Type 0
  MayEnd y at offer untold =
      (request : List ℕ) (gives : Result Answer Refusal) → untold ≡ call_of offer request gives ∷ []
      → Makes all others asked i y at final offer (pending_for request) (batch_result_of gives)
      → Shows i.variant all others i y at final ⊎ IsIdle i y offer (One request)

  -- behind the calls that were told
  record Turned (y : History) (at : Standing) (offer : List ℕ) (told : List ServedCall) (untold : List LifeCall) : Type 0 where
    after : History
    stands : StandsFor i at after
    within : IsWithin all others asked i after
    names : (content : Content) → NamesPosition i y content → NamesPosition i after content
    may : MayEnd after at (offer_after offer told) untold
    run : CallsRunOver i.meaning (requests_of y.batches) told (requests_of after.batches)
    issued : AllByRecursion (IsGenuine i after) (snapshots_of (told_calls offer told))
    first : IsFirstGenuine i after untold
    listed : AreListed all asked i untold

  turns : (told : List ServedCall) (y : History) (old at : Standing) (offer : List ℕ) (untold : List LifeCall)
      → CallsInTurn i.variant i.meaning offer old told at → Reaches i.variant i at final
      → IsFirstOffered (offer_after offer told) untold → StandsFor i old y → IsWithin all others asked i y
      → IsFirstGenuine i y (told_calls offer told ++ untold) → AreListed all asked i (told_calls offer told ++ untold)
      → Shows i.variant all others i y old final → Turned y at offer told untold
  turns [] y old at offer untold h reaches is stands within first listed shows = record {
    after = y;
    stands = rw h stands;
    within = within;
    names = λ content n. n;
    may = λ request gives one m. inl (rw h shows);
    run = refl;
    issued = tt;
    first = first;
    listed = listed;
  }
  turns (c ∷ told) y old at offer untold h reaches is stands within first listed shows =
      let made : LifeCall = call_of offer c.line (Ok c.answer) in
      let rest : List LifeCall = told_calls c.answer.snapshot told ++ untold in
      let m = laws.met y old h.0 offer (pending_for c.line) (batch_answer_of c.answer)
      (makes_call laws old h.0 offer c.line y (Ok (batch_answer_of c.answer)) h.1.goes stands within first listed.batches.0
      (listed_first all asked i made rest listed)) shows (calls_reach laws c.answer.snapshot h.0 at told h.2 reaches) in
      let g = issue_genuine laws old h.0 offer c.line c.answer y h.1 m.0 in
      let r = turns told m.0.after h.0 at c.answer.snapshot untold h.2 reaches is m.0.stands m.0.within
      (first_by i m.0.after c.answer.snapshot told untold is g) (listed_rest all asked i made rest listed) m.1 in
      record {
        after = r.after;
        stands = r.stands;
        within = r.within;
        names = λ content n. r.names content (m.0.names content n);
        may = r.may;
        run = (requests_of m.0.after.batches, answer_steps i y m.0.after offer c.line c.answer m.0.comes, r.run);
        issued = (λ content right. r.names content (g content right), r.issued);
        first = r.first;
        listed = r.listed;
      }

  -- a session, or a call: where it leads, and what it makes of the list
  pub record Lived (y : History) (new : Standing) (calls : List LifeCall) (Steps : List (List ℕ) → Type 0) : Type 0 where
    pub after : History
    pub stands : StandsFor i new after
    pub within : IsWithin all others asked i after
    pub names : (content : Content) → NamesPosition i y content → NamesPosition i after content
    pub issued : AllByRecursion (IsGenuine i after) (snapshots_of calls)
    pub steps : Steps (requests_of after.batches)
    pub judged : IsLastJudged i after calls

  pub ends_reach : {at : Standing} {offer : List ℕ} {hand : List ℕ → Type 0} {sent : List ℕ} {untold : List LifeCall}
      {result : Result Unit SessionFault} → Ends i.variant i.meaning at final offer hand sent untold result → Reaches i.variant i at final
  ends_reach {at} (rests same none unwritten) = reach_same i.variant i at final same
  ends_reach {at} {offer} (stops request hand gives c is came t fault says ends) =
      laws.reach at final offer request (batch_result_of gives) c.goes

  module _ (y : History) (offer : List ℕ) (at : Standing) (told : List ServedCall) (hand : List ℕ → Type 0) (sent : List ℕ)
      (untold : List LifeCall) (r : Turned y at offer told untold) where
    abbrev Steps : Result Unit SessionFault → List (List ℕ) → Type 0
    Steps result after = SessionSteps i.meaning (requests_of y.batches) told hand sent result after

    abbrev Whole : List LifeCall → Type 0
    Whole calls = AllByRecursion (IsGenuine i r.after) (snapshots_of calls)

    both_issued : (z : History) → ((content : Content) → NamesPosition i r.after content → NamesPosition i z content)
        → AllByRecursion (IsGenuine i z) (snapshots_of untold)
        → AllByRecursion (IsGenuine i z) (snapshots_of (told_calls offer told ++ untold))
    both_issued z names more =
        rw (flat_map-append (λ (c : LifeCall). issued_snapshot_in c.gives) (told_calls offer told) untold)
        (each_append (IsGenuine i z) (snapshots_of (told_calls offer told)) (snapshots_of untold)
        (all_genuine i r.after z names (snapshots_of (told_calls offer told)) r.issued) more)

    ended : (result : Result Unit SessionFault) → Ends i.variant i.meaning at final (offer_after offer told) hand sent untold result
        → Lived y final (told_calls offer told ++ untold) (Steps result)
    ended result (rests same none unwritten) = record {
      after = r.after;
      stands = rw same r.stands;
      within = r.within;
      names = r.names;
      issued = both_issued r.after (λ content n. n) (rw none tt);
      steps = record {
        between = requests_of r.after.batches;
        run = r.run;
        committed = inl refl;
        in_part = λ w. absurd (unwritten w);
      };
      judged = judged_told i r.after offer told untold (rw none tt);
    }
    ended result (stops request h gives c is came t fault says ends) =
        let made : LifeCall = call_of (offer_after offer told) request gives in
        let first : IsGenuine i r.after (offer_after offer told) = rw is at r.first in
        let listed : AreListed all asked i (made ∷ []) = rw is at r.listed in
        let makes = makes_call laws at final (offer_after offer told) request r.after (batch_result_of gives) c.goes r.stands r.within first
        listed.batches.0 (listed_first all asked i made [] listed) in
        let m : Met all others asked i r.after final (offer_after offer told) (pending_for request) (batch_result_of gives) =
        elim (r.may request gives is makes) [
          | inl shows ↦ laws.met_last r.after at (offer_after offer told) (pending_for request) (batch_result_of gives) makes shows
          | inr idle ↦ laws.idle r.after at final (offer_after offer told) (pending_for request) (batch_result_of gives) makes idle
        ] in
        let given = issues_genuine laws at final (offer_after offer told) request gives r.after c m in
        record {
          after = m.after;
          stands = m.stands;
          within = m.within;
          names = λ content n. m.names content (r.names content n);
          issued = both_issued m.after m.names
              (rw is (each_append (IsGenuine i m.after) (issued_snapshot_in (batch_result_of gives)) [] given tt));
          steps = record {
            between = requests_of r.after.batches;
            run = r.run;
            committed = rw ends (line_committed r.after m.after request came sent fault hand h says (only_by gives came t m.only)
                (grows i r.after (pending_for request) (offer_after offer told) m.after (batch_result_of gives) m.comes));
            in_part = λ w.
                told_in_part i.meaning hand (requests_of r.after.batches) (requests_of m.after.batches) came sent fault says
                (λ answer e. (request, h, call_steps laws r.after m.after (offer_after offer told) request gives came answer t e m.comes))
                (same_requests r.after m.after came (only_by gives came t m.only)) (cc);
          };
          judged = judged_told i m.after offer told untold
              (rw is (met_judged r.after final (offer_after offer told) request gives m));
        }

  -- a whole session
  pub chain_lives : {sent : List ℕ} (y : History) (before : Standing) (offer : List ℕ) (told : List ServedCall) (hand : List ℕ → Type 0)
      (untold : List LifeCall) (result : Result Unit SessionFault)
      → Chain i.variant i.meaning offer before final told hand sent untold result → StandsFor i before y → IsWithin all others asked i y
      → IsFirstGenuine i y (told_calls offer told ++ untold) → AreListed all asked i (told_calls offer told ++ untold)
      → CallsLead i → (Reaches i.variant i before final → Leads i before final → Shows i.variant all others i y before final)
      → Lived y final (told_calls offer told ++ untold)
      (λ after. SessionSteps i.meaning (requests_of y.batches) told hand sent result after)
  chain_lives {sent} y before offer told hand untold result k stands within first listed leads shows =
      let reaches = ends_reach k.ends in
      ended y offer k.at told hand sent untold
      (turns told y before k.at offer untold k.calls reaches (offered_by k.ends) stands within first listed
      (shows (calls_reach laws offer before k.at told k.calls reaches) (chain_leads i leads k))) result k.ends

  -- a session that made at most one call, which minds no register
  abbrev pub AreIdle : History → Standing → List ℕ → List LifeCall → Type 0
  AreIdle y before offer calls =
      (request : List ℕ) (gives : Result Answer Refusal) → calls ≡ call_of offer request gives ∷ [] → (new : Standing)
      → Makes all others asked i y before new offer (pending_for request) (batch_result_of gives) → IsIdle i y offer (One request)

  pub chain_idles : {sent : List ℕ} (y : History) (before : Standing) (offer : List ℕ) (told : List ServedCall) (hand : List ℕ → Type 0)
      (untold : List LifeCall) (result : Result Unit SessionFault)
      → Chain i.variant i.meaning offer before final told hand sent untold result → StandsFor i before y → IsWithin all others asked i y
      → IsFirstGenuine i y (told_calls offer told ++ untold) → AreListed all asked i (told_calls offer told ++ untold)
      → (let calls = told_calls offer told ++ untold in (calls ≡ []) ⊎ ((c : LifeCall) × (calls ≡ c ∷ [])))
      → AreIdle y before offer (told_calls offer told ++ untold)
      → Lived y final (told_calls offer told ++ untold)
      (λ after. SessionSteps i.meaning (requests_of y.batches) told hand sent result after)
  chain_idles {sent} y before offer [] hand untold result k stands within first listed few idle =
      ended y offer k.at [] hand sent untold (record {
        after = y;
        stands = rw k.calls stands;
        within = within;
        names = λ content n. n;
        may = λ request gives one m. inr (idle request gives one final
            (subst (λ (x : Standing). Makes all others asked i y x final offer (pending_for request) (batch_result_of gives)) k.calls m));
        run = refl;
        issued = tt;
        first = first;
        listed = listed;
      }) result k.ends
  chain_idles {sent} y before offer (c ∷ []) hand untold result k stands within first listed few idle =
      let made : LifeCall = call_of offer c.line (Ok c.answer) in
      let none : untold ≡ [] = elim few [ inl e ↦ absurd (cc) | inr one ↦ cc (one.1) ] in
      let one : made ∷ untold ≡ made ∷ [] = cc in
      let call = k.calls.1 in
      let makes = makes_call laws before k.calls.0 offer c.line y (Ok (batch_answer_of c.answer)) call.goes stands within
      first listed.batches.0
      (listed_first all asked i made untold listed) in
      let m = laws.idle y before k.calls.0 offer (pending_for c.line) (Ok (batch_answer_of c.answer)) makes
      (idle c.line (Ok c.answer) one k.calls.0 makes) in
      ended y offer k.at (c ∷ []) hand sent untold (record {
        after = m.after;
        stands = rw k.calls.2 m.stands;
        within = m.within;
        names = m.names;
        may = λ request gives is made_so. let clash : [] ≡ call_of c.answer.snapshot request gives ∷ [] = sym none ∙ is in absurd (cc);
        run = (requests_of m.after.batches, answer_steps i y m.after offer c.line c.answer m.comes, refl);
        issued = (issue_genuine laws before k.calls.0 offer c.line c.answer y call m, tt);
        first = none_first i m.after untold none;
        listed = listed_rest all asked i made untold listed;
      }) result k.ends
  chain_idles {sent} y before offer (c ∷ next ∷ told) hand untold result k stands within first listed few idle =
      elim few [ inl e ↦ absurd (cc) | inr one ↦ let clash = one.1 in absurd (cc) ]
