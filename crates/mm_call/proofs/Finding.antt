-- What a call finds: the same by digests as by lists, where the verdicts on right offers are the
-- same; and what it finds names the history. With it: what a call answers and how it ends, by lists
-- and by digests.
use Rattle.std.proofs.lemmas.List.{drop_at}
use Rattle.std.proofs.lemmas.List.Elements.{All-contains, All-from_recursion}
use Rattle.mm_seal.specs.declared.snapshot.PartsFault.{PartsFault}
use Rattle.mm_seal.specs.declared.snapshot.PartsFault.TheVariants.{Form, Kind}
use Rattle.mm_model.specs.BatchLaws.{basic_is_judged}
use Rattle.mm_model.specs.Chains.{summary_of}
use Rattle.mm_model.specs.declared.refusal.Refusal.TheVariants as refusal
use Rattle.mm_model.specs.declared.verdict.Verdict.{Verdict}
use Rattle.mm_model.specs.declared.verdict.Verdict.TheVariants.{Fresh}
use Rattle.mm_call.specs.CallFinding.{check_of_verdict, check_of_offer, check_by_tests}
use Rattle.mm_call.specs.OfferLaws.{weighed_alike, is_right, right_is}
use Rattle.mm_call.proofs.Below.{ℕ, ◌≡◌, ◌+◌, Bool, true, false, ◌&&◌, List, [], ◌∷◌, ◌++◌, Option, Result, Ok, Err, refl, sym, ap, ◌∙◌}
use Rattle.mm_call.proofs.Below.{subst, arith, if◌then◌else◌, nat_eq, nat_le, bytes_eq, last_position, zero_bytes, Meaning, state_after}
use Rattle.mm_call.proofs.Below.{Batch, size_of, parts_of, Content, Snapshot, tag_of, Instance, basic_instance, History, RegisterEntry}
use Rattle.mm_call.proofs.Below.{requests_of, total_of, items_of_all, Life, Live, life_of, is_lost, is_last, verdict_by_tests, verdict_on}
use Rattle.mm_call.proofs.Below.{IsPlaceOf, NamesPosition, AreMessagesIn, IsClear, AreNoGuards, history_messages, offer_messages, values_in}
use Rattle.mm_call.proofs.Below.{Digests, IsGenuine, IsRight, Refusal, at_the_end, before_the_last, right_content, CallFinding}
use Rattle.mm_call.proofs.Below.{finding_by_verdict, finding_at, finding_with, list_level, digest_level, DigestsAgree, IsPlain}
use Rattle.mm_call.proofs.Below.{right_messages, Contains, AllByRecursion, Opt, opt_instance, life_by, is_empty, are_own, has_value}
use Rattle.mm_call.proofs.Below.{counted_entries, opt_is_judged, lost_is_zero, Place, IsClearFor, live_parts, LiveParts, ◌-◌, drop}
use Rattle.mm_call.proofs.Below.{requests-push, append-nil, Basic, start_digest_of, outputs_from, state_from, members_of}
use Rattle.mm_call.proofs.Below.{state_after-append, outputs_from-append, length-outputs_from, sealed_snapshot_of, InBasic, InOpt, link}
use Rattle.mm_call.proofs.Below.{link_message, trail, issued_place, trail_push, summary-push, total-push, answer_at, answer_on, None, Some}
use Rattle.mm_call.proofs.Below.{StepFault, state_after_moves, place_after_batch, is_fresh, StepsWalk, has_commit, Answers, Breaks}
use Rattle.mm_call.proofs.Below.{call_ending_by, position_if_committed, committed_batches, batches-made, more_batches, Commits, nothing}
use Rattle.mm_call.proofs.Below.{batch, commits-none}
use Rattle.mm_call.proofs.OptHolding.{Holds}

-- what is asked of an offer at a state, and what is known of it
pub record Asking (all : List (List ℕ)) (i : Instance) (y : History) (bytes : List ℕ) (b : Batch) : Type 0 where
  pub clear : IsClear all
  pub listed : AreMessagesIn (right_messages i b (right_content i bytes)) all
  pub genuine : IsGenuine i y bytes

-- What an accepted offer tells.

pub admitted_tells : (here repeat fits again : Bool) → check_of_verdict (verdict_by_tests Live here repeat) fits ≡ Ok again
    → (again ≡ false → here ≡ true) × (again ≡ true → repeat ≡ true)
admitted_tells true repeat true again e = (λ _. refl, λ a. cc)
admitted_tells false true true again e = (λ a. cc, λ _. refl)
admitted_tells _ _ fits again e = cc

admitted_lives : (life : Life) (here repeat fits again : Bool) → check_of_verdict (verdict_by_tests life here repeat) fits ≡ Ok again
    → life ≡ Live
admitted_lives Live here repeat fits again e = refl
admitted_lives _ here repeat fits again e = cc

pub weighed_tells : (spelled tagged : Bool) (v : Verdict) (fits again : Bool) → check_by_tests spelled tagged v fits ≡ Ok again
    → (spelled ≡ true) × (tagged ≡ true) × (check_of_verdict v fits ≡ Ok again)
weighed_tells true true v fits again e = (refl, refl, e)
weighed_tells _ _ v fits again e = cc

pub found_with_tells : (offered : Content) (examination : Result Bool Refusal) (found : CallFinding) → finding_with offered examination
    ≡ Ok found
    → (found.offered ≡ offered) × (examination ≡ Ok found.again)
found_with_tells offered (Ok again) found e =
    let same : record { offered = offered; again = again } ≡ found = cc in
    (ap (λ (f : CallFinding). f.offered) (sym same), ap (λ (f : CallFinding). Ok f.again) same)
found_with_tells offered (Err why) found e = cc

-- where power was lost nothing is found
pub unless_lost : (lost : Bool) (found : Result CallFinding Refusal) (f : CallFinding) → (if lost then Err refusal.Lost else found) ≡ Ok f
    → found ≡ Ok f
unless_lost true found f e = cc
unless_lost false found f e = e

module _ (i : Instance) (y : History) (bytes : List ℕ) (b : Batch) where
  -- the history is live, the offer right, and its position the last one, or the one before the batch that is asked again
  pub record Accepted (found : CallFinding) : Type 0 where
    pub live : life_of i.variant y ≡ Live
    pub read : (snapshot : Snapshot) × (parts_of i.variant i.meaning.id bytes ≡ Ok snapshot) × (found.offered ≡ snapshot.content)
    pub spelled : i.meaning.is_spelled read.0.content.state ≡ true
    pub tagged : bytes_eq read.0.tag (tag_of i.key read.0.content) ≡ true
    pub here : found.again ≡ false → nat_eq found.offered.position (total_of y.batches) ≡ true
    pub repeats : found.again ≡ true
        → nat_eq (found.offered.position + size_of b) (total_of y.batches) && is_last y.batches b ≡ true

  accepted_from : (parts : Result Snapshot PartsFault) → parts_of i.variant i.meaning.id bytes ≡ parts → (found : CallFinding)
      → finding_by_verdict i (list_level i) y b parts ≡ Ok found → Accepted found
  accepted_from (Err Form) e found is = cc
  accepted_from (Err Kind) e found is = cc
  accepted_from (Ok snapshot) e found is =
      let content = snapshot.content in
      let t = found_with_tells content (check_of_offer i.meaning i.key snapshot b (verdict_on i.variant y content.position b)) found is in
      let w = weighed_tells (i.meaning.is_spelled content.state) (bytes_eq snapshot.tag (tag_of i.key content)) _ _ found.again t.1 in
      let here = nat_eq content.position (total_of y.batches) in
      let repeat = nat_eq (content.position + size_of b) (total_of y.batches) && is_last y.batches b in
      let fits = nat_le (content.position + size_of b) last_position in
      let live = admitted_lives (life_of i.variant y) here repeat fits found.again w.2 in
      let a = admitted_tells here repeat fits found.again (ap (λ l. check_of_verdict (verdict_by_tests l here repeat) fits) (sym live)
      ∙ w.2) in
      record {
        live = live;
        read = (snapshot, e, t.0);
        spelled = w.0;
        tagged = w.1;
        here = λ x. ap (λ (c : Content). nat_eq c.position (total_of y.batches)) t.0 ∙ a.0 x;
        repeats = λ x. ap (λ (c : Content). nat_eq (c.position + size_of b) (total_of y.batches) && is_last y.batches b) t.0 ∙ a.1 x;
      }

  pub accepted : (found : CallFinding) → finding_at i (list_level i) y b bytes ≡ Ok found → Accepted found
  accepted found is =
      accepted_from (parts_of i.variant i.meaning.id bytes) refl found (unless_lost (is_lost (life_of i.variant y)) _ found is)

  -- it was rightly offered
  pub right_at : (found : CallFinding) → finding_at i (list_level i) y b bytes ≡ Ok found → IsRight i bytes found.offered
  right_at found is =
      let a = accepted found is in
      rw a.read.2 (is_right i bytes a.read.0 a.read.1 a.spelled a.tagged)

-- What is found is at the end of the history, or before its last batch, which is then the one that is asked.
pub record Placed (all : List (List ℕ)) (i : Instance) (y : History) (b : Batch) (found : CallFinding) : Type 0 where
  pub named : List Batch
  pub position : found.offered.position ≡ total_of named
  pub state : found.offered.state ≡ state_after i.meaning (requests_of named)
  pub place : IsPlaceOf i.variant i y named found.offered.place
  pub listed : AreMessagesIn (offer_messages i found.offered.place b) all
  pub live : life_of i.variant y ≡ Live
  pub names : NamesPosition i y found.offered
  pub is_fresh : found.again ≡ false → verdict_on i.variant y found.offered.position b ≡ Fresh
  pub fresh : found.again ≡ false → named ≡ y.batches
  pub repeat : found.again ≡ true → named ++ b ∷ [] ≡ y.batches

module _ (all : List (List ℕ)) (i : Instance) (y : History) (bytes : List ℕ) (b : Batch) where
  right_named : (snapshot : Snapshot) → Asking all i y bytes b → parts_of i.variant i.meaning.id bytes ≡ Ok snapshot
      → i.meaning.is_spelled snapshot.content.state ≡ true → bytes_eq snapshot.tag (tag_of i.key snapshot.content) ≡ true
      → NamesPosition i y snapshot.content × AreMessagesIn (offer_messages i snapshot.content.place b) all
  right_named snapshot asking e state tagged =
      let right = right_is i (parts_of i.variant i.meaning.id bytes) snapshot e state tagged in
      let P : Option Content → Type 0 = λ c. AreMessagesIn (right_messages i b c) all in
      (asking.genuine snapshot.content (is_right i bytes snapshot e state tagged), subst P right asking.listed)

  pub placed : Asking all i y bytes b → (found : CallFinding) → finding_at i (list_level i) y b bytes ≡ Ok found → Placed all i y b found
  placed asking found is =
      let a = accepted i y bytes b found is in
      let right = right_named a.read.0 asking a.read.1 a.spelled a.tagged in
      let names : NamesPosition i y found.offered = rw a.read.2 right.0 in
      record {
        named = names.named;
        position = names.position;
        state = names.state;
        place = names.place;
        listed = rw a.read.2 right.1;
        live = a.live;
        names = names;
        is_fresh = λ x. let repeat = nat_eq (found.offered.position + size_of b) (total_of y.batches) && is_last y.batches b in
            ap (λ l. verdict_by_tests l (nat_eq found.offered.position (total_of y.batches)) repeat) a.live
            ∙ ap (λ h. verdict_by_tests Live h repeat) (a.here x);
        fresh = λ x. (at_the_end y.batches names.named names.rest names.first).0
            (ap (λ p. nat_eq p (total_of y.batches)) (sym names.position) ∙ a.here x);
        repeat = λ x. (before_the_last y.batches names.named names.rest b names.first).0
            (ap (λ p. nat_eq (p + size_of b) (total_of y.batches) && is_last y.batches b) (sym names.position) ∙ a.repeats x);
      }

  -- the verdict by digests on a right offer is the verdict on the history
  abbrev pub VerdictsAgree : Digests → Type 0
  VerdictsAgree d = (offered : Content) → AreMessagesIn (offer_messages i offered.place b) all → NamesPosition i y offered
      → (digest_level i).verdict d offered b ≡ (list_level i).verdict y offered b

  found_from_same : (d : Digests) (parts : Result Snapshot PartsFault) → parts_of i.variant i.meaning.id bytes ≡ parts
      → Asking all i y bytes b → VerdictsAgree d → finding_by_verdict i (digest_level i) d b parts ≡ finding_by_verdict i
      (list_level i) y b parts
  found_from_same d (Err Form) e asking same = refl
  found_from_same d (Err Kind) e asking same = refl
  found_from_same d (Ok snapshot) e asking same =
      ap (finding_with snapshot.content)
      (weighed_alike (i.meaning.is_spelled snapshot.content.state) (bytes_eq snapshot.tag (tag_of i.key snapshot.content)) _ _ _
      (λ state tagged. let named = right_named snapshot asking e state tagged in same snapshot.content named.1 named.0))

  pub found_by : (d : Digests) → Asking all i y bytes b → VerdictsAgree d → (digest_level i).is_lost d ≡ is_lost (life_of i.variant y)
      → finding_at i (digest_level i) d b bytes ≡ finding_at i (list_level i) y b bytes
  found_by d asking same lost =
      ap (λ f. if f then Err refusal.Lost else finding_by_verdict i (digest_level i) d b (parts_of i.variant i.meaning.id bytes)) lost
      ∙ ap (λ x. if is_lost (life_of i.variant y) then Err refusal.Lost else x)
      (found_from_same d (parts_of i.variant i.meaning.id bytes) refl asking same)

-- Basic

no_counting : (barrier : List ℕ) (closed : List (List RegisterEntry)) (is_open : Bool) (items : List RegisterEntry) (batches : List Batch)
    → closed ≡ []
    → is_open ≡ false → AreNoGuards barrier (values_in (items_of_all closed ++ (if is_open then items else []))) batches
no_counting barrier closed is_open items batches none shut =
    rw (none, shut) (λ d b c e _. absurd (omega (arith, c.1)))

pub basic_found_same : (meaning : Meaning) (key : List ℕ) (all : List (List ℕ)) (y : History) (d : Digests) (bytes : List ℕ) (b : Batch)
    → DigestsAgree (basic_instance meaning key) y d → IsPlain y → AreMessagesIn (history_messages (basic_instance meaning key) y) all
    → Asking all (basic_instance meaning key) y bytes b
    → finding_at (basic_instance meaning key) (digest_level (basic_instance meaning key)) d b bytes
    ≡ finding_at (basic_instance meaning key) (list_level (basic_instance meaning key)) y b bytes
basic_found_same meaning key all y d bytes b agrees plain listed asking =
    found_by all (basic_instance meaning key) y bytes b d asking
    (λ offered called names. rw (agrees.flag, agrees.digest) (basic_is_judged meaning key d.register y offered b all
    (record {
      clear = asking.clear;
      history = listed;
      call = called;
      foreign = no_counting zero_bytes y.closed y.is_open y.items (b ∷ y.batches) plain.closed plain.shut;
    }) names)) (ap (λ f. f && bytes_eq d.register zero_bytes) agrees.flag)

-- Opt

-- what each element of a list is, an element of it is
pub each_at : {A : Type 0} (P : A → Type 0) (xs : List A) (x : A) → AllByRecursion P xs → Contains xs x → P x
each_at P xs x h c = All-contains P xs x (All-from_recursion P xs h) c

-- no value of others that counts is the guard of a batch of the history, or of the one that is asked
no_guards : (barrier : List ℕ) (others values : List (List ℕ)) (asked batches : List Batch) → AreNoGuards barrier others asked
    → AllByRecursion (Contains others) values → AllByRecursion (Contains asked) batches → AreNoGuards barrier values batches
no_guards barrier others values asked batches apart outside among d b among_values among_batches =
    apart d b (each_at (Contains others) values d outside among_values) (each_at (Contains asked) batches b among among_batches)

-- what is asked of the digests of a run
pub record IsApart (all others : List (List ℕ)) (asked : List Batch) (barrier : List ℕ) : Type 0 where
  pub clear : IsClear all
  pub apart : AreNoGuards barrier others asked

-- what a live history is
abbrev pub IsLive : History → Type 0
IsLive y = LiveParts y.is_open (is_empty y.items) (are_own y.items y.current) (has_value (items_of_all y.closed))

pub lives : (y : History) → life_of Opt y ≡ Live → IsLive y
lives y e = live_parts y.is_open (is_empty y.items) (are_own y.items y.current) (has_value (items_of_all y.closed)) e

module _ (meaning : Meaning) (key barrier : List ℕ) where
  abbrev I : Instance
  I = opt_instance meaning key barrier

  -- what is found is found in a live history
  pub live_found : (y : History) (b : Batch) (bytes : List ℕ) (found : CallFinding) → finding_at I (list_level I) y b bytes ≡ Ok found
      → IsLive y
  live_found y b bytes found is = lives y (accepted I y bytes b found is).live

  -- what is asked of the digests for a history and a call from it
  pub clear_for : (all others : List (List ℕ)) (asked : List Batch) (y : History) (d : Digests) (place : Place) (b : Batch)
      → IsApart all others asked barrier → Holds all others asked I y d → Contains asked b → AreMessagesIn (offer_messages I place b) all
      → IsClearFor all I y place b
  clear_for all others asked y d place b c h is_asked called = record {
    clear = c.clear;
    history = h.listed;
    call = called;
    foreign = no_guards barrier others (values_in (counted_entries y)) asked (b ∷ y.batches) c.apart h.outside (is_asked, h.batches);
  }

  verdict_same : (all others : List (List ℕ)) (asked : List Batch) (y : History) (d : Digests) (offered : Content) (b : Batch)
      → IsApart all others asked barrier → Holds all others asked I y d → Contains asked b
      → AreMessagesIn (offer_messages I offered.place b) all
      → NamesPosition I y offered → (digest_level I).verdict d offered b ≡ (list_level I).verdict y offered b
  verdict_same all others asked y d offered b c h is_asked called names =
      rw (h.agrees.flag, h.agrees.digest, h.agrees.register)
      (opt_is_judged meaning key barrier y offered b all h.sound (clear_for all others asked y d offered.place b c h is_asked called) names)

  -- power was lost inside an open segment: the register reads zero
  pub lost_same : (all others : List (List ℕ)) (asked : List Batch) (y : History) (d : Digests) → IsClear all
      → Holds all others asked I y d → (digest_level I).is_lost d ≡ (list_level I).is_lost y
  lost_same all others asked y d c h =
      rw (h.agrees.flag, h.agrees.register) (lost_is_zero meaning key barrier y all c h.listed)

  pub found_same : (all others : List (List ℕ)) (asked : List Batch) (y : History) (d : Digests) (bytes : List ℕ) (b : Batch)
      → IsApart all others asked barrier → Contains asked b → Holds all others asked I y d → Asking all I y bytes b
      → finding_at I (digest_level I) d b bytes ≡ finding_at I (list_level I) y b bytes
  found_same all others asked y d bytes b c is_asked h asking =
      found_by all I y bytes b d asking (λ offered called names. verdict_same all others asked y d offered b c h is_asked called names)
      (lost_same all others asked y d c.clear h)

held_by : (is_open bare own marred : Bool) → is_lost (life_by is_open bare own marred) ≡ false → is_open ≡ true → bare ≡ false
held_by true false own marred e f = refl
held_by _ _ own marred e f = cc

-- a segment that isn't lost has items
pub not_lost : (y : History) → is_lost (life_of Opt y) ≡ false → y.is_open ≡ true → is_empty y.items ≡ false
not_lost y e is_open = held_by y.is_open (is_empty y.items) (are_own y.items y.current) (has_value (items_of_all y.closed)) e is_open

-- What a call answers and how it ends, by lists and by digests; and, in Basic, the messages of a history that goes on by the batch.

-- the position before the last batch, and what is said to it
pub before_last : (batches named : List Batch) (b : Batch) → batches ≡ named ++ b ∷ [] → total_of batches - size_of b ≡ total_of named
before_last batches named b e =
    let total : total_of batches ≡ total_of named + size_of b = ap total_of e ∙ total-push named b in omega arith

pub said_last : (meaning : Meaning) (batches named : List Batch) (b : Batch) → batches ≡ named ++ b ∷ []
    → drop (total_of batches - size_of b) (outputs_from meaning meaning.first (requests_of batches))
    ≡ outputs_from meaning (state_after meaning (requests_of named)) (members_of b)
said_last meaning batches named b e =
    let requests : requests_of batches ≡ requests_of named ++ members_of b = ap requests_of e ∙ requests-push named b in
    let outputs : outputs_from meaning meaning.first (requests_of batches)
    ≡ outputs_from meaning meaning.first (requests_of named) ++ outputs_from meaning (state_after meaning (requests_of named))
    (members_of b) =
    ap (outputs_from meaning meaning.first) requests ∙ outputs_from-append meaning meaning.first (requests_of named) (members_of b) in
    ap (λ n. drop n (outputs_from meaning meaning.first (requests_of batches))) (before_last batches named b e)
    ∙ ap (drop (total_of named)) outputs ∙ drop_at (outputs_from meaning meaning.first (requests_of named)) _ (total_of named)
    (length-outputs_from meaning meaning.first (requests_of named))

-- the answer by digests is that by lists, where what was found is the batches before the last
answer_same : (i : Instance) (y : History) (named : List Batch) (b : Batch) (again : Bool) (offered : Content) (place : Place)
    → y.batches ≡ named ++ b ∷ [] → offered.position ≡ total_of named → offered.state ≡ state_after i.meaning (requests_of named)
    → place ≡ issued_place i.variant y.is_open i y → answer_at i.meaning i.key offered place b again ≡ answer_on i y b again
answer_same i y named b again offered place e position state is =
    let total : offered.position + size_of b ≡ total_of y.batches =
    ap (λ (n : ℕ). n + size_of b) position ∙ sym (ap total_of e ∙ total-push named b) in
    let said = ap (λ (s : List ℕ). outputs_from i.meaning s (members_of b)) state ∙ sym (said_last i.meaning y.batches named b e) in
    let after = ap (λ (s : List ℕ). state_from i.meaning s (members_of b)) state
    ∙ sym (ap (λ v. state_after i.meaning (requests_of v)) e ∙ ap (state_after i.meaning) (requests-push named b)
    ∙ state_after-append i.meaning (requests_of named) (members_of b)) in
    λ j. record {
      again = again;
      position = total j;
      outputs = said j;
      snapshot = sealed_snapshot_of i.key (record { id = i.meaning.id; place = is j; position = total j; state = after j });
    }

-- the summary after the batch
pub summary_then : (id : ℕ) (batches named : List Batch) (b : Batch) (again : Bool) (digest : List ℕ) → digest ≡ summary_of id batches
    → (again ≡ false → named ≡ batches) → (again ≡ true → named ++ b ∷ [] ≡ batches)
    → (if again then digest else link digest b) ≡ summary_of id (named ++ b ∷ [])
summary_then id batches named b true digest e fresh repeat = e ∙ ap (summary_of id) (sym (repeat refl))
summary_then id batches named b false digest e fresh repeat =
    ap (λ x. link x b) (e ∙ ap (summary_of id) (sym (fresh refl))) ∙ sym (summary-push id named b)

-- the messages of a history that goes on by the batch
pub listed_push : (meaning : Meaning) (key : List ℕ) (all : List (List ℕ)) (y y' : History) (b : Batch)
    → AreMessagesIn (history_messages (basic_instance meaning key) y) all → Contains all (link_message (summary_of meaning.id y.batches) b)
    → y'.batches ≡ y.batches ++ b ∷ [] → AreMessagesIn (history_messages (basic_instance meaning key) y') all
unfolding summary_of
listed_push meaning key all y y' b listed called e =
    let P : List Batch → Type 0 = λ v. AreMessagesIn (trail link_message (start_digest_of Basic meaning.id) v) all in
    (listed.0, subst P (sym e) (trail_push link_message (start_digest_of Basic meaning.id) y.batches b all listed.1 called))

pub listed_same : (meaning : Meaning) (key : List ℕ) (all : List (List ℕ)) (y y' : History)
    → AreMessagesIn (history_messages (basic_instance meaning key) y) all → y'.batches ≡ y.batches
    → AreMessagesIn (history_messages (basic_instance meaning key) y') all
listed_same meaning key all y y' listed e =
    let P : List Batch → Type 0 = λ v. AreMessagesIn (trail link_message (start_digest_of Basic meaning.id) v) all in
    (listed.0, subst P (sym e) listed.1)

-- the message of a batch that is asked at the end of the history
pub called_message : (meaning : Meaning) (key : List ℕ) (all : List (List ℕ)) (y : History) (b : Batch) (place : Place)
    (named : List Batch) → AreMessagesIn (offer_messages (basic_instance meaning key) place b) all
    → IsPlaceOf Basic (basic_instance meaning key) y named place
    → named ≡ y.batches → Contains all (link_message (summary_of meaning.id y.batches) b)
called_message meaning key all y b (InBasic s) named called is e =
    let P : List ℕ → Type 0 = λ v. Contains all (link_message v b) in
    subst P (is ∙ ap (summary_of meaning.id) e) called.0
called_message meaning key all y b (InOpt a x) named called is e = absurd is

pub again_of : (again : Bool) → (if again then false else true) ≡ false → again ≡ true
again_of true e = refl
again_of false e = cc

pub fresh_of : (again : Bool) → (if again then false else true) ≡ true → again ≡ false
fresh_of true e = cc
fresh_of false e = refl

pub fresh_found : (found : Result CallFinding Refusal) → is_fresh found ≡ true → (f : CallFinding) × (found ≡ Ok f) × (f.again ≡ false)
fresh_found (Ok f) e = (f, refl, fresh_of f.again e)
fresh_found (Err why) e = cc

pub kept_same : (committed : Bool) (p q : ℕ) → (committed ≡ true → p ≡ q) → position_if_committed committed p
    ≡ position_if_committed committed q
kept_same true p q e = ap (λ x. Some x) (e refl)
kept_same false p q e = refl

-- the batches at the end of a call that isn't broken off
pub ended_batches : (batches named : List Batch) (b : Batch) (again : Bool) (walked : StepsWalk) → (again ≡ false → named ≡ batches)
    → (again ≡ true → named ++ b ∷ [] ≡ batches) → Commits b (if again then false else true) walked → walked.broken ≡ None
    → batches ++ committed_batches walked.moves ≡ named ++ b ∷ []
ended_batches batches named b again walked fresh repeat (nothing none unless) whole =
    ap (λ v. batches ++ v) none ∙ append-nil batches ∙ sym (repeat (again_of again (unless whole)))
ended_batches batches named b again walked fresh repeat (batch one is) whole =
    ap (λ v. batches ++ v) one ∙ ap (λ v. v ++ b ∷ []) (sym (fresh (fresh_of again is)))

module _ (all : List (List ℕ)) (i : Instance) (z y : History) (seen : Digests) (b : Batch) (walked : StepsWalk) where
  abbrev end : History
  end = state_after_moves (list_level i) y walked.moves

  -- what is known at the end of a call: what it found at a history with the same batches, and that the place of its answer is that of
  -- the history
  pub record Ends (found : Result CallFinding Refusal) : Type 0 where
    pub same : z.batches ≡ y.batches
    pub found_at : (f : CallFinding) → found ≡ Ok f → Placed all i z b f
    pub place : (f : CallFinding) → found ≡ Ok f → walked.broken ≡ None
        → place_after_batch i.variant seen.flag f.again i seen b ≡ issued_place i.variant end.is_open i end

  answers_same : (f : CallFinding) → Ends (Ok f) → Commits b (if f.again then false else true) walked → walked.broken ≡ None
      → (s : Digests) (t : History) → (digest_level i).answer f.again seen s f.offered b ≡ (list_level i).answer f.again t end f.offered b
  answers_same f ends c whole s t =
      let p = ends.found_at f refl in
      let batches = batches-made i walked.moves y ∙ ended_batches y.batches p.named b f.again walked (λ x. p.fresh x ∙ ends.same)
      (λ x. p.repeat x ∙ ends.same) c whole in
      answer_same i end p.named b f.again f.offered (place_after_batch i.variant seen.flag f.again i seen b) batches p.position p.state
      (ends.place f refl whole)

  -- the position of a batch that was committed
  position_same : (f : CallFinding) → Ends (Ok f) → f.again ≡ false → committed_batches walked.moves ≡ b ∷ []
      → f.offered.position + size_of b ≡ total_of end.batches
  position_same f ends fresh one =
      let p = ends.found_at f refl in
      let total = ap total_of (more_batches i walked.moves y b one) ∙ total-push y.batches b in
      let named = p.position ∙ ap total_of (p.fresh fresh ∙ ends.same) in
      omega arith

  pub ending_same : (t : History) (s : Digests) (broken : Option StepFault) (found : Result CallFinding Refusal) → walked.broken ≡ broken
      → Ends found → Commits b (is_fresh found) walked
      → call_ending_by (digest_level i) seen s b found walked.moves broken ≡ call_ending_by (list_level i) t end b found walked.moves broken
  ending_same t s (Some fault) (Err why) e ends c = refl
  ending_same t s None (Err why) e ends c = refl
  ending_same t s (Some fault) (Ok f) e ends (nothing none unless) = rw (commits-none walked.moves none) refl
  ending_same t s (Some fault) (Ok f) e ends (batch one fresh) =
      ap (λ k. Breaks fault k) (kept_same (has_commit walked.moves) _ _ (λ x. position_same f ends (fresh_of f.again fresh) one))
  ending_same t s None (Ok f) e ends c = ap (λ a. Answers a) (answers_same f ends c e s t)
