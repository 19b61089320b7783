-- A move finds by digests what it finds by lists.
use Rattle.mm_sides.proofs.Below.{ℕ, ◌≡◌, Bool, true, false, List, Option, None, Some, Result, Ok, Err, refl, ap, ◌∙◌, subst, if◌then◌else◌}
use Rattle.mm_sides.proofs.Below.{bytes_eq, AllByRecursion, Contains, All-from_recursion, All-contains, Variant, Batch, Meaning, PartsFault}
use Rattle.mm_sides.proofs.Below.{Form, Kind, parts_of, Content, Snapshot, tag_of, Instance, History, AreMessagesIn, IsClear, Digests}
use Rattle.mm_sides.proofs.Below.{NamesPosition, content_of_issue, IsGenuine, place_messages, Refusal, right_content, list_level}
use Rattle.mm_sides.proofs.Below.{digest_level, check_by_tests, instance_by, weighed_alike, weighed_only, TicketContent, offered_bytes}
use Rattle.mm_sides.proofs.Below.{KeepsHistory, AreApartIn, Role, Live, Retired, Leaves, Enters, MoveNotes, is_live, Pair, SideState}
use Rattle.mm_sides.proofs.Below.{BothSides, list_mover, digest_mover, MoveCommand, Invite, Retire, Accept, DenialCause, Refused, Open}
use Rattle.mm_sides.proofs.Below.{Gone, FoundMove, is_offer_here, verdict_here, found_retirement_by, retirement_with, retirement_on}
use Rattle.mm_sides.proofs.Below.{ticket_in, repeated_entry, acceptance_on, found_retirement, found_acceptance, found_command}
use Rattle.mm_sides.proofs.Below.{messages_of_closing, offer_closing_messages, command_messages, IsGenuineTo, IsGenuineCommand, IsOurs}
use Rattle.mm_sides.proofs.Below.{IsOursOffered, IsOursFor}
use Rattle.mm_call.specs.OfferLaws.{right_is, is_right}
use Rattle.mm_sides.proofs.SideNames.{end_behind, IsBehind, RestsIn, there_same}
use Rattle.mm_sides.proofs.Rests.{says_again, here_tells, end_of, IsAtEnd, open_same, here_same}
use Rattle.mm_sides.proofs.WentOn.{WentOn}
use Rattle.mm_sides.proofs.Below.{history_now, IsWithin, nat_eq, total_of}
use Rattle.mm_sides.proofs.Found.{stands_by}
use Rattle.mm_sides.proofs.OneRun.{live_history}
use Rattle.mm_sides.proofs.Twins.{Twin, twin, IsShut, IsNamed, Kept}

if_both : (b : Bool) (p q q' : Result FoundMove DenialCause) → (b ≡ false → q ≡ q') → (if b then p else q) ≡ (if b then p else q')
if_both true p q q' f = refl
if_both false p q q' f = f refl

if_first : (b : Bool) (p p' q : Result FoundMove DenialCause) → (b ≡ true → p ≡ p') → (if b then p else q) ≡ (if b then p' else q)
if_first true p p' q f = f refl
if_first false p p' q f = refl

pub named_of : (all : List (List ℕ)) (i : Instance) (y : History) (tickets : List TicketContent) (ticket : TicketContent)
    → AllByRecursion (IsNamed all i y) tickets → Contains tickets ticket → IsNamed all i y ticket
named_of all i y tickets ticket named h =
    All-contains (IsNamed all i y) tickets ticket (All-from_recursion (IsNamed all i y) tickets named) h

module _ (variant : Variant) (meaning : Meaning) (key barrier : List ℕ) (all others : List (List ℕ)) (asked : List Batch)
    (clear : IsClear all)
    (apart : AreApartIn (instance_by variant meaning key barrier).variant (instance_by variant meaning key barrier) others asked) where
  abbrev me : Instance
  me = instance_by variant meaning key barrier

  -- a right offer names the history, and its closing is listed
  right_named : (y : History) (bytes : List ℕ) (snapshot : Snapshot) → IsGenuine me y bytes
      → AreMessagesIn (messages_of_closing (right_content me bytes)) all
      → parts_of me.variant me.meaning.id bytes ≡ Ok snapshot → me.meaning.is_spelled snapshot.content.state ≡ true
      → bytes_eq snapshot.tag (tag_of me.key snapshot.content) ≡ true
      → NamesPosition me y snapshot.content × AreMessagesIn (place_messages snapshot.content.place) all
  right_named y bytes snapshot genuine listed e state tagged =
      let right = right_is me (parts_of me.variant me.meaning.id bytes) snapshot e state tagged in
      let P : Option Content → Type 0 = λ c. AreMessagesIn (messages_of_closing c) all in
      (genuine snapshot.content (is_right me bytes snapshot e state tagged), subst P right listed)

  -- the module leaves by the same ticket
  left_same : (y : History) (d : Digests) (again : Bool) (nonce : List ℕ) (c : Content) (result : Result Bool Refusal)
      → ((fresh : Bool) → result ≡ Ok fresh → digest_mover.says me d c ≡ content_of_issue me y)
      → found_retirement_by digest_mover me d again nonce c result ≡ found_retirement_by list_mover me y again nonce c result
  left_same y d again nonce c (Err why) says = refl
  left_same y d again nonce c (Ok fresh) says =
      ap (λ (t : Content). Ok (record { again = again; effect = Leaves (record { nonce = nonce; content = t }) })) (says fresh refl)

  -- what names a position of the history now is found by digests as by lists; and at its last position it says what is there
  record Finds (y now : History) (d : Digests) : Type 0 where
    same : (c : Content) → AreMessagesIn (place_messages c.place) all → NamesPosition me now c
        → is_offer_here (digest_level me) d c ≡ is_offer_here (list_level me) y c
    at_end : (c : Content) → NamesPosition me now c → nat_eq c.position (total_of y.batches) ≡ true → IsAtEnd me y c

  finds_here : (y : History) (d : Digests) → KeepsHistory all others asked me y d → y.is_open ≡ false → Finds y y d
  finds_here y d k shut = record {
    same = λ c listed n. here_same variant meaning key barrier all others asked clear apart y d c k.within k.agrees shut listed n;
    at_end = λ c n last. end_of me y c n last;
  }

  finds_behind : (y now : History) (d : Digests) → KeepsHistory all others asked me y d → y.is_open ≡ false → WentOn y now
      → RestsIn me.variant y → IsWithin all others asked me now → Finds y now d
  finds_behind y now d k shut on rests within = record {
    same = λ c listed n. there_same variant meaning key barrier all others asked clear y now d c on rests within k.agrees shut listed n;
    at_end = λ c n last. end_behind me y now c on n last;
  }

  -- an offer that names a position of the history now, by what that tells of where the side stands
  offered_same : (y now : History) (d : Digests) (again : Bool) (nonce bytes : List ℕ) (parts : Result Snapshot PartsFault)
      → parts_of me.variant me.meaning.id bytes ≡ parts → KeepsHistory all others asked me y d → y.is_open ≡ false
      → IsGenuine me now bytes → AreMessagesIn (messages_of_closing (right_content me bytes)) all → Finds y now d
      → retirement_with digest_mover me d again nonce parts ≡ retirement_with list_mover me y again nonce parts
  offered_same y now d again nonce bytes (Ok snapshot) e k shut genuine listed finds =
      let c : Content = snapshot.content in
      let s : Bool = me.meaning.is_spelled c.state in
      let t : Bool = bytes_eq snapshot.tag (tag_of me.key c) in
      let here : Bool = is_offer_here (list_level me) y c in
      let there : Bool = is_offer_here (digest_level me) d c in
      let same : check_by_tests s t (verdict_here there) true ≡ check_by_tests s t (verdict_here here) true =
      weighed_alike s t (verdict_here there) (verdict_here here) true
      (λ spelled tagged. let n = right_named now bytes snapshot genuine listed e spelled tagged in
      ap verdict_here (finds.same c n.1 n.0)) in
      ap (found_retirement_by digest_mover me d again nonce c) same ∙ left_same y d again nonce c
      (check_by_tests s t (verdict_here here) true)
      (λ fresh f. let a = weighed_only s t (verdict_here here) true fresh f in
      let n = right_named now bytes snapshot genuine listed e a.spelled a.tagged in
      let h = here_tells me y c (stands_by here fresh a.verdict) in
      let z = finds.at_end c n.0 h.last in
      says_again variant meaning key barrier y d c shut k.agrees.digest z.position z.state)
  offered_same y now d again nonce bytes (Err Form) e k shut genuine listed finds = refl
  offered_same y now d again nonce bytes (Err Kind) e k shut genuine listed finds = refl

  -- a retirement
  retired_same : (role : Role) (y now : History) (d : Digests) (nonce bytes : List ℕ) → KeepsHistory all others asked me y d → IsShut role y
      → IsBehind role me.variant y now → (is_live role ≡ true → now ≡ y) → IsWithin all others asked me now
      → IsGenuineTo role me now (Some bytes) → AreMessagesIn (messages_of_closing (right_content me bytes)) all
      → retirement_on digest_mover me role d nonce bytes ≡ retirement_on list_mover me role y nonce bytes
  retired_same Live y now d nonce bytes k shut behind here within genuine listed =
      let parts = parts_of me.variant me.meaning.id bytes in
      let rest : Result FoundMove DenialCause = retirement_with digest_mover me d false nonce parts in
      ap (λ f. if f then Err Open else rest) (open_same variant meaning key barrier y d k.agrees k.within.sound)
      ∙ if_both y.is_open (Err Open) rest (retirement_with list_mover me y false nonce parts)
      (λ e. offered_same y y d false nonce bytes parts refl k e (subst (λ w. IsGenuine me w bytes) (here refl) genuine) listed
      (finds_here y d k e))
  retired_same (Retired left) y now d nonce bytes k shut behind here within genuine listed =
      let parts = parts_of me.variant me.meaning.id bytes in
      if_first (bytes_eq left nonce) (retirement_with digest_mover me d true nonce parts) (retirement_with list_mover me y true nonce parts)
      (Err Gone) (λ e. offered_same y now d true nonce bytes parts refl k shut genuine listed
      (finds_behind y now d k shut behind.0 behind.1 within))
  retired_same role y now d nonce bytes k shut behind here within genuine listed = refl

  retiring_same : (side : SideState History) (now : History) (d : Digests) (nonce : List ℕ) (bytes : Option (List ℕ))
      → KeepsHistory all others asked me side.at d → IsShut side.role side.at → IsBehind side.role me.variant side.at now
      → (is_live side.role ≡ true → now ≡ side.at) → IsWithin all others asked me now → IsGenuineTo side.role me now bytes
      → AreMessagesIn (offer_closing_messages me bytes) all → found_retirement digest_mover me
      (record { role = side.role; at = d; issued = side.issued }) nonce bytes ≡ found_retirement list_mover me side nonce bytes
  retiring_same side now d nonce None k shut behind here within genuine listed = refl
  retiring_same side now d nonce (Some bytes) k shut behind here within genuine listed =
      ap Some (retired_same side.role side.at now d nonce bytes k shut behind here within genuine listed)

  -- an acceptance: on a live side, of a ticket that names its history
  again_same : (y : History) (d : Digests) (read : Result TicketContent Refusal) → KeepsHistory all others asked me y d
      → ((ticket : TicketContent) → read ≡ Ok ticket → IsNamed all me y ticket)
      → repeated_entry (digest_level me) d read ≡ repeated_entry (list_level me) y read
  again_same y d (Err why) k named = refl
  again_same y d (Ok ticket) k named =
      let stale : Result FoundMove DenialCause = Err (Refused _) in
      let yes : Result FoundMove DenialCause = Ok (record { again = true; effect = Enters ticket }) in
      let n = named ticket refl in
      ap (λ f. if f then stale else (if is_offer_here (digest_level me) d ticket.content then yes else stale))
      (open_same variant meaning key barrier y d k.agrees k.within.sound) ∙ if_both y.is_open stale _ _
      (λ shut. ap (λ f. if f then yes else stale)
      (here_same variant meaning key barrier all others asked clear apart y d ticket.content k.within k.agrees shut n.1 n.0))

  -- the tickets that the module left by name where a live side stands
  accepted_same : (role : Role) (y : History) (d : Digests) (read : Result TicketContent Refusal) → KeepsHistory all others asked me y d
      → (is_live role ≡ true → (ticket : TicketContent) → read ≡ Ok ticket → IsNamed all me y ticket)
      → acceptance_on (digest_level me) role d read ≡ acceptance_on (list_level me) role y read
  accepted_same Live y d read k named = again_same y d read k (named refl)
  accepted_same role y d read k named = refl

  ours_named : (y : History) (notes : MoveNotes) (read : Result TicketContent Refusal) → AllByRecursion (IsNamed all me y) notes.retired
      → IsOurs notes read → (ticket : TicketContent) → read ≡ Ok ticket → IsNamed all me y ticket
  ours_named y notes (Err why) named ours ticket e = cc
  ours_named y notes (Ok read) named ours ticket e =
      let P : Result TicketContent Refusal → Type 0 = IsOurs notes in
      named_of all me y notes.retired ticket named (subst P e ours)

  live_named : (j : Instance) (l : BothSides History History) (x : Twin) (notes : MoveNotes) (read : Result TicketContent Refusal)
      → Kept all others asked me j l x notes
      → IsOurs notes read → is_live l.first.role ≡ true → (ticket : TicketContent) → read ≡ Ok ticket → IsNamed all me l.first.at ticket
  live_named j l x notes read k ours live = ours_named l.first.at notes read (subst (λ y. AllByRecursion (IsNamed all me y) notes.retired)
      (live_history l live) k.named) ours

  accepting_same : (pair : Pair) (j : Instance) (l : BothSides History History) (x : Twin) (notes : MoveNotes) (bytes : Option (List ℕ))
      → Kept all others asked me j l x notes
      → IsOursOffered pair notes bytes → found_acceptance digest_mover pair me (twin l x).first bytes ≡ found_acceptance list_mover
      pair me l.first bytes
  accepting_same pair j l x notes None k ours = refl
  accepting_same pair j l x notes (Some bytes) k ours =
      ap Some (accepted_same l.first.role l.first.at x.first (ticket_in pair bytes) k.this.keeps
      (live_named j l x notes (ticket_in pair bytes) k ours))

  pub finding_same : (pair : Pair) (j : Instance) (l : BothSides History History) (x : Twin) (notes : MoveNotes) (command : MoveCommand)
      → Kept all others asked me j l x notes
      → IsWithin all others asked me (history_now l) → IsGenuineCommand me l command → IsOursFor pair l.tickets notes command
      → AreMessagesIn (command_messages me l.first command) all
      → found_command digest_mover pair me (twin l x) command ≡ found_command list_mover pair me l command
  finding_same pair j l x notes (Invite nonce) k within genuine ours listed = refl
  finding_same pair j l x notes (Retire nonce offer) k within genuine ours listed =
      retiring_same l.first (history_now l) x.first nonce (offered_bytes l.first.issued offer) k.this.keeps k.this.shut k.this_behind
      (live_history l) within genuine listed
  finding_same pair j l x notes (Accept offer) k within genuine ours listed =
      accepting_same pair j l x notes (offered_bytes l.tickets offer) k ours
