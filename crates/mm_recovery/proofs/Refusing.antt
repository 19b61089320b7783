-- What a call for the request that waits makes of the history, and why it is refused.
use Rattle.mm_recovery.proofs.Below.{◌≡◌, ℕ, ◌+◌, ◌-◌, ◌≤◌, true, false, List, [], ◌∷◌, ◌++◌, Result, Ok, refl, sym, ap, ◌∙◌, subst, arith}
use Rattle.mm_recovery.proofs.Below.{inl, inr, ◌⊎◌, nat_eq, nat_tests, Batch, One, Content, Instance, History, total_of, IsRight}
use Rattle.mm_recovery.proofs.Below.{total-push, BatchAnswer, Refusal, HistoryGrows, kept, grown, one_content, PendingRecord, IsSnapshotAt}
use Rattle.mm_recovery.proofs.Below.{IsAwaited, Some, Answer, batch_answer_of, AnswersAt, NamesPosition, IsGenuine, Bool, ◌&&◌, map, Option}
use Rattle.mm_recovery.proofs.Below.{None, Err, if◌then◌else◌, last_position, Variant, StepFault, Snapshot, tag_of, offered_snapshot_of}
use Rattle.mm_recovery.proofs.Below.{PartsFault, Move, Foreign, Life, life_of, is_lost, Reads, ask_steps, Memory, Lost, before_the_last}
use Rattle.mm_recovery.proofs.Below.{call_ending_by, result_of_ending, call_outcome, Course, End, StepFate, StepsWalk, walk, walk_from_step}
use Rattle.mm_recovery.proofs.Below.{moves_seen, state_seen, reading_steps, CallFinding, finding_by_verdict, finding_at, finding_with}
use Rattle.mm_recovery.proofs.Below.{finding_unless_wanting, is_fresh, list_level}
use Rattle.mm_call.specs.CallFinding.{Level, answer_on}
use Rattle.mm_recovery.proofs.Below.{state_after_moves, check_of_verdict, same_batches, seen_none, fault_of, IsWaiting}
use Rattle.mm_recovery.proofs.Below.{IsRefusedAs, call_commits, fresh_found, unlacked, found_with_tells, weighed_tells, unless_lost}
use Rattle.mm_recovery.proofs.Below.{more_batches, Commits, nothing, batch, bytes_eq, nat_le, Full}
use Rattle.std.proofs.lemmas.Bool.{le-leb}
use Rattle.std.proofs.lemmas.Slice.Eq.{bytes_eq-Decides}
use Rattle.mm_seal.specs.Parts.{parts_of}
use Rattle.mm_seal.specs.FieldLaws.{sealed_parts}
use Rattle.mm_model.specs.Verdicts.{is_last, verdict_by_tests}

pub one_more : (batches : List Batch) (request : List ℕ) → total_of (batches ++ One request ∷ []) ≡ total_of batches + 1
one_more batches request = total-push batches (One request)

pub awaited_least : (y : History) (p : PendingRecord) → IsAwaited y p → 1 ≤ p.position
awaited_least y p w = grind (arith, one_more, w)

pub awaited_then : (y after : History) (p : PendingRecord) → after.batches ≡ y.batches → IsAwaited y p → IsAwaited after p
awaited_then y after p same w = rw same w

-- what is held goes on to be, and is genuine
pub holds_on : (i : Instance) (y z : History) → ((content : Content) → NamesPosition i y content → NamesPosition i z content)
    → (bytes : List ℕ) (position : ℕ) → IsSnapshotAt i y bytes position → IsSnapshotAt i z bytes position
holds_on i y z names bytes position h =
    record { content = h.content; right = h.right; names = names h.content h.names; at = h.at }

pub genuine_by : (i : Instance) (y : History) (bytes : List ℕ) (position : ℕ) → IsSnapshotAt i y bytes position → IsGenuine i y bytes
genuine_by i y bytes position h =
    λ content right. subst (λ (x : Content). NamesPosition i y x) (one_content i bytes h.content content h.right right) h.names

pub eq_same : (n m : ℕ) → n ≡ m → nat_eq n m ≡ true
eq_same n m e = grind (arith, nat_tests, e)

eq_later : (n m : ℕ) → n ≡ m + 1 → nat_eq n m ≡ false
eq_later n m e = grind (arith, nat_tests, e)

pub grows : (i : Instance) (y : History) (p : PendingRecord) (offer : List ℕ) (after : History) (gives : Result BatchAnswer Refusal)
    → HistoryGrows i y offer (One p.request) after gives → (after.batches ≡ y.batches) ⊎ (after.batches ≡ y.batches ++ One p.request ∷ [])
grows i y p offer after gives c = grind (arith, c)

module _ (i : Instance) (y : History) (p : PendingRecord) (offer : List ℕ) (after : History) (w : IsAwaited y p)
    (h : IsSnapshotAt i y offer (p.position - 1)) where
  -- the offer says one thing: the position before the request's
  said : (content : Content) → IsRight i offer content → p.position - 1 ≡ content.position
  said content right = sym (ap (λ (c : Content). c.position) (one_content i offer content h.content right h.right) ∙ h.at)

  -- the request is awaited by what the call leaves
  pub still_awaited : (gives : Result BatchAnswer Refusal) → HistoryGrows i y offer (One p.request) after gives → IsAwaited after p
  still_awaited gives (kept same answers) = awaited_then y after p same w
  still_awaited gives (grown content right at more answers) = inr (
    omega (arith, said content right, at, awaited_least y p w, one_more y.batches p.request, ap total_of more),
    record { front = y.batches; is = sym more },
  )

  told_at : (answer : Answer) → p.position ≡ total_of after.batches
      → batch_answer_of answer ≡ answer_on i after (One p.request) (nat_eq p.position (total_of y.batches))
      → AnswersAt i y (Some p) after answer × (answer.position ≡ p.position)
  told_at answer at is =
      (record { p = p; waits = refl; position = at; answer_is = is }, ap (λ (b : BatchAnswer). b.position) is ∙ sym at)

  -- and is answered at its position
  pub answered_at : (answer : Answer) → HistoryGrows i y offer (One p.request) after (Ok (batch_answer_of answer))
      → AnswersAt i y (Some p) after answer × (answer.position ≡ p.position)
  answered_at answer (kept same gives) =
      let g = gives (batch_answer_of answer) refl in
      let here : p.position ≡ total_of y.batches =
      omega (arith, said g.content g.right, g.position, awaited_least y p w, one_more g.ends.front p.request, ap total_of g.ends.is) in
      told_at answer (here ∙ ap total_of (sym same))
      (g.answer_is ∙ ap (answer_on i after (One p.request)) (sym (eq_same p.position (total_of y.batches) here)))
  answered_at answer (grown content right at more gives) =
      let next : p.position ≡ total_of y.batches + 1 = omega (arith, said content right, at, awaited_least y p w) in
      told_at answer (omega (arith, next, one_more y.batches p.request, ap total_of more))
      (gives (batch_answer_of answer) refl ∙ ap (answer_on i after (One p.request)) (sym (eq_later p.position (total_of y.batches) next)))

-- for want of memory, or as the history's life says
abbrev pub MayRefuse : Refusal → Life → Type 0
MayRefuse why life = (why ≡ Memory) ⊎ IsRefusedAs why life

-- What is known of the offer when it is examined: it is right, and says the position before the awaited request's.
pub record IsOffered (i : Instance) (s : History) (p : PendingRecord) (offer : List ℕ) : Type 0 where
  pub content : Content
  pub right : IsRight i offer content
  pub at : content.position ≡ p.position - 1
  pub awaited : IsAwaited s p
  pub most : p.position ≤ last_position

pub offered_then : (i : Instance) (y s : History) (p : PendingRecord) (offer : List ℕ) → s.batches ≡ y.batches → IsOffered i y p offer
    → IsOffered i s p offer
offered_then i y s p offer same o =
    record { content = o.content; right = o.right; at = o.at; awaited = awaited_then y s p same o.awaited; most = o.most }

-- a record that waits is one of those that were read, so its position is at most 2^48
pub waiting_most : (two three : List ℕ) (waiting : Option PendingRecord) (p : PendingRecord) → IsWaiting two three waiting
    → waiting ≡ Some p
    → p.position ≤ last_position
waiting_most two three waiting p w e = grind (arith, w, e)

-- the position is the last one, or the request is a repeat
placed_by : (s : History) (p : PendingRecord) (position : ℕ) → position ≡ p.position - 1 → IsAwaited s p → 1 ≤ p.position
    → (nat_eq position (total_of s.batches) ≡ true)
    ⊎ ((nat_eq (position + 1) (total_of s.batches) && is_last s.batches (One p.request)) ≡ true)
placed_by s p position at (inl next) least = inl (eq_same position (total_of s.batches) (omega (arith, at, next)))
placed_by s p position at (inr done) least =
    let here : position ≡ total_of done.1.front =
    omega (arith, at, done.0, least, one_more done.1.front p.request, ap total_of done.1.is) in
    inr (rw here ((before_the_last s.batches done.1.front (One p.request ∷ []) (One p.request) (sym done.1.is)).1 done.1.is))

-- so it is found, or refused as the life says
abbrev AsLife : Life → Result CallFinding Refusal → Type 0
AsLife _ (Ok found) = Unit {0}
AsLife life (Err why) = IsRefusedAs why life

abbrev FindsAs : Life → Content → Result Bool Refusal → Type 0
FindsAs life content examined = AsLife life (if is_lost life then Err Lost else finding_with content examined)

admitted_here : (life : Life) (content : Content) (here repeat : Bool) → (here ≡ true) ⊎ (repeat ≡ true)
    → FindsAs life content (check_of_verdict (verdict_by_tests life here repeat) true)
admitted_here ends content here repeat h = grind (arith, h)

-- what is found of a right offer, by whether the position is the last one, and by whether there is a next one
found_of : (i : Instance) (s : History) (offer request : List ℕ) (content : Content) → IsRight i offer content
    → finding_at i (list_level i) s (One request) offer
    ≡ (if is_lost (life_of i.variant s) then Err Lost else finding_with content
    (check_of_verdict (verdict_by_tests (life_of i.variant s) (nat_eq content.position (total_of s.batches))
    (nat_eq (content.position + 1) (total_of s.batches) && is_last s.batches (One request)))
    (nat_le (content.position + 1) last_position)))
found_of i s offer request content right =
    let parts : parts_of i.variant i.meaning.id offer ≡ Ok (offered_snapshot_of i.key content) =
    ap (λ (bytes : List ℕ). parts_of i.variant i.meaning.id bytes) right.sealed
    ∙ sealed_parts i.key content i.variant i.meaning.id right.formed right.variant right.id in
    ap (λ (x : Result Snapshot PartsFault).
    if is_lost (life_of i.variant s) then Err Lost else finding_by_verdict i (list_level i) s (One request) x) parts
    ∙ rw (right.state, (bytes_eq-Decides (tag_of i.key content) (tag_of i.key content)).1 refl) refl

-- Behind the last position a new request is refused as Full, or as the life says.
refused_full : (life : Life) (content : Content) (here repeat fits : Bool) (why : Refusal) → here ≡ true → fits ≡ false
    → (if is_lost life then Err Lost else finding_with content (check_of_verdict (verdict_by_tests life here repeat) fits)) ≡ Err why
    → (why ≡ Full) ⊎ IsRefusedAs why life
refused_full ends content here repeat fits why h f e = grind (arith, h, f, e)

beyond : (n m : ℕ) → n ≡ m → nat_le (n + 1) m ≡ false
beyond n m e = grind (arith, nat_tests, e)

pub found_full : (i : Instance) (s : History) (offer request : List ℕ) (content : Content) → IsRight i offer content
    → content.position ≡ total_of s.batches → total_of s.batches ≡ last_position → (why : Refusal)
    → finding_at i (list_level i) s (One request) offer ≡ Err why → (why ≡ Full) ⊎ IsRefusedAs why (life_of i.variant s)
found_full i s offer request content right at full why e =
    refused_full (life_of i.variant s) content (nat_eq content.position (total_of s.batches))
    (nat_eq (content.position + 1) (total_of s.batches) && is_last s.batches (One request))
    (nat_le (content.position + 1) last_position) why (eq_same content.position (total_of s.batches) at)
    (beyond content.position last_position (at ∙ full)) (sym (found_of i s offer request content right) ∙ e)

pub found_refused : (i : Instance) (s : History) (p : PendingRecord) (offer : List ℕ) (o : IsOffered i s p offer) (why : Refusal)
    → finding_at i (list_level i) s (One p.request) offer ≡ Err why → IsRefusedAs why (life_of i.variant s)
found_refused i s p offer o why e =
    let life : Life = life_of i.variant s in
    let least : 1 ≤ p.position = awaited_least s p o.awaited in
    let fits : o.content.position + 1 ≤ last_position = omega (arith, o.at, o.most, least) in
    let parts : parts_of i.variant i.meaning.id offer ≡ Ok (offered_snapshot_of i.key o.content) =
    ap (λ (bytes : List ℕ). parts_of i.variant i.meaning.id bytes) o.right.sealed
    ∙ sealed_parts i.key o.content i.variant i.meaning.id o.right.formed o.right.variant o.right.id in
    subst (λ (found : Result CallFinding Refusal). AsLife life found)
    (ap (λ (x : Result Snapshot PartsFault). if is_lost life then Err Lost else finding_by_verdict i (list_level i) s (One p.request) x)
    (sym parts) ∙ e)
    (rw (
      o.right.state,
      (bytes_eq-Decides (tag_of i.key o.content) (tag_of i.key o.content)).1 refl,
      le-leb (o.content.position + 1) last_position fits,
    )
    (admitted_here life o.content (nat_eq o.content.position (total_of s.batches))
    (nat_eq (o.content.position + 1) (total_of s.batches) && is_last s.batches (One p.request))
    (placed_by s p o.content.position o.at o.awaited least)))

-- a refusal that hands on no device's fault is what was found, and no step failed
ended_found : {S : Type 0} (level : Level S) (seen end : S) (b : Batch) (found : Result CallFinding Refusal) (moves : List Move)
    (broken : Option StepFault) (why : Refusal) → result_of_ending (call_ending_by level seen end b found moves broken) ≡ Err why
    → fault_of why ≡ None → (found ≡ Err why) × (broken ≡ None)
ended_found level seen end b found moves broken why e none = grind (arith, e, none)

-- where nothing was found, the call made its reading steps alone
read_then : (values : List (List ℕ)) (ends : End) (rest : StepsWalk) (seen : List Move) → (rest.broken ≡ None → rest.moves ≡ seen)
    → (walk_from_step Reads values ends rest).broken ≡ None → (walk_from_step Reads values ends rest).moves ≡ map Foreign values ++ seen
read_then values ends rest seen h e = grind (arith, h, e)

read_alone : (variant : Variant) (fates : ℕ → StepFate) (flag fresh : Bool) (b : Batch) → fresh ≡ false
    → (walk fates 1 (ask_steps variant flag fresh b)).broken ≡ None
    → (walk fates 1 (ask_steps variant flag fresh b)).moves ≡ moves_seen fates (reading_steps variant) 1
read_alone variant fates flag fresh b e whole = grind (arith, read_then, e, whole)

-- memory may be wanting besides
lacking_or : (found : Result CallFinding Refusal) (lacks : Bool) (why : Refusal) → finding_unless_wanting found lacks ≡ Err why
    → (why ≡ Memory) ⊎ (found ≡ Err why)
lacking_or found lacks why e = grind (arith, e)

-- so such a call leaves what it saw, and is refused as the offer is there, by either level
module _ {S : Type 0} (level : Level S) (i : Instance) (s : S) (c : Course) (b : Batch) (offer : List ℕ) (why : Refusal)
    (e : result_of_ending (call_outcome i level s c offer b).ending ≡ Err why) (none : fault_of why ≡ None) where
  left_seen : ((call_outcome i level s c offer b).state ≡ state_seen i level s c)
      × (finding_unless_wanting (finding_at i level (state_seen i level s c) b offer) c.lacks ≡ Err why)
  left_seen =
      let seen : S = state_seen i level s c in
      let found : Result CallFinding Refusal = finding_unless_wanting (finding_at i level seen b offer) c.lacks in
      let flag : Bool = level.is_open s in
      let w : StepsWalk = walk c.fates 1 (ask_steps i.variant flag (is_fresh found) b) in
      let f = ended_found level seen (state_after_moves level s w.moves) b found w.moves w.broken why e none in
      (ap (state_after_moves level s) (read_alone i.variant c.fates flag (is_fresh found) b (ap is_fresh f.0) f.1), f.0)

  pub judged_refused : (why ≡ Memory) ⊎ (finding_at i level (call_outcome i level s c offer b).state b offer ≡ Err why)
  judged_refused =
      rw left_seen.0
      (lacking_or (finding_at i level (state_seen i level s c) b offer) c.lacks why left_seen.1)

pub keeps_refused : (i : Instance) (y : History) (c : Course) (b : Batch) (offer : List ℕ) (why : Refusal)
    → result_of_ending (call_outcome i (list_level i) y c offer b).ending ≡ Err why → fault_of why ≡ None
    → (call_outcome i (list_level i) y c offer b).state.batches ≡ y.batches
keeps_refused i y c b offer why e none =
    ap (λ (z : History). z.batches) (left_seen (list_level i) i y c b offer why e none).0
    ∙ same_batches i (moves_seen c.fates (reading_steps i.variant) 1) y (seen_none c.fates (reading_steps i.variant) 1)

-- Where a call commits there was a position for it.

admitted_room : (life : Life) (here repeat fits again : Bool) → check_of_verdict (verdict_by_tests life here repeat) fits ≡ Ok again
    → again ≡ false
    → (here ≡ true) × (fits ≡ true)
admitted_room ends here repeat fits again e new = grind (arith, e, new)

within_last : (n total : ℕ) → nat_eq n total ≡ true → nat_le (n + 1) last_position ≡ true → total + 1 ≤ last_position
within_last n total here fits = grind (arith, nat_tests, here, fits)

module _ (i : Instance) (s : History) (request : List ℕ) where
  room_from : (parts : Result Snapshot PartsFault) (found : CallFinding) → finding_by_verdict i (list_level i) s (One request) parts
      ≡ Ok found
      → found.again ≡ false → total_of s.batches + 1 ≤ last_position
  room_from (Err why) found e new = grind (arith, e)
  room_from (Ok snapshot) found e new =
      let content : Content = snapshot.content in
      let t = found_with_tells content _ found e in
      let w = weighed_tells (i.meaning.is_spelled content.state) (bytes_eq snapshot.tag (tag_of i.key content)) _ _ found.again t.1 in
      let a = admitted_room (life_of i.variant s) (nat_eq content.position (total_of s.batches))
      (nat_eq (content.position + 1) (total_of s.batches) && is_last s.batches (One request))
      (nat_le (content.position + 1) last_position) found.again w.2 new in
      within_last content.position (total_of s.batches) a.0 a.1

  room_at : (offer : List ℕ) (found : CallFinding) → finding_at i (list_level i) s (One request) offer ≡ Ok found → found.again ≡ false
      → total_of s.batches + 1 ≤ last_position
  room_at offer found e new =
      room_from (parts_of i.variant i.meaning.id offer) found (unless_lost (is_lost (life_of i.variant s)) _ found e) new

module _ (i : Instance) (y : History) (c : Course) (request offer : List ℕ) where
  room_by : (w : StepsWalk) (found : Result CallFinding Refusal)
      → finding_unless_wanting (finding_at i (list_level i) (state_seen i (list_level i) y c) (One request) offer) c.lacks ≡ found
      → Commits (One request) (is_fresh found) w
      → ((state_after_moves (list_level i) y w.moves).batches ≡ y.batches) ⊎ (total_of (state_after_moves (list_level i) y w.moves).batches
      ≤ last_position)
  room_by w found is (nothing none unless) = inl (same_batches i w.moves y none)
  room_by w found is (batch one fresh) =
      let f = fresh_found found fresh in
      let seen : (state_seen i (list_level i) y c).batches ≡ y.batches =
      same_batches i (moves_seen c.fates (reading_steps i.variant) 1) y (seen_none c.fates (reading_steps i.variant) 1) in
      let fits = room_at i (state_seen i (list_level i) y c) request offer f.0 (unlacked _ c.lacks f.0 (is ∙ f.1)) f.2 in
      inr (omega (arith, fits, ap total_of seen, ap total_of (more_batches i w.moves y (One request) one), one_more y.batches request))

  pub has_room : ((call_outcome i (list_level i) y c offer (One request)).state.batches ≡ y.batches)
      ⊎ (total_of (call_outcome i (list_level i) y c offer (One request)).state.batches ≤ last_position)
  has_room =
      let found : Result CallFinding Refusal =
      finding_unless_wanting (finding_at i (list_level i) (state_seen i (list_level i) y c) (One request) offer) c.lacks in
      room_by (walk c.fates 1 (ask_steps i.variant y.is_open (is_fresh found) (One request))) found refl
      (call_commits i.variant c.fates y.is_open (is_fresh found) (One request))
