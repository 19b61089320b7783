-- What may be relied on in any life. With it: each answer that a session told has a position from 1
-- on.
use Rattle.std.specs.List.{AllByRecursion}
use Rattle.std.proofs.Common.{◌≡◌, ◌≤◌, ℕ, List, [], ◌∷◌, Option, None, Some, Result, Ok, Err, refl, subst, inl, inr, ◌∙◌, ◌⊎◌, ◌+◌, ◌-◌}
use Rattle.std.proofs.Common.{Bool, true, false, ◌++◌, length, take, sym, ap, arith, append_assoc, length-append}
use Rattle.std.proofs.lemmas.List.{append-nil}
use Rattle.std.proofs.Math.Seq.{take-append_seam}
use Rattle.mm_module.specs.Batch.{Batch, members_of}
use Rattle.mm_module.specs.Meaning.{outputs_from}
use Rattle.mm_module.specs.RunLaws.{state_after-push}
use Rattle.mm_model.specs.declared.answer.BatchAnswer.{BatchAnswer}
use Rattle.mm_schedule.specs.Replies.{IsTold}
use Rattle.mm_client.specs.ClientLife.{AskingTells, OwnOutputsTell, RepliesTellRequests, SessionsSendReplies, TellsSince}
use Rattle.mm_client.specs.ClientLife.{WholeSessionsTellAll, answer_told, heard_from, life_told, part_told, replies_of, IsTrueReply}
use Rattle.mm_client.specs.declared.heard.HeardReply.{HeardReply}
use Rattle.mm_client.proofs.Beginning.{ArePositive, Began, answers, at_start, found, LinesGo, lines_go, next_line, served_unbroken}
use Rattle.mm_client.proofs.Beginning.{all_true_on, runs_grow, step_grows, told_true}
use Rattle.mm_client.proofs.Below.{Variant, Meaning, Standing, StoreFault, StoreStanding, Answer, Refusal, HostFault, HostStanding, Resumed}
use Rattle.mm_client.proofs.Below.{Start, Answered, each_append, HostGoesAfterAsk, HostGoesAfterFinding, HostGoesAfterOffer}
use Rattle.mm_client.proofs.Below.{HostGoesAfterRecord, IsCall, host_of, PendingRecord, ServedCall, ServesCalls, SessionPlace, IsSession}
use Rattle.mm_client.proofs.Below.{SessionStanding, SessionFault, SessionGoesAfterResume, first_served_call, served_calls_in}
use Rattle.mm_client.proofs.Below.{result_of_keep, result_of_start, last_bytes_in, One, state_after, IsBatchStep, Told, answer_reply}
use Rattle.mm_client.proofs.Below.{CallSteps, LifeFollows, PartSteps, SessionSteps, Calls, Checkpoints, Extends, LosesPower, Does, Holds}
use Rattle.mm_client.proofs.Below.{IsLife, LifePart, LifeStage, PartLeads, CallsRunOver, HasUntoldRequest, TurnGoes, turn_answer_of}
use Rattle.mm_client.proofs.Below.{lines_of, IsUnbroken, joined_lines, served_calls_of, served_lines, found_record, IsInHand, IsInHandOf}
use Rattle.mm_client.proofs.Below.{replies_to, reply_text}
use Rattle.mm_client.proofs.OneSession.{none_served}

-- Each answer that a session told has a position from 1 on.

kept_is : (a answer : Answer) (written : Result Unit StoreFault) → Ok (Answered answer) ≡ result_of_keep a written → a ≡ answer
kept_is a answer (Ok it) e = cc
kept_is a answer (Err why) e = absurd (cc)

asked_is : (asked : Result Answer Refusal) (old new : StoreStanding) (answer : Answer)
    → HostGoesAfterAsk asked old new (Ok (Answered answer)) → asked ≡ Ok answer
asked_is (Err why) old new answer g = let e = g.1 in absurd (cc)
asked_is (Ok a) old new answer g = let e = kept_is a answer g.written g.gives in cc

start_isnt : (zero : Result (List ℕ) StoreFault) (answer : Answer) → Ok (Answered answer) ≡ result_of_start zero → ⊥
start_isnt (Ok bytes) answer e = cc
start_isnt (Err why) answer e = cc

begun_is : (begun : Result Resumed HostFault) (first : Resumed) (answer : Answer) → first ≡ Answered answer → begun ≡ Ok first
    → begun ≡ Ok (Answered answer)
begun_is begun first answer e b = cc

module _ (variant : Variant) (meaning : Meaning) where
  pub call_positive : (old new : Standing) (offer request : List ℕ) (asked : Result Answer Refusal) (answer : Answer)
      → IsCall variant meaning old new offer request asked → asked ≡ Ok answer → 1 ≤ answer.position
  call_positive old new offer request asked answer c e =
      (subst (λ (r : Result Answer Refusal). IsCall variant meaning old new offer request r) e c).fits.least

  recorded_positive : (recorded : Result Unit StoreFault) (middle new : HostStanding) (last : Resumed) (line : List ℕ) (answer : Answer)
      → HostGoesAfterRecord variant meaning recorded middle new last line (Ok (Answered answer)) → 1 ≤ answer.position
  recorded_positive (Err why) middle new last line answer g = let e = g.1 in absurd (cc)
  recorded_positive (Ok it) middle new last line answer g =
      call_positive middle.standing new.standing _ line g.asked answer g.asks (asked_is g.asked middle.kept new.kept answer g.goes)

  lines_positive : (calls : List ServedCall) (from to : SessionPlace) → ServesCalls variant meaning from calls to
      → ArePositive meaning calls
  lines_positive [] from to s = tt
  lines_positive (c ∷ calls) from to s = (
    recorded_positive s.asks.recorded _ s.host from.last c.line c.answer s.asks.goes,
    lines_positive calls (record { host = s.host; last = Answered c.answer }) to s.rest,
  )

  offered_positive : (offer : Result (List ℕ) StoreFault) (middle new : HostStanding) (p : PendingRecord) (answer : Answer)
      → HostGoesAfterOffer variant meaning offer middle new p (Ok (Answered answer)) → 1 ≤ answer.position
  offered_positive (Err why) middle new p answer g = let e = g.1 in absurd (cc)
  offered_positive (Ok offer) middle new p answer g =
      call_positive middle.standing new.standing offer p.request g.asked answer g.asks
      (asked_is g.asked middle.kept new.kept answer g.goes)

  found_positive : (waiting : Result (Option PendingRecord) StoreFault) (middle new : HostStanding) (answer : Answer)
      → HostGoesAfterFinding variant meaning waiting middle new (Ok (Answered answer)) → 1 ≤ answer.position
  found_positive (Err why) middle new answer g = let e = g.1 in absurd (cc)
  found_positive (Ok None) middle new answer g = absurd (start_isnt g.1.zero answer g.1.gives)
  found_positive (Ok (Some p)) middle new answer g = offered_positive g.offer (record middle { kept = g.middle }) new p answer g.goes

  first_positive : (waiting : Option PendingRecord) (first : Resumed) → ((answer : Answer) → first ≡ Answered answer → 1 ≤ answer.position)
      → ArePositive meaning (first_served_call waiting first)
  first_positive None first h = tt
  first_positive (Some p) (Start bytes) h = tt
  first_positive (Some p) (Answered answer) h = (h answer refl, tt)

  pub session_positive : {old new : SessionStanding} {result : Result Unit SessionFault} (s : IsSession variant meaning old new result)
      (w : Option PendingRecord)
      (goes : SessionGoesAfterResume variant meaning s.begun s.middle (host_of new) new.left s.taken s.sent result)
      → ArePositive meaning (served_calls_in w goes)
  session_positive s w (inl e) = tt
  session_positive {old} s w (inr g) =
      each_append (λ (c : ServedCall). 1 ≤ c.answer.position) (first_served_call w g.first) g.lines.calls
      (first_positive w g.first (λ answer is.
      found_positive s.resumes.waiting _ s.middle answer
      (subst (λ x. HostGoesAfterFinding variant meaning s.resumes.waiting (record (host_of old) { kept = s.resumes.middle }) s.middle x)
      (begun_is s.begun g.first answer is g.begins) s.resumes.goes)))
      (lines_positive g.lines.calls (record { host = s.middle; last = g.first }) g.lines.at g.lines.serves)

-- What may be relied on in any life.

abbrev pub IsGrown : List (List ℕ) → List (List ℕ) → Type 0
IsGrown requests after = (more : List (List ℕ)) × (requests ++ more ≡ after)

same_grown : (requests after : List (List ℕ)) → after ≡ requests → IsGrown requests after
same_grown requests after e = ([], append-nil requests ∙ sym e)

grown_then : (a b c : List (List ℕ)) → IsGrown a b → IsGrown b c → IsGrown a c
grown_then a b c x y = (x.0 ++ y.0, sym (append_assoc a x.0 y.0) ∙ ap (λ (xs : List (List ℕ)). xs ++ y.0) x.1 ∙ y.1)

committed_grown : (hand : List ℕ → Type 0) (result : Result Unit SessionFault) (between after : List (List ℕ))
    → (after ≡ between) ⊎ HasUntoldRequest hand result between after → IsGrown between after
committed_grown hand result between after (inl same) = same_grown between after same
committed_grown hand result between after (inr u) = (u.request ∷ [], sym u.grown)

-- a part grows the list, and what it tells is true of it
pub record PartTells (meaning : Meaning) (requests after : List (List ℕ)) (told : List HeardReply) : Type 0 where
  pub grown : IsGrown requests after
  pub trues : AllByRecursion (IsTrueReply meaning after) told

module _ (variant : Variant) (meaning : Meaning) where
  -- what is told of a batch, from the requests before it
  trues_from : (members : List (List ℕ)) (front later outputs : List (List ℕ)) (before : ℕ) → before ≡ length front
      → outputs ≡ outputs_from meaning (state_after meaning front) members
      → AllByRecursion (IsTrueReply meaning (front ++ (members ++ later))) (heard_from before outputs)
  trues_from [] front later outputs before counted said = rw said tt
  trues_from (member ∷ members) front later outputs before counted said =
      let next : List (List ℕ) = front ++ member ∷ [] in
      let size : before + 1 ≡ length next = omega (arith, counted, length-append front (member ∷ [])) in
      let rest = trues_from members next later (outputs_from meaning (state_after meaning next) members) (before + 1) size refl in
      rw said (
        record {
          before = front;
          request = member;
          later = members ++ later;
          stands = refl;
          position = ap (λ (n : ℕ). n + 1) counted;
          says = refl;
        },
        subst (λ (state : List ℕ). AllByRecursion (IsTrueReply meaning (front ++ (member ∷ (members ++ later))))
            (heard_from (before + 1) (outputs_from meaning state members))) (state_after-push meaning front member)
            (subst (λ (requests : List (List ℕ)). AllByRecursion (IsTrueReply meaning requests)
            (heard_from (before + 1) (outputs_from meaning (state_after meaning next) members)))
            (append_assoc front (member ∷ []) (members ++ later)) rest),
      )

  told_trues : (requests after outputs : List (List ℕ)) (batch : Batch) (before : ℕ) → IsTold meaning requests batch before outputs after
      → AllByRecursion (IsTrueReply meaning after) (heard_from before outputs)
  told_trues requests after outputs batch before t =
      subst (λ (list : List (List ℕ)). AllByRecursion (IsTrueReply meaning list) (heard_from before outputs))
      (ap (λ (xs : List (List ℕ)). requests ++ xs) (append-nil (members_of batch)) ∙ sym t.grown)
      (trues_from (members_of batch) requests [] outputs before t.counted t.said)

  batch_tells : (again : Bool) (before : ℕ) (outputs : List (List ℕ)) (batch : Batch) (requests after : List (List ℕ))
      → IsBatchStep meaning requests batch (Told again before outputs) after → PartTells meaning requests after (heard_from before outputs)
  batch_tells false before outputs batch requests after s =
      record { grown = (members_of batch, sym s.grown); trues = told_trues requests after outputs batch before s }
  batch_tells true before outputs batch requests after s = record {
    grown = same_grown requests after s.2;
    trues = rw s.2 (told_trues s.0 requests outputs batch before s.1);
  }

  call_tells : (batch : Batch) (gives : Result BatchAnswer Refusal) (requests after : List (List ℕ))
      → CallSteps meaning requests batch gives after → PartTells meaning requests after (answer_told gives)
  call_tells batch (Ok answer) requests after s =
      batch_tells answer.again (answer.position - length answer.outputs) answer.outputs batch requests after s
  call_tells batch (Err why) requests after (inl same) = record { grown = same_grown requests after same; trues = tt }
  call_tells batch (Err why) requests after (inr u) = record { grown = (members_of batch, sym u.1); trues = tt }

  pub part_tells : (old : Standing) (part : LifePart) (new : Standing) (f : PartLeads variant meaning old part new)
      (requests after : List (List ℕ)) → PartSteps variant meaning old part new f requests after
      → PartTells meaning requests after (part_told variant meaning old part new f)
  part_tells old (Holds p) new f requests after s =
      let told : List ServedCall = served_calls_of f in
      let grown = committed_grown (IsInHandOf f) p.result s.between after s.committed in
      record {
        grown = grown_then requests s.between after (runs_grow meaning told requests s.between s.run) grown;
        trues = all_true_on meaning s.between grown.0 after (replies_of told) grown.1
            (told_true meaning told requests s.between (session_positive variant meaning f (found_record f.resumes.waiting) f.goes) s.run);
      }
  part_tells old (Does (Calls c)) new f requests after s = call_tells c.batch c.gives requests after s
  part_tells old (Does (Extends values)) new f requests after s = record { grown = same_grown requests after s; trues = tt }
  part_tells old (Does LosesPower) new f requests after s = record { grown = same_grown requests after s; trues = tt }
  part_tells old (Does (Checkpoints said)) new f requests after s = record { grown = same_grown requests after s; trues = tt }

  life_tells : (stages : List LifeStage) (start : Standing) (f : IsLife variant meaning start stages) (requests after : List (List ℕ))
      → LifeFollows variant meaning start stages f requests after
      → PartTells meaning requests after (life_told variant meaning start stages f)
  life_tells [] start f requests after l = record { grown = same_grown requests after l; trues = tt }
  life_tells (stage ∷ stages) start f requests after l =
      let here = part_tells start stage.part stage.after f.0 requests l.0 l.1 in
      let rest = life_tells stages stage.after f.1 l.0 after l.2 in
      record {
        grown = grown_then requests l.0 after here.grown rest.grown;
        trues = each_append (IsTrueReply meaning after) (part_told variant meaning start stage.part stage.after f.0)
            (life_told variant meaning stage.after stages f.1)
            (all_true_on meaning l.0 rest.grown.0 after (part_told variant meaning start stage.part stage.after f.0) rest.grown.1
            here.trues)
            rest.trues;
      }

pub replies_tell : RepliesTellRequests
replies_tell variant meaning start stages f before after l = (life_tells variant meaning stages start f before after l).trues

pub own_outputs_tell : OwnOutputsTell
own_outputs_tell meaning requests reply own t is_own = record {
  before = t.before;
  later = t.later;
  stands =
      t.stands ∙ ap (λ (r : List ℕ). t.before ++ r ∷ t.later) (is_own t.before t.request t.later t.stands (sym t.says));
  at = t.position;
}

-- A session without a line.

none_more : (known more after : List (List ℕ)) → known ++ more ≡ after → length after ≤ length known → after ≡ known
none_more known [] after e few = sym e ∙ append-nil known
none_more known (x ∷ more) after e few =
    absurd (omega (
      arith,
      few,
      ap (λ (xs : List (List ℕ)). length xs) e,
      length-append known (x ∷ more),
    ))

same_front : (a b c d : List (List ℕ)) → length a ≡ length b → a ++ c ≡ b ++ d → a ≡ b
same_front a b c d size e =
    sym (take-append_seam a c) ∙ ap (λ (xs : List (List ℕ)). take (length a) xs) e
    ∙ ap (λ (n : ℕ). take n (b ++ d)) size ∙ take-append_seam b d

-- how a step ends
record StepEnds (meaning : Meaning) (line : List ℕ) (position : ℕ) (output : List ℕ) (after : List (List ℕ)) : Type 0 where
  earlier : List (List ℕ)
  is : after ≡ earlier ++ line ∷ []
  counted : position - 1 ≡ length earlier
  says : output ≡ meaning.says (state_after meaning earlier) line

step_ends : (meaning : Meaning) (again : Bool) (requests after : List (List ℕ)) (line output : List ℕ) (position : ℕ)
    → IsBatchStep meaning requests (One line) (Told again (position - 1) (output ∷ [])) after → StepEnds meaning line position output after
step_ends meaning false requests after line output position s =
    record { earlier = requests; is = s.grown; counted = s.counted; says = let said = s.said in cc }
step_ends meaning true requests after line output position s =
    record { earlier = s.0; is = s.2 ∙ s.1.grown; counted = s.1.counted; says = let said = s.1.said in cc }

tells_since : (meaning : Meaning) (known requests after : List (List ℕ)) (c : ServedCall) → 1 ≤ c.answer.position
    → IsGrown known requests → IsBatchStep meaning requests (One c.line) (answer_reply c.answer) after → TellsSince meaning known after c
tells_since meaning known requests after c least k s =
    let e = step_ends meaning c.answer.again requests after c.line c.answer.output c.answer.position s in
    let grown = grown_then known requests after k
    (step_grows meaning c.answer.again requests after c.line (c.answer.position - 1) (c.answer.output ∷ []) s) in
    let size : length after ≡ length e.earlier + 1 =
    ap (λ (xs : List (List ℕ)). length xs) e.is ∙ length-append e.earlier (c.line ∷ []) in
    record {
      number = omega (arith, e.counted, size, least);
      none_since = λ few. none_more known grown.0 after grown.1 (omega (arith, e.counted, size, least, few));
      one_since = λ one.
          let same : e.earlier ≡ known =
          same_front e.earlier known (c.line ∷ []) grown.0 (omega (arith, e.counted, one)) (sym e.is ∙ sym grown.1) in (
            e.is ∙ ap (λ (xs : List (List ℕ)). xs ++ c.line ∷ []) same,
            e.says ∙ ap (λ (xs : List (List ℕ)). meaning.says (state_after meaning xs) c.line) same,
          );
    }

module _ {variant : Variant} {meaning : Meaning} {old new : SessionStanding} {result : Result Unit SessionFault}
    (s : IsSession variant meaning old new result) (w : Option PendingRecord) where
  abbrev Goes : Type 0
  Goes = SessionGoesAfterResume variant meaning s.begun s.middle (host_of new) new.left s.taken s.sent result

  one_told : (x : Option PendingRecord) (first : Resumed) (calls : List ServedCall) → calls ≡ []
      → (first_served_call x first ++ calls ≡ []) ⊎ ((c : ServedCall) × (first_served_call x first ++ calls ≡ c ∷ []))
  one_told None first calls none = inl none
  one_told (Some p) (Start bytes) calls none = inl none
  one_told (Some p) (Answered answer) calls none =
      let c : ServedCall = record { line = p.request; answer = answer } in inr (c, ap (λ (cs : List ServedCall). c ∷ cs) none)

  asked_tells : (goes : Goes) (known requests after : List (List ℕ)) → IsGrown known requests
      → SessionSteps meaning requests (served_calls_in w goes) (IsInHand w goes) (last_bytes_in goes) result after → old.left ≡ Some []
      → (served_calls_in w goes ≡ [])
      ⊎ ((c : ServedCall) × (served_calls_in w goes ≡ c ∷ []) × TellsSince meaning known after c)
  asked_tells (inl e) known requests after k steps left = inl refl
  asked_tells (inr g) known requests after k steps left =
      let served : List (List ℕ) = served_lines g.lines.calls in
      let go : LinesGo [] old.left new.left served g.lines.more =
      lines_go [] served old.left new.left s.taken g.lines.more tt
      (served_unbroken variant meaning g.lines.calls (record { host = s.middle; last = g.first }) g.lines.at g.lines.serves)
      (record { bytes = []; lost = []; told = left; front = refl }) s.consumed g.lines.took in
      let none : g.lines.calls ≡ [] = none_served g.lines.calls (lines_of (g.lines.more ++ go.behind)) go.are in
      let same : after ≡ steps.between = elim steps.committed [
        | inl is ↦ is
        | inr u ↦
            let hand = u.in_hand in
            let next = next_line g.lines.more u.request hand.0 go.behind hand.1.cut hand.1.within.unbroken in
            let few = ap (λ (xs : List (List ℕ)). length xs) (go.are ∙ ap (λ (xs : List (List ℕ)). served ++ xs) next) in
            absurd (omega (arith, few, length-append served (u.request ∷ lines_of (hand.0 ++ go.behind))))
      ] in
      elim (one_told w g.first g.lines.calls none) [
        | inl nothing ↦ inl nothing
        | inr one ↦
            let run = subst (λ (cs : List ServedCall). CallsRunOver meaning requests cs steps.between) one.1 steps.run in
            let positive = subst (λ (cs : List ServedCall). AllByRecursion (λ (c : ServedCall). 1 ≤ c.answer.position) cs) one.1
            (session_positive variant meaning s w (inr g)) in
            inr (
              one.0,
              one.1,
              tells_since meaning known requests after one.0 positive.0 k
                  (subst (λ (xs : List (List ℕ)). IsBatchStep meaning requests (One (one.0).line) (answer_reply (one.0).answer) xs)
                  (sym run.2 ∙ sym same) run.1),
            )
      ]

  whole_told : (goes : Goes) (lines : List (List ℕ)) → AllByRecursion IsUnbroken lines
      → old.left ≡ Some (joined_lines lines) → result ≡ Ok tt
      → (served_lines (served_calls_in w goes) ≡ lines)
      ⊎ ((first : List ℕ) × (served_lines (served_calls_in w goes) ≡ first ∷ lines))
  whole_told (inl e) lines unbroken left ended = let is = e.1.stops in absurd (cc)
  whole_told (inr g) lines unbroken left ended =
      let served : List (List ℕ) = served_lines g.lines.calls in
      let go : LinesGo lines old.left new.left served g.lines.more =
      lines_go lines served old.left new.left s.taken g.lines.more unbroken
      (served_unbroken variant meaning g.lines.calls (record { host = s.middle; last = g.first }) g.lines.at g.lines.serves)
      (record { bytes = joined_lines lines; lost = []; told = left; front = append-nil _ }) s.consumed
      g.lines.took in
      let e = subst (λ (r : Result Unit SessionFault).
      TurnGoes variant meaning (length g.lines.calls + 1) g.lines.at (host_of new) new.left g.lines.more [] g.lines.last
      (turn_answer_of r)) ended g.lines.ends in
      behind_first w g.first g.lines.calls lines (sym (go.all left e.2 e.1))
    where
      behind_first : (x : Option PendingRecord) (first : Resumed) (calls : List ServedCall) (lines : List (List ℕ))
          → served_lines calls ≡ lines → (served_lines (first_served_call x first ++ calls) ≡ lines)
          ⊎ ((one : List ℕ) × (served_lines (first_served_call x first ++ calls) ≡ one ∷ lines))
      behind_first None first calls lines e = inl e
      behind_first (Some p) (Start bytes) calls lines e = inl e
      behind_first (Some p) (Answered answer) calls lines e =
          inr (p.request, ap (λ (xs : List (List ℕ)). p.request ∷ xs) e)

pub asking_tells : AskingTells
asking_tells variant meaning start stages f asking end s known requests after l steps left =
    asked_tells s (found_record s.resumes.waiting) s.goes known requests after
    (life_tells variant meaning stages start f known requests l).grown steps left

pub whole_sessions_tell : WholeSessionsTellAll
whole_sessions_tell variant meaning old new result s lines unbroken left ended =
    whole_told s (found_record s.resumes.waiting) s.goes lines unbroken left ended

-- what was sent for what waited, and then for the lines
pub first_sent : (w : Option PendingRecord) (first : Resumed) (calls : List ServedCall) (sent replies last : List ℕ) → Began w first
    → sent ≡ reply_text (Ok first) ++ replies → replies ≡ replies_to calls ++ last
    → sent ≡ replies_to (first_served_call w first ++ calls) ++ last
first_sent None (Start bytes) calls sent replies last b e r = e ∙ r
first_sent (Some p) (Answered answer) calls sent replies last b e r =
    e ∙ ap (λ (x : List ℕ). reply_text (Ok (Answered answer)) ++ x) r
    ∙ sym (append_assoc (reply_text (Ok (Answered answer))) (replies_to calls) last)
first_sent None (Answered answer) calls sent replies last (at_start n bytes is) e r = absurd (cc)
first_sent None (Answered answer) calls sent replies last (answers p n a is) e r = absurd (cc)
first_sent (Some p) (Start bytes) calls sent replies last (at_start n b is) e r = absurd (cc)
first_sent (Some p) (Start bytes) calls sent replies last (answers q n a is) e r = absurd (cc)

goes_sent : {variant : Variant} {meaning : Meaning} {old new : SessionStanding} {result : Result Unit SessionFault}
    (s : IsSession variant meaning old new result)
    (goes : SessionGoesAfterResume variant meaning s.begun s.middle (host_of new) new.left s.taken s.sent result)
    → s.sent ≡ replies_to (served_calls_in (found_record s.resumes.waiting) goes) ++ last_bytes_in goes
goes_sent s (inl e) = refl
goes_sent {variant} {meaning} {old} s (inr g) =
    let f = found variant meaning s.resumes.waiting (record (host_of old) { kept = s.resumes.middle }) s.middle g.first
    (subst (λ x. HostGoesAfterFinding variant meaning s.resumes.waiting
    (record (host_of old) { kept = s.resumes.middle }) s.middle x) g.begins s.resumes.goes) in
    let same : found_record s.resumes.waiting ≡ f.0 = ap found_record f.1 in
    first_sent (found_record s.resumes.waiting) g.first g.lines.calls s.sent g.replies g.lines.last
    (subst (λ (x : Option PendingRecord). Began x g.first) (sym same) f.2)
    (g.wrote ∙ ap (λ x. reply_text x ++ g.replies) g.begins) g.lines.wrote

pub sessions_send : SessionsSendReplies
sessions_send variant meaning old new result s = goes_sent s s.goes
