-- The headline of a command over events: by a whole play, with what is written where it stopped,
-- and with less said of what is shown. With it: where a run stands between two lines, and how it
-- goes on from there; how a command over events refuses a line.
use Rattle.std.specs.Prelude.{is_some}
use Rattle.mm_bytes.specs.declared.fault.WriteFault as write
use Rattle.mm_base.specs.Streams.{SinkSends}
use Rattle.mm_play.specs.declared.player.LineRefusal.TheVariants.{Bad, Much}
use Rattle.mm_play.specs.declared.player.ReplyFault.{ReplyFault}
use Rattle.mm_play.specs.declared.player.ReplyFault.TheVariants as fault
use Rattle.mm_play.specs.Headline.{EventPlayer, IsLeft, TextWentOut, AreAnswered, TellsEvents, stream_standing}
use Rattle.mm_play.specs.PlaysInput.{PlaysEvents}
use Rattle.mm_play.specs.Stage.{StageShows, EventStage, EventSteps, HeadStage, LineStage, AtHeading, line_answer, closing_lines, IsRefusal}
use Rattle.mm_play.specs.Stage.{RepliesToLine, PlayState, is_over}
use Rattle.mm_play.proofs.Below.{◌≡◌, ◌∙◌, ℕ, List, [], ◌∷◌, ◌++◌, Result, Ok, Err, Option, None, Some, refl, sym, ap, subst, append-nil}
use Rattle.mm_play.proofs.Below.{Bool, true, false, inl, inr, ReplayFault, Memory, ReadFault, WriteFault, BadLine, LineLong, TooMuch}
use Rattle.mm_play.proofs.Below.{IsFrontOf, Consumes-nil, Appends-trans, PlaysInput, length, ◌+◌, append_assoc, arith, length-append}
use Rattle.mm_play.proofs.Below.{Appends, Consumes, AllByRecursion, Appends-nil, Consumes-trans, IsUnbroken, joined_lines, lines_of-joined}
use Rattle.mm_play.proofs.Below.{lines_of-unbroken, tail_of-joined, tail_of-unbroken, joined-append, LineRefusal, PlayOutcome, play_outcome}
use Rattle.mm_play.proofs.Below.{stopped_outcome, outcome_after_bytes, outcome_of_lines, outcome_of_rest, outcome_of_input, HoldsOfWhole}
use Rattle.mm_play.proofs.Below.{AnswerFits, TurnPlays, PlaysNext}
use Rattle.mm_play.proofs.Headlines.{tells}
use Rattle.mm_play.proofs.Runs.{run-more, outcome_of_rest-joined}
use Rattle.mm_play.proofs.Telling.{plays_ok, plays_err}
use Rattle.mm_play.proofs.Turning.{front_after}

-- A play of lines by a stage that shows what the player of events does.
module _ {G H E S R T : Type 0} (p : EventPlayer G H E S) (heads : HeadStage G R) (s : EventStage R) (steps : EventSteps E R)
    (begun : H → R) (shown : H → List E → S) (shows : StageShows p heads s steps begun shown) (Holds : H → List E → (List E → S) → Type 0)
    (holds : (header : H) (events : List E) → Holds header events (shown header)) (reports : LineStage G R → T → Type 0) where
  told_events : {next : LineStage G R} {left left' received received' : Option (List ℕ)} {result : Result T ReplayFault}
      → PlaysInput (line_answer heads s) (closing_lines heads s) (AtHeading p.start) next
      (stream_standing left received) (stream_standing left' received') result
      → TellsEvents p Holds (stream_standing left received) (stream_standing left' received') [] result
  told_events {next = next} {left' = left'} {result = result} played =
      let it = tells p heads s steps begun shown shows Holds holds next left' played.taken played.sent result played.settled in
      record {
        taken = played.taken;
        sent = played.sent;
        consumed = played.consumed;
        appended = played.appended;
        done = it.0;
        behind = it.1;
        split = it.2;
        short = it.3;
        continues = it.4;
      }

  module _ {player next : LineStage G R} {left left' received received' : Option (List ℕ)} {result : Result (Unit {0}) ReplayFault}
      (begins : player ≡ AtHeading p.start)
      (played : PlaysInput (line_answer heads s) (closing_lines heads s) player next (stream_standing left received)
      (stream_standing left' received') result) where
    pub events_ok : (done : Unit {0}) → result ≡ Ok done → (report : T) → reports next report
        → PlaysEvents p Holds heads s reports (stream_standing left received) (stream_standing left' received') (Ok report)
    events_ok done is report reported =
        let plays = plays_ok begins played done is report in
        record { next = next; plays = plays; tells = told_events plays; reported = reported }

    pub events_err : (fault : ReplayFault) → result ≡ Err fault
        → (let said : Result T ReplayFault = Err fault in PlaysEvents p Holds heads s reports
        (stream_standing left received) (stream_standing left' received') said)
    events_err fault is =
        let plays : (let said : Result T ReplayFault = Err fault in
        PlaysInput (line_answer heads s) (closing_lines heads s) (AtHeading p.start) next
        (stream_standing left received) (stream_standing left' received') said) =
        plays_err begins played fault is in
        record { next = next; plays = plays; tells = told_events plays; reported = tt }

-- nothing is written behind a play that was done, nor where the output failed
abbrev pub IsSilent : {T : Type 0} → Result T ReplayFault → List ℕ → Type 0
IsSilent (Ok _) stop = stop ≡ []
IsSilent (Err WriteFault) stop = stop ≡ []
IsSilent (Err _) stop = Unit {0}

-- the same answer without its report
abbrev pub bare : {T : Type 0} → Result T ReplayFault → Result (Unit {0}) ReplayFault
bare (Ok _) = Ok tt
bare (Err fault) = Err fault

module _ (left : Option (List ℕ)) (behind : List ℕ) (answered : ℕ) (may_end : Bool) (IsNone IsMuch : List ℕ → Type 0) where
  left_bare : {T : Type 0} (result : Result T ReplayFault) → IsLeft left behind answered may_end IsNone IsMuch result
      → IsLeft left behind answered may_end IsNone IsMuch (bare result)
  left_bare (Ok _) h = h
  left_bare (Err ReadFault) h = h
  left_bare (Err WriteFault) h = h
  left_bare (Err Memory) h = h
  left_bare (Err (BadLine number)) h = h
  left_bare (Err (LineLong number)) h = h
  left_bare (Err TooMuch) h = h

-- what went out is followed by a front of what says why it stopped
front_none : (sent : List ℕ) → IsFrontOf sent [] → sent ≡ []
front_none [] front = refl
front_none (byte ∷ sent) (rest, is) = cc

nothing_more : (sent more stop : List ℕ) → stop ≡ [] → IsFrontOf more stop → sent ++ more ≡ sent
nothing_more sent more stop none front =
    ap (λ (l : List ℕ). sent ++ l) (front_none more (subst (IsFrontOf more) none front)) ∙ append-nil sent

stop_on : (text sent more stop : List ℕ) → IsFrontOf more stop → (stopped : List ℕ) × IsFrontOf stopped [] × (sent ≡ text ++ stopped)
    → (stopped : List ℕ) × IsFrontOf stopped stop × (sent ++ more ≡ text ++ stopped)
stop_on text sent more stop front w =
    (more, front, ap (λ (l : List ℕ). l ++ more) (w.2 ∙ ap (λ (l : List ℕ). text ++ l) (front_none w.0 w.1) ∙ append-nil text))

went_on : {T : Type 0} (behind text : List ℕ) (last : Option (List ℕ)) (sent more stop : List ℕ) (result : Result T ReplayFault)
    → IsSilent result stop → IsFrontOf more stop → TextWentOut behind text last [] sent result
    → TextWentOut behind text last stop (sent ++ more) (bare result)
went_on behind text last sent more stop (Ok _) silent front (end, is, so) = (end, is, nothing_more sent more stop silent front ∙ so)
went_on behind text last sent more stop (Err WriteFault) silent front w =
    let same = nothing_more sent more stop silent front in
    elim w [
      | inl it ↦ inl (subst (λ (l : List ℕ). IsFrontOf l text) (sym same) it)
      | inr it ↦ inr (it.0, it.1, it.2, subst (λ (l : List ℕ). IsFrontOf l (text ++ it.1)) (sym same) it.3)
    ]
went_on behind text last sent more stop (Err ReadFault) silent front w = stop_on text sent more stop front w
went_on behind text last sent more stop (Err Memory) silent front w = stop_on text sent more stop front w
went_on behind text last sent more stop (Err (BadLine number)) silent front w = stop_on text sent more stop front w
went_on behind text last sent more stop (Err (LineLong number)) silent front w = stop_on text sent more stop front w
went_on behind text last sent more stop (Err TooMuch) silent front w = stop_on text sent more stop front w

-- what is said of what is shown may be less
module _ {G H E S : Type 0} (p : EventPlayer G H E S) (All Less : H → List E → (List E → S) → Type 0)
    (less : (header : H) (events : List E) (shown : List E → S) → All header events shown → Less header events shown) where
  abbrev answered_less : (lines : List (List ℕ)) → AreAnswered p All lines → AreAnswered p Less lines
  answered_less lines it = record {
    heads = it.heads;
    others = it.others;
    header = it.header;
    events = it.events;
    shown = it.shown;
    split = it.split;
    headed = it.headed;
    read = it.read;
    within = it.within;
    holds = less it.header it.events it.shown it.holds;
  }

  -- A play, and then its stop line or a front of it.
  pub stopped_events : {T : Type 0} {left left' received middle received' : Option (List ℕ)} {result : Result T ReplayFault}
      {stop : List ℕ} {wrote : Result (Unit {0}) write.WriteFault} → IsSilent result stop
      → TellsEvents p All (stream_standing left received) (stream_standing left' middle) [] result → SinkSends middle received' stop wrote
      → TellsEvents p Less (stream_standing left received) (stream_standing left' received') stop (bare result)
  stopped_events {left' = left'} {received = received} {middle = middle} {received' = received'} {result = result} {stop = stop} silent t
      sends =
      let front : IsFrontOf sends.sent stop = (sends.unsent, sym sends.parts) in
      record {
        taken = t.taken;
        sent = t.sent ++ sends.sent;
        consumed = t.consumed;
        appended = Appends-trans received middle received' t.sent sends.sent t.appended sends.appended;
        done = t.done;
        behind = t.behind;
        split = t.split;
        short = t.short;
        continues = elim t.continues [
          | inl (at, leads, left_so, went) ↦ inl (
            at,
            leads,
            left_bare left' t.behind (length t.done) false (λ line. p.head at line ≡ None) (λ line. ⊥) result left_so,
            went_on t.behind [] None t.sent sends.sent stop result silent front went,
          )
          | inr (it, left_so, went) ↦ inr (
            answered_less t.done it,
            left_bare left' t.behind (length t.done) true _ _ result left_so,
            went_on t.behind (p.text it.events (it.shown it.events)) (Some (p.last (it.shown it.events))) t.sent sends.sent stop result
                silent front went,
          )
        ];
      }

-- Memory was wanting before anything was read.
pub lacked_events : {G H E S : Type 0} (p : EventPlayer G H E S) (Holds : H → List E → (List E → S) → Type 0)
    {left received received' : Option (List ℕ)} {stop : List ℕ} {wrote : Result (Unit {0}) write.WriteFault}
    → SinkSends received received' stop wrote
    → (let said : Result (Unit {0}) ReplayFault = Err Memory in TellsEvents p Holds (stream_standing left received)
    (stream_standing left received') stop said)
lacked_events p Holds {left = left} sends = record {
  taken = [];
  sent = sends.sent;
  consumed = Consumes-nil left;
  appended = sends.appended;
  done = [];
  behind = [];
  split = refl;
  short = tt;
  continues = inl (p.start, refl, tt, (sends.sent, (sends.unsent, sym sends.parts), refl));
}

-- Where a run stands between two lines, and how it goes on from there. Of its replies some were sent, and the others are
-- pending.

-- These lines were answered; some bytes are held, and some replies are pending.
pub record Stands {P : Type 0} (answer : P → List ℕ → Result (List ℕ × P) LineRefusal) (first player : P) (number : ℕ)
    (left left' received received' : Option (List ℕ)) (held pending : List ℕ) : Type 0 where
  pub taken : List ℕ
  pub sent : List ℕ
  pub lines : List (List ℕ)
  pub consumed : Consumes left left' taken
  pub appended : Appends received received' sent
  pub cut : taken ≡ joined_lines lines ++ held
  pub unbroken : AllByRecursion IsUnbroken lines
  pub counted : number ≡ 1 + length lines
  pub ran : outcome_of_lines answer 1 first lines ≡ play_outcome (sent ++ pending) (Ok player)

pub stands_first : {P : Type 0} (answer : P → List ℕ → Result (List ℕ × P) LineRefusal) (first : P) (left received : Option (List ℕ))
    (held pending : List ℕ) → held ≡ [] → pending ≡ [] → Stands answer first first 1 left left received received held pending
stands_first answer first left received held pending no_bytes no_replies = record {
  taken = [];
  sent = [];
  lines = [];
  consumed = Consumes-nil left;
  appended = Appends-nil received;
  cut = sym no_bytes;
  unbroken = tt;
  counted = refl;
  ran = ap (λ b. play_outcome b (Ok first)) (sym no_replies);
}

AllByRecursion-snoc : (lines : List (List ℕ)) (line : List ℕ) → AllByRecursion IsUnbroken lines → IsUnbroken line
    → AllByRecursion IsUnbroken (lines ++ line ∷ [])
AllByRecursion-snoc [] line each last = (last, tt)
AllByRecursion-snoc (first ∷ lines) line each last = (each.0, AllByRecursion-snoc lines line each.1 last)

-- A turn from where the run stands.
module _ {P : Type 0} {answer : P → List ℕ → Result (List ℕ × P) LineRefusal} {closing : P → Option (List ℕ)} {first player next : P}
    {number : ℕ} {left left' left'' received received' received'' : Option (List ℕ)} {held held' pending pending' : List ℕ}
    {result : Result Bool ReplayFault} (s : Stands answer first player number left left' received received' held pending)
    (t : PlaysNext answer closing number player next left' left'' held held' received' received'' pending pending' result) where
  went_by : (came : Result Bool ReplayFault) → result ≡ came
      → TurnPlays answer (outcome_of_rest answer closing number player) player next left'' (held ++ t.taken) held' pending
      (t.sent ++ pending') came
  went_by came is = rw is at t.went

  taken_now : s.taken ++ t.taken ≡ joined_lines s.lines ++ (held ++ t.taken)
  taken_now = rw (s.cut, append_assoc) refl

  all_sent : pending' ≡ [] → t.sent ++ pending' ≡ t.sent
  all_sent none = ap (λ b. t.sent ++ b) none ∙ append-nil t.sent

  -- The turn answered a line.
  pub answered_line : result ≡ Ok true → (line : List ℕ) × (reply : List ℕ) × (answer player line ≡ Ok (reply, next))
  answered_line went = let a = went_by (Ok true) went in (a.2.line, a.0, a.2.answered)

  pub stands_on : result ≡ Ok true → Stands answer first next (number + 1) left left'' received received'' held' pending'
  stands_on went =
      let a = went_by (Ok true) went in
      record {
        taken = s.taken ++ t.taken;
        sent = s.sent ++ t.sent;
        lines = s.lines ++ a.2.line ∷ [];
        consumed = Consumes-trans left left' left'' s.taken t.taken s.consumed t.consumed;
        appended = Appends-trans received received' received'' s.sent t.sent s.appended t.appended;
        cut = rw (taken_now, a.2.cut, joined-append) (simp append_assoc);
        unbroken = AllByRecursion-snoc s.lines a.2.line s.unbroken a.2.unbroken;
        counted = omega (arith, s.counted, length-append s.lines (a.2.line ∷ []));
        ran = run-more answer first s.lines a.2.line (s.sent ++ pending) a.0 player next s.ran a.2.short a.2.answered
            ∙ ap (λ b. play_outcome b (Ok next))
            (rw append_assoc (ap (λ b. s.sent ++ b) (sym a.1) ∙ sym (append_assoc s.sent t.sent pending')));
      }

  -- The rest of the input goes after what was taken so far.
  for_whole : (holds whole : PlayOutcome P → Type 0) → ((t : PlayOutcome P) → holds t → whole (outcome_after_bytes (s.sent ++ pending) t))
      → HoldsOfWhole left'' (held ++ t.taken) (λ input. holds (outcome_of_rest answer closing number player input))
      → HoldsOfWhole left'' (s.taken ++ t.taken) (λ input. whole (outcome_of_input answer closing first input))
  for_whole holds whole lift w = elim w [
    | inl h ↦ inl (λ rest. at_input (held ++ t.taken ++ rest) (s.taken ++ t.taken ++ rest)
        (ap (λ b. b ++ rest) taken_now ∙ append_assoc (joined_lines s.lines) (held ++ t.taken) rest) (h rest))
    | inr h ↦ inr (h.0, at_input (held ++ t.taken) (s.taken ++ t.taken) taken_now h.1)
  ]
    where
      at_input : (from input : List ℕ) → input ≡ joined_lines s.lines ++ from → holds (outcome_of_rest answer closing number player from)
          → whole (outcome_of_input answer closing first input)
      at_input from input is h =
          rw is (subst whole (sym (outcome_of_rest-joined answer closing first s.lines from (s.sent ++ pending) player s.unbroken s.ran))
          (lift _ (rw s.counted at h)))

  -- What was told where the turn ends the run.
  settled_by : (said : List ℕ) (fault : ReplayFault)
      → TurnPlays answer (outcome_of_rest answer closing number player) player next left'' (held ++ t.taken) held' pending said (Err fault)
      → AnswerFits {T = Unit {0}} (outcome_of_lines answer 1 first) (outcome_of_input answer closing first) next left''
      (s.taken ++ t.taken) (s.sent ++ said)
      (Err fault)
  settled_by said ReadFault w =
      rw (
        taken_now,
        tail_of-joined s.lines (held ++ t.taken) s.unbroken,
        tail_of-unbroken (held ++ t.taken) w.1.unbroken,
        lines_of-joined s.lines (held ++ t.taken) s.unbroken,
        lines_of-unbroken (held ++ t.taken) w.1.unbroken,
        append-nil s.lines,
        w.0,
      ) (w.1.short, (player, s.ran))
  settled_by said WriteFault w =
      for_whole (λ t. IsFrontOf said (pending ++ t.written)) (λ t. IsFrontOf (s.sent ++ said) t.written)
      (λ t h. rw append_assoc (front_after s.sent said (pending ++ t.written) h)) w
  settled_by said Memory w = (
    joined_lines s.lines,
    (held ++ t.taken, sym taken_now),
    player,
    rw (← append-nil (joined_lines s.lines), lines_of-joined s.lines [] s.unbroken, append-nil s.lines, w) s.ran,
  )
  settled_by said fault w =
      for_whole (λ t. t ≡ stopped_outcome fault) (λ t. t ≡ play_outcome (s.sent ++ said) (Err fault))
      (λ t h. rw (h, w.0, append-nil) refl) w.1

  plays_with : (came : Result (Unit {0}) ReplayFault)
      → AnswerFits (outcome_of_lines answer 1 first) (outcome_of_input answer closing first) next left'' (s.taken ++ t.taken)
      (s.sent ++ t.sent) came
      → PlaysInput answer closing first next (stream_standing left received) (stream_standing left'' received'') came
  plays_with came settled = record {
    taken = s.taken ++ t.taken;
    sent = s.sent ++ t.sent;
    consumed = Consumes-trans left left' left'' s.taken t.taken s.consumed t.consumed;
    appended = Appends-trans received received' received'' s.sent t.sent s.appended t.appended;
    settled = settled;
  }

  -- The turn stopped the run.
  pub plays_stopped : (fault : ReplayFault) → result ≡ Err fault
      → PlaysInput {T = Unit {0}} answer closing first next (stream_standing left received) (stream_standing left'' received'') (Err fault)
  plays_stopped fault is =
      plays_with (Err fault)
      (subst (λ (b : List ℕ). AnswerFits {T = Unit {0}} (outcome_of_lines answer 1 first) (outcome_of_input answer closing first) next
      left'' (s.taken ++ t.taken)
      (s.sent ++ b) (Err fault)) (all_sent (rw is at t.is_sent)) (settled_by (t.sent ++ pending') fault (went_by (Err fault) is)))

  -- The input ended.
  pub plays_ended : result ≡ Ok false → PlaysInput {T = Unit {0}} answer closing first next
      (stream_standing left received) (stream_standing left'' received'') (Ok tt)
  plays_ended is =
      let w = went_by (Ok false) is in
      let said : t.sent ≡ pending ++ w.1 = sym (all_sent (rw is at t.is_sent)) ∙ w.3 in
      plays_with (Ok tt) (
        w.0,
        rw taken_now
            (outcome_of_rest-joined answer closing first s.lines (held ++ t.taken) (s.sent ++ pending) player s.unbroken s.ran
            ∙ ap (λ n. outcome_after_bytes (s.sent ++ pending) (outcome_of_rest answer closing n player (held ++ t.taken))) (sym s.counted)
            ∙ ap (outcome_after_bytes (s.sent ++ pending)) w.2
            ∙ ap (λ b. play_outcome b (Ok next)) (append_assoc s.sent pending w.1 ∙ ap (λ b. s.sent ++ b) (sym said))),
      )

-- Nothing was taken, for want of memory.
pub plays_nothing : {P : Type 0} (answer : P → List ℕ → Result (List ℕ × P) LineRefusal) (closing : P → Option (List ℕ)) (first : P)
    (left received : Option (List ℕ)) → PlaysInput {T = Unit {0}} answer closing first first
    (stream_standing left received) (stream_standing left received) (Err Memory)
plays_nothing answer closing first left received = record {
  taken = [];
  sent = [];
  consumed = Consumes-nil left;
  appended = Appends-nil received;
  settled = ([], ([], refl), first, refl);
}

-- How a command over events refuses a line.

-- a line that spells an event
pub spelled : {A : Type 0} (found : Option A) (is : Bool) → is ≡ is_some found → is ≡ true → (it : A) × (found ≡ Some it)
spelled None is e h = cc
spelled (Some it) is e h = (it, refl)

pub refused_full : {S : Type 0} (s : EventStage S) (wants : S → List ℕ → S → Type 0) (line : List ℕ) (old new : PlayState S)
    (why : ReplyFault) → is_over s old line ≡ true → new ≡ old → IsRefusal (s.answer old.stage line) why
    → RepliesToLine s wants line old new (Err why)
refused_full s wants line old new fault.Memory over same r =
    let stage = ap (λ (it : PlayState _). it.stage) same in
    record { uncounted = ap (λ (it : PlayState _). it.read) same; unplayed = λ h. stage; lacks = inl stage }
refused_full s wants line old new (fault.Refused Bad) over same r = (r, same)
refused_full s wants line old new (fault.Refused Much) over same r = (over, r.0, r.1, same)
