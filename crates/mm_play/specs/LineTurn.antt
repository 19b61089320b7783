-- What one turn does: it reads a line and has it answered, or meets the end of the input. Replies
-- that are not sent yet are pending.
use Rattle.std.specs.Prelude.{◌≡◌, ℕ, ◌≤◌, List, [], ◌∷◌, ◌++◌, length, Option, Some, None, Result, Ok, Err, OnOk, OnErr, Bool, true, false}
use Rattle.std.specs.Prelude.{◌⊎◌}
use Rattle.std.specs.Io.KnownBytes.{Appends, Consumes, IsAtEnd}
use Rattle.mm_base.specs.Input.{IsUnbroken, IsLineFront}
use Rattle.mm_bytes.specs.declared.fault.WriteFault as write
use Rattle.mm_base.specs.declared.replay_fault.ReplayFault.{ReplayFault}
use Rattle.mm_base.specs.declared.replay_fault.ReplayFault.TheVariants.{Memory, ReadFault, WriteFault, BadLine, TooMuch}
use Rattle.mm_bytes.specs.Limits.{longest_line}
use Rattle.mm_play.specs.declared.player.LineRefusal.{LineRefusal}
use Rattle.mm_play.specs.PlaysInput.{PlayOutcome, play_outcome, stopped_outcome, refusal_at, outcome_of_rest, HoldsOfWhole}
use Rattle.mm_play.specs.Headline.{IsFrontOf}

-- A player answered a line, the turn's, or didn't: by what is pending before it and behind it.
abbrev pub PlayerAnswers : {P : Type 0} → ℕ → Result (List ℕ × P) LineRefusal → P → List ℕ → List ℕ
    → Result Bool ReplayFault → Type 0
PlayerAnswers number answer next old new (Ok goes_on) =
    (goes_on ≡ true) × (reply : List ℕ) × (answer ≡ Ok (reply, next)) × (new ≡ old ++ reply)
PlayerAnswers number answer next old new (Err Memory) = new ≡ old
PlayerAnswers number answer next old new (Err (BadLine line)) =
    (new ≡ old) × (why : LineRefusal) × (answer ≡ Err why) × (refusal_at number why ≡ BadLine line)
PlayerAnswers number answer next old new (Err TooMuch) =
    (new ≡ old) × (why : LineRefusal) × (answer ≡ Err why) × (refusal_at number why ≡ TooMuch)
PlayerAnswers number answer next old new (Err fault) = ⊥

-- A player met the end of the input, with these last lines, if it may end here.
abbrev pub EndsInput : ℕ → Option (List ℕ) → List ℕ → List ℕ → Result Bool ReplayFault → Type 0
EndsInput number closing old new (Ok goes_on) =
    (goes_on ≡ false) × (last : List ℕ) × (closing ≡ Some last) × (new ≡ old ++ last)
EndsInput number closing old new (Err (BadLine line)) =
    (new ≡ old) × (closing ≡ None) × (line ≡ number)
EndsInput number closing old new (Err Memory) = new ≡ old
EndsInput number closing old new (Err fault) = ⊥

-- What was pending was sent, or is pending still; where the sink failed, a front of it was sent.
pub record SendsDue (received received' : Option (List ℕ)) (pending pending' : List ℕ)
    (result : Result Unit write.WriteFault) : Type 0 where
  pub sent : List ℕ
  pub unsent : List ℕ
  pub parts : pending ≡ sent ++ unsent
  pub appended : Appends received received' sent
  pub kept : OnOk result (unsent ≡ pending')
  pub lost : OnErr result (pending' ≡ [])

-- What was pending was sent, and the answer is what came before; or a front of it was sent, and the
-- sink failed.
pub record SendsAndAnswers (came : Result Bool ReplayFault) (received received' : Option (List ℕ))
    (pending : List ℕ)
    (result : Result Bool ReplayFault) : Type 0 where
  pub sent : List ℕ
  pub unsent : List ℕ
  pub parts : pending ≡ sent ++ unsent
  pub appended : Appends received received' sent
  pub then_so : ((result ≡ came) × (unsent ≡ [])) ⊎ (result ≡ Err WriteFault)

-- Only where lines may follow is anything pending.
abbrev pub IsSent : List ℕ → Result Bool ReplayFault → Type 0
IsSent pending (Ok true) = Unit {0}
IsSent pending (Ok false) = pending ≡ []
IsSent pending (Err fault) = pending ≡ []

module _ {P : Type 0} (answer : P → List ℕ → Result (List ℕ × P) LineRefusal) where
  -- A line was read, and answered with this reply.
  pub record AnswersLine (player next : P) (bytes held reply : List ℕ) : Type 0 where
    pub line : List ℕ
    pub unbroken : IsUnbroken line
    pub short : length line ≤ longest_line
    pub cut : bytes ≡ line ++ 10 ∷ held
    pub answered : answer player line ≡ Ok (reply, next)

  -- By the answer: `bytes` are those held before and those taken, `held` those held after, and
  -- `rest` is the run over the input that begins with `bytes`; `pending` is what was pending, and
  -- `said` what was sent of it and of the turn's replies, and what is pending still.
  module _ (rest : List ℕ → PlayOutcome P) (player next : P) (left : Option (List ℕ))
      (bytes held pending said : List ℕ) where
    abbrev pub TurnPlays : Result Bool ReplayFault → Type 0
    TurnPlays (Ok true) =
        (reply : List ℕ) × (said ≡ pending ++ reply) × AnswersLine player next bytes held reply
    TurnPlays (Ok false) = IsAtEnd left × (last : List ℕ)
        × (rest bytes ≡ play_outcome last (Ok next))
        × (said ≡ pending ++ last)
    TurnPlays (Err ReadFault) = (said ≡ pending) × IsLineFront longest_line bytes
    TurnPlays (Err WriteFault) =
        HoldsOfWhole left bytes (λ input. IsFrontOf said (pending ++ (rest input).written))
    TurnPlays (Err Memory) = said ≡ pending
    TurnPlays (Err fault) =
        (said ≡ pending) × HoldsOfWhole left bytes (λ input. rest input ≡ stopped_outcome fault)

  module _ (closing : P → Option (List ℕ)) (number : ℕ) (player next : P)
      (left left' : Option (List ℕ)) (held held' : List ℕ) where
    -- A line was read and answered, or not, and nothing was sent.
    pub record TurnAdvances (pending pending' : List ℕ) (result : Result Bool ReplayFault) : Type 0
      where
        pub taken : List ℕ
        pub consumed : Consumes left left' taken
        pub went : TurnPlays (outcome_of_rest answer closing number player) player next left'
            (held ++ taken) held' pending pending' result

    pub record PlaysNext (received received' : Option (List ℕ)) (pending pending' : List ℕ)
        (result : Result Bool ReplayFault) : Type 0 where
      pub taken : List ℕ
      pub sent : List ℕ
      pub consumed : Consumes left left' taken
      pub appended : Appends received received' sent
      pub went : TurnPlays (outcome_of_rest answer closing number player) player next left'
          (held ++ taken) held' pending (sent ++ pending') result
      pub is_sent : IsSent pending' result
