-- Events as contracts see them. With it: the spellings of event lines; the grammar of event lines,
-- as a reading of the bytes; events whose bytes still lie in their line.
use Rattle.std.specs.Borrow.{Bor}
use Rattle.std.specs.Fmt.{decimal}
use Rattle.std.specs.Option.{option_map_or, option_map}
use Rattle.std.specs.Prelude.{ℕ, List, take, ◌≡◌, ◌≤◌, ◌<◌, ◌⊎◌, true, false, [], ◌∷◌, ◌++◌, length, Ok, codes, zero, suc, nat_lt, Option}
use Rattle.std.specs.Prelude.{Some, None, if◌then◌else◌, unwrap_or}
use Rattle.std.specs.Str.{bytes_eq}
use Rattle.hex.specs.Hex.{decode_of, decode_sized}
use Rattle.mm_platform.specs.declared.plan.Meddle.{Meddle}
use Rattle.mm_platform.specs.declared.plan.Stop.{Stop}
use Rattle.mm_platform.specs.declared.plan.Stop.TheVariants.{Quiet, Cut, Drop, Fail}
use Rattle.mm_module.specs.Batch.{Batch, One, Many}
use Rattle.mm_module.specs.Meaning.{value_at}
use Rattle.mm_schedule.specs.declared.event.Event.{Event as CodeEvent}
use Rattle.mm_schedule.specs.declared.event.Event.TheVariants as code
use Rattle.mm_schedule.specs.declared.event.Meddles.{Meddles}
use Rattle.mm_schedule.specs.declared.event.Offer.{Offer}
use Rattle.mm_schedule.specs.declared.event.Offer.TheVariants.{Number, Last, Flip, Raw}
use Rattle.mm_schedule.specs.declared.event.Offer.TheVariants as offer
use Rattle.mm_schedule.specs.declared.text.EventText.{EventText}
use Rattle.mm_schedule.specs.declared.text.EventText.TheVariants as text
use Rattle.mm_schedule.specs.declared.text.OfferText.{OfferText}
use Rattle.mm_schedule.specs.declared.text.OfferText.TheVariants as offer_text
use Rattle.mm_schedule.specs.Headers.{◌>>=◌, rest_after_prefix, bytes_at, number_at, step_at, word_at}

-- A batch is asked of an offer, or a segment is closed: others extend the register just before
-- certain steps of the call, and it may be stopped at a step. Or power is lost and returns. Or
-- others extend the register.
pub data Event : Type 0 where
  Ask : (meddles : List Meddle) (stop : Stop) (offer : Offer) (batch : Batch) → Event
  Checkpoint : (meddles : List Meddle) (stop : Stop) → Event
  Power : Event
  Extend : (value : List ℕ) → Event

-- the meddles that count
abbrev pub meddles_of : Meddles → List Meddle
meddles_of meddles = take meddles.count meddles.items

-- the event that a value of the code stands for
abbrev pub event_of : CodeEvent → Event
event_of (code.Ask meddles stop offer request) = Ask (meddles_of meddles) stop offer (One request)
event_of (code.Batch meddles stop offer text) = Ask (meddles_of meddles) stop offer (Many text)
event_of (code.Checkpoint meddles stop) = Checkpoint (meddles_of meddles) stop
event_of code.Power = Power
event_of (code.Extend value) = Extend value.bytes

-- The spellings of event lines: the grammar from the side of the events, apart from how a line is
-- read.

-- 64 hexadecimal digits, in either case
abbrev pub SpellsValue : List ℕ → List ℕ → Type 0
SpellsValue value text = decode_sized text 32 ≡ Ok value

-- `-` for no bytes, or two hexadecimal digits for each byte, at least one
abbrev pub SpellsBytes : List ℕ → List ℕ → Type 0
SpellsBytes bytes text =
    ((bytes ≡ []) × (text ≡ codes "-")) ⊎ ((0 < length text) × (decode_of text ≡ Ok bytes))

-- a step's number, one digit
pub record SpellsStep (step : ℕ) (text : List ℕ) : Type 0 where
  pub low : 1 ≤ step
  pub high : step ≤ 9
  pub digit : text ≡ decimal step

pub record SpellsNumber (number : ℕ) (text : List ℕ) : Type 0 where
  pub most : number ≤ 999999999
  pub digits : text ≡ decimal number

-- meddles, by steps that don't fall below the one before
abbrev pub SpellsMeddles : ℕ → List Meddle → List ℕ → Type 0
SpellsMeddles least [] text = text ≡ []
SpellsMeddles least (meddle ∷ meddles) text =
    (step value rest : List ℕ) × (least ≤ meddle.step) × SpellsStep meddle.step step
    × SpellsValue meddle.value.bytes value
    × SpellsMeddles meddle.step meddles rest
    × (text ≡ codes "meddle " ++ step ++ 32 ∷ value ++ 32 ∷ rest)

-- what ends the call: its step, where it has one
abbrev pub SpellsStop : Stop → List ℕ → Type 0
SpellsStop Quiet text = text ≡ []
SpellsStop (Cut at) text =
    (step : List ℕ) × SpellsStep at step × (text ≡ codes "cut " ++ step ++ 32 ∷ [])
SpellsStop (Drop at) text =
    (step : List ℕ) × SpellsStep at step × (text ≡ codes "drop " ++ step ++ 32 ∷ [])
SpellsStop (Fail at true) text =
    (step : List ℕ) × SpellsStep at step × (text ≡ codes "fail " ++ step ++ codes " done ")
SpellsStop (Fail at false) text =
    (step : List ℕ) × SpellsStep at step × (text ≡ codes "fail " ++ step ++ codes " undone ")

abbrev pub SpellsOffer : Offer → List ℕ → Type 0
SpellsOffer (Number number) text = SpellsNumber number text
SpellsOffer Last text = text ≡ codes "last"
SpellsOffer (Flip number byte) text =
    (first second : List ℕ) × SpellsNumber number first × SpellsNumber byte second
    × (text ≡ codes "flip " ++ first ++ 32 ∷ second)
SpellsOffer (Raw bytes) text =
    (word : List ℕ) × SpellsBytes bytes word × (text ≡ codes "raw " ++ word)

-- what is asked of an offer, behind its words
abbrev pub ask_call_text : Batch → List ℕ → List ℕ
ask_call_text (One request) offer = codes "ask " ++ offer ++ 32 ∷ request
ask_call_text (Many text) offer = codes "batch " ++ offer ++ 32 ∷ text

-- at most eight meddles, and then a stop, in front of a call
pub record SpellsPrefix (meddles : List Meddle) (stop : Stop) (line call : List ℕ) : Type 0 where
  pub few : length meddles ≤ 8
  pub extensions : List ℕ
  pub ending : List ℕ
  pub meddled : SpellsMeddles 0 meddles extensions
  pub stopped : SpellsStop stop ending
  pub parts : line ≡ extensions ++ ending ++ call

-- the line of an event
abbrev pub SpellsEvent : Event → List ℕ → Type 0
SpellsEvent (Ask meddles stop offer batch) line =
    (from : List ℕ) × SpellsOffer offer from × SpellsPrefix meddles stop line
    (ask_call_text batch from)
SpellsEvent (Checkpoint meddles stop) line = SpellsPrefix meddles stop line (codes "checkpoint")
SpellsEvent Power line = line ≡ codes "power"
SpellsEvent (Extend value) line =
    (word : List ℕ) × SpellsValue value word × (line ≡ codes "extend " ++ word)

-- The grammar of event lines, as a reading of the bytes.

-- A meddle behind its first word: a step that is no lower than the one before, and a value.
unfoldable pub meddle_at : ℕ → List ℕ → Option (Meddle × List ℕ)
meddle_at least line =
    word_at line >>= λ step_word.
    step_at step_word.0 >>= λ step.
    (if nat_lt step least then None else word_at step_word.1) >>= λ value_word.
    value_at value_word.0 >>= λ value.
    Some (record { step = step; value = record { bytes = value } }, value_word.1)

-- Meddles, as many as stand there and there is room for, and what follows them.
unfoldable pub meddles_at : ℕ → ℕ → List ℕ → Option (List Meddle × List ℕ)
meddles_at zero least line = Some ([], line)
meddles_at (suc room) least line =
    option_map_or
    (λ words. meddle_at least words >>= λ first. meddles_at room first.0.step first.1
    >>= λ others. Some (first.0 ∷ others.0, others.1))
    (rest_after_prefix (codes "meddle ") line) (Some ([], line))

-- A step behind `cut` or `drop`.
unfoldable pub stop_step_at : List ℕ → Option (ℕ × List ℕ)
stop_step_at line = word_at line >>= λ word. step_at word.0 >>= λ step. Some (step, word.1)

-- A step and a word behind `fail`.
unfoldable pub fail_stop_at : List ℕ → Option (Stop × List ℕ)
fail_stop_at line =
    stop_step_at line >>= λ at.
    word_at at.1 >>= λ word.
    if bytes_eq word.0 (codes "done") then Some (Fail at.0 true, word.1)
    else if bytes_eq word.0 (codes "undone") then Some (Fail at.0 false, word.1)
    else None

-- At most one stop, and what follows it.
unfoldable pub stop_at : List ℕ → Option (Stop × List ℕ)
stop_at line =
    option_map_or (λ words. stop_step_at words >>= λ at. Some (Cut at.0, at.1))
    (rest_after_prefix (codes "cut ") line)
    (option_map_or (λ words. stop_step_at words >>= λ at. Some (Drop at.0, at.1))
    (rest_after_prefix (codes "drop ") line)
    (option_map_or fail_stop_at (rest_after_prefix (codes "fail ") line) (Some (Quiet, line))))

-- Bytes behind `raw`.
unfoldable pub raw_offer_at : List ℕ → Option (Offer × List ℕ)
raw_offer_at line = word_at line >>= λ word. bytes_at word.0 >>= λ bytes. Some (Raw bytes, word.1)

-- An offer and its space, and what follows them. Two numbers stand behind `flip`.
unfoldable pub offer_at : List ℕ → Option (Offer × List ℕ)
offer_at line =
    word_at line >>= λ first.
    if bytes_eq first.0 (codes "last") then Some (Last, first.1)
    else if bytes_eq first.0 (codes "flip") then
    (word_at first.1 >>= λ second. number_at second.0 >>= λ number.
    word_at second.1 >>= λ third. number_at third.0 >>= λ byte. Some (Flip number byte, third.1))
    else if bytes_eq first.0 (codes "raw") then raw_offer_at first.1
    else (number_at first.0 >>= λ number. Some (Number number, first.1))

-- The call behind its meddles and its stop: a checkpoint, or what is asked of an offer.
unfoldable pub call_at : List Meddle → Stop → List ℕ → Option Event
call_at meddles stop line =
    if bytes_eq line (codes "checkpoint") then Some (Checkpoint meddles stop)
    else option_map_or (λ words. offer_at words >>= λ it. Some (Ask meddles stop it.0 (One it.1)))
    (rest_after_prefix (codes "ask ") line)
    (option_map_or (λ words. offer_at words >>= λ it. Some (Ask meddles stop it.0 (Many it.1)))
    (rest_after_prefix (codes "batch ") line) None)

-- A call with what comes before it.
unfoldable pub prefixed_call_at : List ℕ → Option Event
prefixed_call_at line =
    meddles_at 8 0 line >>= λ meddles. stop_at meddles.1 >>= λ stop. call_at meddles.0 stop.0 stop.1

-- The event of a line.
unfoldable pub event_at : List ℕ → Option Event
event_at line =
    if bytes_eq line (codes "power") then Some Power
    else option_map_or (λ word. value_at word >>= λ value. Some (Extend value))
    (rest_after_prefix (codes "extend ") line) (prefixed_call_at line)

-- What is asked of an offer, behind the first word.
abbrev pub ask_at : List Meddle → Stop → List ℕ → Option Event
ask_at meddles stop words =
    offer_at words >>= λ it. Some (Ask meddles stop it.0 (One it.1))

-- A step behind `cut`, and one behind `drop`.
abbrev pub cut_at : List ℕ → Option (Stop × List ℕ)
cut_at line = stop_step_at line >>= λ at. Some (Cut at.0, at.1)

abbrev pub drop_at : List ℕ → Option (Stop × List ℕ)
drop_at line = stop_step_at line >>= λ at. Some (Drop at.0, at.1)

-- Two numbers behind `flip`.
unfoldable pub flip_at : List ℕ → Option (Offer × List ℕ)
flip_at line =
    word_at line >>= λ first.
    number_at first.0 >>= λ number.
    word_at first.1 >>= λ second.
    number_at second.0 >>= λ byte.
    Some (Flip number byte, second.1)

-- Events whose bytes still lie in their line.

-- the offer that stands in a line
abbrev pub offer_of : OfferText → Offer
offer_of (offer_text.Number number) = offer.Number number
offer_of offer_text.Last = offer.Last
offer_of (offer_text.Flip number byte) = offer.Flip number byte
offer_of (offer_text.Raw word) = offer.Raw (unwrap_or (bytes_at word.now) [])

-- the event that stands in a line, with its meddles
abbrev pub event_in : List Meddle → EventText → Event
event_in meddles (text.Ask stop from request) = Ask meddles stop (offer_of from) (One request.now)
event_in meddles (text.Batch stop from members) =
    Ask meddles stop (offer_of from) (Many members.now)
event_in meddles (text.Checkpoint stop) = Checkpoint meddles stop
event_in meddles text.Power = Power
event_in meddles (text.Extend value) = Extend value.bytes

-- meddles that were read into a place, and what follows them
abbrev pub meddles_in_place : Meddles → Bor (List ℕ) → List Meddle × List ℕ
meddles_in_place meddles rest = (meddles_of meddles, rest.now)

-- meddles that were read, and what follows them
abbrev pub meddles_and_rest : Meddles × Bor (List ℕ) → List Meddle × List ℕ
meddles_and_rest read = (meddles_of read.0, read.1.now)

-- the same behind meddles that were read before
abbrev pub meddles_behind : List Meddle → Option (List Meddle × List ℕ)
    → Option (List Meddle × List ℕ)
meddles_behind front read =
    option_map (λ (later : List Meddle × List ℕ). (front ++ later.0, later.1)) read
