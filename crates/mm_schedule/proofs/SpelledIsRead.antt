-- What is spelled in a line is read of it. With it: a header has one line, and that line is read as
-- it.
use Rattle.std.specs.Char.{is_ascii_digit}
use Rattle.std.specs.Fmt.{decimal}
use Rattle.std.proofs.lemmas.Bool.{ne_eqb}
use Rattle.std.proofs.lemmas.List.Elements.{All-head, All-tail}
use Rattle.std.proofs.lemmas.Str.Parse.{numerals_by_value, tells_all_ascii_digits}
use Rattle.mm_bytes.specs.Limits.{decimal_number}
use Rattle.mm_digest.specs.declared.variant.Variant.{Variant}
use Rattle.mm_digest.specs.declared.variant.Variant.TheVariants.{Basic, Opt}
use Rattle.mm_module.specs.Meaning.{value_at}
use Rattle.mm_modules.specs.declared.any.AnyModule.{AnyModule}
use Rattle.mm_schedule.specs.declared.header.Header.{Header}
use Rattle.mm_schedule.specs.Events.{call_at, event_at, fail_stop_at, meddle_at, meddles_at, offer_at, prefixed_call_at, raw_offer_at}
use Rattle.mm_schedule.specs.Events.{stop_at, stop_step_at, flip_at}
use Rattle.mm_schedule.specs.Headers.{rest_after_prefix, bytes_at, number_at, step_at, word_at, header_of_words, head_text, header_at}
use Rattle.mm_schedule.specs.Headers.{header_text, variant_text, variant_at}
use Rattle.mm_schedule.proofs.Below.{◌≡◌, ◌≢◌, ◌+◌, ◌-◌, ◌<◌, ◌≤◌, ◌^◌, inl, inr, ℕ, zero, suc, Bool, true, false, List, [], ◌∷◌, ◌++◌}
use Rattle.mm_schedule.proofs.Below.{length, refl, sym, ap, ◌∙◌, arith, append_assoc, subst, take-append_seam, drop-append-add, nat_tests}
use Rattle.mm_schedule.proofs.Below.{decimal_digit, digits_decimal, length-append, list_all, position, position_or_len, AllPass, Option}
use Rattle.mm_schedule.proofs.Below.{Some, None, Ok, codes, nat_lt, ◌||◌, ◌==◌, not, all_ascii_digits, bytes_eq, decode_of, is_hex_digit}
use Rattle.mm_schedule.proofs.Below.{decode_of-ok, decode_sized-ok, decode_sized-twice, read_by_spelling, Batch, One, Many, Meddle, Stop}
use Rattle.mm_schedule.proofs.Below.{Quiet, Cut, Drop, Fail, is_space, Offer, Number, Last, Flip, Raw, Event, Ask, Checkpoint, Power}
use Rattle.mm_schedule.proofs.Below.{Extend, SpellsBytes, SpellsEvent, SpellsMeddles, SpellsNumber, SpellsOffer, SpellsPrefix, SpellsStep}
use Rattle.mm_schedule.proofs.Below.{SpellsStop, SpellsValue, ask_call_text, IfSome, module_of_name, name_of, any_is_found, name_spelled}
use Rattle.mm_schedule.proofs.ReadIsSpelled.{after-front, text_is, bind-some, chosen, some-same, word-front}

-- no space is among the bytes
abbrev pub NoSpace : List ℕ → Type 0
NoSpace [] = Unit {0}
NoSpace (byte ∷ bytes) = (byte ≢ 32) × NoSpace bytes

first-space : (word rest : List ℕ) → NoSpace word → position_or_len is_space (word ++ 32 ∷ rest) ≡ length word
first-space [] rest none = refl
first-space (byte ∷ word) rest none =
    let one : 1 + length word ≡ suc (length word) = omega arith in
    rw (ne_eqb byte 32 none.0) (ap (λ (n : ℕ). 1 + n) (first-space word rest none.1) ∙ one)

pub word-again : (word rest : List ℕ) → NoSpace word → word_at (word ++ 32 ∷ rest) ≡ Some (word, rest)
unfolding word_at
word-again word rest none =
    let within : length word < length (word ++ 32 ∷ rest) = omega (arith, length-append word (32 ∷ rest)) in
    let test : nat_lt (length word) (length (word ++ 32 ∷ rest)) ≡ true = grind (arith, nat_tests) in
    let found : position is_space (word ++ 32 ∷ rest) ≡ Some (length word) = rw (first-space word rest none, test) refl in
    rw (found, take-append_seam word (32 ∷ rest), drop-append-add word (32 ∷ rest) 1) refl

digits-spaceless : (ds : List ℕ) → all_ascii_digits ds ≡ true → NoSpace ds
digits-spaceless [] are = tt
digits-spaceless (d ∷ ds) are =
    let first : is_ascii_digit d ≡ true = grind (arith, nat_tests) in
    let rest : all_ascii_digits ds ≡ true = grind (arith, nat_tests) in
    (λ space. let clash : false ≡ true = rw space at first in cc, digits-spaceless ds rest)

decimal-spaceless : (number : ℕ) → number < 2 ^ 64 → NoSpace (decimal number)
decimal-spaceless number small =
    digits-spaceless (decimal number)
    (digits_decimal (numerals_by_value (λ (ds : List ℕ). all_ascii_digits ds ≡ true) tells_all_ascii_digits) number small)

hex-spaceless : (word : List ℕ) → AllPass is_hex_digit word → NoSpace word
hex-spaceless [] pass = tt
hex-spaceless (c ∷ word) pass = (
  λ space. let clash : false ≡ true = rw space at (All-head (λ (b : ℕ). is_hex_digit b ≡ true) c word pass)
      in cc,
  hex-spaceless word (All-tail (λ (b : ℕ). is_hex_digit b ≡ true) c word pass),
)

value-spaceless : (value word : List ℕ) → SpellsValue value word → NoSpace word
value-spaceless value word spelled =
    let size = decode_sized-ok word 32 value spelled in
    hex-spaceless word (decode_of-ok word value (sym (decode_sized-twice word 32 size) ∙ spelled)).1

pub letters : (word : List ℕ) → list_all (λ (b : ℕ). not (b == 32)) word ≡ true → NoSpace word
letters [] all = tt
letters (c ∷ word) all =
    let first : not (c == 32) ≡ true = grind (arith, nat_tests) in
    let rest : list_all (λ (b : ℕ). not (b == 32)) word ≡ true = grind (arith, nat_tests) in
    (λ space. let clash : false ≡ true = rw space at first in cc, letters word rest)

bytes-spaceless : (bytes word : List ℕ) → SpellsBytes bytes word → NoSpace word
bytes-spaceless bytes word (inl none) = subst NoSpace (sym none.1) (letters (codes "-") refl)
bytes-spaceless bytes word (inr some) = hex-spaceless word (decode_of-ok word bytes some.1).1

step-again : (step : ℕ) (word : List ℕ) → SpellsStep step word → step_at word ≡ Some step
unfolding step_at
step-again step word spelled =
    let low : nat_lt 48 (48 + step) ≡ true = let some : 1 ≤ step = spelled.low in grind (arith, nat_tests) in
    let high : nat_lt (48 + step) 58 ≡ true = let few : step ≤ 9 = spelled.high in grind (arith, nat_tests) in
    let back : 48 + step - 48 ≡ step = omega arith in
    rw (spelled.digit, decimal_digit step (omega (arith, spelled.high)), low, high, back) refl

step-spaceless : (step : ℕ) (word : List ℕ) → SpellsStep step word → NoSpace word
step-spaceless step word spelled = rw spelled.digit (decimal-spaceless step (omega (arith, spelled.high)))

number-again : (number : ℕ) (word : List ℕ) → SpellsNumber number word → number_at word ≡ Some number
unfolding number_at
number-again number word spelled =
    let few : number ≤ 999999999 = spelled.most in
    let test : nat_lt 999999999 number ≡ false = grind (arith, nat_tests) in
    rw (read_by_spelling word number (omega arith) spelled.digits, test) refl

number-spaceless : (number : ℕ) (word : List ℕ) → SpellsNumber number word → NoSpace word
number-spaceless number word spelled = rw spelled.digits (decimal-spaceless number (omega (arith, spelled.most)))

value-again : (value word : List ℕ) → SpellsValue value word → value_at word ≡ Some value
unfolding value_at
value-again value word spelled = rw spelled refl

no-dash : (word bytes : List ℕ) (dash : Bool) → bytes_eq word (codes "-") ≡ dash → decode_of word ≡ Ok bytes → dash ≡ false
no-dash word bytes true dash is = let odd : decode_of (codes "-") ≡ Ok bytes = rw (text_is word (codes "-") dash) at is in cc
no-dash word bytes false dash is = refl

bytes-again : (bytes word : List ℕ) → SpellsBytes bytes word → bytes_at word ≡ Some bytes
unfolding bytes_at
bytes-again bytes word (inl none) = rw (none.1, none.0) refl
bytes-again bytes word (inr some) =
    let long : 0 < length word = some.0 in let test : (length word == 0) ≡ false = grind (arith, nat_tests) in
    rw (no-dash word bytes (bytes_eq word (codes "-")) refl some.1, test, some.1) refl

after-again-meddle : (rest : List ℕ) → rest_after_prefix (codes "meddle ") (codes "meddle " ++ rest) ≡ Some rest
unfolding rest_after_prefix
after-again-meddle rest = refl

meddle-again : (least : ℕ) (meddle : Meddle) (step value rest : List ℕ) → least ≤ meddle.step → SpellsStep meddle.step step
    → SpellsValue meddle.value.bytes value → meddle_at least (step ++ 32 ∷ (value ++ 32 ∷ rest)) ≡ Some (meddle, rest)
unfolding meddle_at
meddle-again least meddle step value rest rising stepped valued =
    let test : nat_lt meddle.step least ≡ false = grind (arith, nat_tests) in
    rw (
      word-again step (value ++ 32 ∷ rest) (step-spaceless meddle.step step stepped),
      step-again meddle.step step stepped,
      test,
      word-again value rest (value-spaceless meddle.value.bytes value valued),
      value-again meddle.value.bytes value valued,
    ) refl

-- meddles are read up to what is none
meddles-again : (room least : ℕ) (meddles : List Meddle) (text rest : List ℕ) → SpellsMeddles least meddles text → length meddles ≤ room
    → rest_after_prefix (codes "meddle ") rest ≡ None → meddles_at room least (text ++ rest) ≡ Some (meddles, rest)
unfolding meddles_at
meddles-again zero least [] text rest spelled few over = rw spelled refl
meddles-again (suc room) least [] text rest spelled few over = rw (spelled, over) refl
meddles-again zero least (meddle ∷ meddles) text rest spelled few over = absurd (omega arith)
meddles-again (suc room) least (meddle ∷ meddles) text rest spelled few over =
    let step = spelled.0 in let value = spelled.1 in let later = spelled.2 in
    let words : text ++ rest ≡ codes "meddle " ++ (step ++ 32 ∷ (value ++ 32 ∷ (later ++ rest))) =
    ap (λ (front : List ℕ). front ++ rest) spelled.7 ∙ simp append_assoc in
    rw (
      words,
      after-again-meddle (step ++ 32 ∷ (value ++ 32 ∷ (later ++ rest))),
      meddle-again least meddle step value (later ++ rest)
          spelled.3 spelled.4 spelled.5,
      meddles-again room meddle.step meddles later rest spelled.6 (omega arith) over,
    ) refl

-- what follows is no stop
record IsNoStop (call : List ℕ) : Type 0 where
  cut : rest_after_prefix (codes "cut ") call ≡ None
  dropped : rest_after_prefix (codes "drop ") call ≡ None
  failed : rest_after_prefix (codes "fail ") call ≡ None

stop_step-again : (at : ℕ) (step rest : List ℕ) → SpellsStep at step → stop_step_at (step ++ 32 ∷ rest) ≡ Some (at, rest)
unfolding stop_step_at
stop_step-again at step rest stepped = rw (word-again step rest (step-spaceless at step stepped), step-again at step stepped) refl

stop-again : (stop : Stop) (text call : List ℕ) → SpellsStop stop text → IsNoStop call → stop_at (text ++ call) ≡ Some (stop, call)
unfolding stop_at rest_after_prefix fail_stop_at
stop-again Quiet text call spelled over = rw (spelled, over.cut, over.dropped, over.failed) refl
stop-again (Cut at) text call spelled over =
    rw (spelled.2, append_assoc spelled.0 (32 ∷ []) call, stop_step-again at spelled.0 call spelled.1) refl
stop-again (Drop at) text call spelled over =
    rw (spelled.2, append_assoc spelled.0 (32 ∷ []) call, stop_step-again at spelled.0 call spelled.1) refl
stop-again (Fail at true) text call spelled over =
    let done = codes "done" in let rest = done ++ 32 ∷ call in
    rw (
      spelled.2,
      append_assoc spelled.0 (codes " done ") call,
      stop_step-again at spelled.0 rest spelled.1,
      word-again done call (letters done refl),
    ) refl
stop-again (Fail at false) text call spelled over =
    let undone = codes "undone" in let rest = undone ++ 32 ∷ call in
    rw (
      spelled.2,
      append_assoc spelled.0 (codes " undone ") call,
      stop_step-again at spelled.0 rest spelled.1,
      word-again undone call (letters undone refl),
    ) refl

-- a number is none of the words that begin other offers
not_word : (word other : List ℕ) (number : ℕ) (same : Bool) → bytes_eq word other ≡ same → number_at word ≡ Some number
    → number_at other ≡ None → same ≡ false
not_word word other number true same is none = let clash : Some number ≡ None = sym is ∙ ap number_at (text_is word other same) ∙ none in cc
not_word word other number false same is none = refl

no-numbers : (number_at (codes "last") ≡ None) × (number_at (codes "flip") ≡ None) × (number_at (codes "raw") ≡ None)
unfolding number_at decimal_number
no-numbers = (refl, refl, refl)

flip-again : (number byte : ℕ) (first second rest : List ℕ) → SpellsNumber number first → SpellsNumber byte second
    → flip_at (first ++ 32 ∷ (second ++ 32 ∷ rest)) ≡ Some (Flip number byte, rest)
unfolding flip_at
flip-again number byte first second rest one two =
    rw (
      word-again first (second ++ 32 ∷ rest) (number-spaceless number first one),
      number-again number first one,
      word-again second rest
          (number-spaceless byte second two),
      number-again byte second two,
    ) refl

raw-again : (bytes word rest : List ℕ) → SpellsBytes bytes word → raw_offer_at (word ++ 32 ∷ rest) ≡ Some (Raw bytes, rest)
unfolding raw_offer_at
raw-again bytes word rest spelled = rw (word-again word rest (bytes-spaceless bytes word spelled), bytes-again bytes word spelled) refl

offer-again : (offer : Offer) (text rest : List ℕ) → SpellsOffer offer text → offer_at (text ++ 32 ∷ rest) ≡ Some (offer, rest)
unfolding offer_at flip_at
offer-again (Number number) text rest spelled =
    let read = number-again number text spelled in
    rw (
      word-again text rest (number-spaceless number text spelled),
      not_word text (codes "last") number (bytes_eq text (codes "last"))
          refl read no-numbers.0,
      not_word text (codes "flip") number (bytes_eq text (codes "flip")) refl read no-numbers.1,
      not_word text
          (codes "raw") number (bytes_eq text (codes "raw")) refl read no-numbers.2,
      read,
    ) refl
offer-again Last text rest spelled = rw (spelled, word-again (codes "last") rest (letters (codes "last") refl)) refl
offer-again (Flip number byte) text rest spelled =
    rw (
      spelled.4,
      append_assoc spelled.0 (32 ∷ spelled.1) (32 ∷ rest),
      word-again (codes "flip") (spelled.0 ++ 32 ∷ (spelled.1 ++ 32 ∷ rest)) (letters (codes "flip") refl),
      flip-again number byte spelled.0 spelled.1
          rest spelled.2 spelled.3,
    ) refl
offer-again (Raw bytes) text rest spelled =
    rw (spelled.2, word-again (codes "raw") (spelled.0 ++ 32 ∷ rest) (letters (codes "raw") refl), raw-again bytes spelled.0 rest spelled.1)
    refl

-- a line that may begin `power` or `extend`
abbrev opens : List ℕ → Bool
opens [] = false
opens (c ∷ rest) = (c == 112) || (c == 101)

no-power : (line : List ℕ) (same : Bool) → opens line ≡ false → bytes_eq line (codes "power") ≡ same → same ≡ false
no-power line true shut same = let clash : true ≡ false = sym (ap opens (text_is line (codes "power") same)) ∙ shut in cc
no-power line false shut same = refl

no-extend : (line : List ℕ) (found : Option (List ℕ)) → opens line ≡ false → rest_after_prefix (codes "extend ") line ≡ found → found ≡ None
no-extend line None shut is = refl
no-extend line (Some rest) shut is = let clash : true ≡ false = sym (ap opens (after-front (codes "extend ") line rest is)) ∙ shut in cc

-- a prefix with a call that doesn't open so doesn't either
prefix-shut : (meddles : List Meddle) (stop : Stop) (extensions ending call : List ℕ) → SpellsMeddles 0 meddles extensions
    → SpellsStop stop ending → opens call ≡ false → opens (extensions ++ ending ++ call) ≡ false
prefix-shut [] Quiet extensions ending call one two shut = rw (one, two) shut
prefix-shut (meddle ∷ meddles) stop extensions ending call one two shut = rw one.7 refl
prefix-shut [] (Fail at true) extensions ending call one two shut = rw (one, two.2) refl
prefix-shut [] _ extensions ending call one two shut = rw (one, two.2) refl

-- a stop or a call is no meddle
no-meddle : (stop : Stop) (ending call : List ℕ) → SpellsStop stop ending → rest_after_prefix (codes "meddle ") call ≡ None
    → rest_after_prefix (codes "meddle ") (ending ++ call) ≡ None
unfolding rest_after_prefix
no-meddle Quiet ending call spelled over = rw spelled over
no-meddle (Fail at true) ending call spelled over = rw spelled.2 refl
no-meddle _ ending call spelled over = rw spelled.2 refl

module _ (meddles : List Meddle) where
  record IsCall (stop : Stop) (call : List ℕ) (event : Event) : Type 0 where
    shut : opens call ≡ false
    none : rest_after_prefix (codes "meddle ") call ≡ None
    last : IsNoStop call
    read : call_at meddles stop call ≡ Some event

  prefixed-again : (stop : Stop) (line call : List ℕ) (event : Event) → SpellsPrefix meddles stop line call → IsCall stop call event
      → event_at line ≡ Some event
  unfolding event_at prefixed_call_at
  prefixed-again stop line call event spelled is =
      let shut : opens line ≡ false =
      ap opens spelled.parts ∙ prefix-shut meddles stop spelled.extensions spelled.ending call spelled.meddled spelled.stopped is.shut in
      let grouped : line ≡ spelled.extensions ++ (spelled.ending ++ call) =
      spelled.parts ∙ append_assoc spelled.extensions spelled.ending call in
      let first : meddles_at 8 0 line ≡ Some (meddles, spelled.ending ++ call) =
      ap (meddles_at 8 0) grouped ∙ meddles-again 8 0 meddles spelled.extensions (spelled.ending ++ call) spelled.meddled spelled.few
      (no-meddle stop spelled.ending call spelled.stopped is.none) in
      rw (
        no-power line (bytes_eq line (codes "power")) shut refl,
        no-extend line (rest_after_prefix (codes "extend ") line) shut refl,
        first,
        stop-again stop spelled.ending call spelled.stopped is.last,
      ) is.read

  ask-call : (stop : Stop) (offer : Offer) (from : List ℕ) (batch : Batch) → SpellsOffer offer from
      → IsCall stop (ask_call_text batch from) (Ask meddles stop offer batch)
  unfolding rest_after_prefix call_at
  ask-call stop offer from (One request) spelled =
      let read = offer-again offer from request spelled in
      record { shut = refl; none = refl; last = record { cut = refl; dropped = refl; failed = refl }; read = rw read refl }
  ask-call stop offer from (Many text) spelled =
      let read = offer-again offer from text spelled in
      record { shut = refl; none = refl; last = record { cut = refl; dropped = refl; failed = refl }; read = rw read refl }

  checkpoint-call : (stop : Stop) → IsCall stop (codes "checkpoint") (Checkpoint meddles stop)
  unfolding rest_after_prefix call_at
  checkpoint-call stop = record { shut = refl; none = refl; last = record { cut = refl; dropped = refl; failed = refl }; read = refl }

pub spelled_is_read : (line : List ℕ) (event : Event) → SpellsEvent event line → event_at line ≡ Some event
unfolding event_at rest_after_prefix
spelled_is_read line (Ask meddles stop offer batch) spelled =
    prefixed-again meddles stop line (ask_call_text batch spelled.0) (Ask meddles stop offer batch) spelled.2
    (ask-call meddles stop offer spelled.0 batch spelled.1)
spelled_is_read line (Checkpoint meddles stop) spelled =
    prefixed-again meddles stop line (codes "checkpoint") (Checkpoint meddles stop) spelled (checkpoint-call meddles stop)
spelled_is_read line Power spelled = rw spelled refl
spelled_is_read line (Extend value) spelled = rw (spelled.2, value-again value spelled.0 spelled.1) refl

-- A header has one line, and that line is read as it.

variant-spelled : (word : List ℕ) (variant : Variant) → variant_at word ≡ Some variant → word ≡ variant_text variant
variant-spelled word variant is = elim (chosen (bytes_eq word (codes "basic")) (Some Basic) _ variant is) [
  | inl w ↦ text_is word (codes "basic") w.0 ∙ ap variant_text (some-same Basic variant w.1)
  | inr w ↦ elim (chosen (bytes_eq word (codes "opt")) (Some Opt) None variant w.1) [
    | inl v ↦ text_is word (codes "opt") v.0 ∙ ap variant_text (some-same Opt variant v.1)
    | inr v ↦ cc
  ]
]

pub head-spelled : (words : List ℕ) (head : Header) → header_of_words words ≡ Some head → words ≡ head_text head
unfolding header_of_words
head-spelled words head is =
    let b = bind-some (word_at words) _ head is in let c = bind-some (variant_at b.0.0) _ head b.2 in
    let d = bind-some (module_of_name b.0.1) _ head c.2 in
    word-front words b.0.0 b.0.1 b.1 ∙ ap (λ (word : List ℕ). word ++ 32 ∷ b.0.1) (variant-spelled b.0.0 c.0 c.1)
    ∙ ap (λ (name : List ℕ). variant_text c.0 ++ 32 ∷ name) (name_spelled b.0.1 d.0 d.1) ∙ ap head_text (some-same _ head d.2)

pub header-spelled : (line : List ℕ) (header : Header) → header_at line ≡ Some header → line ≡ header_text header
unfolding header_at
header-spelled line header is =
    let a = bind-some (rest_after_prefix (codes "memoir 1 ") line) _ header is in
    after-front (codes "memoir 1 ") line a.0 a.1 ∙ ap (λ (back : List ℕ). codes "memoir 1 " ++ back) (head-spelled a.0 header a.2)

variant-again : (variant : Variant) → variant_at (variant_text variant) ≡ Some variant
variant-again Basic = refl
variant-again Opt = refl

variant-spaceless : (variant : Variant) → NoSpace (variant_text variant)
variant-spaceless Basic = letters (codes "basic") refl
variant-spaceless Opt = letters (codes "opt") refl

-- each spelling is read as its header
head-again : (variant : Variant) (it : AnyModule)
    → header_of_words (head_text (record { variant = variant; «module» = it })) ≡ Some (record { variant = variant; «module» = it })
unfolding header_of_words
head-again variant it =
    rw (word-again (variant_text variant) (name_of it) (variant-spaceless variant), variant-again variant, (any_is_found it).by_name) refl

pub head-read : (words : List ℕ) (head : Header) → words ≡ head_text head → header_of_words words ≡ Some head
head-read words head is = ap header_of_words is ∙ head-again head.variant head.module

behind_prefix : (words : List ℕ) → header_at (codes "memoir 1 " ++ words) ≡ header_of_words words
unfolding header_at rest_after_prefix
behind_prefix words = refl

pub header-read : (line : List ℕ) (header : Header) → line ≡ header_text header → header_at line ≡ Some header
header-read line header is = ap header_at is ∙ behind_prefix (head_text header) ∙ head-again header.variant header.module

pub if-head-spelled : (words : List ℕ) (read : Option Header) → read ≡ header_of_words words → IfSome read (λ head. words ≡ head_text head)
if-head-spelled words None is = tt
if-head-spelled words (Some head) is = head-spelled words head (sym is)

pub if-spelled : (line : List ℕ) (read : Option Header) → read ≡ header_at line → IfSome read (λ header. line ≡ header_text header)
if-spelled line None is = tt
if-spelled line (Some header) is = header-spelled line header (sym is)
