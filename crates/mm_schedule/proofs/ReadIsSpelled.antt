-- What is read of a line is spelled there. With it: what a reading that gave something found, and
-- what stood in front of it; lines that ask at once.
use Rattle.std.proofs.lemmas.List.Quantifiers.{position-Some}
use Rattle.std.proofs.lemmas.Slice.Eq.{bytes_eq-Decides}
use Rattle.mm_bytes.specs.Limits.{decimal_number}
use Rattle.mm_module.specs.Meaning.{value_at}
use Rattle.mm_schedule.specs.Events.{call_at, event_at, fail_stop_at, meddle_at, meddles_at, offer_at, prefixed_call_at, raw_offer_at}
use Rattle.mm_schedule.specs.Events.{stop_at, stop_step_at, flip_at, ask_at}
use Rattle.mm_schedule.specs.Headers.{rest_after_prefix, word_at, bytes_at, number_at, step_at}
use Rattle.mm_schedule.proofs.Below.{◌≡◌, ◌+◌, ◌<◌, ◌⊎◌, inl, inr, ℕ, suc, Bool, true, false, List, ◌∷◌, ◌++◌, length, take, drop, get_or}
use Rattle.mm_schedule.proofs.Below.{refl, sym, ap, ◌∙◌, arith, cond, add-one, drop-cons, nat_tests, take-append-drop, position}
use Rattle.mm_schedule.proofs.Below.{option_map_or, Option, Some, None, bytes_eq, is_space, ◌>>=◌, ◌-◌, ◌≤◌, zero, [], append_assoc, subst}
use Rattle.mm_schedule.proofs.Below.{decimal_digit, Result, Ok, Err, codes, nat_lt, ◌&&◌, ◌==◌, result_ok, FromHexError, decode_of}
use Rattle.mm_schedule.proofs.Below.{decode_sized, spelled_by_reading, One, Many, Meddle, Stop, Fail, Offer, Last, Event, Checkpoint, Power}
use Rattle.mm_schedule.proofs.Below.{SpellsBytes, SpellsEvent, SpellsMeddles, SpellsNumber, SpellsOffer, SpellsPrefix, SpellsStep}
use Rattle.mm_schedule.proofs.Below.{SpellsStop, SpellsValue, ask_call_text, Quiet}

-- What a reading that gave something found, and what stood in front of it.

-- a reading that gave something gave something at its first part
pub bind-some : {A B : Type 0} (first : Option A) (then : A → Option B) (y : B) → (first >>= then) ≡ Some y
    → (x : A) × (first ≡ Some x) × (then x ≡ Some y)
bind-some None then y is = cc
bind-some (Some x) then y is = (x, refl, is)

-- a choice that gave something took one of its ways
pub chosen : {A : Type 0} (test : Bool) (taken passed : Option A) (y : A) → cond test taken passed ≡ Some y
    → ((test ≡ true) × (taken ≡ Some y)) ⊎ ((test ≡ false) × (passed ≡ Some y))
chosen true taken passed y is = inl (refl, is)
chosen false taken passed y is = inr (refl, is)

pub found_or : {A B : Type 0} (found : Option A) (then : A → Option B) (other : Option B) (y : B) → option_map_or then found other ≡ Some y
    → ((x : A) × (found ≡ Some x) × (then x ≡ Some y)) ⊎ ((found ≡ None) × (other ≡ Some y))
found_or None then other y is = inr (refl, is)
found_or (Some x) then other y is = inl (x, refl, is)

pub some-same : {A : Type 0} (x y : A) → Some x ≡ Some y → x ≡ y
some-same x y is = cc

pub text_is : (text other : List ℕ) → bytes_eq text other ≡ true → text ≡ other
text_is text other same = (bytes_eq-Decides text other).0 same

-- a prefix stands in front
pub after-front : (prefix line rest : List ℕ) → rest_after_prefix prefix line ≡ Some rest → line ≡ prefix ++ rest
unfolding rest_after_prefix
after-front prefix line rest is =
    elim (chosen (bytes_eq (take (length prefix) line) prefix) (Some (drop (length prefix) line)) None rest is) [
      | inl w ↦ sym (take-append-drop (length prefix) line) ∙ ap (λ (front : List ℕ). front ++ drop (length prefix) line)
          (text_is (take (length prefix) line) prefix w.0) ∙ ap (λ (back : List ℕ). prefix ++ back) (some-same _ _ w.1)
      | inr w ↦ cc
    ]

pub word-front : (line word rest : List ℕ) → word_at line ≡ Some (word, rest) → line ≡ word ++ 32 ∷ rest
unfolding word_at
word-front line word rest is =
    let read = bind-some (position is_space line) (λ (at : ℕ). Some (take at line, drop (at + 1) line)) (word, rest) is in
    let at = read.0 in let facts = position-Some is_space line at 0 read.1 in let within : at < length line = facts.0 in
    let space : get_or line at 0 ≡ 32 = grind (arith, nat_tests, facts.1) in
    let parts : (take at line, drop (at + 1) line) ≡ (word, rest) = some-same _ _ read.2 in
    sym (take-append-drop at line) ∙ ap (λ (back : List ℕ). take at line ++ back) (drop-cons line at 0 within
    ∙ ap (λ (b : ℕ). b ∷ drop (suc at) line) space) ∙ ap (λ (n : ℕ). take at line ++ 32 ∷ drop n line) (sym (add-one at))
    ∙ ap (λ (p : List ℕ × List ℕ). p.0 ++ 32 ∷ p.1) parts

-- What is read of a line is spelled there.

step-spelled : (word : List ℕ) (step : ℕ) → step_at word ≡ Some step → SpellsStep step word
unfolding step_at
step-spelled (digit ∷ []) step is = elim (chosen (nat_lt 48 digit && nat_lt digit 58) (Some (digit - 48)) None step is) [
  | inl w ↦
      let low : 48 < digit = grind (arith, nat_tests, w.0) in
      let high : digit < 58 = grind (arith, nat_tests, w.0) in let value : digit - 48 ≡ step = some-same _ _ w.1 in
      let back : 48 + step ≡ digit = omega arith in
      record {
        low = omega arith;
        high = omega arith;
        digit = ap (λ (d : ℕ). d ∷ []) (sym back) ∙ sym (decimal_digit step (omega arith));
      }
  | inr w ↦ cc
]
step-spelled _ step is = cc

number-spelled : (word : List ℕ) (number : ℕ) → number_at word ≡ Some number → SpellsNumber number word
unfolding number_at
number-spelled word number is =
    let read = bind-some (decimal_number word) (λ (n : ℕ). cond (nat_lt 999999999 n) None (Some n)) number is in
    elim (chosen (nat_lt 999999999 read.0) None (Some read.0) number read.2) [
      | inl w ↦ cc
      | inr w ↦
          let same : read.0 ≡ number = some-same _ _ w.1 in
          let few : read.0 ≤ 999999999 = grind (arith, nat_tests, w.0) in
          record { most = omega arith; digits = spelled_by_reading word number (read.1 ∙ ap (λ (n : ℕ). Some n) same) }
    ]

ok-is : (result : Result (List ℕ) FromHexError) (bytes : List ℕ) → result_ok result ≡ Some bytes → result ≡ Ok bytes
ok-is (Ok bytes) other is = ap (λ (bs : List ℕ). Ok bs) (some-same bytes other is)
ok-is (Err e) other is = cc

value-spelled : (word value : List ℕ) → value_at word ≡ Some value → SpellsValue value word
unfolding value_at
value-spelled word value is = ok-is (decode_sized word 32) value is

bytes-spelled : (word bytes : List ℕ) → bytes_at word ≡ Some bytes → SpellsBytes bytes word
unfolding bytes_at
bytes-spelled word bytes is =
    elim (chosen (bytes_eq word (codes "-")) (Some []) (cond (length word == 0) None (result_ok (decode_of word))) bytes is) [
      | inl w ↦ inl (sym (some-same _ _ w.1), text_is word (codes "-") w.0)
      | inr w ↦ elim (chosen (length word == 0) None (result_ok (decode_of word)) bytes w.1) [
        | inl v ↦ cc
        | inr v ↦ inr (grind (arith, nat_tests, v.0), ok-is (decode_of word) bytes v.1)
      ]
    ]

-- a meddle behind its first word
record ReadsMeddle (least : ℕ) (line : List ℕ) (read : Meddle × List ℕ) : Type 0 where
  step : List ℕ
  value : List ℕ
  rising : least ≤ read.0.step
  stepped : SpellsStep read.0.step step
  valued : SpellsValue read.0.value.bytes value
  parts : line ≡ step ++ 32 ∷ value ++ 32 ∷ read.1

meddle-spelled : (least : ℕ) (line : List ℕ) (read : Meddle × List ℕ) → meddle_at least line ≡ Some read → ReadsMeddle least line read
unfolding meddle_at
meddle-spelled least line read is =
    let a = bind-some (word_at line) _ read is in let b = bind-some (step_at a.0.0) _ read a.2 in
    let c = bind-some (cond (nat_lt b.0 least) None (word_at a.0.1)) _ read b.2 in
    let d = bind-some (value_at c.0.0) _ read c.2 in
    elim (chosen (nat_lt b.0 least) None (word_at a.0.1) c.0 c.1) [
      | inl w ↦ cc
      | inr w ↦ subst (λ (r : Meddle × List ℕ). ReadsMeddle least line r) (some-same _ read d.2) (record {
        step = a.0.0;
        value = c.0.0;
        rising = grind (arith, nat_tests, w.0);
        stepped = step-spelled a.0.0 b.0 b.1;
        valued = value-spelled c.0.0 d.0 d.1;
        parts = word-front line a.0.0 a.0.1 a.1 ∙ ap (λ (back : List ℕ). a.0.0 ++ 32 ∷ back) (word-front a.0.1 c.0.0 c.0.1 w.1)
            ∙ simp append_assoc;
      })
    ]

record ReadsMeddles (room least : ℕ) (line : List ℕ) (read : List Meddle × List ℕ) : Type 0 where
  text : List ℕ
  spelled : SpellsMeddles least read.0 text
  few : length read.0 ≤ room
  parts : line ≡ text ++ read.1

no-meddles : (room least : ℕ) (line : List ℕ) (read : List Meddle × List ℕ) → Some ([], line) ≡ Some read
    → ReadsMeddles room least line read
no-meddles room least line read is =
    subst (λ (r : List Meddle × List ℕ). ReadsMeddles room least line r) (some-same ([], line) read is)
    (record { text = []; spelled = refl; few = omega arith; parts = refl })

meddles-spelled : (room least : ℕ) (line : List ℕ) (read : List Meddle × List ℕ) → meddles_at room least line ≡ Some read
    → ReadsMeddles room least line read
unfolding meddles_at
meddles-spelled zero least line read is = no-meddles zero least line read is
meddles-spelled (suc room) least line read is = elim (found_or (rest_after_prefix (codes "meddle ") line) _ (Some ([], line)) read is) [
  | inl w ↦
      let a = bind-some (meddle_at least w.0) _ read w.2 in
      let b = bind-some (meddles_at room a.0.0.step a.0.1) _ read a.2 in
      let first = meddle-spelled least w.0 a.0 a.1 in let later = meddles-spelled room a.0.0.step a.0.1 b.0 b.1 in
      subst (λ (r : List Meddle × List ℕ). ReadsMeddles (suc room) least line r) (some-same _ read b.2) (record {
        text = codes "meddle " ++ first.step ++ 32 ∷ first.value ++ 32 ∷ later.text;
        spelled = (first.step, first.value, later.text, first.rising, first.stepped, first.valued, later.spelled, refl);
        few = omega (arith, later.few);
        parts = after-front (codes "meddle ") line w.0 w.1 ∙ ap (λ (back : List ℕ). codes "meddle " ++ back) (first.parts
            ∙ ap (λ (back : List ℕ). first.step ++ 32 ∷ first.value ++ 32 ∷ back) later.parts) ∙ simp append_assoc;
      })
  | inr w ↦ no-meddles (suc room) least line read w.1
]

record ReadsStep (line : List ℕ) (read : ℕ × List ℕ) : Type 0 where
  step : List ℕ
  stepped : SpellsStep read.0 step
  parts : line ≡ step ++ 32 ∷ read.1

stop_step-spelled : (line : List ℕ) (read : ℕ × List ℕ) → stop_step_at line ≡ Some read → ReadsStep line read
unfolding stop_step_at
stop_step-spelled line read is =
    let a = bind-some (word_at line) _ read is in let b = bind-some (step_at a.0.0) _ read a.2 in
    subst (λ (r : ℕ × List ℕ). ReadsStep line r) (some-same _ read b.2) (record {
      step = a.0.0;
      stepped = step-spelled a.0.0 b.0 b.1;
      parts = word-front line a.0.0 a.0.1 a.1;
    })

module _ (line : List ℕ) (read : Stop × List ℕ) where
  record ReadsStop : Type 0 where
    text : List ℕ
    spelled : SpellsStop read.0 text
    parts : line ≡ text ++ read.1

  failing-spelled : fail_stop_at line ≡ Some read → (text : List ℕ) × SpellsStop read.0 (codes "fail " ++ text) × (line ≡ text ++ read.1)
  unfolding fail_stop_at
  failing-spelled is =
      let a = bind-some (stop_step_at line) _ read is in let b = bind-some (word_at a.0.1) _ read a.2 in
      let at = stop_step-spelled line a.0 a.1 in let word = word-front a.0.1 b.0.0 b.0.1 b.1 in
      let Goal : Stop × List ℕ → Type 0 = λ (r : Stop × List ℕ). (text : List ℕ) × SpellsStop r.0 (codes "fail " ++ text)
      × (line ≡ text ++ r.1) in
      let parts : (said : List ℕ) → b.0.0 ≡ said → line ≡ (at.step ++ 32 ∷ (said ++ 32 ∷ [])) ++ b.0.1 = λ said same.
      at.parts ∙ ap (λ (back : List ℕ). at.step ++ 32 ∷ back) (word ∙ ap (λ (first : List ℕ). first ++ 32 ∷ b.0.1) same)
      ∙ simp append_assoc in
      elim (chosen (bytes_eq b.0.0 (codes "done")) (Some (Fail a.0.0 true, b.0.1)) _ read b.2) [
        | inl w ↦ subst Goal (some-same _ read w.1) (
          at.step ++ codes " done ",
          (at.step, at.stepped, simp append_assoc),
          parts (codes "done") (text_is _ _ w.0),
        )
        | inr w ↦ elim (chosen (bytes_eq b.0.0 (codes "undone")) (Some (Fail a.0.0 false, b.0.1)) None read w.1) [
          | inl v ↦ subst Goal (some-same _ read v.1) (
            at.step ++ codes " undone ",
            (at.step, at.stepped, simp append_assoc),
            parts (codes "undone") (text_is _ _ v.0),
          )
          | inr v ↦ cc
        ]
      ]

stop-spelled : (line : List ℕ) (read : Stop × List ℕ) → stop_at line ≡ Some read → ReadsStop line read
unfolding stop_at
stop-spelled line read is = elim (found_or (rest_after_prefix (codes "cut ") line) _ _ read is) [
  | inl w ↦
      let a = bind-some (stop_step_at w.0) _ read w.2 in let at = stop_step-spelled w.0 a.0 a.1 in
      subst (ReadsStop line) (some-same _ read a.2) (record {
        text = codes "cut " ++ at.step ++ 32 ∷ [];
        spelled = (at.step, at.stepped, refl);
        parts = after-front (codes "cut ") line w.0 w.1 ∙ ap (λ (back : List ℕ). codes "cut " ++ back) at.parts ∙ simp append_assoc;
      })
  | inr w ↦ elim (found_or (rest_after_prefix (codes "drop ") line) _ _ read w.1) [
    | inl v ↦
        let a = bind-some (stop_step_at v.0) _ read v.2 in let at = stop_step-spelled v.0 a.0 a.1 in
        subst (ReadsStop line) (some-same _ read a.2) (record {
          text = codes "drop " ++ at.step ++ 32 ∷ [];
          spelled = (at.step, at.stepped, refl);
          parts = after-front (codes "drop ") line v.0 v.1 ∙ ap (λ (back : List ℕ). codes "drop " ++ back) at.parts ∙ simp append_assoc;
        })
    | inr v ↦ elim (found_or (rest_after_prefix (codes "fail ") line) _ _ read v.1) [
      | inl u ↦
          let failing = failing-spelled u.0 read u.2 in record {
            text = codes "fail " ++ failing.0;
            spelled = failing.1;
            parts =
                after-front (codes "fail ") line u.0 u.1 ∙ ap (λ (back : List ℕ). codes "fail " ++ back) failing.2 ∙ simp append_assoc;
          }
      | inr u ↦ subst (ReadsStop line) (some-same _ read u.1) (record { text = []; spelled = refl; parts = refl })
    ]
  ]
]

module _ (line : List ℕ) (read : Offer × List ℕ) where
  record ReadsOffer : Type 0 where
    text : List ℕ
    spelled : SpellsOffer read.0 text
    parts : line ≡ text ++ 32 ∷ read.1

  flip-spelled : flip_at line ≡ Some read → (text : List ℕ) × SpellsOffer read.0 (codes "flip " ++ text) × (line ≡ text ++ 32 ∷ read.1)
  unfolding flip_at
  flip-spelled is =
      let a = bind-some (word_at line) _ read is in let b = bind-some (number_at a.0.0) _ read a.2 in
      let c = bind-some (word_at a.0.1) _ read b.2 in let d = bind-some (number_at c.0.0) _ read c.2 in
      subst (λ (r : Offer × List ℕ). (text : List ℕ) × SpellsOffer r.0 (codes "flip " ++ text) × (line ≡ text ++ 32 ∷ r.1))
      (some-same _ read d.2) (
        a.0.0 ++ 32 ∷ c.0.0,
        (
          a.0.0,
          c.0.0,
          number-spelled a.0.0 b.0 b.1,
          number-spelled c.0.0 d.0 d.1,
          simp
              append_assoc,
        ),
        word-front line a.0.0 a.0.1 a.1 ∙ ap (λ (back : List ℕ). a.0.0 ++ 32 ∷ back) (word-front a.0.1 c.0.0 c.0.1 c.1)
            ∙ simp append_assoc,
      )

  raw-spelled : raw_offer_at line ≡ Some read → (text : List ℕ) × SpellsOffer read.0 (codes "raw " ++ text) × (line ≡ text ++ 32 ∷ read.1)
  unfolding raw_offer_at
  raw-spelled is =
      let a = bind-some (word_at line) _ read is in let b = bind-some (bytes_at a.0.0) _ read a.2 in
      subst (λ (r : Offer × List ℕ). (text : List ℕ) × SpellsOffer r.0 (codes "raw " ++ text) × (line ≡ text ++ 32 ∷ r.1))
      (some-same _ read b.2) (a.0.0, (a.0.0, bytes-spelled a.0.0 b.0 b.1, refl), word-front line a.0.0 a.0.1 a.1)

offer-spelled : (line : List ℕ) (read : Offer × List ℕ) → offer_at line ≡ Some read → ReadsOffer line read
unfolding offer_at flip_at
offer-spelled line read is =
    let a = bind-some (word_at line) _ read is in let first = word-front line a.0.0 a.0.1 a.1 in
    elim (chosen (bytes_eq a.0.0 (codes "last")) (Some (Last, a.0.1)) _ read a.2) [
      | inl w ↦ subst (ReadsOffer line) (some-same _ read w.1) (record { text = a.0.0; spelled = text_is _ _ w.0; parts = first })
      | inr w ↦ elim (chosen (bytes_eq a.0.0 (codes "flip")) (flip_at a.0.1) _ read w.1) [
        | inl v ↦
            let flip = flip-spelled a.0.1 read v.1 in record {
              text = codes "flip " ++ flip.0;
              spelled = flip.1;
              parts = first ∙ ap (λ (word : List ℕ). word ++ 32 ∷ a.0.1) (text_is _ _ v.0)
                  ∙ ap (λ (back : List ℕ). codes "flip " ++ back) flip.2 ∙ simp append_assoc;
            }
        | inr v ↦ elim (chosen (bytes_eq a.0.0 (codes "raw")) (raw_offer_at a.0.1) _ read v.1) [
          | inl u ↦
              let raw = raw-spelled a.0.1 read u.1 in record {
                text = codes "raw " ++ raw.0;
                spelled = raw.1;
                parts = first ∙ ap (λ (word : List ℕ). word ++ 32 ∷ a.0.1) (text_is _ _ u.0)
                    ∙ ap (λ (back : List ℕ). codes "raw " ++ back) raw.2 ∙ simp append_assoc;
              }
          | inr u ↦
              let b = bind-some (number_at a.0.0) _ read u.1 in
              subst (ReadsOffer line) (some-same _ read b.2)
              (record { text = a.0.0; spelled = number-spelled a.0.0 b.0 b.1; parts = first })
        ]
      ]
    ]

-- the call behind meddles and a stop that are spelled
call-spelled : (meddles : List Meddle) (stop : Stop) (line rest text ending : List ℕ) (event : Event)
    → length meddles ≤ 8 → SpellsMeddles 0 meddles text → SpellsStop stop ending → line ≡ text ++ ending ++ rest
    → call_at meddles stop rest ≡ Some event → SpellsEvent event line
unfolding call_at
call-spelled meddles stop line rest text ending event few meddled stopped parts is =
    let front : (call : List ℕ) → rest ≡ call → SpellsPrefix meddles stop line call = λ call same. record {
      few = few;
      extensions = text;
      ending = ending;
      meddled = meddled;
      stopped = stopped;
      parts = parts ∙ ap (λ (back : List ℕ). text ++ ending ++ back) same;
    } in
    elim (chosen (bytes_eq rest (codes "checkpoint")) (Some (Checkpoint meddles stop)) _ event is) [
      | inl w ↦ subst (λ (e : Event). SpellsEvent e line) (some-same _ event w.1) (front (codes "checkpoint") (text_is _ _ w.0))
      | inr w ↦ elim (found_or (rest_after_prefix (codes "ask ") rest) _ _ event w.1) [
        | inl v ↦
            let a = bind-some (offer_at v.0) _ event v.2 in let offer = offer-spelled v.0 a.0 a.1 in
            subst (λ (e : Event). SpellsEvent e line) (some-same _ event a.2) (
              offer.text,
              offer.spelled,
              front
                  (ask_call_text (One a.0.1) offer.text) (after-front (codes "ask ") rest v.0 v.1
                  ∙ ap (λ (back : List ℕ). codes "ask " ++ back)
                  offer.parts ∙ simp append_assoc),
            )
        | inr v ↦ elim (found_or (rest_after_prefix (codes "batch ") rest) _ None event v.1) [
          | inl u ↦
              let a = bind-some (offer_at u.0) _ event u.2 in let offer = offer-spelled u.0 a.0 a.1 in
              subst (λ (e : Event). SpellsEvent e line) (some-same _ event a.2) (
                offer.text,
                offer.spelled,
                front
                    (ask_call_text (Many a.0.1) offer.text)
                    (after-front (codes "batch ") rest u.0 u.1 ∙ ap (λ (back : List ℕ). codes "batch " ++ back)
                    offer.parts ∙ simp append_assoc),
              )
          | inr u ↦ cc
        ]
      ]
    ]

prefixed-spelled : (line : List ℕ) (event : Event) → prefixed_call_at line ≡ Some event → SpellsEvent event line
unfolding prefixed_call_at
prefixed-spelled line event is =
    let a = bind-some (meddles_at 8 0 line) _ event is in let b = bind-some (stop_at a.0.1) _ event a.2 in
    let meddles = meddles-spelled 8 0 line a.0 a.1 in let stop = stop-spelled a.0.1 b.0 b.1 in
    call-spelled a.0.0 b.0.0 line b.0.1 meddles.text stop.text event meddles.few meddles.spelled stop.spelled
    (meddles.parts ∙ ap (λ (back : List ℕ). meddles.text ++ back) stop.parts ∙ simp append_assoc) b.2

pub event_spelled : (line : List ℕ) (event : Event) → event_at line ≡ Some event → SpellsEvent event line
unfolding event_at
event_spelled line event is = elim (chosen (bytes_eq line (codes "power")) (Some Power) _ event is) [
  | inl w ↦ subst (λ (e : Event). SpellsEvent e line) (some-same _ event w.1) (text_is _ _ w.0)
  | inr w ↦ elim (found_or (rest_after_prefix (codes "extend ") line) _ (prefixed_call_at line) event w.1) [
    | inl v ↦
        let a = bind-some (value_at v.0) _ event v.2 in
        subst (λ (e : Event). SpellsEvent e line) (some-same _ event a.2)
        (v.0, value-spelled v.0 a.0 a.1, after-front (codes "extend ") line v.0 v.1)
    | inr v ↦ prefixed-spelled line event v.1
  ]
]

-- Lines that ask at once.

-- nothing stands in front of what such a line asks
asks_so : (rest : List ℕ) → event_at (codes "ask " ++ rest) ≡ ask_at [] Quiet rest
unfolding event_at prefixed_call_at meddles_at stop_at call_at rest_after_prefix
asks_so rest = refl

pub asks_at_once : (line rest : List ℕ) → rest_after_prefix (codes "ask ") line ≡ Some rest → event_at line ≡ ask_at [] Quiet rest
asks_at_once line rest is = rw (after-front (codes "ask ") line rest is) (asks_so rest)
