-- Receipts that aren't forged never clash: each known pair is one, and two of one position are equal.
use Rattle.mm_receipt.proofs.Below.{◌≡◌, ◌∙◌, ◌+◌, ◌≤◌, ◌==◌, ◌++◌, ℕ, Bool, true, false, cond, nat_lt, List, [], ◌∷◌, length, Option, Some}
use Rattle.mm_receipt.proofs.Below.{None, Result, Ok, Err, refl, sym, ap, subst, arith, first_answered, receipts-true, no-clash}
use Rattle.mm_receipt.proofs.Below.{AskedRequest, CheckTally, CheckState, pair_at, request_by_space, is_too_much, known_at, verdict_against}
use Rattle.mm_receipt.proofs.Below.{receipt_verdict, pair_verdict, verdict_text, tally_after_pair, first_answer_by, reply_of_first}
use Rattle.mm_receipt.proofs.Below.{reply_of_second, receipts_answer, first_tally}
use Rattle.std.specs.Prelude.{if◌then◌else◌}
use Rattle.std.specs.BTreeMap.{is_at, insert_entry}
use Rattle.std.specs.List.{AllByRecursion, position}
use Rattle.std.specs.Map.{lookup}
use Rattle.std.specs.Ordering.{nat_cmp, match_ordering}
use Rattle.std.specs.declared.cmp.Ordering.TheVariants.{Less, Equal, Greater}
use Rattle.std.specs.Str.{bytes_eq}
use Rattle.std.proofs.lemmas.Bool.Decides.{nat_tests}
use Rattle.std.proofs.lemmas.Slice.Eq.{bytes_eq-Decides}
use Rattle.mm_bytes.specs.Limits.{last_position, longest_request}
use Rattle.mm_module.specs.Meaning.{Meaning, is_space}
use Rattle.mm_play.specs.declared.player.LineRefusal.TheVariants.{Much}
use Rattle.mm_play.specs.PlaysInput.{PlayOutcome, play_outcome, outcome_of_lines}
use Rattle.mm_receipted.specs.declared.receipt.NotReceipt.{NotReceipt}
use Rattle.mm_receipted.specs.declared.receipt.NotReceipt.TheVariants.{Form, Tag}
use Rattle.mm_receipted.specs.Receipts.{check_of_receipt}
use Rattle.mm_receipted.specs.ReceiptListing.{IsCounted, IsUnforged}
use Rattle.mm_receipt.specs.declared.pair.GoodPair.{GoodPair}
use Rattle.mm_receipt.specs.declared.pair.PairVerdict.{PairVerdict}
use Rattle.mm_receipt.specs.declared.pair.PairVerdict.TheVariants.{Good}
use Rattle.mm_receipt.specs.ReceiptCheck.{pairs_of, text_alone, pair_text_alone, WasTagged, IsTrue, IsHonest, ChecksAreHonest}

-- a pair that nothing stands beside is answered by its output alone
alone-text : (position : ℕ) (request output : List ℕ) (answer : Result (Unit {0}) NotReceipt)
    → verdict_text position (receipt_verdict answer None request output) ≡ text_alone position answer
alone-text position request output answer = grind arith

-- what a first line keeps
record IsFormed (asked : AskedRequest) : Type 0 where
  near : asked.position ≤ last_position
  short : length asked.request ≤ longest_request

abbrev MayWait : Option AskedRequest → Type 0
MayWait None = Unit {0}
MayWait (Some asked) = IsFormed asked

parted-formed : (line : List ℕ) (found : Option ℕ) → MayWait (request_by_space line found)
parted-formed line found = grind (arith, nat_tests)

at-key : (a b : ℕ) → is_at (nat_cmp a) b ≡ true → a ≡ b
at-key a b is = grind (arith, nat_tests)

module _ (inner : Meaning) (requests : List (List ℕ)) (counted : AllByRecursion IsCounted requests) (key : List ℕ) where
  -- a pair that is known isn't forged
  abbrev IsSound : ℕ × GoodPair → Type 0
  IsSound entry = IsUnforged inner requests key entry.0 entry.1.request entry.1.output

  abbrev AreSound : List (ℕ × GoodPair) → Type 0
  AreSound known = AllByRecursion IsSound known

  abbrev SoundAt : ℕ → Option GoodPair → Type 0
  SoundAt number None = Unit {0}
  SoundAt number (Some pair) = IsUnforged inner requests key number pair.request pair.output

  sound-here : (number : ℕ) (entry : ℕ × GoodPair) (rest : List (ℕ × GoodPair)) (here : Bool) → is_at (nat_cmp number) entry.0 ≡ here
      → IsSound entry → SoundAt number (lookup (is_at (nat_cmp number)) rest)
      → SoundAt number (cond here (Some entry.1) (lookup (is_at (nat_cmp number)) rest))
  sound-here number entry rest true is sound later =
      subst (λ n. IsUnforged inner requests key n entry.1.request entry.1.output) (sym (at-key number entry.0 is)) sound
  sound-here number entry rest false is sound later = later

  sound-at : (number : ℕ) (known : List (ℕ × GoodPair)) → AreSound known → SoundAt number (known_at number known)
  sound-at number [] sound = tt
  sound-at number (entry ∷ known) sound =
      sound-here number entry known (is_at (nat_cmp number) entry.0) refl sound.0 (sound-at number known sound.1)

  sound-by : (number : ℕ) (pair : GoodPair) (entry : ℕ × GoodPair) (known rest : List (ℕ × GoodPair)) (below same : Bool)
      → (number == entry.0) ≡ same
      → IsUnforged inner requests key number pair.request pair.output → IsSound entry → AreSound known → AreSound rest
      → AreSound (match_ordering (cond below Less (cond same Equal Greater)) ((number, pair) ∷ entry ∷ known) ((entry.0, pair) ∷ known)
      (entry ∷ rest))
  sound-by number pair entry known rest true same is new old more later = (new, (old, more))
  sound-by number pair entry known rest false true is new old more later =
      let e : number ≡ entry.0 = grind (arith, nat_tests) in
      (subst (λ n. IsUnforged inner requests key n pair.request pair.output) e new, more)
  sound-by number pair entry known rest false false is new old more later = (old, later)

  sound-insert : (number : ℕ) (pair : GoodPair) (known : List (ℕ × GoodPair)) → IsUnforged inner requests key number
      pair.request pair.output
      → AreSound known → AreSound (insert_entry nat_cmp known number pair)
  sound-insert number pair [] new sound = (new, tt)
  sound-insert number pair (entry ∷ known) new sound =
      sound-by number pair entry known (insert_entry nat_cmp known number pair) (nat_lt number entry.0) (number == entry.0) refl new sound.0
      sound.1 (sound-insert number pair known new sound.1)

  same_bytes : (a b : List ℕ) → a ≡ b → bytes_eq a b ≡ true
  same_bytes a b is = grind (arith, bytes_eq-Decides)

  beside-good : (asked : AskedRequest) (output : List ℕ) (known : Option GoodPair) → IsUnforged inner requests key asked.position
      asked.request output
      → SoundAt asked.position known → verdict_against known asked.request output ≡ Good
  beside-good asked output None new sound = refl
  beside-good asked output (Some pair) new sound =
      let same = no-clash inner requests counted key asked.position asked.request output pair.request pair.output new sound in
      rw (same_bytes asked.request pair.request same.0, same_bytes output pair.output same.1) refl

  -- a verdict on a sound tally is the one of the pair alone
  verdict-alone : (asked : AskedRequest) (output : List ℕ) (known : Option GoodPair) (answer : Result (Unit {0}) NotReceipt)
      → (answer ≡ Ok tt → IsUnforged inner requests key asked.position asked.request output)
      → SoundAt asked.position known → receipt_verdict answer known asked.request output ≡ receipt_verdict answer None asked.request output
  verdict-alone asked output known (Err Form) new sound = refl
  verdict-alone asked output known (Err Tag) new sound = refl
  verdict-alone asked output known (Ok done) new sound = beside-good asked output known (new refl) sound

  after-sound : (tally : CheckTally) (asked : AskedRequest) (output : List ℕ) (answer : Result (Unit {0}) NotReceipt)
      → (answer ≡ Ok tt → IsUnforged inner requests key asked.position asked.request output)
      → AreSound tally.known → AreSound (tally_after_pair tally asked output (receipt_verdict answer None asked.request output)).known
  after-sound tally asked output (Err Form) new sound = sound
  after-sound tally asked output (Err Tag) new sound = sound
  after-sound tally asked output (Ok done) new sound =
      sound-insert asked.position (record { request = asked.request; output = output }) tally.known (new refl) sound

  after-key : (tally : CheckTally) (asked : AskedRequest) (output : List ℕ) (verdict : PairVerdict)
      → (tally_after_pair tally asked output verdict).key ≡ tally.key
  after-key tally asked output verdict = grind arith

  -- what stands between two lines
  record Stands (tally : CheckTally) (asked : Option AskedRequest) : Type 0 where
    keyed : tally.key ≡ key
    sound : AreSound tally.known
    formed : MayWait asked

  -- a first line waits, and is answered nothing
  record Waiting (tally : CheckTally) (line : List ℕ) (reply : List ℕ) (mid : CheckState) : Type 0 where
    silent : reply ≡ []
    asked : mid.asked ≡ pair_at line
    known : mid.tally.known ≡ tally.known
    same_key : mid.tally.key ≡ tally.key

  first-waits : (tally : CheckTally) (line : List ℕ) (found : Option AskedRequest) (reply : List ℕ) (mid : CheckState)
      → pair_at line ≡ found → reply_of_first (first_answer_by tally line found) ≡ Ok (reply, mid) → Waiting tally line reply mid
  first-waits tally line found reply mid is h =
      let w = waited tally line found reply mid h in
      record { silent = w.0; asked = w.1.0 ∙ sym is; known = w.1.1; same_key = w.1.2 }
    where
      waited : (tally : CheckTally) (line : List ℕ) (found : Option AskedRequest) (reply : List ℕ) (mid : CheckState)
          → reply_of_first (first_answer_by tally line found) ≡ Ok (reply, mid)
          → (reply ≡ []) × ((mid.asked ≡ found) × (mid.tally.known ≡ tally.known) × (mid.tally.key ≡ tally.key))
      waited tally line found reply mid h = grind (arith, nat_tests)

  -- a second line is answered by its verdict
  settled : (tally after : CheckTally) (line said reply : List ℕ) (mid : CheckState)
      → reply_of_second (if is_too_much tally line then Err Much else Ok (said, after)) ≡ Ok (reply, mid)
      → (reply ≡ said) × (mid ≡ record { tally = after; asked = None })
  settled tally after line said reply mid h = grind (arith, nat_tests)

  unforged : (asked : AskedRequest) (line : List ℕ) → IsFormed asked
      → WasTagged inner requests key (record { asked = asked; output = line })
      → check_of_receipt key asked.position asked.request line ≡ Ok tt → IsUnforged inner requests key asked.position asked.request line
  unforged asked line formed genuine accepted =
      record { near = formed.near; short = formed.short; accepted = accepted; tagged = genuine accepted }

  true-pair : (asked : AskedRequest) (line : List ℕ) → IsFormed asked
      → WasTagged inner requests key (record { asked = asked; output = line })
      → IsTrue inner requests key (record { asked = asked; output = line })
  true-pair asked line formed genuine accepted =
      receipts-true inner requests counted key asked.position asked.request line (unforged asked line formed genuine accepted)

  honest-from : (lines : List (List ℕ)) (number : ℕ) (tally : CheckTally) (asked : Option AskedRequest) (written : List ℕ)
      (next : CheckState)
      → Stands tally asked → outcome_of_lines receipts_answer number (record { tally = tally; asked = asked }) lines
      ≡ play_outcome written (Ok next)
      → AllByRecursion (WasTagged inner requests key) (pairs_of asked lines) → IsHonest inner requests key (pairs_of asked lines) written
  honest-from [] number tally asked written next s ran genuine =
      record { plain = sym (ap (λ (t : PlayOutcome CheckState). t.written) ran); right = tt }
  honest-from (line ∷ lines) number tally None written next s ran genuine =
      let step = first_answered receipts_answer number (record { tally = tally; asked = None }) line lines written next ran in
      let w = first-waits tally line (pair_at line) step.reply.0 step.reply.1 refl step.replied in
      let mid : record { tally = step.reply.1.tally; asked = pair_at line } ≡ step.reply.1 = ap
      (λ (a : Option AskedRequest). record { tally = step.reply.1.tally; asked = a }) (sym w.asked) in
      let stands : Stands step.reply.1.tally (pair_at line) = record {
        keyed = w.same_key ∙ s.keyed;
        sound = subst AreSound (sym w.known) s.sound;
        formed = parted-formed line (position is_space line);
      } in
      let rest = honest-from lines (number + 1) step.reply.1.tally (pair_at line) step.more next stands
      (ap (λ (c : CheckState). outcome_of_lines receipts_answer (number + 1) c lines) mid ∙ step.ran) genuine in
      record { plain = step.whole ∙ ap (λ (l : List ℕ). l ++ step.more) w.silent ∙ rest.plain; right = rest.right }
  honest-from (line ∷ lines) number tally (Some asked) written next s ran genuine =
      let step = first_answered receipts_answer number (record { tally = tally; asked = Some asked }) line lines written next ran in
      let verdict = pair_verdict tally asked line in
      let w = settled tally (tally_after_pair tally asked line verdict) line (verdict_text asked.position verdict) step.reply.0 step.reply.1
      step.replied in
      let answer = check_of_receipt key asked.position asked.request line in
      let new : answer ≡ Ok tt → IsUnforged inner requests key asked.position asked.request line = unforged asked line s.formed genuine.0 in
      let plain : pair_verdict tally asked line ≡ receipt_verdict answer None asked.request line =
      ap (λ (k : List ℕ). receipt_verdict (check_of_receipt k asked.position asked.request line)
      (known_at asked.position tally.known) asked.request
      line) s.keyed
      ∙ verdict-alone asked line (known_at asked.position tally.known) answer new (sound-at asked.position tally.known s.sound) in
      let after = tally_after_pair tally asked line (pair_verdict tally asked line) in
      let stands : Stands after None = record {
        keyed = after-key tally asked line (pair_verdict tally asked line) ∙ s.keyed;
        sound =
            subst (λ (v : PairVerdict). AreSound (tally_after_pair tally asked line v).known) (sym plain)
            (after-sound tally asked line answer new s.sound);
        formed = tt;
      } in
      let rest = honest-from lines (number + 1) after None step.more next stands
      (ap (λ (c : CheckState). outcome_of_lines receipts_answer (number + 1) c lines) (sym w.1) ∙ step.ran) genuine.1 in
      record {
        plain =
            step.whole ∙ ap (λ (l : List ℕ). l ++ step.more) (w.0 ∙ ap (λ (v : PairVerdict). verdict_text asked.position v) plain
            ∙ alone-text asked.position asked.request line answer)
            ∙ ap (λ (l : List ℕ). pair_text_alone key (record { asked = asked; output = line }) ++ l) rest.plain;
        right = (true-pair asked line s.formed genuine.0, rest.right);
      }

pub honest : ChecksAreHonest
honest key lines written next ran inner requests counted genuine =
    honest-from inner requests counted key lines 1 (first_tally key) None written next (record { keyed = refl; sound = tt; formed = tt })
    ran genuine
