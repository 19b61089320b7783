-- The laws of a module that gives receipts, from those of the module inside.
use Rattle.std.specs.Prelude.{◌≡◌, ℕ, ◌+◌, ◌≤◌, ◌==◌, ◌&&◌, Bool, true, nat_le, List, [], ◌∷◌, ◌++◌, length, take, drop, Option, Some, None}
use Rattle.std.specs.Prelude.{if◌then◌else◌}
use Rattle.std.proofs.Common.{refl, ◌∙◌, ap, arith, rules, length-append}
use Rattle.std.proofs.lemmas.Bool.Decides.{nat_tests}
use Rattle.std.proofs.lemmas.List.{length-take-le, length-drop}
use Rattle.std.proofs.lemmas.List.Folds.{list_all-append}
use Rattle.hex.specs.Hex.{lower_digits}
use Rattle.hex.proofs.HexLemmas.{length-encode_with}
use Rattle.mm_bytes.specs.Limits.{eight_bytes, last_position, limit_of}
use Rattle.mm_digest.specs.Messages.{hmac_of}
use Rattle.mm_digest.specs.LengthLaws.{length-hmac_of}
use Rattle.mm_module.specs.Batch.{is_byte, are_bytes, number_of_eight_bytes}
use Rattle.mm_module.specs.LineLaws.{is_unbroken, and-true, and-both, IsText, is_unbroken-All, take-front, drop-front, are_bytes-take}
use Rattle.mm_module.specs.LineLaws.{are_bytes-drop, are_bytes-append, are_bytes-All, length-eight, are_bytes-eight}
use Rattle.mm_module.specs.LineLaws.{number_of_eight_bytes-eight, IsValue, MayBeValue, value_at-value, is_unbroken-encoded}
use Rattle.mm_module.specs.Meaning.{Meaning, IsLawful, IsShort}
use Rattle.mm_module.specs.RunLaws.{Table, IsTable, is-true, table_is_lawful}
use Rattle.mm_receipted.specs.Receipts.{receipt_message, digits_of}
use Rattle.mm_receipted.specs.Table.{ReceiptState, outcome_of, first_receipt_state, key_bytes, spelling_of, is_keyed, is_front}
use Rattle.mm_receipted.specs.Table.{receipt_state_after, receipt_state_in, is_state, receipted_module}

-- what is kept has its form, but for the state inside
pub record IsKept (kept : ReceiptState) : Type 0 where
  pub few : kept.count ≤ last_position
  pub keyed : MayBeValue kept.key

-- what is kept after a request has its form too
pub outcome_of-IsKept : (inner : Meaning) (kept : ReceiptState) (request : List ℕ) → IsKept kept → IsKept (outcome_of inner kept request).0
outcome_of-IsKept inner kept request good = grind (arith, nat_tests, value_at-value)

-- a key and a state inside are read back
kept_by-joined : (count : ℕ) (key : Option (List ℕ)) (inner : List ℕ) → MayBeValue key
    → receipt_state_after count (key_bytes key ++ inner) ≡ record { count = count; key = key; inner = inner }
kept_by-joined count None inner is = refl
kept_by-joined count (Some key) inner is = rw (take-front 32 key inner is.long, drop-front 32 key inner is.long) refl

-- a spelling is read back
pub kept_of-spelling_of : (kept : ReceiptState) → IsKept kept → receipt_state_in (spelling_of kept) ≡ kept
unfolding receipt_state_in
kept_of-spelling_of kept good =
    let behind = key_bytes kept.key ++ kept.inner in
    rw (
      take-front 8 (eight_bytes kept.count) behind (length-eight kept.count),
      drop-front 8 (eight_bytes kept.count) behind (length-eight kept.count),
      number_of_eight_bytes-eight kept.count (omega (arith, good.few)),
    ) (kept_by-joined kept.count kept.key kept.inner good.keyed)

is_keyed-joined : (key : Option (List ℕ)) (inner : List ℕ) → is_keyed (key_bytes key ++ inner) ≡ true
is_keyed-joined None inner = refl
is_keyed-joined (Some key) inner = refl

length-key_bytes : (key : Option (List ℕ)) → MayBeValue key → length (key_bytes key) ≡ 33
length-key_bytes key is = grind arith

bytes-key_bytes : (key : Option (List ℕ)) → MayBeValue key → are_bytes (key_bytes key) ≡ true
bytes-key_bytes key is = grind arith

is_front-spelling_of : (kept : ReceiptState) → IsKept kept → is_front (spelling_of kept) ≡ true
is_front-spelling_of kept good =
    let behind = key_bytes kept.key ++ kept.inner in
    let few : kept.count ≤ last_position = good.few in
    let eight = length-eight kept.count in
    let count = number_of_eight_bytes-eight kept.count (omega (arith, few)) in
    let keyed = is_keyed-joined kept.key kept.inner in
    let long = length-key_bytes kept.key good.keyed in
    rw (take-front 8 (eight_bytes kept.count) behind eight, drop-front 8 (eight_bytes kept.count) behind eight)
    (rw (count, keyed) (grind (arith, nat_tests, length-append)))

-- what is kept spells a state, where the state inside is spelled
is_state-spelling_of : (inner : Meaning) → IsLawful inner → (kept : ReceiptState) → IsKept kept → inner.is_spelled kept.inner ≡ true
    → is_state inner (spelling_of kept) ≡ true
unfolding is_state
is_state-spelling_of inner lawful kept good spelled =
    let bytes = are_bytes-All kept.inner
    (lawful.has_bytes kept.inner (search (rules, spelled))) in
    let behind = are_bytes-append (key_bytes kept.key) kept.inner
    (bytes-key_bytes kept.key good.keyed) bytes in
    and-both _ _ (are_bytes-append (eight_bytes kept.count) (key_bytes kept.key ++ kept.inner)
    (are_bytes-eight kept.count) behind)
    (and-both _ _ (is_front-spelling_of kept good)
    (ap (λ (k : ReceiptState). inner.is_spelled k.inner) (kept_of-spelling_of kept good) ∙ spelled))

-- what a spelled state says
pub record SpellsKept (inner : Meaning) (bytes : List ℕ) : Type 0 where
  pub all : are_bytes bytes ≡ true
  pub long : 41 ≤ length bytes
  pub few : number_of_eight_bytes (take 8 bytes) ≤ last_position
  pub spelled : inner.is_spelled (receipt_state_in bytes).inner ≡ true

spells-kept : (bytes : List ℕ) (all keyed spelled : Bool)
    → (all && ((nat_le 41 (length bytes) && (nat_le (number_of_eight_bytes (take 8 bytes)) last_position && keyed)) && spelled)) ≡ true
    → ((all ≡ true) × (spelled ≡ true)) × (41 ≤ length bytes) × (number_of_eight_bytes (take 8 bytes) ≤ last_position)
spells-kept bytes all keyed spelled is = grind (arith, nat_tests)

pub SpellsKept-from : (inner : Meaning) (bytes : List ℕ) → is_state inner bytes ≡ true → SpellsKept inner bytes
unfolding is_state
SpellsKept-from inner bytes is =
    let w = spells-kept bytes (are_bytes bytes) _ _ is in
    record { all = w.0.0; long = w.1; few = w.2; spelled = w.0.1 }

-- what a spelled state keeps has its form, behind 41 bytes
record KeepsBehind (count : ℕ) (back : List ℕ) : Type 0 where
  kept : IsKept (receipt_state_after count back)
  long : length back ≡ 33 + length (receipt_state_after count back).inner

key_in-key : (named : Bool) (bytes : List ℕ) → IsValue bytes → MayBeValue (if named then Some bytes else None)
key_in-key named bytes is = grind arith

keeps-behind : (count : ℕ) (back : List ℕ) → count ≤ last_position → 33 ≤ length back → are_bytes back ≡ true → KeepsBehind count back
keeps-behind count [] few long all = absurd (omega (arith, long))
keeps-behind count (form ∷ rest) few long all =
    record {
      kept = record {
        few = few;
        keyed = key_in-key (form == 1) (take 32 rest) (record {
          long = length-take-le 32 rest (omega (arith, long));
          bytes = are_bytes-take 32 rest (and-true (is_byte form) (are_bytes rest) all).1;
        });
      };
      long = omega (arith, length-drop 32 rest, long);
    }

behind-front : (inner : Meaning) (bytes : List ℕ) → SpellsKept inner bytes
    → KeepsBehind (number_of_eight_bytes (take 8 bytes)) (drop 8 bytes)
behind-front inner bytes is =
    keeps-behind _ (drop 8 bytes) is.few (omega (arith, length-drop 8 bytes, is.long))
    (are_bytes-drop 8 bytes is.all)

pub kept_of-IsKept : (inner : Meaning) (bytes : List ℕ) → SpellsKept inner bytes → IsKept (receipt_state_in bytes)
unfolding receipt_state_in
kept_of-IsKept inner bytes is = (behind-front inner bytes is).kept

kept_of-length : (inner : Meaning) (bytes : List ℕ) → SpellsKept inner bytes → length bytes ≡ 41 + length (receipt_state_in bytes).inner
unfolding receipt_state_in
kept_of-length inner bytes is = omega (arith, length-drop 8 bytes, (behind-front inner bytes is).long, is.long)

pub length-digits_of : (key : List ℕ) (position : ℕ) (request said : List ℕ) → length (digits_of key position request said) ≡ 64
unfolding digits_of
length-digits_of key position request said =
    omega (
      arith,
      length-encode_with lower_digits (hmac_of key (receipt_message position request said)),
      length-hmac_of key (receipt_message position request said),
    )

unbroken-digits_of : (key : List ℕ) (position : ℕ) (request said : List ℕ) → is_unbroken (digits_of key position request said) ≡ true
unfolding digits_of
unbroken-digits_of key position request said = is_unbroken-encoded _

-- what is said has at most 400 bytes, with no LF; and the state inside stays spelled
outcome_of-IsText : (inner : Meaning) (kept : ReceiptState) (request : List ℕ) → length (inner.says kept.inner request) ≤ 256
    → is_unbroken (inner.says kept.inner request) ≡ true → IsText 400 (outcome_of inner kept request).1
outcome_of-IsText inner kept request short unbroken =
    grind (
      arith,
      nat_tests,
      length-append,
      length-digits_of,
      list_all-append,
      unbroken-digits_of,
    )

outcome_of-spelled : (inner : Meaning) (kept : ReceiptState) (request : List ℕ) → inner.is_spelled kept.inner ≡ true
    → inner.is_spelled (inner.next kept.inner request) ≡ true → inner.is_spelled (outcome_of inner kept request).0.inner ≡ true
outcome_of-spelled inner kept request here next = grind (arith, nat_tests)

abbrev receipted_table : Meaning → Table ReceiptState
receipted_table inner = record {
  first = first_receipt_state inner;
  read = receipt_state_in;
  spelling = spelling_of;
  does = outcome_of inner;
}

-- a module that gives receipts is a module
receipted_is_table : (inner : Meaning) → IsLawful inner → IsShort inner
    → IsTable (receipted_table inner) (receipted_module inner) (λ kept. IsKept kept × (inner.is_spelled kept.inner ≡ true)) 65041 400
receipted_is_table inner lawful short = record {
  begins = refl;
  first = (record { few = omega arith; keyed = tt }, is-true _ lawful.begins);
  reads = λ bytes is.
      let s = SpellsKept-from inner bytes is in (kept_of-IsKept inner bytes s, s.spelled);
  spells = λ kept good. is_state-spelling_of inner lawful kept good.0 good.1;
  back = λ kept good. kept_of-spelling_of kept good.0;
  next = λ bytes request. refl;
  says = λ bytes request. refl;
  stays = λ kept request good. (
    outcome_of-IsKept inner kept request good.0,
    outcome_of-spelled inner kept request good.1
        (is-true _ (lawful.goes_on kept.inner request (search (rules, good.1)))),
  );
  tells = λ kept request good.
      outcome_of-IsText inner kept request
      (short.output kept.inner request (search (rules, good.1)))
      (is_unbroken-All _ (lawful.says_lines kept.inner request (search (rules, good.1))).unbroken);
  fits = λ bytes is.
      let s = SpellsKept-from inner bytes is in
      omega (
        arith,
        kept_of-length inner bytes s,
        short.state (receipt_state_in bytes).inner (search (rules, s.spelled)),
      );
  bytes = λ bytes is. (SpellsKept-from inner bytes is).all;
}

wide_enough : (id : ℕ) → 65041 ≤ limit_of id
wide_enough id = grind (arith, nat_tests)

pub receipted_is_lawful : (inner : Meaning) → IsLawful inner → IsShort inner → IsLawful (receipted_module inner)
receipted_is_lawful inner lawful short = table_is_lawful (receipted_is_table inner lawful short) (wide_enough _) (omega arith)
