-- Words and the commands that they spell. With it: what a loop over a list folds; no word of a
-- command but `--help` is refused before the parse.
use Rattle.std.specs.Char.{is_ascii_digit}
use Rattle.std.specs.Cmp.Lexicographic.{pointwise, pointwise_decides}
use Rattle.std.specs.Prelude.{fold, take}
use Rattle.std.specs.Result.{result_ok}
use Rattle.std.proofs.lemmas.Bool.{or_parts}
use Rattle.std.proofs.lemmas.Fmt.{decimal_nonempty, digits_decimal}
use Rattle.std.proofs.lemmas.List.{length-map}
use Rattle.std.proofs.lemmas.List.Elements.{All-head}
use Rattle.std.proofs.lemmas.List.Sums.{fold_more}
use Rattle.std.proofs.lemmas.Str.Parse.{numerals_by_value, tells_all_ascii_digits}
use Rattle.clap.specs.Lexer.{long_of, short_of}
use Rattle.hex.specs.declared.error.FromHexError.{FromHexError}
use Rattle.hex.specs.Hex.{decode_sized, is_hex_digit}
use Rattle.mm_module.specs.Meaning.{value_at}
use Rattle.mm_listing.specs.Listing.{IsName, is_letter}
use Rattle.mm_words.proofs.Below.{◌≡◌, ◌∙◌, ◌+◌, ◌<◌, ℕ, List, ap, get_or, length, sym, ◌≤◌, ◌^◌, true, false, [], ◌∷◌, refl, arith, codes}
use Rattle.mm_words.proofs.Below.{Some, None, Result, Ok, Err, ◌==◌, decimal, AllPass, list_any, all_ascii_digits, bytes_eq, nat_tests}
use Rattle.mm_words.proofs.Below.{decode_of-ok, decode_sized-ok, decode_sized-twice, Variant, Basic, Opt, AnyModule, name_of, any_is_listed}
use Rattle.mm_words.proofs.Below.{variant_text, Header, IsGenerated, SpellsCommand, generated_words, header_words, IsMatched, is_refused}
use Rattle.mm_words.proofs.Below.{CommandLine, Init, Gen, Bulk, Receipts, Help, GeneratedSchedule, Bool, subst, Option, IsTrue, ◌↔◌}
use Rattle.mm_words.proofs.Below.{option_map, map, ◌||◌, Bor, option_map_or, bytes_eq-Decides, Row, Text, AreReceiptsWords, AreWordsOf}

-- What a loop over a list folds.

-- the fold so far, and the item behind it
pub folded_next : {A B : Type 0} (f : B → A → B) (first : B) (items : List A) (at : ℕ) (item : A) (before after : B)
    → before ≡ fold f first (take at items) → after ≡ f before (get_or items at item) → at < length items
    → after ≡ fold f first (take (at + 1) items)
folded_next f first items at item before after folded is within =
    is ∙ ap (λ (b : _). f b (get_or items at item)) folded ∙ sym (fold_more f first items at item within)

-- No word of a command but `--help` is refused before the parse.

-- `clap` reads the word as a value
pub record IsPlainWord (word : List ℕ) : Type 0 where
  pub dashes : bytes_eq word (45 ∷ 45 ∷ []) ≡ false
  pub long : long_of word ≡ None
  pub short : short_of word ≡ None

pub plain_word : (word : List ℕ) → is_refused word ≡ false → IsPlainWord word
plain_word [] is = cc
plain_word (byte ∷ rest) is =
    let first : (byte == 45) ≡ false = (or_parts (byte == 45) (bytes_eq (byte ∷ rest) (codes "help")) is).0 in
    record { dashes = rw first refl; long = rw first refl; short = rw first refl }

digits_kept : (digits : List ℕ) → 0 < length digits → all_ascii_digits digits ≡ true → is_refused digits ≡ false
digits_kept [] some are = absurd (omega arith)
digits_kept (d ∷ ds) some are =
    let digit : is_ascii_digit d ≡ true = grind (arith, nat_tests) in
    let no_dash : (d == 45) ≡ false = grind (arith, nat_tests) in
    let no_letter : (d == 104) ≡ false = grind (arith, nat_tests) in
    rw (no_dash, no_letter) refl

pub number_kept : (n : ℕ) → n < 2 ^ 64 → is_refused (decimal n) ≡ false
number_kept n small =
    digits_kept (decimal n) (decimal_nonempty n small)
    (digits_decimal (numerals_by_value (λ (ds : List ℕ). all_ascii_digits ds ≡ true) tells_all_ascii_digits) n small)

pub variant_kept : (variant : Variant) → is_refused (variant_text variant) ≡ false
variant_kept Basic = refl
variant_kept Opt = refl

kept_by_name : (name : List ℕ) → IsName name → is_refused name ≡ false
kept_by_name [] is = let none : false ≡ true = is.begins in cc
kept_by_name (byte ∷ rest) is =
    let letter : is_letter byte ≡ true = is.begins in
    let no_dash : (byte == 45) ≡ false = grind (arith, nat_tests) in
    rw (no_dash, is.other) refl

pub name_kept : (it : AnyModule) → is_refused (name_of it) ≡ false
name_kept it = kept_by_name (name_of it) (any_is_listed it).named

digit_kept : (digits : List ℕ) → 0 < length digits → AllPass is_hex_digit digits → is_refused digits ≡ false
digit_kept [] some are = absurd (omega arith)
digit_kept (d ∷ ds) some are =
    let digit : is_hex_digit d ≡ true = All-head (λ (b : ℕ). is_hex_digit b ≡ true) d ds are in
    let no_dash : d ≡ 45 → ⊥ = λ dash. let clash : false ≡ true = rw dash at digit in cc in
    let no_letter : d ≡ 104 → ⊥ = λ letter. let clash : false ≡ true = rw letter at digit in cc in
    let one : (d == 45) ≡ false = grind (arith, nat_tests) in
    let two : (d == 104) ≡ false = grind (arith, nat_tests) in
    rw (one, two) refl

decoded_kept : (digits : List ℕ) (decoded : Result (List ℕ) FromHexError) (key : List ℕ) → decode_sized digits 32 ≡ decoded
    → result_ok decoded ≡ Some key → is_refused digits ≡ false
decoded_kept digits (Ok bytes) key is gives =
    let long = decode_sized-ok digits 32 bytes is in
    let read = decode_of-ok digits bytes (sym (decode_sized-twice digits 32 long) ∙ is) in
    digit_kept digits (omega (arith, long)) read.1
decoded_kept digits (Err fault) key is gives = cc

pub key_kept : (digits key : List ℕ) → value_at digits ≡ Some key → is_refused digits ≡ false
unfolding value_at
key_kept digits key gives = decoded_kept digits (decode_sized digits 32) key refl gives

-- all words are kept, and there are at most five
pub record AreKept (words : List (List ℕ)) : Type 0 where
  pub few : length words ≤ 5
  pub kept : list_any is_refused words ≡ false

generated_kept : (word : List ℕ) (it : GeneratedSchedule) → is_refused word ≡ false → IsGenerated it → AreKept (word ∷ generated_words it)
generated_kept word it first allowed = record {
  few = omega arith;
  kept = rw (
    first,
    number_kept it.number allowed.number,
    number_kept it.count (omega (arith, allowed.count)),
    variant_kept it.header.variant,
    name_kept it.header.module,
  ) refl;
}

header_kept : (header : Header) → AreKept (codes "init" ∷ header_words header)
header_kept header = record { few = omega arith; kept = rw (variant_kept header.variant, name_kept header.module) refl }

receipts_kept : (digits key : List ℕ) → value_at digits ≡ Some key → AreKept (codes "receipts" ∷ digits ∷ [])
receipts_kept digits key gives = record { few = omega arith; kept = rw (key_kept digits key gives) refl }

pub are_kept : (command : CommandLine) (words : List (List ℕ)) → SpellsCommand command words → IsMatched command → AreKept words
are_kept (Init header) words spells matched = rw spells.spelled (header_kept header)
are_kept (Gen it) words spells matched = rw spells.spelled (generated_kept (codes "gen") it refl spells.allowed)
are_kept (Bulk it) words spells matched = rw spells.spelled (generated_kept (codes "bulk") it refl spells.allowed)
are_kept (Receipts key) words spells matched = let given = spells.spelled in rw given.2 (receipts_kept given.0 key given.1)
are_kept Help words spells matched = absurd matched
are_kept command words spells matched = rw spells.spelled (record { few = omega arith; kept = refl })

-- Words and the commands that they spell.

pub same_words : (words others : List (List ℕ)) → pointwise bytes_eq words others ≡ true → words ≡ others
same_words words others is = (pointwise_decides bytes_eq-Decides words others).0 is

-- a comparison of words decides whether they are the same
pub tells_words : (result : Bool) (words others : List (List ℕ)) → result ≡ pointwise bytes_eq words others
    → IsTrue result ↔ (words ≡ others)
tells_words result words others is = (
  λ yes. same_words words others (sym is ∙ yes),
  λ same. is ∙ (pointwise_decides bytes_eq-Decides words others).1 same,
)

-- the same, of a command that is another's equal
pub tells_command : {P : Type 0} (command other : CommandLine) (words : List (List ℕ)) → command ≡ other → P ↔ AreWordsOf other words
    → P ↔ AreWordsOf command words
tells_command {P} command other words same is = let Q : CommandLine → Type 0 = λ it. P ↔ AreWordsOf it words in subst Q (sym same) is

digits_in : List (List ℕ) → List ℕ
digits_in [] = []
digits_in (word ∷ []) = []
digits_in (word ∷ digits ∷ rest) = digits

same_digits : (word digits other given : List ℕ) → word ∷ digits ∷ [] ≡ other ∷ given ∷ [] → digits ≡ given
unfolding digits_in
same_digits word digits other given is = ap digits_in is

-- two words, the first of them `receipts`
pub tells_receipts : (result : Bool) (word digits key : List ℕ) → word ≡ codes "receipts" → IsTrue result ↔ (value_at digits ≡ Some key)
    → IsTrue result ↔ AreReceiptsWords key (word ∷ digits ∷ [])
tells_receipts result word digits key first is = (
  λ yes. (digits, is.0 yes, rw first refl),
  λ given. is.1 (rw (same_digits word digits (codes "receipts") given.0 given.2) given.1),
)

-- the same, of the words where they lie
pub tells_two : (result : Bool) (words : List (Bor (List ℕ))) (key : List ℕ) (one two : Bor (List ℕ)) → 2 ≤ length words → length words < 3
    → (get_or words 0 one).now ≡ codes "receipts" → IsTrue result ↔ (value_at (get_or words 1 two).now ≡ Some key)
    → IsTrue result ↔ AreReceiptsWords key (map (λ (word : Bor (List ℕ)). word.now) words)
tells_two result [] key one two least most first is = absurd (omega arith)
tells_two result (word ∷ []) key one two least most first is = absurd (omega arith)
tells_two result (word ∷ digits ∷ []) key one two least most first is = tells_receipts result word.now digits.now key first is
tells_two result (word ∷ digits ∷ other ∷ rest) key one two least most first is = absurd (omega arith)

pub other_words : (words others : List (List ℕ)) → pointwise bytes_eq words others ≡ false → words ≡ others → ⊥
other_words words others is same =
    let clash : false ≡ true = sym is ∙ (pointwise_decides bytes_eq-Decides words others).1 same in cc

-- where `--help` doesn't stand alone the command has a subcommand
pub no_help : (words : List (List ℕ)) (command : CommandLine) → SpellsCommand command words
    → pointwise bytes_eq words (codes "--help" ∷ []) ≡ false → IsMatched command
no_help words Help spells is = other_words words (codes "--help" ∷ []) is spells.spelled
no_help words command spells is = tt

-- words that are refused spell none
pub too_many : (words : List (Bor (List ℕ))) (command : CommandLine) → SpellsCommand command (map (λ (word : Bor (List ℕ)). word.now) words)
    → IsMatched command → 5 < length words → ⊥
too_many words command spells matched many =
    let texts : List (List ℕ) = map (λ (word : Bor (List ℕ)). word.now) words in
    let few : length texts ≤ 5 = (are_kept command texts spells matched).few in
    let same : length texts ≡ length words = length-map words (λ (word : Bor (List ℕ)). word.now) in
    absurd (omega arith)

pub one_refused : (words : List (List ℕ)) (command : CommandLine) → SpellsCommand command words → IsMatched command
    → list_any is_refused words ≡ true → ⊥
one_refused words command spells matched is =
    let clash : true ≡ false = sym is ∙ (are_kept command words spells matched).kept in cc

-- a test of texts, made of the references to them
pub any_text : (words : List (Bor (List ℕ)))
    → list_any (λ (word : Bor (List ℕ)). is_refused word.now) words ≡ list_any is_refused (map (λ (word : Bor (List ℕ)). word.now) words)
any_text [] = refl
any_text (word ∷ words) = ap (λ (b : Bool). is_refused word.now || b) (any_text words)

-- a name and rows that were read one by one are read together
abbrev pub two_of : {B : Type 0} → (B → Text) → (B → List Row) → B → Text × List Row
two_of name_in rows_in it = (name_in it, rows_in it)

pub both_of : {B : Type 0} (name_in : B → Text) (rows_in : B → List Row) (s : Option B) (name : Text) (rows : List Row)
    → option_map name_in s ≡ Some name → option_map (λ (p : Text × List Row). p.1) (option_map (two_of name_in rows_in) s) ≡ Some rows
    → option_map (two_of name_in rows_in) s ≡ Some (name, rows)
both_of name_in rows_in None name rows one two = cc
both_of name_in rows_in (Some b) name rows one two =
    let first : name_in b ≡ name = ap (λ (o : Option Text). option_map_or (λ (t : Text). t) o []) one in
    let second : rows_in b ≡ rows = ap (λ (o : Option (List Row)). option_map_or (λ (r : List Row). r) o []) two in
    rw (first, second) refl

pub same_some : (one other : CommandLine) → Some one ≡ Some other → one ≡ other
same_some one other is = ap (λ (o : Option CommandLine). option_map_or (λ (it : CommandLine). it) o one) is

pub none_some : (it : CommandLine) → None ≡ Some it → ⊥
none_some it is = cc
