-- The words of a command are taken, and what is matched is the command's. With it: what `clap`
-- makes of the words of each form; words spell one command.
use Rattle.clap.specs.declared.parser.matches.Found.{Found}
use Rattle.clap.proofs.OnLiterals.{clap_on_literals}
use Rattle.mm_bytes.specs.Limits.{decimal_number}
use Rattle.mm_schedule.specs.Headers.{◌>>=◌}
use Rattle.mm_words.specs.Commands.{command_in, schedule_in, header_in, key_of_words}
use Rattle.mm_words.proofs.Below.{◌≡◌, true, List, [], ◌∷◌, refl, codes, Option, Some, None, option_map, is_simple, subcommand_of, takes}
use Rattle.mm_words.proofs.Below.{Row, Text, first_of, the_app, ◌≤◌, ◌∙◌, ℕ, false, sym, ap, arith, nat_lt, decimal, option_map_or}
use Rattle.mm_words.proofs.Below.{nat_tests, rows_of, first_value-rows, read_by_spelling, most_events, Variant, Basic, Opt, value_at}
use Rattle.mm_words.proofs.Below.{AnyModule, module_of_name, name_of, any_is_found, variant_text, variant_at, Header, IsGenerated}
use Rattle.mm_words.proofs.Below.{SpellsCommand, generated_words, header_words, IsMatched, CommandLine, Init, Gen, Bulk, Receipts, Help}
use Rattle.mm_words.proofs.Below.{GeneratedSchedule, if◌then◌else◌, bytes_eq, Run, Checkpoint, Power, Replay, Check, Slots, Transfer}
use Rattle.mm_words.proofs.Reading.{IsPlainWord, key_kept, name_kept, number_kept, plain_word, variant_kept}

-- What `clap` makes of the words of each form.

pub is_simple_app : is_simple the_app ≡ true
unfolding clap_on_literals
is_simple_app = refl

-- a subcommand's name and the words that it was given
pub record Given : Type 0 where
  pub name : Text
  pub number : Option Text
  pub count : Option Text
  pub variant : Option Text
  pub module_named : Option Text
  pub key : Option Text

abbrev pub given_in : Text × List Row → Given
given_in met = record {
  name = met.0;
  number = first_of (codes "NUMBER") met.1;
  count = first_of (codes "COUNT") met.1;
  variant = first_of (codes "VARIANT") met.1;
  module_named = first_of (codes "MODULE") met.1;
  key = first_of (codes "KEY") met.1;
}

abbrev pub alone : Text → Given
alone name = record { name = name; number = None; count = None; variant = None; module_named = None; key = None }

abbrev pub with_header : Text → Text → Text → Given
with_header name v m = record (alone name) { variant = Some v; module_named = Some m }

abbrev pub generating : Text → Text → Text → Text → Text → Given
generating name n c v m = record (with_header name v m) { number = Some n; count = Some c }

abbrev pub with_key : Text → Text → Given
with_key name k = record (alone name) { key = Some k }

-- the words are taken, and this is given
abbrev pub IsTaken : List Text → Given → Type 0
IsTaken words given = (takes the_app words ≡ true) × (option_map given_in (subcommand_of the_app words) ≡ Some given)

pub init_taken : (v m : Text) → IsPlainWord v → IsPlainWord m → IsTaken (codes "init" ∷ v ∷ m ∷ []) (with_header (codes "init") v m)
unfolding clap_on_literals
init_taken v m one two = rw (one.dashes, one.long, one.short, two.dashes, two.long, two.short) (refl, refl)

-- the words of a schedule that is made from a number, behind this name
abbrev pub AreGeneratedTaken : Text → Text → Text → Text → Text → Type 0
AreGeneratedTaken n c v m name = IsTaken (name ∷ n ∷ c ∷ v ∷ m ∷ []) (generating name n c v m)

pub generated_taken : (n c v m : Text) → IsPlainWord n → IsPlainWord c → IsPlainWord v → IsPlainWord m
    → AreGeneratedTaken n c v m (codes "gen") × AreGeneratedTaken n c v m (codes "bulk")
unfolding clap_on_literals
generated_taken n c v m one two three four = rw (
  one.dashes,
  one.long,
  one.short,
  two.dashes,
  two.long,
  two.short,
  three.dashes,
  three.long,
  three.short,
  four.dashes,
  four.long,
  four.short,
) ((refl, refl), (refl, refl))

pub receipts_taken : (k : Text) → IsPlainWord k → IsTaken (codes "receipts" ∷ k ∷ []) (with_key (codes "receipts") k)
unfolding clap_on_literals
receipts_taken k one = rw (one.dashes, one.long, one.short) (refl, refl)

-- The words of a command are taken, and what is matched is the command's.

pub variant-read : (variant : Variant) → variant_at (variant_text variant) ≡ Some variant
variant-read Basic = refl
variant-read Opt = refl

pub name-read : (it : AnyModule) → module_of_name (name_of it) ≡ Some it
name-read it = (any_is_found it).by_name

-- what was given, as the rows of what was found have it
abbrev given_by : Text → Found → Given
given_by name found = given_in (name, rows_of found)

-- a variant and a module, read
header_again : (header : Header) (found : Found) → first_of (codes "VARIANT") (rows_of found) ≡ Some (variant_text header.variant)
    → first_of (codes "MODULE") (rows_of found) ≡ Some (name_of header.module) → header_in found ≡ Some header
unfolding header_in
header_again header found variant named =
    rw (
      first_value-rows found (codes "VARIANT") ∙ variant,
      first_value-rows found (codes "MODULE") ∙ named,
      variant-read header.variant,
      name-read header.module,
    ) refl

-- the words of a generated schedule, read
given_generated : (name : List ℕ) (it : GeneratedSchedule) (given_name : Text) (found : Found) → IsGenerated it
    → given_by given_name found ≡ generating name (decimal it.number) (decimal it.count) (variant_text it.header.variant)
    (name_of it.header.module)
    → (given_name ≡ name) × (schedule_in found ≡ Some it)
unfolding schedule_in
given_generated name it given_name found allowed is =
    let few : it.count ≤ most_events = allowed.count in
    let test : nat_lt most_events it.count ≡ false = grind (arith, nat_tests) in (
      ap (λ (g : Given). g.name) is,
      rw (
        first_value-rows found (codes "NUMBER") ∙ ap (λ (g : Given). g.number) is,
        first_value-rows found (codes "COUNT") ∙ ap (λ (g : Given). g.count) is,
        read_by_spelling (decimal it.number) it.number allowed.number refl,
        read_by_spelling (decimal it.count) it.count (omega arith) refl,
        test,
        header_again it.header found (ap (λ (g : Given). g.variant) is) (ap (λ (g : Given). g.module_named) is),
      ) refl,
    )

-- a key, read
given_key : (digits key : List ℕ) (it : Text) (found : Found) → value_at digits ≡ Some key
    → given_by it found ≡ with_key (codes "receipts") digits → key_of_words found ≡ Some key
unfolding key_of_words
given_key digits key it found gives is = rw (first_value-rows found (codes "KEY") ∙ ap (λ (g : Given). g.key) is, gives) refl

-- the words are taken, and what is given is the command
pub record Brings (command : CommandLine) (words : List (List ℕ)) : Type 0 where
  pub given : Given
  pub is : IsTaken words given
  pub matched : (name : Text) (found : Found) → given_by name found ≡ given → command_in name found ≡ Some command

init_brings : (header : Header) → Brings (Init header) (codes "init" ∷ header_words header)
unfolding command_in
init_brings header =
    let variant = plain_word (variant_text header.variant) (variant_kept header.variant) in
    let named = plain_word (name_of header.module) (name_kept header.module) in
    record {
      given = with_header (codes "init") (variant_text header.variant) (name_of header.module);
      is = init_taken (variant_text header.variant) (name_of header.module) variant named;
      matched = λ name found same. rw (
        ap (λ (g : Given). g.name) same,
        header_again header found (ap (λ (g : Given). g.variant) same) (ap (λ (g : Given). g.module_named) same),
      ) refl;
    }

-- a command of one word
alone_brings : (command : CommandLine) (name : Text) → IsTaken (name ∷ []) (alone name)
    → ((found : Found) → command_in name found ≡ Some command)
    → Brings command (name ∷ [])
alone_brings command name taken is = record {
  given = alone name;
  is = taken;
  matched = λ other found same. ap (λ (n : Text). command_in n found) (ap (λ (g : Given). g.name) same) ∙ is found;
}

-- a command on a schedule that is made from a number
generated_brings : (command : CommandLine) (name : Text) (it : GeneratedSchedule) → IsGenerated it
    → IsTaken (name ∷ generated_words it)
    (generating name (decimal it.number) (decimal it.count) (variant_text it.header.variant) (name_of it.header.module))
    → ((found : Found) → schedule_in found ≡ Some it → command_in name found ≡ Some command)
    → Brings command (name ∷ generated_words it)
generated_brings command name it allowed taken is = record {
  given = generating name (decimal it.number) (decimal it.count) (variant_text it.header.variant) (name_of it.header.module);
  is = taken;
  matched = λ other found same.
      let read = given_generated name it other found allowed same in
      ap (λ (n : Text). command_in n found) read.0 ∙ is found read.1;
}

both_taken : (it : GeneratedSchedule) → IsGenerated it
    → AreGeneratedTaken (decimal it.number) (decimal it.count) (variant_text it.header.variant) (name_of it.header.module) (codes "gen")
    × AreGeneratedTaken (decimal it.number) (decimal it.count) (variant_text it.header.variant) (name_of it.header.module) (codes "bulk")
both_taken it allowed =
    generated_taken (decimal it.number) (decimal it.count) (variant_text it.header.variant) (name_of it.header.module)
    (plain_word _ (number_kept it.number allowed.number)) (plain_word _ (number_kept it.count (omega (arith, allowed.count))))
    (plain_word _ (variant_kept it.header.variant)) (plain_word _ (name_kept it.header.module))

receipts_brings : (digits key : List ℕ) → value_at digits ≡ Some key → Brings (Receipts key) (codes "receipts" ∷ digits ∷ [])
unfolding command_in
receipts_brings digits key gives = record {
  given = with_key (codes "receipts") digits;
  is = receipts_taken digits (plain_word digits (key_kept digits key gives));
  matched = λ name found same. rw (ap (λ (g : Given). g.name) same, given_key digits key name found gives same) refl;
}

pub brings : (command : CommandLine) (words : List (List ℕ)) → SpellsCommand command words → IsMatched command → Brings command words
unfolding command_in clap_on_literals
brings (Init header) words spells matched = rw spells.spelled (init_brings header)
brings (Gen it) words spells matched =
    rw spells.spelled
    (generated_brings (Gen it) (codes "gen") it spells.allowed (both_taken it spells.allowed).0 (λ found read. rw read refl))
brings (Bulk it) words spells matched =
    rw spells.spelled
    (generated_brings (Bulk it) (codes "bulk") it spells.allowed (both_taken it spells.allowed).1 (λ found read. rw read refl))
brings (Receipts key) words spells matched =
    let given = spells.spelled in rw given.2 (receipts_brings given.0 key given.1)
brings Help words spells matched = absurd matched
brings command words spells matched = rw spells.spelled (alone_brings command _ (refl, refl) (λ found. refl))

pub is_taken : (command : CommandLine) (words : List (List ℕ)) → SpellsCommand command words → IsMatched command → takes the_app words
    ≡ true
is_taken command words spells matched = (brings command words spells matched).is.0

same_given : (one other : Given) → Some one ≡ Some other → one ≡ other
same_given one other is = ap (λ (o : Option Given). option_map_or (λ (g : Given). g) o one) is

-- what is matched of a command's words is the command
pub is_matched : (command : CommandLine) (words : List (List ℕ)) (name : Text) (found : Found) → SpellsCommand command words
    → IsMatched command
    → subcommand_of the_app words ≡ Some (name, rows_of found) → command_in name found ≡ Some command
is_matched command words name found spells matched is =
    let it = brings command words spells matched in
    it.matched name found (same_given (given_by name found) it.given (sym (ap (option_map given_in) is) ∙ it.is.1))

-- Words spell one command.

abbrev header_by : List ℕ → List ℕ → Option Header
header_by v m = variant_at v >>= λ variant. module_of_name m >>= λ module_read. Some (record { variant = variant; «module» = module_read })

abbrev generated_by : List ℕ → List ℕ → List ℕ → List ℕ → Option GeneratedSchedule
generated_by n c v m =
    decimal_number n >>= λ number. decimal_number c >>= λ count. header_by v m >>= λ header.
    Some (record { number = number; count = count; header = header })

abbrev alone_by : List ℕ → CommandLine
alone_by word =
    if bytes_eq word (codes "run") then Run
    else if bytes_eq word (codes "checkpoint") then Checkpoint
    else if bytes_eq word (codes "power") then Power
    else if bytes_eq word (codes "replay") then Replay
    else if bytes_eq word (codes "check") then Check
    else if bytes_eq word (codes "slots") then Slots
    else if bytes_eq word (codes "transfer") then Transfer
    else Help

-- the command of words that spell one
abbrev command_by : List (List ℕ) → Option CommandLine
command_by [] = None
command_by (w ∷ []) = Some (alone_by w)
command_by (w ∷ k ∷ []) = value_at k >>= λ key. Some (Receipts key)
command_by (w ∷ v ∷ m ∷ []) = header_by v m >>= λ header. Some (Init header)
command_by (w ∷ n ∷ c ∷ v ∷ []) = None
command_by (w ∷ n ∷ c ∷ v ∷ m ∷ rest) =
    if bytes_eq w (codes "gen") then (generated_by n c v m >>= λ it. Some (Gen it)) else (generated_by n c v m >>= λ it. Some (Bulk it))

header-again : (header : Header) → header_by (variant_text header.variant) (name_of header.module) ≡ Some header
header-again header = rw (variant-read header.variant, name-read header.module) refl

generated-again : (it : GeneratedSchedule) → IsGenerated it
    → generated_by (decimal it.number) (decimal it.count) (variant_text it.header.variant) (name_of it.header.module) ≡ Some it
generated-again it allowed =
    let few : it.count ≤ most_events = allowed.count in
    rw (
      read_by_spelling (decimal it.number) it.number allowed.number refl,
      read_by_spelling (decimal it.count) it.count (omega arith) refl,
      header-again it.header,
    ) refl

command-again : (command : CommandLine) (words : List (List ℕ)) → SpellsCommand command words → command_by words ≡ Some command
command-again (Init header) words spells = ap command_by spells.spelled ∙ rw (header-again header) refl
command-again (Gen it) words spells = ap command_by spells.spelled ∙ rw (generated-again it spells.allowed) refl
command-again (Bulk it) words spells = ap command_by spells.spelled ∙ rw (generated-again it spells.allowed) refl
command-again (Receipts key) words spells = let given = spells.spelled in ap command_by given.2 ∙ rw given.1 refl
command-again command words spells = ap command_by spells.spelled

pub one_command : (words : List (List ℕ)) (command other : CommandLine) → SpellsCommand command words → SpellsCommand other words
    → command ≡ other
one_command words command other one two =
    ap (λ (o : Option CommandLine). option_map_or (λ (it : CommandLine). it) o command)
    (sym (command-again command words one) ∙ command-again other words two)
