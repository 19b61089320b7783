-- The commands and the words that spell them. With it: the command line as `clap` is told of it;
-- what `clap` matched, and the commands that it stands for.
use Rattle.std.specs.Borrow.{Bor}
use Rattle.std.specs.Fmt.{decimal}
use Rattle.std.specs.Prelude.{◌≡◌, ◌<◌, ◌≤◌, ◌^◌, ℕ, List, [], ◌∷◌, ◌++◌, Some, codes, Bool, true, false, fold, ◌||◌, ◌==◌, nat_lt, Option}
use Rattle.std.specs.Prelude.{None, Result, Ok, Err, if◌then◌else◌}
use Rattle.std.specs.Str.{bytes_eq}
use Rattle.clap.specs.declared.builder.action.ArgAction.TheVariants.{Set}
use Rattle.clap.specs.declared.builder.command.Command.{Command}
use Rattle.clap.specs.declared.builder.command.Command.TheViews.{out-Command}
use Rattle.clap.specs.declared.parser.matches.Found.{Found}
use Rattle.clap.specs.Simple.{App, app_of, new_app, new_rule, on_top, with_rule, with_subcommand}
use Rattle.clap.specs.Walk.{Rule}
use Rattle.clap.specs.Words.{first_value}
use Rattle.mm_bytes.specs.Limits.{most_events, decimal_number}
use Rattle.mm_base.specs.Input.{joined_lines}
use Rattle.mm_module.specs.Meaning.{value_at}
use Rattle.mm_modules.specs.Modules.{name_of, names_text, module_of_name}
use Rattle.mm_schedule.specs.Headers.{variant_text, variant_at, ◌>>=◌}
use Rattle.mm_schedule.specs.declared.header.Header.{Header}
use Rattle.mm_words.specs.declared.app.Form.{Form}
use Rattle.mm_words.specs.declared.command.CommandLine.{CommandLine}
use Rattle.mm_words.specs.declared.command.CommandLine.TheVariants.{Init, Run, Checkpoint, Power, Replay, Check, Gen, Bulk, Slots, Receipts}
use Rattle.mm_words.specs.declared.command.CommandLine.TheVariants.{Transfer, Help}
use Rattle.mm_words.specs.declared.command.GeneratedSchedule.{GeneratedSchedule}
use Rattle.mm_words.specs.declared.fault.WordsFault.{WordsFault}
use Rattle.mm_words.specs.declared.fault.WordsFault.TheVariants as fault

-- a variant and a module
abbrev pub header_words : Header → List (List ℕ)
header_words header = variant_text header.variant ∷ name_of header.module ∷ []

-- a number, a count, a variant and a module
abbrev pub generated_words : GeneratedSchedule → List (List ℕ)
generated_words it = decimal it.number ∷ decimal it.count ∷ header_words it.header

-- `receipts`, and 64 hexadecimal digits of either case that give the key
abbrev pub AreReceiptsWords : List ℕ → List (List ℕ) → Type 0
AreReceiptsWords key words =
    (digits : List ℕ) × (value_at digits ≡ Some key) × (words ≡ codes "receipts" ∷ digits ∷ [])

-- the words are the command's
abbrev pub AreWordsOf : CommandLine → List (List ℕ) → Type 0
AreWordsOf (Init header) words = words ≡ codes "init" ∷ header_words header
AreWordsOf Run words = words ≡ codes "run" ∷ []
AreWordsOf Checkpoint words = words ≡ codes "checkpoint" ∷ []
AreWordsOf Power words = words ≡ codes "power" ∷ []
AreWordsOf Replay words = words ≡ codes "replay" ∷ []
AreWordsOf Check words = words ≡ codes "check" ∷ []
AreWordsOf (Gen it) words = words ≡ codes "gen" ∷ generated_words it
AreWordsOf (Bulk it) words = words ≡ codes "bulk" ∷ generated_words it
AreWordsOf Slots words = words ≡ codes "slots" ∷ []
AreWordsOf (Receipts key) words = AreReceiptsWords key words
AreWordsOf Transfer words = words ≡ codes "transfer" ∷ []
AreWordsOf Help words = words ≡ codes "--help" ∷ []

-- a number of 64 bits, and at most 20,000 events
pub record IsGenerated (it : GeneratedSchedule) : Type 0 where
  pub number : it.number < 2 ^ 64
  pub count : it.count ≤ most_events

-- the numbers of a command are within their bounds
abbrev pub IsInBounds : CommandLine → Type 0
IsInBounds (Init header) = Unit {0}
IsInBounds Run = Unit {0}
IsInBounds Checkpoint = Unit {0}
IsInBounds Power = Unit {0}
IsInBounds Replay = Unit {0}
IsInBounds Check = Unit {0}
IsInBounds (Gen it) = IsGenerated it
IsInBounds (Bulk it) = IsGenerated it
IsInBounds Slots = Unit {0}
IsInBounds (Receipts key) = Unit {0}
IsInBounds Transfer = Unit {0}
IsInBounds Help = Unit {0}

-- the words spell the command
pub record SpellsCommand (command : CommandLine) (words : List (List ℕ)) : Type 0 where
  pub allowed : IsInBounds command
  pub spelled : AreWordsOf command words

-- the help, a line for each form, and what its capital words stand for
abbrev pub help_text : List ℕ
help_text =
    joined_lines (codes "memoir init VARIANT MODULE"
    ∷ codes "memoir run"
    ∷ codes "memoir checkpoint"
    ∷ codes "memoir power"
    ∷ codes "memoir replay"
    ∷ codes "memoir check"
    ∷ codes "memoir gen NUMBER COUNT VARIANT MODULE"
    ∷ codes "memoir bulk NUMBER COUNT VARIANT MODULE"
    ∷ codes "memoir slots"
    ∷ codes "memoir receipts KEY"
    ∷ codes "memoir transfer"
    ∷ codes "VARIANT is basic or opt"
    ∷ (codes "MODULE is " ++ names_text) ∷ [])

-- The command line as `clap` is told of it: a command with one level of subcommands.

-- whether an argument is for the subcommands too
abbrev pub has_globals : Command → Bool
has_globals command = (out-Command command).has_globals

-- a command that can be added as a form of words, told as this
pub record IsForm (app : App) (command : Command) : Type 0 where
  pub told : app_of command ≡ app
  pub local : has_globals command ≡ false

-- a word that has to stand there
abbrev pub wanted_rule : List ℕ → Rule
wanted_rule id = record (new_rule id) { required = true; action = Some Set }

-- a subcommand with these words
abbrev pub with_words : App → List (Bor (List ℕ)) → App
with_words = fold (λ app id. with_rule app (wanted_rule id.now))

-- the subcommand of a form
abbrev pub form_app : Form → App
form_app form = with_words (new_app form.0.now) form.1.now

-- a command with the subcommands of these forms
abbrev pub with_forms : App → List Form → App
with_forms = fold (λ app form. with_subcommand app (form_app form).top)

-- a subcommand with a variant and a module
abbrev pub header_app : List ℕ → App
header_app name =
    with_rule (with_rule (new_app name) (wanted_rule (codes "VARIANT")))
    (wanted_rule (codes "MODULE"))

-- a subcommand with the four words of a generated schedule
abbrev pub generating_app : List ℕ → App
generating_app name =
    with_rule (with_rule
    (with_rule (with_rule (new_app name) (wanted_rule (codes "NUMBER")))
    (wanted_rule (codes "COUNT")))
    (wanted_rule (codes "VARIANT"))) (wanted_rule (codes "MODULE"))

-- a subcommand with a key
abbrev pub key_app : List ℕ → App
key_app name = with_rule (new_app name) (wanted_rule (codes "KEY"))

-- a subcommand has to stand there, and nothing is taken for a call for help
abbrev pub top_app : App
top_app = on_top (λ top. record top {
  no_binary_name = true;
  subcommand_required = true;
  disable_help_flag = true;
  disable_help_subcommand = true;
  disable_version_flag = true;
}) (new_app (codes "memoir"))

-- the forms that run the module on the platform
abbrev pub with_host_forms : App → App
with_host_forms app =
    with_subcommand (with_subcommand (with_subcommand (with_subcommand app
    (header_app (codes "init")).top) (new_app (codes "run")).top)
    (new_app (codes "checkpoint")).top) (new_app (codes "power")).top

abbrev pub the_app : App
the_app =
    with_subcommand (with_subcommand
    (with_subcommand (with_subcommand (with_subcommand (with_subcommand (with_subcommand
    (with_host_forms top_app)
    (new_app (codes "replay")).top) (new_app (codes "check")).top)
    (generating_app (codes "gen")).top) (generating_app (codes "bulk")).top)
    (new_app (codes "slots")).top) (key_app (codes "receipts")).top)
    (new_app (codes "transfer")).top

-- What `clap` matched, and the commands that it stands for.

-- a word that no subcommand has: an empty one, one that begins with `-`, or `help`
abbrev pub is_refused : List ℕ → Bool
is_refused [] = true
is_refused (byte ∷ rest) = byte == 45 || bytes_eq (byte ∷ rest) (codes "help")

-- a count of events
abbrev pub count_at : List ℕ → Option ℕ
count_at word =
    decimal_number word >>= λ count. if nat_lt most_events count then None else Some count

-- the words of a variant and a module, each read as what it has to be
unfoldable pub header_in : Found → Option Header
header_in found =
    first_value found (codes "VARIANT") >>= λ variant_word.
    first_value found (codes "MODULE") >>= λ module_word.
    variant_at variant_word >>= λ variant.
    module_of_name module_word >>= λ module_read.
    Some (record { variant = variant; «module» = module_read })

-- the four words of a generated schedule, each read as what it has to be
unfoldable pub schedule_in : Found → Option GeneratedSchedule
schedule_in found =
    first_value found (codes "NUMBER") >>= λ number_word.
    first_value found (codes "COUNT") >>= λ count_word.
    decimal_number number_word >>= λ number.
    count_at count_word >>= λ count.
    header_in found >>= λ header.
    Some (record { number = number; count = count; header = header })

-- the key of a word of 64 hexadecimal digits
unfoldable pub key_of_words : Found → Option (List ℕ)
key_of_words found = first_value found (codes "KEY") >>= value_at

-- the command of a subcommand with this name, and what was matched behind it
unfoldable pub command_in : List ℕ → Found → Option CommandLine
command_in name found =
    if bytes_eq name (codes "init") then (header_in found >>= λ header. Some (Init header))
    else if bytes_eq name (codes "run") then Some Run
    else if bytes_eq name (codes "checkpoint") then Some Checkpoint
    else if bytes_eq name (codes "power") then Some Power
    else if bytes_eq name (codes "replay") then Some Replay
    else if bytes_eq name (codes "check") then Some Check
    else if bytes_eq name (codes "gen")
    then (schedule_in found >>= λ generated. Some (Gen generated))
    else if bytes_eq name (codes "bulk")
    then (schedule_in found >>= λ generated. Some (Bulk generated))
    else if bytes_eq name (codes "slots") then Some Slots
    else if bytes_eq name (codes "receipts")
    then (key_of_words found >>= λ key. Some (Receipts key))
    else if bytes_eq name (codes "transfer") then Some Transfer
    else None

-- the command has a subcommand
abbrev pub IsMatched : CommandLine → Type 0
IsMatched (Init header) = Unit {0}
IsMatched Run = Unit {0}
IsMatched Checkpoint = Unit {0}
IsMatched Power = Unit {0}
IsMatched Replay = Unit {0}
IsMatched Check = Unit {0}
IsMatched (Gen it) = Unit {0}
IsMatched (Bulk it) = Unit {0}
IsMatched Slots = Unit {0}
IsMatched (Receipts key) = Unit {0}
IsMatched Transfer = Unit {0}
IsMatched Help = ⊥

-- this command comes, or memory was wanting
abbrev pub GetsCommand : CommandLine → Result CommandLine WordsFault → Type 0
GetsCommand command (Ok it) = it ≡ command
GetsCommand command (Err fault.Memory) = Unit {0}
GetsCommand command (Err fault.Usage) = ⊥
