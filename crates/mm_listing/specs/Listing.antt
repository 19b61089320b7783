-- What a module brings to the list of modules. With it: what lines tell of the requests of a run,
-- each by the requests before it.
use Rattle.std.specs.List.{AllByRecursion, list_all}
use Rattle.std.specs.Prelude.{◌≡◌, ℕ, List, Some, slice_get, ◌==◌, ◌&&◌, ◌||◌, Bool, true, false, nat_le, [], ◌∷◌, codes}
use Rattle.std.specs.Str.{bytes_eq}
use Rattle.mm_module.specs.LineLaws.{IsText}
use Rattle.mm_module.specs.Meaning.{Meaning, outputs_from, IsLawful}

-- What lines tell of the requests of a run, each by the requests before it.

-- One line `ok` or `again`: how many requests come before the one that it names, and what it says.
pub record Telling : Type 0 where
  pub before : ℕ
  pub output : List ℕ

-- the line says what was said to the request that it names: these are the outputs of all requests
abbrev pub WasSaid : List (List ℕ) → Telling → Type 0
WasSaid outputs telling = slice_get outputs telling.before ≡ Some telling.output

-- all lines say what was said in the run of these requests
abbrev pub AreSaid : Meaning → List (List ℕ) → List Telling → Type 0
AreSaid meaning requests tellings =
    AllByRecursion (WasSaid (outputs_from meaning meaning.first requests)) tellings

-- What a module brings to the list of modules.

-- A name; the module; the request of a generated schedule that a number chooses; and what the
-- module promises of the requests that were run and of the lines that tell of them.
pub record Listing : Type 1 where
  pub name : List ℕ
  pub meaning : Meaning
  pub request : ℕ → List ℕ
  pub promise : List (List ℕ) → List Telling → Type 0

-- these four in one listing
abbrev pub listing_of : List ℕ → Meaning → (ℕ → List ℕ) → (List (List ℕ) → List Telling → Type 0)
    → Listing
listing_of name meaning request promise =
    record { name = name; meaning = meaning; request = request; promise = promise }

-- a lower-case letter
abbrev pub is_letter : ℕ → Bool
is_letter byte = nat_le 97 byte && nat_le byte 122

-- what names are made of: lower-case letters and hyphens
abbrev pub is_name_byte : ℕ → Bool
is_name_byte byte = is_letter byte || byte == 45

abbrev pub begins_with_letter : List ℕ → Bool
begins_with_letter [] = false
begins_with_letter (byte ∷ rest) = is_letter byte

-- a name: letters and hyphens, a letter first, and not `help`, which asks for the help
pub record IsName (name : List ℕ) : Type 0 where
  pub begins : begins_with_letter name ≡ true
  pub letters : list_all is_name_byte name ≡ true
  pub other : bytes_eq name (codes "help") ≡ false

-- The laws of a module's listing. It is of this module, which is lawful, under a name. A generated
-- request has at most 256 bytes and no LF. Each run keeps the promise, whatever lines tell of it,
-- if they tell what was said.
pub record IsListing (meaning : Meaning) (listing : Listing) : Type 0 where
  pub means : listing.meaning ≡ meaning
  pub lawful : IsLawful meaning
  pub named : IsName listing.name
  pub asks : (choice : ℕ) → IsText 256 (listing.request choice)
  pub keeps : (requests : List (List ℕ)) (tellings : List Telling)
      → AreSaid listing.meaning requests tellings → listing.promise requests tellings

-- no promise but the laws of the module
abbrev pub PromisesNothing : List (List ℕ) → List Telling → Type 0
PromisesNothing requests tellings = Unit {0}
