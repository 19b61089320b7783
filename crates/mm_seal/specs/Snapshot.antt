-- The bytes of a snapshot, and its seal.
use Rattle.std.specs.Prelude.{◌≡◌, ◌≢◌, ◌≤◌, ℕ, List, [], ◌∷◌, ◌++◌, length, nat_lt, Result, Ok, Err, if◌then◌else◌}
use Rattle.mm_bytes.specs.Limits.{last_position, limit_of, eight_bytes, four_bytes}
use Rattle.mm_digest.specs.Messages.{variant_byte, hmac_of}
use Rattle.mm_digest.specs.declared.variant.Variant.{Variant}
use Rattle.mm_digest.specs.declared.variant.Variant.TheVariants as variants
use Rattle.mm_seal.specs.Cell.{version_of}
use Rattle.mm_seal.specs.declared.snapshot.OpenFault.{OpenFault}
use Rattle.mm_seal.specs.declared.snapshot.OpenFault.TheVariants as opening
use Rattle.mm_seal.specs.declared.snapshot.PartsFault.{PartsFault}
use Rattle.mm_seal.specs.declared.snapshot.PartsFault.TheVariants.{Form, Kind}
use Rattle.mm_seal.specs.declared.snapshot.Place.{Place}
use Rattle.mm_seal.specs.declared.snapshot.Place.TheVariants.{Basic, Opt}

abbrev pub variant_of : Place → Variant
variant_of (Basic summary) = variants.Basic
variant_of (Opt anchor extension) = variants.Opt

-- the summary, or the anchor and the extension
abbrev pub place_spelling : Place → List ℕ
place_spelling (Basic summary) = summary.bytes
place_spelling (Opt anchor extension) = anchor.bytes ++ extension.bytes

-- each digest has 32 bytes
abbrev pub IsPlace : Place → Type 0
IsPlace (Basic summary) = length summary.bytes ≡ 32
IsPlace (Opt anchor extension) = (length anchor.bytes ≡ 32) × (length extension.bytes ≡ 32)

-- what a snapshot says
pub record Content : Type 0 where
  pub id : ℕ
  pub place : Place
  pub position : ℕ
  pub state : List ℕ

pub record IsContent (content : Content) : Type 0 where
  pub place : IsPlace content.place
  pub position : content.position ≤ last_position
  pub state : length content.state ≤ limit_of content.id

-- What is signed: `MMS`, the version, the variant and the module's id; the place, the position in 8
-- bytes, the length of the state in 4 bytes, and the state. The version is `1` where the id is
-- below 128, else `2`.
unfoldable pub snapshot_front : Content → List ℕ
snapshot_front content =
    0x4d ∷ 0x4d ∷ 0x53 ∷ (if nat_lt content.id 128 then 0x31 else 0x32)
    ∷ variant_byte (variant_of content.place) ∷ content.id
    ∷ (place_spelling content.place ++ (eight_bytes content.position
    ++ (four_bytes (length content.state) ++ content.state)))

-- a snapshot: its content and its tag
pub record Snapshot : Type 0 where
  pub content : Content
  pub tag : List ℕ

pub record IsSnapshot (snapshot : Snapshot) : Type 0 where
  pub content : IsContent snapshot.content
  pub tag : length snapshot.tag ≡ 32

abbrev pub snapshot_spelling : Snapshot → List ℕ
snapshot_spelling snapshot = snapshot_front snapshot.content ++ snapshot.tag

-- the tag of this content under the key
abbrev pub tag_of : List ℕ → Content → List ℕ
tag_of key content = hmac_of key (snapshot_front content)

-- the content's snapshot under the key
unfoldable pub sealed_snapshot_of : List ℕ → Content → List ℕ
sealed_snapshot_of key content = snapshot_front content ++ tag_of key content

-- what the content's snapshot under the key is taken apart to
abbrev pub offered_snapshot_of : List ℕ → Content → Snapshot
offered_snapshot_of key content = record { content = content; tag = tag_of key content }

-- the snapshot is of this variant and module
abbrev pub IsOfKind : Variant → ℕ → Snapshot → Type 0
IsOfKind variant id snapshot =
    (variant_of snapshot.content.place ≡ variant) × (snapshot.content.id ≡ id)

-- the bytes are this snapshot's
abbrev pub SpellsSnapshot : List ℕ → Snapshot → Type 0
SpellsSnapshot bytes snapshot = IsSnapshot snapshot × (bytes ≡ snapshot_spelling snapshot)

-- no snapshot is spelled so
abbrev pub IsNoSnapshot : List ℕ → Type 0
IsNoSnapshot bytes =
    (snapshot : Snapshot) → IsSnapshot snapshot → bytes ≢ snapshot_spelling snapshot

-- the bytes are a snapshot's of another variant or module
abbrev pub IsOtherKind : List ℕ → Variant → ℕ → Type 0
IsOtherKind bytes variant id =
    (snapshot : Snapshot) × SpellsSnapshot bytes snapshot × (¬ IsOfKind variant id snapshot)

-- what taking an offer apart gives: there is one answer for each list of bytes
abbrev pub ReadsParts : List ℕ → Variant → ℕ → Result Snapshot PartsFault → Type 0
ReadsParts bytes variant id (Ok snapshot) = SpellsSnapshot bytes snapshot
    × IsOfKind variant id snapshot
ReadsParts bytes variant id (Err Form) = IsNoSnapshot bytes
ReadsParts bytes variant id (Err Kind) = IsOtherKind bytes variant id

-- what opening an offer under the key gives
abbrev pub OpensOffer : List ℕ → List ℕ → Variant → ℕ → Result Snapshot OpenFault → Type 0
OpensOffer bytes key variant id (Ok snapshot) =
    SpellsSnapshot bytes snapshot × IsOfKind variant id snapshot
    × (snapshot.tag ≡ tag_of key snapshot.content)
OpensOffer bytes key variant id (Err opening.Form) = IsNoSnapshot bytes
OpensOffer bytes key variant id (Err opening.Kind) = IsOtherKind bytes variant id
OpensOffer bytes key variant id (Err opening.Tag) =
    (snapshot : Snapshot) × SpellsSnapshot bytes snapshot × IsOfKind variant id snapshot
    × (snapshot.tag ≢ tag_of key snapshot.content)

-- the law of the grammar: each spelling has one content and tag, and none is a proper prefix of
-- another
abbrev pub HasOneSpelling : Type 0
HasOneSpelling = (s t : Snapshot) (rest : List ℕ) → IsSnapshot s → IsSnapshot t →
    snapshot_spelling s ++ rest ≡ snapshot_spelling t → (s ≡ t) × (rest ≡ [])

-- what comes before the place
abbrev pub front_head : Content → List ℕ
front_head content =
    0x4d ∷ 0x4d ∷ 0x53 ∷ version_of content.id ∷ variant_byte (variant_of content.place)
    ∷ content.id ∷ []
