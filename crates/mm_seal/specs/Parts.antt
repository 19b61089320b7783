-- What an offer is taken apart to, as a function of its bytes. With it: what a body in code says,
-- as plain data, and what reading one gives.
use Rattle.std.specs.Int.{w64, from_be_bytes}
use Rattle.std.specs.Prelude.{◌≡◌, ◌≢◌, ◌+◌, ◌<◌, ◌≤◌, ◌^◌, ℕ, List, ◌++◌, length, slice_index, ◌-◌, ◌==◌, ◌&&◌, Bool, take, drop, Result}
use Rattle.std.specs.Prelude.{Ok, Err, if◌then◌else◌, nat_le}
use Rattle.std.specs.Str.{bytes_eq}
use Rattle.mm_bytes.specs.Limits.{eight_bytes, four_bytes, last_position, limit_of}
use Rattle.mm_digest.specs.Messages.{variant_byte}
use Rattle.mm_digest.specs.declared.digest.Digest.{Digest}
use Rattle.mm_digest.specs.declared.variant.Variant.{Variant}
use Rattle.mm_digest.specs.declared.variant.Variant.TheVariants.{Basic, Opt}
use Rattle.mm_seal.specs.declared.snapshot.Body.{Body}
use Rattle.mm_seal.specs.declared.snapshot.PartsFault.{PartsFault}
use Rattle.mm_seal.specs.declared.snapshot.PartsFault.TheVariants.{Form, Kind}
use Rattle.mm_seal.specs.declared.snapshot.Place.{Place}
use Rattle.mm_seal.specs.declared.snapshot.Place.TheVariants.{Basic as InBasic, Opt as InOpt}
use Rattle.mm_seal.specs.Snapshot.{Content, IsContent, IsPlace, variant_of, place_spelling, snapshot_front, front_head, Snapshot}

-- What a body in code says, as plain data, and what reading one gives.

abbrev pub content_of : Body → Content
content_of body = record {
  id = body.module;
  place = body.place;
  position = body.position;
  state = body.state.now;
}

-- the bytes are this content's, without a tag
abbrev pub SpellsContent : List ℕ → Content → Type 0
SpellsContent front content = IsContent content × (front ≡ snapshot_front content)

-- the bytes are no content's
abbrev pub SpellsNoContent : List ℕ → Type 0
SpellsNoContent front = (content : Content) → IsContent content → front ≢ snapshot_front content

abbrev pub place_length : Variant → ℕ
place_length Basic = 32
place_length Opt = 64

-- the bytes name the variant, and are long enough for its fields
abbrev pub HasFieldsOf : List ℕ → Variant → Type 0
HasFieldsOf front variant =
    (variant_byte variant ≡ slice_index front 4) × (18 + place_length variant ≤ length front)

-- the place of this variant in front of the bytes, and the rest
abbrev pub HasPlaceInFront : List ℕ → Variant → Place → List ℕ → Type 0
HasPlaceInFront bytes variant place rest =
    (bytes ≡ place_spelling place ++ rest) × (variant_of place ≡ variant) × IsPlace place

-- the position and the length of the state in front of the bytes, and the rest
abbrev pub HasNumbersInFront : List ℕ → ℕ → ℕ → List ℕ → Type 0
HasNumbersInFront bytes position size rest =
    (bytes ≡ eight_bytes position ++ (four_bytes size ++ rest)) × (position < 2 ^ 64)
    × (size < 2 ^ 32)

-- the head is the content's, and the content is within its bounds and has this length
abbrev pub HasHead : Content → List ℕ → ℕ → Type 0
HasHead content head size =
    (head ≡ front_head content) × (content.position ≤ last_position) × (length content.state ≡ size)
    × (length content.state ≤ limit_of content.id)

-- What an offer is taken apart to, as a function of its bytes.

abbrev pub digest_at : ℕ → List ℕ → Digest
digest_at at bytes = record { bytes = take 32 (drop at bytes) }

-- The only snapshot that the bytes may spell: its fields stand at fixed places, behind a place of
-- 64 bytes in Opt and of 32 in Basic.
unfoldable pub fields_of : List ℕ → Snapshot
fields_of bytes =
    let is_opt = slice_index bytes 4 == 2 in let size = if is_opt then 64 else 32 in
    let id = slice_index bytes 5 in let first = digest_at 6 bytes in
    let place = if is_opt then InOpt first (digest_at 38 bytes) else InBasic first in
    let position = from_be_bytes w64 (take 8 (drop (6 + size) bytes)) in
    let state = take (length bytes - (50 + size)) (drop (18 + size) bytes) in record {
      content = record { id = id; place = place; position = position; state = state };
      tag = drop (length bytes - 32) bytes;
    }

-- the bytes are long enough for the fields of this variant, which are within their bounds, and
-- spell the snapshot
abbrev pub is_spelled_by : List ℕ → Snapshot → Bool
is_spelled_by bytes snapshot =
    let content = snapshot.content in
    nat_le (50 + place_length (variant_of content.place)) (length bytes)
    && (nat_le content.position last_position
    && nat_le (length content.state) (limit_of content.id))
    && bytes_eq bytes (snapshot_front content ++ snapshot.tag)

abbrev pub is_of_kind : Variant → ℕ → Snapshot → Bool
is_of_kind variant id snapshot =
    (variant_byte (variant_of snapshot.content.place) == variant_byte variant)
    && (snapshot.content.id == id)

-- what the bytes say, as an offer to this variant and module
unfoldable pub parts_of : Variant → ℕ → List ℕ → Result Snapshot PartsFault
parts_of variant id bytes =
    let snapshot = fields_of bytes in
    if is_spelled_by bytes snapshot
    then (if is_of_kind variant id snapshot then Ok snapshot else Err Kind) else Err Form

-- a snapshot's fields are within their bounds
abbrev pub is_bounded : Content → Bool
is_bounded content =
    nat_le content.position last_position && nat_le (length content.state) (limit_of content.id)

abbrev pub is_same_variant : Variant → Variant → Bool
is_same_variant v w = variant_byte v == variant_byte w
