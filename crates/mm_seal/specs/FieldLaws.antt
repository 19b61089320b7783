-- Bytes that spell a snapshot have its fields at their places, and what bytes are taken apart to.
-- With it: what is sealed has one content, and is taken apart to it; what is read of an offer.
use Rattle.std.specs.Int.{w64, from_be_bytes}
use Rattle.std.specs.Prelude.{if◌then◌else◌, ◌==◌, slice_index, nat_le}
use Rattle.std.proofs.Common.{ℕ, ◌≡◌, ◌+◌, ◌-◌, ◌≤◌, Bool, true, false, List, ◌++◌, length, take, drop, Result, Ok, Err, refl, ap, ◌∙◌}
use Rattle.std.proofs.Common.{arith, length-append, length-drop, append_assoc, sym, subst}
use Rattle.std.proofs.lemmas.Bool.Decides.{nat_tests}
use Rattle.std.proofs.lemmas.List.{length-take}
use Rattle.std.proofs.lemmas.Nat.{from_be_bytes-to_be_bytes_8}
use Rattle.std.proofs.lemmas.Slice.Eq.{bytes_eq-Decides}
use Rattle.std.proofs.Math.Seq.{take-append_seam, drop-append_seam}
use Rattle.mm_bytes.specs.DecimalLaws.{length-eight_bytes, length-four_bytes}
use Rattle.mm_bytes.specs.Limits.{last_position, limit_of, eight_bytes, four_bytes}
use Rattle.mm_digest.specs.declared.variant.Variant.{Variant}
use Rattle.mm_seal.specs.CellLaws.{variant_byte-injective}
use Rattle.mm_seal.specs.declared.snapshot.PartsFault.{PartsFault}
use Rattle.mm_seal.specs.declared.snapshot.PartsFault.TheVariants.{Form, Kind}
use Rattle.mm_seal.specs.declared.snapshot.Place.{Place}
use Rattle.mm_seal.specs.declared.snapshot.Place.TheVariants.{Basic, Opt}
use Rattle.mm_seal.specs.Parts.{place_length, digest_at, fields_of, is_spelled_by, is_of_kind, parts_of}
use Rattle.mm_seal.specs.Snapshot.{Content, Snapshot, IsPlace, SpellsSnapshot, IsOfKind, IsNoSnapshot, ReadsParts, place_spelling}
use Rattle.mm_seal.specs.Snapshot.{snapshot_front, snapshot_spelling, variant_of, front_head, IsContent, sealed_snapshot_of}
use Rattle.mm_seal.specs.Snapshot.{offered_snapshot_of}
use Rattle.mm_seal.specs.SnapshotLaws.{length-snapshot_front, reads_parts-same, sealed_snapshot_of-spells, same_snapshot}

pub take_front : (n : ℕ) (xs ys : List ℕ) → length xs ≡ n → take n (xs ++ ys) ≡ xs
take_front n xs ys e = rw (← e) (take-append_seam xs ys)

drop_front : (n : ℕ) (xs ys : List ℕ) → length xs ≡ n → drop n (xs ++ ys) ≡ ys
drop_front n xs ys e = rw (← e) (drop-append_seam xs ys)

-- what stands behind a front
part : (n m : ℕ) (front field back : List ℕ) → length front ≡ n → length field ≡ m → take m (drop n (front ++ (field ++ back))) ≡ field
part n m front field back f l = ap (take m) (drop_front n front (field ++ back) f) ∙ take_front m field back l

-- what stands behind a place of this size
record HasTail (bytes : List ℕ) (size position : ℕ) (state tag : List ℕ) : Type 0 where
  at_position : from_be_bytes w64 (take 8 (drop (6 + size) bytes)) ≡ position
  at_state : take (length bytes - (50 + size)) (drop (18 + size) bytes) ≡ state
  at_tag : drop (length bytes - 32) bytes ≡ tag

has_tail : (size position : ℕ) (front state tag : List ℕ) → length front ≡ 6 + size → position ≤ last_position → length tag ≡ 32
    → HasTail (front ++ (eight_bytes position ++ (four_bytes (length state) ++ (state ++ tag)))) size position state tag
has_tail size position front state tag f small t =
    let eight = eight_bytes position in let four = four_bytes (length state) in
    let l8 : length eight ≡ 8 = length-eight_bytes position in let l4 : length four ≡ 4 = length-four_bytes (length state) in
    let bytes = front ++ (eight ++ (four ++ (state ++ tag))) in
    let all : length bytes ≡ 50 + size + length state = simp length-append (omega (arith, f, l8, l4, t)) in
    let before : length ((front ++ eight) ++ four) ≡ 18 + size = simp length-append (omega (arith, f, l8, l4)) in
    let behind : length (((front ++ eight) ++ four) ++ state) ≡ length bytes - 32 =
    omega (arith, all, before, length-append ((front ++ eight) ++ four) state) in
    let to_state : bytes ≡ ((front ++ eight) ++ four) ++ (state ++ tag) = simp append_assoc in
    let to_tag : bytes ≡ (((front ++ eight) ++ four) ++ state) ++ tag = simp append_assoc in
    record {
      at_position = ap (from_be_bytes w64) (part (6 + size) 8 front eight (four ++ (state ++ tag)) f l8)
          ∙ unfold eight_bytes in from_be_bytes-to_be_bytes_8 position (omega arith);
      at_state = ap (λ (b : List ℕ). take (length bytes - (50 + size)) (drop (18 + size) b)) to_state
          ∙ part (18 + size) (length bytes - (50 + size)) ((front ++ eight) ++ four) state tag before (omega (arith, all));
      at_tag = ap (λ (b : List ℕ). drop (length bytes - 32) b) to_tag
          ∙ drop_front (length bytes - 32) (((front ++ eight) ++ four) ++ state) tag behind;
    }

abbrev snapshot_of : ℕ → Place → ℕ → (state tag : List ℕ) → Snapshot
snapshot_of id place position state tag =
    record { content = record { id = id; place = place; position = position; state = state }; tag = tag }

-- a snapshot's bytes, field by field
abbrev spelled_fields : Content → List ℕ → List ℕ
spelled_fields x tag =
    (front_head x ++ place_spelling x.place) ++ (eight_bytes x.position ++ (four_bytes (length x.state) ++ (x.state ++ tag)))

in_fields : (s : Snapshot) → snapshot_spelling s ≡ spelled_fields s.content s.tag
unfolding snapshot_front
in_fields s = simp append_assoc

fields_back : (id position : ℕ) (place : Place) (state tag : List ℕ) → IsPlace place → position ≤ last_position → length tag ≡ 32
    → fields_of (spelled_fields (snapshot_of id place position state tag).content tag) ≡ snapshot_of id place position state tag
unfolding fields_of
fields_back id position (Basic summary) state tag is small t =
    let x = (snapshot_of id (Basic summary) position state tag).content in
    let rest = eight_bytes position ++ (four_bytes (length state) ++ (state ++ tag)) in
    let h = has_tail 32 position (front_head x ++ summary.bytes) state tag (omega (arith, is)) small t in
    let place : take 32 (summary.bytes ++ rest) ≡ summary.bytes = take_front 32 summary.bytes rest is in
    λ i. snapshot_of id (Basic (record { bytes = place i })) (h.at_position i) (h.at_state i) (h.at_tag i)
fields_back id position (Opt anchor extension) state tag is small t =
    let a = anchor.bytes in let e = extension.bytes in
    let x = (snapshot_of id (Opt anchor extension) position state tag).content in
    let rest = eight_bytes position ++ (four_bytes (length state) ++ (state ++ tag)) in
    let h = has_tail 64 position (front_head x ++ (a ++ e)) state tag (omega (arith, is.0, is.1, length-append a e)) small t in
    let first : take 32 ((a ++ e) ++ rest) ≡ a = ap (take 32) (append_assoc a e rest) ∙ take_front 32 a (e ++ rest) is.0 in
    let second : take 32 (drop 32 ((a ++ e) ++ rest)) ≡ e =
    ap (λ (b : List ℕ). take 32 (drop 32 b)) (append_assoc a e rest) ∙ part 32 32 a e rest is.0 is.1 in
    λ i. snapshot_of id (Opt (record { bytes = first i }) (record { bytes = second i })) (h.at_position i) (h.at_state i) (h.at_tag i)

-- what the tests say
record IsSpelledBy (bytes : List ℕ) (s : Snapshot) : Type 0 where
  long : 50 + place_length (variant_of s.content.place) ≤ length bytes
  position : s.content.position ≤ last_position
  state : length s.content.state ≤ limit_of s.content.id
  same : bytes ≡ snapshot_spelling s

spelled_tells : (bytes : List ℕ) (s : Snapshot) → is_spelled_by bytes s ≡ true → IsSpelledBy bytes s
spelled_tells bytes s is = grind (arith, nat_tests, bytes_eq-Decides bytes (snapshot_spelling s))

spelled_is : (bytes : List ℕ) (s : Snapshot) → IsSpelledBy bytes s → is_spelled_by bytes s ≡ true
spelled_is bytes s is = grind (arith, nat_tests, bytes_eq-Decides bytes (snapshot_spelling s))

kind_tells : (variant : Variant) (id : ℕ) (s : Snapshot) → is_of_kind variant id s ≡ true → IsOfKind variant id s
kind_tells variant id s is = grind (arith, nat_tests, variant_byte-injective (variant_of s.content.place) variant)

kind_is : (variant : Variant) (id : ℕ) (s : Snapshot) → IsOfKind variant id s → is_of_kind variant id s ≡ true
kind_is variant id s is = grind (arith, nat_tests)

digest_whole : (at : ℕ) (bytes : List ℕ) → at + 32 ≤ length bytes → length (take 32 (drop at bytes)) ≡ 32
digest_whole at bytes h = omega (arith, length-take 32 (drop at bytes), length-drop at bytes)

-- the place of long enough bytes is whole
place_whole : (is_opt : Bool) (bytes : List ℕ) → (let place = if is_opt then Opt (digest_at 6 bytes) (digest_at 38 bytes)
    else Basic (digest_at 6 bytes) in 50 + place_length (variant_of place) ≤ length bytes → IsPlace place)
place_whole true bytes h = (digest_whole 6 bytes (omega arith), digest_whole 38 bytes (omega arith))
place_whole false bytes h = digest_whole 6 bytes (omega arith)

-- what spells the fields is a snapshot
spells_fields : (bytes : List ℕ) → is_spelled_by bytes (fields_of bytes) ≡ true → SpellsSnapshot bytes (fields_of bytes)
unfolding fields_of
spells_fields bytes e =
    let t = spelled_tells bytes (fields_of bytes) e in (
      record {
        content = record { place = place_whole (slice_index bytes 4 == 2) bytes t.long; position = t.position; state = t.state };
        tag = omega (arith, length-drop (length bytes - 32) bytes, t.long);
      },
      t.same,
    )

-- the bytes of a snapshot have its fields, and spell it
no_snapshot : (bytes : List ℕ) → is_spelled_by bytes (fields_of bytes) ≡ false → IsNoSnapshot bytes
no_snapshot bytes e s is at =
    let x = s.content in
    let fields : fields_of bytes ≡ s = ap fields_of (at ∙ in_fields s)
    ∙ fields_back x.id x.position x.place x.state s.tag is.content.place is.content.position is.tag in
    let spelled = spelled_is bytes s (record {
      long = omega (arith, ap length at, length-append (snapshot_front x) s.tag, length-snapshot_front x is.content, is.tag);
      position = is.content.position;
      state = is.content.state;
      same = at;
    }) in
    let yes : is_spelled_by bytes (fields_of bytes) ≡ true = ap (is_spelled_by bytes) fields ∙ spelled in cc

reads_by : (variant : Variant) (id : ℕ) (bytes : List ℕ) (s : Snapshot) (spelled kind : Bool) → (spelled ≡ true → SpellsSnapshot bytes s)
    → (spelled ≡ false → IsNoSnapshot bytes) → (kind ≡ true → IsOfKind variant id s) → (IsOfKind variant id s → kind ≡ true)
    → ReadsParts bytes variant id (if spelled then (if kind then Ok s else Err Kind) else Err Form)
reads_by variant id bytes s true true a b c d = (a refl, c refl)
reads_by variant id bytes s true false a b c d = (s, a refl, λ (k : IsOfKind variant id s). let f : false ≡ true = d k in cc)
reads_by variant id bytes s false kind a b c d = b refl

-- taking apart gives what the bytes say
pub reads_parts : (variant : Variant) (id : ℕ) (bytes : List ℕ) → ReadsParts bytes variant id (parts_of variant id bytes)
unfolding parts_of
reads_parts variant id bytes =
    let s = fields_of bytes in
    reads_by variant id bytes s (is_spelled_by bytes s) (is_of_kind variant id s) (spells_fields bytes) (no_snapshot bytes)
    (kind_tells variant id s) (kind_is variant id s)

-- and nothing else
pub parts_are : (variant : Variant) (id : ℕ) (bytes : List ℕ) (read : Result Snapshot PartsFault) → ReadsParts bytes variant id read
    → read ≡ parts_of variant id bytes
parts_are variant id bytes read r = reads_parts-same bytes variant id read (parts_of variant id bytes) r (reads_parts variant id bytes)

-- What is sealed has one content, and is taken apart to it.

-- a sealed content, as an offer to its own variant and module
pub sealed_reads : (key : List ℕ) (x : Content) (variant : Variant) (id : ℕ) → IsContent x → variant_of x.place ≡ variant → x.id ≡ id
    → ReadsParts (sealed_snapshot_of key x) variant id (Ok (offered_snapshot_of key x))
sealed_reads key x variant id is v i = (sealed_snapshot_of-spells key x is, (v, i))

pub sealed_parts : (key : List ℕ) (x : Content) (variant : Variant) (id : ℕ) → IsContent x → variant_of x.place ≡ variant → x.id ≡ id
    → parts_of variant id (sealed_snapshot_of key x) ≡ Ok (offered_snapshot_of key x)
sealed_parts key x variant id is v i =
    sym (parts_are variant id (sealed_snapshot_of key x) (Ok (offered_snapshot_of key x)) (sealed_reads key x variant id is v i))

-- two contents of one sealed text are one, whatever the keys
pub sealed_once : (key other : List ℕ) (x y : Content) → IsContent x → IsContent y → sealed_snapshot_of key x ≡ sealed_snapshot_of other y
    → x ≡ y
sealed_once key other x y ix iy e =
    let t = sealed_snapshot_of-spells other y iy in
    ap (λ (s : Snapshot). s.content)
    (same_snapshot (sealed_snapshot_of key x) (offered_snapshot_of key x) (offered_snapshot_of other y)
    (sealed_snapshot_of-spells key x ix) (t.0, e ∙ t.1))

-- What is read of an offer.

pub le_tells : (a b : ℕ) → nat_le a b ≡ true → a ≤ b
le_tells a b e = grind (arith, nat_tests)

pub spells_read : (variant : Variant) (id : ℕ) (bytes : List ℕ) (snapshot : Snapshot) → parts_of variant id bytes ≡ Ok snapshot
    → SpellsSnapshot bytes snapshot × IsOfKind variant id snapshot
spells_read variant id bytes snapshot e = subst (λ read. ReadsParts bytes variant id read) e (reads_parts variant id bytes)
