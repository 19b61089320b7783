-- The digests that are kept of the pages of each slot. With it: bytes by pages of 256; which pages
-- a write reads back, and which it writes.
use Rattle.std.specs.Prelude.{ℕ, ◌+◌, ◌-◌, ◌*◌, ◌/◌, List, ◌++◌, length, take, drop, replicate, ◌≡◌, ◌==◌, zero, suc, [], ◌∷◌}
use Rattle.std.specs.Prelude.{slice_index_or, Option, Some, None, if◌then◌else◌, Bool, true}
use Rattle.std.specs.Str.{bytes_eq}
use Rattle.sha2.specs.Sha256.{sha256}
use Rattle.mm_bytes.specs.Limits.{next_count}
use Rattle.mm_digest.specs.declared.digest.Digest.{Digest}
use Rattle.mm_store.specs.StoreStanding.{Four}

-- Bytes by pages of 256.

-- the bytes cut to this length, or filled up to it with zero bytes
unfoldable pub resized_bytes : ℕ → List ℕ → List ℕ
resized_bytes size bytes = take size bytes ++ replicate (size - length bytes) 0

-- the 256 bytes of a page; those past the end are zero
unfoldable pub page_of : List ℕ → ℕ → List ℕ
page_of bytes page = resized_bytes 256 (drop (256 * page) bytes)

-- the bytes with a page's put in place; a hole before it is filled with zero bytes
unfoldable pub bytes_with_page : ℕ → List ℕ → List ℕ → List ℕ
bytes_with_page page part bytes = resized_bytes (256 * page) bytes
    ++ (part ++ drop (256 * page + 256) bytes)

-- how many pages that many bytes fill
abbrev pub page_count : ℕ → ℕ
page_count size = (size + 255) / 256

-- The digests that are kept of the pages of each slot.

-- for each slot the digests of its first pages, each kept or not; of all later pages none is kept
pub record Rows : Type 0 where
  pub zero : List (Option Digest)
  pub one : List (Option Digest)
  pub two : List (Option Digest)
  pub three : List (Option Digest)

-- four rows, as those of the slots
abbrev pub rows_of : Four (List (Option Digest)) → Rows
rows_of four = record { zero = four.zero; one = four.one; two = four.two; three = four.three }

-- none is kept
abbrev pub no_rows : Rows
no_rows = record { zero = []; one = []; two = []; three = [] }

-- the digests of one slot's pages
abbrev pub row_in : Rows → ℕ → List (Option Digest)
row_in rows slot =
    if slot == 0 then rows.zero else if slot == 1 then rows.one else if slot == 2 then rows.two
    else rows.three

-- the digests, with these in place of one slot's
abbrev pub rows_with : Rows → ℕ → List (Option Digest) → Rows
rows_with rows slot row =
    if slot == 0 then record rows { zero = row } else if slot == 1 then record rows { one = row }
    else if slot == 2 then record rows { two = row } else record rows { three = row }

-- the digest that is kept of a page
abbrev pub kept_digest : List (Option Digest) → ℕ → Option Digest
kept_digest row page = slice_index_or row page None

-- the digest of a page's bytes
abbrev pub page_digest : List ℕ → Digest
page_digest part = record { bytes = sha256 part }

-- a row with this digest in place of a page's, which follows those of the pages before it
abbrev pub row_with_digest : ℕ → Digest → List (Option Digest) → List (Option Digest)
row_with_digest page digest row = take page row ++ (Some digest ∷ drop (page + 1) row)

-- the digests of the first pages of these bytes
abbrev pub digests_of_pages : List ℕ → ℕ → List (Option Digest)
digests_of_pages bytes zero = []
digests_of_pages bytes (suc count) =
    digests_of_pages bytes count ++ (Some (page_digest (page_of bytes count)) ∷ [])

-- one row changed but for its digests before and after a page
pub record DropsPage (slot page : ℕ) (old new : Rows) : Type 0 where
  pub row : List (Option Digest)
  pub rows : new ≡ rows_with old slot row
  pub len : length row ≡ length (row_in old slot)
  pub before : take page row ≡ take page (row_in old slot)
  pub after : drop (page + 1) row ≡ drop (page + 1) (row_in old slot)

-- Which pages a write reads back, and which it writes.

-- the count after so many more
abbrev pub count_after_so_many : ℕ → ℕ → ℕ
count_after_so_many zero count = count
count_after_so_many (suc n) count = next_count (count_after_so_many n count)

-- the digest kept of a page, if any, doesn't tell it from a page with this digest: it is read back
abbrev pub may_be_same : Option Digest → Digest → Bool
may_be_same None digest = true
may_be_same (Some kept) digest = bytes_eq kept.bytes digest.bytes

abbrev pub one_if : Bool → ℕ
one_if b = if b then 1 else 0

-- 1 where the page is read back before these bytes are put there
abbrev pub look_count : List (Option Digest) → ℕ → List ℕ → ℕ
look_count row page part = one_if (may_be_same (kept_digest row page) (page_digest part))

-- how many of the first pages of these bytes are read back: those of which no digest is kept, or
-- that of the new page
abbrev pub total_of_looks : List (Option Digest) → List ℕ → ℕ → ℕ
total_of_looks row bytes zero = 0
total_of_looks row bytes (suc count) = look_count row count (page_of bytes count)
    + total_of_looks row bytes count

-- 1 where the page is another
abbrev pub change_count : List ℕ → List ℕ → ℕ
change_count was part = if bytes_eq was part then 0 else 1

-- how many of the first pages of these bytes differ from what was there
abbrev pub changes_of : List ℕ → List ℕ → ℕ → ℕ
changes_of was bytes zero = 0
changes_of was bytes (suc count) =
    change_count (page_of was count) (page_of bytes count) + changes_of was bytes count
