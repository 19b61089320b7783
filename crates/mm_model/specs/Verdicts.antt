-- The verdict on an offered position: from a history, which knows no digest, and from digests
-- alone. With it: owned batches and entries, as the lists of a history.
use Rattle.std.specs.List.{list_any}
use Rattle.std.specs.Prelude.{ℕ, Bool, true, false, List, [], ◌∷◌, if◌then◌else◌, nat_eq, ◌+◌, ◌&&◌, Vec, map}
use Rattle.std.specs.Str.{bytes_eq}
use Rattle.mm_module.specs.Batch as ghost_batch
use Rattle.mm_model.specs.Below.{zero_bytes, anchored_digest_of, extended_digest_of, Variant, Place, InBasic, InOpt, Batch, size_of}
use Rattle.mm_model.specs.Chains.{link, guard}
use Rattle.mm_model.specs.declared.kept.KeptBatch.{KeptBatch}
use Rattle.mm_model.specs.declared.kept.KeptBatch.TheVariants.{One, Many}
use Rattle.mm_model.specs.declared.kept.KeptEntry.{KeptEntry}
use Rattle.mm_model.specs.declared.kept.KeptEntry.TheVariants as kept
use Rattle.mm_model.specs.declared.verdict.Verdict.{Verdict}
use Rattle.mm_model.specs.declared.verdict.Verdict.TheVariants.{Fresh, Again, Lost, Stale}
use Rattle.mm_model.specs.History.{History, total_of, RegisterEntry, Own, Value}
use Rattle.mm_model.specs.Standing.{Life, Live, Lost as LostLife, life_of, is_same_batch}

-- the last of the batches is b
abbrev pub is_last : List Batch → Batch → Bool
is_last [] b = false
is_last (c ∷ []) b = is_same_batch c b
is_last (c ∷ d ∷ batches) b = is_last (d ∷ batches) b

-- Lost where the history is, Stale where it is Spoiled. Else, by whether the position is the last,
-- and whether it is the one before the last batch, which is the one asked
abbrev pub verdict_by_tests : Life → Bool → Bool → Verdict
verdict_by_tests LostLife is_here is_repeat = Lost
verdict_by_tests Live true is_repeat = Fresh
verdict_by_tests Live false true = Again
verdict_by_tests _ _ _ = Stale

-- the verdict on position p and batch b
abbrev pub verdict_on : Variant → History → ℕ → Batch → Verdict
verdict_on variant y p b =
    verdict_by_tests (life_of variant y) (nat_eq p (total_of y.batches))
    (nat_eq (p + size_of b) (total_of y.batches) && is_last y.batches b)

-- Fresh is tried before the repeat
abbrev pub verdict_by : Bool → Bool → Bool → Verdict
verdict_by true is_fresh is_repeat = Lost
verdict_by false true is_repeat = Fresh
verdict_by false false true = Again
verdict_by false false false = Stale

-- Basic: the cell has the summary s, the offer the summary o
abbrev pub basic_verdict : List ℕ → List ℕ → Batch → Verdict
basic_verdict s o b = verdict_by false (bytes_eq o s) (bytes_eq (link o b) s)

-- a form of an offered place of Opt
pub record Point : Type 0 where
  pub anchor : List ℕ
  pub extension : List ℕ

-- an offered place, and the same place after its segment was closed
abbrev pub forms_of : List ℕ → List ℕ → List Point
forms_of a e =
    record { anchor = a; extension = e } ∷
    (if bytes_eq e zero_bytes then []
    else record { anchor = anchored_digest_of a e; extension = zero_bytes } ∷ [])

-- A form fits as fresh: it is where the platform stands. By: a segment is open; the cell's anchor;
-- the register's value.
abbrev pub is_fresh_form : Bool → List ℕ → List ℕ → Point → Bool
is_fresh_form true anchor register x = bytes_eq x.anchor anchor && bytes_eq x.extension register
is_fresh_form false anchor register x = bytes_eq x.anchor anchor && bytes_eq x.extension zero_bytes

-- a form fits as a repeat: the batch with the guard v leads from it to where the platform stands
abbrev pub is_repeat_form : Bool → List ℕ → List ℕ → List ℕ → Point → Bool
is_repeat_form true anchor register v x =
    bytes_eq x.anchor anchor && bytes_eq (extended_digest_of x.extension v) register
is_repeat_form false anchor register v x =
    bytes_eq (anchored_digest_of x.anchor (extended_digest_of x.extension v)) anchor

-- Opt: by the cell's flag and anchor, the register's value, the forms offered, and the guard of the
-- batch
abbrev pub opt_verdict : Bool → List ℕ → List ℕ → List Point → List ℕ → Verdict
opt_verdict flag anchor register forms v =
    verdict_by (flag && bytes_eq register zero_bytes)
    (list_any (is_fresh_form flag anchor register) forms)
    (list_any (is_repeat_form flag anchor register v) forms)

-- the verdict from digests: by the barrier, the cell's flag and its summary or anchor, the
-- register's value, the offered place and the batch. A place of the other variant is never offered.
abbrev pub verdict_by_digests : List ℕ → Bool → List ℕ → List ℕ → Place → Batch → Verdict
verdict_by_digests barrier flag digest register (InBasic s) b = basic_verdict digest s.bytes b
verdict_by_digests barrier flag digest register (InOpt a e) b =
    opt_verdict flag digest register (forms_of a.bytes e.bytes) (guard barrier b)

-- Owned batches and entries, as the lists of a history.

abbrev pub kept_batch : KeptBatch → ghost_batch.Batch
kept_batch (One request) = ghost_batch.One request
kept_batch (Many text) = ghost_batch.Many text

abbrev pub kept_batches : List KeptBatch → List ghost_batch.Batch
kept_batches batches = map kept_batch batches

abbrev pub kept_entry : KeptEntry → RegisterEntry
kept_entry (kept.Own batch) = Own (kept_batch batch)
kept_entry (kept.Value value) = Value value.bytes

abbrev pub kept_entries : List KeptEntry → List RegisterEntry
kept_entries entries = map kept_entry entries

-- the entry is the batch's own
abbrev pub is_entry_of : RegisterEntry → ghost_batch.Batch → Bool
is_entry_of (Own b) c = is_same_batch b c
is_entry_of (Value d) c = false

abbrev pub kept_segments : {A : Type 0} → List (Vec KeptEntry A) → List (List RegisterEntry)
kept_segments {A} segments =
    map (λ (segment : Vec KeptEntry A). kept_entries segment.items) segments

-- a variant, and a history of it
pub record KeptHistory : Type 0 where
  pub variant : Variant
  pub history : History
