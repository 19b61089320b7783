-- What the digests stand for: the summary of a list of batches, the value of a register and the
-- anchor of a list of segments. Each is one chain: every item is hashed with the digest before it.
-- With it: what one protected module is set up with.
use Rattle.std.specs.Prelude.{ℕ, List, [], ◌∷◌, ◌++◌, map}
use Rattle.mm_model.specs.Below.{sha256, zero_bytes, start_digest_of, extended_message, anchored_message, Basic, Opt, Batch, One, Many}
use Rattle.mm_model.specs.Below.{Variant, Meaning}

-- the digest after these items, from the digest s
abbrev pub digest_after : {A : Type 0} → (List ℕ → A → List ℕ) → List ℕ → List A → List ℕ
digest_after message s [] = s
digest_after message s (x ∷ xs) = digest_after message (sha256 (message s x)) xs

-- the messages hashed on the way
abbrev pub trail : {A : Type 0} → (List ℕ → A → List ℕ) → List ℕ → List A → List (List ℕ)
trail message s [] = []
trail message s (x ∷ xs) = message s x ∷ trail message (sha256 (message s x)) xs

-- the message by which a batch follows the summary s
abbrev pub link_message : List ℕ → Batch → List ℕ
link_message s (One r) = 1 ∷ (s ++ r)
link_message s (Many text) = 4 ∷ (s ++ text)

-- the message that a batch makes under the barrier
abbrev pub guard_message : List ℕ → Batch → List ℕ
guard_message barrier (One r) = 2 ∷ (barrier ++ r)
guard_message barrier (Many text) = 5 ∷ (barrier ++ text)

-- the message by which a segment, its values, follows the anchor a
abbrev pub closing_message : List ℕ → List (List ℕ) → List ℕ
closing_message a values = anchored_message a (digest_after extended_message zero_bytes values)

-- the summary after one more batch
unfoldable pub link : List ℕ → Batch → List ℕ
link s b = sha256 (link_message s b)

-- the value by which a batch extends the register
unfoldable pub guard : List ℕ → Batch → List ℕ
guard barrier b = sha256 (guard_message barrier b)

-- the summary of the batches
unfoldable pub summary_of : ℕ → List Batch → List ℕ
summary_of id batches = digest_after link_message (start_digest_of Basic id) batches

-- the value of a register that took in these values since it was zero
unfoldable pub register_of : List (List ℕ) → List ℕ
register_of values = digest_after extended_message zero_bytes values

-- the anchor after these segments, each the values that the register had taken in
unfoldable pub anchor_of : ℕ → List (List (List ℕ)) → List ℕ
anchor_of id segments = digest_after closing_message (start_digest_of Opt id) segments

-- the values by which the batches extend the register
abbrev pub own_values : List ℕ → List Batch → List (List ℕ)
own_values barrier = map (guard barrier)

-- What one protected module is set up with.

-- the variant, the module, and the key and the barrier of 32 bytes each
pub record Instance : Type 0 where
  pub variant : Variant
  pub meaning : Meaning
  pub key : List ℕ
  pub barrier : List ℕ

-- an instance of Basic, which has no barrier
abbrev pub basic_instance : Meaning → List ℕ → Instance
basic_instance meaning key = record {
  variant = Basic;
  meaning = meaning;
  key = key;
  barrier =
      zero_bytes;
}

abbrev pub opt_instance : Meaning → List ℕ → List ℕ → Instance
opt_instance meaning key barrier = record {
  variant = Opt;
  meaning = meaning;
  key = key;
  barrier =
      barrier;
}

-- the instance of a variant; Basic has no barrier, and ignores it
abbrev pub instance_by : Variant → Meaning → (key barrier : List ℕ) → Instance
instance_by Basic meaning key barrier =
    record { variant = Basic; meaning = meaning; key = key; barrier = zero_bytes }
instance_by Opt meaning key barrier =
    record { variant = Opt; meaning = meaning; key = key; barrier = barrier }
