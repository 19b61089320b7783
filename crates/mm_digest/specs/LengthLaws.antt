-- The sizes of digests: each has 32 bytes, each below 256.
use Rattle.std.proofs.Common.{ℕ, ◌≡◌, ◌<◌, List, [], ◌∷◌, length, refl}
use Rattle.std.proofs.lemmas.List.Elements.{All-nil, All-cons}
use Rattle.sha2.proofs.Facts256.{length-sha256}
use Rattle.mm_digest.specs.declared.variant.Variant.{Variant}
use Rattle.mm_digest.specs.Messages.{IsBytes, zero_bytes, start_digest_of, anchored_digest_of, extended_digest_of, hmac_of}

four_bytes : (a b c d : ℕ) → a < 256 → b < 256 → c < 256 → d < 256 → IsBytes (a ∷ b ∷ c ∷ d ∷ [])
four_bytes a b c d ha hb hc hd =
    let P : ℕ → Type 0 = λ x. x < 256 in
    All-cons P a (b ∷ c ∷ d ∷ []) ha (All-cons P b (c ∷ d ∷ []) hb (All-cons P c (d ∷ []) hc (All-cons P d [] hd (All-nil P))))

pub length-zero_bytes : length zero_bytes ≡ 32
unfolding zero_bytes
length-zero_bytes = refl

pub length-start_digest_of : (variant : Variant) (id : ℕ) → length (start_digest_of variant id) ≡ 32
unfolding start_digest_of
length-start_digest_of variant id = length-sha256 _

pub length-anchored_digest_of : (a register : List ℕ) → length (anchored_digest_of a register) ≡ 32
unfolding anchored_digest_of
length-anchored_digest_of a register = length-sha256 _

pub length-extended_digest_of : (old value : List ℕ) → length (extended_digest_of old value) ≡ 32
unfolding extended_digest_of
length-extended_digest_of old value = length-sha256 _

pub length-hmac_of : (key text : List ℕ) → length (hmac_of key text) ≡ 32
unfolding hmac_of
length-hmac_of key text = length-sha256 _
