-- Laws of the snapshot's spelling.
use Rattle.std.proofs.Common.{Result, Ok, Err, subst, ℕ, ◌≡◌, ◌≢◌, ◌+◌, ◌<◌, ◌≤◌, ◌^◌, List, [], ◌∷◌, ◌++◌, length, get_or, refl, ap, sym}
use Rattle.std.proofs.Common.{◌∙◌, arith, length-append, append_assoc}
use Rattle.std.proofs.lemmas.List.{append-nil}
use Rattle.std.proofs.lemmas.Bool.Decides.{nat_tests}
use Rattle.mm_bytes.specs.Limits.{limit_of, eight_bytes, four_bytes}
use Rattle.mm_digest.specs.declared.variant.Variant.{Variant}
use Rattle.mm_digest.specs.declared.variant.Variant.TheVariants as variants
use Rattle.mm_digest.specs.Messages.{variant_byte}
use Rattle.mm_seal.specs.declared.snapshot.Place.{Place}
use Rattle.mm_seal.specs.declared.snapshot.Place.TheVariants.{Basic, Opt}
use Rattle.mm_seal.specs.Cell.{version_of}
use Rattle.mm_seal.specs.Snapshot.{Content, IsContent, IsPlace, Snapshot, snapshot_spelling, HasOneSpelling, variant_of, place_spelling}
use Rattle.mm_seal.specs.Snapshot.{snapshot_front, SpellsSnapshot, IsOfKind, ReadsParts, tag_of, sealed_snapshot_of, front_head}
use Rattle.mm_digest.specs.LengthLaws.{length-hmac_of}
use Rattle.mm_seal.specs.declared.snapshot.PartsFault.{PartsFault}
use Rattle.mm_seal.specs.declared.snapshot.PartsFault.TheVariants.{Form, Kind}
use Rattle.mm_seal.specs.Parts.{SpellsNoContent, HasHead, place_length}
use Rattle.mm_bytes.specs.DecimalLaws.{append-injective, eight_bytes-injective, four_bytes-injective, length-eight_bytes, length-four_bytes}
use Rattle.mm_seal.specs.CellLaws.{variant_byte-injective}

-- five parts put at the end one after another
pub put_in_parts : (old b₁ b₂ b₃ b₄ b₅ p₁ p₂ p₃ p₄ p₅ q₁ q₃ q₄ : List ℕ) → b₁ ≡ old ++ p₁ → b₂ ≡ b₁ ++ p₂ → b₃ ≡ b₂ ++ p₃ → b₄ ≡ b₃ ++ p₄
    → b₅ ≡ b₄ ++ p₅ → p₁ ≡ q₁ → p₃ ≡ q₃ → p₄ ≡ q₄ → b₅ ≡ old ++ (q₁ ++ (p₂ ++ (q₃ ++ (q₄ ++ p₅))))
put_in_parts old b₁ b₂ b₃ b₄ b₅ p₁ p₂ p₃ p₄ p₅ q₁ q₃ q₄ e₁ e₂ e₃ e₄ e₅ f₁ f₃ f₄ = rw (e₅, e₄, e₃, e₂, e₁, f₁, f₃, f₄) (simp append_assoc)

pub length-place_spelling : (place : Place) → IsPlace place → length (place_spelling place) ≡ place_length (variant_of place)
length-place_spelling (Basic summary) is = is
length-place_spelling (Opt anchor extension) is = length-append anchor.bytes extension.bytes ∙ omega (arith, is.0, is.1)

place_length-least : (v : Variant) → 32 ≤ place_length v
place_length-least variants.Basic = omega arith
place_length-least variants.Opt = omega arith

pub length-snapshot_front : (x : Content) → IsContent x →
    length (snapshot_front x) ≡ 18 + place_length (variant_of x.place) + length x.state
unfolding snapshot_front
length-snapshot_front x is =
    simp length-append (omega
    (arith, length-place_spelling x.place is.place, length-eight_bytes x.position, length-four_bytes (length x.state)))

front_variant : (x : Content) → variant_byte (variant_of x.place) ≡ get_or (snapshot_front x) 4 0
unfolding snapshot_front
front_variant x = refl

-- why bytes are no content's
pub no_front-short : (front : List ℕ) → length front < 50 → SpellsNoContent front
no_front-short front h x is e = omega (arith, ap length e, length-snapshot_front x is, place_length-least (variant_of x.place))

pub no_front-variant : (front : List ℕ) → ((v : Variant) → variant_byte v ≢ get_or front 4 0) → SpellsNoContent front
no_front-variant front h x is e = h (variant_of x.place) (front_variant x ∙ sym (ap (λ (f : List ℕ). get_or f 4 0) e))

pub no_front-fields : (front : List ℕ) (v : Variant) → variant_byte v ≡ get_or front 4 0 →
    length front < 18 + place_length v → SpellsNoContent front
no_front-fields front v t h x is e =
    let same : v ≡ variant_of x.place =
    variant_byte-injective v (variant_of x.place)
    (t ∙ ap (λ (f : List ℕ). get_or f 4 0) e ∙ sym (front_variant x)) in
    omega (arith, ap length e, length-snapshot_front x is, ap place_length same)

-- bytes with room for the fields do not end before them
pub no_end_in_fields : (v : Variant) (place : Place) (front head r₁ r₂ : List ℕ) → 18 + place_length v ≤ length front
    → front ≡ head ++ r₁ → length head ≡ 6 → r₁ ≡ place_spelling place ++ r₂ → variant_of place ≡ v → IsPlace place
    → length r₂ < 12 → ⊥
no_end_in_fields v place front head r₁ r₂ room e₁ h e₂ t is short =
    let l₁ = ap length e₁ ∙ length-append head r₁ in
    let l₂ = ap length e₂ ∙ length-append (place_spelling place) r₂ in
    omega (arith, l₁, l₂, length-place_spelling place is, ap place_length t)

place_spelling-injective : (p q : Place) → IsPlace p → IsPlace q → variant_of p ≡ variant_of q → place_spelling p ≡ place_spelling q → p ≡ q
place_spelling-injective (Basic a) (Basic b) ip iq v e = λ i. Basic (record { bytes = e i })
place_spelling-injective (Opt a c) (Opt b d) ip iq v e =
    let both = append-injective a.bytes b.bytes c.bytes d.bytes (ip.0 ∙ sym iq.0) e in
    λ i. Opt (record { bytes = both.0 i }) (record { bytes = both.1 i })
place_spelling-injective _ _ ip iq v e = absurd (omega (arith, ap place_length v))

limit_of-below : (id : ℕ) → limit_of id < 2 ^ 32
limit_of-below id = grind (arith, nat_tests)

regrouped-front : (x : Content) (a : List ℕ) → snapshot_front x ++ a ≡
    front_head x ++ (place_spelling x.place ++ (eight_bytes x.position ++ (four_bytes (length x.state) ++ (x.state ++ a))))
unfolding snapshot_front
regrouped-front x a = simp append_assoc

-- the fields of bytes that are a content's, and what follows them
pub record SameFields (x y : Content) (head : List ℕ) (n : ℕ) (a b : List ℕ) : Type 0 where
  pub at_head : head ≡ front_head x
  pub id : y.id ≡ x.id
  pub place : y.place ≡ x.place
  pub position : y.position ≡ x.position
  pub size : n ≡ length x.state
  pub after : a ≡ x.state ++ b

pub same_fields : (x y : Content) (head : List ℕ) (n : ℕ) (a b : List ℕ) → IsContent x → IsPlace y.place → y.position < 2 ^ 64 → n < 2 ^ 32
    → length head ≡ 6 → variant_byte (variant_of y.place) ≡ get_or head 4 0 → y.id ≡ get_or head 5 0
    → head ++ (place_spelling y.place ++ (eight_bytes y.position ++ (four_bytes n ++ a))) ≡ snapshot_front x ++ b
    → SameFields x y head n a b
same_fields x y head n a b is iy p q h t u e =
    let first = append-injective head (front_head x) _ _ h (e ∙ regrouped-front x b) in
    let kind : variant_of y.place ≡ variant_of x.place =
    variant_byte-injective _ _ (t ∙ ap (λ (z : List ℕ). get_or z 4 0) first.0) in
    let sizes = length-place_spelling y.place iy ∙ ap place_length kind ∙ sym (length-place_spelling x.place is.place) in
    let second = append-injective (place_spelling y.place) (place_spelling x.place) _ _ sizes first.1 in
    let third = append-injective (eight_bytes y.position) (eight_bytes x.position) _ _
    (length-eight_bytes y.position ∙ sym (length-eight_bytes x.position)) second.1 in
    let fourth = append-injective (four_bytes n) (four_bytes (length x.state)) _ _
    (length-four_bytes n ∙ sym (length-four_bytes (length x.state))) third.1 in
    record {
      at_head = first.0;
      id = u ∙ ap (λ (z : List ℕ). get_or z 5 0) first.0;
      place = place_spelling-injective y.place x.place iy is.place kind second.0;
      position = eight_bytes-injective y.position x.position p (omega (arith, is.position)) third.0;
      size = four_bytes-injective n (length x.state) q (omega (arith, is.state, limit_of-below x.id)) fourth.0;
      after = fourth.1;
    }

-- a content of bytes whose fields were read is the only one
pub only_content : (x y : Content) (front head r₁ r₂ r₃ : List ℕ) (n : ℕ) → IsContent x → front ≡ snapshot_front x → front ≡ head ++ r₁
    → length head ≡ 6 → variant_byte (variant_of y.place) ≡ get_or head 4 0 → y.id ≡ get_or head 5 0 → IsPlace y.place
    → r₁ ≡ place_spelling y.place ++ r₂ → r₂ ≡ eight_bytes y.position ++ r₃ → r₃ ≡ four_bytes n ++ y.state → y.position < 2 ^ 64
    → n < 2 ^ 32 → HasHead y head n
only_content x y front head r₁ r₂ r₃ n is e e₁ h t u iy e₂ e₃ e₄ p q =
    let whole : head ++ (place_spelling y.place ++ (eight_bytes y.position ++ (four_bytes n ++ y.state))) ≡ snapshot_front x ++ [] =
    rw (← e₄) (rw (← e₃) (rw (← e₂) (sym e₁ ∙ e ∙ sym (append-nil (snapshot_front x))))) in
    let f = same_fields x y head n y.state [] is iy p q h t u whole in
    let state : y.state ≡ x.state = f.after ∙ append-nil x.state in
    let at_head : front_head x ≡ front_head y =
    λ i. 0x4d ∷ 0x4d ∷ 0x53 ∷ version_of (sym f.id i) ∷ variant_byte (variant_of (sym f.place i)) ∷ sym f.id i ∷ [] in (
      f.at_head ∙ at_head,
      omega (arith, f.position, is.position),
      ap length state ∙ sym f.size,
      omega (arith, ap length state, is.state, ap limit_of f.id),
    )

-- bytes whose fields were read are those of the content
pub front_of_fields : (y : Content) (front head r₁ r₂ r₃ : List ℕ) (n : ℕ) → front ≡ head ++ r₁ → IsPlace y.place
    → r₁ ≡ place_spelling y.place ++ r₂ → r₂ ≡ eight_bytes y.position ++ r₃ → r₃ ≡ four_bytes n ++ y.state → HasHead y head n
    → IsContent y × (front ≡ snapshot_front y)
unfolding snapshot_front
front_of_fields y front head r₁ r₂ r₃ n e₁ iy e₂ e₃ e₄ h =
    (record { place = iy; position = h.1; state = h.3 }, rw (e₁, h.0, e₂, e₃, e₄, h.2) refl)

-- two contents at the front of one list are one content
pub same_front : (x y : Content) (a b : List ℕ) → IsContent x → IsContent y →
    snapshot_front x ++ a ≡ snapshot_front y ++ b → (x ≡ y) × (a ≡ b)
same_front x y a b ix iy e =
    let whole : front_head x
    ++ (place_spelling x.place ++ (eight_bytes x.position ++ (four_bytes (length x.state) ++ (x.state ++ a)))) ≡ snapshot_front y ++ b =
    sym (regrouped-front x a) ∙ e in
    let f = same_fields y x (front_head x) (length x.state) (x.state ++ a) b iy ix.place
    (omega (arith, ix.position)) (omega (arith, ix.state, limit_of-below x.id)) refl refl refl whole in
    let states = append-injective x.state y.state a b f.size f.after in
    (λ i. record { id = f.id i; place = f.place i; position = f.position i; state = states.0 i }, states.1)

-- the law of the grammar
pub one_spelling : HasOneSpelling
one_spelling s t rest is it e =
    let regrouped = sym (append_assoc (snapshot_front s.content) s.tag rest) ∙ e in
    let contents = same_front s.content t.content (s.tag ++ rest) t.tag is.content it.content regrouped in
    let tags = append-injective s.tag t.tag rest [] (is.tag ∙ sym it.tag) (contents.1 ∙ sym (append-nil t.tag)) in
    (λ i. record { content = contents.0 i; tag = tags.0 i }, tags.1)

-- equal bytes are of one snapshot
pub same_snapshot : (bytes : List ℕ) (s t : Snapshot) → SpellsSnapshot bytes s → SpellsSnapshot bytes t → s ≡ t
same_snapshot bytes s t h k = (one_spelling s t [] h.0 k.0 (append-nil (snapshot_spelling s) ∙ sym h.1 ∙ k.1)).0

-- taking apart has one answer
pub reads_parts-same : (bytes : List ℕ) (variant : Variant) (id : ℕ) (r s : Result Snapshot PartsFault) →
    ReadsParts bytes variant id r → ReadsParts bytes variant id s → r ≡ s
reads_parts-same bytes variant id (Ok a) (Ok b) h k = ap Ok (same_snapshot bytes a b h.0 k.0)
reads_parts-same bytes variant id (Ok a) (Err Form) h k = absurd (k a h.0.0 h.0.1)
reads_parts-same bytes variant id (Ok a) (Err Kind) h k =
    absurd (k.2 (subst (λ (x : Snapshot). IsOfKind variant id x) (same_snapshot bytes a k.0 h.0 k.1) h.1))
reads_parts-same bytes variant id (Err Form) (Ok b) h k = absurd (h b k.0.0 k.0.1)
reads_parts-same bytes variant id (Err Form) (Err Form) h k = refl
reads_parts-same bytes variant id (Err Form) (Err Kind) h k = absurd (h k.0 k.1.0 k.1.1)
reads_parts-same bytes variant id (Err Kind) (Ok b) h k =
    absurd (h.2 (subst (λ (x : Snapshot). IsOfKind variant id x) (same_snapshot bytes b h.0 k.0 h.1) k.1))
reads_parts-same bytes variant id (Err Kind) (Err Form) h k = absurd (k h.0 h.1.0 h.1.1)
reads_parts-same bytes variant id (Err Kind) (Err Kind) h k = refl

-- a sealed content is spelled, with its tag under the key
pub sealed_snapshot_of-spells : (key : List ℕ) (content : Content) → IsContent content →
    SpellsSnapshot (sealed_snapshot_of key content) (record { content = content; tag = tag_of key content })
unfolding sealed_snapshot_of
sealed_snapshot_of-spells key content is = (record { content = is; tag = length-hmac_of key (snapshot_front content) }, refl)
