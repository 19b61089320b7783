-- What receipts prove of a run: a message tells its parts, and the count of a state is the
-- position. With it: what the code reads of a state.
use Rattle.std.specs.List.{AllByRecursion}
use Rattle.std.specs.Prelude.{None}
use Rattle.std.proofs.lemmas.Bool.Decides.{nat_tests}
use Rattle.std.proofs.lemmas.List.{drop-drop, take-append-drop}
use Rattle.std.proofs.lemmas.Slice.Eq.{bytes_eq-Decides}
use Rattle.std.proofs.Math.ListN.{drop_of_length-le}
use Rattle.mm_bytes.specs.DecimalLaws.{length-eight_bytes, length-four_bytes, eight_bytes-injective, four_bytes-injective, append-injective}
use Rattle.mm_bytes.specs.Limits.{eight_bytes, four_bytes}
use Rattle.mm_module.specs.Batch.{are_bytes}
use Rattle.mm_receipted.specs.ReceiptListing.{IsTaggedBy, IsTagged, IsCounted, ReceiptsAreTrue, ReceiptsDoNotClash}
use Rattle.mm_receipted.specs.Receipts.{receipt_front, receipt_message}
use Rattle.mm_receipted.specs.Table.{is_state}
use Rattle.mm_receipted.proofs.Below.{inl, inr, ◌≡◌, ◌≢◌, ℕ, suc, ◌+◌, ◌<◌, ◌≤◌, ◌^◌, List, [], ◌∷◌, ◌++◌, length, take, drop, Some, refl}
use Rattle.mm_receipted.proofs.Below.{sym, ◌∙◌, ap, arith, length-append, slice_get, Ok, ◌⊎◌, last_position, longest_request, Meaning}
use Rattle.mm_receipted.proofs.Below.{outputs_from, digits_of, receipt_of, parts_by, check_of_parts, check_of_receipt, ReceiptState}
use Rattle.mm_receipted.proofs.Below.{outcome_of, first_receipt_state, spelling_of, receipted_module, IsKept, kept_of-spelling_of}
use Rattle.mm_receipted.proofs.Below.{outcome_of-IsKept, Bool, true, false, subst, rules, IsTrue, receipt_parts, is_front, receipt_state_in}
use Rattle.mm_receipted.proofs.Below.{SpellsKept, SpellsKept-from, kept_of-IsKept, is-true}

length-receipt_front : (position size : ℕ) → length (receipt_front position size) ≡ 16
unfolding receipt_front
length-receipt_front position size =
    omega (arith, length-append (eight_bytes position) (four_bytes size), length-eight_bytes position, length-four_bytes size)

record SameFront (position size other others : ℕ) : Type 0 where
  positions : position ≡ other
  sizes : size ≡ others

receipt_front-injective : (position size other others : ℕ) → position < 2 ^ 64 → other < 2 ^ 64 → size < 2 ^ 32 → others < 2 ^ 32
    → receipt_front position size ≡ receipt_front other others → SameFront position size other others
unfolding receipt_front
receipt_front-injective position size other others one two three four is =
    let behind : eight_bytes position ++ four_bytes size ≡ eight_bytes other ++ four_bytes others = ap (λ (l : List ℕ). drop 4 l) is in
    let parts = append-injective (eight_bytes position) (eight_bytes other) (four_bytes size) (four_bytes others)
    (length-eight_bytes position ∙ sym (length-eight_bytes other)) behind in
    record { positions = eight_bytes-injective position other one two parts.0; sizes = four_bytes-injective size others three four parts.1 }

-- a message tells its parts
record SameMessage (position : ℕ) (request said : List ℕ) (other : ℕ) (asked told : List ℕ) : Type 0 where
  positions : position ≡ other
  requests : request ≡ asked
  outputs : said ≡ told

receipt_message-injective : (position : ℕ) (request said : List ℕ) (other : ℕ) (asked told : List ℕ) → position < 2 ^ 64 → other < 2 ^ 64
    → length request < 2 ^ 32 → length asked < 2 ^ 32
    → receipt_message position request said ≡ receipt_message other asked told → SameMessage position request said other asked told
unfolding receipt_message
receipt_message-injective position request said other asked told one two three four is =
    let halves = append-injective (receipt_front position (length request)) (receipt_front other (length asked)) (request ++ said)
    (asked ++ told)
    (length-receipt_front position (length request) ∙ sym (length-receipt_front other (length asked))) is in
    let front = receipt_front-injective position (length request) other (length asked) one two three four halves.0 in
    let rest = append-injective request asked said told front.sizes halves.1 in
    record { positions = front.positions; requests = rest.0; outputs = rest.1 }

formed-receipt : (key : List ℕ) (position : ℕ) (request digits said : List ℕ) (space : ℕ)
    → check_of_parts key position request (parts_by digits (space ∷ said)) ≡ Ok tt
    → (digits ≡ digits_of key position request said) × (space ≡ 32)
formed-receipt key position request digits said space accepted =
    grind (arith, nat_tests, bytes_eq-Decides digits (digits_of key position request said))

parts-receipt : (key : List ℕ) (position : ℕ) (request digits rest : List ℕ)
    → check_of_parts key position request (parts_by digits rest) ≡ Ok tt
    → digits ++ rest ≡ receipt_of key position request (drop 1 rest)
parts-receipt key position request digits [] accepted = cc
parts-receipt key position request digits (space ∷ said) accepted =
    let f = formed-receipt key position request digits said space accepted in
    ap (λ (l : List ℕ). l ++ space ∷ said) f.0 ∙ ap (λ n. digits_of key position request said ++ n ∷ said) f.1

-- an output that is accepted is the receipt of what stands behind its digits
accepted-receipt : (key : List ℕ) (position : ℕ) (request output : List ℕ) → check_of_receipt key position request output ≡ Ok tt
    → output ≡ receipt_of key position request (drop 65 output)
accepted-receipt key position request output accepted =
    sym (take-append-drop 64 output) ∙ parts-receipt key position request (take 64 output) (drop 64 output) accepted
    ∙ ap (λ (l : List ℕ). receipt_of key position request l) (drop-drop 1 64 output)

-- the outputs from what is kept
abbrev outputs_by : Meaning → ReceiptState → List (List ℕ) → List (List ℕ)
outputs_by inner kept [] = []
outputs_by inner kept (request ∷ requests) = (outcome_of inner kept request).1 ∷ outputs_by inner (outcome_of inner kept request).0 requests

outputs-same : (inner : Meaning) (kept : ReceiptState) (requests : List (List ℕ)) → IsKept kept
    → outputs_from (receipted_module inner) (spelling_of kept) requests ≡ outputs_by inner kept requests
outputs-same inner kept [] good = refl
outputs-same inner kept (request ∷ requests) good =
    rw (kept_of-spelling_of kept good) (ap (λ (l : List (List ℕ)). (outcome_of inner kept request).1 ∷ l)
    (outputs-same inner (outcome_of inner kept request).0 requests (outcome_of-IsKept inner kept request good)))

-- a tagged request is told its receipt
tagged-said : (inner : Meaning) (key : List ℕ) (kept : ReceiptState) (request : List ℕ)
    → kept.count ≢ last_position → kept.key ≡ Some key
    → (outcome_of inner kept request).1 ≡ receipt_of key (kept.count + 1) request (inner.says kept.inner request)
tagged-said inner key kept request room keyed = grind (arith, nat_tests)

-- the count goes up by one, until it is full
abbrev Counts : ReceiptState → ReceiptState → Type 0
Counts kept next = (next.count ≡ kept.count + 1) ⊎ ((kept.count ≡ last_position) × (next.count ≡ last_position))

counts-by : (inner : Meaning) (kept : ReceiptState) (request : List ℕ) → Counts kept (outcome_of inner kept request).0
counts-by inner kept request = grind (arith, nat_tests)

-- a request that was tagged, so many requests later
record WasTagged (inner : Meaning) (kept : ReceiptState) (requests : List (List ℕ)) (key : List ℕ) (position : ℕ)
    (request said : List ℕ) : Type 0 where
  before : ℕ
  place : position ≡ kept.count + before + 1
  asked : slice_get requests before ≡ Some request
  told : slice_get (outputs_by inner kept requests) before ≡ Some (receipt_of key position request said)

here-tagged : (inner : Meaning) (key : List ℕ) (kept : ReceiptState) (first : List ℕ) (requests : List (List ℕ)) → IsKept kept
    → IsCounted first
    → (position : ℕ) (request said : List ℕ) → position ≤ last_position → length request ≤ longest_request
    → IsTaggedBy inner key kept first (receipt_message position request said)
    → WasTagged inner kept (first ∷ requests) key position request said
here-tagged inner key kept first requests good counted position request said near short t =
    let same = receipt_message-injective position request said (kept.count + 1) first (inner.says kept.inner first) (omega (arith, near))
    (omega (arith, good.few)) (omega (arith, short)) counted t.is in
    record {
      before = 0;
      place = omega (arith, same.positions);
      asked = ap (λ (l : List ℕ). Some l) (sym same.requests);
      told = rw (same.positions, same.requests, same.outputs)
          (ap (λ (l : List ℕ). Some l) (tagged-said inner key kept first t.room t.keyed));
    }

later-tagged : (inner : Meaning) (key : List ℕ) (kept : ReceiptState) (first : List ℕ) (requests : List (List ℕ)) (position : ℕ)
    (request said : List ℕ) → position ≤ last_position
    → Counts kept (outcome_of inner kept first).0 → WasTagged inner (outcome_of inner kept first).0 requests key position request said
    → WasTagged inner kept (first ∷ requests) key position request said
later-tagged inner key kept first requests position request said near (inl up) w =
    record { before = suc w.before; place = omega (arith, w.place, up); asked = w.asked; told = w.told }
later-tagged inner key kept first requests position request said near (inr full) w = absurd (omega (arith, w.place, full.1, near))

was-tagged : (inner : Meaning) (key : List ℕ) (kept : ReceiptState) (requests : List (List ℕ)) → IsKept kept
    → AllByRecursion IsCounted requests
    → (position : ℕ) (request said : List ℕ) → position ≤ last_position → length request ≤ longest_request
    → IsTagged inner key kept requests (receipt_message position request said) → WasTagged inner kept requests key position request said
was-tagged inner key kept [] good counted position request said near short t = absurd t
was-tagged inner key kept (first ∷ requests) good counted position request said near short (inl t) =
    here-tagged inner key kept first requests good counted.0 position request said near short t
was-tagged inner key kept (first ∷ requests) good counted position request said near short (inr t) =
    later-tagged inner key kept first requests position request said near (counts-by inner kept first)
    (was-tagged inner key (outcome_of inner kept first).0 requests (outcome_of-IsKept inner kept first good) counted.1 position request said
    near short t)

pub receipts-true : ReceiptsAreTrue
receipts-true inner requests counted key position request output u =
    let said = drop 65 output in
    let w = was-tagged inner key (first_receipt_state inner) requests (record { few = omega arith; keyed = tt }) counted position
    request said u.near
    u.short u.tagged in
    record {
      before = w.before;
      place = omega (arith, w.place);
      asked = w.asked;
      said =
          rw (outputs-same inner (first_receipt_state inner) requests (record { few = omega arith; keyed = tt }))
          (w.told ∙ ap (λ (l : List ℕ). Some l) (sym (accepted-receipt key position request output u.accepted)));
    }

pub no-clash : ReceiptsDoNotClash
no-clash inner requests counted key position request output other said u v =
    let w = receipts-true inner requests counted key position request output u in
    let z = receipts-true inner requests counted key position other said v in
    let outputs = outputs_from (receipted_module inner) (receipted_module inner).first requests in
    let same : w.before ≡ z.before = omega (arith, w.place, z.place) in
    let asked = w.asked in let again = z.asked in let said_one = w.said in let said_two = z.said in
    (cc, cc)

-- What the code reads of a state.

-- too few bytes have no digits and a space
pub parts_of-short : (output : List ℕ) → length output < 64 → receipt_parts output ≡ None
parts_of-short output short =
    let none : drop 64 output ≡ [] = drop_of_length-le output {i = 64} (omega (arith, short)) in
    ap (λ (l : List ℕ). parts_by (take 64 output) l) none

pub spelled-then : (inner : Meaning) (bytes : List ℕ) (answer : Bool) (kept : ReceiptState) → are_bytes bytes ≡ true → is_front bytes ≡ true
    → answer ≡ inner.is_spelled kept.inner → kept ≡ receipt_state_in bytes → answer ≡ is_state inner bytes
unfolding is_state
spelled-then inner bytes answer kept all front is read = rw (is, read, all, front) refl

pub spelled-else : (inner : Meaning) (bytes : List ℕ) → are_bytes bytes ≡ true → is_front bytes ≡ false → is_state inner bytes ≡ false
unfolding is_state
spelled-else inner bytes all front = rw (all, front) refl

spelled-at : (inner : Meaning) (bytes : List ℕ) → IsTrue (is_state inner bytes) → SpellsKept inner bytes
spelled-at inner bytes is = SpellsKept-from inner bytes (is-true (is_state inner bytes) is)

-- a spelled state has its front
pub long-at : (inner : Meaning) (bytes : List ℕ) → IsTrue (is_state inner bytes) → 41 ≤ length bytes
long-at inner bytes is = (spelled-at inner bytes is).long

-- where the count isn't the last, there is room for one more
pub room-at : (inner : Meaning) (bytes : List ℕ) (kept : ReceiptState) → IsTrue (is_state inner bytes) → kept ≡ receipt_state_in bytes
    → kept.count ≢ last_position → kept.count < last_position
room-at inner bytes kept is read other =
    let few : kept.count ≤ last_position = subst (λ (k : ReceiptState). k.count ≤ last_position) (sym read)
    (kept_of-IsKept inner bytes (spelled-at inner bytes is)).few in
    omega (arith, few, other)

-- the state inside is spelled
pub inside-at : (inner : Meaning) (bytes : List ℕ) (kept : ReceiptState) → IsTrue (is_state inner bytes) → kept ≡ receipt_state_in bytes
    → IsTrue (inner.is_spelled kept.inner)
inside-at inner bytes kept is read =
    subst (λ (k : ReceiptState). IsTrue (inner.is_spelled k.inner)) (sym read)
    (let e = (spelled-at inner bytes is).spelled in search (rules, e))
