-- A ticket is read exactly where its bytes are spelled.
use Rattle.mm_move.proofs.Below.{◌≡◌, ℕ, ◌+◌, ◌-◌, ◌≤◌, ◌<◌, ◌++◌, ◌&&◌, Bool, true, false, List, [], ◌∷◌, length, take, drop, Result, Ok}
use Rattle.mm_move.proofs.Below.{Err, refl, sym, ap, ◌∙◌, subst, arith, length-append, length-drop, append_assoc, ◌==◌, nat_le, slice_index}
use Rattle.mm_move.proofs.Below.{slice_range, if◌then◌else◌, bytes_eq, take-append-drop, last_position, limit_of, Digest, Variant}
use Rattle.mm_move.proofs.Below.{variant_byte, PartsFault, Form, Kind, Content, IsContent, IsPlace, variant_of, part, digest_at, number_at}
use Rattle.mm_move.proofs.Below.{variant_in, summary_in, place_at, IsAtAnchor, TicketContent, IsTicket, signed_bytes, TaggedTicket}
use Rattle.mm_move.proofs.Below.{IsTagged, ticket_spelling, is_for, is_spelled_by, SpellsTicket, TicketsAreRead}
use Rattle.std.specs.Int.{w64, from_be_bytes, to_be_bytes}
use Rattle.std.proofs.lemmas.List.Folds.{drop_split}
use Rattle.std.proofs.lemmas.Nat.{from_be_bytes-to_be_bytes_8}
use Rattle.mm_bytes.specs.Limits.{eight_bytes, four_bytes}
use Rattle.mm_bytes.specs.DecimalLaws.{length-eight_bytes, length-four_bytes}
use Rattle.mm_digest.specs.declared.variant.Variant.TheVariants as variants
use Rattle.mm_digest.specs.Messages.{zero_bytes}
use Rattle.mm_seal.specs.declared.snapshot.Place.{Place}
use Rattle.mm_seal.specs.declared.snapshot.Place.TheVariants.{Basic, Opt}
use Rattle.mm_seal.specs.Parts.{is_bounded, is_same_variant}
use Rattle.mm_move.specs.Tickets.{ticket_front, tagged_ticket_in, ticket_by, ticket_of, IsBounded}
use Rattle.mm_move.proofs.CellLaws.{take_front, drop_front, drop_past, length-part, both_true, and_parts, is_false, le_is, le_tells, eq_is}
use Rattle.mm_move.proofs.CellLaws.{eq_tells, bytes_tell, bytes_are, variant_back}

pub length-zero_bytes : length zero_bytes ≡ 32
unfolding zero_bytes
length-zero_bytes = refl

pub at_anchor : (v : Variant) (d : Digest) → IsAtAnchor (place_at v d)
at_anchor variants.Basic d = refl
at_anchor variants.Opt d = refl

pub place_formed : (v : Variant) (d : Digest) → length d.bytes ≡ 32 → IsPlace (place_at v d)
place_formed variants.Basic d h = h
place_formed variants.Opt d h = (h, length-zero_bytes)

summary_formed : (place : Place) → IsPlace place → length (summary_in place).bytes ≡ 32
summary_formed (Basic summary) is = is
summary_formed (Opt anchor extension) is = is.0

pub length-front : (t : TicketContent) → length t.nonce ≡ 32 → length (summary_in t.content.place).bytes ≡ 32 → length (ticket_front t) ≡ 82
unfolding ticket_front
length-front t n s =
    simp length-append (omega (arith, n, s, length-eight_bytes t.content.position, length-four_bytes (length t.content.state)))

-- bytes are a front of 82 bytes, what stands before the tag, and the tag
in_three : (bytes : List ℕ) → 114 ≤ length bytes
    → (take 82 bytes ++ slice_range bytes 82 (length bytes - 32)) ++ drop (length bytes - 32) bytes ≡ bytes
in_three bytes h =
    let rest = drop_split bytes 82 (length bytes - 32) (omega arith) in
    append_assoc (take 82 bytes) (slice_range bytes 82 (length bytes - 32)) (drop (length bytes - 32) bytes)
    ∙ ap (λ (x : List ℕ). take 82 bytes ++ x) (sym rest) ∙ take-append-drop 82 bytes

-- the fields that the bytes may have are whole
record AreWhole (tagged : TaggedTicket) : Type 0 where
  pub nonce : length tagged.ticket.nonce ≡ 32
  pub place : IsPlace tagged.ticket.content.place
  pub anchor : IsAtAnchor tagged.ticket.content.place
  pub tag : length tagged.tag ≡ 32

same_test : (r x : Bool) → (r ≡ true → x ≡ true) → (x ≡ true → r ≡ true) → r ≡ x
same_test true x f g = sym (f refl)
same_test false true f g = g refl
same_test false false f g = refl

module _ (bytes : List ℕ) where
  whole : 114 ≤ length bytes → AreWhole (tagged_ticket_in bytes)
  unfolding tagged_ticket_in
  whole h = record {
    nonce = length-part 6 bytes (omega arith);
    place = place_formed (variant_in bytes) (digest_at 38 bytes) (length-part 38 bytes (omega arith));
    anchor = at_anchor (variant_in bytes) (digest_at 38 bytes);
    tag = omega (arith, length-drop (length bytes - 32) bytes);
  }

  -- they spell the ticket exactly where its front stands in front
  spelled_by_front : 114 ≤ length bytes → bytes_eq (take 82 bytes) (ticket_front (tagged_ticket_in bytes).ticket) ≡ bytes_eq
      (ticket_spelling (tagged_ticket_in bytes)) bytes
  unfolding tagged_ticket_in
  spelled_by_front h =
      let tagged : TaggedTicket = tagged_ticket_in bytes in let w = whole h in
      let front : List ℕ = ticket_front tagged.ticket in
      let size : length front ≡ 82 = length-front tagged.ticket w.nonce (summary_formed tagged.ticket.content.place w.place) in
      same_test (bytes_eq (take 82 bytes) front) (bytes_eq (ticket_spelling tagged) bytes) (λ e. bytes_are (ticket_spelling tagged) bytes
      (ap (λ (x : List ℕ). (x ++ tagged.ticket.content.state) ++ tagged.tag) (sym (bytes_tell (take 82 bytes) front e)) ∙ in_three bytes h))
      (λ e. bytes_are (take 82 bytes) front (ap (take 82) (sym (bytes_tell (ticket_spelling tagged) bytes e) ∙ append_assoc front
      tagged.ticket.content.state tagged.tag) ∙ take_front 82 front (tagged.ticket.content.state ++ tagged.tag) size))

  pub front_tells : (front : List ℕ) (t : TicketContent) (r : Bool) → 114 ≤ length bytes → t ≡ (tagged_ticket_in bytes).ticket
      → front ≡ take 82 bytes → r ≡ bytes_eq front (ticket_front t) → is_bounded t.content ≡ true
      → r ≡ is_spelled_by bytes (tagged_ticket_in bytes)
  front_tells front t r h e f is bounded =
      let tagged : TaggedTicket = tagged_ticket_in bytes in
      let inside : is_bounded tagged.ticket.content ≡ true = ap (λ (x : TicketContent). is_bounded x.content) (sym e) ∙ bounded in
      let here : r ≡ bytes_eq (ticket_spelling tagged) bytes = is ∙ ap (λ (x : List ℕ). bytes_eq x (ticket_front t)) f
      ∙ ap (λ (x : TicketContent). bytes_eq (take 82 bytes) (ticket_front x)) e ∙ spelled_by_front h in
      here ∙ sym (ap (λ (b : Bool). b && bytes_eq (ticket_spelling tagged) bytes)
      (both_true (nat_le 114 (length bytes)) (is_bounded tagged.ticket.content) (le_is 114 (length bytes) h) inside))

  pub unbounded : (t : TicketContent) → 114 ≤ length bytes → t ≡ (tagged_ticket_in bytes).ticket → is_bounded t.content ≡ false
      → false ≡ is_spelled_by bytes (tagged_ticket_in bytes)
  unbounded t h e bounded =
      let tagged : TaggedTicket = tagged_ticket_in bytes in
      let outside : is_bounded tagged.ticket.content ≡ false = ap (λ (x : TicketContent). is_bounded x.content) (sym e) ∙ bounded in
      sym (ap (λ (b : Bool). nat_le 114 (length bytes) && b && bytes_eq (ticket_spelling tagged) bytes) outside
      ∙ ap (λ (b : Bool). b && false && bytes_eq (ticket_spelling tagged) bytes) (le_is 114 (length bytes) h))

  -- what a spelling test that holds has found
  record IsFound (tagged : TaggedTicket) : Type 0 where
    pub long : 114 ≤ length bytes
    pub position : tagged.ticket.content.position ≤ last_position
    pub state : length tagged.ticket.content.state ≤ limit_of tagged.ticket.content.id
    pub spelled : ticket_spelling tagged ≡ bytes

  is_found : (tagged : TaggedTicket) → is_spelled_by bytes tagged ≡ true → IsFound tagged
  is_found tagged e =
      let content : Content = tagged.ticket.content in
      let parts = and_parts (nat_le 114 (length bytes) && is_bounded content) (bytes_eq (ticket_spelling tagged) bytes) e in
      let long = and_parts (nat_le 114 (length bytes)) (is_bounded content) parts.0 in
      let bounds = and_parts (nat_le content.position last_position) (nat_le (length content.state) (limit_of content.id)) long.1 in
      record {
        long = le_tells 114 (length bytes) long.0;
        position = le_tells content.position last_position bounds.0;
        state = le_tells (length content.state) (limit_of content.id) bounds.1;
        spelled = bytes_tell (ticket_spelling tagged) bytes parts.1;
      }

  -- what is signed stands before the tag
  pub signed_in : is_spelled_by bytes (tagged_ticket_in bytes) ≡ true → take (length bytes - 32) bytes
      ≡ signed_bytes (tagged_ticket_in bytes).ticket
  signed_in e =
      let tagged : TaggedTicket = tagged_ticket_in bytes in let f = is_found tagged e in let w = whole f.long in
      let signed : List ℕ = signed_bytes tagged.ticket in
      let size : length signed ≡ length bytes - 32 = omega (arith, ap length f.spelled, length-append signed tagged.tag, w.tag) in
      ap (take (length bytes - 32)) (sym f.spelled) ∙ take_front (length bytes - 32) signed tagged.tag size

  pub tag_in : (tagged_ticket_in bytes).tag ≡ drop (length bytes - 32) bytes
  unfolding tagged_ticket_in
  tag_in = refl

-- two tagged tickets of the same parts
pub same_tagged : (t : TaggedTicket) (ticket : TicketContent) (tag : List ℕ) → ticket ≡ t.ticket → tag ≡ t.tag
    → record { ticket = ticket; tag = tag } ≡ t
same_tagged t ticket tag e f = λ i. record { ticket = e i; tag = f i }

variant_tells : (v w : Variant) → is_same_variant v w ≡ true → v ≡ w
variant_tells variants.Basic variants.Opt e = cc
variant_tells variants.Opt variants.Basic e = cc
variant_tells _ _ e = refl

read_by : (spelled kind : Bool) (one tagged : TaggedTicket) → (if spelled then (if kind then Ok one else Err Kind) else Err Form)
    ≡ Ok tagged → (spelled ≡ true) × (kind ≡ true) × (one ≡ tagged)
read_by true true one tagged e = (refl, refl, cc)
read_by _ _ one tagged e = cc

ticket_tells : (variant : Variant) (id : ℕ) (bytes : List ℕ) (tagged : TaggedTicket) → ticket_of variant id bytes ≡ Ok tagged
    → (is_spelled_by bytes (tagged_ticket_in bytes) ≡ true) × (is_for variant id (tagged_ticket_in bytes) ≡ true)
    × (tagged_ticket_in bytes ≡ tagged)
unfolding ticket_of
ticket_tells variant id bytes tagged e =
    read_by (is_spelled_by bytes (tagged_ticket_in bytes)) (is_for variant id (tagged_ticket_in bytes)) (tagged_ticket_in bytes) tagged e

-- what is read is spelled
pub ticket_spells : (variant : Variant) (id : ℕ) (bytes : List ℕ) (tagged : TaggedTicket) → ticket_of variant id bytes ≡ Ok tagged
    → SpellsTicket variant id bytes tagged
ticket_spells variant id bytes tagged e =
    let t = ticket_tells variant id bytes tagged e in let found : TaggedTicket = tagged_ticket_in bytes in
    let f = is_found bytes found t.0 in let w = whole bytes f.long in
    let kinds = and_parts (is_same_variant (variant_of found.ticket.content.place) variant) (found.ticket.content.id == id) t.1 in
    subst (λ (x : TaggedTicket). SpellsTicket variant id bytes x) t.2 (record {
      is = record {
        ticket = record { nonce = w.nonce; content = record { place = w.place; position = f.position; state = f.state }; place = w.anchor };
        tag = w.tag;
      };
      bytes_are = sym f.spelled;
      variant_is = variant_tells (variant_of found.ticket.content.place) variant kinds.0;
      id_is = eq_tells found.ticket.content.id id kinds.1;
    })

-- a ticket's bytes, field by field
head_of : TicketContent → List ℕ → List ℕ
head_of t rest = 0x4d ∷ 0x4d ∷ 0x54 ∷ 0x31 ∷ variant_byte (variant_of t.content.place) ∷ t.content.id ∷ rest

behind_summary : TaggedTicket → List ℕ
behind_summary x =
    eight_bytes x.ticket.content.position ++ (four_bytes (length x.ticket.content.state) ++ (x.ticket.content.state ++ x.tag))

spelled_fields : TaggedTicket → List ℕ
spelled_fields x = head_of x.ticket (x.ticket.nonce ++ ((summary_in x.ticket.content.place).bytes ++ behind_summary x))

in_fields : (x : TaggedTicket) → ticket_spelling x ≡ spelled_fields x
unfolding ticket_front spelled_fields head_of behind_summary
in_fields x = simp append_assoc

position_read : (n : ℕ) (rest : List ℕ) → n ≤ last_position → from_be_bytes w64 (take 8 (eight_bytes n ++ rest)) ≡ n
unfolding eight_bytes
position_read n rest h =
    ap (from_be_bytes w64) (take_front 8 (to_be_bytes w64 n) rest (length-eight_bytes n)) ∙ from_be_bytes-to_be_bytes_8 n (omega arith)

-- what stands at the fields' places
record HasFields (x : TaggedTicket) (bytes : List ℕ) : Type 0 where
  pub long : 114 ≤ length bytes
  pub variant : variant_in bytes ≡ variant_of x.ticket.content.place
  pub id : slice_index bytes 5 ≡ x.ticket.content.id
  pub nonce : part 6 bytes ≡ x.ticket.nonce
  pub summary : part 38 bytes ≡ (summary_in x.ticket.content.place).bytes
  pub position : number_at 70 bytes ≡ x.ticket.content.position
  pub state : slice_range bytes 82 (length bytes - 32) ≡ x.ticket.content.state
  pub tag : drop (length bytes - 32) bytes ≡ x.tag

module _ (x : TaggedTicket) where
  has_fields : IsTagged x → HasFields x (spelled_fields x)
  unfolding spelled_fields head_of behind_summary
  has_fields is =
      let nonce : List ℕ = x.ticket.nonce in let summary : List ℕ = (summary_in x.ticket.content.place).bytes in
      let state : List ℕ = x.ticket.content.state in let eight : List ℕ = eight_bytes x.ticket.content.position in
      let four : List ℕ = four_bytes (length state) in let behind : List ℕ = eight ++ (four ++ (state ++ x.tag)) in
      let rest : List ℕ = nonce ++ (summary ++ behind) in let bytes : List ℕ = head_of x.ticket rest in
      let ln : length nonce ≡ 32 = is.ticket.nonce in
      let ls : length summary ≡ 32 = summary_formed x.ticket.content.place is.ticket.content.place in
      let l8 : length eight ≡ 8 = length-eight_bytes x.ticket.content.position in
      let l4 : length four ≡ 4 = length-four_bytes (length state) in
      let all : length bytes ≡ 114 + length state = simp length-append (omega (arith, ln, ls, l8, l4, is.tag)) in
      let at_summary : drop 32 rest ≡ summary ++ behind = drop_front 32 nonce (summary ++ behind) ln in
      let at_position : drop 64 rest ≡ behind = drop_past 32 32 nonce (summary ++ behind) ln ∙ drop_front 32 summary behind ls in
      let past : (n : ℕ) → drop (6 + (32 + (32 + (8 + (4 + n))))) bytes ≡ drop n (state ++ x.tag) =
      λ n. drop_past 6 (32 + (32 + (8 + (4 + n)))) (head_of x.ticket []) rest refl
      ∙ drop_past 32 (32 + (8 + (4 + n))) nonce (summary ++ behind) ln ∙ drop_past 32 (8 + (4 + n)) summary behind ls
      ∙ drop_past 8 (4 + n) eight (four ++ (state ++ x.tag)) l8 ∙ drop_past 4 n four (state ++ x.tag) l4 in
      let at_state : drop 82 bytes ≡ state ++ x.tag = past 0 in
      let n : length bytes - 32 - 82 ≡ length state = omega (arith, all) in
      let m : length bytes - 32 ≡ 6 + (32 + (32 + (8 + (4 + length state)))) = omega (arith, all) in
      record {
        long = omega (arith, all);
        variant = variant_back (variant_of x.ticket.content.place);
        id = refl;
        nonce = take_front 32 nonce (summary ++ behind) ln;
        summary = ap (take 32) at_summary ∙ take_front 32 summary behind ls;
        position = ap (λ (b : List ℕ). from_be_bytes w64 (take 8 b)) at_position
            ∙ position_read x.ticket.content.position (four ++ (state ++ x.tag)) is.ticket.content.position;
        state = ap (take (length bytes - 32 - 82)) at_state ∙ take_front (length bytes - 32 - 82) state x.tag (sym n);
        tag = ap (λ (k : ℕ). drop k bytes) m ∙ past (length state) ∙ drop_front (length state) state x.tag refl;
      }

  fields_back : (bytes : List ℕ) → IsTagged x → HasFields x bytes → tagged_ticket_in bytes ≡ x
  unfolding tagged_ticket_in
  fields_back bytes is h =
      let place : Place = x.ticket.content.place in
      let at : place_at (variant_in bytes) (digest_at 38 bytes) ≡ place = ap (λ (v : Variant). place_at v (digest_at 38 bytes)) h.variant
      ∙ ap (λ (d : List ℕ). place_at (variant_of place) (record { bytes = d })) h.summary ∙ sym is.ticket.place in
      λ i. record {
        ticket = record { nonce = h.nonce i; content = record { id = h.id i; place = at i; position = h.position i; state = h.state i } };
        tag = h.tag i;
      }

-- a spelled ticket is read
pub ticket_back : (variant : Variant) (id : ℕ) (bytes : List ℕ) (tagged : TaggedTicket) → SpellsTicket variant id bytes tagged
    → ticket_of variant id bytes ≡ Ok tagged
unfolding ticket_of
ticket_back variant id bytes tagged s =
    let content : Content = tagged.ticket.content in
    let h : HasFields tagged bytes =
    subst (λ (b : List ℕ). HasFields tagged b) (sym (s.bytes_are ∙ in_fields tagged)) (has_fields tagged s.is) in
    let spelled : is_spelled_by bytes tagged ≡ true = both_true (nat_le 114 (length bytes) && is_bounded content)
    (bytes_eq (ticket_spelling tagged) bytes) (both_true (nat_le 114 (length bytes)) (is_bounded content) (le_is 114 (length bytes) h.long)
    (both_true (nat_le content.position last_position) (nat_le (length content.state) (limit_of content.id)) (le_is content.position
    last_position s.is.ticket.content.position) (le_is (length content.state) (limit_of content.id) s.is.ticket.content.state)))
    (bytes_are (ticket_spelling tagged) bytes (sym s.bytes_are)) in
    let kind : is_for variant id tagged ≡ true = both_true (is_same_variant (variant_of content.place) variant) (content.id == id)
    (eq_is (variant_byte (variant_of content.place)) (variant_byte variant) (ap variant_byte s.variant_is)) (eq_is content.id id s.id_is) in
    ap (ticket_by variant id bytes) (fields_back tagged bytes s.is h) ∙ ap (λ (b : Bool). if b then (if is_for variant id tagged then Ok
    tagged else Err Kind) else Err Form) spelled ∙ ap (λ (b : Bool). if b then Ok tagged else Err Kind) kind

pub tickets_are_read : TicketsAreRead
tickets_are_read variant id bytes tagged = (ticket_spells variant id bytes tagged, ticket_back variant id bytes tagged)

-- what is read is within its bounds
pub ticket_bounded : (variant : Variant) (id : ℕ) (bytes : List ℕ) (tagged : TaggedTicket) (content : Content)
    → Ok tagged ≡ ticket_of variant id bytes → content ≡ tagged.ticket.content → IsBounded variant content
ticket_bounded variant id bytes tagged content e is =
    let s = ticket_spells variant id bytes tagged (sym e) in
    subst (λ (x : Content). IsBounded variant x) (sym is) (record {
      variant_is = s.variant_is;
      position = s.is.ticket.content.position;
      state = s.is.ticket.content.state;
    })
