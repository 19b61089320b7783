-- Opt: what the tests of the verdict by digests say of lists of values. With it: an answer that was
-- run from a spelled state, with positions left for it, is fit; a batch that isn't too long has at
-- most 64 requests, each of them a line; corollaries of the verdicts.
use Rattle.std.specs.Bool.{Decides}
use Rattle.std.specs.List.{AllByRecursion, Contains, list_any, slice_get, join_with_byte}
use Rattle.std.specs.Prelude.{All, nat_lt, nat_eq}
use Rattle.std.specs.Str.{bytes_eq}
use Rattle.std.proofs.Common.{◌≡◌, ◌++◌, refl, ap, ◌∙◌, ℕ, Bool, true, false, List, [], ◌∷◌, ◌+◌, ◌≤◌, length, IsTrue, arith, length-append}
use Rattle.std.proofs.Common.{◌≢◌, ◌||◌, sym, append_assoc, subst, Some, zero, suc, ◌&&◌, inl, inr}
use Rattle.std.proofs.lemmas.Bool.{or_parts}
use Rattle.std.proofs.lemmas.Bool.Decides.{Decides-and, nat_tests}
use Rattle.std.proofs.lemmas.List.{append-nil}
use Rattle.std.proofs.lemmas.List.Elements.{All-nil, All-cons, All-from_recursion, recursion_from_All, All-contains_itself}
use Rattle.std.proofs.lemmas.List.Folds.{list_any-append}
use Rattle.mm_seal.specs.Snapshot.{sealed_snapshot_of}
use Rattle.mm_model.specs.Below.{zero_bytes, start_message, start_digest_of, extended_message, extended_digest_of, anchored_message}
use Rattle.mm_model.specs.Below.{anchored_digest_of, Opt, last_position, limit_of, length-hmac_of, Variant, Basic, place_length, Content}
use Rattle.mm_model.specs.Below.{IsPlace, IsContent, variant_of, snapshot_front, length-snapshot_front, Place, Batch, members_of, size_of}
use Rattle.mm_model.specs.Below.{size_of-pos, Meaning, IsLine, IsLawful, outputs_from, state_from, length-outputs_from}
use Rattle.mm_model.specs.Below.{state_from-is_spelled, longest_request, most_members, batch_text, text_of-members_of}
use Rattle.mm_model.specs.Chains.{trail, closing_message, register_of, anchor_of, link_message, summary_of, Instance, basic_instance}
use Rattle.mm_model.specs.History.{History, Commit, first_history, history_after, total_of}
use Rattle.mm_model.specs.ListLaws.{each_append, trail_push, bytes_decide, same_registers, same_anchors, register_nonzero, register-push}
use Rattle.mm_model.specs.ListLaws.{anchor-push, each_left, each_right}
use Rattle.mm_model.specs.Messages.{AreMessagesIn, IsClear, register_trail, form_messages, IsClearFor, AreNoGuards, history_messages}
use Rattle.mm_model.specs.Messages.{offer_messages, values_in, counted_entries}
use Rattle.mm_model.specs.Moves.{IsFit, is_long, is_lf, IsOutside}
use Rattle.mm_model.specs.SegmentLaws.{IsFreshPath, IsAgainPath}
use Rattle.mm_model.specs.Standing.{Life, life_of, IsSound}
use Rattle.mm_model.specs.Verdicts.{Point, is_fresh_form, is_repeat_form, is_last, verdict_on, verdict_by_tests}

-- all messages of these segments and of these values after them are listed
pub record HasListedMessages (id : ℕ) (all : List (List ℕ)) (segments : List (List (List ℕ))) (values : List (List ℕ)) : Type 0 where
  pub inner : AllByRecursion (λ vs. AreMessagesIn (register_trail vs) all) segments
  pub outer : AreMessagesIn (trail closing_message (start_digest_of Opt id) segments) all
  pub last : AreMessagesIn (register_trail values) all

-- a list of messages that is clear and holds the start message
pub record IsClearFromStart (id : ℕ) (all : List (List ℕ)) : Type 0 where
  pub clear : IsClear all
  pub starts : Contains all (start_message Opt id)

abbrev pub point_of : ℕ → List (List (List ℕ)) → List (List ℕ) → Point
point_of id segments values = record { anchor = anchor_of id segments; extension = register_of values }

pub same_anchor : (id : ℕ) (all : List (List ℕ)) → IsClearFromStart id all → (ls ks : List (List (List ℕ))) (vs ws : List (List ℕ))
    → HasListedMessages id all ls vs → HasListedMessages id all ks ws → Decides (bytes_eq (anchor_of id ls) (anchor_of id ks)) (ls ≡ ks)
same_anchor id all clears ls ks vs ws l k =
    bytes_decide _ _ (same_anchors id all clears.clear clears.starts ls ks l.inner k.inner l.outer k.outer) (ap (anchor_of id))

-- what a register reads before every value is zero
pub reads_zero : register_of [] ≡ zero_bytes
unfolding register_of
reads_zero = refl

module _ (all : List (List ℕ)) where
  pub same_register : IsClear all → (vs ws : List (List ℕ)) → AreMessagesIn (register_trail vs) all → AreMessagesIn (register_trail ws) all
      → Decides (bytes_eq (register_of vs) (register_of ws)) (vs ≡ ws)
  same_register clear vs ws l k = bytes_decide _ _ (same_registers all clear vs ws l k) (ap register_of)

  pub zero_register : IsClear all → (vs : List (List ℕ)) → AreMessagesIn (register_trail vs) all
      → Decides (bytes_eq (register_of vs) zero_bytes)
      (vs ≡ [])
  zero_register clear vs l = bytes_decide _ _ (register_nonzero all clear vs l) (λ e. ap register_of e ∙ reads_zero)

-- the register's messages with one more value
pub listed_value : (all : List (List ℕ)) (rest : List (List ℕ)) (v : List ℕ) → AreMessagesIn (register_trail rest) all
    → Contains all (extended_message (register_of rest) v) → AreMessagesIn (register_trail (rest ++ v ∷ [])) all
unfolding register_of
listed_value all rest v l c = trail_push extended_message zero_bytes rest v all l c

module _ (id : ℕ) (all : List (List ℕ)) where
  pub fresh_tells : IsClearFromStart id all → (flag : Bool) (closed : List (List (List ℕ))) (items : List (List ℕ))
      (before : List (List (List ℕ)))
      (rest : List (List ℕ)) → HasListedMessages id all closed items → HasListedMessages id all before rest
      → Decides (is_fresh_form flag (anchor_of id closed) (register_of items) (point_of id before rest))
      (IsFreshPath flag closed items before rest)
  fresh_tells clears true closed items before rest k l =
      Decides-and (bytes_eq (anchor_of id before) (anchor_of id closed)) (bytes_eq (register_of rest) (register_of items))
      (same_anchor id all clears before closed rest items l k) (same_register all clears.clear rest items l.last k.last)
  fresh_tells clears false closed items before rest k l =
      Decides-and (bytes_eq (anchor_of id before) (anchor_of id closed)) (bytes_eq (register_of rest) zero_bytes)
      (same_anchor id all clears before closed rest items l k) (zero_register all clears.clear rest l.last)

  -- the messages with the values closed into one more segment
  pub listed_segment : (before : List (List (List ℕ))) (values : List (List ℕ))
      → AllByRecursion (λ vs. AreMessagesIn (register_trail vs) all)
      before → AreMessagesIn (trail closing_message (start_digest_of Opt id) before) all → AreMessagesIn (register_trail values) all
      → Contains all (anchored_message (anchor_of id before) (register_of values)) → HasListedMessages id all (before ++ values ∷ []) []
  unfolding register_of anchor_of
  listed_segment before values inner outer last c = record {
    inner = each_append (λ vs. AreMessagesIn (register_trail vs) all) before (values ∷ []) inner (last, tt);
    outer = trail_push closing_message (start_digest_of Opt id) before values all outer c;
    last = tt;
  }

  pub again_tells : IsClearFromStart id all → (flag : Bool) (closed : List (List (List ℕ))) (items : List (List ℕ)) (v : List ℕ)
      (before : List (List (List ℕ))) (rest : List (List ℕ)) → HasListedMessages id all closed items → HasListedMessages id all before rest
      → AreMessagesIn (form_messages (anchor_of id before) (register_of rest) v) all
      → Decides (is_repeat_form flag (anchor_of id closed) (register_of items) v (point_of id before rest))
      (IsAgainPath flag closed items v before
      rest)
  again_tells clears true closed items v before rest k l m =
      let longer = listed_value all rest v l.last m.0 in
      Decides-and (bytes_eq (anchor_of id before) (anchor_of id closed))
      (bytes_eq (extended_digest_of (register_of rest) v) (register_of items))
      (same_anchor id all clears before closed rest items l k)
      (rw (register-push rest v) at (same_register all clears.clear (rest ++ v ∷ []) items longer k.last))
  again_tells clears false closed items v before rest k l m =
      let longer = listed_value all rest v l.last m.0 in
      let called : Contains all (anchored_message (anchor_of id before) (register_of (rest ++ v ∷ []))) =
      rw (register-push rest v) m.1.0 in
      let closes = listed_segment before (rest ++ v ∷ []) l.inner l.outer longer called in
      let is : anchor_of id (before ++ (rest ++ v ∷ []) ∷ []) ≡ anchored_digest_of (anchor_of id before)
      (extended_digest_of (register_of rest) v) =
      anchor-push id before (rest ++ v ∷ []) ∙ ap (anchored_digest_of (anchor_of id before)) (register-push rest v) in
      rw is at (same_anchor id all clears (before ++ (rest ++ v ∷ []) ∷ []) closed [] items closes k)

-- An answer that was run from a spelled state, with positions left for it, is fit.

lines_from : (meaning : Meaning) → IsLawful meaning → (state : List ℕ) (requests : List (List ℕ)) → IsTrue (meaning.is_spelled state)
    → All IsLine (outputs_from meaning state requests)
lines_from meaning lawful state [] spelled = All-nil IsLine
lines_from meaning lawful state (request ∷ requests) spelled =
    All-cons IsLine (meaning.says state request) (outputs_from meaning (meaning.next state request) requests) (lawful.says_lines state
    request spelled) (lines_from meaning lawful (meaning.next state request) requests (lawful.goes_on state request spelled))

limit_of-most : (id : ℕ) → limit_of id ≤ 1048576
limit_of-most id = grind (arith, nat_tests)

place_length-most : (v : Variant) → place_length v ≤ 64
place_length-most Basic = omega arith
place_length-most Opt = omega arith

sealed_size : (front state place limit tag : ℕ) → front ≡ 18 + place + state → place ≤ 64 → state ≤ limit → limit ≤ 1048576 → tag ≡ 32
    → front + tag ≤ 1048690
sealed_size front state place limit tag e p s l t = omega arith

-- the longest snapshot
pub sealed_snapshot_of-most : (key : List ℕ) (content : Content) → IsContent content → length (sealed_snapshot_of key content) ≤ 1048690
unfolding sealed_snapshot_of
sealed_snapshot_of-most key content is =
    rw length-append (sealed_size (length (snapshot_front content)) (length content.state) (place_length (variant_of content.place))
    (limit_of content.id) _ (length-snapshot_front content is) (place_length-most (variant_of content.place)) is.state
    (limit_of-most content.id) (length-hmac_of key (snapshot_front content)))

-- the answer to a batch that was run from this state
pub is_fit : (meaning : Meaning) → IsLawful meaning → (key state : List ℕ) (position : ℕ) (place : Place) (b : Batch) (again : Bool)
    → IsPlace place → IsTrue (meaning.is_spelled state) → position + size_of b ≤ last_position → IsFit b (record {
      again = again;
      position = position + size_of b;
      outputs = outputs_from meaning state (members_of b);
      snapshot =
          sealed_snapshot_of key (record
          { id = meaning.id; place = place; position = position + size_of b; state = state_from meaning state (members_of b) });
    })
is_fit meaning lawful key state position place b again placed spelled fits = record {
  least = omega (arith, size_of-pos b);
  most = fits;
  counted = length-outputs_from meaning state (members_of b);
  lines = lines_from meaning lawful state (members_of b) spelled;
  snapshot = sealed_snapshot_of-most key _ (record {
    place = placed;
    position = fits;
    state = lawful.fits (state_from meaning state (members_of b)) (state_from-is_spelled meaning lawful state (members_of b) spelled);
  });
}

-- A batch that isn't too long has at most 64 requests, each of them a line.

not_lf : (byte : ℕ) → is_lf byte ≡ false → byte ≢ 10
not_lf byte e = grind (arith, nat_tests)

unbroken : (text : List ℕ) → list_any is_lf text ≡ false → AllByRecursion (λ byte. byte ≢ 10) text
unbroken [] e = tt
unbroken (x ∷ xs) e = let parts = or_parts (is_lf x) (list_any is_lf xs) e in (not_lf x parts.0, unbroken xs parts.1)

short : (n : ℕ) → nat_lt longest_request n ≡ false → n ≤ longest_request
short n e = grind (arith, nat_tests)

-- a piece of a text, with what stands before and behind it
record IsPiece (m text : List ℕ) : Type 0 where
  before : List ℕ
  behind : List ℕ
  is : text ≡ before ++ (m ++ behind)

piece : (pieces : List (List ℕ)) (i : ℕ) (m : List ℕ) → slice_get pieces i ≡ Some m → IsPiece m (join_with_byte 9 pieces)
piece (x ∷ []) zero m e = let s : x ≡ m = cc in record { before = []; behind = []; is = s ∙ sym (append-nil m) }
piece (x ∷ y ∷ xs) zero m e =
    let s : x ≡ m = cc in let rest = 9 ∷ join_with_byte 9 (y ∷ xs) in
    record { before = []; behind = rest; is = ap (λ (v : List ℕ). v ++ rest) s }
piece (x ∷ y ∷ xs) (suc i) m e =
    let p = piece (y ∷ xs) i m e in
    record {
      before = x ++ 9 ∷ p.before;
      behind = p.behind;
      is = ap (λ (v : List ℕ). x ++ 9 ∷ v) p.is ∙ sym (append_assoc x (9 ∷ p.before) (m ++ p.behind));
    }
piece _ _ m e = cc

pub members_are_lines : (b : Batch) → is_long b ≡ false → (i : ℕ) (m : List ℕ) → slice_get (members_of b) i ≡ Some m → IsLine m
members_are_lines b e i m at =
    let p : IsPiece m (batch_text b) = subst (λ (v : List ℕ). IsPiece m v) (text_of-members_of b) (piece (members_of b) i m at) in
    let front = or_parts (nat_lt longest_request (length (batch_text b)) || list_any is_lf (batch_text b))
    (nat_lt most_members (size_of b)) e in
    let parts = or_parts (nat_lt longest_request (length (batch_text b))) (list_any is_lf (batch_text b)) front.0 in
    let s : length (batch_text b) ≤ longest_request = short (length (batch_text b)) parts.0 in
    let none : list_any is_lf (p.before ++ (m ++ p.behind)) ≡ false = ap (list_any is_lf) (sym p.is) ∙ parts.1 in
    let inside = (or_parts (list_any is_lf p.before) (list_any is_lf (m ++ p.behind))
    (sym (list_any-append is_lf p.before (m ++ p.behind)) ∙ none)).1 in
    record {
      short = omega (arith, ap length p.is, length-append p.before (m ++ p.behind), length-append m p.behind, s);
      unbroken = All-from_recursion (λ byte. byte ≢ 10) m
          (unbroken m (or_parts (list_any is_lf m) (list_any is_lf p.behind) (sym (list_any-append is_lf m p.behind) ∙ inside)).0);
    }

-- Corollaries of the verdicts.

-- the verdict where the history has ended
pub ended : (l : Life) (y : History) (p : ℕ) (b : Batch) → life_of Opt y ≡ l
    → verdict_on Opt y p b ≡ verdict_by_tests l (nat_eq p (total_of y.batches)) (nat_eq (p + size_of b) (total_of y.batches)
    && is_last y.batches b)
ended l y p b e =
    ap (λ (k : Life). verdict_by_tests k (nat_eq p (total_of y.batches)) (nat_eq (p + size_of b) (total_of y.batches)
    && is_last y.batches b)) e

within_itself : (ms ns : List (List ℕ)) → AreMessagesIn ms (ms ++ ns) × AreMessagesIn ns (ms ++ ns)
within_itself ms ns =
    let both = recursion_from_All (Contains (ms ++ ns)) (ms ++ ns) (All-contains_itself (ms ++ ns)) in
    (each_left (Contains (ms ++ ns)) ms ns both, each_right (Contains (ms ++ ns)) ms ns both)

-- the messages of a history and a call, as a list of their own
pub clear_alone : (i : Instance) (y : History) (place : Place) (b : Batch) → IsClear (history_messages i y ++ offer_messages i place b)
    → AreNoGuards i.barrier (values_in (counted_entries y)) (b ∷ y.batches)
    → IsClearFor (history_messages i y ++ offer_messages i place b) i y place b
clear_alone i y place b clear foreign =
    let both = within_itself (history_messages i y) (offer_messages i place b) in
    record { clear = clear; history = both.0; call = both.1; foreign = foreign }

pub first_sound : IsSound first_history
first_sound = record {
  open_is = λ e. sym e;
  shut_is = λ _. refl;
  filled = tt;
  history = inl (record { clean = refl; batches = refl });
  register = λ e. inr (inl refl);
}

pub first_outside : (others : List (List ℕ)) → IsOutside others first_history
first_outside others = tt

pub basic_messages : (meaning : Meaning) (key : List ℕ) (y : History) (b : Batch) (all : List (List ℕ))
    → AreMessagesIn (history_messages (basic_instance meaning key) y) all → Contains all (link_message (summary_of meaning.id y.batches) b)
    → AreMessagesIn (history_messages (basic_instance meaning key) (history_after (basic_instance meaning key) y (Commit b))) all
unfolding summary_of
basic_messages meaning key y b all h c = (h.0, trail_push link_message (start_digest_of Basic meaning.id) y.batches b all h.1 c)
