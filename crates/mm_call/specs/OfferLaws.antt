-- What a right offer says, and the snapshot of the last position. With it: Basic: moves keep the
-- agreement of a history and its digests; Opt: what counts of the moves of a call is what the
-- register shows, and so is asked of that; the order in which an offer is refused.
use Rattle.std.specs.List.{AllByRecursion, Contains}
use Rattle.std.specs.Option.{option_map}
use Rattle.std.specs.Prelude.{if◌then◌else◌}
use Rattle.std.specs.Str.{bytes_eq}
use Rattle.std.proofs.Common.{refl, sym, ap, ◌∙◌, subst, ◌≡◌, ℕ, ◌≤◌, ◌&&◌, Bool, true, false, List, ◌++◌, Option, None, Some, Result, Ok}
use Rattle.std.proofs.Common.{Err, append_assoc, [], ◌∷◌}
use Rattle.std.proofs.lemmas.List.{append-nil}
use Rattle.std.proofs.lemmas.Slice.Eq.{bytes_eq-Decides}
use Rattle.mm_seal.specs.Snapshot.{sealed_snapshot_of}
pub use Rattle.mm_model.specs.ListLaws.{anchor-nil, summary-nil}
use Rattle.mm_call.specs.Below.{last_position, length-zero_bytes, Opt, parts_of, spells_read, sealed_once, Content, Snapshot, IsContent}
use Rattle.mm_call.specs.Below.{IsPlace, snapshot_front, tag_of, PartsFault, Batch, Meaning, IsLawful, state_after, state_after-is_spelled}
use Rattle.mm_call.specs.Below.{length-anchor_of, length-register_of, length-summary_of, History, requests_of, total_of, Instance}
use Rattle.mm_call.specs.Below.{basic_instance, opt_instance, AreMessagesIn, content_of_issue, issued_place, IsRight, issued_bytes}
use Rattle.mm_call.specs.Below.{start_digest_of, Variant, Basic, basic_digests, Move, Commit, Foreign, Close, Power, history_after_commit}
use Rattle.mm_call.specs.Below.{history_after, Digests, digests_of, digests_after, MayMove, Item, Refusal, Verdict, Fresh, Again}
use Rattle.mm_call.specs.CallFinding.{content_if_right, list_level, digest_level, state_after_moves, DigestsAgree, check_of_verdict}
use Rattle.mm_call.specs.CallFinding.{check_by_tests, IsAccepted}
use Rattle.mm_call.specs.CallPremises.{right_messages, IsPlain, counted_part, counted_moves, messages_of_moves, foreign_move_values}
use Rattle.mm_call.specs.CallPremises.{IsAsked, AreAsked, standing_items, IsTied, MovesAreTied, shows, nothing}
use Rattle.mm_call.specs.Standing.{items_after_moves}

-- an offer whose state is the module's and whose tag is right is a right offer
pub is_right : (i : Instance) (bytes : List ℕ) (snapshot : Snapshot) → parts_of i.variant i.meaning.id bytes ≡ Ok snapshot
    → i.meaning.is_spelled snapshot.content.state ≡ true → bytes_eq snapshot.tag (tag_of i.key snapshot.content) ≡ true
    → IsRight i bytes snapshot.content
unfolding sealed_snapshot_of
is_right i bytes snapshot e state tagged =
    let s = spells_read i.variant i.meaning.id bytes snapshot e in
    let tag : snapshot.tag ≡ tag_of i.key snapshot.content = (bytes_eq-Decides snapshot.tag (tag_of i.key snapshot.content)).0 tagged in
    record {
      formed = s.0.0.content;
      sealed = s.0.1 ∙ ap (λ t. snapshot_front snapshot.content ++ t) tag;
      variant = s.1.0;
      id = s.1.1;
      state = state;
    }

-- so it is looked at as a right one
pub right_is : (i : Instance) (parts : Result Snapshot PartsFault) (snapshot : Snapshot) → parts ≡ Ok snapshot
    → i.meaning.is_spelled snapshot.content.state ≡ true → bytes_eq snapshot.tag (tag_of i.key snapshot.content) ≡ true
    → content_if_right i parts ≡ Some snapshot.content
right_is i parts snapshot e state tagged = rw (e, state, tagged) refl

said_if : (s t : Bool) (x content : Content) → (if s && t then Some x else None) ≡ Some content
    → (s ≡ true) × (t ≡ true) × (x ≡ content)
said_if true true x content e = (refl, refl, cc)
said_if _ _ x content e = absurd (cc)

-- an offer that is looked at as a right one is right
pub right_of : (i : Instance) (offer : List ℕ) (parts : Result Snapshot PartsFault) → parts_of i.variant i.meaning.id offer ≡ parts
    → (content : Content) → content_if_right i parts ≡ Some content → IsRight i offer content
right_of i offer (Err fault) e content is = absurd (cc)
right_of i offer (Ok snapshot) e content is =
    let a = said_if (i.meaning.is_spelled snapshot.content.state) (bytes_eq snapshot.tag (tag_of i.key snapshot.content)) snapshot.content
    content is in
    subst (λ (x : Content). IsRight i offer x) a.2 (is_right i offer snapshot e a.0 a.1)

pub listed_by : (i : Instance) (y : History) (b : Batch) (all : List (List ℕ)) (seen : Option Content)
    → ((content : Content) → seen ≡ Some content → AreMessagesIn (right_messages i b (Some content)) all)
    → AreMessagesIn (right_messages i b seen) all
listed_by i y b all None h = tt
listed_by i y b all (Some content) h = h content refl

-- an offer says one thing
pub one_content : (i : Instance) (offer : List ℕ) (x y : Content) → IsRight i offer x → IsRight i offer y → x ≡ y
one_content i offer x y a b = sealed_once i.key i.key x y a.formed b.formed (sym a.sealed ∙ b.sealed)

-- The snapshot of the last position is one, and an offer of its bytes says it.

issued_by : (i : Instance) → IsLawful i.meaning → (y : History) → total_of y.batches ≤ last_position
    → IsPlace (issued_place i.variant y.is_open i y) → IsContent (content_of_issue i y)
issued_by i lawful y fits place = record {
  place = place;
  position = fits;
  state = lawful.fits (state_after i.meaning (requests_of y.batches)) (state_after-is_spelled i.meaning lawful (requests_of y.batches));
}

pub basic_content : (meaning : Meaning) → IsLawful meaning → (key : List ℕ) (y : History) → total_of y.batches ≤ last_position
    → IsContent (content_of_issue (basic_instance meaning key) y)
basic_content meaning lawful key y fits = issued_by (basic_instance meaning key) lawful y fits (length-summary_of meaning.id y.batches)

issued_sized : (flag : Bool) (meaning : Meaning) (key barrier : List ℕ) (y : History)
    → IsPlace (issued_place Opt flag (opt_instance meaning key barrier) y)
issued_sized true meaning key barrier y = (length-anchor_of meaning.id _, length-register_of _)
issued_sized false meaning key barrier y = (length-anchor_of meaning.id _, length-zero_bytes)

pub opt_content : (meaning : Meaning) → IsLawful meaning → (key barrier : List ℕ) (y : History) → total_of y.batches ≤ last_position
    → IsContent (content_of_issue (opt_instance meaning key barrier) y)
opt_content meaning lawful key barrier y fits =
    issued_by (opt_instance meaning key barrier) lawful y fits (issued_sized y.is_open meaning key barrier y)

pub issued_once : (i : Instance) (offer : List ℕ) (y : History) (content : Content) → IsContent (content_of_issue i y)
    → offer ≡ issued_bytes i y
    → IsRight i offer content → content_of_issue i y ≡ content
issued_once i offer y content is e right = sealed_once i.key i.key (content_of_issue i y) content is right.formed (sym e ∙ right.sealed)

-- Basic: moves keep the agreement of a history and its digests. And the batches that moves commit, in each variant.

-- the moves of Basic
abbrev pub IsBasicMove : Move → Type 0
IsBasicMove (Commit b) = Unit {0}
IsBasicMove (Foreign v) = Unit {0}
IsBasicMove Power = Unit {0}
IsBasicMove _ = ⊥

may_move : (meaning : Meaning) (key : List ℕ) (y : History) (m : Move) → IsBasicMove m → MayMove (basic_instance meaning key) y m
may_move meaning key y (Commit b) is = is
may_move meaning key y _ is = is

pub agrees-moved : (meaning : Meaning) (key : List ℕ) (y : History) (d : Digests) (m : Move) → IsBasicMove m
    → DigestsAgree (basic_instance meaning key) y d → DigestsAgree (basic_instance meaning key)
    (history_after (basic_instance meaning key) y m) (digests_after (basic_instance meaning key) d m)
agrees-moved meaning key y d m is a =
    let i = basic_instance meaning key in
    let before : d ≡ digests_of i y = λ j. record { digest = a.digest j; flag = a.flag j; register = a.register j; count = a.count j } in
    subst (DigestsAgree i (history_after i y m)) (basic_digests meaning key y m (may_move meaning key y m is)
    ∙ ap (λ x. digests_after i x m) (sym before))
    (record { digest = refl; flag = refl; register = refl; count = refl })

pub plain-moved : (meaning : Meaning) (key : List ℕ) (y : History) (m : Move) → IsBasicMove m → IsPlain y
    → IsPlain (history_after (basic_instance meaning key) y m)
plain-moved meaning key y Close is p = absurd is
plain-moved meaning key y _ is p = record { closed = p.closed; shut = p.shut }

pub agrees-made : (meaning : Meaning) (key : List ℕ) (moves : List Move) (y : History) (d : Digests) → AllByRecursion IsBasicMove moves
    → DigestsAgree (basic_instance meaning key) y d → DigestsAgree (basic_instance meaning key)
    (state_after_moves (list_level (basic_instance meaning key)) y moves)
    (state_after_moves (digest_level (basic_instance meaning key)) d moves)
agrees-made meaning key [] y d is a = a
agrees-made meaning key (m ∷ moves) y d is a =
    agrees-made meaning key moves (history_after (basic_instance meaning key) y m) (digests_after (basic_instance meaning key) d m) is.1
    (agrees-moved meaning key y d m is.0 a)

pub plain-made : (meaning : Meaning) (key : List ℕ) (moves : List Move) (y : History) → AllByRecursion IsBasicMove moves → IsPlain y
    → IsPlain (state_after_moves (list_level (basic_instance meaning key)) y moves)
plain-made meaning key [] y is p = p
plain-made meaning key (m ∷ moves) y is p =
    plain-made meaning key moves (history_after (basic_instance meaning key) y m) is.1 (plain-moved meaning key y m is.0 p)

-- the batches that moves commit
abbrev pub committed_batches : List Move → List Batch
committed_batches [] = []
committed_batches (Commit b ∷ moves) = b ∷ committed_batches moves
committed_batches (_ ∷ moves) = committed_batches moves

-- what a commit adds, in each variant
pub commit_adds : (variant : Variant) (is_open : Bool) (y : History) (b : Batch)
    → (history_after_commit variant is_open y b).batches ≡ y.batches ++ b ∷ []
commit_adds Opt true y b = refl
commit_adds _ _ y b = refl

pub batches-made : (i : Instance) (moves : List Move) (y : History) → (state_after_moves (list_level i) y moves).batches
    ≡ y.batches ++ committed_batches moves
batches-made i [] y = sym (append-nil y.batches)
batches-made i (Commit b ∷ moves) y =
    batches-made i moves (history_after i y (Commit b)) ∙ ap (λ v. v ++ committed_batches moves) (commit_adds i.variant y.is_open y b)
    ∙ append_assoc y.batches (b ∷ []) (committed_batches moves)
batches-made i (m ∷ moves) y = batches-made i moves (history_after i y m)

-- moves that commit nothing, and moves that commit a batch
pub same_batches : (i : Instance) (moves : List Move) (y : History) → committed_batches moves ≡ []
    → (state_after_moves (list_level i) y moves).batches ≡ y.batches
same_batches i moves y none = batches-made i moves y ∙ ap (λ v. y.batches ++ v) none ∙ append-nil y.batches

pub more_batches : (i : Instance) (moves : List Move) (y : History) (b : Batch) → committed_batches moves ≡ b ∷ []
    → (state_after_moves (list_level i) y moves).batches ≡ y.batches ++ b ∷ []
more_batches i moves y b one = batches-made i moves y ∙ ap (λ v. y.batches ++ v) one

-- Opt: what counts of the moves of a call is what the register shows, and so is asked of that.

pub same_rest : (front more other : List Item) → front ++ more ≡ front ++ other → more ≡ other
same_rest [] more other e = e
same_rest (item ∷ front) more other e = same_rest front more other (cc)

pub shown_same : (items : Option (List Item)) (f : List Item → List Item) (xs front more other : List Item) → items ≡ Some xs
    → f xs ≡ front ++ other → option_map f items ≡ Some (front ++ more) → other ≡ more
shown_same None f xs front more other e g h = cc
shown_same (Some ys) f xs front more other e g h =
    let same : ys ≡ xs = cc in
    let there : f ys ≡ front ++ more = cc in
    same_rest front other more (sym g ∙ ap f (sym same) ∙ there)

pub asked_by : (i : Instance) (all others : List (List ℕ)) (asked : List Batch) (y : History) (moves : List Move) (offer : List ℕ)
    (b : Batch) → AreAsked all others asked i y offer b
    → AreMessagesIn (messages_of_moves i (counted_part y) (counted_moves y.is_open moves)) all
    → AllByRecursion (Contains others) (foreign_move_values (counted_moves y.is_open moves)) → IsAsked all others asked i y moves offer b
asked_by i all others asked y moves offer b a messages values = record {
  clear = a.clear;
  apart = a.apart;
  within = a.within;
  is_asked = a.is_asked;
  genuine = a.genuine;
  offered = a.offered;
  messages = messages;
  values = values;
}

-- What counts of a call's moves is these items more.
pub record MovesCount (i : Instance) (y : History) (d : Digests) (moves : List Move) : Type 0 where
  pub more : List Item
  pub tied : IsTied i y moves more
  pub are : (items : List Item) → items_after_moves i d moves items ≡ standing_items y.is_open items ++ more

pub counts_open : (i : Instance) (y : History) (d : Digests) (moves : List Move) → y.is_open ≡ true → MovesAreTied i y d moves
    → MovesCount i y d moves
counts_open i y d moves e (shows more tied are) = record { more = more; tied = tied; are = are }
counts_open i y d moves e (nothing is) =
    let empty : moves ≡ [] = ap (λ (f : Bool). counted_moves f moves) (sym e) ∙ is in
    record {
      more = [];
      tied = record { messages = ap (messages_of_moves i (counted_part y)) is; values = ap foreign_move_values is };
      are = λ items. ap (λ (ms : List Move). items_after_moves i d ms items) empty ∙ sym (append-nil items)
          ∙ ap (λ (f : Bool). standing_items f items ++ []) (sym e);
    }

-- The order in which an offer is refused: when it is accepted.

-- the verdict counts only for a rightly sealed offer of a spelled state
pub weighed_alike : (s t : Bool) (v w : Verdict) (fits : Bool) → (s ≡ true → t ≡ true → v ≡ w) → check_by_tests s t v fits
    ≡ check_by_tests s t w fits
weighed_alike true true v w fits h = ap (λ (x : Verdict). check_of_verdict x fits) (h refl refl)
weighed_alike _ _ v w fits h = refl

-- the verdict that accepts
abbrev pub verdict_of_acceptance : Bool → Verdict
verdict_of_acceptance true = Again
verdict_of_acceptance false = Fresh

pub record IsAdmitted (s t : Bool) (v : Verdict) (fits again : Bool) : Type 0 where
  pub spelled : s ≡ true
  pub tagged : t ≡ true
  pub verdict : v ≡ verdict_of_acceptance again
  pub fitting : fits ≡ true

admitted_only : (v : Verdict) (fits again : Bool) → check_of_verdict v fits ≡ Ok again → IsAdmitted true true v fits again
admitted_only Fresh true false e = record { spelled = refl; tagged = refl; verdict = refl; fitting = refl }
admitted_only Again true true e = record { spelled = refl; tagged = refl; verdict = refl; fitting = refl }
admitted_only _ _ again e = cc

pub weighed_only : (s t : Bool) (v : Verdict) (fits again : Bool) → check_by_tests s t v fits ≡ Ok again → IsAdmitted s t v fits again
weighed_only true true v fits again e = admitted_only v fits again e
weighed_only _ _ v fits again e = cc

-- the offer, taken apart
abbrev pub offered_snapshot : List ℕ → Content → Snapshot
offered_snapshot key content = record { content = content; tag = tag_of key content }

-- an accepted offer gives something
pub record IsGiven (e : Result Bool Refusal) : Type 0 where
  pub again : Bool
  pub is : e ≡ Ok again

admits : (v : Verdict) → IsAccepted v → IsGiven (check_of_verdict v true)
admits Fresh a = record { again = false; is = refl }
admits Again a = record { again = true; is = refl }
admits _ a = absurd a

pub weighs : (s t fits : Bool) (v : Verdict) → s ≡ true → t ≡ true → fits ≡ true → IsAccepted v → IsGiven (check_by_tests s t v fits)
weighs s t fits v p q r a = rw (p, q, r) (admits v a)
