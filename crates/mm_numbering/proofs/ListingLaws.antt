-- What one more digest changes, and the numbers in code after it. With it: the messages listed,
-- once one more is.
use Rattle.std.specs.BTreeMap as tree
use Rattle.std.specs.Map.{lookup}
use Rattle.std.proofs.Common.{subst}
use Rattle.std.proofs.lemmas.List.{take_all, take_more}
use Rattle.std.proofs.lemmas.Option.{slice_get_within, get_or_from_slice_get}
use Rattle.mm_numbering.specs.declared.digests.DigestIndex.{DigestIndex}
use Rattle.mm_numbering.specs.declared.messages.Numbers.{Numbers}
use Rattle.mm_numbering.proofs.Below.{◌≡◌, ◌∙◌, ℕ, ◌+◌, ◌≤◌, Bool, true, false, cond, List, [], ◌∷◌, ◌++◌, length, Option, None, Some, refl}
use Rattle.mm_numbering.proofs.Below.{sym, ap, arith, length-append, option_map, bytes_eq, nat_tests, nat_list_eq_equiv, bytes_eq-Decides}
use Rattle.mm_numbering.proofs.Below.{slice_cmp, nat_cmp, is_eq, is_eq-slice_cmp, number_of_first, pair_plus_one, shared_pair_with}
use Rattle.mm_numbering.proofs.Below.{shared_pair_in, is_zero, zero_number_in, lower_pair, first_number_of, pair_of, CountsDigests}
use Rattle.mm_numbering.proofs.Below.{AddsDigest, AddsIfFirst, number_at, zero, suc, take, ◌||◌, map-append, slice_get, list_any}
use Rattle.mm_numbering.proofs.Below.{list_any-append, sha256, messages_with, message_digests, ListsMessages}

more_here : (found : Option ℕ) (here : Bool) (last next : ℕ) → last + 1 ≡ next
    → option_map (λ n. n + 1) (first_number_of found here last) ≡ first_number_of (option_map (λ n. n + 1) found) here next
more_here (Some n) here last next e = refl
more_here None true last next e = ap Some e
more_here None false last next e = refl

first_one : (here : Bool) → (let o : Option ℕ = cond here (Some 1) (option_map (λ n. n + 1) None) in o ≡ first_number_of None here (0 + 1))
first_one true = refl
first_one false = refl

first_pass : {A : Type 0} (p : A → Bool) (y : A) (pass : Bool) (xs : List A) (x : A)
    → number_of_first p (xs ++ x ∷ []) ≡ first_number_of (number_of_first p xs) (p x) (length xs + 1)
    → (let o : Option ℕ = cond pass (Some 1) (option_map (λ n. n + 1) (number_of_first p (xs ++ x ∷ []))) in
    let w : Option ℕ = cond pass (Some 1) (option_map (λ n. n + 1) (number_of_first p xs)) in
    o ≡ first_number_of w (p x) (length (y ∷ xs) + 1))
first_pass p y true xs x e = refl
first_pass p y false xs x e =
    ap (option_map (λ n. n + 1)) e ∙ more_here (number_of_first p xs) (p x) (length xs + 1) (length (y ∷ xs) + 1) (omega arith)

pub number_of_first-push : {A : Type 0} (p : A → Bool) (xs : List A) (x : A)
    → number_of_first p (xs ++ x ∷ []) ≡ first_number_of (number_of_first p xs) (p x) (length xs + 1)
number_of_first-push p [] x = first_one (p x)
number_of_first-push p (y ∷ xs) x = first_pass p y (p y) xs x (number_of_first-push p xs x)

-- the pair after a digest whose first has this number, if there is one
abbrev lower_if : Option (ℕ × ℕ) → Option ℕ → ℕ → Option (ℕ × ℕ)
lower_if pair None last = pair
lower_if pair (Some n) last = lower_pair pair n last

-- the first of a pair is a number from 1 on
abbrev FromOne : Option (ℕ × ℕ) → Type 0
FromOne None = Unit {0}
FromOne (Some pair) = 1 ≤ pair.0

from_one_more : (pair : Option (ℕ × ℕ)) → FromOne (option_map pair_plus_one pair)
from_one_more None = tt
from_one_more (Some pair) = omega arith

shared_pair_with-from_one : (found : Option ℕ) (later : Option (ℕ × ℕ)) → FromOne (shared_pair_with found later)
shared_pair_with-from_one (Some n) later = omega arith
shared_pair_with-from_one None later = from_one_more later

shared_pair_in-from_one : (ds : List (List ℕ)) → FromOne (shared_pair_in ds)
shared_pair_in-from_one [] = tt
shared_pair_in-from_one (d ∷ ds) = shared_pair_with-from_one (number_of_first (bytes_eq d) ds) (shared_pair_in ds)

-- the first digest comes again already, or now, or it doesn't
shared_step : (found : Option ℕ) (s : Option (ℕ × ℕ)) (x : Option ℕ) (here : Bool) (last next : ℕ) → FromOne s → last + 1 ≡ next
    → shared_pair_with (first_number_of found here last) (lower_if s x last) ≡ lower_if (shared_pair_with found s)
    (cond here (Some 1) (option_map (λ k. k + 1) x)) next
shared_step (Some n) s x true last next h e = refl
shared_step (Some n) s None false last next h e = refl
shared_step (Some n) s (Some k) false last next h e = grind (arith, nat_tests)
shared_step None None x true last next h e = ap (λ (n : ℕ). Some (1, n)) e
shared_step None (Some a) x true last next h e = grind (arith, nat_tests)
shared_step None s None false last next h e = refl
shared_step None None (Some m) false last next h e = ap (λ (n : ℕ). Some (m + 1, n)) e
shared_step None (Some a) (Some m) false last next h e = grind (arith, nat_tests)

shared_pair_in-push : (ds : List (List ℕ)) (x : List ℕ)
    → shared_pair_in (ds ++ x ∷ []) ≡ lower_if (shared_pair_in ds) (number_of_first (bytes_eq x) ds) (length ds + 1)
shared_pair_in-push [] x = refl
shared_pair_in-push (d ∷ ds) x =
    let found = number_of_first-push (bytes_eq d) ds x
    ∙ ap (λ (b : Bool). first_number_of (number_of_first (bytes_eq d) ds) b (length ds + 1)) (nat_list_eq_equiv.symm d x) in
    ap (λ (o : Option ℕ). shared_pair_with o (shared_pair_in (ds ++ x ∷ []))) found
    ∙ ap (shared_pair_with (first_number_of (number_of_first (bytes_eq d) ds) (bytes_eq x d) (length ds + 1))) (shared_pair_in-push ds x)
    ∙ shared_step (number_of_first (bytes_eq d) ds) (shared_pair_in ds) (number_of_first (bytes_eq x) ds) (bytes_eq x d) (length ds + 1)
    (length (d ∷ ds) + 1) (shared_pair_in-from_one ds) (omega arith)

-- the look-ups after one more digest: of one that has come before, and of a new one

abbrev Finds : (List ℕ → Option ℕ) → List (List ℕ) → Type 0
Finds f ds = (d : List ℕ) → f d ≡ number_of_first (bytes_eq d) ds

known_by : (found : Option ℕ) (same : Bool) (last n : ℕ) → (same ≡ true → found ≡ Some n) → found ≡ first_number_of found same last
known_by None true last n h = let clash : None ≡ Some n = h refl in absurd (cc)
known_by None false last n h = refl
known_by (Some k) same last n h = refl

finds-known : (f : List ℕ → Option ℕ) (ds : List (List ℕ)) (x : List ℕ) (n : ℕ) → Finds f ds → f x ≡ Some n → Finds f (ds ++ x ∷ [])
finds-known f ds x n h is d = h d ∙ known_by (number_of_first (bytes_eq d) ds) (bytes_eq d x) (length ds + 1) n
    (λ t. sym (h d) ∙ ap f ((bytes_eq-Decides d x).0 t) ∙ is) ∙ sym (number_of_first-push (bytes_eq d) ds x)

new_by : (found : Option ℕ) (same : Bool) (last : ℕ) → (same ≡ true → found ≡ None)
    → cond same (Some last) found ≡ first_number_of found same last
new_by (Some k) true last h = let clash : Some k ≡ None = h refl in absurd (cc)
new_by (Some k) false last h = refl
new_by None true last h = refl
new_by None false last h = refl

finds-new : (f g : List ℕ → Option ℕ) (ds : List (List ℕ)) (x : List ℕ) → Finds f ds → f x ≡ None
    → ((d : List ℕ) → g d ≡ cond (bytes_eq d x) (Some (length ds + 1)) (f d)) → Finds g (ds ++ x ∷ [])
finds-new f g ds x h is goes d = goes d ∙ ap (cond (bytes_eq d x) (Some (length ds + 1))) (h d)
    ∙ new_by (number_of_first (bytes_eq d) ds) (bytes_eq d x) (length ds + 1) (λ t. sym (h d) ∙ ap f ((bytes_eq-Decides d x).0 t) ∙ is)
    ∙ sym (number_of_first-push (bytes_eq d) ds x)

-- the pair, by what is found of the new one
shared_by : (f : List ℕ → Option ℕ) (ds : List (List ℕ)) (x : List ℕ) (found : Option ℕ) → Finds f ds → f x ≡ found
    → shared_pair_in (ds ++ x ∷ []) ≡ lower_if (shared_pair_in ds) found (length ds + 1)
shared_by f ds x found h is =
    shared_pair_in-push ds x ∙ ap (λ (o : Option ℕ). lower_if (shared_pair_in ds) o (length ds + 1)) (sym (h x) ∙ is)

-- the numbers in code after one more digest

one_longer : (ds : List (List ℕ)) (x : List ℕ) (n : ℕ) → n ≡ length ds → n + 1 ≡ length (ds ++ x ∷ [])
one_longer ds x n e = omega (arith, length-append ds (x ∷ []))

zero_goes : (ds : List (List ℕ)) (old new : DigestIndex) (x : List ℕ) → CountsDigests ds old → AddsDigest x old new
    → new.zero ≡ zero_number_in (ds ++ x ∷ [])
zero_goes ds old new x h a =
    a.zero ∙ (λ j. first_number_of (h.zero j) (is_zero x) (h.count j + 1)) ∙ sym (number_of_first-push is_zero ds x)

pub counts-known : (ds : List (List ℕ)) (old new : DigestIndex) (x : List ℕ) (n : ℕ) → CountsDigests ds old → AddsDigest x old new
    → number_at old x ≡ Some n → new.firsts ≡ old.firsts → pair_of new.shared ≡ lower_pair (pair_of old.shared) n (old.count + 1)
    → CountsDigests (ds ++ x ∷ []) new
counts-known ds old new x n h a found same shared = record {
  firsts = λ (d : List ℕ). ap (λ m. tree.get (slice_cmp nat_cmp) m d) same ∙ finds-known (number_at old) ds x n h.firsts found d;
  count = a.count ∙ one_longer ds x old.count h.count;
  shared = shared ∙ (λ j. lower_pair (h.shared j) n (h.count j + 1))
      ∙ sym (shared_by (number_at old) ds x (Some n) h.firsts found);
  zero = zero_goes ds old new x h a;
}

pub counts-first : (ds : List (List ℕ)) (old new : DigestIndex) (x : List ℕ) → CountsDigests ds old → AddsIfFirst x None old new
    → CountsDigests (ds ++ x ∷ []) new
counts-first ds old new x h a = record {
  firsts = finds-new (number_at old) (number_at new) ds x h.firsts (sym a.found) (λ (d : List ℕ).
      a.firsts d ∙ ap (λ b. cond b (Some (old.count + 1)) (number_at old d)) (is_eq-slice_cmp x d ∙ nat_list_eq_equiv.symm x d)
      ∙ ap (λ (n : ℕ). cond (bytes_eq d x) (Some (n + 1)) (number_at old d)) h.count);
  count = (a.adds refl).count ∙ one_longer ds x old.count h.count;
  shared = ap pair_of a.shared ∙ h.shared ∙ sym (shared_by (number_at old) ds x None h.firsts (sym a.found));
  zero = zero_goes ds old new x h (a.adds refl);
}

pub adds_same : (x y : List ℕ) (first other : Option ℕ) (old new : DigestIndex) → x ≡ y → first ≡ other → AddsIfFirst x first old new
    → AddsIfFirst y other old new
adds_same x y first other old new same is adds =
    subst (λ (z : List ℕ). AddsIfFirst z other old new) same (subst (λ (o : Option ℕ). AddsIfFirst x o old new) is adds)

-- where a digest has come before, nothing changes

same_by : (found : Option ℕ) (same : Bool) (n : ℕ) → (same ≡ true → found ≡ Some n) → cond same (Some n) found ≡ found
same_by found true n h = sym (h refl)
same_by found false n h = refl

pub finds-still : (old new : DigestIndex) (x : List ℕ) (n : ℕ) → AddsIfFirst x (Some n) old new → (d : List ℕ)
    → number_at new d ≡ number_at old d
finds-still old new x n a d =
    a.firsts d ∙ same_by (number_at old d) (is_eq (slice_cmp nat_cmp x d)) n
    (λ same. ap (number_at old) ((bytes_eq-Decides d x).0 (sym (is_eq-slice_cmp x d ∙ nat_list_eq_equiv.symm x d) ∙ same)) ∙ sym a.found)

pub counts-still : (ds : List (List ℕ)) (old new : DigestIndex) (x : List ℕ) (n : ℕ) → CountsDigests ds old → AddsIfFirst x (Some n) old new
    → CountsDigests ds new
counts-still ds old new x n h a = record {
  firsts = λ (d : List ℕ). finds-still old new x n a d ∙ h.firsts d;
  count = (a.stays refl).0 ∙ h.count;
  shared = ap pair_of a.shared ∙ h.shared;
  zero = (a.stays refl).1 ∙ h.zero;
}

-- the same entries have the same at each digest, also at one that is found
pub stays_at : (olds news : List (List ℕ × ℕ)) (x : List ℕ) (n : ℕ) → Some n ≡ lookup (tree.is_at (slice_cmp nat_cmp x)) olds → news ≡ olds
    → (d : List ℕ) → lookup (tree.is_at (slice_cmp nat_cmp d)) news
    ≡ cond (is_eq (slice_cmp nat_cmp x d)) (Some n) (lookup (tree.is_at (slice_cmp nat_cmp d)) olds)
stays_at olds news x n found same d =
    ap (lookup (tree.is_at (slice_cmp nat_cmp d))) same
    ∙ sym (same_by (lookup (tree.is_at (slice_cmp nat_cmp d)) olds) (is_eq (slice_cmp nat_cmp x d)) n
    (λ is. ap (λ (y : List ℕ). lookup (tree.is_at (slice_cmp nat_cmp y)) olds)
    ((bytes_eq-Decides d x).0 (sym (is_eq-slice_cmp x d ∙ nat_list_eq_equiv.symm x d) ∙ is)) ∙ sym found))

-- The messages listed, once one more is.

with_known : (seen : List (List ℕ)) (m : List ℕ) → list_any (bytes_eq m) seen ≡ true → seen ≡ messages_with seen m
with_known seen m e = rw e refl

with_new : (seen : List (List ℕ)) (m : List ℕ) → list_any (bytes_eq m) seen ≡ false → seen ++ m ∷ [] ≡ messages_with seen m
with_new seen m e = rw e refl

-- messages of different digests are different
unlike : (m x : List ℕ) (here : Bool) → bytes_eq m x ≡ here → bytes_eq (sha256 m) (sha256 x) ≡ false → here ≡ false
unlike m x true same e =
    let clash : true ≡ false = sym ((bytes_eq-Decides (sha256 m) (sha256 x)).1 (ap sha256 ((bytes_eq-Decides m x).0 same))) ∙ e in
    absurd (cc)
unlike m x false same e = refl

none_here : (here : Bool) (later : Option ℕ) → cond here (Some 1) (option_map (λ n. n + 1) later) ≡ None → (here ≡ false) × (later ≡ None)
none_here true later e = absurd (cc)
none_here false None e = (refl, refl)
none_here false (Some n) e = absurd (cc)

-- a message is new whose digest none has
pub unlisted : (seen : List (List ℕ)) (m : List ℕ) → number_of_first (bytes_eq (sha256 m)) (message_digests seen) ≡ None
    → list_any (bytes_eq m) seen ≡ false
unlisted [] m e = refl
unlisted (x ∷ seen) m e =
    let none = none_here (bytes_eq (sha256 m) (sha256 x)) (number_of_first (bytes_eq (sha256 m)) (message_digests seen)) e in
    (λ j. unlike m x (bytes_eq m x) refl none.0 j || unlisted seen m none.1 j)

or_true : (b : Bool) → (b || true) ≡ true
or_true true = refl
or_true false = refl

-- one that stands among them is listed
pub listed_at : (seen : List (List ℕ)) (m x : List ℕ) (i : ℕ) → slice_get seen i ≡ Some x → bytes_eq m x ≡ true
    → list_any (bytes_eq m) seen ≡ true
listed_at [] m x i at same = absurd (cc)
listed_at (y ∷ seen) m x zero at same =
    let here : y ≡ x = cc in ap (λ (z : List ℕ). bytes_eq m z || list_any (bytes_eq m) seen) here
    ∙ ap (λ b. b || list_any (bytes_eq m) seen) same
listed_at (y ∷ seen) m x (suc i) at same = ap (λ b. bytes_eq m y || b) (listed_at seen m x i at same) ∙ or_true (bytes_eq m y)

-- the messages stay, or one more is listed
module _ (seen : List (List ℕ)) (old new : Numbers) (m : List ℕ) (h : ListsMessages seen old) where
  texts_with : new.texts ≡ old.texts ++ m ∷ [] → new.texts ≡ seen ++ m ∷ []
  texts_with more = more ∙ ap (λ (l : List (List ℕ)). l ++ m ∷ []) h.texts

  pub lists-first : AddsIfFirst (sha256 m) None old.digests new.digests → new.texts ≡ old.texts ++ m ∷ []
      → ListsMessages (messages_with seen m) new
  lists-first adds more =
      rw (← with_new seen m (unlisted seen m (sym (h.counts.firsts (sha256 m)) ∙ sym adds.found))) (record {
        texts = texts_with more;
        counts = rw (map-append sha256 seen (m ∷ []))
            (counts-first (message_digests seen) old.digests new.digests (sha256 m) h.counts adds);
      })

  module _ (number : ℕ) (adds : AddsIfFirst (sha256 m) (Some number) old.digests new.digests) (same : new.texts ≡ old.texts) where
    pub lists-still : ListsMessages seen new
    lists-still = record {
      texts = same ∙ h.texts;
      counts = counts-still (message_digests seen) old.digests new.digests (sha256 m) number h.counts adds;
    }

    pub lists-known : list_any (bytes_eq m) old.texts ≡ true → ListsMessages (messages_with seen m) new
    lists-known is = rw (← with_known seen m (ap (list_any (bytes_eq m)) (sym h.texts) ∙ is)) lists-still

  pub lists-shared : (number : ℕ) → number_at old.digests (sha256 m) ≡ Some number → list_any (bytes_eq m) old.texts ≡ false
      → new.texts ≡ old.texts ++ m ∷ [] → AddsDigest (sha256 m) old.digests new.digests → new.digests.firsts ≡ old.digests.firsts
      → pair_of new.digests.shared ≡ lower_pair (pair_of old.digests.shared) number (old.digests.count + 1)
      → ListsMessages (messages_with seen m) new
  lists-shared number first unlisted more adds firsts shared =
      rw (← with_new seen m (ap (list_any (bytes_eq m)) (sym h.texts) ∙ unlisted)) (record {
        texts = texts_with more;
        counts = rw (map-append sha256 seen (m ∷ []))
            (counts-known (message_digests seen) old.digests new.digests (sha256 m) number h.counts adds first firsts shared);
      })

-- none of the first ones has these bytes, and the next hasn't
pub none_more : (m : List ℕ) (xs : List (List ℕ)) (i : ℕ) (x : List ℕ) → list_any (bytes_eq m) (take i xs) ≡ false → slice_get xs i ≡ Some x
    → bytes_eq m x ≡ false → list_any (bytes_eq m) (take (i + 1) xs) ≡ false
none_more m xs i x none at other =
    ap (list_any (bytes_eq m)) (take_more xs i x (slice_get_within xs i x at)
    ∙ ap (λ (y : List ℕ). take i xs ++ y ∷ []) (get_or_from_slice_get xs i x x at))
    ∙ list_any-append (bytes_eq m) (take i xs) (x ∷ []) ∙ (λ j. none j || (other j || false))

pub none_at_all : (m : List ℕ) (xs : List (List ℕ)) (i : ℕ) → list_any (bytes_eq m) (take i xs) ≡ false → length xs ≤ i
    → false ≡ list_any (bytes_eq m) xs
none_at_all m xs i none over = sym (ap (list_any (bytes_eq m)) (sym (take_all i xs over)) ∙ none)
