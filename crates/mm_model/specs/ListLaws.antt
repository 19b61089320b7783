-- Lists that grow at the end, and what holds of each item. With it: chains of digests; what equal
-- digests tell of lists, where no two listed messages share a digest and none is zero.
use Rattle.std.specs.Bool.{Decides}
use Rattle.std.specs.List.{AllByRecursion, Contains, fold}
use Rattle.std.specs.Str.{bytes_eq}
use Rattle.std.proofs.Common.{◌≡◌, ◌++◌, refl, sym, ap, subst, ◌⊎◌, inl, inr, append_assoc, arith, List, [], ◌∷◌, ◌≢◌, length, ◌∙◌, ℕ, map}
use Rattle.std.proofs.lemmas.List.{append-nil, append_cancel_left}
use Rattle.std.proofs.lemmas.List.Elements.{Contains-append_right}
use Rattle.std.proofs.lemmas.Slice.Eq.{bytes_eq-Decides}
use Rattle.mm_digest.specs.Messages.{start_digest_of, extended_digest_of, anchored_digest_of}
use Rattle.mm_platform.specs.Standing as platform
use Rattle.mm_model.specs.Below.{length-sha256, sha256, length-zero_bytes, length-start_digest_of, zero_bytes, extended_message, Basic, Opt}
use Rattle.mm_model.specs.Below.{Batch, append-injective, start_message, One, Many}
use Rattle.mm_model.specs.Chains.{digest_after, trail, link, link_message, closing_message, summary_of, anchor_of, register_of}
use Rattle.mm_model.specs.Chains.{guard_message, guard, own_values}
use Rattle.mm_model.specs.Messages.{AreMessagesIn, IsClear, register_trail}

pub record HasLast {A : Type 0} (xs : List A) : Type 0 where
  pub front : List A
  pub last : A
  pub is : xs ≡ front ++ last ∷ []

-- a list is empty or has a last item
pub ends : {A : Type 0} (xs : List A) → (xs ≡ []) ⊎ HasLast xs
ends [] = inl refl
ends (x ∷ xs) = elim (ends xs) [
  | inl e ↦ inr (record { front = []; last = x; is = ap (λ v. x ∷ v) e })
  | inr h ↦ inr (record { front = x ∷ h.front; last = h.last; is = ap (λ v. x ∷ v) h.is })
]

grown : {A : Type 0} (P : List A → Type 0) → ((xs : List A) (x : A) → P xs → P (xs ++ x ∷ [])) → (done rest : List A) → P done
    → P (done ++ rest)
grown P step done [] p = subst P (sym (append-nil done)) p
grown P step done (x ∷ rest) p = subst P (append_assoc done (x ∷ []) rest) (grown P step (done ++ x ∷ []) rest (step done x p))

-- what holds of the empty list, and goes on to one more item at the end, holds of each list
pub by_last : {A : Type 0} (P : List A → Type 0) → P [] → ((xs : List A) (x : A) → P xs → P (xs ++ x ∷ [])) → (xs : List A) → P xs
by_last P none step xs = grown P step [] xs none

pub each_left : {A : Type 0} (P : A → Type 0) (xs ys : List A) → AllByRecursion P (xs ++ ys) → AllByRecursion P xs
each_left P [] ys h = tt
each_left P (x ∷ xs) ys h = (h.0, each_left P xs ys h.1)

pub each_right : {A : Type 0} (P : A → Type 0) (xs ys : List A) → AllByRecursion P (xs ++ ys) → AllByRecursion P ys
each_right P [] ys h = h
each_right P (x ∷ xs) ys h = each_right P xs ys h.1

pub each_append : {A : Type 0} (P : A → Type 0) (xs ys : List A) → AllByRecursion P xs → AllByRecursion P ys → AllByRecursion P (xs ++ ys)
each_append P [] ys h k = k
each_append P (x ∷ xs) ys h k = (h.0, each_append P xs ys h.1 k)

-- each item of a list is one of it
pub each_self : {A : Type 0} (front xs : List A) → AllByRecursion (Contains (front ++ xs)) xs
each_self front [] = tt
each_self front (x ∷ xs) =
    let later : AllByRecursion (Contains (front ++ x ∷ xs)) xs = rw (append_assoc front (x ∷ []) xs) at (each_self (front ++ x ∷ []) xs) in
    (Contains-append_right front (x ∷ xs) x (0, omega arith, refl), later)

-- Chains of digests: one more item, and equal ends of equal lists.

module _ {A : Type 0} (f : List ℕ → A → List ℕ) where
  pub after-append : (s : List ℕ) (xs ys : List A) → digest_after f s (xs ++ ys) ≡ digest_after f (digest_after f s xs) ys
  after-append s [] ys = refl
  after-append s (x ∷ xs) ys = after-append (sha256 (f s x)) xs ys

  pub trail-append : (s : List ℕ) (xs ys : List A) → trail f s (xs ++ ys) ≡ trail f s xs ++ trail f (digest_after f s xs) ys
  trail-append s [] ys = refl
  trail-append s (x ∷ xs) ys = ap (λ v. f s x ∷ v) (trail-append (sha256 (f s x)) xs ys)

  pub length-after : (s : List ℕ) (xs : List A) → length s ≡ 32 → length (digest_after f s xs) ≡ 32
  length-after s [] h = h
  length-after s (x ∷ xs) h = length-after (sha256 (f s x)) xs (length-sha256 (f s x))

pub length-link : (s : List ℕ) (b : Batch) → length (link s b) ≡ 32
unfolding link
length-link s b = length-sha256 (link_message s b)

pub length-summary_of : (id : ℕ) (batches : List Batch) → length (summary_of id batches) ≡ 32
unfolding summary_of
length-summary_of id batches = length-after link_message (start_digest_of Basic id) batches (length-start_digest_of Basic id)

pub length-anchor_of : (id : ℕ) (segments : List (List (List ℕ))) → length (anchor_of id segments) ≡ 32
unfolding anchor_of
length-anchor_of id segments = length-after closing_message (start_digest_of Opt id) segments (length-start_digest_of Opt id)

pub length-register_of : (values : List (List ℕ)) → length (register_of values) ≡ 32
unfolding register_of
length-register_of values = length-after extended_message zero_bytes values length-zero_bytes

-- A chain that tells its items: no listed step leads back to the start, and a message tells the digest before
-- it and its item.
pub record IsTellingChain {A : Type 0} (f : List ℕ → A → List ℕ) (start : List ℕ) (Fine : A → Type 0) (all : List (List ℕ)) : Type 0 where
  pub sized : length start ≡ 32
  pub leaves : (s : List ℕ) (x : A) → Contains all (f s x) → sha256 (f s x) ≢ start
  pub tells : (s t : List ℕ) (x y : A) → length s ≡ 32 → length t ≡ 32 → Fine x → Fine y → f s x ≡ f t y → (s ≡ t) × (x ≡ y)

module _ {A : Type 0} (f : List ℕ → A → List ℕ) (s : List ℕ) where
  pub after-push : (xs : List A) (x : A) → digest_after f s (xs ++ x ∷ []) ≡ sha256 (f (digest_after f s xs) x)
  after-push xs x = after-append f s xs (x ∷ [])

  -- the messages of a chain that grew by one item: those before, and the last
  pub trail_front : (xs ys : List A) (all : List (List ℕ)) → AreMessagesIn (trail f s (xs ++ ys)) all → AreMessagesIn (trail f s xs) all
  trail_front xs ys all w = each_left (Contains all) (trail f s xs) (trail f (digest_after f s xs) ys) (rw (trail-append f s xs ys) at w)

  pub trail_last : (xs : List A) (x : A) (all : List (List ℕ)) → AreMessagesIn (trail f s (xs ++ x ∷ [])) all
      → Contains all (f (digest_after f s xs) x)
  trail_last xs x all w = (each_right (Contains all) (trail f s xs) _ (rw (trail-append f s xs (x ∷ [])) at w)).0

  pub trail_push : (xs : List A) (x : A) (all : List (List ℕ)) → AreMessagesIn (trail f s xs) all → Contains all (f (digest_after f s xs) x)
      → AreMessagesIn (trail f s (xs ++ x ∷ [])) all
  trail_push xs x all w c = rw (trail-append f s xs (x ∷ [])) (each_append (Contains all) (trail f s xs) _ w (c, tt))

module _ {A : Type 0} (f : List ℕ → A → List ℕ) (start : List ℕ) (Fine : A → Type 0) (all : List (List ℕ)) where
  abbrev pub AreSameFrom : List A → Type 0
  AreSameFrom xs =
      (ys : List A) → AllByRecursion Fine xs → AllByRecursion Fine ys → AreMessagesIn (trail f start xs) all
      → AreMessagesIn (trail f start ys) all
      → digest_after f start xs ≡ digest_after f start ys → xs ≡ ys

  -- a chain that took a step doesn't end at its start
  pub never_back : IsTellingChain f start Fine all → (xs : List A) (x : A) → AreMessagesIn (trail f start (xs ++ x ∷ [])) all
      → digest_after f start (xs ++ x ∷ []) ≢ start
  never_back telling xs x w e = telling.leaves (digest_after f start xs) x (trail_last f start xs x all w)
      (sym (after-push f start xs x) ∙ e)

  same_none : IsTellingChain f start Fine all → AreSameFrom []
  same_none telling ys fx fy wx wy e = elim (ends ys) [
    | inl none ↦ sym none
    | inr h ↦
        absurd (never_back telling h.front h.last (rw h.is at wy) (sym (e ∙ ap (digest_after f start) h.is)))
  ]

  same_more : IsTellingChain f start Fine all → IsClear all → (xs : List A) (x : A) → AreSameFrom xs → AreSameFrom (xs ++ x ∷ [])
  same_more telling clear xs x same ys fx fy wx wy e = elim (ends ys) [
    | inl none ↦ absurd (never_back telling xs x wx (e ∙ ap (digest_after f start) none))
    | inr h ↦
        let wy' = rw h.is at wy in let fy' = rw h.is at fy in
        let digests : sha256 (f (digest_after f start xs) x) ≡ sha256 (f (digest_after f start h.front) h.last) =
        sym (after-push f start xs x) ∙ e ∙ ap (digest_after f start) h.is ∙ after-push f start h.front h.last in
        let messages = clear.apart (f (digest_after f start xs) x) (f (digest_after f start h.front) h.last)
        (trail_last f start xs x all wx) (trail_last f start h.front h.last all wy') digests in
        let parts = telling.tells (digest_after f start xs) (digest_after f start h.front) x h.last
        (length-after f start xs telling.sized) (length-after f start h.front telling.sized)
        ((each_right Fine xs (x ∷ []) fx).0) ((each_right Fine h.front (h.last ∷ []) fy').0) messages in
        let fronts : xs ≡ h.front = same h.front (each_left Fine xs (x ∷ []) fx) (each_left Fine h.front (h.last ∷ []) fy')
        (trail_front f start xs (x ∷ []) all wx) (trail_front f start h.front (h.last ∷ []) all wy') parts.0 in
        let lasts : x ≡ h.last = parts.1 in
        let is : ys ≡ h.front ++ h.last ∷ [] = h.is in
        cc
  ]

  -- equal ends, equal lists
  pub same_chains : IsTellingChain f start Fine all → IsClear all → (xs : List A) → AreSameFrom xs
  same_chains telling clear xs = by_last AreSameFrom (same_none telling) (same_more telling clear) xs

-- What equal digests tell of lists, where no two listed messages share a digest and none is zero.

-- a test of equal bytes, of what tells them and they tell
pub bytes_decide : {P : Type 0} (a b : List ℕ) → (a ≡ b → P) → (P → a ≡ b) → Decides (bytes_eq a b) P
bytes_decide a b f g = (λ t. f ((bytes_eq-Decides a b).0 t), λ p. (bytes_eq-Decides a b).1 (g p))

pub heads_of : (a b : ℕ) (xs ys : List ℕ) → a ∷ xs ≡ b ∷ ys → a ≡ b
heads_of a b xs ys e = cc

pub tagged_parts : (tag tag' : ℕ) (s t x y : List ℕ) → length s ≡ 32 → length t ≡ 32 → tag ∷ (s ++ x) ≡ tag' ∷ (t ++ y) → (s ≡ t) × (x ≡ y)
tagged_parts tag tag' s t x y ls lt e = let tails : s ++ x ≡ t ++ y = cc in append-injective s t x y (ls ∙ sym lt) tails

link_tells : (s t : List ℕ) (b c : Batch) → length s ≡ 32 → length t ≡ 32 → link_message s b ≡ link_message t c → (s ≡ t) × (b ≡ c)
link_tells s t (One x) (One y) ls lt e = let both = tagged_parts 1 1 s t x y ls lt e in (both.0, ap One both.1)
link_tells s t (One x) (Many y) ls lt e = absurd (omega (arith, heads_of 1 4 (s ++ x) (t ++ y) e))
link_tells s t (Many x) (One y) ls lt e = absurd (omega (arith, heads_of 4 1 (s ++ x) (t ++ y) e))
link_tells s t (Many x) (Many y) ls lt e = let both = tagged_parts 4 4 s t x y ls lt e in (both.0, ap Many both.1)

link_starts_not : (id : ℕ) (s : List ℕ) (b : Batch) → link_message s b ≢ start_message Basic id
link_starts_not id s (One x) e = omega (arith, heads_of 1 0 (s ++ x) (1 ∷ id ∷ []) e)
link_starts_not id s (Many x) e = omega (arith, heads_of 4 0 (s ++ x) (1 ∷ id ∷ []) e)

extended_telling : (all : List (List ℕ)) → IsClear all → IsTellingChain extended_message zero_bytes (λ _. Unit {0}) all
extended_telling all clear = record {
  sized = length-zero_bytes;
  leaves = λ s v c e. clear.nonzero (extended_message s v) c e;
  tells = λ s t v w ls lt u u' e. append-injective s t v w (ls ∙ sym lt) e;
}

each_unit : {A : Type 0} (xs : List A) → AllByRecursion (λ (x : A). Unit {0}) xs
each_unit [] = tt
each_unit (x ∷ xs) = (tt, each_unit xs)

-- equal register values, equal lists
pub same_registers : (all : List (List ℕ)) → IsClear all → (vs ws : List (List ℕ)) → AreMessagesIn (register_trail vs) all
    → AreMessagesIn (register_trail ws) all → register_of vs ≡ register_of ws → vs ≡ ws
unfolding register_of
same_registers all clear vs ws wv ww e =
    same_chains extended_message zero_bytes (λ _. Unit {0}) all (extended_telling all clear) clear vs ws
    (each_unit vs) (each_unit ws) wv ww e

module _ (id : ℕ) (all : List (List ℕ)) where
  link_telling : IsClear all → Contains all (start_message Basic id) → IsTellingChain link_message (start_digest_of Basic id)
      (λ _. Unit {0}) all
  unfolding start_digest_of
  link_telling clear starts = record {
    sized = length-start_digest_of Basic id;
    leaves = λ s b c e. link_starts_not id s b (clear.apart (link_message s b) (start_message Basic id) c starts e);
    tells = λ s t b c ls lt u v e. link_tells s t b c ls lt e;
  }

  pub same_summaries : IsClear all → Contains all (start_message Basic id) → (bs cs : List Batch)
      → AreMessagesIn (trail link_message (start_digest_of Basic id) bs) all
      → AreMessagesIn (trail link_message (start_digest_of Basic id) cs) all
      → summary_of id bs ≡ summary_of id cs → bs ≡ cs
  unfolding summary_of
  same_summaries clear starts bs cs wb wc e =
      same_chains link_message (start_digest_of Basic id) (λ _. Unit {0}) all (link_telling clear starts) clear bs cs
      (each_unit bs) (each_unit cs) wb wc e

  closing_telling : IsClear all → Contains all (start_message Opt id) → IsTellingChain closing_message (start_digest_of Opt id)
      (λ vs. AreMessagesIn (register_trail vs) all) all
  unfolding start_digest_of register_of
  closing_telling clear starts = record {
    sized = length-start_digest_of Opt id;
    leaves = λ a vs c e.
        let same : closing_message a vs ≡ start_message Opt id = clear.apart (closing_message a vs) (start_message Opt id) c starts e in
        omega (arith, heads_of 3 0 (a ++ digest_after extended_message zero_bytes vs) (2 ∷ id ∷ []) same);
    tells = λ a b vs ws la lb lv lw e.
        let both = tagged_parts 3 3 a b (digest_after extended_message zero_bytes vs) (digest_after extended_message zero_bytes ws) la lb
        e in
        (both.0, same_registers all clear vs ws lv lw both.1);
  }

  -- equal anchors, equal segments
  pub same_anchors : IsClear all → Contains all (start_message Opt id) → (ls ks : List (List (List ℕ)))
      → AllByRecursion (λ vs. AreMessagesIn (register_trail vs) all) ls → AllByRecursion (λ vs. AreMessagesIn (register_trail vs) all) ks
      → AreMessagesIn (trail closing_message (start_digest_of Opt id) ls) all
      → AreMessagesIn (trail closing_message (start_digest_of Opt id) ks) all
      → anchor_of id ls ≡ anchor_of id ks → ls ≡ ks
  unfolding anchor_of
  same_anchors clear starts ls ks fl fk wl wk e =
      same_chains closing_message (start_digest_of Opt id) (λ vs. AreMessagesIn (register_trail vs) all) all
      (closing_telling clear starts) clear ls ks fl fk wl wk e

-- a register that took in a value doesn't read zero
pub register_nonzero : (all : List (List ℕ)) → IsClear all → (vs : List (List ℕ)) → AreMessagesIn (register_trail vs) all
    → register_of vs ≡ zero_bytes → vs ≡ []
unfolding register_of
register_nonzero all clear vs w e = same_registers all clear vs [] w tt e

module _ (barrier : List ℕ) where
  guard_tells : (b c : Batch) → guard_message barrier b ≡ guard_message barrier c → b ≡ c
  guard_tells (One x) (One y) e = let tails : barrier ++ x ≡ barrier ++ y = cc in ap One (append_cancel_left barrier x y tails)
  guard_tells (One x) (Many y) e = absurd (omega (arith, heads_of 2 5 (barrier ++ x) (barrier ++ y) e))
  guard_tells (Many x) (One y) e = absurd (omega (arith, heads_of 5 2 (barrier ++ x) (barrier ++ y) e))
  guard_tells (Many x) (Many y) e = let tails : barrier ++ x ≡ barrier ++ y = cc in ap Many (append_cancel_left barrier x y tails)

  -- equal guards, equal batches
  pub same_guards : (all : List (List ℕ)) → IsClear all → (b c : Batch) → Contains all (guard_message barrier b)
      → Contains all (guard_message barrier c) → guard barrier b ≡ guard barrier c → b ≡ c
  unfolding guard
  same_guards all clear b c hb hc e = guard_tells b c (clear.apart (guard_message barrier b) (guard_message barrier c) hb hc e)

  pub same_own_values : (all : List (List ℕ)) → IsClear all → (bs cs : List Batch) → AreMessagesIn (map (guard_message barrier) bs) all
      → AreMessagesIn (map (guard_message barrier) cs) all → own_values barrier bs ≡ own_values barrier cs → bs ≡ cs
  same_own_values all clear [] [] wb wc e = refl
  same_own_values all clear (b ∷ bs) (c ∷ cs) wb wc e =
      let heads : guard barrier b ≡ guard barrier c = cc in
      let tails : own_values barrier bs ≡ own_values barrier cs = cc in
      let first : b ≡ c = same_guards all clear b c wb.0 wc.0 heads in
      let others : bs ≡ cs = same_own_values all clear bs cs wb.1 wc.1 tails in
      cc
  same_own_values all clear _ _ wb wc e = absurd (cc)

-- equal links, equal batches
pub same_links : (all : List (List ℕ)) → IsClear all → (s t : List ℕ) (b c : Batch) → length s ≡ 32 → length t ≡ 32
    → Contains all (link_message s b) → Contains all (link_message t c) → link s b ≡ link t c → b ≡ c
unfolding link
same_links all clear s t b c ls lt hb hc e = (link_tells s t b c ls lt (clear.apart (link_message s b) (link_message t c) hb hc e)).1

pub summary-push : (id : ℕ) (bs : List Batch) (b : Batch) → summary_of id (bs ++ b ∷ []) ≡ link (summary_of id bs) b
unfolding summary_of link
summary-push id bs b = after-push link_message (start_digest_of Basic id) bs b

pub register-push : (vs : List (List ℕ)) (v : List ℕ) → register_of (vs ++ v ∷ []) ≡ extended_digest_of (register_of vs) v
unfolding register_of extended_digest_of
register-push vs v = after-push extended_message zero_bytes vs v

pub anchor-push : (id : ℕ) (ls : List (List (List ℕ))) (vs : List (List ℕ))
    → anchor_of id (ls ++ vs ∷ []) ≡ anchored_digest_of (anchor_of id ls) (register_of vs)
unfolding anchor_of register_of anchored_digest_of
anchor-push id ls vs = after-push closing_message (start_digest_of Opt id) ls vs

folded : (s : List ℕ) (values : List (List ℕ)) → fold extended_digest_of s values ≡ digest_after extended_message s values
unfolding extended_digest_of
folded s [] = refl
folded s (v ∷ values) = folded (sha256 (extended_message s v)) values

-- what a platform's register reads is the value of its items
pub register_folds : (values : List (List ℕ)) → platform.register_after values ≡ register_of values
unfolding register_of
register_folds values = folded zero_bytes values

-- the chains of nothing
pub summary-nil : (id : ℕ) → start_digest_of Basic id ≡ summary_of id []
unfolding summary_of
summary-nil id = refl

pub anchor-nil : (id : ℕ) → start_digest_of Opt id ≡ anchor_of id []
unfolding anchor_of
anchor-nil id = refl
