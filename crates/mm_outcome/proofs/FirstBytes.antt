-- Messages are told apart by the first bytes of their digests; SHA-256 with each word computed
-- once; and so the messages of two runs. With it: a schedule goes on from what stands after its
-- first events.
use Rattle.std.proofs.lemmas.Grind.{flat_map-append}
use Rattle.sha2.specs.Sha256.{sha256, schedule, compress, hash_after, first_words, rounds, digest_bytes}
use Rattle.mm_digest.specs.Messages.{zero_bytes, start_digest_of, extended_digest_of, anchored_digest_of}
use Rattle.mm_model.specs.Chains.{guard}
use Rattle.mm_outcome.specs.OneRun.{rising_bytes_from, FrontsAreOneRun}
use Rattle.mm_outcome.proofs.Below.{ℕ, zero, suc, ◌≡◌, ◌+◌, ◌*◌, ◌/◌, take, drop, List, [], ◌∷◌, ◌++◌, length, refl, sym, ap, ◌∙◌, subst}
use Rattle.mm_outcome.proofs.Below.{arith, Option, None, Some, if◌then◌else◌, nat_eq, slice_index, replicate, codes, AllByRecursion}
use Rattle.mm_outcome.proofs.Below.{Contains, each_at, next_word, add_state, initial_hash_256, padded_message, IsClear, AreMessagesIn}
use Rattle.mm_outcome.proofs.Below.{Basic, Opt, Batch, One, start_message, link_message, extended_message, anchored_message, guard_message}
use Rattle.mm_outcome.proofs.Below.{world_barrier, add_assoc, zero-add, append_assoc, Instance, History, Event, Level, list_level, Outcome}
use Rattle.mm_outcome.proofs.Below.{event_outcome, RunOutcome, outcome_of_events, messages_of_moves, event_messages, moves_of}
use Rattle.mm_outcome.proofs.Below.{messages_from, outcome_joined_to, Contains-append_left, flat_map, digest_level, Variant, instance_by}
use Rattle.mm_outcome.proofs.Below.{Meaning, first_history, requests_of, IsEventRun, Reply, outcome_by_lists, outcome_by_digests}
use Rattle.mm_outcome.proofs.Below.{first_digests, first_snapshots, AreGenuine, IsClearRun, IsGenuineRun, batches_of, event_foreign_values}
use Rattle.mm_outcome.proofs.Below.{run_messages, each_left, each_self}
use Rattle.mm_outcome.proofs.Counting.{expected_runs}
use Rattle.mm_outcome.proofs.Expecting.{is_expected}

-- the first byte of a message's digest
unfoldable pub first_byte : (List ℕ → List ℕ) → List ℕ → ℕ
first_byte hash m = slice_index (hash m) 0

-- the first of these messages whose digest begins with a byte that isn't 0
abbrev pub begun_by : (List ℕ → List ℕ) → List (List ℕ) → ℕ → Option (List ℕ)
begun_by hash ms zero = None
begun_by hash [] a = None
begun_by hash (m ∷ ms) a = if nat_eq (first_byte hash m) a then Some m else begun_by hash ms a

-- each message is found by its first byte
abbrev pub AreFound : (List ℕ → List ℕ) → List (List ℕ) → Type 0
AreFound hash all = AllByRecursion (λ m. begun_by hash all (first_byte hash m) ≡ Some m) all

same_some : (m n : List ℕ) → Some m ≡ Some n → m ≡ n
same_some m n e = cc

clear_by_first : (all : List (List ℕ)) → AreFound sha256 all → IsClear all
unfolding first_byte zero_bytes
clear_by_first all found =
    let by : List ℕ → Option (List ℕ) = λ digest. begun_by sha256 all (slice_index digest 0) in
    let at : (m : List ℕ) → Contains all m → by (sha256 m) ≡ Some m = λ m c. each_at (λ m. by (sha256 m) ≡ Some m) all m found c in
    record {
      apart = λ m n c d same. same_some m n (sym (at m c) ∙ ap by same ∙ at n d);
      nonzero = λ m c same. let clash : None ≡ Some m = sym (ap by same) ∙ at m c in absurd (cc);
    }

-- what is asked of a list is asked of each part of it
pub clear_within : (all some : List (List ℕ)) → IsClear all → AreMessagesIn some all → IsClear some
clear_within all some clear within = record {
  apart = λ m n c d same. clear.apart m n (each_at (Contains all) some m within c) (each_at (Contains all) some n within d) same;
  nonzero = λ m c. clear.nonzero m (each_at (Contains all) some m within c);
}

-- SHA-256 with each word of a block's schedule computed once
abbrev pub grown : List ℕ → ℕ → List ℕ
grown w n = w ++ next_word w (n + 16) ∷ []

abbrev pub words : List ℕ → ℕ → List ℕ
words b zero = first_words b 16
words b (suc n) = grown (words b n) n

words_are : (b : List ℕ) (n : ℕ) → words b n ≡ schedule b n
unfolding schedule
words_are b zero = refl
words_are b (suc n) = ap (λ w. grown w n) (words_are b n)

abbrev pub compressed : List ℕ → List ℕ → List ℕ
compressed h b = add_state h (rounds h (words b 48) 64)

compressed_is : (h b : List ℕ) → compressed h b ≡ compress h b
unfolding compress
compressed_is h b = ap (λ w. add_state h (rounds h w 64)) (words_are b 48)

abbrev pub blocks : List ℕ → List ℕ → ℕ → List ℕ
blocks h p zero = h
blocks h p (suc n) = compressed (blocks h p n) (take 64 (drop (n * 64) p))

blocks_are : (h p : List ℕ) (n : ℕ) → blocks h p n ≡ hash_after h p n
unfolding hash_after
blocks_are h p zero = refl
blocks_are h p (suc n) =
    ap (λ x. compressed x (take 64 (drop (n * 64) p))) (blocks_are h p n) ∙ compressed_is (hash_after h p n) (take 64 (drop (n * 64) p))

abbrev pub digest : List ℕ → List ℕ
digest m = digest_bytes (blocks initial_hash_256 (padded_message m) (length (padded_message m) / 64)) 8

digest_is : (m : List ℕ) → digest m ≡ sha256 m
unfolding sha256
digest_is m = ap (λ h. digest_bytes h 8) (blocks_are initial_hash_256 (padded_message m) (length (padded_message m) / 64))

-- messages that a hash makes are clear, as their digests show
clear_by_digests : (messages : (List ℕ → List ℕ) → List (List ℕ)) → AreFound digest (messages digest) → IsClear (messages sha256)
clear_by_digests messages found =
    clear_by_first (messages sha256) (subst (λ (hash : List ℕ → List ℕ). AreFound hash (messages hash)) (λ j. λ m. digest_is m j) found)

-- the request of both runs
abbrev pub five : Batch
five = One (codes "add 5")

-- one request in Basic: the run's messages, by the hash

abbrev basic_by : (List ℕ → List ℕ) → List (List ℕ)
basic_by hash = start_message Basic 1 ∷ link_message (hash (start_message Basic 1)) five ∷ []

pub basic_messages : List (List ℕ)
basic_messages = basic_by sha256

pub basic_listed : Contains basic_messages (start_message Basic 1) × Contains basic_messages (link_message (start_digest_of Basic 1) five)
unfolding basic_messages start_digest_of
basic_listed = ((0, omega arith, refl), (1, omega arith, refl))

pub basic_clear : IsClear basic_messages
unfolding basic_messages first_byte first_words rounds digest_bytes
basic_clear = clear_by_digests basic_by (refl, (refl, tt))

-- three requests in Opt, with a segment closed between them

-- the batch's guard; what the register has after it was committed once, twice and three times

abbrev pub five_guard : List ℕ
five_guard = guard world_barrier five

abbrev pub once : List ℕ → List ℕ
once v = extended_digest_of zero_bytes v

abbrev pub twice : List ℕ → List ℕ
twice v = extended_digest_of (once v) v

abbrev pub thrice : List ℕ → List ℕ
thrice v = extended_digest_of (twice v) v

abbrev pub ff_bytes : List ℕ
ff_bytes = replicate 32 255

-- The messages of such a run are listed, with the guard `v` of its batch and the value `d` of others.
pub record AreListed (id : ℕ) (barrier v d : List ℕ) (all : List (List ℕ)) : Type 0 where
  pub begins : Contains all (start_message Opt id)
  pub guarded : Contains all (guard_message barrier five)
  pub first : Contains all (extended_message zero_bytes v)
  pub closes_first : Contains all (anchored_message (start_digest_of Opt id) (once v))
  pub second : Contains all (extended_message (once v) v)
  pub closes_second : Contains all (anchored_message (start_digest_of Opt id) (twice v))
  pub behind_first : Contains all (anchored_message (anchored_digest_of (start_digest_of Opt id) (once v)) (once v))
  pub by_others : Contains all (extended_message (twice v) d)
  pub third : Contains all (extended_message (twice v) v)
  pub closes_third : Contains all (anchored_message (start_digest_of Opt id) (thrice v))
  pub behind_second : Contains all (anchored_message (anchored_digest_of (start_digest_of Opt id) (twice v)) (once v))

-- the messages, by the hash
abbrev messages_by : (List ℕ → List ℕ) → List (List ℕ)
messages_by hash =
    let start = hash (start_message Opt 1) in let v = hash (guard_message world_barrier five) in
    let first = hash (extended_message zero_bytes v) in let second = hash (extended_message first v) in
    let third = hash (extended_message second v) in
    start_message Opt 1 ∷ guard_message world_barrier five ∷ extended_message zero_bytes v ∷ anchored_message start first
    ∷ extended_message first v ∷ anchored_message start second ∷ anchored_message (hash (anchored_message start first)) first
    ∷ extended_message second ff_bytes ∷ extended_message second v ∷ anchored_message start third
    ∷ anchored_message (hash (anchored_message start second)) first ∷ []

pub segment_messages : List (List ℕ)
segment_messages = messages_by sha256

pub segments_clear : IsClear segment_messages
unfolding segment_messages first_byte rising_bytes_from zero_bytes first_words rounds digest_bytes
segments_clear =
    clear_by_digests messages_by (refl, (refl, (refl, (refl, (refl, (refl, (refl, (refl, (refl, (refl, (refl, tt)))))))))))

-- the guard begins with another byte than the value of others
pub guard_first : slice_index five_guard 0 ≡ 152
unfolding guard rising_bytes_from first_words rounds digest_bytes
guard_first = ap (λ d. slice_index d 0) (sym (digest_is (guard_message world_barrier five))) ∙ refl

pub segments_listed : AreListed 1 world_barrier five_guard ff_bytes segment_messages
unfolding segment_messages start_digest_of guard extended_digest_of anchored_digest_of
segments_listed = record {
  begins = (0, omega arith, refl);
  guarded = (1, omega arith, refl);
  first = (2, omega arith, refl);
  closes_first = (3, omega arith, refl);
  second = (4, omega arith, refl);
  closes_second = (5, omega arith, refl);
  behind_first = (6, omega arith, refl);
  by_others = (7, omega arith, refl);
  third = (8, omega arith, refl);
  closes_third = (9, omega arith, refl);
  behind_second = (10, omega arith, refl);
}

-- A schedule goes on from what stands after its first events; and each first part of it is one run, where it meets the premises.

nothing_first : {S : Type 0} (s : S) (issued : List (List ℕ)) (f : RunOutcome S)
    → f ≡ outcome_joined_to (record { state = s; issued = issued; replies = []; steps = 0; writes = 0 }) f
nothing_first s issued f = λ j. record {
  state = f.state;
  issued = f.issued;
  replies = f.replies;
  steps = sym (zero-add f.steps) j;
  writes = sym (zero-add f.writes) j;
}

abbrev followed_by : {S : Type 0} → Outcome S → RunOutcome S → RunOutcome S
followed_by o rest = record {
  state = rest.state;
  issued = rest.issued;
  replies = o.reply ∷ rest.replies;
  steps = o.steps + rest.steps;
  writes = o.writes + rest.writes;
}

event_first : {S : Type 0} (o : Outcome S) (f g : RunOutcome S) → followed_by o (outcome_joined_to f g) ≡ outcome_joined_to
    (followed_by o f) g
event_first o f g = λ j. record {
  state = g.state;
  issued = g.issued;
  replies = o.reply ∷ (f.replies ++ g.replies);
  steps = sym (add_assoc o.steps f.steps g.steps) j;
  writes = sym (add_assoc o.writes f.writes g.writes) j;
}

pub goes_on : {S : Type 0} (i : Instance) (level : Level S) (es fs : List Event) (s : S) (issued : List (List ℕ))
    → (let f : RunOutcome S = outcome_of_events i level s issued es in
    outcome_of_events i level s issued (es ++ fs) ≡ outcome_joined_to f (outcome_of_events i level f.state f.issued fs))
goes_on i level [] fs s issued = nothing_first s issued (outcome_of_events i level s issued fs)
goes_on i level (event ∷ es) fs s issued =
    let o = event_outcome i level s issued event in
    let f = outcome_of_events i level o.state o.issued es in
    ap (followed_by o) (goes_on i level es fs o.state o.issued) ∙ event_first o f (outcome_of_events i level f.state f.issued fs)

pub messages-append : (i : Instance) (es fs : List Event) (y : History) (issued : List (List ℕ))
    → (let f : RunOutcome History = outcome_of_events i (list_level i) y issued es in
    messages_from i y issued (es ++ fs) ≡ messages_from i y issued es ++ messages_from i f.state f.issued fs)
messages-append i [] fs y issued = refl
messages-append i (event ∷ es) fs y issued =
    let o = event_outcome i (list_level i) y issued event in
    let here = event_messages i issued event ++ messages_of_moves i y (moves_of i y issued event) in
    ap (λ v. here ++ v) (messages-append i es fs o.state o.issued) ∙ sym (append_assoc here _ _)

-- what is told of each first part is what is expected: so it is one run
pub fronts_run : (variant : Variant) (meaning : Meaning) (key barrier : List ℕ) (events : List Event)
    → FrontsAreOneRun (instance_by variant meaning key barrier) events
fronts_run variant meaning key barrier events front rest is =
    let i : Instance = instance_by variant meaning key barrier in (
      ap (λ (es : List Event). outcome_by_digests i es) is ∙ goes_on i (digest_level i) front rest (first_digests i) (first_snapshots i),
      λ clear genuine.
          let a = is_expected variant meaning key barrier front clear genuine in
          let requests = requests_of (outcome_by_lists i front).state.batches in
          record {
            requests = requests;
            runs = subst (λ (rs : List Reply). IsEventRun i.meaning [] front rs requests) (sym a.replies) (expected_runs i front);
            judged = a.replies;
            count = a.stands.count;
            shown = a.issued;
          },
    )

first_of_all : {A : Type 0} (items : Event → List A) (front later : List Event) (x : A) → Contains (flat_map items front) x
    → Contains (flat_map items (front ++ later)) x
first_of_all {A} items front later x here = subst (λ (all : List A). Contains all x) (sym (flat_map-append items front later))
    (Contains-append_left (flat_map items front) (flat_map items later) x here)

-- The premises of a run are those of its first parts.
pub clear_fronts : (i : Instance) (front later : List Event) → IsClearRun i (front ++ later) → IsClearRun i front
clear_fronts i front later c =
    let it : RunOutcome History = outcome_by_lists i front in
    let some : List (List ℕ) = run_messages i front in let more : List (List ℕ) = messages_from i it.state it.issued later in record {
      clear = clear_within (some ++ more) some (subst IsClear (ap (λ (ms : List (List ℕ)). start_message i.variant i.meaning.id ∷ ms)
          (messages-append i front later first_history (first_snapshots i))) c.clear)
          (each_left (Contains (some ++ more)) some more (each_self [] (some ++ more)));
      apart = λ is d b value batch. c.apart is d b (first_of_all event_foreign_values front later d value)
          (first_of_all batches_of front later b
          batch);
    }

genuine_from : (i : Instance) (front later : List Event) (y : History) (issued : List (List ℕ)) → AreGenuine i y issued (front ++ later)
    → AreGenuine i y issued front
genuine_from i [] later y issued g = tt
genuine_from i (event ∷ front) later y issued g =
    let o = event_outcome i (list_level i) y issued event in (g.0, genuine_from i front later o.state o.issued g.1)

pub genuine_fronts : (i : Instance) (front later : List Event) → IsGenuineRun i (front ++ later) → IsGenuineRun i front
genuine_fronts i front later g = genuine_from i front later first_history (first_snapshots i) g
