-- The laws of whole runs.
use Rattle.std.specs.Prelude.{◌≡◌, ℕ, ◌+◌, true, List, [], ◌∷◌, ◌++◌, codes, replicate}
use Rattle.std.specs.List.{AllByRecursion}
use Rattle.mm_outcome.specs.Below.{Content, sealed_snapshot_of, Quiet, One, Meaning, History, Own, requests_of, Instance, basic_instance}
use Rattle.mm_outcome.specs.Below.{opt_instance, Digests, NamesPosition, list_level, digest_level, DigestsAgree, Event, Ask, Checkpoint}
use Rattle.mm_outcome.specs.Below.{Extend, IsEventRun, Last}
use Rattle.mm_outcome.specs.Premises.{RunOutcome, outcome_of_events, outcome_by_lists, outcome_by_digests, messages_from, IsClearRun}
use Rattle.mm_outcome.specs.Premises.{IsGenuineRun}

-- Two followings give the same replies, issue the same snapshots and call as many steps and writes;
-- and the digests at the end are those of the history.
pub record AgreesThroughout (i : Instance) (lists : RunOutcome History)
    (digests : RunOutcome Digests) : Type 0 where
  pub replies : digests.replies ≡ lists.replies
  pub issued : digests.issued ≡ lists.issued
  pub steps : digests.steps ≡ lists.steps
  pub writes : digests.writes ≡ lists.writes
  pub stands : DigestsAgree i lists.state digests.state

-- Where no two messages of the run share a digest and each right offer names a position, what is
-- told by digests is what is expected.
abbrev pub IsExpected : Instance → Type 0
IsExpected i = (events : List Event) → IsClearRun i events → IsGenuineRun i events →
    AgreesThroughout i (outcome_by_lists i events) (outcome_by_digests i events)

-- of Basic, and of Opt
abbrev pub BasicIsExpected : Type 0
BasicIsExpected = (meaning : Meaning) (key : List ℕ) → IsExpected (basic_instance meaning key)

abbrev pub OptIsExpected : Type 0
OptIsExpected = (meaning : Meaning) (key barrier : List ℕ) → IsExpected (opt_instance meaning key barrier)

-- In both variants, and without a premise, what is expected is one run of the machine, on one list
-- of requests.
abbrev pub ExpectedRuns : Type 0
ExpectedRuns = (i : Instance) (events : List Event) →
    let lists : RunOutcome History = outcome_by_lists i events in
    IsEventRun i.meaning [] events lists.replies (requests_of lists.state.batches)

-- What stands after some events and then more.
abbrev pub outcome_joined_to : {S : Type 0} → RunOutcome S → RunOutcome S → RunOutcome S
outcome_joined_to first second = record {
  state = second.state;
  issued = second.issued;
  replies = first.replies ++ second.replies;
  steps = first.steps + second.steps;
  writes = first.writes + second.writes;
}

-- A schedule goes on from what stands after its first events, by either level; and so do its
-- messages.
abbrev pub SchedulesGoOn : Type 0
SchedulesGoOn =
    (i : Instance) (es fs : List Event) (y : History) (d : Digests) (issued : List (List ℕ)) →
    let lists : RunOutcome History = outcome_of_events i (list_level i) y issued es in
    let digests : RunOutcome Digests = outcome_of_events i (digest_level i) d issued es in
    (outcome_of_events i (list_level i) y issued (es ++ fs) ≡ outcome_joined_to lists
    (outcome_of_events i (list_level i) lists.state lists.issued fs))
    × (outcome_of_events i (digest_level i) d issued (es ++ fs) ≡ outcome_joined_to digests
    (outcome_of_events i (digest_level i) digests.state digests.issued fs))
    × (messages_from i y issued (es ++ fs) ≡ messages_from i y issued es
    ++ messages_from i lists.state lists.issued fs)

-- A snapshot says, sealed under the key, what names a position of the history.
pub record IsIssued (i : Instance) (y : History) (bytes : List ℕ) : Type 0 where
  pub content : Content
  pub sealed : bytes ≡ sealed_snapshot_of i.key content
  pub names : NamesPosition i y content

-- After each schedule every snapshot that was issued names a position of the history.
abbrev pub IssuedNamePositions : Instance → Type 0
IssuedNamePositions i = (events : List Event) →
    let lists : RunOutcome History = outcome_by_lists i events
    in AllByRecursion (IsIssued i lists.state) lists.issued

-- One request is asked once: `ask last add 5`.
abbrev pub one_ask : List Event
one_ask = Ask [] Quiet Last (One (codes "add 5")) ∷ []

-- `ask last add 5` twice, `checkpoint`, `extend` by 32 bytes ff, and `ask last add 5`: a request is
-- committed inside a segment, the segment is closed, others extend the register, and the last
-- request is fresh behind the closing.
abbrev pub two_segments : List Event
two_segments =
    Ask [] Quiet Last (One (codes "add 5")) ∷ Ask [] Quiet Last (One (codes "add 5"))
    ∷ Checkpoint [] Quiet ∷ Extend (replicate 32 255)
    ∷ Ask [] Quiet Last (One (codes "add 5")) ∷ []

-- where it ends: all three are committed, two of them in the closed segment
abbrev pub after_two_segments : History
after_two_segments = record {
  batches = One (codes "add 5") ∷ One (codes "add 5") ∷ One (codes "add 5") ∷ [];
  closed = (Own (One (codes "add 5")) ∷ Own (One (codes "add 5")) ∷ []) ∷ [];
  current = One (codes "add 5") ∷ [];
  is_open = true;
  items = Own (One (codes "add 5")) ∷ [];
}
