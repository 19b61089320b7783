-- A replay shows of events what is told of a whole replay. With it: what an event leaves of a
-- replay.
use Rattle.std.specs.List.{flat_map}
use Rattle.std.specs.Prelude.{take, Err, Ok, Result}
use Rattle.std.proofs.Common.{inl, inr}
use Rattle.std.proofs.Math.Nat.{min-eq_left}
use Rattle.std.proofs.Math.Seq.{take-append_seam}
use Rattle.mm_bytes.specs.Limits.{most_events, most_members}
use Rattle.mm_digest.specs.declared.variant.Variant.{Variant}
use Rattle.mm_module.specs.Meaning.{Meaning}
use Rattle.mm_modules.specs.Modules.{meaning_of}
use Rattle.mm_modules.specs.declared.any.AnyModule.{AnyModule}
use Rattle.mm_model.specs.Chains.{Instance}
use Rattle.mm_model.specs.History.{first_history}
use Rattle.mm_call.specs.CallFinding.{Level}
use Rattle.mm_call.specs.CallOutcome.{moves_seen}
use Rattle.mm_call.specs.Standing.{instance_by}
use Rattle.mm_call.specs.WalkLaws.{seen_none}
use Rattle.mm_schedule.specs.Events.{event_at}
use Rattle.mm_schedule.specs.Headers.{header_at}
use Rattle.mm_schedule.specs.Replies.{IsEventRun}
use Rattle.mm_outcome.specs.Laws.{SchedulesGoOn}
use Rattle.mm_outcome.specs.OneRun.{world_key, world_barrier, IsOneRun, FrontsAreOneRun}
use Rattle.mm_outcome.specs.OneRun as held
use Rattle.mm_outcome.specs.Premises.{event_outcome, first_digests, first_snapshots}
use Rattle.mm_evidence.specs.Evidence.{HasEvidence}
use Rattle.mm_evidence.specs.Laws.{IsDecidedRun}
use Rattle.mm_evidence.proofs.Above.{MeetsPremises, none_is_one, runs_decided, runs_until}
use Rattle.mm_play.specs.Headline.{HeadingStep, Begins}
use Rattle.mm_play.specs.Stage.{state_behind_events, heading_step_by, replies, StageShows, answer_by, answer_to, StageAnswersEvent}
use Rattle.mm_play.specs.Stage.{EventLacksMemory}
use Rattle.mm_play.specs.declared.player.LineRefusal.TheVariants.{Bad, Much}
use Rattle.mm_play.specs.declared.player.ReplyFault.{ReplyFault}
use Rattle.mm_play.specs.declared.player.ReplyFault.TheVariants as fault
use Rattle.mm_replay.specs.declared.heading.HeaderLine.{HeaderLine}
use Rattle.mm_replay.specs.Schedule.{text_of_replies, IsByDigests, IsPromisedRun, replay_player, RunResult, run_result_by_digests}
use Rattle.mm_replay.specs.Schedule.{run_result_of, OneRunUntilEvidence, PremisesGiveOneRun, ReplaysGoOn, first_replay_state, outcome_of}
use Rattle.mm_replay.specs.Schedule.{replay_heads, replay_stage, ReplayState, replay_steps, replay_state_in, KeepsWorld, ReplayLacksMemory}
use Rattle.mm_replay.specs.Schedule.{replay_state_after}
use Rattle.mm_replay.proofs.Below.{◌≡◌, ◌∙◌, ℕ, suc, List, [], ◌∷◌, ◌++◌, length, Option, None, Some, refl, ap, subst, sym, Header, Digests}
use Rattle.mm_replay.proofs.Below.{Event, end_line, Reply, promises-kept, RunOutcome, outcome_of_events, outcome_by_digests, world_of}
use Rattle.mm_replay.proofs.Below.{digest_level, sum_by, meaning_by, option_map, ◌+◌, ◌-◌, ◌^◌, ◌≤◌, ◌<◌, arith, Meddle, Stop}
use Rattle.mm_replay.proofs.Below.{reading_steps, course_of, count_none, Ask, Power, WorldState, instance_of, world_after_reading}
use Rattle.mm_replay.proofs.Below.{WorldFollows, WorldLacksMemory, ◌*◌}

-- each first part of the events is one run, in either variant
abbrev pub FrontsRun : Type 0
FrontsRun = (variant : Variant) (meaning : Meaning) (key barrier : List ℕ) (events : List Event)
    → FrontsAreOneRun (instance_by variant meaning key barrier) events

-- a reply comes to each event
one_each : {S : Type 0} (i : Instance) (level : Level S) (events : List Event) (s : S) (issued : List (List ℕ))
    → length (outcome_of_events i level s issued events).replies ≡ length events
one_each i level [] s issued = refl
one_each i level (event ∷ events) s issued =
    let o = event_outcome i level s issued event in ap suc (one_each i level events o.state o.issued)

-- the replies to the first events are the first replies
first_replies : (front : List Event) (all it later : List Reply) → all ≡ it ++ later → length it ≡ length front
    → it ≡ take (length front) all
first_replies front all it later is size =
    sym (ap (λ n. take n all) (sym size) ∙ ap (λ (rs : List Reply). take (length it) rs) is ∙ take-append_seam it later)

-- the module's promises hold of one run, of an instance under any key and barrier
pub promised_run : (variant : Variant) («module» : AnyModule) (key barrier : List ℕ) (events : List Event) (shown : RunResult)
    → (let i = instance_by variant (meaning_of «module») key barrier in IsOneRun i events shown.replies shown.committed shown.issued
    → IsPromisedRun i «module» events shown)
promised_run variant «module» key barrier events shown one = record {
  run = one;
  promised = promises-kept «module» events shown.replies one.requests
      (subst (λ m. IsEventRun m [] events shown.replies one.requests) (meaning_by variant (meaning_of «module») key barrier) one.runs);
}

-- each run meets the premises or gives evidence
abbrev pub RunsAreDecided : Type 0
RunsAreDecided = (variant : Variant) (meaning : Meaning) (key barrier : List ℕ) (events : List Event)
    → IsDecidedRun (instance_by variant meaning key barrier) events

-- the laws of whole runs give the headline
pub by_digests_so : FrontsRun → RunsAreDecided → (header : Header) (events : List Event)
    → IsByDigests header events (run_result_by_digests header)
by_digests_so law decided header events = record {
  exact = λ front. refl;
  headline = record {
    each = one_each (world_of header) (digest_level (world_of header)) events (first_digests (world_of header))
        (first_snapshots (world_of header));
    first = λ front later is.
        let i = world_of header in
        let it : RunOutcome Digests = outcome_by_digests i front in
        let own = law header.variant (meaning_of header.«module») world_key world_barrier events front later is in
        first_replies front (outcome_by_digests i events).replies it.replies
        (outcome_of_events i (digest_level i) it.state it.issued later).replies (ap (λ (f : RunOutcome Digests). f.replies) own.0)
        (one_each i (digest_level i) front (first_digests i) (first_snapshots i));
    none = promised_run header.variant header.«module» world_key world_barrier [] (run_result_by_digests header [])
        (none_is_one (world_of header));
    unless_evidence = λ front later is. elim (known front).decided [
      | inl p ↦
          let own = law header.variant (meaning_of header.«module») world_key world_barrier events front later is in
          inl (promised_run header.variant header.«module» world_key world_barrier front
          (run_result_by_digests header front) (own.1 p.0 p.1))
      | inr evidence ↦ inr evidence
    ];
  };
}
  where
    known : (es : List Event) → IsDecidedRun (world_of header) es
    known = decided header.variant (meaning_of header.«module») world_key world_barrier

-- what follows of it

pub premises_give : RunsAreDecided → PremisesGiveOneRun
premises_give decided header events shown one front later is clear genuine = elim (one.unless_evidence front later is) [
  | inl run ↦ run
  | inr evidence ↦ absurd ((decided header.variant (meaning_of header.«module») world_key world_barrier front).apart clear genuine evidence)
]

pub until_evidence : RunsAreDecided → OneRunUntilEvidence
until_evidence decided header events shown one =
    let i = world_of header in
    runs_until (HasEvidence i) (MeetsPremises i)
    (runs_decided i (decided header.variant (meaning_of header.«module») world_key world_barrier)) events
    (λ front. IsPromisedRun i header.«module» front (shown front)) one.none
    (λ front later is meets. premises_give decided header events shown one front later is meets.0 meets.1)

pub replays_go_on : SchedulesGoOn → ReplaysGoOn
replays_go_on law header events shown exact front rest is =
    let i = world_of header in
    let go = law i front rest first_history (first_digests i) (first_snapshots i) in
    (exact.exact front, exact.exact events ∙ ap (λ (es : List Event). run_result_by_digests header es) is ∙ ap run_result_of go.1)

-- what stands behind events, and what was written
abbrev followed_in : ReplayState → List Event → RunOutcome Digests
followed_in r events = outcome_of_events (world_of r.header) (digest_level (world_of r.header)) r.digests r.issued events

state_behind : (events : List Event) (r : ReplayState) → (state_behind_events replay_steps r events).digests ≡ (followed_in r events).state
state_behind [] r = refl
state_behind (event ∷ events) r = state_behind events (replay_steps.after r event)

issued_behind : (events : List Event) (r : ReplayState) → (state_behind_events replay_steps r events).issued ≡ (followed_in r events).issued
issued_behind [] r = refl
issued_behind (event ∷ events) r = issued_behind events (replay_steps.after r event)

texts_behind : (events : List Event) (r : ReplayState) → flat_map text_of_replies (followed_in r events).replies
    ≡ replies replay_steps r events
texts_behind [] r = refl
texts_behind (event ∷ events) r =
    ap (λ (text : List ℕ). text_of_replies (outcome_of r event).reply ++ text) (texts_behind events (replay_steps.after r event))

leads_so : (found : Option Header) → (let x : Option (HeadingStep HeaderLine ReplayState) =
    option_map (λ header. Begins (first_replay_state header)) found in
    x ≡ heading_step_by first_replay_state (option_map (λ header. Begins header) found))
leads_so None = refl
leads_so (Some header) = refl

pub shows : StageShows replay_player replay_heads replay_stage replay_steps first_replay_state run_result_by_digests
shows = record {
  takes = record { answers = λ r line. refl; reads = λ r event. refl; counts = λ r event. refl };
  leads = λ at line. leads_so (header_at line);
  reads = λ header. refl;
  first = λ header. refl;
  text = λ header events. texts_behind events (first_replay_state header);
  last = λ header events.
      ap (λ (d : Digests). end_line d.count (length (followed_in (first_replay_state header) events).issued))
      (sym (state_behind events (first_replay_state header)))
      ∙ ap (λ (xs : List (List ℕ)). end_line (state_behind_events replay_steps (first_replay_state header) events).digests.count
      (length xs))
      (sym (issued_behind events (first_replay_state header)));
  kept = λ header events. ap (λ (xs : List (List ℕ)). sum_by length xs) (sym (issued_behind events (first_replay_state header)));
}

-- What an event leaves of a replay.

-- what an event leaves where memory was wanting
pub record Stays (old new : WorldState) : Type 0 where
  pub issued : new.issued ≡ old.issued
  pub count : new.digests.count ≡ old.digests.count

same_stays : (old new : WorldState) → new ≡ old → Stays old new
same_stays old new e = record { issued = ap (λ (w : WorldState). w.issued) e; count = ap (λ (w : WorldState). w.digests.count) e }

read_stays : (old new : WorldState) (meddles : List Meddle) (stop : Stop) → new ≡ world_after_reading stop meddles old → Stays old new
read_stays old new meddles stop e =
    let i = instance_of old in
    let fates = (course_of stop meddles).fates in
    record {
      issued = ap (λ (w : WorldState). w.issued) e;
      count = ap (λ (w : WorldState). w.digests.count) e
          ∙ count_none i (moves_seen fates (reading_steps i.variant) 1) old.digests (seen_none fates (reading_steps i.variant) 1);
    }

pub stays : (event : Event) (old new : WorldState) → WorldLacksMemory event old new → Stays old new
stays (Ask meddles stop offer b) old new w = elim w [ inl e ↦ same_stays old new e | inr e ↦ read_stays old new meddles stop e ]
stays Power old new e = absurd e
stays event old new e = same_stays old new e

-- what an event leaves, where few requests are committed
module _ (old new : WorldState) (event : Event) (said : Reply) (events : ℕ) (fits : old.digests.count ≤ most_members * events)
    (few : events ≤ most_events) (more : (held.outcome_in old event).state.count ≤ old.digests.count + most_members)
    (f : WorldFollows (held.outcome_in old event) old new said) where
  same : new.digests ≡ (held.outcome_in old event).state
  same = f.digests ∙ ap (λ (n : ℕ). record (held.outcome_in old event).state { count = n })
      (min-eq_left (let h : (held.outcome_in old event).state.count ≤ 2 ^ 64 - 1 = omega (arith, fits, few, more) in h))

  pub fits_after : new.digests.count ≤ most_members * (events + 1)
  fits_after = omega (arith, fits, more, ap (λ (d : Digests). d.count) same)

  pub stands_after : replay_state_in new (events + 1) ≡ replay_state_after (replay_state_in old events) event
  stands_after = λ j. record { header = f.header j; digests = same j; issued = f.issued j; events = events + 1 }

-- where memory was wanting nothing is issued or committed
pub keeps_still : (event : Event) (old new : WorldState) (events : ℕ) → KeepsWorld old events → WorldLacksMemory event old new
    → KeepsWorld new events
keeps_still event old new events k w =
    let s = stays event old new w in
    record {
      few = k.few;
      one_each = omega (arith, ap (λ (x : List (List ℕ)). length x) s.issued, k.one_each);
      fits = omega (arith, s.count, k.fits);
    }

-- an event was followed: no more was committed and issued than it can
pub keeps_on : (old new : WorldState) (event : Event) (said : Reply) (r : ReplayState) (events : ℕ) → KeepsWorld old events
    → replay_state_in old events ≡ r → r.events < most_events → length new.issued ≤ length old.issued + 1
    → (held.outcome_in old event).state.count ≤ old.digests.count + most_members → WorldFollows (held.outcome_in old event) old new said
    → KeepsWorld new (events + 1)
keeps_on old new event said r events k view few one more f =
    let less : events < most_events = omega (arith, few, ap (λ (x : ReplayState). x.events) view) in
    record {
      few = omega (arith, less);
      one_each = omega (arith, one, k.one_each);
      fits = fits_after old new event said events k.fits k.few more f;
    }
