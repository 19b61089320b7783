-- A host that is killed at one of its calls stops there, as a device failed or memory was wanting.
use Rattle.std.specs.List.{AllByRecursion}
use Rattle.std.proofs.Common.{◌≡◌, ◌+◌, ◌%◌, ℕ, List, [], Option, None, Some, Result, Ok, Err, refl, subst, sym, ap, map}
use Rattle.mm_killed.specs.DeviceCalls.{DeviceCall, Reads, Steps, Writes}
use Rattle.mm_digest.specs.declared.variant.Variant.{Variant}
use Rattle.mm_platform.specs.Standing.{Standing}
use Rattle.mm_platform.specs.declared.fault.StepFault.TheVariants.{Off}
use Rattle.mm_module.specs.Meaning.{IsLawful, Meaning}
use Rattle.mm_model.specs.ListLaws.{each_append}
use Rattle.mm_model.specs.declared.answer.Answer.{Answer}
use Rattle.mm_model.specs.declared.refusal.Refusal.{Refusal}
use Rattle.mm_model.specs.declared.refusal.Refusal.TheVariants.{Device}
use Rattle.mm_store.specs.StoreStanding.{ReadsSlot, WritesSlot, StoreStanding}
use Rattle.mm_store.specs.PendingRecord.{PendingRecord, pending_spelling}
use Rattle.mm_store.specs.declared.fault.StoreFault.{StoreFault}
use Rattle.mm_store.specs.declared.fault.StoreFault.TheVariants as fault
use Rattle.mm_recovery.specs.HostStanding.{IsCall, HostStanding, host_standing, position_at, snapshot_at, AsksNextRequest}
use Rattle.mm_recovery.specs.HostStanding.{HostGoesAfterRecord, record_for, AsksAndKeepsAnswer, HostGoesAfterFinding, HostGoesAfterOffer}
use Rattle.mm_recovery.specs.HostStanding.{HostResumes, offer_slot}
use Rattle.mm_recovery.specs.declared.fault.HostFault.{HostFault}
use Rattle.mm_recovery.specs.declared.fault.HostFault.TheVariants.{Memory, Refused, Store}
use Rattle.mm_recovery.specs.declared.resuming.Resumed.{Resumed}
use Rattle.mm_host.specs.Sessions.{reply_text}
use Rattle.mm_life.specs.Deeds.{LifeCall, first_calls, found_record, line_calls, one_call}
use Rattle.mm_moments.specs.MortalLives.{IsWriteOfSlot}
use Rattle.mm_moments.specs.Moments.{HostMoment, MomentLeaves, StepMoment, asking_moments, call_moments, first_moments, found_moments}
use Rattle.mm_moments.specs.Moments.{in_host, keeping_moments, line_moments, offered_moments, recorded_moments, third_slot_moments}
use Rattle.mm_moments.proofs.Counting.{CallStops, call_stops, each_map, each_so}

-- nothing is told of the fault, nothing was sent, and the store failed only where a slot was written
pub record IsSilent (next : DeviceCall) (why : HostFault) (sent : List ℕ) : Type 0 where
  pub quiet : reply_text (Err why) ≡ []
  pub silent : sent ≡ []
  pub stored : why ≡ Store → IsWriteOfSlot (Some next)

-- The host stopped by a fault, and had made the calls that were made by the moment.
pub record HostStops (Goes : HostStanding → HostFault → Type 0)
    (calls : (new : HostStanding) (why : HostFault) → Goes new why → List LifeCall) (m : HostMoment) (new : HostStanding)
    (sent : List ℕ) : Type 0 where
  pub why : HostFault
  pub goes : Goes new why
  pub made : calls new why goes ≡ m.untold
  pub ends : IsSilent m.next why sent

abbrev pub HostStopsAt : (Goes : HostStanding → HostFault → Type 0)
    → ((new : HostStanding) (why : HostFault) → Goes new why → List LifeCall) → HostMoment → Type 0
HostStopsAt Goes calls m =
    (new : HostStanding) (sent : List ℕ) → MomentLeaves (Some m.next) m.host new sent → HostStops Goes calls m new sent

silent_device : (next : DeviceCall) (sent : List ℕ) → sent ≡ [] → IsSilent next (Refused (Device Off)) sent
silent_device next sent silent = record { quiet = refl; silent = silent; stored = λ e. absurd (cc) }

silent_memory : (next : DeviceCall) (sent : List ℕ) → sent ≡ [] → IsSilent next Memory sent
silent_memory next sent silent = record { quiet = refl; silent = silent; stored = λ e. absurd (cc) }

silent_store : (slot : ℕ) (bytes sent : List ℕ) → sent ≡ [] → IsSilent (Writes slot bytes) Store sent
silent_store slot bytes sent silent = record { quiet = refl; silent = silent; stored = λ e. tt }

-- a read for which memory is wanting
lacking : (slot : ℕ) (old : StoreStanding) → ReadsSlot slot old old (Err fault.Memory)
lacking slot old = record { slots = refl; honest = refl; counted = refl; gives = tt; short = tt; unsynced = refl }

module _ (variant : Variant) (meaning : Meaning) (lawful : IsLawful meaning) where
  -- a request that is asked
  module _ (old : HostStanding) (offer request : List ℕ) where
    abbrev pub Asks : HostStanding → HostFault → Type 0
    Asks new why = AsksAndKeepsAnswer variant meaning old new offer request (Err why)

    abbrev pub asked_calls : (new : HostStanding) (why : HostFault) → Asks new why → List LifeCall
    asked_calls new why a = one_call a

    step_stops : (m : StepMoment) → CallStops variant meaning lawful old.standing offer request m
        → HostStopsAt Asks asked_calls (in_host old.kept offer request m)
    step_stops m stops new sent l = record {
      why = Refused (Device Off);
      goes = record { asked = Err (Device Off); asks = stops new.standing l.2; goes = (l.0, refl) };
      made = refl;
      ends = silent_device (Steps m.act) sent l.1;
    }

    keeping_stops : (asked : Result Answer Refusal) (after : Standing) → IsCall variant meaning old.standing after offer request asked
        → AllByRecursion (HostStopsAt Asks asked_calls) (keeping_moments asked (host_standing after old.kept) offer request)
    keeping_stops (Ok answer) after c = (
      λ new sent l. record {
        why = Store;
        goes = record {
          asked = Ok answer;
          asks = subst (λ (x : Standing). IsCall variant meaning old.standing x offer request (Ok answer)) (sym l.0) c;
          goes = record { written = Err fault.Failed; writes = l.2; gives = refl };
        };
        made = refl;
        ends = silent_store (answer.position % 2) answer.snapshot sent l.1;
      },
      tt,
    )
    keeping_stops (Err why) after c = tt

    pub asking_stops : (end : HostStanding) (result : Result Resumed HostFault)
        (a : AsksAndKeepsAnswer variant meaning old end offer request result)
        → AllByRecursion (HostStopsAt Asks asked_calls) (asking_moments a)
    asking_stops end result a =
        each_append (HostStopsAt Asks asked_calls) (map (in_host old.kept offer request) (call_moments a.asks))
        (keeping_moments a.asked (host_standing end.standing old.kept) offer request)
        (each_map (in_host old.kept offer request) (HostStopsAt Asks asked_calls) (call_moments a.asks)
        (each_so (CallStops variant meaning lawful old.standing offer request)
        (λ (m : StepMoment). HostStopsAt Asks asked_calls (in_host old.kept offer request m)) step_stops (call_moments a.asks)
        (call_stops variant meaning lawful old.standing offer request end.standing a.asked a.asks)))
        (keeping_stops a.asked end.standing a.asks)

  -- a line
  module _ (old : HostStanding) (last : Resumed) (line : List ℕ) where
    abbrev pub AsksLine : HostStanding → HostFault → Type 0
    AsksLine new why = AsksNextRequest variant meaning old new last line (Err why)

    abbrev pub calls_of_line : (new : HostStanding) (why : HostFault) → AsksLine new why → List LifeCall
    calls_of_line new why a = line_calls a

    recorded_stops : (recorded : Result Unit StoreFault) (middle : StoreStanding) (end : HostStanding) (result : Result Resumed HostFault)
        → WritesSlot (2 + (position_at last + 1) % 2) (pending_spelling (record_for last line)) old.kept middle recorded
        → (g : HostGoesAfterRecord variant meaning recorded (record old { kept = middle }) end last line result)
        → AllByRecursion (HostStopsAt AsksLine calls_of_line)
        (recorded_moments variant meaning recorded (record old { kept = middle }) end last line result g)
    recorded_stops (Ok it) middle end result records g =
        each_so (HostStopsAt (Asks (record old { kept = middle }) (snapshot_at last) line)
        (asked_calls (record old { kept = middle }) (snapshot_at last) line)) (HostStopsAt AsksLine calls_of_line)
        (λ m stops new sent l. let s = stops new sent l in record {
          why = s.why;
          goes = record { middle = middle; recorded = Ok it; records = records; goes = s.goes };
          made = s.made;
          ends = s.ends;
        }) (asking_moments g) (asking_stops (record old { kept = middle }) (snapshot_at last) line end result g)
    recorded_stops (Err why) middle end result records g = tt

    pub line_stops : (end : HostStanding) (result : Result Resumed HostFault)
        (a : AsksNextRequest variant meaning old end last line result)
        → AllByRecursion (HostStopsAt AsksLine calls_of_line) (line_moments a)
    line_stops end result a = (
      λ new sent l. record {
        why = Store;
        goes = record {
          middle = new.kept;
          recorded = Err fault.Failed;
          records = l.2;
          goes = (ap (λ (x : Standing). host_standing x new.kept) l.0, refl);
        };
        made = refl;
        ends = silent_store (2 + (position_at last + 1) % 2) (pending_spelling (record_for last line)) sent l.1;
      },
      recorded_stops a.recorded a.middle end result a.records a.goes,
    )

  -- what waits, once it was found
  module _ (waiting : Result (Option PendingRecord) StoreFault) (middle : HostStanding) where
    abbrev Finds : HostStanding → HostFault → Type 0
    Finds new why = HostGoesAfterFinding variant meaning waiting middle new (Err why)

    abbrev calls_found : (new : HostStanding) (why : HostFault) → Finds new why → List LifeCall
    calls_found new why g = first_calls variant meaning waiting middle new (Err why) g

  -- the request that waits, where what is offered for it was read so
  offered_stops : (p : PendingRecord) (middle : HostStanding) (kept : StoreStanding) (offer : Result (List ℕ) StoreFault)
      (end : HostStanding) (result : Result Resumed HostFault) → ReadsSlot (offer_slot p) middle.kept kept offer
      → (g : HostGoesAfterOffer variant meaning offer (record middle { kept = kept }) end p result)
      → AllByRecursion (HostStopsAt (Finds (Ok (Some p)) middle) (calls_found (Ok (Some p)) middle))
      (offered_moments variant meaning offer (record middle { kept = kept }) end p result g)
  offered_stops p middle kept (Ok offer) end result reads g =
      each_so (HostStopsAt (Asks (record middle { kept = kept }) offer p.request)
      (asked_calls (record middle { kept = kept }) offer p.request))
      (HostStopsAt (Finds (Ok (Some p)) middle) (calls_found (Ok (Some p)) middle))
      (λ m stops new sent l. let s = stops new sent l in record {
        why = s.why;
        goes = record { middle = kept; offer = Ok offer; reads = reads; goes = s.goes };
        made = s.made;
        ends = s.ends;
      }) (asking_moments g) (asking_stops (record middle { kept = kept }) offer p.request end result g)
  offered_stops p middle kept (Err why) end result reads g = tt

  found_stops : (waiting : Result (Option PendingRecord) StoreFault) (middle end : HostStanding) (result : Result Resumed HostFault)
      (g : HostGoesAfterFinding variant meaning waiting middle end result)
      → AllByRecursion (HostStopsAt (Finds waiting middle) (calls_found waiting middle))
      (found_moments variant meaning waiting middle end result g)
  found_stops (Ok (Some p)) middle end result g = (
    λ new sent l. record {
      why = Memory;
      goes = record { middle = middle.kept; offer = Err fault.Memory; reads = lacking (offer_slot p) middle.kept; goes = (l.0, refl) };
      made = refl;
      ends = silent_memory (Reads (offer_slot p)) sent l.1;
    },
    offered_stops p middle g.middle g.offer end result g.reads g.goes,
  )
  found_stops (Ok None) middle end result g = (
    λ new sent l. record {
      why = Memory;
      goes = (
        ap (λ (x : HostStanding). x.standing) l.0,
        record {
          zero = Err fault.Memory;
          reads = subst (λ (x : HostStanding). ReadsSlot 0 middle.kept x.kept (Err fault.Memory)) (sym l.0) (lacking 0 middle.kept);
          gives = refl;
        },
      );
      made = refl;
      ends = silent_memory (Reads 0) sent l.1;
    },
    tt,
  )
  found_stops (Err why) middle end result g = tt

  -- a recovery, and what waits, where it found the same
  module _ (old : HostStanding) (waiting : Result (Option PendingRecord) StoreFault) where
    pub record Resumes (new : HostStanding) (why : HostFault) : Type 0 where
      pub resumes : HostResumes variant meaning old new (Err why)
      pub same : (p : PendingRecord) → found_record resumes.waiting ≡ Some p → found_record waiting ≡ Some p

    abbrev pub resumed_calls : (new : HostStanding) (why : HostFault) → Resumes new why → List LifeCall
    resumed_calls new why r =
        first_calls variant meaning r.resumes.waiting (record old { kept = r.resumes.middle }) new (Err why) r.resumes.goes

    abbrev pub StopsEarly : HostMoment → Type 0
    StopsEarly m = HostStopsAt Resumes resumed_calls m

  third_stops : (old : HostStanding) (waiting : Result (Option PendingRecord) StoreFault) (two : Result (List ℕ) StoreFault)
      (middle : StoreStanding) → ReadsSlot 2 old.kept middle two
      → AllByRecursion (StopsEarly old waiting) (third_slot_moments two (record old { kept = middle }))
  third_stops old waiting (Ok two) middle reads = (
    λ new sent l. record {
      why = Memory;
      goes = record {
        resumes = record {
          middle = middle;
          waiting = Err fault.Memory;
          finds = record {
            middle = middle;
            two = Ok two;
            reads = reads;
            goes = record { three = Err fault.Memory; reads = lacking 3 middle; goes = refl };
          };
          goes = (l.0, refl);
        };
        same = λ p e. absurd (cc);
      };
      made = refl;
      ends = silent_memory (Reads 3) sent l.1;
    },
    tt,
  )
  third_stops old waiting (Err why) middle reads = tt

  pub first_stops : (old end : HostStanding) (result : Result Resumed HostFault) (r : HostResumes variant meaning old end result)
      → AllByRecursion (StopsEarly old r.waiting) (first_moments r)
  first_stops old end result r = (
    λ new sent l. record {
      why = Memory;
      goes = record {
        resumes = record {
          middle = old.kept;
          waiting = Err fault.Memory;
          finds = record { middle = old.kept; two = Err fault.Memory; reads = lacking 2 old.kept; goes = (refl, refl) };
          goes = (l.0, refl);
        };
        same = λ p e. absurd (cc);
      };
      made = refl;
      ends = silent_memory (Reads 2) sent l.1;
    },
    each_append (StopsEarly old r.waiting) (third_slot_moments r.finds.two (record old { kept = r.finds.middle }))
        (found_moments variant meaning r.waiting (record old { kept = r.middle }) end result r.goes)
        (third_stops old r.waiting r.finds.two r.finds.middle r.finds.reads)
        (each_so (HostStopsAt (Finds r.waiting (record old { kept = r.middle })) (calls_found r.waiting (record old { kept = r.middle })))
        (StopsEarly old r.waiting)
        (λ m stops new sent l. let s = stops new sent l in record {
          why = s.why;
          goes = record {
            resumes = record { middle = r.middle; waiting = r.waiting; finds = r.finds; goes = s.goes };
            same = λ p e. e;
          };
          made = s.made;
          ends = s.ends;
        }) (found_moments variant meaning r.waiting (record old { kept = r.middle }) end result r.goes)
        (found_stops r.waiting (record old { kept = r.middle }) end result r.goes)),
  )
