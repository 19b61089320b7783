-- A life in which programs are killed, each at whatever moment. With it: a call for a request, and
-- a checkpoint, that are killed at any of their steps; a session that is killed at any moment is
-- one that ended there.
use Rattle.std.specs.Io.KnownBytes.{Appends}
use Rattle.std.specs.List.{Contains}
use Rattle.std.specs.Prelude.{◌≡◌, ℕ, List, [], ◌∷◌, Option, None, Some, Result, Ok, Err, ◌++◌, ◌⊎◌, ◌+◌}
use Rattle.mm_opt.specs.declared.segment.CheckpointRefusal.TheVariants as closing
use Rattle.mm_opt.specs.declared.segment.Segment.TheVariants.{Open}
use Rattle.mm_killed.specs.DeviceCalls.{DeviceCall, Writes}
use Rattle.mm_recovery.specs.declared.fault.HostFault.TheVariants.{Store}
use Rattle.mm_host.specs.declared.fault.SessionFault.TheVariants.{Host}
use Rattle.mm_life.specs.Laws.{OffersSlots}
use Rattle.mm_moments.specs.Below.{Variant, IsLawful, Meaning, Standing, StepGoes, Off, ReadCell, ReadRegister, WriteCell, Answer, Refusal}
use Rattle.mm_moments.specs.Below.{Device, HostStanding, IsCall, IsCheckpointOnCourse, ClosesSegment, EndsLooking, CheckpointRefusal}
use Rattle.mm_moments.specs.Below.{Checkpointed, Segment, IsSession, SessionFault, SessionStanding, session_standing, IsInHandOf}
use Rattle.mm_moments.specs.Below.{first_bytes, served_calls_of, session_calls, told_calls, StoreStanding, host_standing, LifeCall, Reply}
use Rattle.mm_moments.specs.Below.{told_replies, part_replies, WaitsInSlots, IsNotBeyond, LeavesNoChance, reached_position, Holds, IsLife}
use Rattle.mm_moments.specs.Below.{LifePart, LifeStage, PartLeads, ProgramStanding, part_calls, program_standing, session_on, PendingRecord}
use Rattle.mm_moments.specs.Below.{Slots}
use Rattle.mm_moments.specs.Moments.{MomentLeaves, StepMoment, call_moments, step_moment, Moment, moments}

-- A call for a request, and a checkpoint, that are killed at any of their steps; and a kill between
-- two calls of devices.

-- Anybody's call: its device broke it off.
abbrev pub CallStopsAnywhere : Type 0
CallStopsAnywhere =
    (variant : Variant) (meaning : Meaning) → IsLawful meaning → (old end new : Standing)
    (offer request : List ℕ) (result : Result Answer Refusal)
    (call : IsCall variant meaning old end offer request result) (moment : StepMoment) →
    Contains (call_moments call) moment → StepGoes moment.act moment.at new (Some Off) →
    IsCall variant meaning old new offer request (Err (Device Off))

-- the steps of a checkpoint: it reads the cell; the register, where a segment is open; and writes
-- what closes it
abbrev pub writing_moments : Result (List ℕ) CheckpointRefusal → Standing → List StepMoment
writing_moments (Ok next) at = step_moment at (WriteCell next) ∷ []
writing_moments (Err why) at = []

abbrev pub segment_moments : (found : Result Segment CheckpointRefusal) (old new : Standing)
    (result : Result Checkpointed CheckpointRefusal) → EndsLooking found old new result
    → List StepMoment
segment_moments (Ok (Open cell)) old new result e =
    step_moment old ReadRegister ∷ writing_moments e.found e.middle
segment_moments found old new result e = []

abbrev pub checkpoint_moments : {old new : Standing}
    {result : Result Checkpointed CheckpointRefusal} → ClosesSegment old new result
    → List StepMoment
checkpoint_moments {old} {new} {result} c =
    step_moment old ReadCell ∷ segment_moments c.found c.middle new result c.ends

-- A checkpoint that its device broke off: by its steps, as the clause `closes` says of one; and
-- from any history.
pub record IsBrokenCheckpoint (old new : Standing) : Type 0 where
  pub closes : ClosesSegment old new (Err (closing.Device Off))
  pub goes : IsCheckpointOnCourse old new (Err (closing.Device Off))

abbrev pub CheckpointStopsAnywhere : Type 0
CheckpointStopsAnywhere =
    (old end new : Standing) (result : Result Checkpointed CheckpointRefusal)
    (closes : ClosesSegment old end result) (moment : StepMoment) →
    Contains (checkpoint_moments closes) moment → StepGoes moment.act moment.at new (Some Off) →
    IsBrokenCheckpoint old new

-- Two hosts tell the same, but for counts and room.
pub record HostTellsSame (one other : HostStanding) : Type 0 where
  pub cell : one.standing.cell ≡ other.standing.cell
  pub items : one.standing.items ≡ other.standing.items
  pub is_on : one.standing.is_on ≡ other.standing.is_on
  pub slots : one.kept.slots ≡ other.kept.slots
  pub is_honest : one.kept.is_honest ≡ other.kept.is_honest
  pub unsynced : one.kept.unsynced ≡ other.kept.unsynced

-- A kill at this call left all as it was, but for counts.
pub record KillLeavesAll (next : Option DeviceCall) (at : HostStanding) : Type 0 where
  pub left : HostStanding
  pub leaves : MomentLeaves next at left []
  pub same : HostTellsSame left at

-- Before any call, over a platform that doesn't tell its plan.
abbrev pub KilledBetweenCalls : Type 0
KilledBetweenCalls =
    (next : Option DeviceCall) (at : HostStanding) → at.standing.plan ≡ None
    → KillLeavesAll next at

-- A session that is killed at any moment is one that ended there.

-- It is killed at one of its moments: its host is left so, and this its output received. It would
-- have gone on so, and ended.
pub record IsKilledSession (variant : Variant) (meaning : Meaning) (old : SessionStanding)
    (host : HostStanding) (received : Option (List ℕ)) : Type 0 where
  pub end : SessionStanding
  pub result : Result Unit SessionFault
  pub whole : IsSession variant meaning old end result
  pub moment : Moment
  pub among : Contains (moments whole) moment
  pub sent : List ℕ
  pub leaves : MomentLeaves moment.next moment.host host sent
  pub appended : Appends old.received received (moment.sent ++ sent)

abbrev pub IsWriteOfSlot : Option DeviceCall → Type 0
IsWriteOfSlot (Some (Writes slot bytes)) = Unit {0}
IsWriteOfSlot next = ⊥

-- A session ended by a fault, and left the same. It told what was told by the moment, and made the
-- calls that were made by then; the request in hand is the moment's; and the store failed only
-- where a slot was written.
pub record SessionStops (variant : Variant) (meaning : Meaning) (old : SessionStanding)
    (host : HostStanding) (received : Option (List ℕ)) (moment : Moment)
    (offer : List ℕ) : Type 0 where
  pub left : Option (List ℕ)
  pub fault : SessionFault
  pub stops : IsSession variant meaning old
      (session_standing host.standing host.kept left received) (Err fault)
  pub told : served_calls_of stops ≡ moment.told
  pub calls : session_calls stops ≡ told_calls offer moment.told ++ moment.untold
  pub hand : (request : List ℕ) → IsInHandOf stops request → moment.hand ≡ Some request
  pub stored : fault ≡ Host Store → IsWriteOfSlot moment.next

abbrev pub SessionStopsAnywhere : Type 0
SessionStopsAnywhere =
    (variant : Variant) (meaning : Meaning) → IsLawful meaning → (old : SessionStanding)
    (host : HostStanding) (received : Option (List ℕ))
    (killed : IsKilledSession variant meaning old host received) →
    SessionStops variant meaning old host received killed.moment (first_bytes killed.whole)

-- None of it is void: a session may be killed at each of its moments, over a platform that doesn't
-- tell its plan.
pub record MayBeKilledAt (variant : Variant) (meaning : Meaning) (old : SessionStanding)
    (moment : Moment) : Type 0 where
  pub host : HostStanding
  pub received : Option (List ℕ)
  pub killed : IsKilledSession variant meaning old host received
  pub is : killed.moment ≡ moment

abbrev pub MayBeKilledAnywhere : Type 0
MayBeKilledAnywhere =
    (variant : Variant) (meaning : Meaning) (old end : SessionStanding)
    (result : Result Unit SessionFault) (whole : IsSession variant meaning old end result)
    (moment : Moment) → Contains (moments whole) moment → moment.host.standing.plan ≡ None →
    MayBeKilledAt variant meaning old moment

-- A life in which programs are killed, each at whatever moment. It is a life in which each of them
-- ended there.

-- A program that was killed in its session: what its objects told before it, what it left in its
-- store, and what its output received.
pub record KilledProgram : Type 0 where
  pub old : ProgramStanding
  pub kept : StoreStanding
  pub received : Option (List ℕ)

-- a program ends by itself, or a deed is done; or a program is killed
pub data MortalPart : Type 0 where
  Lives : LifePart → MortalPart
  Dies : KilledProgram → MortalPart

pub record MortalStage : Type 0 where
  pub part : MortalPart
  pub after : Standing

abbrev pub MortalPartLeads : Variant → Meaning → Standing → MortalPart → Standing → Type 0
MortalPartLeads variant meaning old (Lives part) new = PartLeads variant meaning old part new
MortalPartLeads variant meaning old (Dies p) new =
    IsKilledSession variant meaning (session_on old p.old) (host_standing new p.kept) p.received

abbrev pub IsMortalLife : Variant → Meaning → Standing → List MortalStage → Type 0
IsMortalLife variant meaning start [] = Unit {0}
IsMortalLife variant meaning start (stage ∷ stages) =
    MortalPartLeads variant meaning start stage.part stage.after
    × IsMortalLife variant meaning stage.after stages

-- the calls that were made by the kill, told or not; and what was told
abbrev pub killed_calls : {variant : Variant} {meaning : Meaning} {old : SessionStanding}
    {host : HostStanding} {received : Option (List ℕ)}
    → IsKilledSession variant meaning old host received → List LifeCall
killed_calls k = told_calls (first_bytes k.whole) k.moment.told ++ k.moment.untold

-- What a killed session offered first is what its slots showed; or it made no call.
abbrev pub KilledOfferSlots : Type 0
KilledOfferSlots =
    (variant : Variant) (meaning : Meaning) → IsLawful meaning → (old : SessionStanding)
    (host : HostStanding) (received : Option (List ℕ))
    (k : IsKilledSession variant meaning old host received) (slots : Slots) →
    old.kept.slots ≡ Some slots → (killed_calls k ≡ []) ⊎ OffersSlots slots (killed_calls k)

abbrev pub mortal_part_calls : (variant : Variant) (meaning : Meaning) (old : Standing)
    (part : MortalPart) (new : Standing) → MortalPartLeads variant meaning old part new
    → List LifeCall
mortal_part_calls variant meaning old (Lives part) new f = part_calls variant meaning old part new f
mortal_part_calls variant meaning old (Dies p) new k = killed_calls k

abbrev pub mortal_calls : (variant : Variant) (meaning : Meaning) (start : Standing)
    (stages : List MortalStage) → IsMortalLife variant meaning start stages → List LifeCall
mortal_calls variant meaning start [] f = []
mortal_calls variant meaning start (stage ∷ stages) f =
    mortal_part_calls variant meaning start stage.part stage.after f.0
    ++ mortal_calls variant meaning stage.after stages f.1

abbrev pub mortal_part_replies : (variant : Variant) (meaning : Meaning) (old : Standing)
    (part : MortalPart) (new : Standing) → MortalPartLeads variant meaning old part new
    → List Reply
mortal_part_replies variant meaning old (Lives part) new f =
    part_replies variant meaning old part new f
mortal_part_replies variant meaning old (Dies p) new k = told_replies k.moment.told

abbrev pub mortal_replies : (variant : Variant) (meaning : Meaning) (start : Standing)
    (stages : List MortalStage) → IsMortalLife variant meaning start stages → List Reply
mortal_replies variant meaning start [] f = []
mortal_replies variant meaning start (stage ∷ stages) f =
    mortal_part_replies variant meaning start stage.part stage.after f.0
    ++ mortal_replies variant meaning stage.after stages f.1

-- A part that lives is what it is. A killed program is one that ended by a fault, from the same
-- objects, and left the same; and its store failed only where the kill was in a write.
abbrev pub IsPartFor : (variant : Variant) (meaning : Meaning) (old : Standing) (part : MortalPart)
    (new : Standing) → MortalPartLeads variant meaning old part new → LifePart → Type 0
IsPartFor variant meaning old (Lives part) new f ended = ended ≡ part
IsPartFor variant meaning old (Dies p) new k ended =
    (left : Option (List ℕ)) × (fault : SessionFault)
    × (ended ≡ Holds (record {
      old = p.old;
      new = program_standing p.kept left p.received;
      result = Err fault;
    }))
    × (fault ≡ Host Store → IsWriteOfSlot k.moment.next)

-- Where a kill was in a write of a slot, the bytes that it left aren't by chance a record of a
-- later position than that of the request in hand.
abbrev pub MortalLeavesNoChance : (variant : Variant) (meaning : Meaning) (old : Standing)
    (part : MortalPart) (new : Standing) → MortalPartLeads variant meaning old part new → Type 0
MortalLeavesNoChance variant meaning old (Lives part) new f =
    LeavesNoChance variant meaning old part new f
MortalLeavesNoChance variant meaning old (Dies p) new k =
    IsWriteOfSlot k.moment.next → (waiting : Option PendingRecord)
    → WaitsInSlots p.old.kept.slots waiting →
    (slots : Slots) → p.kept.slots ≡ Some slots →
    IsNotBeyond slots (reached_position waiting k.moment.told + 1)

-- So a part ends: its calls and what it told are the same, and what is asked of its store.
pub record PartEnds (variant : Variant) (meaning : Meaning) (old : Standing) (part : MortalPart)
    (new : Standing) (f : MortalPartLeads variant meaning old part new) : Type 0 where
  pub ended : LifePart
  pub leads : PartLeads variant meaning old ended new
  pub is : IsPartFor variant meaning old part new f ended
  pub calls : part_calls variant meaning old ended new leads
      ≡ mortal_part_calls variant meaning old part new f
  pub replies : part_replies variant meaning old ended new leads
      ≡ mortal_part_replies variant meaning old part new f
  pub chance : MortalLeavesNoChance variant meaning old part new f
      → LeavesNoChance variant meaning old ended new leads

abbrev pub LifeEnds : (variant : Variant) (meaning : Meaning) (start : Standing)
    (stages : List MortalStage) → IsMortalLife variant meaning start stages → Type 0
LifeEnds variant meaning start [] f = Unit {0}
LifeEnds variant meaning start (stage ∷ stages) f =
    PartEnds variant meaning start stage.part stage.after f.0
    × LifeEnds variant meaning stage.after stages f.1

-- the life in which each part ended so
abbrev pub ended_stages : (variant : Variant) (meaning : Meaning) (start : Standing)
    (stages : List MortalStage) (f : IsMortalLife variant meaning start stages)
    → LifeEnds variant meaning start stages f → List LifeStage
ended_stages variant meaning start [] f e = []
ended_stages variant meaning start (stage ∷ stages) f e =
    record { part = e.0.ended; after = stage.after }
    ∷ ended_stages variant meaning stage.after stages f.1 e.1

abbrev pub ended_life : (variant : Variant) (meaning : Meaning) (start : Standing)
    (stages : List MortalStage) (f : IsMortalLife variant meaning start stages)
    (e : LifeEnds variant meaning start stages f)
    → IsLife variant meaning start (ended_stages variant meaning start stages f e)
ended_life variant meaning start [] f e = tt
ended_life variant meaning start (stage ∷ stages) f e =
    (e.0.leads, ended_life variant meaning stage.after stages f.1 e.1)

-- Each life with killed programs is one in which they ended.
abbrev pub MortalLivesEnd : Type 0
MortalLivesEnd =
    (variant : Variant) (meaning : Meaning) → IsLawful meaning → (start : Standing)
    (stages : List MortalStage) (f : IsMortalLife variant meaning start stages) →
    LifeEnds variant meaning start stages f
