-- The laws of slots that fit a history.
use Rattle.std.specs.Prelude.{◌≡◌, ℕ, true, false, List, [], ◌∷◌, Option, None, Some}
use Rattle.std.specs.List.{Contains}
use Rattle.mm_recovery.specs.Below.{start_message, Variant, Basic, Opt, Batch, Meaning, History, Move, history_after, Instance, IsClear}
use Rattle.mm_recovery.specs.Below.{AreNoGuards, MayMove, IsSound, IsGenuine, has_commit, instance_by, PendingRecord, Slots}
use Rattle.mm_recovery.specs.HostStanding.{first_offer, FitsHistory}
use Rattle.mm_recovery.specs.FirstStart.{Devices, host_among, instance_from, first_history_on, first_slots, ShowsValues, InstanceBegins}
use Rattle.mm_recovery.specs.Recovery.{CanRecover}

-- the slots fit the history, and this waits
pub record FitsWith (i : Instance) (slots : Slots) (y : History) (waiting : Option PendingRecord) : Type 0
  where
    pub fits : FitsHistory i slots y
    pub waits : fits.waiting ≡ waiting

-- A move comes to a history: in Opt to a sound one, and it is one that may be made.
abbrev pub MayCome : Variant → Instance → History → Move → Type 0
MayCome Basic i y m = Unit {0}
MayCome Opt i y m = IsSound y × MayMove i y m

-- A move that commits nothing keeps them so: a value of others, a loss of power, what closes a
-- segment.
abbrev pub KeepsFitting : Type 0
KeepsFitting =
    (variant : Variant) (meaning : Meaning) (key barrier : List ℕ) (y : History) (m : Move)
    (slots : Slots) (waiting : Option PendingRecord) →
    (let i = instance_by variant meaning key barrier in
    MayCome variant i y m → has_commit (m ∷ []) ≡ false → FitsWith i slots y waiting →
    FitsWith i slots (history_after i y m) waiting)

-- Slots that fit a history offer first what is genuine for it: it names a position, if it is right.
abbrev pub FittingAreGenuine : Type 0
FittingAreGenuine =
    (i : Instance) (y : History) (slots : Slots) (fits : FitsHistory i slots y) →
    IsGenuine i y (first_offer slots fits.waiting)

-- And that stays genuine at each history that moves lead to, commits among them: so what is offered
-- first by an old copy is genuine for whatever the platform stands for now.
abbrev pub StaysGenuine : Type 0
StaysGenuine =
    (variant : Variant) (meaning : Meaning) (key barrier : List ℕ) (y : History) (m : Move)
    (offer : List ℕ) →
    (let i = instance_by variant meaning key barrier in
    MayCome variant i y m → IsGenuine i y offer → IsGenuine i (history_after i y m) offer)

-- From what a first start leaves over an honest store a recovery can go on, and nothing waits.
pub record CanStart (all others : List (List ℕ)) (asked : List Batch) (i : Instance) (y : History)
    (after : Devices) : Type 0 where
  pub can : CanRecover all others asked i y (first_slots i) (host_among after)
  pub nothing_waits : can.fits.waiting ≡ None

abbrev pub FirstStartsCanGoOn : Type 0
FirstStartsCanGoOn =
    (variant : Variant) (meaning : Meaning) (before after : Devices)
    (begun : InstanceBegins variant meaning before after)
    (cell : List ℕ) (slots : Slots) (values all others : List (List ℕ)) (asked : List Batch) →
    before.platform.cell ≡ Some cell → ShowsValues variant after.platform values →
    before.store.is_honest ≡ true → before.store.slots ≡ Some slots →
    IsClear all → AreNoGuards (instance_from variant meaning begun.secrets).barrier others asked →
    Contains all (start_message variant meaning.id) →
    CanStart all others asked (instance_from variant meaning begun.secrets) (first_history_on values) after
