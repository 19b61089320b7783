-- What `checkpoint` tells of what the cell and the register held.
use Rattle.mm_app.proofs.Below.{◌≡◌, ◌∙◌, ℕ, Bool, true, false, List, Option, Some, Result, Ok, Err, refl, sym, ap, subst, inl, inr}
use Rattle.mm_app.proofs.Below.{◌⊎◌, arith, Held, CellFault, Checkpoint, Checkpointed, CheckpointRefusal, closing_by}
use Rattle.mm_app.proofs.Below.{result_of_closing_write, EndsClosing, EndsLooking, FindsClosing, LooksAtSegment, segment_by}
use Rattle.mm_app.proofs.Below.{segment_in, WeighsRegister, checkpoint_line, CommandDoes, Outside, Standing, Status, StepFault, TellsLines}
use Rattle.mm_app.proofs.Below.{Variant}
use Rattle.std.specs.Prelude.{◌++◌, map}
use Rattle.std.proofs.Common.{get_or}
use Rattle.std.specs.Option.{option_map}
use Rattle.std.specs.Str.{bytes_eq}
use Rattle.std.proofs.lemmas.Slice.Eq.{bytes_eq-Decides}
use Rattle.mm_digest.specs.Messages.{zero_bytes}
use Rattle.mm_digest.specs.declared.variant.Variant.TheVariants.{Basic, Opt}
use Rattle.mm_opt.specs.Checkpoints.{closed_cell, WritesClosing, LeavesStill}
use Rattle.mm_opt.specs.declared.segment.Checkpointed.TheVariants as said
use Rattle.mm_opt.specs.declared.segment.CheckpointRefusal.TheVariants as refusal
use Rattle.mm_opt.specs.declared.segment.Segment.{Segment}
use Rattle.mm_opt.specs.declared.segment.Segment.TheVariants.{Open, Shut}
use Rattle.mm_call.specs.CallFinding.{IsUntouched}
use Rattle.mm_platform.specs.Standing.{foreign_item, Item, item_values, register_after, items_beside, cell_after, WriteCell}
use Rattle.mm_seal.specs.Cell.{blank_cell, cell_spelling, flag_byte, ReadsCell, SpellsCell}
use Rattle.mm_seal.specs.CellLaws.{reads_cell-same}
use Rattle.mm_seal.specs.declared.cell.CellFault.TheVariants as unheld
use Rattle.mm_app.specs.StatusFacts.{HasLostPower, CantRead, EndsByFault, FindsBasic, IsExactlyWhere}
use Rattle.mm_status.specs.declared.status.Status.TheVariants.{Already, Blank, Cell, Kind, Lost, PlatformFault, Refused, Short}
use Rattle.mm_app.proofs.Completing.{is_zero}
use Rattle.mm_app.proofs.Holding.{by_fault_where, exactly_here, held_told, Holding, none_refused, nowhere, tells_held, some_items}

-- the flag of a cell's spelling
flag_spelled : (held : Held) → get_or (cell_spelling held) 6 0 ≡ flag_byte held.flag
unfolding cell_spelling
flag_spelled held = refl

flags_apart : (flag : Bool) (x y : ℕ) → flag ≡ true → x ≡ flag_byte flag → y ≡ flag_byte false → x ≡ y → ⊥
flags_apart true x y e a b same = absurd (omega arith)
flags_apart false x y e a b same = absurd (cc)

closed_shut : (held cell : Held) (register : List ℕ) → held.flag ≡ true → cell_spelling held ≡ closed_cell cell register → ⊥
closed_shut held cell register is_open e =
    flags_apart held.flag _ _ is_open (flag_spelled held) (flag_spelled _) (ap (λ (x : List ℕ). get_or x 6 0) e)

-- How it ended, by the segment of the cell: a device failed; nothing was done; power was lost; or it was closed.
data Closed (cell : List ℕ) (new : Standing) (answer : Result Checkpointed CheckpointRefusal) (found : Result Segment CheckpointRefusal)
    : Type 0 where
  failed : (fault : StepFault) → answer ≡ Err (refusal.Device fault) → Closed cell new answer found
  refused_as : (why : CheckpointRefusal) → found ≡ Err why → answer ≡ Err why → new.cell ≡ Some cell → Closed cell new answer found
  shut : found ≡ Ok Shut → answer ≡ Ok said.NoSegment → new.cell ≡ Some cell → Closed cell new answer found
  lost : (held : Held) → found ≡ Ok (Open held) → answer ≡ Err refusal.Lost → new.cell ≡ Some cell
      → ((items : List Item) → new.items ≡ Some items → register_after (item_values items) ≡ zero_bytes) → Closed cell new answer found
  done : (held : Held) (register : List ℕ) → found ≡ Ok (Open held) → answer ≡ Ok said.Done → new.cell ≡ Some (closed_cell held register)
      → Closed cell new answer found

-- what was written closes it
closed_by : (zero : Bool) (cell : Held) (register next : List ℕ)
    → (let r : Result (List ℕ) CheckpointRefusal = Ok next in r ≡ closing_by zero cell register) → next ≡ closed_cell cell register
closed_by true cell register next e = absurd (cc)
closed_by false cell register next e = cc

module _ (cell : List ℕ) (new : Standing) (answer : Result Checkpointed CheckpointRefusal) where
  written_closed : (held : Held) (register next : List ℕ) (old : Standing) (written : Result Checkpointed StepFault)
      → old.cell ≡ Some cell → next ≡ closed_cell held register → WritesClosing next old new written
      → answer ≡ result_of_closing_write written
      → Closed cell new answer (Ok (Open held))
  written_closed held register next old (Ok it) same is c e =
      done held register refl (e ∙ ap (λ (x : Checkpointed). Ok x) c.gives) (c.goes.cell
      ∙ ap (λ (made : Bool). cell_after (WriteCell next) made old.cell) c.goes.ends.made
      ∙ ap (λ (x : Option (List ℕ)). option_map (λ _. next) x) same ∙ ap (λ (x : List ℕ). Some x) is)
  written_closed held register next old (Err fault) same is c e = failed fault e

  weighed_closed : (held : Held) (old middle : Standing) (found : Result (List ℕ) CheckpointRefusal) → old.cell ≡ Some cell
      → WeighsRegister held old middle found → EndsClosing found middle new answer → Closed cell new answer (Ok (Open held))
  weighed_closed held old middle (Err (refusal.Device fault)) same w e = failed fault e.1
  weighed_closed held old middle (Err why) same w e =
      let f : FindsClosing held middle (Err why) = w.finds refl in
      let z = is_zero (bytes_eq f.register zero_bytes) held f.register why f.found_is in
      lost held refl (e.1 ∙ ap (λ (x : CheckpointRefusal). Err x) z.1) (ap (λ (x : Standing). x.cell) e.0 ∙ w.goes.cell ∙ same)
      (λ items shown. sym (f.told items (ap (λ (x : Standing). x.items) (sym e.0) ∙ shown))
      ∙ (bytes_eq-Decides f.register zero_bytes).0 z.0)
  weighed_closed held old middle (Ok next) same w e =
      let f : FindsClosing held middle (Ok next) = w.finds refl in
      written_closed held f.register next middle e.written (w.goes.cell ∙ same)
      (closed_by (bytes_eq f.register zero_bytes) held f.register next f.found_is) e.closes e.gives

  looked_closed : (old middle : Standing) (found : Result Segment CheckpointRefusal) → old.cell ≡ Some cell
      → LooksAtSegment old middle found
      → EndsLooking found middle new answer → Closed cell new answer found
  looked_closed old middle (Err (refusal.Device fault)) same l e = failed fault e.1
  looked_closed old middle (Err why) same l e =
      refused_as why refl e.1 (ap (λ (x : Standing). x.cell) e.0 ∙ l.goes.cell ∙ same)
  looked_closed old middle (Ok Shut) same l e = shut refl e.1 (ap (λ (x : Standing). x.cell) e.0 ∙ l.goes.cell ∙ same)
  looked_closed old middle (Ok (Open held)) same l e =
      weighed_closed held middle e.middle e.found (l.goes.cell ∙ same) e.weighs e.ends

-- what the cell reads as, unless a device failed
record Read (cell : List ℕ) (found : Result Segment CheckpointRefusal) : Type 0 where
  read : Result Held CellFault
  reads : ReadsCell cell read
  found_is : found ≡ segment_in read

looked_read : (cell : List ℕ) (old middle : Standing) (found : Result Segment CheckpointRefusal) → old.cell ≡ Some cell
    → LooksAtSegment old middle found → ((fault : StepFault) → found ≡ Err (refusal.Device fault) → ⊥) → Read cell found
looked_read cell old middle (Err (refusal.Device fault)) same l not = absurd (not fault refl)
looked_read cell old middle _ same l not =
    let f = l.finds refl in
    record {
      read = f.sees.read;
      reads = subst (λ (b : List ℕ). ReadsCell b f.sees.read) (f.told cell same) f.sees.reads;
      found_is = f.sees.found_is;
    }

-- whether a segment is open, and of what
by_segment : (variant : Variant) (flag : Bool) (held : Held) (found : Result Segment CheckpointRefusal)
    → found ≡ segment_by variant flag held → ((variant ≡ Basic) × (found ≡ Err refusal.Kind))
    ⊎ ((variant ≡ Opt) × (flag ≡ false) × (found ≡ Ok Shut)) ⊎ ((variant ≡ Opt) × (flag ≡ true) × (found ≡ Ok (Open held)))
by_segment Basic flag held found e = inl (refl, e)
by_segment Opt false held found e = inr (inl (refl, refl, e))
by_segment Opt true held found e = inr (inr (refl, refl, e))

-- the statuses that a checkpoint is told by, but for Done
abbrev is_closing : Status → Bool
is_closing PlatformFault = true
is_closing Blank = true
is_closing Cell = true
is_closing Lost = true
is_closing Kind = true
is_closing _ = false

closing_told_as : (answer : Result Checkpointed CheckpointRefusal) (end : Status) → checkpoint_line answer ≡ Err end → is_closing end ≡ true
closing_told_as answer end e = grind (arith, e)

module _ (old new : Outside) (status : Status) (answer : Result Checkpointed CheckpointRefusal)
    (t : TellsLines (checkpoint_line answer) old.received new.received old.writes new.writes status) where
  only : (end : Status) → status ≡ end → tells_held end ≡ true → checkpoint_line answer ≡ Err end
  only end is held = held_told (checkpoint_line answer) old.received new.received old.writes new.writes status end t is held

  so : (end : Status) → checkpoint_line answer ≡ Err end → status ≡ end
  so end e = (subst (λ (r : Result (List ℕ) Status). TellsLines r old.received new.received old.writes new.writes status) e t).ends

  unlike : (end : Status) → tells_held end ≡ true → is_closing end ≡ false → status ≡ end → ⊥
  unlike end held not is = let clash : true ≡ false = sym (closing_told_as answer end (only end is held)) ∙ not in absurd (cc)

  -- whatever stands where it ended with another status
  apart : {Holds : Type 0} (end other : Status) → tells_held end ≡ true → checkpoint_line answer ≡ Err other
      → (other ≡ end → ⊥) → (Holds → ⊥) → IsExactlyWhere Holds end status
  apart end other held e not none = nowhere (λ is. not (sym (so other e) ∙ is)) none

  apart_ok : {Holds : Type 0} (end : Status) → tells_held end ≡ true → (it : Checkpointed) → answer ≡ Ok it
      → (Holds → ⊥) → IsExactlyWhere Holds end status
  apart_ok end held it e none = nowhere (λ is. told_ok it answer end e (only end is held)) none
    where
      told_ok : (it : Checkpointed) (answer : Result Checkpointed CheckpointRefusal) (end : Status) → answer ≡ Ok it
          → checkpoint_line answer ≡ Err end → ⊥
      told_ok it answer end e told = grind (arith, e, told)

  module _ (cell : List ℕ) (same : old.standing.cell ≡ Some cell) where
    -- the register's items are told, where power was lost in a cell of Opt
    abbrev Shown : Type 0
    Shown = (held : Held) → SpellsCell cell held → held.variant ≡ Opt → answer ≡ Err refusal.Lost
        → (items : List Item) × (new.standing.items ≡ Some items)

    -- what the status is, by what the cell reads as
    record At : Type 0 where
      blank : IsExactlyWhere (Unit {0} × (cell ≡ blank_cell)) Blank status
      unread : IsExactlyWhere (CantRead cell Checkpoint) Cell status
      kind : IsExactlyWhere (FindsBasic cell Checkpoint) Kind status
      lost : Shown → IsExactlyWhere (HasLostPower new.standing) Lost status

    failed_at : (fault : StepFault) → answer ≡ Err (refusal.Device fault) → At
    failed_at fault e =
        let f : EndsByFault status = subst EndsByFault (sym (so PlatformFault (ap checkpoint_line e))) tt in
        record {
          blank = by_fault_where f (λ h. h);
          unread = by_fault_where f (λ h. h);
          kind = by_fault_where f (λ h. h);
          lost = λ shown. by_fault_where f (λ h. h);
        }

    -- what reads otherwise isn't so
    reads_apart : (read other : Result Held CellFault) → ReadsCell cell read → (read ≡ other → ⊥) → ReadsCell cell other → ⊥
    reads_apart read other r not o = not (reads_cell-same cell read other r o)

    -- where the cell is as it was, power is lost in it alone
    lost_held : (h : HasLostPower new.standing) → new.standing.cell ≡ Some cell → ReadsCell cell (Ok h.held)
    lost_held h here =
        let both : Some h.cell ≡ Some cell = sym h.told ∙ here in
        let is : h.cell ≡ cell = cc in
        subst (λ (b : List ℕ). SpellsCell b h.held) is h.spells

    -- how it ended, by what the cell reads as
    data Ended (read : Result Held CellFault) : Type 0 where
      at_fault : (fault : StepFault) → answer ≡ Err (refusal.Device fault) → Ended read
      at_blank : read ≡ Err unheld.Blank → checkpoint_line answer ≡ Err Blank → new.standing.cell ≡ Some cell → Ended read
      at_none : read ≡ Err unheld.Cell → checkpoint_line answer ≡ Err Cell → new.standing.cell ≡ Some cell → Ended read
      at_basic : (held : Held) → read ≡ Ok held → held.variant ≡ Basic → checkpoint_line answer ≡ Err Kind
          → new.standing.cell ≡ Some cell → Ended read
      at_shut : (held : Held) → read ≡ Ok held → held.variant ≡ Opt → held.flag ≡ false → answer ≡ Ok said.NoSegment
          → new.standing.cell ≡ Some cell → Ended read
      at_lost : (held : Held) → read ≡ Ok held → held.variant ≡ Opt → held.flag ≡ true → answer ≡ Err refusal.Lost
          → new.standing.cell ≡ Some cell
          → ((items : List Item) → new.standing.items ≡ Some items → register_after (item_values items) ≡ zero_bytes) → Ended read
      at_done : (held : Held) (register : List ℕ) → read ≡ Ok held → held.variant ≡ Opt → answer ≡ Ok said.Done
          → new.standing.cell ≡ Some (closed_cell held register) → Ended read

    refused_ended : (read : Result Held CellFault) (why : CheckpointRefusal) (found : Result Segment CheckpointRefusal) → found ≡ Err why
        → (answer ≡ Err why → new.standing.cell ≡ Some cell → Ended read) → Closed cell new.standing answer found → Ended read
    refused_ended read why found is leads (failed fault e) = at_fault fault e
    refused_ended read why found is leads (refused_as other k e here) =
        let both : (let r : Result Segment CheckpointRefusal = Err other in r ≡ Err why) = sym k ∙ is in
        let same : other ≡ why = cc in leads (e ∙ ap (λ (x : CheckpointRefusal). Err x) same) here
    refused_ended read why found is leads (shut k e here) = absurd (cc)
    refused_ended read why found is leads (lost held k e here zero) = absurd (cc)
    refused_ended read why found is leads (done held register k e there) = absurd (cc)

    shut_ended : (held : Held) (found : Result Segment CheckpointRefusal) → held.variant ≡ Opt → held.flag ≡ false → found ≡ Ok Shut
        → Closed cell new.standing answer found → Ended (Ok held)
    shut_ended held found v flag is (failed fault e) = at_fault fault e
    shut_ended held found v flag is (refused_as other k e here) = absurd (cc)
    shut_ended held found v flag is (shut k e here) = at_shut held refl v flag e here
    shut_ended held found v flag is (lost other k e here zero) = let clash : Ok (Open other) ≡ Ok Shut = sym k ∙ is in absurd (cc)
    shut_ended held found v flag is (done other register k e there) = let clash : Ok (Open other) ≡ Ok Shut = sym k ∙ is in absurd (cc)

    open_ended : (held : Held) (found : Result Segment CheckpointRefusal) → held.variant ≡ Opt → held.flag ≡ true → found ≡ Ok (Open held)
        → Closed cell new.standing answer found → Ended (Ok held)
    open_ended held found v flag is (failed fault e) = at_fault fault e
    open_ended held found v flag is (refused_as other k e here) = absurd (cc)
    open_ended held found v flag is (shut k e here) = let clash : Ok Shut ≡ Ok (Open held) = sym k ∙ is in absurd (cc)
    open_ended held found v flag is (lost other k e here zero) = at_lost held refl v flag e here zero
    open_ended held found v flag is (done other register k e there) =
        let both : Ok (Open other) ≡ Ok (Open held) = sym k ∙ is in
        let same : other ≡ held = cc in
        at_done held register refl v e (there ∙ ap (λ (h : Held). Some (closed_cell h register)) same)

    ended : (read : Result Held CellFault) → Closed cell new.standing answer (segment_in read) → Ended read
    ended (Err unheld.Blank) c =
        refused_ended (Err unheld.Blank) refusal.Blank _ refl (λ e here. at_blank refl (ap checkpoint_line e) here) c
    ended (Err unheld.Cell) c = refused_ended (Err unheld.Cell) refusal.Cell _ refl (λ e here. at_none refl (ap checkpoint_line e) here) c
    ended (Ok held) c =
        elim (by_segment held.variant held.flag held (segment_in (Ok held)) refl) [
          | inl b ↦ refused_ended (Ok held) refusal.Kind _ b.1 (λ e here. at_basic held refl b.0 (ap checkpoint_line e) here) c
          | inr (inl s) ↦ shut_ended held _ s.0 s.1 s.2 c
          | inr (inr o) ↦ open_ended held _ o.0 o.1 o.2 c
        ]

    -- the cell isn't one of Basic
    not_basic : (read : Result Held CellFault) → ReadsCell cell read → (held : Held) → read ≡ Ok held → held.variant ≡ Opt
        → FindsBasic cell Checkpoint → ⊥
    not_basic read r held is v h =
        let both : Ok h.0 ≡ Ok held = sym (reads_cell-same cell read (Ok h.0) r h.1) ∙ is in
        let same : h.0 ≡ held = cc in
        let clash : Basic ≡ Opt = sym h.2 ∙ ap (λ (x : Held). x.variant) same ∙ v in absurd (cc)

    -- so each status comes where it should
    at_end : (read : Result Held CellFault) → ReadsCell cell read → Ended read → At
    at_end read r (at_fault fault e) = failed_at fault e
    at_end read r (at_blank is told here) = record {
      blank = exactly_here (so Blank told) (tt, subst (ReadsCell cell) is r);
      unread = apart Cell Blank refl told (λ k. absurd (cc)) (λ h. h.0 (subst (ReadsCell cell) is r));
      kind = apart Kind Blank refl told (λ k. absurd (cc)) (λ h. reads_apart read (Ok h.0) r (λ k. absurd (cc)) h.1);
      lost = λ shown. apart Lost Blank refl told (λ k. absurd (cc))
          (λ h. reads_apart read (Ok h.held) r (λ k. absurd (cc)) (lost_held h here));
    }
    at_end read r (at_none is told here) = record {
      blank = apart Blank Cell refl told (λ k. absurd (cc)) (λ h. (subst (ReadsCell cell) is r).0 h.1);
      unread = exactly_here (so Cell told) (subst (ReadsCell cell) is r);
      kind = apart Kind Cell refl told (λ k. absurd (cc)) (λ h. reads_apart read (Ok h.0) r (λ k. absurd (cc)) h.1);
      lost = λ shown. apart Lost Cell refl told (λ k. absurd (cc))
          (λ h. reads_apart read (Ok h.held) r (λ k. absurd (cc)) (lost_held h here));
    }
    at_end read r (at_basic held is v told here) = record {
      blank = apart Blank Kind refl told (λ k. absurd (cc)) (λ h. reads_apart read (Err unheld.Blank) r (λ k. absurd (cc)) h.1);
      unread = apart Cell Kind refl told (λ k. absurd (cc)) (λ h. reads_apart read (Err unheld.Cell) r (λ k. absurd (cc)) h);
      kind = exactly_here (so Kind told) (held, subst (ReadsCell cell) is r, v);
      lost = λ shown. apart Lost Kind refl told (λ k. absurd (cc)) (λ h.
          let both : Ok h.held ≡ Ok held = sym (reads_cell-same cell read (Ok h.held) r (lost_held h here)) ∙ is in
          let same : h.held ≡ held = cc in
          let clash : Opt ≡ Basic = sym h.variant ∙ ap (λ (x : Held). x.variant) same ∙ v in absurd (cc));
    }
    at_end read r (at_shut held is v flag e here) = record {
      blank = apart_ok Blank refl said.NoSegment e (λ h. reads_apart read (Err unheld.Blank) r (λ k. absurd (cc)) h.1);
      unread = apart_ok Cell refl said.NoSegment e (λ h. reads_apart read (Err unheld.Cell) r (λ k. absurd (cc)) h);
      kind = apart_ok Kind refl said.NoSegment e (not_basic read r held is v);
      lost = λ shown. apart_ok Lost refl said.NoSegment e (λ h.
          let both : Ok h.held ≡ Ok held = sym (reads_cell-same cell read (Ok h.held) r (lost_held h here)) ∙ is in
          let same : h.held ≡ held = cc in
          let clash : true ≡ false = sym h.is_open ∙ ap (λ (x : Held). x.flag) same ∙ flag in absurd (cc));
    }
    at_end read r (at_lost held is v flag e here zero) =
        let told : checkpoint_line answer ≡ Err Lost = ap checkpoint_line e in
        record {
          blank = apart Blank Lost refl told (λ k. absurd (cc)) (λ h. reads_apart read (Err unheld.Blank) r (λ k. absurd (cc)) h.1);
          unread = apart Cell Lost refl told (λ k. absurd (cc)) (λ h. reads_apart read (Err unheld.Cell) r (λ k. absurd (cc)) h);
          kind = apart Kind Lost refl told (λ k. absurd (cc)) (not_basic read r held is v);
          lost = λ shown.
              let spells : SpellsCell cell held = subst (ReadsCell cell) is r in
              let it = shown held spells v e in
              exactly_here (so Lost told) (record {
                held = held;
                cell = cell;
                told = here;
                spells = spells;
                variant = v;
                is_open = flag;
                items = it.0;
                shown = it.1;
                zero = zero it.0 it.1;
              });
        }
    at_end read r (at_done held register is v e there) = record {
      blank = apart_ok Blank refl said.Done e (λ h. reads_apart read (Err unheld.Blank) r (λ k. absurd (cc)) h.1);
      unread = apart_ok Cell refl said.Done e (λ h. reads_apart read (Err unheld.Cell) r (λ k. absurd (cc)) h);
      kind = apart_ok Kind refl said.Done e (not_basic read r held is v);
      lost = λ shown. apart_ok Lost refl said.Done e (λ h.
          let both : Some h.cell ≡ Some (closed_cell held register) = sym h.told ∙ there in
          let same : h.cell ≡ closed_cell held register = cc in
          closed_shut h.held held register h.is_open (sym h.spells.1 ∙ same));
    }

-- what was read of the cell before, unless the device failed
read_of : (old : Outside) (new : Outside) (status : Status) (answer : Result Checkpointed CheckpointRefusal)
    (t : TellsLines (checkpoint_line answer) old.received new.received old.writes new.writes status) (cell : List ℕ)
    (same : old.standing.cell ≡ Some cell) (middle : Standing) (found : Result Segment CheckpointRefusal)
    → LooksAtSegment old.standing middle found
    → Closed cell new.standing answer found → At old new status answer t cell same
read_of old new status answer t cell same middle (Err (refusal.Device fault)) l (failed broken e) =
    failed_at old new status answer t cell same broken e
read_of old new status answer t cell same middle (Err (refusal.Device fault)) l (refused_as why is e here) =
    let whys : why ≡ refusal.Device fault = cc in
    failed_at old new status answer t cell same fault (e ∙ ap (λ (x : CheckpointRefusal). Err x) whys)
read_of old new status answer t cell same middle (Err (refusal.Device fault)) l (shut is e here) = absurd (cc)
read_of old new status answer t cell same middle (Err (refusal.Device fault)) l (lost held is e here zero) = absurd (cc)
read_of old new status answer t cell same middle (Err (refusal.Device fault)) l (done held register is e there) = absurd (cc)
read_of old new status answer t cell same middle found l c =
    let r = looked_read cell old.standing middle found same l (λ fault is. let it = l.finds in absurd (cc)) in
    at_end old new status answer t cell same r.read r.reads
    (ended old new status answer t cell same r.read
    (subst (λ (f : Result Segment CheckpointRefusal). Closed cell new.standing answer f) r.found_is c))

pub checkpoint_holding : (old new : Outside) (status : Status) → CommandDoes Checkpoint old new status → Holding Checkpoint old new status
checkpoint_holding old new status d =
    let at : (cell : List ℕ) (same : old.standing.cell ≡ Some cell) → At old new status d.answer d.tells cell same = λ cell same.
    read_of old new status d.answer d.tells cell same d.closes.middle d.closes.found d.closes.looks
    (looked_closed cell new.standing d.answer old.standing d.closes.middle d.closes.found same d.closes.looks d.closes.ends) in
    record {
      blank = λ cell visible. (at cell visible.told).blank;
      already = λ cell told. nowhere (unlike old new status d.answer d.tells Already refl refl) (λ h. h.0);
      unread = λ cell visible. (at cell visible.told).unread;
      kind = λ cell told. (at cell told).kind;
      short = λ cell secrets got told left. nowhere (unlike old new status d.answer d.tells (Short got) refl refl) (λ h. h.0.0);
      lost = λ cell visible.
          let lost = (at cell visible.told).lost (λ held spells v e.
          let u : IsUntouched old.standing new.standing =
          (subst (λ (a : Result Checkpointed CheckpointRefusal). LeavesStill a old.standing new.standing) e d.untouched) refl in
          let has = some_items old.standing.items (visible.shown held spells v) in
          (has.0 ++ map foreign_item u.others, u.items ∙ ap (λ (x : Option (List Item)). items_beside u.others x) has.1)) in
          record { only = λ is. (tt, lost.only is); closing = λ e. lost; running = λ e. absurd (cc) };
      refused = λ cell why visible.
          none_refused Checkpoint old new status cell why (unlike old new status d.answer d.tells (Refused why) refl refl) (λ e. cc);
    }
