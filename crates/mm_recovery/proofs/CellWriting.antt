-- How often calls are to write the cell, and what flag they leave: one of either core, and calls one after another.
use Rattle.mm_recovery.proofs.Below.{◌≡◌, ◌∙◌, ◌+◌, ◌≤◌, ℕ, zero, suc, Bool, true, false, List, Some, Ok, refl, sym, ap, inl, inr, arith}
use Rattle.mm_recovery.proofs.Below.{◌⊎◌, next_count, Variant, Basic, Opt, Standing, Answer, count_after_more, CellIsWrittenAtMostOnce}
use Rattle.mm_recovery.proofs.Below.{AnswerLeavesFlag, TellsFlag, CellIsWrittenByOpening, CellIsWrittenFor, is_open_after, openings, Option}
use Rattle.mm_recovery.proofs.Below.{None, Result, Err, StepFault, cell_after, Meaning, Batch, PartsFault, IsCell, ReadsCell, SpellsCell}
use Rattle.mm_recovery.proofs.Below.{cell_spelling, Snapshot, BatchAnswer, Refusal, Memory, Device, is_long, batch_answer_of}
use Rattle.mm_recovery.proofs.Below.{batch_result_of, AskResult, goes_on, breaks_off, EndsByFinding, result_of, acts_for, answer_in}
use Rattle.mm_recovery.proofs.Below.{fault_of, IsOrMemory, refused_result, CallReads, Long, StepsRefused, StepsBy, opt_call, StepsAnswered}
use Rattle.mm_recovery.proofs.Below.{StepsFrom, CallWrites, IsNewAt, LeavesFlag, new_requests_by, [], ◌∷◌}
use Rattle.mm_platform.specs.Standing.{Act}
use Rattle.mm_machine.specs.Acts.{remaining_acts}
use Rattle.mm_call.specs.CallKind.{AreStepsToEnd}
use Rattle.std.proofs.Math.Nat.{suc-add, zero-add}
use Rattle.mm_seal.specs.declared.cell.Cell.{Cell}
use Rattle.mm_seal.specs.declared.cell.CellFault.{CellFault}
use Rattle.mm_seal.specs.CellLaws.{reads_cell-same}
use Rattle.mm_machine.specs.declared.change.Change as change
use Rattle.mm_machine.specs.declared.change.Change.TheVariants.{Extending, Emptying, Placing, Writing}
use Rattle.mm_machine.specs.declared.operation.OpFinding.TheVariants.{Repeat, Change}
use Rattle.mm_opt.specs.Answers.{BatchFinding, has_lost_power, opened_cell, finding_from, finding_in_offer, finding_unless, finding_in}
use Rattle.mm_opt.specs.AskPromise.{cell_in, opt_operation, OptAskPromise}
use Rattle.mm_opt.proofs.Above.{ReadsOn, ReadsOwnCell, reads_told}

-- counts
counted_sum : (n m count : ℕ) → count_after_more m (count_after_more n count) ≡ count_after_more (n + m) count
counted_sum zero m count = ap (λ (k : ℕ). count_after_more k count) (sym (zero-add m))
counted_sum (suc n) m count = counted_sum n m (next_count count) ∙ ap (λ (k : ℕ). count_after_more k count) (sym (suc-add n m))

pub counted_most : (n count : ℕ) → count_after_more n count ≤ count + n
counted_most zero count = omega arith
counted_most (suc n) count = let rest = counted_most n (next_count count) in omega (arith, rest)

opens_sum : (flag : Bool) (n m before middle after : ℕ) → middle ≡ count_after_more (openings flag n) before
    → after ≡ count_after_more (openings (is_open_after flag n) m) middle → after ≡ count_after_more (openings flag (n + m)) before
opens_sum flag n m before middle after e f = grind (arith, e, f)

open_sum : (flag : Bool) (n m : ℕ) → is_open_after (is_open_after flag n) m ≡ is_open_after flag (n + m)
open_sum flag n m = grind arith

once_by : (flag : Bool) (n before after : ℕ) → after ≡ count_after_more (openings flag n) before → (after ≡ before)
    ⊎ (after ≡ next_count before)
once_by flag n before after e = grind (arith, e)

-- where nothing was written
opens_none : (flag : Bool) (before after : ℕ) → after ≡ before → after ≡ count_after_more (openings flag 0) before
opens_none flag before after e = grind (arith, e)

pub writes_none : (before after : Standing) → after.writes ≡ before.writes → CellIsWrittenByOpening 0 before after
writes_none before after e = record {
  each = omega (arith, e);
  once = λ bytes t. inl e;
  opens = λ flag t. opens_none flag before.writes after.writes e;
}

pub rests : (variant : Variant) (before after : Standing) → after ≡ before → CellIsWrittenFor variant 0 before after
rests variant before after e = grind (arith, writes_none, e)

-- what answered calls leave of a flag: none was made, or the first found one
abbrev pub LeadsOver : Variant → ℕ → Standing → Standing → Type 0
LeadsOver Basic requests before after = Unit {0}
LeadsOver Opt requests before after = ((requests ≡ 0) × (after ≡ before)) ⊎ LeavesFlag requests before after

flag_kept : (flag : Bool) → flag ≡ is_open_after flag 0
flag_kept flag = grind arith

leaves_of : (n : ℕ) (before after : Standing) → LeadsOver Opt n before after → (flag : Bool) → TellsFlag before flag
    → TellsFlag after (is_open_after flag n)
leaves_of n before after (inl e) flag t = rw (e.0, e.1, sym (flag_kept flag)) t
leaves_of n before after (inr l) flag t = l.leaves flag t

pub leads_rest : (variant : Variant) (before after : Standing) → after ≡ before → LeadsOver variant 0 before after
leads_rest variant before after e = grind (arith, e)

pub leads_answer : (variant : Variant) (answer : Answer) (n : ℕ) (before after : Standing)
    → AnswerLeavesFlag variant (Ok answer) n before after
    → LeadsOver variant n before after
leads_answer variant answer n before after l = grind (arith, l)

-- calls, and those behind them
pub joined : (variant : Variant) (n m : ℕ) (before middle after : Standing) → LeadsOver variant n before middle
    → CellIsWrittenFor variant n before middle → CellIsWrittenFor variant m middle after → CellIsWrittenFor variant (n + m) before after
joined Basic n m before middle after l w x = x ∙ ap (count_after_more m) w ∙ counted_sum n m before.writes
joined Opt n m before middle after (inl e) w x = rw (e.0, zero-add m, sym e.1) x
joined Opt n m before middle after (inr l) w x = record {
  each = omega (arith, w.each, x.each);
  once = λ bytes t.
      let found = l.finds bytes t in once_by found.0 (n + m) before.writes after.writes (opens found.0 found.1);
  opens = opens;
}
  where
    opens : (flag : Bool) → TellsFlag before flag → after.writes ≡ count_after_more (openings flag (n + m)) before.writes
    opens flag t =
        opens_sum flag n m before.writes middle.writes after.writes (w.opens flag t) (x.opens (is_open_after flag n) (l.leaves flag t))

leads_joined : (variant : Variant) (n m : ℕ) (before middle after : Standing) → LeadsOver variant n before middle
    → LeadsOver variant m middle after → LeadsOver variant (n + m) before after
leads_joined Basic n m before middle after l k = tt
leads_joined Opt n m before middle after (inl e) k = rw (e.0, zero-add m, sym e.1) k
leads_joined Opt n m before middle after (inr l) k = inr (record {
  finds = l.finds;
  leaves = λ flag t. rw (sym (open_sum flag n m)) (leaves_of m middle after k (is_open_after flag n) (l.leaves flag t));
})

-- answered calls, and others behind them
pub record AnsweredWrites (variant : Variant) (requests : ℕ) (before after : Standing) : Type 0 where
  pub writes : CellIsWrittenFor variant requests before after
  pub leads : LeadsOver variant requests before after

pub both_writes : (variant : Variant) (n m : ℕ) (before middle after : Standing) → AnsweredWrites variant n before middle
    → AnsweredWrites variant m middle after → AnsweredWrites variant (n + m) before after
both_writes variant n m before middle after a b = record {
  writes = joined variant n m before middle after a.leads a.writes b.writes;
  leads = leads_joined variant n m before middle after a.leads b.leads;
}

-- Basic
basic_answered : (again : Bool) (old new : Standing) → StepsAnswered Basic again old new
    → new.writes ≡ count_after_more (new_requests_by again) old.writes
basic_answered again old new s = grind (arith, s)

-- the requests that a refused call came to write
basic_refused : (why : Refusal) (old new : Standing) → StepsRefused Basic why old new
    → (requests : ℕ) × IsNewAt (fault_of why) requests × (new.writes ≡ count_after_more requests old.writes)
basic_refused Long old new s = absurd s
basic_refused (Device fault) old new (inl s) = (0, omega arith, s.1)
basic_refused (Device fault) old new (inr s) = (1, omega arith, s.1)
basic_refused _ old new s = (0, refl, s.1)

pub basic_writes : (old new : Standing) (result : Result Answer Refusal) → StepsBy Basic (batch_result_of result) old new
    → CallWrites Basic result old new
basic_writes old new (Ok answer) s =
    record { requests = new_requests_by answer.again; new = refl; writes = basic_answered answer.again old new s; leaves = tt }
basic_writes old new (Err why) s =
    let r = basic_refused why old new s in record { requests = r.0; new = r.1; writes = r.2; leaves = tt }

-- What Opt finds, by the cell that it read: a repeat, or what is new.
abbrev IsChangeBy : Cell → Bool → change.Change → Type 0
IsChangeBy cell again (Extending value) = (again ≡ false) × (cell.flag ≡ true)
IsChangeBy cell again (Emptying opening) = (again ≡ false) × (cell.flag ≡ false) × (opening.next ≡ opened_cell cell)
IsChangeBy cell again _ = ⊥

abbrev IsByCell : Cell → Result BatchFinding Refusal → Type 0
IsByCell cell (Ok (Repeat answer)) = answer.again ≡ true
IsByCell cell (Ok (Change ready)) = IsChangeBy cell ready.answer.again ready.change
IsByCell cell found = Unit {0}

from_by_cell : (e : Result Bool Refusal) (cell : Cell) (value : List ℕ) (answer : Bool → BatchAnswer)
    → ((again : Bool) → (answer again).again ≡ again) → IsByCell cell (finding_from e cell value answer)
from_by_cell e cell value answer says = grind (arith, says)

at_by_cell : (lost : Bool) (meaning : Meaning) (cell : Cell) (register : List ℕ) (taken : Result Snapshot PartsFault) (b : Batch)
    → IsByCell cell (finding_unless lost (finding_in_offer meaning cell register taken b))
at_by_cell lost meaning cell register taken b = grind (arith, from_by_cell)

-- want of memory may come in its place
or_all : {A : Type 0} (P : Result A Refusal → Type 0) (x found : Result A Refusal) → P x → P (Err Memory) → IsOrMemory x found → P found
or_all P x found h m o = grind (arith, h, m, o)

-- the cell that was seen
seen_spelled : (id : ℕ) (bytes : List ℕ) (read : Result Cell CellFault) (seen : Cell) → ReadsCell bytes read → Ok seen ≡ cell_in id read
    → SpellsCell bytes seen
seen_spelled id bytes read seen r e = grind (arith, r, e)

-- the cell after these steps; a call that gave an answer made all of its own
abbrev cells_after : List Act → Option (List ℕ) → Option (List ℕ)
cells_after [] cell = cell
cells_after (act ∷ acts) cell = cells_after acts (cell_after act true cell)

all_made : (acts : List Act) (it answer : BatchAnswer) (old new : Standing) (ended : AskResult) → AreStepsToEnd acts it old new ended
    → result_of ended ≡ Ok answer → (answer ≡ it) × (new.cell ≡ cells_after acts old.cell)
all_made [] it answer old new ended s done =
    let gives : Ok answer ≡ Ok it = sym done ∙ ap result_of s.1 in (cc, ap (λ (x : Standing). x.cell) s.0)
all_made (act ∷ acts) it answer old new ended (goes_on middle g s) done =
    let rest = all_made acts it answer middle new ended s done in
    (rest.0, rest.1 ∙ ap (cells_after acts) (g.cell ∙ ap (λ (made : Bool). cell_after act made old.cell) g.ends.made))
all_made (act ∷ acts) it answer old new ended (breaks_off fault g e) done =
    let clash : Err (Device fault) ≡ Ok answer = sym (ap result_of e) ∙ done in absurd (cc)

-- the flag that an answered call leaves in the cell that it saw
change_left : (seen : Cell) (it : change.Change) (answer : BatchAnswer) (new : Standing) → IsCell seen
    → IsChangeBy seen answer.again it → new.cell ≡ cells_after (remaining_acts it) (Some (cell_spelling seen))
    → TellsFlag new (is_open_after seen.flag (new_requests_by answer.again))
change_left seen (Extending value) answer new is by e =
    rw (by.0, by.1) (record { cell = seen; is_cell = is; tells = e; shows = by.1 })
change_left seen (Emptying opening) answer new is by e =
    rw (by.0, by.1) (record {
      cell = record seen { variant = Opt; flag = true };
      is_cell = record { summary = is.summary; key = is.key; barrier = is.barrier; variant = tt };
      tells = e ∙ ap Some by.2;
      shows = refl;
    })
change_left seen (Placing opening) answer new is by e = absurd by
change_left seen (Writing next) answer new is by e = absurd by

flag_left : (seen : Cell) (found : BatchFinding) (new : Standing) → IsCell seen → IsByCell seen (Ok found)
    → new.cell ≡ cells_after (acts_for found) (Some (cell_spelling seen))
    → TellsFlag new (is_open_after seen.flag (new_requests_by (answer_in found).again))
flag_left seen (Repeat it) new is by e =
    rw (by, sym (flag_kept seen.flag)) (record { cell = seen; is_cell = is; tells = e; shows = refl })
flag_left seen (Change ready) new is by e = change_left seen ready.change ready.answer new is by e

-- an answered call: the cell that it saw, where the platform tells that, and what it left
module _ (meaning : Meaning) (offer : List ℕ) (b : Batch) (old new : Standing) (ended : AskResult) (answer : BatchAnswer)
    (done : result_of ended ≡ Ok answer) where
  leaves_seen : (read : Result Cell Refusal) (one middle : Standing) (found : BatchFinding) → ReadsOwnCell meaning.id old one read
      → ReadsOn meaning offer b read one middle (Ok found) → EndsByFinding opt_call (Ok found) middle new ended
      → LeavesFlag (new_requests_by answer.again) old new
  leaves_seen (Err why) one middle found r on ends = let e : Ok found ≡ Err why = on.1 in absurd (cc)
  leaves_seen (Ok seen) one middle found r on ends =
      let f = r.finds refl in
      let s = seen_spelled meaning.id f.bytes f.said.read seen f.said.reads f.said.found_is in
      let told : (bytes : List ℕ) → old.cell ≡ Some bytes → bytes ≡ cell_spelling seen = λ bytes e. sym (f.told bytes e) ∙ s.1 in
      let g = on.finds refl in
      let by : IsByCell seen (Ok found) =
      or_all (λ (x : Result BatchFinding Refusal). IsByCell seen x) (finding_in meaning seen g.register g.said.taken b) (Ok found)
      (at_by_cell (has_lost_power seen g.register) meaning seen g.register g.said.taken b) tt g.said.found_is in
      let made = all_made (acts_for found) (answer_in found) answer middle new ended ends done in
      record {
        finds = λ bytes e. (seen.flag, record { cell = seen; is_cell = s.0; tells = e ∙ ap Some (told bytes e); shows = refl });
        leaves = λ (flag : Bool) (t : TellsFlag old flag).
            let read : Ok t.cell ≡ Ok seen =
            reads_cell-same (cell_spelling t.cell) (Ok t.cell) (Ok seen) (t.is_cell, refl) (s.0, told (cell_spelling t.cell) t.tells) in
            let same : t.cell ≡ seen = cc in
            rw (made.0, sym t.shows, same)
            (flag_left seen found new s.0 by (made.1 ∙ ap (cells_after (acts_for found)) (ap (λ (x : Standing). x.cell) on.room
            ∙ on.goes.cell ∙ r.goes.cell ∙ t.tells ∙ ap (λ (c : Cell). Some (cell_spelling c)) same)));
      }

  ends_flag : (found : Result BatchFinding Refusal) (middle : Standing) → CallReads (opt_operation meaning offer b) old middle found
      → EndsByFinding opt_call found middle new ended → LeavesFlag (new_requests_by answer.again) old new
  ends_flag (Err why) middle r e =
      let failed : Ok answer ≡ Err why = sym done ∙ ap result_of e.1 ∙ refused_result why in absurd (cc)
  ends_flag (Ok found) middle r e =
      let t = reads_told meaning offer b old middle (Ok found) r in leaves_seen t.cell t.middle middle found t.reads t.on e

-- a new request
writes_new : (old new : Standing) → CellIsWrittenAtMostOnce old new
    → ((flag : Bool) → TellsFlag old flag → new.writes ≡ count_after_more (openings flag 1) old.writes) → CellIsWrittenByOpening 1 old new
writes_new old new once opens = record {
  each = elim once [ inl same ↦ omega (arith, same) | inr more ↦ omega (arith, more) ];
  once = λ bytes t. once;
  opens = opens;
}

opens_from : (flag : Bool) (old new : Standing) → StepsFrom flag false old new → new.writes ≡ count_after_more (openings flag 1) old.writes
opens_from flag old new s = grind (arith, s)

opt_answered : (again : Bool) (old new : Standing) → StepsAnswered Opt again old new → CellIsWrittenAtMostOnce old new
    → ((flag : Bool) → TellsFlag old flag → StepsFrom flag again old new) → CellIsWrittenByOpening (new_requests_by again) old new
opt_answered true old new s once from = writes_none old new s.1
opt_answered false old new s once from = writes_new old new once (λ flag t. opens_from flag old new (from flag t))

-- a refused call
none_new : (broken : Option StepFault) → IsNewAt broken 0
none_new broken = grind arith

opens_one : (flag : Bool) (before after : ℕ) → (flag ≡ true → after ≡ before) → after ≡ next_count before
    → after ≡ count_after_more (openings flag 1) before
opens_one flag before after same e = grind (arith, same, e)

opt_quiet : (why : Refusal) (old new : Standing) → new.writes ≡ old.writes → CallWrites Opt (Err why) old new
opt_quiet why old new same =
    record { requests = 0; new = none_new (fault_of why); writes = writes_none old new same; leaves = tt }

module _ (meaning : Meaning) (old new : Standing) (offer : List ℕ) (b : Batch) where
  opt_refused : (why : Refusal) (broken : Option StepFault) → fault_of why ≡ broken → OptAskPromise meaning old new offer b (Err why)
      → CallWrites Opt (Err why) old new
  opt_refused why None has a = opt_quiet why old new (a.untouched has).writes
  opt_refused why (Some fault) has a = elim a.writes.once [
    | inl same ↦ opt_quiet why old new same
    | inr more ↦ record {
      requests = 1;
      new = rw has (omega arith);
      writes = writes_new old new (inr more) (λ flag t.
          opens_one flag old.writes new.writes (λ (e : flag ≡ true). a.writes.inside t.cell t.is_cell t.tells (t.shows ∙ e)) more);
      leaves = tt;
    }
  ]

  pub opt_writes : (result : Result Answer Refusal) → is_long b ≡ false → OptAskPromise meaning old new offer b (batch_result_of result)
      → CallWrites Opt result old new
  opt_writes (Err why) short a = opt_refused why (fault_of why) refl a
  opt_writes (Ok answer) short a =
      let c = a.calls.asks short in record {
        requests = new_requests_by answer.again;
        new = refl;
        writes = opt_answered answer.again old new (a.steps short) a.writes.once
            (λ flag t. rw (sym t.shows) (a.writes.answers t.cell t.is_cell t.tells));
        leaves = ends_flag meaning offer b old new c.ended (batch_answer_of answer) (sym c.gives) c.asks.found c.asks.middle
            c.asks.reads c.asks.ends;
      }
