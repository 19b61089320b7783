-- What each exit of a recovery, and of one more request, is told as: whose fault it is, and how
-- often the cell was to be written. With it: where a module doesn't live nothing is done; one call
-- of either variant promises what the cores' whole calls do; what a host comes to has its sizes.
use Rattle.std.specs.Prelude.{IfOk}
use Rattle.std.proofs.lemmas.List.Elements.{All-head}
use Rattle.mm_seal.specs.declared.cell.Cell.{Cell}
use Rattle.mm_seal.specs.declared.cell.CellFault.{CellFault}
use Rattle.mm_module.specs.Meaning.{IsLine}
use Rattle.mm_machine.specs.declared.operation.OpFinding.{OpFinding}
use Rattle.mm_model.specs.declared.refusal.Refusal.TheVariants as refusal
use Rattle.mm_call.specs.CallKind.{IsAskedCall}
use Rattle.mm_basic.specs.AskPromise.{basic_call}
use Rattle.mm_basic.specs.BasicSight.{BasicSight, IsSeen, Both, NoCell, NoOffer, OtherCell}
use Rattle.mm_basic.specs.Operation.{basic_operation}
use Rattle.mm_basic.specs.Operation as in_basic
use Rattle.mm_basic.proofs.Above.{reads_told as basic_reads_told}
use Rattle.mm_opt.specs.AskPromise.{cell_in, is_cell_of}
use Rattle.mm_opt.specs.CheckpointPromise.{IsCheckpointOnCourse}
use Rattle.mm_opt.specs.Checkpoints.{ClosesSegment, EndsLooking, FindsSegment, closing_fault_in, segment_by, segment_in}
use Rattle.mm_opt.specs.declared.segment.Checkpointed.{Checkpointed}
use Rattle.mm_opt.specs.declared.segment.CheckpointRefusal.{CheckpointRefusal}
use Rattle.mm_opt.specs.declared.segment.Segment.{Segment}
use Rattle.mm_opt.proofs.Above.{ReadsOn, ReadsOwnCell, reads_told}
use Rattle.mm_ask.specs.WholeAsk.{IsWholeAsk}
use Rattle.mm_ask.proofs.Above.{asked_whole}
use Rattle.mm_recovery.specs.declared.fault.HostFault.TheVariants as host
use Rattle.mm_recovery.specs.HostStanding.{BlamesHostFault, IsNamed, CallsAreRefusedElsewhere, CheckpointsAreRefusedElsewhere, IsCheckpoint}
use Rattle.mm_recovery.specs.HostStanding.{LeavesCell, LivesElsewhere, IsSized, AsksAndKeepsAnswer}
use Rattle.mm_recovery.proofs.Below.{ℕ, ◌≡◌, ◌≢◌, ◌≤◌, Bool, List, Option, None, Some, Result, Ok, Err, refl, sym, ap, ◌∙◌, arith, Variant}
use Rattle.mm_recovery.proofs.Below.{Standing, Meaning, Answer, Refusal, Long, CountsHandedFault, fault_of, StoreFault, CountsFailures}
use Rattle.mm_recovery.proofs.Below.{StoreStanding, PendingRecord, HostFault, Resumed, store_fault_as, refusal_fault, HostGoesAfterRecord}
use Rattle.mm_recovery.proofs.Below.{AsksNextRequest, HostGoesAfterTwo, result_of_start, result_of_keep, HostGoesAfterAsk}
use Rattle.mm_recovery.proofs.Below.{HostGoesAfterOffer, HostGoesAfterFinding, HostResumes, IsCall, CallWrites, CellIsWrittenFor}
use Rattle.mm_recovery.proofs.Below.{new_requests_by, IsNewOf, RequestWrites, new_requests_at, HostStanding, host_standing, true, false}
use Rattle.mm_recovery.proofs.Below.{subst, Basic, Opt, Batch, ReadsCell, SpellsCell, BatchAnswer, is_long, batch_result_of, AskResult}
use Rattle.mm_recovery.proofs.Below.{EndsByFinding, result_of, IsOrMemory, refused_result, CallReads, opt_call, ask_call, nat_tests}
use Rattle.mm_recovery.proofs.Below.{IsLawful, One, IsFit, batch_answer_of, fault_in, AskPromise, StepsBy, []}
use Rattle.mm_recovery.proofs.CellWriting.{AnsweredWrites, LeadsOver, leads_answer, leads_rest, rests, basic_writes, opt_writes}

-- What holds of want of memory, and of each other refusal as it is, holds of every refusal as it is told.
pub by_refusal : (P : Refusal → HostFault → Type 0) → P refusal.Memory host.Memory
    → ((why : Refusal) → why ≢ refusal.Memory → P why (host.Refused why)) → (why : Refusal) → P why (refusal_fault why)
by_refusal P memory other refusal.Memory = memory
by_refusal P memory other why = other why (λ e. cc)

-- whose fault it is, and that a refusal is named
pub record Told (result : Result Resumed HostFault) (old new : HostStanding) : Type 0 where
  pub blamed : BlamesHostFault result old new
  pub named : IsNamed result

-- what a recovery or a line came to, with its new requests
abbrev pub LeadsBy : Variant → Result Resumed HostFault → ℕ → Standing → Standing → Type 0
LeadsBy variant (Ok it) requests before after = LeadsOver variant requests before after
LeadsBy variant (Err fault) requests before after = Unit {0}

pub record CameWrites (variant : Variant) (came : Result Resumed HostFault) (before after : Standing) : Type 0 where
  pub counts : RequestWrites variant before after came
  pub open counts use {requests, new as is_new, writes}
  pub leads : LeadsBy variant came counts.requests before after

pub new_most : (again : Bool) (n : ℕ) → n ≡ new_requests_by again → n ≤ 1
new_most again n e = grind (arith, e)

-- a finding counts as its last read
two_counted : (two : Result (List ℕ) StoreFault) (old middle new : StoreStanding) (result : Result (Option PendingRecord) StoreFault)
    → CountsFailures old.faults middle.faults two → HostGoesAfterTwo two middle new result → CountsFailures old.faults new.faults result
two_counted two old middle new result c g = grind (arith, c, g)

module _ (variant : Variant) (meaning : Meaning) (before after : Standing) where
  record Exit (old new : StoreStanding) (result : Result Resumed HostFault) : Type 0 where
    told : Told result (host_standing before old) (host_standing after new)
    came : CameWrites variant result before after

  exit_of : {old new : StoreStanding} {result : Result Resumed HostFault}
      → BlamesHostFault result (host_standing before old) (host_standing after new) → IsNamed result
      → (requests : ℕ) → IsNewOf result requests → CellIsWrittenFor variant requests before after
      → LeadsBy variant result requests before after
      → Exit old new result
  exit_of blamed named requests is_new writes leads = record {
    told = record { blamed = blamed; named = named };
    came = record { counts = record { requests = requests; new = is_new; writes = writes }; leads = leads };
  }

  -- a store's fault is told as such, by its count
  stored_exit : (T : Type 0) (why : StoreFault) (old new : StoreStanding) (requests : ℕ) → requests ≤ 1
      → CellIsWrittenFor variant requests before after → after.faults ≡ before.faults
      → CountsFailures {T = T} old.faults new.faults (Err why)
      → Exit old new (Err (store_fault_as why))
  stored_exit T why old new requests few w s c = grind (arith, few, w, s, c)

  -- an exit where the store failed, and nothing was asked
  failed_exit : (T : Type 0) (why : StoreFault) (old middle new : StoreStanding) (result : Result Resumed HostFault)
      → CountsFailures {T = T} old.faults middle.faults (Err why)
      → (host_standing after new ≡ host_standing before middle) × (result ≡ Err (store_fault_as why)) → Exit old new result
  failed_exit T why old middle new result c g =
      let s : after ≡ before = ap (λ (h : HostStanding). h.standing) g.0 in
      let k : new ≡ middle = ap (λ (h : HostStanding). h.kept) g.0 in grind (arith, stored_exit, rests, c, s, k, g.1)

  started_exit : (zero : Result (List ℕ) StoreFault) (old new : StoreStanding) → after ≡ before → CountsFailures old.faults new.faults zero
      → Exit old new (result_of_start zero)
  started_exit (Ok first) old new s c =
      exit_of (ap (λ (x : Standing). x.faults) s, c) (record { remembered = λ e. absurd (cc); short = λ e. absurd (cc) }) 0 refl
      (rests variant before after s) (leads_rest variant before after s)
  started_exit (Err why) old new s c =
      failed_exit (List ℕ) why old new new (Err (store_fault_as why)) c (ap (λ (x : Standing). host_standing x new) s, refl)

  -- a call, and the answer's snapshot
  refused_exit : (why : Refusal) (old new : StoreStanding) → CountsHandedFault (fault_of why) before.faults after.faults → why ≢ Long
      → CallWrites variant (Err why) before after → new.faults ≡ old.faults → Exit old new (Err (refusal_fault why))
  refused_exit why old new b short c s = grind (arith, b, short, c, s)

  kept_exit : (answer : Answer) (written : Result Unit StoreFault) (old new : StoreStanding) → after.faults ≡ before.faults
      → CallWrites variant (Ok answer) before after → CountsFailures old.faults new.faults written
      → Exit old new (result_of_keep answer written)
  kept_exit answer (Ok it) old new s c k =
      exit_of (s, k) (record { remembered = λ e. absurd (cc); short = λ e. absurd (cc) }) c.requests c.new c.writes
      (leads_answer variant answer c.requests before after c.leaves)
  kept_exit answer (Err why) old new s c k =
      stored_exit Unit why old new c.requests (new_most answer.again c.requests c.new) c.writes s k

  asked_exit : (offer request : List ℕ) (asked : Result Answer Refusal) (first old new : StoreStanding) (result : Result Resumed HostFault)
      → old.faults ≡ first.faults → IsCall variant meaning before after offer request asked → HostGoesAfterAsk asked old new result
      → Exit first new result
  asked_exit offer request (Err why) first old new result s a g =
      rw g.1 (refused_exit why first new a.faults (λ (e : why ≡ Long). a.short (ap (λ (w : Refusal). Err w) e)) a.counts
      (ap (λ (k : StoreStanding). k.faults) g.0 ∙ s))
  asked_exit offer request (Ok answer) first old new result s a g =
      rw g.gives (kept_exit answer g.written first new a.faults a.counts (rw (sym s) g.writes.counted))

  -- what waited
  offered_exit : (offer : Result (List ℕ) StoreFault) (old middle new : StoreStanding) (p : PendingRecord)
      (result : Result Resumed HostFault)
      → CountsFailures old.faults middle.faults offer
      → HostGoesAfterOffer variant meaning offer (host_standing before middle) (host_standing after new) p result
      → Exit old new result
  offered_exit (Err why) old middle new p result c g = failed_exit (List ℕ) why old middle new result c g
  offered_exit (Ok offer) old middle new p result c g = asked_exit offer p.request g.asked old middle new result c g.asks g.goes

  found_exit : (waiting : Result (Option PendingRecord) StoreFault) (old middle new : StoreStanding) (result : Result Resumed HostFault)
      → CountsFailures old.faults middle.faults waiting
      → HostGoesAfterFinding variant meaning waiting (host_standing before middle) (host_standing after new) result
      → Exit old new result
  found_exit (Err why) old middle new result c g = failed_exit (Option PendingRecord) why old middle new result c g
  found_exit (Ok None) old middle new result c g = rw g.1.gives (started_exit g.1.zero old new g.0 (rw (sym c) g.1.reads.counted))
  found_exit (Ok (Some p)) old middle new result c g =
      offered_exit g.offer old g.middle new p result (rw (sym c) g.reads.counted) g.goes

  resumes_exit : (old new : StoreStanding) (result : Result Resumed HostFault)
      → HostResumes variant meaning (host_standing before old) (host_standing after new) result → Exit old new result
  resumes_exit old new result r =
      found_exit r.waiting old r.middle new result
      (two_counted r.finds.two old r.finds.middle r.middle r.waiting r.finds.reads.counted r.finds.goes) r.goes

  -- one more request
  recorded_exit : (old new : StoreStanding) (last : Resumed) (request : List ℕ) (came : Result Resumed HostFault)
      (recorded : Result Unit StoreFault) (middle : StoreStanding) → CountsFailures old.faults middle.faults recorded
      → HostGoesAfterRecord variant meaning recorded (host_standing before middle) (host_standing after new) last request came
      → Exit old new came
  recorded_exit old new last request came (Ok it) middle c g = asked_exit _ request g.asked old middle new came c g.asks g.goes
  recorded_exit old new last request came (Err why) middle c g = failed_exit Unit why old middle new came c g

module _ (variant : Variant) (meaning : Meaning) (old new : HostStanding) where
  resumes_out : (result : Result Resumed HostFault) → HostResumes variant meaning old new result
      → Exit variant meaning old.standing new.standing old.kept new.kept result
  resumes_out result r = resumes_exit variant meaning old.standing new.standing old.kept new.kept result r

  pub resumes_told : (result : Result Resumed HostFault) → HostResumes variant meaning old new result → Told result old new
  resumes_told result r = (resumes_out result r).told

  pub resumes_came : (result : Result Resumed HostFault) → HostResumes variant meaning old new result
      → CameWrites variant result old.standing new.standing
  resumes_came result r = (resumes_out result r).came

  module _ (last : Resumed) (request : List ℕ) (came : Result Resumed HostFault) where
    next_out : AsksNextRequest variant meaning old new last request came
        → Exit variant meaning old.standing new.standing old.kept new.kept came
    next_out a =
        recorded_exit variant meaning old.standing new.standing old.kept new.kept last request came a.recorded a.middle a.records.counted
        a.goes

    pub next_told : AsksNextRequest variant meaning old new last request came → Told came old new
    next_told a = (next_out a).told

    pub next_came : AsksNextRequest variant meaning old new last request came
        → CameWrites variant came old.standing new.standing
    next_came a = (next_out a).came

-- answered calls
pub answered_writes : (variant : Variant) (it : Resumed) (before after : Standing) → CameWrites variant (Ok it) before after
    → AnsweredWrites variant (new_requests_at it) before after
answered_writes variant it before after c = record {
  writes = rw (sym c.is_new) c.writes;
  leads = rw (sym c.is_new) c.leads;
}

-- Where a module doesn't live nothing is done: the cell that was read is none of it, or it wasn't read.

-- in these bytes a module with this id lives
record LivesThere (variant : Variant) (id : ℕ) (bytes : List ℕ) : Type 0 where
  cell : Cell
  spells : SpellsCell bytes cell
  kind : cell.variant ≡ variant
  named : cell.module ≡ id

not_both : (variant : Variant) (id : ℕ) (old : Standing) (bytes : List ℕ) → ((told : List ℕ) → old.cell ≡ Some told → bytes ≡ told)
    → LivesThere variant id bytes → LivesElsewhere variant id old → ⊥
not_both variant id old bytes same lives e =
    e.none lives.cell (subst (λ (told : List ℕ). SpellsCell told lives.cell) (same e.bytes e.told) lives.spells) lives.kind lives.named

-- a refused call
refused_then : (old new : Standing) (ended : AskResult) (result : Result BatchAnswer Refusal) (why : Refusal) → new.cell ≡ old.cell
    → result ≡ result_of ended → result_of ended ≡ Err why → LeavesCell old new result
refused_then old new ended result why same gives is = rw (gives ∙ is) (record { cell = same; refused = refl })

-- Basic finds something in a cell of its own alone
seen_there : (meaning : Meaning) (bytes offer : List ℕ) (b : Batch) (found : OpFinding BatchAnswer) (seen : BasicSight)
    → IsSeen meaning.id bytes offer seen → IsOrMemory (in_basic.finding_in meaning seen b) (Ok found) → LivesThere Basic meaning.id bytes
seen_there meaning bytes offer b found (Both cell offered) s f =
    record { cell = cell; spells = s.0; kind = s.1.0; named = s.1.1 }
seen_there meaning bytes offer b found (NoOffer fault) s f =
    record { cell = s.0; spells = s.1; kind = s.2.0; named = s.2.1 }
seen_there meaning bytes offer b found OtherCell s f = absurd (cc)
seen_there meaning bytes offer b found (NoCell fault) s f = absurd (grind (arith, f))

-- and Opt
own_there : (id : ℕ) (cell : Cell) → is_cell_of id cell ≡ true → (cell.variant ≡ Opt) × (cell.module ≡ id)
own_there id cell e = grind (arith, nat_tests, e)

read_there : (id : ℕ) (bytes : List ℕ) (read : Result Cell CellFault) (seen : Cell) → ReadsCell bytes read → Ok seen ≡ cell_in id read
    → LivesThere Opt id bytes
read_there id bytes (Ok cell) seen r e =
    let own = own_there id cell (grind (arith, e)) in record { cell = cell; spells = r; kind = own.0; named = own.1 }
read_there id bytes (Err why) seen r e = absurd (grind (arith, e))

module _ (meaning : Meaning) (offer : List ℕ) (b : Batch) (old new : Standing) (ended : AskResult) (result : Result BatchAnswer Refusal)
    (gives : result ≡ result_of ended) where
  basic_ends : (found : Result (OpFinding BatchAnswer) Refusal) (middle : Standing)
      → CallReads (basic_operation meaning offer b) old middle found → EndsByFinding basic_call found middle new ended
      → LivesElsewhere Basic meaning.id old → LeavesCell old new result
  basic_ends (Err why) middle r e away =
      let t = basic_reads_told meaning offer b old middle (Err why) r in
      refused_then old new ended result why (ap (λ (x : Standing). x.cell) e.0 ∙ t.goes.cell) gives (ap result_of e.1 ∙ refused_result why)
  basic_ends (Ok found) middle r e away =
      let f = (basic_reads_told meaning offer b old middle (Ok found) r).finds refl in
      absurd (not_both Basic meaning.id old f.bytes f.told
      (seen_there meaning f.bytes offer b found f.said.seen f.said.is_seen f.said.found_is) away)

  opt_on : (read : Result Cell Refusal) (one middle : Standing) (found : Result (OpFinding BatchAnswer) Refusal)
      → ReadsOwnCell meaning.id old one read → ReadsOn meaning offer b read one middle found
      → EndsByFinding opt_call found middle new ended → LivesElsewhere Opt meaning.id old → LeavesCell old new result
  opt_on (Ok seen) one middle found r on e away =
      let f = r.finds refl in
      absurd (not_both Opt meaning.id old f.bytes f.told
      (read_there meaning.id f.bytes f.said.read seen f.said.reads f.said.found_is) away)
  opt_on (Err why) one middle (Err said) r on e away =
      refused_then old new ended result said
      (ap (λ (x : Standing). x.cell) (e.0 ∙ on.0) ∙ r.goes.cell) gives (ap result_of e.1 ∙ refused_result said)
  opt_on (Err why) one middle (Ok found) r on e away = let never : Ok found ≡ Err why = on.1 in absurd (cc)

refused_by : (variant : Variant) (meaning : Meaning) (old new : Standing) (offer : List ℕ) (b : Batch)
    (result : Result BatchAnswer Refusal) → IsAskedCall (ask_call variant) meaning old new offer b result
    → LivesElsewhere variant meaning.id old → LeavesCell old new result
refused_by Basic meaning old new offer b result a away =
    basic_ends meaning offer b old new a.ended result a.gives a.asks.found a.asks.middle a.asks.reads a.asks.ends away
refused_by Opt meaning old new offer b result a away =
    let t = reads_told meaning offer b old a.asks.middle a.asks.found a.asks.reads in
    opt_on meaning offer b old new a.ended result a.gives t.cell t.middle a.asks.middle a.asks.found t.reads t.on a.asks.ends away

long_or : (long : Bool) (P : Type 0) → (long ≡ true → P) → (long ≡ false → P) → P
long_or true P if_long if_short = if_long refl
long_or false P if_long if_short = if_short refl

-- a call for a batch
pub calls_are_refused : CallsAreRefusedElsewhere
calls_are_refused variant meaning old new offer b result a away =
    long_or (is_long b) (LeavesCell old new result)
    (λ long. let l = a.calls.long long in
    rw l.1 (record { cell = ap (λ (x : Standing). x.cell) l.0; refused = refl }))
    (λ short. refused_by variant meaning old new offer b result (a.calls.asks short) away)

-- one for a request
pub one_refused : (variant : Variant) (meaning : Meaning) (old new : Standing) (offer : List ℕ) (b : Batch)
    (result : Result Answer Refusal) → IsAskedCall (ask_call variant) meaning old new offer b (batch_result_of result)
    → LivesElsewhere variant meaning.id old → LeavesCell old new result
one_refused variant meaning old new offer b (Ok answer) a away =
    let l = refused_by variant meaning old new offer b (batch_result_of (Ok answer)) a away in absurd (cc)
one_refused variant meaning old new offer b (Err why) a away =
    record { cell = (refused_by variant meaning old new offer b (Err why) a away).cell; refused = refl }

-- a checkpoint
opt_segment : (variant : Variant) (flag : Bool) (cell : Cell) (it : Segment) → Ok it ≡ segment_by variant flag cell → variant ≡ Opt
opt_segment variant flag cell it e = grind (arith, e)

segment_there : (bytes : List ℕ) (read : Result Cell CellFault) (it : Segment) → ReadsCell bytes read → Ok it ≡ segment_in read
    → (id : ℕ) × LivesThere Opt id bytes
segment_there bytes (Ok cell) it r e =
    (cell.module, record { cell = cell; spells = r; kind = opt_segment cell.variant cell.flag cell it e; named = refl })
segment_there bytes (Err why) it r e = absurd (grind (arith, e))

closing_ends : (old middle new : Standing) (result : Result Checkpointed CheckpointRefusal) (found : Result Segment CheckpointRefusal)
    → middle.cell ≡ old.cell → (closing_fault_in found ≡ None → FindsSegment old found) → EndsLooking found middle new result
    → ((id : ℕ) → LivesElsewhere Opt id old) → LeavesCell old new result
closing_ends old middle new result (Err why) same finds e away =
    rw e.1 (record { cell = ap (λ (x : Standing). x.cell) e.0 ∙ same; refused = refl })
closing_ends old middle new result (Ok it) same finds e away =
    let f = finds refl in
    let there = segment_there f.bytes f.sees.read it f.sees.reads f.sees.found_is in
    absurd (not_both Opt there.0 old f.bytes f.told there.1 (away there.0))

closing_refused : (old new : Standing) (result : Result Checkpointed CheckpointRefusal) → ClosesSegment old new result
    → ((id : ℕ) → LivesElsewhere Opt id old) → LeavesCell old new result
closing_refused old new result c = closing_ends old c.middle new result c.found c.looks.goes.cell c.looks.finds c.ends

pub is_checkpoint : (old new : Standing) (result : Result Checkpointed CheckpointRefusal) → ClosesSegment old new result
    → IsCheckpointOnCourse old new result → IsCheckpoint old new result
is_checkpoint old new result closes goes = record { goes = goes; elsewhere = closing_refused old new result closes }

pub checkpoints_are_refused : CheckpointsAreRefusedElsewhere
checkpoints_are_refused old new result c = is_checkpoint old new result c.closes c.goes

-- One call of either variant promises what the cores' whole calls do.

pub asked_in : (variant : Variant) (meaning : Meaning) → IsLawful meaning → (old new : Standing) (offer : List ℕ) (b : Batch)
    (ended : AskResult) (result : Result BatchAnswer Refusal) → is_long b ≡ false → IsWholeAsk variant meaning old new offer b ended
    → result ≡ result_of ended → AskPromise (ask_call variant) meaning old new offer b result
asked_in variant meaning lawful old new offer b ended result short whole is =
    let f = whole.finishes in rw (is, f.gives) (asked_whole meaning offer b old new variant f.end lawful short f.finishes)

-- what holds of the answer to a batch of one
of_whole : (result : Result Answer Refusal) (old new : Standing) (request : List ℕ)
    → CountsHandedFault (fault_in (batch_result_of result)) old.faults new.faults
    → IfOk (batch_result_of result) (λ all. IsFit (One request) all)
    → CountsHandedFault (fault_in result) old.faults new.faults × IfOk result (λ answer. IsFit (One request) (batch_answer_of answer))
of_whole result old new request b f = grind (arith, b, f)

-- how often the cell is to be written
counts : (variant : Variant) (meaning : Meaning) (old new : Standing) (offer request : List ℕ) (result : Result Answer Refusal)
    → is_long (One request) ≡ false → AskPromise (ask_call variant) meaning old new offer (One request) (batch_result_of result)
    → CallWrites variant result old new
counts Basic meaning old new offer request result short a = basic_writes old new result (a.steps short)
counts Opt meaning old new offer request result short a = opt_writes meaning old new offer (One request) result short a

-- one call of either variant
pub is_call : (variant : Variant) (meaning : Meaning) (old new : Standing) (offer request : List ℕ) (result : Result Answer Refusal)
    (gives : Result BatchAnswer Refusal) → gives ≡ batch_result_of result → is_long (One request) ≡ false
    → AskPromise (ask_call variant) meaning old new offer (One request) gives
    → IsCall variant meaning old new offer request result
is_call variant meaning old new offer request result gives e short asked =
    let a : AskPromise (ask_call variant) meaning old new offer (One request) (batch_result_of result) = rw (sym e) asked in
    let one = of_whole result old new request a.faults a.fits in record {
      goes = a.goes short;
      untouched = a.untouched;
      faults = one.0;
      short = λ e. subst (λ (r : Result Answer Refusal). StepsBy variant (batch_result_of r) old new) e (a.steps short);
      fits = one.1;
      counts = counts variant meaning old new offer request result short a;
      limited = short;
      steps = a.calls.asks short;
      elsewhere = one_refused variant meaning old new offer (One request) result (a.calls.asks short);
    }

-- What a host comes to has its sizes.

kept_sized : (request : List ℕ) (answer : Answer) (written : Result Unit StoreFault) → IsFit (One request) (batch_answer_of answer)
    → IfOk (result_of_keep answer written) IsSized
kept_sized request answer (Ok it) f = record { most = f.most; output = (All-head IsLine answer.output [] f.lines).short }
kept_sized request answer (Err why) f = tt

went_sized : (request : List ℕ) (asked : Result Answer Refusal) (old new : StoreStanding) (result : Result Resumed HostFault)
    → IfOk asked (λ answer. IsFit (One request) (batch_answer_of answer)) → HostGoesAfterAsk asked old new result → IfOk result IsSized
went_sized request (Ok answer) old new result f g = rw g.gives (kept_sized request answer g.written f)
went_sized request (Err why) old new result f g = rw g.1 tt

started_sized : (zero : Result (List ℕ) StoreFault) → IfOk (result_of_start zero) IsSized
started_sized (Ok first) = record { most = omega arith; output = omega arith }
started_sized (Err why) = tt

module _ (variant : Variant) (meaning : Meaning) where
  -- a request that is asked
  pub asked_sized : (old new : HostStanding) (offer request : List ℕ) (result : Result Resumed HostFault)
      → AsksAndKeepsAnswer variant meaning old new offer request result → IfOk result IsSized
  asked_sized old new offer request result a = went_sized request a.asked old.kept new.kept result a.asks.fits a.goes

  offered_sized : (offer : Result (List ℕ) StoreFault) (middle new : HostStanding) (p : PendingRecord) (result : Result Resumed HostFault)
      → HostGoesAfterOffer variant meaning offer middle new p result → IfOk result IsSized
  offered_sized (Ok offer) middle new p result g = asked_sized middle new offer p.request result g
  offered_sized (Err why) middle new p result g = rw g.1 tt

  found_sized : (waiting : Result (Option PendingRecord) StoreFault) (middle new : HostStanding) (result : Result Resumed HostFault)
      → HostGoesAfterFinding variant meaning waiting middle new result → IfOk result IsSized
  found_sized (Err why) middle new result g = rw g.1 tt
  found_sized (Ok None) middle new result g = rw g.1.gives (started_sized g.1.zero)
  found_sized (Ok (Some p)) middle new result g = offered_sized g.offer (record middle { kept = g.middle }) new p result g.goes

  -- a recovery
  pub resumes_sized : (old new : HostStanding) (result : Result Resumed HostFault) → HostResumes variant meaning old new result
      → IfOk result IsSized
  resumes_sized old new result r = found_sized r.waiting (record old { kept = r.middle }) new result r.goes
