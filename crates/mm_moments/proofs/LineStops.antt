-- A session that is killed as it serves its lines stops there. With it: a checkpoint that is killed
-- at one of its steps is one that its device broke off.
use Rattle.std.specs.Io.KnownBytes.{Appends, append_known}
use Rattle.std.specs.List.{AllByRecursion}
use Rattle.std.proofs.Common.{◌≡◌, ◌∙◌, ◌+◌, ◌≤◌, ◌++◌, ℕ, suc, List, [], ◌∷◌, Option, Some, Result, Ok, Err, length, map, refl, subst, sym}
use Rattle.std.proofs.Common.{inr, ap, append_assoc, arith, None}
use Rattle.std.proofs.lemmas.List.{append-nil}
use Rattle.mm_bytes.specs.Limits.{longest_request, next_count}
use Rattle.mm_base.specs.Input.{joined_lines, IsLineFront}
use Rattle.mm_base.specs.declared.replay_fault.ReplayFault.TheVariants as replay
use Rattle.mm_digest.specs.declared.variant.Variant.{Variant}
use Rattle.mm_seal.specs.declared.cell.Cell.{Cell}
use Rattle.mm_platform.specs.Standing.{Standing, StepGoes}
use Rattle.mm_platform.specs.declared.fault.StepFault.TheVariants.{Off}
use Rattle.mm_module.specs.Meaning.{IsLawful, Meaning}
use Rattle.mm_model.specs.ListLaws.{each_append}
use Rattle.mm_call.proofs.Above.{each_at}
use Rattle.mm_opt.specs.Checkpoints.{ClosesSegment, EndsLooking, LooksAtSegment, WeighsRegister}
use Rattle.mm_opt.specs.declared.segment.Checkpointed.{Checkpointed}
use Rattle.mm_opt.specs.declared.segment.CheckpointRefusal.{CheckpointRefusal}
use Rattle.mm_opt.specs.declared.segment.CheckpointRefusal.TheVariants.{Device}
use Rattle.mm_opt.specs.declared.segment.Segment.{Segment}
use Rattle.mm_opt.specs.declared.segment.Segment.TheVariants.{Open, Shut}
use Rattle.mm_opt.proofs.Above.{checks_on}
use Rattle.mm_store.specs.StoreStanding.{WritesSlot, StoreStanding}
use Rattle.mm_store.specs.declared.fault.StoreFault.TheVariants.{Failed}
use Rattle.mm_killed.specs.DeviceCalls.{Sends, DeviceCall, Allocates, Cycles, Readies, Reads, Steps, TakesEntropy, TakesInput, Writes}
use Rattle.mm_killed.proofs.Above.{cycle_fails, failed_standing, put_back_told, step_fails}
use Rattle.mm_recovery.specs.HostStanding.{HostStanding, AsksNextRequest, host_standing}
use Rattle.mm_recovery.specs.declared.fault.HostFault.{HostFault}
use Rattle.mm_recovery.specs.declared.fault.HostFault.TheVariants.{Store}
use Rattle.mm_recovery.specs.declared.resuming.Resumed.{Resumed}
use Rattle.mm_recovery.specs.declared.resuming.Resumed.TheVariants.{Answered}
use Rattle.mm_host.specs.Sessions.{SendsReply, ServedCall, ServesAllLines, ServesCalls, SessionPlace, most_lines, replies_to, reply_text}
use Rattle.mm_host.specs.Sessions.{served_lines}
use Rattle.mm_host.specs.declared.fault.SessionFault.{SessionFault}
use Rattle.mm_host.specs.declared.fault.SessionFault.TheVariants.{Host, Lines}
use Rattle.mm_life.specs.Deeds.{line_calls}
use Rattle.mm_moments.specs.Moments.{HostMoment, Moment, MomentLeaves, awaiting_moment, behind, calls_moments, in_hand, last_moments}
use Rattle.mm_moments.specs.Moments.{line_moments, lines_moments, telling_moments, turn_moments, StepMoment}
use Rattle.mm_moments.specs.MortalLives.{IsWriteOfSlot, CheckpointStopsAnywhere, HostTellsSame, KillLeavesAll, KilledBetweenCalls}
use Rattle.mm_moments.specs.MortalLives.{checkpoint_moments, segment_moments, writing_moments, MayBeKilledAnywhere}
use Rattle.mm_moments.proofs.Counting.{each_map, each_so}
use Rattle.mm_moments.proofs.HostStops.{AsksLine, HostStopsAt, calls_of_line, line_stops}

pub some_text : (byte : ℕ) (text : List ℕ) → byte ∷ text ≡ [] → ⊥
some_text byte text e = cc

one_later : (calls number : ℕ) → calls + (number + 1) ≡ suc calls + number
one_later calls number = omega arith

module _ (variant : Variant) (meaning : Meaning) where
  -- How a session stops at a moment, where the line of this number would be next, behind what was told and sent before it: no line
  -- is in hand; the line in hand came to a fault; or the output failed.
  pub data LineEnd (number : ℕ) (at : SessionPlace) (m : Moment) (host : HostStanding) (more last : List ℕ) : Type 0 where
    rests : host ≡ at.host → more ≡ [] → last ≡ [] → m.untold ≡ [] → LineEnd number at m host more last
    fails : (line : List ℕ) → more ≡ line ++ 10 ∷ [] → IsLineFront longest_request line → number ≤ most_lines → (why : HostFault)
        → (a : AsksNextRequest variant meaning at.host host at.last line (Err why)) → last ≡ reply_text (Err why)
        → line_calls a ≡ m.untold → m.hand ≡ Some line → (why ≡ Store → IsWriteOfSlot m.next) → LineEnd number at m host more last
    cuts : (line : List ℕ) → more ≡ line ++ 10 ∷ [] → IsLineFront longest_request line → number ≤ most_lines
        → (came : Result Resumed HostFault) → (a : AsksNextRequest variant meaning at.host host at.last line came)
        → SendsReply came last (Err (Lines replay.WriteFault)) → line_calls a ≡ m.untold → m.hand ≡ Some line
        → LineEnd number at m host more last

  -- where a turn begins with these bytes before it
  pub record TurnStops (number : ℕ) (at : SessionPlace) (bytes : List ℕ) (m : Moment) (host : HostStanding) (sent : List ℕ) : Type 0 where
    pub more : List ℕ
    pub last : List ℕ
    pub rest : List ℕ
    pub front : more ++ rest ≡ bytes
    pub wrote : m.sent ++ sent ≡ last
    pub told : m.told ≡ []
    pub end : LineEnd number at m host more last

  -- where lines begin
  pub record LinesStop (number : ℕ) (from : SessionPlace) (bytes : List ℕ) (m : Moment) (host : HostStanding) (sent : List ℕ) : Type 0 where
    pub calls : List ServedCall
    pub at : SessionPlace
    pub serves : ServesCalls variant meaning from calls at
    pub few : length calls + number ≤ most_lines + 1
    pub more : List ℕ
    pub last : List ℕ
    pub rest : List ℕ
    pub front : joined_lines (served_lines calls) ++ (more ++ rest) ≡ bytes
    pub wrote : m.sent ++ sent ≡ replies_to calls ++ last
    pub told : calls ≡ m.told
    pub end : LineEnd (length calls + number) at m host more last

  abbrev pub TurnStopsAt : ℕ → SessionPlace → List ℕ → Moment → Type 0
  TurnStopsAt number at bytes m =
      (host : HostStanding) (sent : List ℕ) → MomentLeaves m.next m.host host sent → TurnStops number at bytes m host sent

  abbrev pub LinesStopAt : ℕ → SessionPlace → List ℕ → Moment → Type 0
  LinesStopAt number from bytes m =
      (host : HostStanding) (sent : List ℕ) → MomentLeaves m.next m.host host sent → LinesStop number from bytes m host sent

  -- the next line is awaited
  awaiting_stops : (number : ℕ) (at : SessionPlace) (bytes : List ℕ) → TurnStopsAt number at bytes (awaiting_moment at.host)
  awaiting_stops number at bytes host sent l = record {
    more = [];
    last = [];
    rest = bytes;
    front = refl;
    wrote = l.1;
    told = refl;
    end = rests l.0 refl refl refl;
  }

  module _ (lawful : IsLawful meaning) (number : ℕ) (at : SessionPlace) (bytes line held : List ℕ) (cut : bytes ≡ line ++ 10 ∷ held)
      (within : IsLineFront longest_request line) (few : number ≤ most_lines) where
    fronted : (line ++ 10 ∷ []) ++ held ≡ bytes
    fronted = append_assoc line (10 ∷ []) held ∙ sym cut

    -- the line is asked
    in_line : (m : HostMoment)
        → HostStopsAt (AsksLine variant meaning lawful at.host at.last line) (calls_of_line variant meaning lawful at.host at.last line) m
        → TurnStopsAt number at bytes (in_hand (Some line) m)
    in_line m stops host sent l = let s = stops host sent l in record {
      more = line ++ 10 ∷ [];
      last = [];
      rest = held;
      front = fronted;
      wrote = s.ends.silent;
      told = refl;
      end = fails line refl within few s.why s.goes (sym s.ends.quiet) s.made refl s.ends.stored;
    }

    -- what came is told
    telling_stops : (end : HostStanding) (came : Result Resumed HostFault)
        (a : AsksNextRequest variant meaning at.host end at.last line came)
        (text : List ℕ) → text ≡ reply_text came
        → AllByRecursion (TurnStopsAt number at bytes) (telling_moments text end (Some line) (line_calls a))
    telling_stops end came a [] is = tt
    telling_stops end came a (byte ∷ text) is =
        let m : Moment = record {
          host = end;
          sent = [];
          next = Some (Sends (byte ∷ text));
          told = [];
          hand = Some line;
          untold = line_calls a;
        } in (
          λ host sent l. subst (λ (x : HostStanding). TurnStops number at bytes m x sent) (sym l.0) (record {
            more = line ++ 10 ∷ [];
            last = sent;
            rest = held;
            front = fronted;
            wrote = refl;
            told = refl;
            end = cuts line refl within few came a (inr (refl, (λ none. some_text byte text (is ∙ none)), (l.1.0, l.1.1 ∙ is))) refl refl;
          }),
          tt,
        )

    turn_stops : (end : HostStanding) (came : Result Resumed HostFault) (a : AsksNextRequest variant meaning at.host end at.last line came)
        → AllByRecursion (TurnStopsAt number at bytes) (turn_moments a)
    turn_stops end came a = (
      awaiting_stops number at bytes,
      each_append (TurnStopsAt number at bytes) (map (in_hand (Some line)) (line_moments a))
          (telling_moments (reply_text came) end (Some line) (line_calls a))
          (each_map (in_hand (Some line)) (TurnStopsAt number at bytes) (line_moments a)
          (each_so (HostStopsAt (AsksLine variant meaning lawful at.host at.last line)
          (calls_of_line variant meaning lawful at.host at.last line))
          (λ (m : HostMoment). TurnStopsAt number at bytes (in_hand (Some line) m)) in_line (line_moments a)
          (line_stops variant meaning lawful at.host at.last line end came a)))
          (telling_stops end came a (reply_text came) refl),
    )

  -- the moments of a turn, behind the calls before it
  behind_end : (number : ℕ) (at : SessionPlace) (told : List ServedCall) (sent : List ℕ) (m : Moment) (host : HostStanding)
      (more last : List ℕ) → LineEnd number at m host more last → LineEnd number at (behind told sent m) host more last
  behind_end number at told sent m host more last (rests still none silent untold) = rests still none silent untold
  behind_end number at told sent m host more last (fails line is within few why a says untold hand stored) =
      fails line is within few why a says untold hand stored
  behind_end number at told sent m host more last (cuts line is within few came a says untold hand) =
      cuts line is within few came a says untold hand

  behind_calls : (number : ℕ) (from at : SessionPlace) (calls : List ServedCall) → ServesCalls variant meaning from calls at
      → length calls + number ≤ most_lines + 1 → (bytes : List ℕ) (m : Moment) → TurnStopsAt (length calls + number) at bytes m
      → LinesStopAt number from (joined_lines (served_lines calls) ++ bytes) (behind calls (replies_to calls) m)
  behind_calls number from at calls serves few bytes m stops host sent l = let s = stops host sent l in record {
    calls = calls;
    at = at;
    serves = serves;
    few = few;
    more = s.more;
    last = s.last;
    rest = s.rest;
    front = ap (λ (x : List ℕ). joined_lines (served_lines calls) ++ x) s.front;
    wrote = append_assoc (replies_to calls) m.sent sent ∙ ap (λ (x : List ℕ). replies_to calls ++ x) s.wrote;
    told = sym (append-nil calls) ∙ ap (λ (x : List ServedCall). calls ++ x) (sym s.told);
    end = behind_end (length calls + number) at calls (replies_to calls) m host s.more s.last s.end;
  }

  -- one call more before them
  cons_end : (calls number : ℕ) (at : SessionPlace) (c : ServedCall) (sent : List ℕ) (m : Moment) (host : HostStanding)
      (more last : List ℕ) → LineEnd (calls + (number + 1)) at m host more last
      → LineEnd (suc calls + number) at (behind (c ∷ []) sent m) host more last
  cons_end calls number at c sent m host more last e =
      subst (λ (n : ℕ). LineEnd n at (behind (c ∷ []) sent m) host more last) (one_later calls number)
      (behind_end (calls + (number + 1)) at (c ∷ []) sent m host more last e)

  module _ (lawful : IsLawful meaning) where
    cons_stops : (number : ℕ) (from : SessionPlace) (c : ServedCall) (within : IsLineFront longest_request c.line) (middle : HostStanding)
        (asks : AsksNextRequest variant meaning from.host middle from.last c.line (Ok (Answered c.answer))) (lines bytes : List ℕ)
        (m : Moment) → LinesStopAt (number + 1) (record { host = middle; last = Answered c.answer }) (lines ++ bytes) m
        → LinesStopAt number from ((c.line ++ 10 ∷ lines) ++ bytes) (behind (c ∷ []) (reply_text (Ok (Answered c.answer))) m)
    cons_stops number from c within middle asks lines bytes m stops host sent l = let s = stops host sent l in record {
      calls = c ∷ s.calls;
      at = s.at;
      serves = record { within = within; host = middle; asks = asks; rest = s.serves };
      few = let few = s.few in omega (arith, few);
      more = s.more;
      last = s.last;
      rest = s.rest;
      front = append_assoc c.line (10 ∷ joined_lines (served_lines s.calls)) (s.more ++ s.rest)
          ∙ ap (λ (x : List ℕ). c.line ++ 10 ∷ x) s.front ∙ sym (append_assoc c.line (10 ∷ lines) bytes);
      wrote = append_assoc (reply_text (Ok (Answered c.answer))) m.sent sent
          ∙ ap (λ (x : List ℕ). reply_text (Ok (Answered c.answer)) ++ x) s.wrote
          ∙ sym (append_assoc (reply_text (Ok (Answered c.answer))) (replies_to s.calls) s.last);
      told = ap (λ (x : List ServedCall). c ∷ x) s.told;
      end = cons_end (length s.calls) number s.at c (reply_text (Ok (Answered c.answer))) m host s.more s.last s.end;
    }

    calls_stop : (number : ℕ) (calls : List ServedCall) (from to : SessionPlace) (s : ServesCalls variant meaning from calls to)
        → length calls + number ≤ most_lines + 1 → (bytes : List ℕ)
        → AllByRecursion (LinesStopAt number from (joined_lines (served_lines calls) ++ bytes))
        (calls_moments variant meaning from calls to s)
    calls_stop number [] from to s few bytes = tt
    calls_stop number (c ∷ calls) from to s few bytes =
        let next : SessionPlace = record { host = s.host; last = Answered c.answer } in
        let lines : List ℕ = joined_lines (served_lines calls) in
        let all : List ℕ = (c.line ++ 10 ∷ lines) ++ bytes in
        let reply : List ℕ = reply_text (Ok (Answered c.answer)) in
        let none : List ServedCall = [] in
        each_append (LinesStopAt number from all) (turn_moments s.asks)
        (map (behind (c ∷ []) reply) (calls_moments variant meaning next calls to s.rest))
        (each_so (TurnStopsAt (length none + number) from all) (LinesStopAt number from all)
        (λ m stops. behind_calls number from from none refl (omega (arith, few)) all m stops) (turn_moments s.asks)
        (turn_stops lawful (length none + number) from all c.line (lines ++ bytes) (append_assoc c.line (10 ∷ lines) bytes) s.within
        (omega (arith, few)) s.host (Ok (Answered c.answer)) s.asks))
        (each_map (behind (c ∷ []) reply) (LinesStopAt number from all) (calls_moments variant meaning next calls to s.rest)
        (each_so (LinesStopAt (number + 1) next (lines ++ bytes)) (λ (m : Moment). LinesStopAt number from all (behind (c ∷ []) reply m))
        (cons_stops number from c s.within s.host s.asks lines bytes) (calls_moments variant meaning next calls to s.rest)
        (calls_stop (number + 1) calls next to s.rest (omega (arith, few)) bytes)))

    -- the line in hand where a session stops, or none
    last_stops : {number : ℕ} {from : SessionPlace} {new : HostStanding} {left : Option (List ℕ)} {bytes sent : List ℕ}
        (result : Result Unit SessionFault) (l : ServesAllLines variant meaning number from new left bytes sent result)
        → AllByRecursion (TurnStopsAt (length l.calls + number) l.at l.more) (last_moments result l)
    last_stops {number} {new = new} (Err (Host fault)) l =
        let e = l.ends in
        turn_stops lawful (length l.calls + number) l.at l.more e.line e.held e.begins.cut e.begins.within e.few new e.came e.asks
    last_stops {number} {new = new} (Err (Lines replay.WriteFault)) l =
        let e = l.ends in
        turn_stops lawful (length l.calls + number) l.at l.more e.line e.held e.begins.cut e.begins.within e.few new e.came e.asks
    last_stops {number} result l = (awaiting_stops (length l.calls + number) l.at l.more, tt)

    pub lines_stop : {number : ℕ} {from : SessionPlace} {new : HostStanding} {left : Option (List ℕ)} {bytes sent : List ℕ}
        (result : Result Unit SessionFault) (l : ServesAllLines variant meaning number from new left bytes sent result)
        → AllByRecursion (LinesStopAt number from bytes) (lines_moments result l)
    lines_stop {number} {from} result l =
        subst (λ (x : List ℕ). AllByRecursion (LinesStopAt number from x) (lines_moments result l)) (sym l.took)
        (each_append (LinesStopAt number from (joined_lines (served_lines l.calls) ++ l.more))
        (calls_moments variant meaning from l.calls l.at l.serves) (map (behind l.calls (replies_to l.calls)) (last_moments result l))
        (calls_stop number l.calls from l.at l.serves l.few l.more)
        (each_map (behind l.calls (replies_to l.calls)) (LinesStopAt number from (joined_lines (served_lines l.calls) ++ l.more))
        (last_moments result l)
        (each_so (TurnStopsAt (length l.calls + number) l.at l.more)
        (λ (m : Moment). LinesStopAt number from (joined_lines (served_lines l.calls) ++ l.more) (behind l.calls (replies_to l.calls) m))
        (behind_calls number from l.at l.calls l.serves l.few l.more) (last_moments result l) (last_stops result l))))

-- A checkpoint that is killed at one of its steps is one that its device broke off; and a kill between two calls is one at the second.

module _ (old : Standing) where
  -- killed at this moment, the checkpoint is broken off
  abbrev Stops : StepMoment → Type 0
  Stops m = (new : Standing) → StepGoes m.act m.at new (Some Off) → ClosesSegment old new (Err (Device Off))

  writing_stops : (middle at : Standing) (found : Result Segment CheckpointRefusal) → LooksAtSegment old middle found → (cell : Cell)
      → found ≡ Ok (Open cell) → (closing : Result (List ℕ) CheckpointRefusal) → WeighsRegister cell middle at closing
      → AllByRecursion Stops (writing_moments closing at)
  writing_stops middle at found looks cell is (Ok next) weighs = (
    λ new k. record {
      middle = middle;
      found = found;
      looks = looks;
      ends = rw is (record {
        middle = at;
        found = Ok next;
        weighs = weighs;
        ends = record { written = Err Off; closes = record { goes = k; gives = tt }; gives = refl };
      });
    },
    tt,
  )
  writing_stops middle at found looks cell is (Err why) weighs = tt

  segment_stops : (middle end : Standing) (found : Result Segment CheckpointRefusal) (result : Result Checkpointed CheckpointRefusal)
      → LooksAtSegment old middle found → (e : EndsLooking found middle end result)
      → AllByRecursion Stops (segment_moments found middle end result e)
  segment_stops middle end (Ok (Open cell)) result looks e = (
    λ new k. record {
      middle = middle;
      found = Ok (Open cell);
      looks = looks;
      ends = record {
        middle = new;
        found = Err (Device Off);
        weighs = record { goes = k; finds = λ none. absurd (cc) };
        ends = (refl, refl);
      };
    },
    writing_stops middle e.middle (Ok (Open cell)) looks cell refl e.found e.weighs,
  )
  segment_stops middle end (Ok Shut) result looks e = tt
  segment_stops middle end (Err why) result looks e = tt

  checkpoint_stops : (end : Standing) (result : Result Checkpointed CheckpointRefusal) (c : ClosesSegment old end result)
      → AllByRecursion Stops (checkpoint_moments c)
  checkpoint_stops end result c = (
    λ new k. record {
      middle = new;
      found = Err (Device Off);
      looks = record { goes = k; finds = λ none. absurd (cc) };
      ends = (refl, refl);
    },
    segment_stops c.middle end c.found result c.looks c.ends,
  )

pub checkpoints_stop_anywhere : CheckpointStopsAnywhere
checkpoints_stop_anywhere old end new result c m among k =
    let broken = each_at (Stops old) (checkpoint_moments c) m (checkpoint_stops old end result c) among new k in
    record { closes = broken; goes = checks_on old new (Err (Device Off)) broken }

same_host : (at : HostStanding) → HostTellsSame at at
same_host at = record { cell = refl; items = refl; is_on = refl; slots = refl; is_honest = refl; unsynced = refl }

abbrev failed_store : StoreStanding → StoreStanding
failed_store old = record old { faults = next_count old.faults }

write_fails : (slot : ℕ) (bytes : List ℕ) (old : StoreStanding) → WritesSlot slot bytes old (failed_store old) (Err Failed)
write_fails slot bytes old = record {
  honest = refl;
  counted = refl;
  leaves = λ honest. put_back_told old.slots slot;
  spared = λ e. absurd (cc);
  synced = refl;
}

leaves_same : (next : Option DeviceCall) (at : HostStanding) → at.standing.plan ≡ None → KillLeavesAll next at
leaves_same (Some (Steps act)) at none = record {
  left = host_standing (failed_standing act at.standing) at.kept;
  leaves = (refl, refl, step_fails act at.standing none);
  same = record { cell = refl; items = refl; is_on = refl; slots = refl; is_honest = refl; unsynced = refl };
}
leaves_same (Some Cycles) at none = record {
  left = host_standing (record at.standing { cycles = next_count at.standing.cycles; faults = next_count at.standing.faults }) at.kept;
  leaves = (refl, refl, cycle_fails at.standing none);
  same = record { cell = refl; items = refl; is_on = refl; slots = refl; is_honest = refl; unsynced = refl };
}
leaves_same (Some (Writes slot bytes)) at none = record {
  left = host_standing at.standing (failed_store at.kept);
  leaves = (refl, refl, write_fails slot bytes at.kept);
  same = record { cell = refl; items = refl; is_on = refl; slots = refl; is_honest = refl; unsynced = refl };
}
leaves_same (Some (Sends piece)) at none = record { left = at; leaves = (refl, (piece, refl)); same = same_host at }
leaves_same (Some Readies) at none = record { left = at; leaves = (refl, refl); same = same_host at }
leaves_same (Some (Reads slot)) at none = record { left = at; leaves = (refl, refl); same = same_host at }
leaves_same (Some (TakesInput room)) at none = record { left = at; leaves = (refl, refl); same = same_host at }
leaves_same (Some (TakesEntropy room)) at none = record { left = at; leaves = (refl, refl); same = same_host at }
leaves_same (Some Allocates) at none = record { left = at; leaves = (refl, refl); same = same_host at }
leaves_same None at none = record { left = at; leaves = (refl, refl); same = same_host at }

pub killed_between : KilledBetweenCalls
killed_between next at none = leaves_same next at none

appended : (received : Option (List ℕ)) (sent : List ℕ) → Appends received (append_known received sent) sent
appended None sent = tt
appended (Some xs) sent = refl

pub may_be_killed : MayBeKilledAnywhere
may_be_killed variant meaning old end result whole m among none =
    let l = leaves_same m.next m.host none in record {
      host = l.left;
      received = append_known old.received (m.sent ++ []);
      killed = record {
        end = end;
        result = result;
        whole = whole;
        moment = m;
        among = among;
        sent = [];
        leaves = l.leaves;
        appended = appended old.received (m.sent ++ []);
      };
      is = refl;
    }
