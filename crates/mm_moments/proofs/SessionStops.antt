-- A session that is killed at any moment is one that ended there.
use Rattle.std.specs.Io.KnownBytes.{Appends, Consumes}
use Rattle.std.specs.List.{AllByRecursion}
use Rattle.std.proofs.Common.{◌≡◌, ◌≢◌, ◌∙◌, ◌+◌, ◌++◌, ℕ, List, [], ◌∷◌, Option, None, Some, Result, Err, length, map, refl, subst, sym, ap, inl, inr}
use Rattle.std.proofs.Common.{append_assoc, arith}
use Rattle.std.proofs.lemmas.List.Elements.{All-nil}
use Rattle.mm_base.specs.Input.{joined_lines, lines_of, IsLineFront}
use Rattle.mm_base.specs.InputLaws.{lines_of-line}
use Rattle.mm_base.specs.declared.replay_fault.ReplayFault.TheVariants as replay
use Rattle.mm_bytes.specs.Limits.{longest_request}
use Rattle.mm_digest.specs.declared.variant.Variant.{Variant}
use Rattle.mm_module.specs.Meaning.{IsLawful, Meaning}
use Rattle.mm_model.specs.ListLaws.{each_append}
use Rattle.mm_call.proofs.Above.{each_at}
use Rattle.mm_store.specs.PendingRecord.{PendingRecord}
use Rattle.mm_recovery.specs.HostStanding.{HostStanding}
use Rattle.mm_recovery.specs.declared.fault.HostFault.{HostFault}
use Rattle.mm_recovery.specs.declared.fault.HostFault.TheVariants.{Store}
use Rattle.mm_host.specs.Continuation.{first_served_call}
use Rattle.mm_host.specs.Sessions.{SessionStanding, host_of, BytesBeginWith, IsSession, ServedCall, ServesAllLines, SessionGoesAfterResume}
use Rattle.mm_host.specs.Sessions.{SessionGoesOn, SessionPlace, TurnGoes, reply_text, served_lines}
use Rattle.mm_host.specs.declared.fault.SessionFault.{SessionFault}
use Rattle.mm_host.specs.declared.fault.SessionFault.TheVariants.{Host, Lines}
use Rattle.mm_life.specs.Deeds.{LifeCall, first_bytes, first_calls, found_host, found_record, last_calls, told_calls}
use Rattle.mm_moments.specs.MortalLives.{IsWriteOfSlot, SessionStops, SessionStopsAnywhere}
use Rattle.mm_moments.specs.Moments.{HostMoment, Moment, MomentLeaves, behind, first_moments, going_moments, in_hand, lines_moments}
use Rattle.mm_moments.specs.Moments.{moments, telling_moments, waiting_request}
use Rattle.mm_moments.proofs.Counting.{each_map, each_so}
use Rattle.mm_moments.proofs.HostStops.{StopsEarly, first_stops}
use Rattle.mm_moments.proofs.LineStops.{LineEnd, LinesStop, LinesStopAt, cuts, fails, lines_stop, rests, some_text}

none_taken : (left : Option (List ℕ)) → Consumes left left []
none_taken None = tt
none_taken (Some xs) = refl

-- a front of what was taken is taken
front_taken : (old new : Option (List ℕ)) (taken front rest : List ℕ) → Consumes old new taken → front ++ rest ≡ taken
    → (left : Option (List ℕ)) × Consumes old left front
front_taken None new taken front rest c e = (None, tt)
front_taken (Some xs) None taken front rest c e = absurd c
front_taken (Some xs) (Some ys) taken front rest c e =
    (Some (rest ++ ys), c ∙ ap (λ (x : List ℕ). x ++ ys) (sym e) ∙ append_assoc front rest ys)

-- the bytes of a line tell it
one_line : (line request held : List ℕ) → IsLineFront longest_request line → IsLineFront longest_request request
    → line ++ 10 ∷ [] ≡ request ++ 10 ∷ held → line ≡ request
one_line line request held one other e =
    let same : line ∷ lines_of [] ≡ request ∷ lines_of held =
    sym (lines_of-line line [] one.unbroken) ∙ ap lines_of e ∙ lines_of-line request held other.unbroken in cc

no_bytes : (request held : List ℕ) → [] ≡ request ++ 10 ∷ held → ⊥
no_bytes [] held e = cc
no_bytes (byte ∷ request) held e = cc

host_store : (why : HostFault) → Host why ≡ Host Store → why ≡ Store
host_store why e = cc

no_line : IsLineFront longest_request []
no_line = record { unbroken = All-nil (λ (byte : ℕ). byte ≢ 10); short = omega arith }

module _ (variant : Variant) (meaning : Meaning) (lawful : IsLawful meaning) (old end : SessionStanding)
    (result : Result Unit SessionFault) (s : IsSession variant meaning old end result) where
  abbrev waits : Option PendingRecord
  waits = found_record s.resumes.waiting

  abbrev Stops : Moment → Type 0
  Stops m =
      (host : HostStanding) (sent : List ℕ) (received : Option (List ℕ)) → MomentLeaves m.next m.host host sent
      → Appends old.received received (m.sent ++ sent) → SessionStops variant meaning old host received m (first_bytes s)

  -- what waits is found, and asked
  early : (m : HostMoment) → StopsEarly variant meaning lawful (host_of old) s.resumes.waiting m → Stops (in_hand (waiting_request waits) m)
  early m stops host sent received l a = let e = stops host sent l in record {
    left = old.left;
    fault = Host e.why;
    stops = record {
      taken = [];
      sent = [];
      consumed = none_taken old.left;
      appended = subst (λ (x : List ℕ). Appends old.received received x) e.ends.silent a;
      begun = Err e.why;
      middle = host;
      resumes = e.goes.resumes;
      goes = inl (refl, record { fault = Host e.why; says = inl (sym e.ends.quiet, refl); stops = refl; nothing = refl });
    };
    told = refl;
    calls = e.made;
    hand = λ request h. ap waiting_request (e.goes.same h.0 h.1) ∙ ap (λ (x : List ℕ). Some x) h.2;
    stored = λ is. e.ends.stored (host_store e.why is);
  }

  -- what came of it is told
  telling : (text : List ℕ) → text ≡ reply_text s.begun
      → AllByRecursion Stops (telling_moments text s.middle (waiting_request waits)
      (first_calls variant meaning s.resumes.waiting (found_host s) s.middle s.begun s.resumes.goes))
  telling [] is = tt
  telling (byte ∷ text) is = (
    λ host sent received l a. record {
      left = old.left;
      fault = Lines replay.WriteFault;
      stops = record {
        taken = [];
        sent = sent;
        consumed = none_taken old.left;
        appended = a;
        begun = s.begun;
        middle = s.middle;
        resumes = s.resumes;
        goes = inl (
          l.0,
          record {
            fault = Lines replay.WriteFault;
            says = inr (refl, (λ none. some_text byte text (is ∙ none)), (l.1.0, l.1.1 ∙ is));
            stops = refl;
            nothing = refl;
          },
        );
      };
      told = refl;
      calls = refl;
      hand = λ request h. ap waiting_request h.1 ∙ ap (λ (x : List ℕ). Some x) h.2;
      stored = λ is. absurd (cc);
    },
    tt,
  )

  module _ (goes : SessionGoesOn variant meaning s.begun s.middle (host_of end) end.left s.taken s.sent result) where
    abbrev start : SessionPlace
    start = record { host = s.middle; last = goes.first }

    abbrev before : List ServedCall
    before = first_served_call waits goes.first

    -- the session that told so much, and stopped by this fault with these lines
    stopped : (m : Moment) (host : HostStanding) (sent : List ℕ) (received left : Option (List ℕ)) (taken : List ℕ) (fault : SessionFault)
        → Appends old.received received ((reply_text s.begun ++ m.sent) ++ sent) → Consumes old.left left taken
        → (l : ServesAllLines variant meaning 1 start host left taken (m.sent ++ sent) (Err fault)) → l.calls ≡ m.told
        → last_calls (Err fault) l ≡ m.untold
        → ((request held : List ℕ) → BytesBeginWith l.more request held → m.hand ≡ Some request)
        → (fault ≡ Host Store → IsWriteOfSlot m.next)
        → SessionStops variant meaning old host received (behind before (reply_text s.begun) m) (first_bytes s)
    stopped m host sent received left taken fault a consumed l told untold hand stored = record {
      left = left;
      fault = fault;
      stops = record {
        taken = taken;
        sent = reply_text s.begun ++ (m.sent ++ sent);
        consumed = consumed;
        appended = subst (λ (x : List ℕ). Appends old.received received x) (append_assoc (reply_text s.begun) m.sent sent) a;
        begun = s.begun;
        middle = s.middle;
        resumes = s.resumes;
        goes = inr (record { first = goes.first; begins = goes.begins; replies = m.sent ++ sent; wrote = refl; lines = l });
      };
      told = ap (λ (x : List ServedCall). before ++ x) told;
      calls = ap (λ (x : List ServedCall). told_calls (first_bytes s) (before ++ x) ++ last_calls (Err fault) l) told
          ∙ ap (λ (x : List LifeCall). told_calls (first_bytes s) (before ++ m.told) ++ x) untold;
      hand = λ request h. hand request h.0 h.1;
      stored = stored;
    }

    -- the lines that it served, and how the last one ended
    abbrev lines_by : (m : Moment) (host : HostStanding) (sent : List ℕ) (left : Option (List ℕ))
        (t : LinesStop variant meaning 1 start s.taken m host sent) (fault : SessionFault)
        → TurnGoes variant meaning (length t.calls + 1) t.at host left t.more [] t.last (Err fault)
        → ServesAllLines variant meaning 1 start host left (joined_lines (served_lines t.calls) ++ t.more) (m.sent ++ sent) (Err fault)
    lines_by m host sent left t fault ends = record {
      calls = t.calls;
      few = t.few;
      at = t.at;
      serves = t.serves;
      more = t.more;
      last = t.last;
      took = refl;
      wrote = t.wrote;
      ends = ends;
    }

    by_end : (m : Moment) (host : HostStanding) (sent : List ℕ) (received left : Option (List ℕ))
        (t : LinesStop variant meaning 1 start s.taken m host sent)
        → Appends old.received received ((reply_text s.begun ++ m.sent) ++ sent)
        → Consumes old.left left (joined_lines (served_lines t.calls) ++ t.more)
        → LineEnd variant meaning (length t.calls + 1) t.at m host t.more t.last
        → SessionStops variant meaning old host received (behind before (reply_text s.begun) m) (first_bytes s)
    by_end m host sent received left t a consumed (rests still none silent untold) =
        stopped m host sent received left _ (Lines replay.ReadFault) a consumed
        (lines_by m host sent left t (Lines replay.ReadFault) (record { still = still; nothing = silent }, rw none no_line)) t.told
        (sym untold) (λ request held b. absurd (no_bytes request held (sym none ∙ b.cut))) (λ is. absurd (cc))
    by_end m host sent received left t a consumed (fails line is within few why asks says untold hand stored) =
        stopped m host sent received left _ (Host why) a consumed
        (lines_by m host sent left t (Host why) (record {
          line = line;
          held = [];
          begins = record { cut = is; within = within };
          few = few;
          came = Err why;
          asks = asks;
          says = inl (says, refl);
        })) t.told untold
        (λ request held b. hand ∙ ap (λ (x : List ℕ). Some x) (one_line line request held within b.within (sym is ∙ b.cut)))
        (λ e. stored (host_store why e))
    by_end m host sent received left t a consumed (cuts line is within few came asks says untold hand) =
        stopped m host sent received left _ (Lines replay.WriteFault) a consumed
        (lines_by m host sent left t (Lines replay.WriteFault) (record {
          line = line;
          held = [];
          begins = record { cut = is; within = within };
          few = few;
          came = came;
          asks = asks;
          says = says;
        })) t.told untold
        (λ request held b. hand ∙ ap (λ (x : List ℕ). Some x) (one_line line request held within b.within (sym is ∙ b.cut)))
        (λ e. absurd (cc))

    in_lines : (m : Moment) → LinesStopAt variant meaning 1 start s.taken m → Stops (behind before (reply_text s.begun) m)
    in_lines m stops host sent received l a =
        let t = stops host sent l in
        let f = front_taken old.left end.left s.taken (joined_lines (served_lines t.calls) ++ t.more) t.rest s.consumed
        (append_assoc (joined_lines (served_lines t.calls)) t.more t.rest ∙ t.front) in
        by_end m host sent received f.0 t a f.1 t.end

    going : AllByRecursion Stops (map (behind before (reply_text s.begun)) (lines_moments result goes.lines))
    going =
        each_map (behind before (reply_text s.begun)) Stops (lines_moments result goes.lines)
        (each_so (LinesStopAt variant meaning 1 start s.taken) (λ (m : Moment). Stops (behind before (reply_text s.begun) m)) in_lines
        (lines_moments result goes.lines) (lines_stop variant meaning lawful result goes.lines))

  goes_stop : (goes : SessionGoesAfterResume variant meaning s.begun s.middle (host_of end) end.left s.taken s.sent result)
      → AllByRecursion Stops (going_moments waits goes)
  goes_stop (inl stops) = tt
  goes_stop (inr goes) = going goes

  all_stop : AllByRecursion Stops (moments s)
  all_stop =
      let told = telling_moments (reply_text s.begun) s.middle (waiting_request waits)
      (first_calls variant meaning s.resumes.waiting (found_host s) s.middle s.begun s.resumes.goes) in
      let found = map (in_hand (waiting_request waits)) (first_moments s.resumes) in
      each_append Stops (found ++ told) (going_moments waits s.goes)
      (each_append Stops found told
      (each_map (in_hand (waiting_request waits)) Stops (first_moments s.resumes)
      (each_so (StopsEarly variant meaning lawful (host_of old) s.resumes.waiting)
      (λ (m : HostMoment). Stops (in_hand (waiting_request waits) m)) early (first_moments s.resumes)
      (first_stops variant meaning lawful (host_of old) s.middle s.begun s.resumes))) (telling (reply_text s.begun) refl))
      (goes_stop s.goes)

pub sessions_stop_anywhere : SessionStopsAnywhere
sessions_stop_anywhere variant meaning lawful old host received k =
    each_at (Stops variant meaning lawful old k.end k.result k.whole) (moments k.whole) k.moment
    (all_stop variant meaning lawful old k.end k.result k.whole) k.among host k.sent received k.leaves k.appended
