-- What a call tells that comes to this, and a checkpoint. With it: a checkpoint that the machine
-- made on a platform is a whole checkpoint.
use Rattle.std.specs.Prelude.{Some, Result, Ok, Err}
use Rattle.std.proofs.Common.{◌≡◌, ◌∙◌, ◌+◌, ℕ, suc, length, length-append, zero-add, ap, arith, Bool, true, false, List, [], ◌∷◌, ◌++◌}
use Rattle.std.proofs.Common.{refl, sym, subst, inl, inr}
use Rattle.mm_digest.specs.declared.variant.Variant.{Variant}
use Rattle.mm_digest.specs.declared.variant.Variant.TheVariants.{Basic, Opt}
use Rattle.mm_platform.specs.Standing.{Standing, Act, StepGoes}
use Rattle.mm_platform.specs.declared.fault.StepFault.TheVariants.{Off}
use Rattle.mm_module.specs.Batch.{Batch, One}
use Rattle.mm_module.specs.Meaning.{IsLawful, Meaning}
use Rattle.mm_machine.specs.OpSteps.{OpEnds}
use Rattle.mm_machine.specs.OpSteps as machine
use Rattle.mm_machine.specs.declared.call.OpResult.{OpResult}
use Rattle.mm_machine.specs.declared.call.OpResult.TheVariants as ended
use Rattle.mm_machine.specs.declared.call.OpStage.{OpStage}
use Rattle.mm_machine.specs.declared.call.OpStage.TheVariants.{Begun}
use Rattle.mm_model.specs.Moves.{is_long}
use Rattle.mm_model.specs.declared.answer.BatchAnswer.{BatchAnswer}
use Rattle.mm_model.specs.declared.refusal.Refusal.{Refusal}
use Rattle.mm_model.specs.declared.refusal.Refusal.TheVariants.{Long, Memory}
use Rattle.mm_call.specs.CallKind.{result_of, end_of_machine}
use Rattle.mm_call.specs.CallPremises.{WritesBy}
use Rattle.mm_call.specs.Checkpoints.{AskPromise, IsComplete}
use Rattle.mm_call.specs.TellingLaws.{same_untouched}
use Rattle.mm_opt.specs.CheckpointPromise.{CheckpointPromise}
use Rattle.mm_opt.specs.Checkpoints.{ClosesSegment, closing_operation, result_of_end}
use Rattle.mm_opt.specs.declared.segment.Checkpointed.{Checkpointed}
use Rattle.mm_opt.specs.declared.segment.CheckpointRefusal.{CheckpointRefusal}
use Rattle.mm_opt.proofs.Above.{checks_on, closes_whole, closing_blamed, closing_steps, leaves_still}
use Rattle.mm_ask.specs.WholeAsk.{ask_call, ask_operation}
use Rattle.mm_ask.proofs.Above.{asked_whole}
use Rattle.mm_flight.proofs.Above.{commits_at}
use Rattle.mm_told.specs.CallPath.{StepsComeTo, StepsReachEnd, AreMade, Host, IsHostOf, bare_standing, AreAsTold, StepsDiffer, TellsOutcome}
use Rattle.mm_told.specs.CallPath.{IsMade, act_of}
use Rattle.mm_told.specs.declared.outcome.StepsOutcome.{StepsOutcome}
use Rattle.mm_told.specs.declared.outcome.StepsOutcome.TheVariants as outcome
use Rattle.mm_told.specs.declared.step.HostStep.{HostStep}
use Rattle.mm_told.specs.declared.step.MadeStep.{MadeStep}
use Rattle.mm_told.specs.declared.told.CallProgress.{CallProgress}
use Rattle.mm_told.specs.declared.told.CallProgress.TheVariants as came
use Rattle.mm_told.specs.ToldAskPromise.{ToldBatchPromise, AskMakesNext, IsAskOnHost, IsWithinRoom, LacksOnHost, ask_protocol}
use Rattle.mm_told.specs.ToldAskPromise.{first_standing, wants_memory, IsOneIn, closing_outcome, long_outcome, outcome_if_over}
use Rattle.mm_told.specs.ToldAskPromise.{told_outcome}
use Rattle.mm_told.specs.ToldCheckpointPromise.{IsCheckpointOnHost, ToldCheckpointPromise, checkpoint_protocol}
use Rattle.mm_told.proofs.Playing.{goes_bare, breaks, finishes}
use Rattle.mm_told.proofs.Reading.{EndLacks, fits, next_or_over, one_next, closing_determined, determined, is_memory, never}
use Rattle.mm_told.proofs.Shortening.{few_asked, few_closing}
use Rattle.mm_told.proofs.Sizing.{answer_small}

-- A checkpoint that the machine made on a platform is a whole checkpoint.

pub closed_in : (old new : Standing) (end : OpResult Checkpointed CheckpointRefusal) → OpEnds closing_operation Begun old new end
    → CheckpointPromise old new (result_of_end end)
closed_in old new end f =
    let closes : ClosesSegment old new (result_of_end end) = closes_whole new end old f in
    record {
      closes = closes;
      untouched = leaves_still old new (result_of_end end) closes;
      faults = closing_blamed old new (result_of_end end) closes;
      steps = closing_steps old new (result_of_end end) closes;
      goes = checks_on old new (result_of_end end) closes;
    }

-- What a call tells that comes to this, and a checkpoint.

-- too long a batch is refused before the first step

never_written : (variant : Variant) (at : Standing) → WritesBy variant (Err Long) at at
never_written Basic at = inl refl
never_written Opt at = record { once = inl refl; inside = λ cell is told inside. refl; answers = λ cell is told. tt }

never_complete : (variant : Variant) (meaning : Meaning) (at : Standing) (offer : List ℕ) (b : Batch) → is_long b ≡ true
    → IsComplete variant meaning at at offer b (Err Long)
never_complete Basic meaning at offer b long = λ (short : is_long b ≡ false). absurd (cc)
never_complete Opt meaning at offer b long = λ (short : is_long b ≡ false). absurd (cc)

asked_long : (variant : Variant) (meaning : Meaning) (at : Standing) (offer : List ℕ) (b : Batch) → is_long b ≡ true
    → AskPromise (ask_call variant) meaning at at offer b (Err Long)
asked_long variant meaning at offer b long = record {
  calls = record { long = λ _. (refl, refl); asks = λ (short : is_long b ≡ false). absurd (cc) };
  untouched = λ quiet. same_untouched at;
  faults = refl;
  steps = λ (short : is_long b ≡ false). absurd (cc);
  writes = never_written variant at;
  fits = tt;
  goes = λ (short : is_long b ≡ false). absurd (cc);
  complete = never_complete variant meaning at offer b long;
}

-- an answer to one request has one output
pub one_in : (request : List ℕ) (told : StepsOutcome (Result BatchAnswer Refusal)) (variant : Variant) (meaning : Meaning) (host : Host)
    (steps : List MadeStep) (offer : List ℕ) → ToldBatchPromise variant meaning host steps offer (One request) told → IsOneIn told
one_in request (outcome.Ended (Ok answer)) variant meaning host steps offer p = p.asked.fits.counted
one_in request (outcome.Ended (Err why)) variant meaning host steps offer p = tt
one_in request _ variant meaning host steps offer p = tt

-- where the next step isn't answered
missed_at : {A : Type 0} (host : Host) (step : HostStep) (stage : OpStage A) → act_of step ≡ machine.act_of stage
    → StepGoes (machine.act_of stage) (bare_standing (host.stood 0)) (bare_standing (host.missed 0 (act_of step))) (Some Off)
missed_at host step stage e =
    subst (λ (act : Act). StepGoes act (bare_standing (host.stood 0)) (bare_standing (host.missed 0 (act_of step))) (Some Off)) e
    (goes_bare (act_of step) (host.stood 0) (host.missed 0 (act_of step)) (Some Off) (host.misses 0 (act_of step)))

-- memory was wanting at the end
lacked : (end : OpResult BatchAnswer Refusal) → EndLacks is_memory end → wants_memory (result_of (end_of_machine end)) ≡ true
lacked (ended.Refused why) l = rw l refl
lacked (ended.Answered answer) l = absurd l
lacked (ended.Broken fault commits) l = absurd l
lacked ended.Lacks l = absurd l

wanted : (given : Result BatchAnswer Refusal) → wants_memory given ≡ true → given ≡ Err Memory
wanted (Err Memory) e = refl
wanted _ e = absurd (cc)

-- the front ones of the steps were made, too
pub front_made : (stood : ℕ → Standing) (front rest : List MadeStep) → AreMade stood (front ++ rest)
    → AreMade (λ left. stood (left + length rest)) front
front_made stood [] rest m = tt
front_made stood (it ∷ front) rest m =
    let here : length (front ++ rest) ≡ length front + length rest = length-append front rest in
    let before : suc (length (front ++ rest)) ≡ suc (length front) + length rest = omega (arith, here) in (
      subst (λ (n : ℕ). IsMade it (stood n) (stood (length front + length rest))) before
          (subst (λ (n : ℕ). IsMade it (stood (suc (length (front ++ rest)))) (stood n)) here m.0),
      front_made stood front rest m.1,
    )

module _ (variant : Variant) (meaning : Meaning) (offer : List ℕ) (b : Batch) where
  -- where memory was wanting
  lacks_on_host : (host : Host) (steps front rest : List MadeStep) (end : OpResult BatchAnswer Refusal) → IsLawful meaning
      → IsHostOf steps host → is_long b ≡ false → steps ≡ front ++ rest
      → StepsReachEnd (ask_operation variant meaning offer b) Begun front end
      → wants_memory (result_of (end_of_machine end)) ≡ true → LacksOnHost variant meaning offer b host steps
  lacks_on_host host steps front rest end lawful h short are ends lacks =
      let stood : ℕ → Standing = λ left. host.stood (left + length rest) in
      let given : result_of (end_of_machine end) ≡ Err Memory = wanted (result_of (end_of_machine end)) lacks in
      let first : length front + length rest ≡ length steps = sym (ap length are ∙ length-append front rest) in record {
        front = front;
        rest = rest;
        are = are;
        asked =
            subst
            (λ (n : ℕ). AskPromise (ask_call variant) meaning (bare_standing (host.stood n)) (bare_standing (host.stood (length rest)))
            offer b (Err Memory)) first
            (subst
            (λ (n : ℕ). AskPromise (ask_call variant) meaning (bare_standing (stood (length front))) (bare_standing (host.stood n))
            offer b (Err Memory)) (zero-add (length rest))
            (subst
            (λ (r : Result BatchAnswer Refusal). AskPromise (ask_call variant) meaning (bare_standing (stood (length front)))
            (bare_standing (stood 0)) offer b r) given
            (asked_whole meaning offer b (bare_standing (stood (length front))) (bare_standing (stood 0)) variant end lawful
            short
            (finishes (ask_operation variant meaning offer b) stood Begun front end ends
            (front_made host.stood front rest (subst (AreMade host.stood) are h.are_made))))));
      }

  -- a host that makes the steps that it is told makes the call's
  as_told : (steps : List MadeStep) → AreAsTold (ask_protocol variant meaning offer b) steps
      → StepsDiffer (ask_protocol variant meaning offer b) steps → ⊥
  as_told steps =
      fits (ask_protocol variant meaning offer b) steps
      (λ front act other m n. one_next is_memory (ask_operation variant meaning offer b)
      (determined variant meaning offer b)
      Begun front act other m.makes n.makes)
      over
    where
      over : (front : List MadeStep) (a : Act) (given : Result BatchAnswer Refusal) → AskMakesNext variant meaning offer b front a
          → (ask_protocol variant meaning offer b).gives front given → wants_memory given ≡ true
      over front a given m (inl e) =
          rw e.gives
          (lacked e.end (next_or_over is_memory (ask_operation variant meaning offer b)
          (determined variant meaning offer b) Begun front a e.end m.makes e.ends))
      over front a given m (inr e) = let no = m.short in let yes = e.long in absurd (cc)

  -- what is told by the steps is the call on each platform on which they were made
  pub on_host : (host : Host) (steps : List MadeStep) (told : StepsOutcome (Result BatchAnswer Refusal)) → IsLawful meaning
      → IsHostOf steps host → TellsOutcome (ask_protocol variant meaning offer b) (λ given. given) steps told
      → IsAskOnHost variant meaning offer b host steps told
  on_host host steps (outcome.Ended given) lawful h (inl e) =
      rw e.gives (asked_whole meaning offer b (first_standing host steps) (bare_standing (host.stood 0))
      variant e.end lawful e.short
      (finishes (ask_operation variant meaning offer b) host.stood Begun steps e.end e.ends h.are_made))
  on_host host steps (outcome.Ended given) lawful h (inr e) =
      rw e.gives (rw e.none (asked_long variant meaning (bare_standing (host.stood 0)) offer b e.long))
  on_host host steps (outcome.Next step) lawful h t =
      asked_whole meaning offer b (first_standing host steps) (bare_standing (host.missed 0 (act_of step))) variant
      (ended.Broken Off (commits_at (ask_operation variant meaning offer b) t.makes.stage)) lawful t.short
      (breaks (ask_operation variant meaning offer b) host.stood Begun steps t.makes.stage
      (host.missed 0 (act_of step)) t.makes.stands h.are_made (missed_at host step t.makes.stage t.makes.next))
  on_host host steps outcome.Differs lawful h t = tt
  on_host host steps outcome.Memory lawful h t = by_end t.over.gives
    where
      by_end : (ask_protocol variant meaning offer b).gives t.front t.over.given → LacksOnHost variant meaning offer b host steps
      by_end (inl e) =
          lacks_on_host host steps t.front t.rest e.end lawful h e.short t.are e.ends
          (subst (λ (r : Result BatchAnswer Refusal). wants_memory r ≡ true) e.gives t.over.lacks)
      by_end (inr e) =
          let no : wants_memory (Err Long) ≡ true =
          subst (λ (r : Result BatchAnswer Refusal). wants_memory r ≡ true) e.gives t.over.lacks in absurd (cc)

  module _ (host : Host) (steps : List MadeStep) (lawful : IsLawful meaning) (h : IsHostOf steps host) where
    abbrev Tells : StepsOutcome (Result BatchAnswer Refusal) → Type 0
    Tells told = TellsOutcome (ask_protocol variant meaning offer b) (λ given. given) steps told

    within : (told : StepsOutcome (Result BatchAnswer Refusal)) → Tells told → IsWithinRoom meaning told
    within (outcome.Ended (Ok answer)) (inl e) = answer_small meaning b lawful variant offer steps e.end answer e.ends (sym e.gives)
    within (outcome.Ended (Ok answer)) (inr e) = let no : Ok answer ≡ Err Long = e.gives in absurd (cc)
    within (outcome.Ended (Err why)) t = tt
    within _ t = tt

    -- what is told, with the rest of what is promised
    told_so : (told : StepsOutcome (Result BatchAnswer Refusal)) → Tells told → ToldBatchPromise variant meaning host steps offer b told
    told_so told t = record {
      tells = t;
      asked = on_host host steps told lawful h t;
      fits = λ same differs. as_told steps same (subst Tells differs t);
      few = λ step next. few_asked meaning offer b variant steps (act_of step) (subst Tells next t).makes;
      room = within told t;
    }

    -- by what it comes to
    module _ (short : is_long b ≡ false) where
      before_so : (lacking : Bool) (front rest : List MadeStep) (it : MadeStep) (end : OpResult BatchAnswer Refusal)
          → steps ≡ front ++ it ∷ rest → StepsReachEnd (ask_operation variant meaning offer b) Begun front end
          → wants_memory (result_of (end_of_machine end)) ≡ lacking
          → ToldBatchPromise variant meaning host steps offer b (outcome_if_over lacking)
      before_so false front rest it end are ends e = told_so outcome.Differs (record {
        front = front;
        it = it;
        rest = rest;
        are = are;
        other = inr (record {
          given = result_of (end_of_machine end);
          gives = inl (record { short = short; end = end; ends = ends; gives = refl });
          lacks = e;
        });
      })
      before_so true front rest it end are ends e = told_so outcome.Memory (record {
        front = front;
        rest = it ∷ rest;
        are = are;
        over = record {
          given = result_of (end_of_machine end);
          gives = inl (record { short = short; end = end; ends = ends; gives = refl });
          lacks = e;
        };
      })

      pub asks : (told : CallProgress BatchAnswer Refusal) → StepsComeTo (ask_operation variant meaning offer b) Begun steps told
          → ToldBatchPromise variant meaning host steps offer b (told_outcome told)
      asks (came.Next step) c = told_so (outcome.Next step) (record { short = short; makes = c })
      asks (came.Over end) c =
          told_so (outcome.Ended (result_of (end_of_machine end))) (inl (record { short = short; end = end; ends = c; gives = refl }))
      asks (came.Before end) c =
          before_so (wants_memory (result_of (end_of_machine end))) c.front c.rest c.it end c.are c.ends refl
      asks came.Elsewhere c = told_so outcome.Differs (record {
        front = c.front;
        it = c.it;
        rest = c.rest;
        are = c.are;
        other = inl (record {
          act = machine.act_of c.stage;
          next = record { short = short; makes = record { stage = c.stage; stands = c.stands; next = refl } };
          other = c.other;
        });
      })

  -- too long a request
  pub long_so : (host : Host) (steps : List MadeStep) → IsLawful meaning → IsHostOf steps host → is_long b ≡ true
      → ToldBatchPromise variant meaning host steps offer b (long_outcome steps)
  long_so host [] lawful h long =
      told_so host [] lawful h (outcome.Ended (Err Long)) (inr (record { long = long; none = refl; gives = refl }))
  long_so host (it ∷ more) lawful h long = told_so host (it ∷ more) lawful h outcome.Differs (record {
    front = [];
    it = it;
    rest = more;
    are = refl;
    other = inr (record { given = Err Long; gives = inr (record { long = long; none = refl; gives = refl }); lacks = refl });
  })

-- a checkpoint

closing_as_told : (steps : List MadeStep) → AreAsTold checkpoint_protocol steps → StepsDiffer checkpoint_protocol steps → ⊥
closing_as_told steps =
    fits checkpoint_protocol steps (λ front a b m n. one_next never closing_operation closing_determined Begun front a b m n)
    (λ front a given m e. absurd
    (closing_lacks e.end (next_or_over never closing_operation closing_determined Begun front a e.end m e.ends)))
  where
    closing_lacks : (end : OpResult Checkpointed CheckpointRefusal) → EndLacks never end → ⊥
    closing_lacks (ended.Refused why) l = l
    closing_lacks _ l = l

-- what is told of it is the checkpoint on each platform on which its steps were made
pub closing_on_host : (host : Host) (steps : List MadeStep) (told : StepsOutcome (Result Checkpointed CheckpointRefusal))
    → IsHostOf steps host → TellsOutcome checkpoint_protocol (λ given. given) steps told
    → IsCheckpointOnHost host steps told
closing_on_host host steps (outcome.Ended given) h e =
    rw e.gives (closed_in (first_standing host steps) (bare_standing (host.stood 0)) e.end
    (finishes closing_operation host.stood Begun steps e.end e.ends h.are_made))
closing_on_host host steps (outcome.Next step) h c =
    closed_in (first_standing host steps) (bare_standing (host.missed 0 (act_of step)))
    (ended.Broken Off (commits_at closing_operation c.stage))
    (breaks closing_operation host.stood Begun steps c.stage (host.missed 0 (act_of step)) c.stands h.are_made
    (missed_at host step c.stage c.next))
closing_on_host host steps outcome.Differs h t = tt
closing_on_host host steps outcome.Memory h t = let lacks : false ≡ true = t.over.lacks in absurd (cc)

module _ (host : Host) (steps : List MadeStep) (h : IsHostOf steps host) where
  abbrev TellsClosing : StepsOutcome (Result Checkpointed CheckpointRefusal) → Type 0
  TellsClosing told = TellsOutcome checkpoint_protocol (λ given. given) steps told

  closing_so : (told : StepsOutcome (Result Checkpointed CheckpointRefusal)) → TellsClosing told
      → ToldCheckpointPromise host steps told
  closing_so told t = record {
    tells = t;
    closed = closing_on_host host steps told h t;
    fits = λ same differs. closing_as_told steps same (subst TellsClosing differs t);
    few = λ step next. few_closing steps (act_of step) (subst TellsClosing next t);
  }

  pub closes : (told : CallProgress Checkpointed CheckpointRefusal) → StepsComeTo closing_operation Begun steps told
      → ToldCheckpointPromise host steps (closing_outcome told)
  closes (came.Next step) c = closing_so (outcome.Next step) c
  closes (came.Over end) c = closing_so (outcome.Ended (result_of_end end)) (record { end = end; ends = c; gives = refl })
  closes (came.Before end) c = closing_so outcome.Differs (record {
    front = c.front;
    it = c.it;
    rest = c.rest;
    are = c.are;
    other = inr (record {
      given = result_of_end end;
      gives = record { end = end; ends = c.ends; gives = refl };
      lacks = refl;
    });
  })
  closes came.Elsewhere c = closing_so outcome.Differs (record {
    front = c.front;
    it = c.it;
    rest = c.rest;
    are = c.are;
    other = inl (record {
      act = machine.act_of c.stage;
      next = record { stage = c.stage; stands = c.stands; next = refl };
      other = c.other;
    });
  })
