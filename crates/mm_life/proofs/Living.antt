-- A life, part after part, in either variant. With it: what is told over a life is told in a run of
-- the machine.
use Rattle.std.specs.List.{AllByRecursion, Contains, flat_map}
use Rattle.std.proofs.Common.{◌≡◌, ◌⊎◌, ℕ, List, [], ◌∷◌, ◌++◌, Result, refl, ap, append_assoc, subst, inl, inr, ◌∙◌, Ok, Err, length, sym}
use Rattle.std.proofs.lemmas.Grind.{flat_map-append}
use Rattle.std.proofs.lemmas.List.{append-nil, map-append}
use Rattle.mm_digest.specs.declared.variant.Variant.{Variant}
use Rattle.mm_platform.specs.Standing.{Standing}
use Rattle.mm_platform.specs.declared.plan.Stop.TheVariants.{Quiet}
use Rattle.mm_module.specs.Batch.{Batch, One, normal_batch, members_of}
use Rattle.mm_module.specs.Meaning.{Meaning}
use Rattle.mm_listing.specs.Listing.{Telling}
use Rattle.mm_modules.specs.Modules.{listing_of, meaning_of}
use Rattle.mm_model.specs.Chains.{Instance}
use Rattle.mm_model.specs.History.{History, requests_of}
use Rattle.mm_model.specs.ListLaws.{each_append, each_left, each_right}
use Rattle.mm_model.specs.Standing.{IsGenuine, StandsFor}
use Rattle.mm_model.specs.declared.answer.Answer.{Answer}
use Rattle.mm_model.specs.declared.answer.BatchAnswer.{BatchAnswer}
use Rattle.mm_model.specs.declared.refusal.Refusal.{Refusal}
use Rattle.mm_call.specs.CallFinding.{right_content, batch_result_of}
use Rattle.mm_call.specs.CallKind.{IsCallOnCourse}
use Rattle.mm_call.specs.CallPremises.{IsWithin, right_messages, AreAsked, IsIdle}
use Rattle.mm_call.proofs.Above.{each_at}
use Rattle.mm_schedule.specs.Events.{Ask, Event}
use Rattle.mm_schedule.specs.Replies.{IsEventRun, IsBatchStep, RunsKeepPromises, TellsWhatWasSaid, tellings_in, tellings_of}
use Rattle.mm_schedule.specs.declared.event.Offer.TheVariants.{Last}
use Rattle.mm_schedule.specs.declared.reply.Reply.{Reply}
use Rattle.mm_schedule.specs.declared.reply.Reply.TheVariants.{Kept}
use Rattle.mm_schedule.specs.declared.reply.Way.TheVariants.{Drop}
use Rattle.mm_recovery.proofs.Above.{BatchMet}
use Rattle.mm_host.specs.Continuation.{CallsRunOver, answer_reply}
use Rattle.mm_host.specs.Sessions.{ServedCall}
use Rattle.mm_host.specs.declared.fault.SessionFault.{SessionFault}
use Rattle.mm_host.proofs.Above.{Laws, Makes, Reaches, Shows, pending_for}
use Rattle.mm_life.specs.Deeds.{LifeCall, Calls, Checkpoints, Deed, DeedLeads, Extends, IsBatchCall, LosesPower, call_of, IsInHandOf}
use Rattle.mm_life.specs.Deeds.{first_bytes, session_calls, served_calls_of, untold_calls}
use Rattle.mm_life.specs.Laws.{LivesKeepPromises, LivesTellWhatWasSaid}
use Rattle.mm_life.specs.Premises.{AreUntagged, IsFirstUntagged, issued_snapshot_in, call_batches, snapshots_of, IsNoCall, HistoryStays}
use Rattle.mm_life.specs.Stages.{LifeFollows, IsLastJudged, PartSteps, Does, Holds, IsLife, LifePart, PartLeads, Program, LifeStage, end_of}
use Rattle.mm_life.specs.Stages.{latest_calls, life_calls, part_calls, CallSteps, SessionSteps, batch_reply, call_replies, life_replies}
use Rattle.mm_life.specs.Stages.{part_replies, told_replies}
use Rattle.mm_life.proofs.Chains.{session_chain, AreListed, all_genuine, batch_genuine, batch_judged, batch_steps}
use Rattle.mm_life.proofs.Sessions.{CallsLead, IsFirstGenuine, Leads, Lived, chain_idles, chain_lives}

-- What a life takes from its variant: the laws of calls up to a part's end; what is asked of a part by what stands before and
-- behind it; and so what the register shows there; and what other deeds leave. Of a part that is still nothing is asked: at most one
-- call is made in it, which minds no register.
pub record LifeLaws (all others : List (List ℕ)) (asked : List Batch) (i : Instance)
    (IsSeen : Standing → LifePart → Standing → Type 0) (IsStill : Standing → List LifeCall → Type 0) : Type 0 where
  pub laws : (final : Standing) → Laws all others asked i final
  pub leads : CallsLead i
  pub shows : (y : History) (old : Standing) (part : LifePart) (final : Standing) → IsSeen old part final → StandsFor i old y
      → Reaches i.variant i old final → Leads i old final → Shows i.variant all others i y old final
  pub stays : (y : History) (old : Standing) (deed : Deed) (new : Standing) → IsNoCall deed → IsSeen old (Does deed) new
      → DeedLeads i.variant i.meaning old deed new → StandsFor i old y → IsWithin all others asked i y
      → HistoryStays all others asked i y new
  pub few : (old : Standing) (calls : List LifeCall) → IsStill old calls → (calls ≡ []) ⊎ ((c : LifeCall) × (calls ≡ c ∷ []))
  pub idles : (y : History) (old new : Standing) (offer request : List ℕ) (gives : Result Answer Refusal)
      → IsStill old (call_of offer request gives ∷ [])
      → Makes all others asked i y old new offer (pending_for request) (batch_result_of gives) → IsIdle i y offer (One request)
  pub met : (y : History) (old new : Standing) (c : LifeCall)
      → IsCallOnCourse i.variant i.meaning old new c.offer c.batch c.gives → StandsFor i old y
      → AreAsked all others asked i y c.offer (normal_batch c.batch) → IsSeen old (Does (Calls c)) new ⊎ IsStill old (c ∷ [])
      → BatchMet all others asked i y new c.offer (normal_batch c.batch) c.gives
  pub stays_still : (y : History) (old : Standing) (deed : Deed) (new : Standing) → IsNoCall deed → IsStill old []
      → DeedLeads i.variant i.meaning old deed new → StandsFor i old y → IsWithin all others asked i y
      → HistoryStays all others asked i y new

-- nobody else made a tag, so what is offered first is genuine
first_genuine : (i : Instance) (y : History) (issued : List (List ℕ)) (calls : List LifeCall) → AllByRecursion (IsGenuine i y) issued
    → IsFirstUntagged i issued calls → IsFirstGenuine i y calls
first_genuine i y issued [] g u = tt
first_genuine i y issued (c ∷ calls) g u = λ content right. each_at (IsGenuine i y) issued c.offer g (u content right) content right

pub listed_left : (all : List (List ℕ)) (asked : List Batch) (i : Instance) (calls more : List LifeCall)
    → AreListed all asked i (calls ++ more)
    → AreListed all asked i calls
listed_left all asked i calls more a = record {
  messages = each_left (Contains all) _ _
      (rw (flat_map-append (λ (c : LifeCall). right_messages i (normal_batch c.batch) (right_content i c.offer))
      calls more) at a.messages);
  batches = each_left (Contains asked) _ _ (rw (map-append (λ (c : LifeCall). normal_batch c.batch) calls more) at a.batches);
}

pub listed_right : (all : List (List ℕ)) (asked : List Batch) (i : Instance) (calls more : List LifeCall)
    → AreListed all asked i (calls ++ more)
    → AreListed all asked i more
listed_right all asked i calls more a = record {
  messages = each_right (Contains all)
      (flat_map (λ (c : LifeCall). right_messages i (normal_batch c.batch) (right_content i c.offer)) calls) _
      (rw (flat_map-append (λ (c : LifeCall). right_messages i (normal_batch c.batch) (right_content i c.offer)) calls more) at a.messages);
  batches = each_right (Contains asked) (call_batches calls) _
      (rw (map-append (λ (c : LifeCall). normal_batch c.batch) calls more) at a.batches);
}

module _ {all others : List (List ℕ)} {asked : List Batch} {i : Instance} {IsSeen : Standing → LifePart → Standing → Type 0}
    {IsStill : Standing → List LifeCall → Type 0} (life : LifeLaws all others asked i IsSeen IsStill) where
  -- one part of a life
  abbrev PartLived : History → (old : Standing) (part : LifePart) (new : Standing) → PartLeads i.variant i.meaning old part new → Type 0
  PartLived y old part new f =
      Lived (life.laws new) y new (part_calls i.variant i.meaning old part new f)
      (λ after. PartSteps i.variant i.meaning old part new f (requests_of y.batches) after)

  call_lives : (y : History) (old new : Standing) (c : LifeCall) (f : IsBatchCall i.variant i.meaning old new c)
      → StandsFor i old y → IsWithin all others asked i y → IsSeen old (Does (Calls c)) new ⊎ IsStill old (c ∷ [])
      → IsFirstGenuine i y (c ∷ [])
      → AreListed all asked i (c ∷ []) → PartLived y old (Does (Calls c)) new f
  call_lives y old new c f stands within seen first listed =
      let laws = life.laws new in
      let asks : AreAsked all others asked i y c.offer (normal_batch c.batch) = record {
        clear = laws.clear;
        apart = laws.apart;
        within = within;
        is_asked = listed.batches.0;
        genuine = first;
        offered = each_left (Contains all) (right_messages i (normal_batch c.batch) (right_content i c.offer)) [] listed.messages;
      } in
      let m = life.met y old new c f.goes stands asks seen in
      record {
        after = m.after;
        stands = m.stands;
        within = m.within;
        names = m.names;
        issued = each_append (IsGenuine i m.after) (issued_snapshot_in c.gives) []
            (batch_genuine laws new c.offer c.batch c.gives y f.fits m) tt;
        steps = batch_steps y new c.offer c.batch c.gives f.fits m;
        judged = batch_judged y new c m;
      }

  stays_lives : (y : History) (new : Standing) → HistoryStays all others asked i y new
      → Lived (life.laws new) y new [] (λ after. after ≡ requests_of y.batches)
  stays_lives y new s = record {
    after = s.after;
    stands = s.stands;
    within = s.within;
    names = s.names;
    issued = tt;
    steps = ap requests_of s.batches;
    judged = tt;
  }

  -- what is asked of a part: what stands behind it is seen, or it is still
  abbrev pub IsSeenOrStill : (old : Standing) (part : LifePart) (new : Standing) → PartLeads i.variant i.meaning old part new → Type 0
  IsSeenOrStill old part new f = IsSeen old part new ⊎ IsStill old (part_calls i.variant i.meaning old part new f)

  session_lives : (y : History) (old : Standing) (p : Program) (new : Standing) (f : PartLeads i.variant i.meaning old (Holds p) new)
      → StandsFor i old y → IsWithin all others asked i y → IsSeenOrStill old (Holds p) new f
      → IsFirstGenuine i y (part_calls i.variant i.meaning old (Holds p) new f)
      → AreListed all asked i (part_calls i.variant i.meaning old (Holds p) new f) → PartLived y old (Holds p) new f
  session_lives y old p new f stands within (inl seen) first listed =
      chain_lives (life.laws new) y old (first_bytes f) (served_calls_of f) (IsInHandOf f) (untold_calls f f.goes) p.result
      (session_chain f) stands
      within first listed life.leads (λ reaches leads. life.shows y old (Holds p) new seen stands reaches leads)
  session_lives y old p new f stands within (inr still) first listed =
      chain_idles (life.laws new) y old (first_bytes f) (served_calls_of f) (IsInHandOf f) (untold_calls f f.goes) p.result
      (session_chain f) stands
      within first listed (life.few old (session_calls f) still)
      (λ request gives one middle makes.
      life.idles y old middle (first_bytes f) request gives (subst (λ (calls : List LifeCall). IsStill old calls) one still) makes)

  deed_lives : (y : History) (old : Standing) (deed : Deed) (new : Standing) → IsNoCall deed
      → DeedLeads i.variant i.meaning old deed new → StandsFor i old y → IsWithin all others asked i y
      → IsSeen old (Does deed) new ⊎ IsStill old [] → Lived (life.laws new) y new [] (λ after. after ≡ requests_of y.batches)
  deed_lives y old deed new quiet f stands within (inl seen) = stays_lives y new (life.stays y old deed new quiet seen f stands within)
  deed_lives y old deed new quiet f stands within (inr still) =
      stays_lives y new (life.stays_still y old deed new quiet still f stands within)

  pub part_lives : (y : History) (old : Standing) (part : LifePart) (new : Standing) (f : PartLeads i.variant i.meaning old part new)
      → StandsFor i old y → IsWithin all others asked i y → IsSeenOrStill old part new f
      → IsFirstGenuine i y (part_calls i.variant i.meaning old part new f)
      → AreListed all asked i (part_calls i.variant i.meaning old part new f) → PartLived y old part new f
  part_lives y old (Holds p) new f stands within seen first listed = session_lives y old p new f stands within seen first listed
  part_lives y old (Does (Calls c)) new f stands within seen first listed = call_lives y old new c f stands within seen first listed
  part_lives y old (Does (Extends values)) new f stands within seen first listed =
      deed_lives y old (Extends values) new tt f stands within seen
  part_lives y old (Does LosesPower) new f stands within seen first listed = deed_lives y old LosesPower new tt f stands within seen
  part_lives y old (Does (Checkpoints said)) new f stands within seen first listed =
      deed_lives y old (Checkpoints said) new tt f stands within seen

  -- what is asked of each part by what stands before and behind it
  abbrev pub AreSeen : (start : Standing) (stages : List LifeStage) → IsLife i.variant i.meaning start stages → Type 0
  AreSeen start [] f = Unit {0}
  AreSeen start (stage ∷ stages) f = IsSeenOrStill start stage.part stage.after f.0 × AreSeen stage.after stages f.1

  -- a life from a history
  pub record Lives (y : History) (issued : List (List ℕ)) (start : Standing) (stages : List LifeStage)
      (f : IsLife i.variant i.meaning start stages) : Type 0 where
    pub after : History
    pub stands : StandsFor i (end_of start stages) after
    pub within : IsWithin all others asked i after
    pub named : AllByRecursion (IsGenuine i after) (issued ++ snapshots_of (life_calls i.variant i.meaning start stages f))
    pub follows : LifeFollows i.variant i.meaning start stages f (requests_of y.batches) (requests_of after.batches)
    pub judged : IsLastJudged i after (latest_calls i.variant i.meaning start stages f)

  judged_last : (start : Standing) (stage : LifeStage) (stages : List LifeStage) (f : IsLife i.variant i.meaning start (stage ∷ stages))
      (y z : History) → (stages ≡ [] → z ≡ y) → IsLastJudged i y (part_calls i.variant i.meaning start stage.part stage.after f.0)
      → IsLastJudged i z (latest_calls i.variant i.meaning stage.after stages f.1)
      → IsLastJudged i z (latest_calls i.variant i.meaning start (stage ∷ stages) f)
  judged_last start stage [] f y z same here later = rw (same refl) here
  judged_last start stage (next ∷ stages) f y z same here later = later

  pub lives : (stages : List LifeStage) (y : History) (issued : List (List ℕ)) (start : Standing)
      (f : IsLife i.variant i.meaning start stages) → StandsFor i start y → IsWithin all others asked i y → AreSeen start stages f
      → AllByRecursion (IsGenuine i y) issued → AreUntagged i issued start stages f
      → AreListed all asked i (life_calls i.variant i.meaning start stages f)
      → (l : Lives y issued start stages f) × (stages ≡ [] → l.after ≡ y)
  lives [] y issued start f stands within seen named untagged listed = (
    record {
      after = y;
      stands = stands;
      within = within;
      named = rw (append-nil issued) named;
      follows = refl;
      judged = tt;
    },
    λ e. refl,
  )
  lives (stage ∷ stages) y issued start f stands within seen named untagged listed =
      let calls : List LifeCall = part_calls i.variant i.meaning start stage.part stage.after f.0 in
      let more : List LifeCall = life_calls i.variant i.meaning stage.after stages f.1 in
      let p = part_lives y start stage.part stage.after f.0 stands within seen.0 (first_genuine i y issued calls named untagged.0)
      (listed_left all asked i calls more listed) in
      let named_then : AllByRecursion (IsGenuine i p.after) (issued ++ snapshots_of calls) =
      each_append (IsGenuine i p.after) issued (snapshots_of calls) (all_genuine i y p.after p.names issued named) p.issued in
      let r = lives stages p.after (issued ++ snapshots_of calls) stage.after f.1 p.stands p.within seen.1 named_then untagged.1
      (listed_right all asked i calls more listed) in (
        record {
          after = r.0.after;
          stands = r.0.stands;
          within = r.0.within;
          named = rw (flat_map-append (λ (c : LifeCall). issued_snapshot_in c.gives) calls more)
              (rw (append_assoc issued (snapshots_of calls) (snapshots_of more)) at r.0.named);
          follows = (requests_of p.after.batches, p.steps, r.0.follows);
          judged = judged_last start stage stages f p.after r.0.after r.1 p.judged r.0.judged;
        },
        λ e. absurd (cc),
      )

-- What is told over a life is told in a run of the machine.

-- a batch that is asked
abbrev asking : Batch → Event
asking batch = Ask [] Quiet Last batch

-- A run of the machine, whose replies tell these lines.
pub record Ran (meaning : Meaning) (requests : List (List ℕ)) (tellings : List Telling) (after : List (List ℕ)) : Type 0 where
  pub events : List Event
  pub replies : List Reply
  pub runs : IsEventRun meaning requests events replies after
  pub tells : tellings_in replies ≡ tellings

module _ (meaning : Meaning) where
  pub ran_none : (requests after : List (List ℕ)) → after ≡ requests → Ran meaning requests [] after
  ran_none requests after e = record { events = []; replies = []; runs = e; tells = refl }

  -- one more batch in front
  ran_more : (requests between after : List (List ℕ)) (batch : Batch) (reply : Reply) (tellings : List Telling)
      → IsBatchStep meaning requests batch reply between → Ran meaning between tellings after
      → Ran meaning requests (tellings_of reply ++ tellings) after
  ran_more requests between after batch reply tellings step r = record {
    events = asking batch ∷ r.events;
    replies = reply ∷ r.replies;
    runs = (between, step, r.runs);
    tells = ap (λ (ts : List Telling). tellings_of reply ++ ts) r.tells;
  }

  -- a batch that was run and not told
  ran_kept : (requests between after : List (List ℕ)) (batch : Batch) (tellings : List Telling)
      → between ≡ requests ++ members_of batch → Ran meaning between tellings after → Ran meaning requests tellings after
  ran_kept requests between after batch tellings grown r =
      ran_more requests between after batch (Kept Drop (length between)) tellings (grown, refl) r

  pub ran_same : (requests between after : List (List ℕ)) (tellings : List Telling) → between ≡ requests
      → Ran meaning between tellings after → Ran meaning requests tellings after
  ran_same requests between after tellings e r = rw e at r

  tellings_append : (xs ys : List Reply) → tellings_in (xs ++ ys) ≡ tellings_in xs ++ tellings_in ys
  tellings_append [] ys = refl
  tellings_append (x ∷ xs) ys =
      ap (λ (ts : List Telling). tellings_of x ++ ts) (tellings_append xs ys)
      ∙ sym (append_assoc (tellings_of x) (tellings_in xs) (tellings_in ys))

  ran_told : (calls : List ServedCall) (requests between after : List (List ℕ)) (more : List Reply)
      → CallsRunOver meaning requests calls between
      → Ran meaning between (tellings_in more) after → Ran meaning requests (tellings_in (told_replies calls ++ more)) after
  ran_told [] requests between after more run r = ran_same requests between after (tellings_in more) run r
  ran_told (c ∷ calls) requests between after more run r =
      ran_more requests run.0 after (One c.line) (answer_reply c.answer) (tellings_in (told_replies calls ++ more)) run.1
      (ran_told calls run.0 between after more run.2 r)

  ran_call : (batch : Batch) (gives : Result BatchAnswer Refusal) (requests between after : List (List ℕ)) (more : List Reply)
      → CallSteps meaning requests batch gives between → Ran meaning between (tellings_in more) after
      → Ran meaning requests (tellings_in (call_replies gives ++ more)) after
  ran_call batch (Ok answer) requests between after more step r =
      ran_more requests between after batch (batch_reply answer) (tellings_in more) step r
  ran_call batch (Err why) requests between after more (inl same) r = ran_same requests between after (tellings_in more) same r
  ran_call batch (Err why) requests between after more (inr untold) r =
      ran_kept requests between after batch (tellings_in more) untold.1 r

  ran_session : {sent : List ℕ} (told : List ServedCall) (hand : List ℕ → Type 0) (result : Result Unit SessionFault)
      (requests between after : List (List ℕ)) (more : List Reply) → SessionSteps meaning requests told hand sent result between
      → Ran meaning between (tellings_in more) after → Ran meaning requests (tellings_in (told_replies told ++ more)) after
  ran_session told hand result requests between after more s r =
      ran_told told requests s.between after more s.run
      (elim s.committed [
        | inl same ↦ ran_same s.between between after (tellings_in more) same r
        | inr untold ↦ ran_kept s.between between after (One untold.request) (tellings_in more) untold.grown r
      ])

module _ (variant : Variant) (meaning : Meaning) where
  pub ran_part : (old : Standing) (part : LifePart) (new : Standing) (f : PartLeads variant meaning old part new)
      (requests between after : List (List ℕ)) (more : List Reply) → PartSteps variant meaning old part new f requests between
      → Ran meaning between (tellings_in more) after
      → Ran meaning requests (tellings_in (part_replies variant meaning old part new f ++ more)) after
  ran_part old (Holds p) new f requests between after more steps r =
      ran_session meaning (served_calls_of f) (IsInHandOf f) p.result requests between after more steps r
  ran_part old (Does (Calls c)) new f requests between after more steps r =
      ran_call meaning c.batch c.gives requests between after more steps r
  ran_part old (Does (Extends values)) new f requests between after more steps r =
      ran_same meaning requests between after (tellings_in more) steps r
  ran_part old (Does LosesPower) new f requests between after more steps r =
      ran_same meaning requests between after (tellings_in more) steps r
  ran_part old (Does (Checkpoints said)) new f requests between after more steps r =
      ran_same meaning requests between after (tellings_in more) steps r

  ran : (stages : List LifeStage) (start : Standing) (f : IsLife variant meaning start stages) (requests after : List (List ℕ))
      → LifeFollows variant meaning start stages f requests after
      → Ran meaning requests (tellings_in (life_replies variant meaning start stages f)) after
  ran [] start f requests after follows = ran_none meaning requests after follows
  ran (stage ∷ stages) start f requests after follows =
      ran_part start stage.part stage.after f.0 requests follows.0 after (life_replies variant meaning stage.after stages f.1) follows.1
      (ran stages stage.after f.1 follows.0 after follows.2)

pub lives_tell : TellsWhatWasSaid → LivesTellWhatWasSaid
lives_tell tells variant meaning start stages f requests follows =
    let r = ran variant meaning stages start f [] requests follows in
    rw r.tells at (tells meaning r.events r.replies requests r.runs)

pub lives_keep : RunsKeepPromises → LivesKeepPromises
lives_keep keeps it variant start stages f requests follows =
    let r = ran variant (meaning_of it) stages start f [] requests follows in
    subst (λ (tellings : List Telling). (listing_of it).promise requests tellings) r.tells
    (keeps it r.events r.replies requests r.runs)
