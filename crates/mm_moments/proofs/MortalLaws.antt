-- The laws of a life hold of one in which programs are killed. With it: the segments that were
-- opened and closed in a life in which programs are killed, and in the one in which they ended.
use Rattle.std.specs.Prelude.{if◌then◌else◌}
use Rattle.std.proofs.Common.{◌≡◌, ◌∙◌, ◌+◌, ◌≤◌, ℕ, zero, suc, Bool, true, false, List, [], ◌∷◌, Result, Err, refl, sym, ap, arith, ◌++◌}
use Rattle.std.proofs.Common.{length, subst}
use Rattle.mm_digest.specs.declared.variant.Variant.TheVariants.{Opt, Basic}
use Rattle.mm_platform.specs.Standing.{Standing}
use Rattle.mm_module.specs.Meaning.{Meaning}
use Rattle.mm_listing.specs.Listing.{AreSaid}
use Rattle.mm_modules.specs.Modules.{meaning_of}
use Rattle.mm_model.specs.Chains.{Instance, basic_instance, opt_instance}
use Rattle.mm_model.specs.History.{first_history}
use Rattle.mm_model.specs.Messages.{AreNoGuards, IsClear}
use Rattle.mm_model.specs.Standing.{issued_bytes}
use Rattle.mm_schedule.specs.Replies.{ModulePromises, tellings_in}
use Rattle.mm_schedule.specs.declared.reply.Reply.{Reply}
use Rattle.mm_recovery.specs.CellWrites.{is_open_after, openings}
use Rattle.mm_host.specs.declared.fault.SessionFault.{SessionFault}
use Rattle.mm_life.specs.Deeds.{Calls, Checkpoints, Extends, LosesPower, LifeCall}
use Rattle.mm_life.specs.HonestLife.{BasicLifeGoesOn, IsGoneOnWith, OptLifeGoesOn}
use Rattle.mm_life.specs.Laws.{BasicLifeIsOne, LivesKeepPromises, LivesTellWhatWasSaid, OptLifeIsOne}
use Rattle.mm_life.specs.LifeWrites.{call_stop, checkpoint_stop, new_replies, part_turns, part_turns_in_hand, segment_turns, session_stop}
use Rattle.mm_life.specs.LifeWrites.{turns_in_hand, turns_unless_stopped, BasicLivesWriteOnce, LifeWrites, OptLivesWriteOnce, hands_in}
use Rattle.mm_life.specs.LifeWrites.{new_requests_told, stops_in}
use Rattle.mm_life.specs.Premises.{has_open_segment, call_batches, call_messages, others_values, register_messages, snapshots_of}
use Rattle.mm_life.specs.Stages.{part_replies, told_replies, Does, Holds, LifePart, PartLeads, IsOneWhole, IsLife, LifeStage, life_calls}
use Rattle.mm_moments.specs.MortalLaws.{mortal_part_turns, mortal_part_turns_in_hand, mortal_turns, mortal_turns_in_hand}
use Rattle.mm_moments.specs.MortalLaws.{BasicMortalLifeGoesOn, BasicMortalLifeIsOne, MortalLivesKeepPromises, MortalLivesTell}
use Rattle.mm_moments.specs.MortalLaws.{BasicMortalLivesWriteOnce, OptMortalLifeGoesOn, OptMortalLivesWriteOnce, OptMortalLifeIsOne}
use Rattle.mm_moments.specs.MortalLaws.{mortal_others, mortal_hands, mortal_register_messages, mortal_stops}
use Rattle.mm_moments.specs.MortalLives.{Dies, IsMortalLife, LifeEnds, Lives, MortalPart, MortalPartLeads, MortalStage, PartEnds}
use Rattle.mm_moments.specs.MortalLives.{ended_life, ended_stages, MortalLivesEnd, mortal_calls}
use Rattle.mm_moments.proofs.MortalEnds.{one_stop, calls_same, no_chance, others_same, over_one_store, registers_same, hands_most}
use Rattle.mm_moments.proofs.MortalEnds.{replies_same, stops_most, untagged}

-- The segments that were opened and closed in a life in which programs are killed, and in the one in which they ended.

-- by what a part told alone
abbrev turns_with : Standing → Standing → LifePart → List Reply → ℕ
turns_with old new (Does (Checkpoints said)) replies =
    turns_unless_stopped (checkpoint_stop said) (has_open_segment old) (has_open_segment new)
turns_with old new (Does (Extends values)) replies = 0
turns_with old new (Does LosesPower) replies = 0
turns_with old new part replies = openings (has_open_segment old) (new_replies replies)

abbrev hand_with : Standing → LifePart → List Reply → ℕ
hand_with old (Holds p) replies = openings (is_open_after (has_open_segment old) (new_replies replies)) (session_stop p.result)
hand_with old (Does (Calls c)) replies = openings (is_open_after (has_open_segment old) (new_replies replies)) (call_stop c.gives)
hand_with old (Does (Checkpoints said)) replies = if has_open_segment old then checkpoint_stop said else 0
hand_with old (Does deed) replies = 0

-- where something is in hand at most once
openings_most : (flag : Bool) (n : ℕ) → n ≤ 1 → openings flag n ≤ openings flag 1
openings_most true n few = omega arith
openings_most false zero few = omega arith
openings_most false (suc n) few = omega arith

module _ (meaning : Meaning) where
  turns_is : (old : Standing) (part : LifePart) (new : Standing) (l : PartLeads Opt meaning old part new)
      → part_turns meaning old part new l ≡ turns_with old new part (part_replies Opt meaning old part new l)
  turns_is old (Holds p) new l = refl
  turns_is old (Does (Calls c)) new l = refl
  turns_is old (Does (Checkpoints said)) new l = refl
  turns_is old (Does (Extends values)) new l = refl
  turns_is old (Does LosesPower) new l = refl

  hand_is : (old : Standing) (part : LifePart) (new : Standing) (l : PartLeads Opt meaning old part new)
      → part_turns_in_hand meaning old part new l ≡ hand_with old part (part_replies Opt meaning old part new l)
  hand_is old (Holds p) new l = refl
  hand_is old (Does (Calls c)) new l = refl
  hand_is old (Does (Checkpoints said)) new l = refl
  hand_is old (Does (Extends values)) new l = refl
  hand_is old (Does LosesPower) new l = refl

  part_turns_same : (old : Standing) (part : MortalPart) (new : Standing) (f : MortalPartLeads Opt meaning old part new)
      (e : PartEnds Opt meaning old part new f) → part_turns meaning old e.ended new e.leads ≡ mortal_part_turns meaning old part new f
  part_turns_same old (Lives part) new f e =
      turns_is old e.ended new e.leads ∙ ap (turns_with old new e.ended) e.replies
      ∙ ap (λ (x : LifePart). turns_with old new x (part_replies Opt meaning old part new f)) e.is ∙ sym (turns_is old part new f)
  part_turns_same old (Dies p) new k e =
      turns_is old e.ended new e.leads ∙ ap (turns_with old new e.ended) e.replies
      ∙ ap (λ (x : LifePart). turns_with old new x (told_replies k.moment.told)) e.is.2

  part_hand_most : (old : Standing) (part : MortalPart) (new : Standing) (f : MortalPartLeads Opt meaning old part new)
      (e : PartEnds Opt meaning old part new f)
      → part_turns_in_hand meaning old e.ended new e.leads ≤ mortal_part_turns_in_hand meaning old part new f
  part_hand_most old (Lives part) new f e =
      let same = hand_is old e.ended new e.leads ∙ ap (hand_with old e.ended) e.replies
      ∙ ap (λ (x : LifePart). hand_with old x (part_replies Opt meaning old part new f)) e.is ∙ sym (hand_is old part new f) in
      omega (arith, same)
  part_hand_most old (Dies p) new k e =
      let same = hand_is old e.ended new e.leads ∙ ap (hand_with old e.ended) e.replies
      ∙ ap (λ (x : LifePart). hand_with old x (told_replies k.moment.told)) e.is.2 in
      let fault : Result Unit SessionFault = Err e.is.1 in
      let most = openings_most (is_open_after (has_open_segment old) (new_replies (told_replies k.moment.told))) (session_stop fault)
      (one_stop fault) in omega (arith, same, most)

  pub turns_same : (start : Standing) (stages : List MortalStage) (f : IsMortalLife Opt meaning start stages)
      (e : LifeEnds Opt meaning start stages f)
      → segment_turns meaning start (ended_stages Opt meaning start stages f e) (ended_life Opt meaning start stages f e)
      ≡ mortal_turns meaning start stages f
  turns_same start [] f e = refl
  turns_same start (stage ∷ stages) f e =
      let here = part_turns_same start stage.part stage.after f.0 e.0 in
      let rest = turns_same stage.after stages f.1 e.1 in λ j. here j + rest j

  pub hand_most : (start : Standing) (stages : List MortalStage) (f : IsMortalLife Opt meaning start stages)
      (e : LifeEnds Opt meaning start stages f)
      → turns_in_hand meaning start (ended_stages Opt meaning start stages f e) (ended_life Opt meaning start stages f e)
      ≤ mortal_turns_in_hand meaning start stages f
  hand_most start [] f e = omega arith
  hand_most start (stage ∷ stages) f e =
      let here = part_hand_most start stage.part stage.after f.0 e.0 in
      let rest = hand_most stage.after stages f.1 e.1 in omega (arith, here, rest)

-- The laws of a life hold of one in which programs are killed.

at_most : (count one other : ℕ) → count ≤ one → one ≤ other → count ≤ other
at_most count one other a b = omega (arith, a, b)

-- what holds of some values holds of equal ones
moved : {A B C : Type 0} (P : A → B → C → Type 0) (a a' : A) (b b' : B) (c c' : C) → a ≡ a' → b ≡ b' → c ≡ c' → P a b c → P a' b' c'
moved P a a' b b' c c' p q r h =
    subst (λ x. P a' b' x) r (subst (λ x. P a' x c) q (subst (λ x. P x b c) p h))

-- Of the life in which the killed programs ended, and of the one in which they are killed, the messages, the values of others and the
-- requests are the same.
module _ (i : Instance) (start : Standing) (stages : List MortalStage) (f : IsMortalLife i.variant i.meaning start stages)
    (e : LifeEnds i.variant i.meaning start stages f) where
  abbrev pub ended : List LifeStage
  ended = ended_stages i.variant i.meaning start stages f e

  abbrev pub life : IsLife i.variant i.meaning start ended
  life = ended_life i.variant i.meaning start stages f e

  -- what is said of the one, by calls, messages and values
  pub to_mortal : (P : List LifeCall → List (List ℕ) → List (List ℕ) → Type 0)
      → P (life_calls i.variant i.meaning start ended life) (register_messages i start ended life) (others_values i start ended life)
      → P (mortal_calls i.variant i.meaning start stages f) (mortal_register_messages i start stages f) (mortal_others i start stages f)
  to_mortal P h =
      moved P _ _ _ _ _ _ (calls_same i.variant i.meaning start stages f e) (registers_same i start stages f e)
      (others_same i start stages f e) h

  to_ended : (P : List LifeCall → List (List ℕ) → List (List ℕ) → Type 0)
      → P (mortal_calls i.variant i.meaning start stages f) (mortal_register_messages i start stages f) (mortal_others i start stages f)
      → P (life_calls i.variant i.meaning start ended life) (register_messages i start ended life) (others_values i start ended life)
  to_ended P h =
      moved P _ _ _ _ _ _ (sym (calls_same i.variant i.meaning start stages f e)) (sym (registers_same i start stages f e))
      (sym (others_same i start stages f e)) h

pub basic_one : MortalLivesEnd → BasicLifeIsOne → BasicMortalLifeIsOne
basic_one end one meaning lawful key start stages f stands clear tags =
    let i : Instance = basic_instance meaning key in
    let e = end Basic meaning lawful start stages f in record {
      ends = e;
      whole = to_mortal i start stages f e (λ calls messages others. IsOneWhole (call_messages i calls) [] (call_batches calls) i
          (issued_bytes i first_history ∷ snapshots_of calls) start (ended i start stages f e) (life i start stages f e))
          (one meaning lawful key start (ended i start stages f e) (life i start stages f e) stands
          (to_ended i start stages f e (λ calls messages others. IsClear (call_messages i calls)) clear)
          (untagged i (issued_bytes i first_history ∷ []) start stages f e tags));
    }

pub opt_one : MortalLivesEnd → OptLifeIsOne → OptMortalLifeIsOne
opt_one end one meaning lawful key barrier values start stages f stands clear apart tags =
    let i : Instance = opt_instance meaning key barrier in
    let e = end Opt meaning lawful start stages f in record {
      ends = e;
      whole = to_mortal i start stages f e (λ calls messages others. IsOneWhole (call_messages i calls ++ messages) others
          (call_batches calls) i (issued_bytes i first_history ∷ snapshots_of calls) start (ended i start stages f e)
          (life i start stages f e))
          (one meaning lawful key barrier values start (ended i start stages f e) (life i start stages f e) stands
          (to_ended i start stages f e (λ calls messages others. IsClear (call_messages i calls ++ messages)) clear)
          (to_ended i start stages f e (λ calls messages others. AreNoGuards barrier others (call_batches calls)) apart)
          (untagged i (issued_bytes i first_history ∷ []) start stages f e tags));
    }

pub basic_goes_on : MortalLivesEnd → BasicLifeGoesOn → BasicMortalLifeGoesOn
basic_goes_on end on meaning lawful key start kept stages f stands honest told over clear chance =
    let i : Instance = basic_instance meaning key in
    let e = end Basic meaning lawful start stages f in record {
      ends = e;
      gone = to_mortal i start stages f e (λ calls messages others. IsGoneOnWith (call_messages i calls) [] (call_batches calls) i kept
          start (ended i start stages f e) (life i start stages f e))
          (on meaning lawful key start kept (ended i start stages f e) (life i start stages f e) stands honest told
          (over_one_store Basic meaning kept start stages f e over)
          (to_ended i start stages f e (λ calls messages others. IsClear (call_messages i calls)) clear)
          (no_chance Basic meaning start stages f e chance));
    }

pub opt_goes_on : MortalLivesEnd → OptLifeGoesOn → OptMortalLifeGoesOn
opt_goes_on end on meaning lawful key barrier values start kept stages f stands honest told over clear apart chance =
    let i : Instance = opt_instance meaning key barrier in
    let e = end Opt meaning lawful start stages f in record {
      ends = e;
      gone = to_mortal i start stages f e (λ calls messages others. IsGoneOnWith (call_messages i calls ++ messages) others
          (call_batches calls) i kept start (ended i start stages f e) (life i start stages f e))
          (on meaning lawful key barrier values start kept (ended i start stages f e) (life i start stages f e) stands honest told
          (over_one_store Opt meaning kept start stages f e over)
          (to_ended i start stages f e (λ calls messages others. IsClear (call_messages i calls ++ messages)) clear)
          (to_ended i start stages f e (λ calls messages others. AreNoGuards barrier others (call_batches calls)) apart)
          (no_chance Opt meaning start stages f e chance));
    }

pub tells : LivesTellWhatWasSaid → MortalLivesTell
tells law variant meaning start stages f e requests follows =
    subst (λ (replies : List Reply). AreSaid meaning requests (tellings_in replies)) (replies_same variant meaning start stages f e)
    (law variant meaning start (ended_stages variant meaning start stages f e) (ended_life variant meaning start stages f e) requests
    follows)

pub promises : LivesKeepPromises → MortalLivesKeepPromises
promises law it variant start stages f e requests follows =
    subst (λ (replies : List Reply). ModulePromises it requests replies) (replies_same variant (meaning_of it) start stages f e)
    (law it variant start (ended_stages variant (meaning_of it) start stages f e) (ended_life variant (meaning_of it) start stages f e)
    requests follows)

pub basic_writes_once : BasicLivesWriteOnce → BasicMortalLivesWriteOnce
basic_writes_once law meaning key y start stages f e requests stands follows =
    let stages' = ended_stages Basic meaning start stages f e in
    let w = law meaning key y start stages' (ended_life Basic meaning start stages f e) requests stands follows in
    let same = replies_same Basic meaning start stages f e in
    let most = stops_most Basic meaning start stages f e in record {
      once = record {
        in_hand = w.once.in_hand;
        few = at_most w.once.in_hand (stops_in stages') (mortal_stops stages) w.once.few most;
        writes = subst (λ (replies : List Reply). LifeWrites start stages' (new_replies replies + w.once.in_hand)) same w.once.writes;
      };
      kept = w.kept;
      few = at_most w.kept (hands_in stages') (mortal_hands stages) w.few (hands_most Basic meaning start stages f e);
      listed = subst (λ (replies : List Reply). length requests ≡ new_requests_told replies + w.kept) same w.listed;
    }

pub opt_writes_once : OptLivesWriteOnce → OptMortalLivesWriteOnce
opt_writes_once law meaning key barrier y start stages f e stands =
    let stages' = ended_stages Opt meaning start stages f e in
    let life = ended_life Opt meaning start stages f e in
    let w = law meaning key barrier y start stages' life stands in record {
      in_hand = w.in_hand;
      few = at_most w.in_hand (turns_in_hand meaning start stages' life) (mortal_turns_in_hand meaning start stages f) w.few
          (hand_most meaning start stages f e);
      writes = subst (λ (due : ℕ). LifeWrites start stages' (due + w.in_hand)) (turns_same meaning start stages f e) w.writes;
    }
