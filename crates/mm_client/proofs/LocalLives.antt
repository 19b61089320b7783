-- The sessions that a client had held by a program are a life of a client over one store. With it:
-- what a session that went on leaves in a slot of records; the position of the last reply of some.
use Rattle.std.specs.List.{AllByRecursion}
use Rattle.std.specs.Option.{option_map}
use Rattle.std.proofs.Common.{◌≡◌, ◌≢◌, ◌∙◌, ◌+◌, ◌≤◌, ℕ, Bool, true, false, List, [], ◌∷◌, ◌++◌, length, drop, take, Some, refl, sym, ap}
use Rattle.std.proofs.Common.{inl, inr, subst, arith, Option, None, Result, Ok, ◌<◌, Err, length-append}
use Rattle.std.proofs.lemmas.List.{take-append-drop}
use Rattle.mm_bytes.specs.Limits.{CountRose, last_position}
use Rattle.mm_base.specs.Input.{joined_lines}
use Rattle.mm_base.specs.declared.replay_fault.ReplayFault.TheVariants as lines
use Rattle.mm_platform.specs.Standing.{Item, item_values}
use Rattle.mm_module.specs.Meaning.{IsLawful}
use Rattle.mm_play.specs.PlaysInput.{IsBlamed}
use Rattle.mm_recovery.specs.FirstStart.{InstanceBegins, Devices, InitGoes, host_among}
use Rattle.mm_host.specs.Continuation.{is_store_fault}
use Rattle.mm_host.specs.Sessions.{session_standing, IsSession}
use Rattle.mm_host.specs.declared.fault.SessionFault.{SessionFault}
use Rattle.mm_life.specs.HonestLife.{GoesOnFrom}
use Rattle.mm_life.specs.OneStore.{KeepsStore}
use Rattle.mm_life.specs.Stages.{program_standing, session_stage}
use Rattle.mm_life.proofs.Above.{Told, started_told}
use Rattle.mm_client.specs.ClientLife.{life_told, part_told, AreNoOthers, IsClientLife, ClientMemory, Hearing, lines_to_give, memory_after}
use Rattle.mm_client.specs.ClientLife.{memory_at, AreRounds, heard_position, LivesAsClient}
use Rattle.mm_client.specs.declared.heard.HeardReply.{HeardReply}
use Rattle.mm_client.specs.Laws.{BasicClientsAreServedOnce, OptClientsAreServedOnce}
use Rattle.mm_client.specs.LocalLife.{HearsOutput, HoldsSession, LocalStanding, ServesLocalClient}
use Rattle.mm_client.proofs.AnyLives.{replies_tell}
use Rattle.mm_client.proofs.Below.{AreNoChance, Basic, Batch, Does, Holds, HostStanding, Instance, IsGoneOnWith, IsLife, IsOverOneStore}
use Rattle.mm_client.proofs.Below.{LifePart, LifeStage, Meaning, Opt, PartGoesOn, PartLeads, Standing, StoreStanding, Variant, each_left}
use Rattle.mm_client.proofs.Below.{each_right, end_of, store_at_end, HostFault, Store, Resumed, IsLineFront, longest_request, position_at}
use Rattle.mm_client.proofs.Below.{SessionPlace, BytesBeginWith, IsAtRest, SendsReply, SessionStopsInLine, TurnGoes, turn_answer_of}
use Rattle.mm_client.proofs.Below.{reply_text, session_result_of, Host, Lines, ServedCall, ServesCalls, AreNewFrom, HostResumes}
use Rattle.mm_client.proofs.Hearings.{IsReadable, heard_so, readable}
use Rattle.mm_client.proofs.Trace.{HoldsRecord, IsAsBefore, LineLeaves, LinesLeave, leaves_honest, line_so, lines_so, resumed_so, then_so}
use Rattle.mm_client.proofs.Trace as trace

-- seen another way
pub rounds_on : {S T : Type 0} (view : S → T) (holds : S → S → List (List ℕ) → Hearing → Type 0)
    (holds_so : T → T → List (List ℕ) → Hearing → Type 0)
    → ((old new : S) (lines : List (List ℕ)) (heard : Hearing) → holds old new lines heard → holds_so (view old) (view new) lines heard)
    → (base : ℕ) (wanted : List (List ℕ)) (hearings : List Hearing) (old new : S) (before after : ClientMemory)
    → AreRounds holds base wanted old hearings before new after
    → AreRounds holds_so base wanted (view old) hearings before (view new) after
rounds_on view holds holds_so so base wanted [] old new before after r = (ap view r.0, r.1)
rounds_on view holds holds_so so base wanted (heard ∷ hearings) old new before after r = (
  view r.0,
  so old r.0 (lines_to_give base wanted before) heard r.1,
  rounds_on view holds holds_so so base wanted hearings r.0 new (memory_after before heard) after r.2,
)

-- the store failed in none of the sessions
abbrev KeepsStoreIn : LifePart → Type 0
KeepsStoreIn (Holds p) = KeepsStore p.result
KeepsStoreIn (Does deed) = Unit {0}

abbrev pub KeepStore : List LifeStage → Type 0
KeepStore stages = AllByRecursion (λ stage. KeepsStoreIn stage.part) stages

-- a count that rose isn't zero
risen : (before now : ℕ) → CountRose before now → now ≢ 0
risen before now rose none = omega (arith, rose, none)

-- one that is zero was zero before, and nobody is blamed
none_by : (is_blamed : Bool) (before now : ℕ) → IsBlamed is_blamed before now → now ≡ 0 → (before ≡ 0) × (is_blamed ≡ false)
none_by true before now rose none = absurd (risen before now rose none)
none_by false before now same none = (sym same ∙ none, refl)

none_failed : (result : Result Unit SessionFault) → is_store_fault result ≡ false → KeepsStore result
none_failed result none failed =
    let clash : true ≡ false = sym (ap (λ (x : Result Unit SessionFault). is_store_fault x) failed) ∙ none in absurd (cc)

-- a register that shows its values is told
told_of : (items : Option (List Item)) (values : List (List ℕ)) → option_map item_values items ≡ Some values
    → (all : List Item) × (items ≡ Some all)
told_of None values shown = absurd (cc)
told_of (Some items) values shown = (items, refl)

-- the stages of such sessions
pub record LocalStages (variant : Variant) (meaning : Meaning) (wanted : List (List ℕ)) (old new : HostStanding)
    (before after : ClientMemory) (rounds : ℕ) : Type 0 where
  pub stages : List LifeStage
  pub count : length stages ≡ rounds
  pub life : IsLife variant meaning old.standing stages
  pub over : IsOverOneStore old.kept stages
  pub ends : end_of old.standing stages ≡ new.standing
  pub left : store_at_end old.kept stages ≡ new.kept
  pub kept : new.kept.faults ≡ 0 → (old.kept.faults ≡ 0) × KeepStore stages
  pub chance : KeepStore stages → AreNoChance variant meaning old.standing stages life
  pub others : KeepStore stages → AreNoOthers variant meaning old.standing stages life
  pub client : AllByRecursion IsReadable (life_told variant meaning old.standing stages life)
      → IsClientLife 0 wanted variant meaning old.standing stages life before after

abbrev stage_of : {old new : LocalStanding} {lines : List (List ℕ)} {heard : Hearing} → HoldsSession old new lines heard → LifeStage
stage_of {old} {new} h =
    session_stage (program_standing old.host.kept (Some h.given) (Some [])) (program_standing new.host.kept h.left (Some h.output))
    h.result new.host.standing

one_more : (wanted : List (List ℕ)) (old middle : LocalStanding) (new : HostStanding) (before after : ClientMemory) (heard : Hearing)
    (rounds : ℕ) → (h : HoldsSession old middle (lines_to_give 0 wanted before) heard)
    → LocalStages old.variant old.meaning wanted middle.host new (memory_after before heard) after rounds
    → (most : ℕ) → most ≡ rounds + 1
    → LocalStages old.variant old.meaning wanted old.host new before after most
one_more wanted old middle new before after heard rounds h t most size = record {
  stages = stage_of h ∷ t.stages;
  count = omega (arith, t.count, size);
  life = (h.session, t.life);
  over = ((refl, refl), t.over);
  ends = t.ends;
  left = t.left;
  kept = λ none.
      let rest = t.kept none in
      let n = none_by (is_store_fault h.result) old.host.kept.faults middle.host.kept.faults h.blames rest.0 in
      (n.0, (none_failed h.result n.1, rest.1));
  chance = λ kept. ((λ is waiting waits slots told. absurd (kept.0 is)), t.chance kept.1);
  others = λ kept. ((λ is waiting waits next there at. absurd (kept.0 is)), t.others kept.1);
  client = λ all. (
    memory_after before heard,
    record {
      given = h.cut;
      hearing = heard;
      heard = heard_so h.session h.output heard h.session.appended h.hears
          (each_left IsReadable (part_told old.variant old.meaning old.host.standing (stage_of h).part middle.host.standing h.session)
          (life_told old.variant old.meaning middle.host.standing t.stages t.life) all);
      remembers = refl;
    },
    t.client (each_right IsReadable
        (part_told old.variant old.meaning old.host.standing (stage_of h).part middle.host.standing h.session)
        (life_told old.variant old.meaning middle.host.standing t.stages t.life) all),
  );
}

pub local_stages : (wanted : List (List ℕ)) (hearings : List Hearing) (old new : LocalStanding) (before after : ClientMemory)
    → AreRounds HoldsSession 0 wanted old hearings before new after
    → LocalStages old.variant old.meaning wanted old.host new.host before after (length hearings)
local_stages wanted [] old new before after r = record {
  stages = [];
  count = refl;
  life = tt;
  over = tt;
  ends = sym (ap (λ (x : LocalStanding). x.host.standing) r.0);
  left = sym (ap (λ (x : LocalStanding). x.host.kept) r.0);
  kept = λ none. (sym (ap (λ (x : LocalStanding). x.host.kept.faults) r.0) ∙ none, tt);
  chance = λ kept. tt;
  others = λ kept. tt;
  client = λ all. r.1;
}
local_stages wanted (heard ∷ hearings) old new before after r =
    let middle : LocalStanding = r.0 in
    let h = r.1 in
    one_more wanted old middle new.host before after heard (length hearings) h
    (subst (λ (m : Meaning). LocalStages old.variant m wanted middle.host new.host (memory_after before heard) after (length hearings))
    h.meaning
    (subst (λ (v : Variant). LocalStages v middle.meaning wanted middle.host new.host (memory_after before heard) after (length hearings))
    h.variant (local_stages wanted hearings middle new (memory_after before heard) after r.2)))
    (length (heard ∷ hearings)) (omega arith)

-- all that is told on an honest store can be read again

part_room : (all others : List (List ℕ)) (asked : List Batch) (i : Instance) (old : Standing) (part : LifePart) (new : Standing)
    (f : PartLeads i.variant i.meaning old part new) (requests after : List (List ℕ))
    → PartGoesOn all others asked i old part new f requests after → length requests ≤ last_position → length after ≤ last_position
part_room all others asked i old (Holds p) new f requests after goes room = goes.2.room
part_room all others asked i old (Does deed) new f requests after goes room =
    omega (arith, ap (λ (xs : List (List ℕ)). length xs) goes, room)

room_at_end : (all others : List (List ℕ)) (asked : List Batch) (i : Instance) (stages : List LifeStage) (start : Standing)
    (f : IsLife i.variant i.meaning start stages) (requests after : List (List ℕ))
    → GoesOnFrom all others asked i start stages f requests after → length requests ≤ last_position → length after ≤ last_position
room_at_end all others asked i [] start f requests after goes room = omega (arith, ap (λ (xs : List (List ℕ)). length xs) goes, room)
room_at_end all others asked i (stage ∷ stages) start f requests after goes room =
    room_at_end all others asked i stages stage.after f.1 goes.0 after goes.2
    (part_room all others asked i start stage.part stage.after f.0 requests goes.0 goes.1 room)

told_readable : {all others : List (List ℕ)} {asked : List Batch} {i : Instance} {kept : StoreStanding} {start : Standing}
    {stages : List LifeStage} {f : IsLife i.variant i.meaning start stages} → IsLawful i.meaning
    → IsGoneOnWith all others asked i kept start stages f
    → AllByRecursion IsReadable (life_told i.variant i.meaning start stages f)
told_readable {all = all} {others = others} {asked = asked} {i = i} {start = start} {stages = stages} {f = f} lawful gone =
    readable i.meaning lawful gone.after (room_at_end all others asked i stages start f [] gone.after gone.goes (omega arith))
    (life_told i.variant i.meaning start stages f) (replies_tell i.variant i.meaning start stages f [] gone.after gone.follows)

pub serves_local : BasicClientsAreServedOnce → OptClientsAreServedOnce → (variant : Variant) (meaning : Meaning) → IsLawful meaning
    → (old started : Devices) → InitGoes variant meaning old started (Ok tt) → InstanceBegins variant meaning old started
    → (new : HostStanding) (wanted : List (List ℕ)) (rounds : ℕ)
    (client : ClientMemory) → LocalStages variant meaning wanted (host_among started) new (memory_at 0) client rounds
    → ServesLocalClient variant meaning old new wanted rounds client
serves_local basic opt Basic meaning lawful old started inits begun new wanted rounds client t = record {
  started = started;
  begun = begun;
  stages = t.stages;
  count = t.count;
  life = t.life;
  over = t.over;
  ends = t.ends;
  left = t.left;
  serves = λ cell values slots here shown honest told none unbroken.
      let kept = (t.kept none).1 in
      elim (basic meaning lawful (take 32 begun.secrets) started.platform started.store t.stages t.life wanted
      (begun.stands cell [] here refl) (begun.honest ∙ honest) (begun.stores slots honest told) t.over (t.chance kept) (t.others kept)
      unbroken) [
        | inl served ↦ inl (t.client (told_readable lawful served.gone), served)
        | inr clash ↦ inr clash
      ];
}
serves_local basic opt Opt meaning lawful old started inits begun new wanted rounds client t = record {
  started = started;
  begun = begun;
  stages = t.stages;
  count = t.count;
  life = t.life;
  over = t.over;
  ends = t.ends;
  left = t.left;
  serves = λ cell values slots here shown honest told none unbroken.
      let kept = (t.kept none).1 in
      let before = told_of old.platform.items values shown in
      let n : Told started.platform = started_told Opt meaning old started inits (record { items = before.0; tells = before.1 }) in
      let stands = begun.stands cell (item_values n.items) here (ap (λ xs. option_map item_values xs) n.tells) in
      elim (opt meaning lawful (take 32 begun.secrets) (drop 32 begun.secrets) (item_values n.items) started.platform started.store
      t.stages t.life wanted stands (begun.honest ∙ honest) (begun.stores slots honest told) t.over (t.chance kept)
      (t.others kept) unbroken) [
        | inl served ↦ inl (t.client (told_readable lawful served.gone), served)
        | inr clash ↦ inr clash
      ];
}

-- as its sessions were held
pub serves_rounds : BasicClientsAreServedOnce → OptClientsAreServedOnce → (variant : Variant) (meaning : Meaning) → IsLawful meaning
    → (old started : Devices) → InitGoes variant meaning old started (Ok tt) → InstanceBegins variant meaning old started
    → (new : LocalStanding) (wanted : List (List ℕ))
    (hearings : List Hearing) (rounds : ℕ) (client : ClientMemory) → length hearings ≡ rounds
    → AreRounds HoldsSession 0 wanted (record { variant = variant; meaning = meaning; host = host_among started }) hearings (memory_at 0)
    new client
    → ServesLocalClient variant meaning old new.host wanted rounds client
serves_rounds basic opt variant meaning lawful old started inits begun new wanted hearings rounds client count r =
    serves_local basic opt variant meaning lawful old started inits begun new.host wanted rounds client
    (subst (λ (n : ℕ). LocalStages variant meaning wanted (host_among started) new.host (memory_at 0) client n) count
    (local_stages wanted hearings (record { variant = variant; meaning = meaning; host = host_among started }) new (memory_at 0) client r))

-- a session over the bytes that come in
pub holds_so : (variant : Variant) (meaning : Meaning) (old new : HostStanding) (lines : List (List ℕ)) (heard : Hearing)
    (text given : List ℕ) (count : ℕ) (left left' received : Option (List ℕ)) (output told : List ℕ) (result : Result Unit SessionFault)
    → text ≡ joined_lines lines → given ≡ take count text → left ≡ Some given → received ≡ Some [] → told ≡ output
    → IsSession variant meaning (session_standing old.standing old.kept left received)
    (session_standing new.standing new.kept left' (Some output)) result
    → IsBlamed (is_store_fault result) old.kept.faults new.kept.faults → HearsOutput told result heard
    → HoldsSession (record { variant = variant; meaning = meaning; host = old })
    (record { variant = variant; meaning = meaning; host = new }) lines heard
holds_so variant meaning old new lines heard text given count left left' received output told result is front left_is received_is same
    s blames h = record {
      variant = refl;
      meaning = refl;
      given = given;
      cut = record {
        bytes = given;
        lost = drop count text;
        told = refl;
        front = ap (λ (bytes : List ℕ). bytes ++ drop count text) front ∙ take-append-drop count text ∙ is;
      };
      left = left';
      output = output;
      result = result;
      session = subst (λ (r : Option (List ℕ)). IsSession variant meaning (session_standing old.standing old.kept (Some given) r)
          (session_standing new.standing new.kept left' (Some output)) result) received_is
          (subst (λ (l : Option (List ℕ)). IsSession variant meaning (session_standing old.standing old.kept l received)
          (session_standing new.standing new.kept left' (Some output)) result) left_is s);
      blames = blames;
      hears = subst (λ (bytes : List ℕ). HearsOutput bytes result heard) same h;
    }

-- What a session that went on leaves in a slot of records.

pub data SessionLeaves (k : ℕ) (old new : StoreStanding) (reached : ℕ) (last : Resumed) (more : List ℕ)
    (result : Result Unit SessionFault) : Type 0 where
  as_before : IsAsBefore k old new → SessionLeaves k old new reached last more result
  records : (l : Resumed) (line : List ℕ) → HoldsRecord k old new l line → IsLineFront longest_request line
      → position_at l + 1 ≤ reached → SessionLeaves k old new reached last more result
  in_hand : (line held : List ℕ) → BytesBeginWith more line held → HoldsRecord k old new last line → result ≢ Ok tt
      → SessionLeaves k old new reached last more result
  fails : (line held : List ℕ) → BytesBeginWith more line held → new.is_honest ≡ old.is_honest → result ≡ Err (Host Store)
      → SessionLeaves k old new reached last more result

-- where the store failed, that is told
store_told : (came : Result Resumed HostFault) (sent : List ℕ) (fault : SessionFault) → SendsReply came sent (Err fault)
    → came ≡ Err Store → fault ≡ Host Store
store_told came sent fault (inl s) e = let told : Err fault ≡ Err (Host Store) = s.1 ∙ ap session_result_of e in cc
store_told came sent fault (inr s) e = absurd (s.1 (ap reply_text e))

module _ (k : ℕ) (least : 2 ≤ k) (most : k < 4) (variant : Variant) (meaning : Meaning) where
  hand_so : (at : SessionPlace) (new : HostStanding) (reached : ℕ) (more sent : List ℕ) (fault : SessionFault) (line held : List ℕ)
      (came : Result Resumed HostFault) → BytesBeginWith more line held → SendsReply came sent (Err fault)
      → LineLeaves k at.host.kept new.kept at.last line came
      → SessionLeaves k at.host.kept new.kept reached at.last more (Err fault)
  hand_so at new reached more sent fault line held came begins says (trace.as_before b) = as_before b
  hand_so at new reached more sent fault line held came begins says (trace.records h) = in_hand line held begins h (λ e. cc)
  hand_so at new reached more sent fault line held came begins says (trace.fails x e) =
      fails line held begins x (ap (λ (f : SessionFault). Err f) (store_told came sent fault says e))

  module _ (number : ℕ) (at : SessionPlace) (new : HostStanding) (left : Option (List ℕ)) (more sent : List ℕ) (reached : ℕ)
      (honest : at.host.kept.is_honest ≡ true) where
    stop_so : (fault : SessionFault) → SessionStopsInLine variant meaning number at new more sent fault
        → SessionLeaves k at.host.kept new.kept reached at.last more (Err fault)
    stop_so fault e =
        hand_so at new reached more sent fault e.line e.held e.came e.begins e.says
        (line_so k least most variant meaning at.host new at.last e.line e.came honest e.asks)

    rest_so : (result : Result Unit SessionFault) → IsAtRest at new sent → SessionLeaves k at.host.kept new.kept reached at.last more result
    rest_so result r = as_before (record {
      shows = ap (λ (h : HostStanding). trace.shown h.kept.slots k) r.still;
      honest = ap (λ (h : HostStanding). h.kept.is_honest) r.still;
    })

    end_so : (result : Result Unit SessionFault) → TurnGoes variant meaning number at new left more [] sent (turn_answer_of result)
        → SessionLeaves k at.host.kept new.kept reached at.last more result
    end_so (Ok it) e = rest_so (Ok it) e.0
    end_so (Err (Host fault)) e = stop_so (Host fault) e
    end_so (Err (Lines lines.WriteFault)) e = stop_so (Lines lines.WriteFault) e
    end_so (Err (Lines lines.Memory)) e = absurd e
    end_so (Err (Lines lines.ReadFault)) e = rest_so (Err (Lines lines.ReadFault)) e.0
    end_so (Err (Lines (lines.BadLine n))) e = rest_so (Err (Lines (lines.BadLine n))) e.0
    end_so (Err (Lines (lines.LineLong n))) e = rest_so (Err (Lines (lines.LineLong n))) e.0
    end_so (Err (Lines lines.TooMuch)) e = rest_so (Err (Lines lines.TooMuch)) e.0

leaves_then : (k : ℕ) (a b c : StoreStanding) (reached : ℕ) (last : Resumed) (more : List ℕ) (result : Result Unit SessionFault)
    → IsAsBefore k a b → SessionLeaves k b c reached last more result → SessionLeaves k a c reached last more result
leaves_then k a b c reached last more result x (as_before y) = as_before (then_so k a b c x y)
leaves_then k a b c reached last more result x (records l line h f m) =
    records l line (record { at = h.at; bytes = h.bytes; honest = h.honest ∙ x.honest }) f m
leaves_then k a b c reached last more result x (in_hand line held g h n) =
    in_hand line held g (record { at = h.at; bytes = h.bytes; honest = h.honest ∙ x.honest }) n
leaves_then k a b c reached last more result x (fails line held g y e) = fails line held g (y ∙ x.honest) e

leaves_behind : (k : ℕ) (a b c : StoreStanding) (reached : ℕ) (last : Resumed) (more : List ℕ) (result : Result Unit SessionFault)
    → LinesLeave k a b reached → SessionLeaves k b c reached last more result → SessionLeaves k a c reached last more result
leaves_behind k a b c reached last more result (trace.as_before x) y = leaves_then k a b c reached last more result x y
leaves_behind k a b c reached last more result (trace.records l line h f m) (as_before y) =
    records l line (record { at = h.at; bytes = λ here e. h.bytes here (sym y.shows ∙ e); honest = y.honest ∙ h.honest }) f m
leaves_behind k a b c reached last more result (trace.records l line h f m) (records l' line' h' f' m') =
    records l' line' (record { at = h'.at; bytes = h'.bytes; honest = h'.honest ∙ h.honest }) f' m'
leaves_behind k a b c reached last more result (trace.records l line h f m) (in_hand line' held g h' n) =
    in_hand line' held g (record { at = h'.at; bytes = h'.bytes; honest = h'.honest ∙ h.honest }) n
leaves_behind k a b c reached last more result (trace.records l line h f m) (fails line' held g y e) =
    fails line' held g (y ∙ h.honest) e

-- from the store that the session found
pub session_leaves : (k : ℕ) → 2 ≤ k → k < 4 → (variant : Variant) (meaning : Meaning) (old : HostStanding) (middle : HostStanding)
    (came : Result Resumed HostFault) (first : Resumed) → old.kept.is_honest ≡ true → HostResumes variant meaning old middle came
    → (calls : List ServedCall) (at : SessionPlace) → ServesCalls variant meaning (record { host = middle; last = first }) calls at
    → AreNewFrom (position_at first) calls
    → (number : ℕ) (new : HostStanding) (left : Option (List ℕ)) (more sent : List ℕ) (result : Result Unit SessionFault)
    → TurnGoes variant meaning number at new left more [] sent (turn_answer_of result)
    → SessionLeaves k old.kept new.kept (position_at at.last) at.last more result
session_leaves k least most variant meaning old middle came first honest resumes calls at serves news number new left more sent result
    ends =
    let r = resumed_so k least most variant meaning old middle came honest resumes in
    let l = lines_so k least most variant meaning calls (record { host = middle; last = first }) at serves news (r.honest ∙ honest) in
    leaves_then k old.kept middle.kept new.kept (position_at at.last) at.last more result r
    (leaves_behind k middle.kept at.host.kept new.kept (position_at at.last) at.last more result l
    (end_so k least most variant meaning number at new left more sent (position_at at.last)
    (leaves_honest k middle.kept at.host.kept (position_at at.last) l ∙ r.honest ∙ honest) result ends))

pub keeps_honest : (k : ℕ) (old new : StoreStanding) (reached : ℕ) (last : Resumed) (more : List ℕ) (result : Result Unit SessionFault)
    → SessionLeaves k old new reached last more result → new.is_honest ≡ old.is_honest
keeps_honest k old new reached last more result (as_before b) = b.honest
keeps_honest k old new reached last more result (records l line h f m) = h.honest
keeps_honest k old new reached last more result (in_hand line held g h n) = h.honest
keeps_honest k old new reached last more result (fails line held g x e) = x

-- The position of the last reply of some.

heard_behind : (before : ℕ) (front : List HeardReply) (last : HeardReply) → heard_position before (front ++ last ∷ []) ≡ last.position
heard_behind before [] last = refl
heard_behind before (reply ∷ front) last = heard_behind reply.position front last

pub heard_at_end : (before : ℕ) (replies front : List HeardReply) (last : HeardReply) → replies ≡ front ++ last ∷ []
    → heard_position before replies ≡ last.position
heard_at_end before replies front last e =
    ap (λ (xs : List HeardReply). heard_position before xs) e ∙ heard_behind before front last

-- one session more
pub rounds_then : {S : Type 0} (holds : S → S → List (List ℕ) → Hearing → Type 0) (base : ℕ) (wanted : List (List ℕ)) (old middle new : S)
    (hearings : List Hearing) (before between : ClientMemory) (heard : Hearing)
    → AreRounds holds base wanted old hearings before middle between → holds middle new (lines_to_give base wanted between) heard
    → AreRounds holds base wanted old (hearings ++ heard ∷ []) before new (memory_after between heard)
rounds_then {S} holds base wanted old middle new [] before between heard r h =
    let given : holds old new (lines_to_give base wanted before) heard =
    subst (λ (x : S). holds x new (lines_to_give base wanted before) heard) r.0
    (subst (λ (m : ClientMemory). holds middle new (lines_to_give base wanted m) heard) r.1 h) in
    (new, given, (refl, ap (λ (m : ClientMemory). memory_after m heard) r.1))
rounds_then {S} holds base wanted old middle new (x ∷ hearings) before between heard r h =
    (r.0, r.1, rounds_then holds base wanted r.0 middle new hearings (memory_after before x) between heard r.2 h)

pub lives_then : {S : Type 0} (holds : S → S → List (List ℕ) → Hearing → Type 0) (base : ℕ) (wanted : List (List ℕ)) (old middle new : S)
    (before between after : ClientMemory) (rounds : ℕ) (lines : List (List ℕ)) (heard : Hearing)
    → LivesAsClient holds base wanted old middle before between rounds → lines ≡ lines_to_give base wanted between
    → holds middle new lines heard → after ≡ memory_after between heard
    → LivesAsClient holds base wanted old new before after (rounds + 1)
lives_then holds base wanted old middle new before between after rounds lines heard l given h remembers = record {
  hearings = l.hearings ++ heard ∷ [];
  count = length-append l.hearings (heard ∷ []) ∙ ap (λ (n : ℕ). n + 1) l.count;
  lives = subst (λ (m : ClientMemory). AreRounds holds base wanted old (l.hearings ++ heard ∷ []) before new m) (sym remembers)
      (rounds_then holds base wanted old middle new l.hearings before between heard l.lives
      (subst (λ (xs : List (List ℕ)). holds middle new xs heard) given h));
}
