-- What a status tells of what a device held: of each command, and of the words that spell it. With
-- it: what the digests at its end refuse of what a session is asked next, the program tells as
-- refused, or as lost.
use Rattle.std.specs.Option.{option_map}
use Rattle.std.specs.Prelude.{◌≢◌, IsSome, Some, ◌++◌, ◌&&◌, map}
use Rattle.std.specs.Str.{bytes_eq}
use Rattle.std.proofs.lemmas.Slice.Eq.{bytes_eq-Decides}
use Rattle.mm_bytes.specs.declared.fault.WriteFault as write
use Rattle.mm_digest.specs.Messages.{zero_bytes}
use Rattle.mm_digest.specs.declared.variant.Variant.TheVariants.{Basic, Opt}
use Rattle.mm_seal.specs.Cell.{blank_cell, cell_spelling, FitsVariant, IsCell, SpellsCell}
use Rattle.mm_seal.specs.CellLaws.{reads_cell-same}
use Rattle.mm_platform.specs.Standing.{foreign_item, Item, item_values, register_after, items_beside}
use Rattle.mm_module.specs.Batch.{One}
use Rattle.mm_modules.proofs.Above.{id_spelled}
use Rattle.mm_model.specs.Moves.{Digests}
use Rattle.mm_model.specs.Standing.{register_reading}
use Rattle.mm_model.specs.declared.refusal.Refusal.TheVariants as refusal
use Rattle.mm_call.specs.CallFinding.{IsUntouched}
use Rattle.mm_call.specs.Standing.{cell_at, instance_by, RegisterStandsAt, StandsAt}
use Rattle.mm_status.specs.declared.status.Status.TheVariants.{Blank, Already, Cell, Lost, Refused, Short, Kind}
use Rattle.mm_store.specs.PendingRecord.{PendingRecord}
use Rattle.mm_store.specs.StoreStanding.{Slots, slot_front}
use Rattle.mm_words.specs.Commands.{SpellsCommand}
use Rattle.mm_words.specs.declared.fault.WordsFault.{WordsFault}
use Rattle.mm_words.specs.declared.fault.WordsFault.TheVariants as words
use Rattle.mm_recovery.specs.HostStanding.{first_offer, IsWaiting}
use Rattle.mm_host.specs.AnySlots.{offer_after, IsOfOffer}
use Rattle.mm_host.specs.Continuation.{IsInHand, served_calls_in}
use Rattle.mm_host.specs.Sessions.{told_cause}
use Rattle.mm_host.proofs.Above.{chain_ends, chain_of, IsFaulty, next_refused, refused_as_offer, RefusesOrFails, shown_lost}
use Rattle.mm_host_commands.specs.Run.{refusal_status, session_fault_status}
use Rattle.mm_app.specs.Commands.{SpellNone, SpellSome}
use Rattle.mm_app.specs.StatusFacts.{AsksFirst, AsksNext, HasLostPower, IsExactlyAt, RefusesFirst, RefusesNext, WhateverWaits, CantRead}
use Rattle.mm_app.specs.StatusFacts.{EndsByFault, FindsBasic, IsExactlyWhere, IsVisible, NeedsInstance, RunsShort, StartsOne, words_status}
use Rattle.mm_app.specs.StatusFacts.{instance_of, RefusesAt}
use Rattle.mm_app.proofs.Below.{◌≡◌, ◌∙◌, ℕ, Bool, true, false, List, length, Option, Result, Ok, Err, refl, sym, ap, subst, inl, inr}
use Rattle.mm_app.proofs.Below.{arith, CommandLine, Checkpoint, Run, ReplayFault, Outside, Status, status_by, status_of, TellsLines}
use Rattle.mm_app.proofs.Below.{Refusal, one_command, [], None, ◌⊎◌, Held, Standing, Variant, Instance, session_status, SessionFault}
use Rattle.mm_app.proofs.Below.{AnyModule, meaning_of, module_of_id}

-- a status that tells of what a device held
abbrev pub tells_held : Status → Bool
tells_held Blank = true
tells_held Already = true
tells_held Cell = true
tells_held Lost = true
tells_held (Refused why) = true
tells_held (Short got) = true
tells_held Kind = true
tells_held _ = false

-- It ended so, and that holds; or neither; or by a fault.
pub exactly_here : {Holds : Type 0} {end status : Status} → status ≡ end → Holds → IsExactlyWhere Holds end status
exactly_here e h = record { only = λ is. h; always = λ it. inl e }

pub nowhere : {Holds : Type 0} {end status : Status} → (status ≡ end → ⊥) → (Holds → ⊥) → IsExactlyWhere Holds end status
nowhere not none = record { only = λ is. absurd (not is); always = λ it. absurd (none it) }

pub by_fault_where : {Holds : Type 0} {end status : Status} → EndsByFault status → (EndsByFault end → ⊥) → IsExactlyWhere Holds end status
by_fault_where {Holds} {end} f not = record { only = λ is. absurd (not (subst EndsByFault is f)); always = λ it. inr f }

-- what was told, where the status tells of what a device held
text_unheld : (r : Result (Unit {0}) write.WriteFault) → tells_held (status_by r) ≡ false
text_unheld r = grind arith

pub held_told : (told : Result (List ℕ) Status) (received received' : Option (List ℕ)) (writes writes' : ℕ) (status end : Status)
    → TellsLines told received received' writes writes' status → status ≡ end → tells_held end ≡ true → told ≡ Err end
held_told (Ok text) received received' writes writes' status end t is held =
    let clash : true ≡ false = sym held ∙ ap tells_held (sym is ∙ t.ends) ∙ text_unheld t.result in absurd (cc)
held_told (Err why) received received' writes writes' status end t is held = ap (λ (s : Status). Err s) (sym t.ends ∙ is)

-- a status that isn't this one, or a fault, by both of its forms
pub nowhere_at : {Next First : Type 0} {old new : Outside} {end status : Status} → (status ≡ end → ⊥) → (Next → ⊥) → (First → ⊥)
    → IsExactlyAt old new Next First end status
nowhere_at not none first = record { next = nowhere not none; first = λ untold. nowhere not first }

pub by_fault_at : {Next First : Type 0} {old new : Outside} {end status : Status} → EndsByFault status → (EndsByFault end → ⊥)
    → IsExactlyAt old new Next First end status
by_fault_at f not = record { next = by_fault_where f not; first = λ untold. by_fault_where f not }

-- where a run ends as lost, and where as refused
abbrev pub RunLost : List ℕ → (old new : Outside) → Status → Type 0
RunLost cell old new status =
    WhateverWaits old (λ slots waiting input.
    IsExactlyAt old new (AsksNext cell old new slots waiting input status × HasLostPower new.standing)
    (AsksFirst cell waiting input × HasLostPower new.standing) Lost status)

abbrev pub RunRefused : List ℕ → (old new : Outside) → Status → Refusal → Type 0
RunRefused cell old new status why =
    WhateverWaits old (λ slots waiting input.
    IsExactlyAt old new (RefusesNext cell old new slots waiting input status why)
    (RefusesFirst cell new.standing slots waiting input why) (Refused why) status)

-- where a command does
pub record LostWhere (command : CommandLine) (old new : Outside) (status : Status) (cell : List ℕ) : Type 0 where
  pub only : status ≡ Lost → NeedsInstance command × HasLostPower new.standing
  pub closing : command ≡ Checkpoint → IsExactlyWhere (HasLostPower new.standing) Lost status
  pub running : command ≡ Run → RunLost cell old new status

pub record RefusedWhere (command : CommandLine) (old new : Outside) (status : Status) (cell : List ℕ) (why : Refusal) : Type 0 where
  pub only : status ≡ Refused why → (command ≡ Run) × IsSome (told_cause why) × (HasLostPower new.standing → ⊥)
  pub running : command ≡ Run → RunRefused cell old new status why

-- another command, or another status
pub none_lost : (command : CommandLine) (old new : Outside) (status : Status) (cell : List ℕ) → (status ≡ Lost → ⊥)
    → (NeedsInstance command → ⊥) → LostWhere command old new status cell
none_lost command old new status cell not needs = record {
  only = λ is. absurd (not is);
  closing = λ e. absurd (needs (subst NeedsInstance (sym e) tt));
  running = λ e. absurd (needs (subst NeedsInstance (sym e) tt));
}

pub none_refused : (command : CommandLine) (old new : Outside) (status : Status) (cell : List ℕ) (why : Refusal)
    → (status ≡ Refused why → ⊥) → (command ≡ Run → ⊥) → RefusedWhere command old new status cell why
none_refused command old new status cell why not other = record { only = λ is. absurd (not is); running = λ e. absurd (other e) }

-- where a command ends with each status
pub record Holding (command : CommandLine) (old new : Outside) (status : Status) : Type 0 where
  pub blank : (cell : List ℕ) → IsVisible old.standing cell
      → IsExactlyWhere (NeedsInstance command × (cell ≡ blank_cell)) Blank status
  pub already : (cell : List ℕ) → old.standing.cell ≡ Some cell
      → IsExactlyWhere (StartsOne command × (cell ≢ blank_cell)) Already status
  pub unread : (cell : List ℕ) → IsVisible old.standing cell → IsExactlyWhere (CantRead cell command) Cell status
  pub kind : (cell : List ℕ) → old.standing.cell ≡ Some cell → IsExactlyWhere (FindsBasic cell command) Kind status
  pub short : (cell secrets : List ℕ) (got : ℕ) → old.standing.cell ≡ Some cell → old.entropy ≡ Some secrets
      → IsExactlyWhere (RunsShort cell secrets command × (got ≡ length secrets)) (Short got) status
  pub lost : (cell : List ℕ) → IsVisible old.standing cell → LostWhere command old new status cell
  pub refused : (cell : List ℕ) (why : Refusal) → IsVisible old.standing cell → RefusedWhere command old new status cell why

-- a command that uses no device
pub quiet_holding : (command : CommandLine) (old new : Outside) (status : Status) → tells_held status ≡ false → (NeedsInstance command → ⊥)
    → (StartsOne command → ⊥) → ((cell : List ℕ) → CantRead cell command → ⊥) → ((cell : List ℕ) → FindsBasic cell command → ⊥)
    → Holding command old new status
quiet_holding command old new status quiet needs starts reads finds =
    let unlike : (end : Status) → tells_held end ≡ true → status ≡ end → ⊥ =
    λ (end : Status) held is. let clash : true ≡ false = sym held ∙ ap tells_held (sym is) ∙ quiet in absurd (cc) in
    record {
      blank = λ cell visible. nowhere (unlike Blank refl) (λ h. needs h.0);
      already = λ cell told. nowhere (unlike Already refl) (λ h. starts h.0);
      unread = λ cell visible. nowhere (unlike Cell refl) (reads cell);
      kind = λ cell told. nowhere (unlike Kind refl) (finds cell);
      short = λ cell secrets got told left. nowhere (unlike (Short got) refl) (λ h. starts h.0.0);
      lost = λ cell visible. none_lost command old new status cell (unlike Lost refl) needs;
      refused = λ cell why visible.
          none_refused command old new status cell why (unlike (Refused why) refl) (λ e. needs (subst NeedsInstance (sym e) tt));
    }

pub played_unheld : {T : Type 0} (answer : Result T ReplayFault) → tells_held (status_of answer) ≡ false
played_unheld answer = grind arith

pub text_quiet : (r : Result (Unit {0}) write.WriteFault) (status : Status) → status ≡ status_by r → tells_held status ≡ false
text_quiet r status e = ap tells_held e ∙ text_unheld r

-- memory was wanting, or an object failed
pub fault_holding : (command : CommandLine) (old new : Outside) (status : Status) → EndsByFault status → Holding command old new status
fault_holding command old new status f = record {
  blank = λ cell visible. by_fault_where f (λ h. h);
  already = λ cell told. by_fault_where f (λ h. h);
  unread = λ cell visible. by_fault_where f (λ h. h);
  kind = λ cell told. by_fault_where f (λ h. h);
  short = λ cell secrets got told left. by_fault_where f (λ h. h);
  lost = λ cell visible. record {
    only = λ is. absurd (subst EndsByFault is f);
    closing = λ e. by_fault_where f (λ h. h);
    running = λ e slots waiting input slots_told w left. by_fault_at f (λ h. h);
  };
  refused = λ cell why visible. record {
    only = λ is. absurd (subst EndsByFault is f);
    running = λ e slots waiting input slots_told w left. by_fault_at f (λ h. h);
  };
}

-- The words spell such a command exactly where the one that they spell is such.
module _ (words : List (List ℕ)) (command : CommandLine) (spells : SpellsCommand command words) where
  pub spelled_where : {Is : CommandLine → Type 0} {More : Type 0} {end status : Status} → IsExactlyWhere (Is command × More) end status
      → IsExactlyWhere (SpellSome Is words × More) end status
  spelled_where {Is} e = record {
    only = λ is. let h = e.only is in ((command, h.0, spells), h.1);
    always = λ h. e.always (subst Is (one_command words h.0.0 command h.0.2 spells) h.0.1, h.1);
  }

  pub spelled : {Is : CommandLine → Type 0} {end status : Status} → IsExactlyWhere (Is command) end status
      → IsExactlyWhere (SpellSome Is words) end status
  spelled {Is} e = record {
    only = λ is. (command, e.only is, spells);
    always = λ h. e.always (subst Is (one_command words h.0 command h.2 spells) h.1);
  }

-- words that spell no command, or memory was wanting for them
words_unheld : (fault : WordsFault) → tells_held (words_status fault) ≡ false
words_unheld fault = grind arith

wanting : (fault : WordsFault) → ((let r : Result CommandLine WordsFault = Err fault in r ≡ Err words.Usage) → ⊥)
    → EndsByFault (words_status fault)
wanting words.Usage other = absurd (other refl)
wanting words.Memory other = tt

module _ (told : List (List ℕ)) (fault : WordsFault) (status : Status)
    (usage : (let r : Result CommandLine WordsFault = Err fault in r ≡ Err words.Usage) → SpellNone told)
    (e : status ≡ words_status fault) where
  pub unheld : (end : Status) → tells_held end ≡ true → status ≡ end → ⊥
  unheld end held is = let clash : true ≡ false = sym held ∙ ap tells_held (sym is ∙ e) ∙ words_unheld fault in absurd (cc)

  -- a command is spelled where memory was wanting alone
  wanted : {Is : CommandLine → Type 0} → SpellSome Is told → EndsByFault status
  wanted h = subst EndsByFault (sym e) (wanting fault (λ is. usage is h.0 h.2))

  pub unspelled : {Is : CommandLine → Type 0} (end : Status) → tells_held end ≡ true → IsExactlyWhere (SpellSome Is told) end status
  unspelled end held = record { only = λ is. absurd (unheld end held is); always = λ h. inr (wanted h) }

  pub unspelled_as : {Holds : Type 0} (command : CommandLine) (end : Status) → tells_held end ≡ true → SpellsCommand command told
      → IsExactlyWhere Holds end status
  unspelled_as command end held spells = record {
    only = λ is. absurd (unheld end held is);
    always = λ h. inr (wanted {Is = λ it. Unit {0}} (command, tt, spells));
  }

  pub unspelled_at : {Next First : Type 0} {old new : Outside} (command : CommandLine) (end : Status) → tells_held end ≡ true
      → SpellsCommand command told → IsExactlyAt old new Next First end status
  unspelled_at command end held spells = record {
    next = unspelled_as command end held spells;
    first = λ untold. unspelled_as command end held spells;
  }

  pub unspelled_where : {Is : CommandLine → Type 0} {More : Type 0} (end : Status) → tells_held end ≡ true
      → IsExactlyWhere (SpellSome Is told × More) end status
  unspelled_where end held = record { only = λ is. absurd (unheld end held is); always = λ h. inr (wanted h.0) }

-- What the digests at its end refuse of what a session is asked next, the program tells as refused, or as lost.

-- The instance of a cell, and where the platform stands.

-- the digests of a cell and a register; no request is counted
abbrev digests_for : Held → List ℕ → Digests
digests_for held register = record { digest = held.summary.bytes; flag = held.flag; register = register; count = 0 }

cell_again : (v : Variant) (held : Held) (it : AnyModule) (register : List ℕ) → held.variant ≡ v → FitsVariant v held.flag held.barrier
    → (meaning_of it).id ≡ held.module
    → cell_at (instance_by v (meaning_of it) held.key held.barrier) (digests_for held register) ≡ held
cell_again Basic held it register e fits id = λ j. record {
  variant = sym e j;
  «module» = id j;
  flag = held.flag;
  summary = held.summary;
  key = held.key;
  barrier = sym fits.1 j;
}
cell_again Opt held it register e fits id = λ j. record {
  variant = sym e j;
  «module» = id j;
  flag = held.flag;
  summary = held.summary;
  key = held.key;
  barrier = held.barrier;
}

variant_by : (v : Variant) (held : Held) (it : AnyModule) → (instance_by v (meaning_of it) held.key held.barrier).variant ≡ v
variant_by Basic held it = refl
variant_by Opt held it = refl

pub some_items : (o : Option (List Item)) → IsSome o → (items : List Item) × (o ≡ Some items)
some_items None some = absurd (cc)
some_items (Some items) some = (items, refl)

-- the register as a session meets it; in Basic it isn't read
known_register : (v : Variant) (before start : Standing) → IsUntouched before start → (v ≡ Opt → IsSome before.items)
    → (register : List ℕ) × RegisterStandsAt v (register_reading start) register
known_register Basic before start looked shown = ([], tt)
known_register Opt before start looked shown =
    let has = some_items before.items (shown refl) in
    let known : List Item = has.0 ++ map foreign_item looked.others in (
      register_after (item_values known),
      ap (option_map (λ xs. register_after (item_values xs)))
          (looked.items ∙ ap (λ (x : Option (List Item)). items_beside looked.others x) has.1),
    )

-- where the platform stands when its cell was read
pub record StandsFirst (i : Instance) (standing : Standing) : Type 0 where
  pub digests : Digests
  pub stands : StandsAt i standing digests

pub stands_first : (before start : Standing) (cell : List ℕ) (held : Held) (it : AnyModule) → SpellsCell cell held
    → module_of_id held.module ≡ Some it → IsUntouched before start → IsVisible before cell → StandsFirst (instance_of held it) start
stands_first before start cell held it spells found looked visible =
    let known = known_register held.variant before start looked (visible.shown held spells) in
    let register : List ℕ = known.0 in
    let same = cell_again held.variant held it register refl spells.0.variant (id_spelled held.module it found) in
    record {
      digests = digests_for held register;
      stands = record {
        spells = subst IsCell (sym same) spells.0;
        cell = looked.cell ∙ visible.told ∙ ap (λ (x : List ℕ). Some x) (spells.1 ∙ ap cell_spelling (sym same));
        reads = subst (λ (v : Variant). RegisterStandsAt v (register_reading start) register) (sym (variant_by held.variant held it))
            known.1;
      };
    }

-- Power was lost exactly where the digests show that.

both_true : (a b : Bool) → (a && b) ≡ true → (a ≡ true) × (b ≡ true)
both_true true true e = (refl, refl)
both_true true false e = absurd (cc)
both_true false b e = absurd (cc)

basic_shut : (v : Variant) (flag : Bool) (barrier : List ℕ) → FitsVariant v flag barrier → flag ≡ true → v ≡ Opt
basic_shut Basic flag barrier fits e = let clash : true ≡ false = sym e ∙ fits.0 in absurd (cc)
basic_shut Opt flag barrier fits e = refl

-- the items of a register that is told
reads_items : (items : Option (List Item)) (register : List ℕ)
    → option_map (λ xs. register_after (item_values xs)) items ≡ Some register
    → (xs : List Item) × (items ≡ Some xs) × (register_after (item_values xs) ≡ register)
reads_items None register e = absurd (cc)
reads_items (Some xs) register e = (xs, refl, cc)

module _ (i : Instance) (standing : Standing) (d : Digests) (stands : StandsAt i standing d) where
  reads_in_opt : i.variant ≡ Opt → register_reading standing ≡ Some d.register
  reads_in_opt opt = subst (λ (v : Variant). RegisterStandsAt v (register_reading standing) d.register) opt stands.reads

  pub loss_held : (d.flag && bytes_eq d.register zero_bytes) ≡ true → HasLostPower standing
  loss_held e =
      let loss = both_true d.flag (bytes_eq d.register zero_bytes) e in
      let opt : i.variant ≡ Opt = basic_shut i.variant d.flag i.barrier stands.spells.variant loss.0 in
      let known = reads_items standing.items d.register (reads_in_opt opt) in
      record {
        held = cell_at i d;
        cell = cell_spelling (cell_at i d);
        told = stands.cell;
        spells = (stands.spells, refl);
        variant = opt;
        is_open = loss.0;
        items = known.0;
        shown = known.1;
        zero = known.2 ∙ (bytes_eq-Decides d.register zero_bytes).0 loss.1;
      }

  pub loss_shown : HasLostPower standing → (d.flag && bytes_eq d.register zero_bytes) ≡ true
  loss_shown h =
      let cells : Some h.cell ≡ Some (cell_spelling (cell_at i d)) = sym h.told ∙ stands.cell in
      let cell_is : h.cell ≡ cell_spelling (cell_at i d) = cc in
      let both = reads_cell-same h.cell (Ok h.held) (Ok (cell_at i d)) h.spells (stands.spells, cell_is) in
      let same : h.held ≡ cell_at i d = cc in
      let flag : d.flag ≡ true = ap (λ (x : Held). x.flag) (sym same) ∙ h.is_open in
      let opt : i.variant ≡ Opt = ap (λ (x : Held). x.variant) (sym same) ∙ h.variant in
      let registers : Some (register_after (item_values h.items)) ≡ Some d.register =
      sym (ap (option_map (λ xs. register_after (item_values xs))) h.shown) ∙ reads_in_opt opt in
      let register : register_after (item_values h.items) ≡ d.register = cc in
      let zero : bytes_eq d.register zero_bytes ≡ true = (bytes_eq-Decides d.register zero_bytes).1 (sym register ∙ h.zero) in
      ap (λ (f : Bool). f && bytes_eq d.register zero_bytes) flag ∙ zero

-- The digests at the end refuse what is next: it is told so.

offer_told : (why : Refusal) → IsOfOffer why → why ≢ refusal.Lost → refusal_status why ≡ Refused why
offer_told refusal.Lost o not = absurd (not refl)
offer_told why o not = grind (arith, o)

pub cause_told : (why : Refusal) → IsOfOffer why → why ≢ refusal.Lost → IsSome (told_cause why)
cause_told refusal.Lost o not = absurd (not refl)
cause_told why o not = grind (arith, o)

faulty_told : (fault : SessionFault) → IsFaulty fault → EndsByFault (session_fault_status fault)
faulty_told fault f = grind (arith, f)

refusal_told : (answer : Result (Unit {0}) SessionFault) (why : Refusal) → RefusesOrFails why answer
    → (session_status answer ≡ refusal_status why) ⊎ EndsByFault (session_status answer)
refusal_told (Ok done) why f = absurd f
refusal_told (Err fault) why (inl is) = inl (ap session_fault_status is)
refusal_told (Err fault) why (inr failed) = inr (faulty_told fault failed)

module _ (old new : Outside) (status : Status) (cell : List ℕ) (visible : IsVisible old.standing cell) (slots : Slots)
    (waiting : Option PendingRecord) (input : List ℕ) (slots_told : old.kept.slots ≡ Some slots)
    (w : IsWaiting (slot_front slots 2) (slot_front slots 3) waiting) (left : old.left ≡ Some input) where
  abbrev Asks : Type 0
  Asks = AsksNext cell old new slots waiting input status

  starts_first : (asks : Asks) → StandsFirst (instance_of asks.held asks.it) asks.start
  starts_first asks = stands_first old.standing asks.start cell asks.held asks.it asks.spells asks.found asks.looked visible

  judged_always : (asks : Asks) (why : Refusal)
      → RefusesAt (instance_of asks.held asks.it) new.standing (offer_after (first_offer slots waiting) asks.told) asks.request why
      → (status ≡ refusal_status why) ⊎ EndsByFault status
  judged_always asks why r =
      let start = starts_first asks in
      let ends = next_refused asks.went slots waiting slots_told w input left asks.held.key asks.held.barrier start.digests r.digests
      start.stands r.stands why asks.request (rw (sym asks.is_told) asks.next) (rw (sym asks.is_told) r.judged) in
      rw asks.ended (refusal_told asks.answer why ends)

  pub refused_always : (why : Refusal) → RefusesNext cell old new slots waiting input status why
      → (status ≡ Refused why) ⊎ EndsByFault status
  refused_always why r =
      let i : Instance = instance_of r.asks.held r.asks.it in
      let offered = refused_as_offer i r.refuses.digests (One r.asks.request) _ why r.refuses.judged in
      elim (judged_always r.asks why r.refuses) [
        | inl e ↦ inl (e ∙ offer_told why offered r.powered)
        | inr f ↦ inr f
      ]

  pub lost_always : Asks → HasLostPower new.standing → (status ≡ Lost) ⊎ EndsByFault status
  lost_always asks h =
      let i : Instance = instance_of asks.held asks.it in
      let start = starts_first asks in
      let calls = chain_of asks.went slots waiting slots_told w in
      let ends = chain_ends asks.held.variant (meaning_of asks.it) asks.held.key asks.held.barrier (first_offer slots waiting) asks.start
      new.standing (served_calls_in waiting asks.went.goes) (IsInHand waiting asks.went.goes) asks.answer calls start.digests
      start.stands in
      judged_always asks refusal.Lost (record {
        digests = ends.digests;
        stands = ends.stands;
        judged = shown_lost i ends.digests (One asks.request) (offer_after (first_offer slots waiting) asks.told)
            (loss_shown i new.standing ends.digests ends.stands h);
      })
