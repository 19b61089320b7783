-- The opening of slots ends; and each event that is followed is one more.
use Rattle.std.specs.Prelude.{◌≡◌, ℕ, ◌+◌, ◌-◌, ◌<◌, ◌^◌, Bool, true, false, min, nat_lt, List, [], ◌∷◌, ◌++◌, length, Option, None, Some}
use Rattle.std.specs.Prelude.{if◌then◌else◌}
use Rattle.std.specs.Option.{option_map}
use Rattle.std.proofs.Common.{refl, sym, ap, subst, arith, length-append}
use Rattle.std.proofs.lemmas.Bool.Decides.{nat_tests}
use Rattle.mm_schedule.specs.declared.header.Header.{Header}
use Rattle.mm_schedule.specs.Headers.{header_of_words}
use Rattle.mm_play.specs.Headline.{HeadingStep, More, Begins}
use Rattle.mm_play.specs.Stage.{heading_step_by, answer_by}
use Rattle.mm_play.specs.StageLaws.{same_stage}
use Rattle.mm_slots.specs.declared.event.SlotEvent.{SlotEvent}
use Rattle.mm_slots.specs.Stage.{slot_count_at, event_at, SlotsState, OpeningStage, AtFirst, AtHeads, slots_state_after, are_to_come}
use Rattle.mm_slots.specs.Stage.{first_slots_state, remaining_heads, slots_steps, slots_heads, slots_stage}

-- a line leads to more lines of the opening
abbrev LeadsTo : Option (HeadingStep OpeningStage (List Header)) → OpeningStage → Type 0
LeadsTo found next =
    (let x : Option (HeadingStep OpeningStage SlotsState) = heading_step_by first_slots_state found in x ≡ Some (More next))

same_opening : (at next : OpeningStage)
    → (let x : Option (HeadingStep OpeningStage SlotsState) = Some (More at) in x ≡ Some (More next)) → at ≡ next
same_opening at next h = cc

first_left : (found : Option ℕ) (next : OpeningStage)
    → LeadsTo (option_map (λ count. More (AtHeads count [])) found) next → remaining_heads next < 17
first_left None next h = cc
first_left (Some count) next h =
    subst (λ (at : OpeningStage). remaining_heads at < 17) (same_opening (AtHeads count []) next h)
    (omega arith)

head_left : (count : ℕ) (before headers : List Header) (more : Bool) (next : OpeningStage)
    → are_to_come count headers ≡ more → length headers ≡ length before + 1
    → LeadsTo (Some (if more then More (AtHeads count headers) else Begins headers)) next
    → remaining_heads next < 16 - length before
head_left count before headers true next is one h =
    let few : length headers < min count 16 = grind (arith, nat_tests) in
    subst (λ (at : OpeningStage). remaining_heads at < 16 - length before)
    (same_opening (AtHeads count headers) next h) (omega (arith, few, one))
head_left count before headers false next is one h = cc

heads_by : (count : ℕ) (before : List Header) (found : Option Header) (next : OpeningStage)
    → LeadsTo (option_map (λ header.
    if nat_lt (length (before ++ header ∷ [])) (min count 16) then More (AtHeads count (before ++ header ∷ []))
    else Begins (before ++ header ∷ [])) found) next → remaining_heads next < 16 - length before
heads_by count before None next h = cc
heads_by count before (Some header) next h =
    let all = before ++ header ∷ [] in
    head_left count before all (are_to_come count all) next refl (length-append before (header ∷ []))
    h

pub openings_fall : (it next : OpeningStage) (line : List ℕ)
    → slots_heads.behind it line ≡ Some (More next)
    → slots_heads.left next < slots_heads.left it
openings_fall AtFirst next line h = first_left (slot_count_at line) next h
openings_fall (AtHeads count headers) next line h = heads_by count headers (header_of_words line) next h

pub openings_few : (it : OpeningStage) → slots_heads.left it < 2 ^ 30
openings_few AtFirst = omega arith
openings_few (AtHeads count headers) = omega arith

counts_by : (it next : SlotsState) (found : Option SlotEvent) (reply : List ℕ)
    → answer_by slots_steps it found ≡ Some (reply, next) → next.events ≡ it.events + 1
counts_by it next None reply h = cc
counts_by it next (Some event) reply h =
    ap (λ (r : SlotsState). r.events)
    (sym (same_stage (slots_steps.reply it event) reply (slots_state_after it event) next h))

pub counts_on : (it next : SlotsState) (line reply : List ℕ)
    → slots_stage.answer it line ≡ Some (reply, next)
    → slots_stage.events next ≡ slots_stage.events it + 1
counts_on it next line reply h = counts_by it next (event_at (length it.rows) line) reply h
