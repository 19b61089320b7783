-- What happens on a side is what happens on both. With it: what an event leaves as it was for which
-- memory was wanting.
use Rattle.mm_schedule.specs.declared.event.Meddles.{Meddles}
use Rattle.mm_sides.specs.BothSides.{sides_seen_from}
use Rattle.mm_sides.specs.Folds.{BothAct, Plain}
use Rattle.mm_transfer.specs.declared.event.Command.{Command as CodeCommand}
use Rattle.mm_transfer.specs.declared.event.SideAct.{SideAct as CodeAct}
use Rattle.mm_transfer.specs.declared.event.SideAct.TheVariants as code
use Rattle.mm_transfer.specs.declared.event.SideChoice.{SideChoice as CodeWhich}
use Rattle.mm_transfer.specs.declared.event.SideChoice.TheVariants as which
use Rattle.mm_transfer.specs.declared.event.SideEvent.{SideEvent}
use Rattle.mm_transfer.specs.Events.{act_reach, outcome_of_act, AreWithin, ActDone, ActLacks, ActGoes, TransferSides, transfer_sides_in}
use Rattle.mm_transfer.specs.Events.{outcome_in, TransferSidesLackMemory}
use Rattle.mm_transfer.specs.MovePlan.{BothEventLacksMemory, MayHaveRead, AskWants, PlainWants, ActWants}
use Rattle.mm_transfer.proofs.Below.{◌≡◌, ◌∙◌, ◌^◌, ◌<◌, ℕ, List, length, Option, None, Some, Result, Ok, Err, refl, sym, ap, subst, arith}
use Rattle.mm_transfer.proofs.Below.{MatchResult, IfOk, OnOk, OnErr, sum_by, Memory, StepFault, Meddle, Stop, Instance, Digests, walk}
use Rattle.mm_transfer.proofs.Below.{course_of, meddles_of, Header, SideName, First, Second, Pair, instance_on, BothSides, sides_swapped}
use Rattle.mm_transfer.proofs.Below.{digest_mover, Moves, BothEvent, sides_after_effect_if, state_after_steps, effect_of, found_command}
use Rattle.mm_transfer.proofs.Below.{move_end_outcome, move_outcome, move_steps, outcome_if_found, MoveCommand, Accept, FoundMove}
use Rattle.mm_transfer.proofs.Below.{DenialCause, Effect, Invites, IssuedTickets, MoveReply, CodeSide, Inside, both_with}
use Rattle.mm_transfer.proofs.Below.{outcome_of_command, FitsIssuedTickets, CommandDone, CommandLacks, CommandGoes, act_of, command_of}
use Rattle.mm_transfer.proofs.Below.{command_reach, side_event_of, which_of, side_in, within_64, pair_of, move_reply_of, IsSayable, [], ◌∷◌}
use Rattle.mm_transfer.proofs.Below.{inl, inr, Reads, DeviceStep, Event, Ask, Power, Role, Live, SideState}

-- no move is answered as an event of a schedule is
told_sayable : (pair : Pair) (i : Instance) (both : BothSides Digests ℕ) (stop : Stop) (found : FoundMove) (effect : Effect)
    (had : Option Effect)
    → IsSayable (move_reply_of (move_end_outcome digest_mover pair i both stop None (Ok (record found { effect = effect })) had).reply)
told_sayable pair i both stop found (Invites nonce) had = tt
told_sayable pair i both stop found _ had = tt

ended_sayable : (pair : Pair) (i : Instance) (both : BothSides Digests ℕ) (stop : Stop) (fault : Option StepFault)
    (found : Result FoundMove DenialCause) (effect : Option Effect)
    → IsSayable (move_reply_of (move_end_outcome digest_mover pair i both stop fault found effect).reply)
ended_sayable pair i both stop (Some fault) found effect = tt
ended_sayable pair i both stop None (Err cause) effect = tt
ended_sayable pair i both stop None (Ok found) effect = told_sayable pair i both stop found found.effect effect

found_sayable : (pair : Pair) (i : Instance) (both : BothSides Digests ℕ) (meddles : List Meddle) (stop : Stop) (command : MoveCommand)
    (found : Option (Result FoundMove DenialCause))
    → IsSayable (move_reply_of (outcome_if_found digest_mover pair i both meddles stop command found).reply)
found_sayable pair i both meddles stop (Accept offer) None = tt
found_sayable pair i both meddles stop command None = tt
found_sayable pair i both meddles stop command (Some found) =
    let fates = (course_of stop meddles).fates in
    let effect = effect_of fates found in
    let here = record both
    { first = record both.first { at = state_after_steps digest_mover i both.first.at meddles stop (move_steps found) } } in
    ended_sayable pair i (sides_after_effect_if digest_mover here effect) stop (walk fates 1 (move_steps found)).broken found effect

move_sayable : (pair : Pair) (i : Instance) (both : BothSides Digests ℕ) (meddles : List Meddle) (stop : Stop) (command : MoveCommand)
    → IsSayable (move_reply_of (move_outcome digest_mover pair i both meddles stop command).reply)
move_sayable pair i both meddles stop command = found_sayable pair i both meddles stop command
    (found_command digest_mover pair i both command)

done_acts : (pair : Pair) (which : SideName) (meddles : List Meddle) (stop : Stop) (command : MoveCommand) (old new : CodeSide)
    (was now : IssuedTickets)
    (committed : ℕ) (said : MoveReply) → AreWithin (act_reach old was committed)
    → CommandDone pair which (command_reach old was) (command_reach new now)
    (outcome_of_command pair which (command_reach old was) meddles stop command) said
    → ActDone pair which (act_reach old was committed) (act_reach new now committed)
    (outcome_of_act pair which (act_reach old was committed) (Moves meddles stop command)) said
done_acts pair which meddles stop command old new was now committed said w d =
    let counts = d.counts committed w.side w.away in
    record {
      fits = d.fits;
      between = d.between;
      within = record { side = counts.0; away = counts.1 };
      both = λ other. d.both other committed;
      says = λ other. d.says other committed;
      sayable = subst IsSayable (sym (d.says (side_in old) committed))
          (move_sayable pair (instance_on pair which) (both_with old was (side_in old) committed) meddles stop command);
      rises = omega arith;
      few = omega arith;
      issued = d.issued;
      tickets = d.tickets;
    }

lacks_acts : (pair : Pair) (which : SideName) (meddles : List Meddle) (stop : Stop) (command : MoveCommand) (old new : CodeSide)
    (was now : IssuedTickets) (committed : ℕ) → FitsIssuedTickets was → AreWithin (act_reach old was committed)
    → CommandLacks pair which meddles stop (command_reach old was) (command_reach new now)
    → ActLacks pair which (Moves meddles stop command) (act_reach old was committed) (act_reach new now committed)
lacks_acts pair which meddles stop command old new was now committed f w l =
    let same = l.committed in
    let away = l.away in
    let less = w.side in
    let less_away = w.away in
    let kept = l.kept in
    record {
      fits = l.fits;
      between = kept ∙ f ∙ ap (λ (x : List (List ℕ)). within_64 (sum_by length x)) (sym l.tickets);
      within = record { side = omega (arith, same, less); away = omega (arith, away, less_away) };
      side = l.side;
      away = l.away;
      tickets = l.tickets;
      same = refl;
    }

command_acts : (pair : Pair) (which : SideName) (meddles : List Meddle) (stop : Stop) (command : MoveCommand) (old new : CodeSide)
    (was now : IssuedTickets) (committed : ℕ) (result : Result MoveReply Memory) → CommandGoes pair which meddles stop command
    (command_reach old was) (command_reach new now) result
    → ActGoes pair which (Moves meddles stop command) (act_reach old was committed) (act_reach new now committed) result
command_acts pair which meddles stop command old new was now committed (Ok said) c =
    λ f b w few. done_acts pair which meddles stop command old new was now committed said w (c f b)
command_acts pair which meddles stop command old new was now committed (Err fault) c =
    λ f b w few. lacks_acts pair which meddles stop command old new was now committed b w (c f b)

pub moves_acts : (pair : Pair) (which : SideName) (act : CodeAct) (meddles : Meddles) (listed : List Meddle) (stop : Stop)
    (command : CodeCommand) (old new : CodeSide) (was now : IssuedTickets) (committed : ℕ) (result : Result MoveReply Memory)
    → act ≡ code.Moves meddles stop command
    → listed ≡ meddles_of meddles
    → CommandGoes pair which listed stop (command_of command) (command_reach old was) (command_reach new now) result
    → ActGoes pair which (act_of act) (act_reach old was committed) (act_reach new now committed) result
moves_acts pair which act meddles listed stop command old new was now committed result is lists c =
    let done = command_acts pair which listed stop (command_of command) old new was now committed result c in
    let before = act_reach old was committed in
    let after = act_reach new now committed in
    let listing = subst (λ (m : List Meddle). ActGoes pair which (Moves m stop (command_of command)) before after result) lists done in
    subst (λ (a : CodeAct). ActGoes pair which (act_of a) before after result) (sym is) listing

-- An event has come to what it comes to on both sides, and was answered so.
pub record Comes (held : TransferSides) (event : BothEvent) (new : BothSides Digests ℕ) (result : Result MoveReply Memory) : Type 0 where
  pub reply : IfOk result (λ reply. reply ≡ move_reply_of (outcome_in held event).reply)
  pub after : OnOk result (new ≡ (outcome_in held event).both)
  pub wants : OnErr result (BothEventLacksMemory (pair_of held.header) event held.both new)

first_comes : (header : Header) (first first' second : CodeSide) (between between' : IssuedTickets)
    (committed committed' : ℕ) (act : BothAct)
    (result : Result MoveReply Memory) → MatchResult result
    (ActDone (pair_of header) First (act_reach first between committed) (act_reach first' between' committed')
    (outcome_of_act (pair_of header) First (act_reach first between committed) act))
    (λ fault. ActLacks (pair_of header) First act (act_reach first between committed) (act_reach first' between' committed'))
    → Comes (transfer_sides_in header first second between committed) (record { which = First; act = act })
    (both_with first' between' (side_in second) committed') result
first_comes header first first' second between between' committed committed' act (Ok said) d =
    record { reply = d.says (side_in second); after = d.both (side_in second); wants = tt }
first_comes header first first' second between between' committed committed' act (Err fault) d = record {
  reply = tt;
  after = tt;
  wants = record {
    here = d.side;
    rest = λ j. record {
      first = side_in first';
      second = side_in second;
      away = d.away j;
      tickets = d.tickets j;
      committed = d.same j;
    };
  };
}

second_comes : (header : Header) (first second second' : CodeSide) (between between' : IssuedTickets)
    (committed committed' : ℕ) (act : BothAct)
    (result : Result MoveReply Memory) → MatchResult result
    (ActDone (pair_of header) Second (act_reach second between committed) (act_reach second' between' committed')
    (outcome_of_act (pair_of header) Second (act_reach second between committed) act))
    (λ fault. ActLacks (pair_of header) Second act (act_reach second between committed) (act_reach second' between' committed'))
    → Comes (transfer_sides_in header first second between committed) (record { which = Second; act = act })
    (both_with first between' (side_in second') committed') result
second_comes header first second second' between between' committed committed' act (Ok said) d = record {
  reply = d.says (side_in first);
  after = ap (λ (both : BothSides Digests ℕ). sides_swapped both) (d.both (side_in first));
  wants = tt;
}
second_comes header first second second' between between' committed committed' act (Err fault) d = record {
  reply = tt;
  after = tt;
  wants = record {
    here = d.side;
    rest = λ j. record {
      first = side_in second';
      second = side_in first;
      away = d.away j;
      tickets = d.tickets j;
      committed = d.same j;
    };
  };
}

-- an event on either side, as the code has followed it
pub event_first : (old : Inside) (held : TransferSides) (event : SideEvent) (new : BothSides Digests ℕ) (here : CodeSide)
    (between : IssuedTickets)
    (committed : ℕ) (result came : Result MoveReply Memory) → transfer_sides_in old.header old.first old.second old.between old.committed
    ≡ held
    → held.both.committed < 2 ^ 63 → event.which ≡ which.First → result ≡ came → new ≡ both_with here between (side_in old.second) committed
    → ActGoes (pair_of old.first.seat.header) First (act_of event.act) (act_reach old.first old.between old.committed)
    (act_reach here between committed) came
    → Comes held (side_event_of event) new result
event_first old held event new here between committed result came view few is came_is now acts =
    let act = act_of event.act in
    let here_acts = subst (λ (h : Header). ActGoes (pair_of h) First act (act_reach old.first old.between old.committed)
    (act_reach here between committed) came)
    old.first_headed acts in
    let within : AreWithin (act_reach old.first old.between old.committed) = record { side = old.first_within; away = old.away_within } in
    let room = subst (λ (h : TransferSides). h.both.committed < 2 ^ 63) (sym view) few in
    let comes = first_comes old.header old.first here old.second old.between between old.committed committed act came
    (here_acts old.first_fits old.between_fits within room) in
    let event : BothEvent = record { which = First; act = act } in
    let held_comes = subst (λ (h : TransferSides). Comes h event (both_with here between (side_in old.second) committed) came) view comes in
    let new_comes = subst (λ (both : BothSides Digests ℕ). Comes held event both came) (sym now) held_comes in
    let result_comes = subst (λ (r : Result MoveReply Memory). Comes held event new r) (sym came_is) new_comes in
    subst (λ (w : CodeWhich). Comes held (record { which = which_of w; act = act }) new result) (sym is) result_comes

pub event_second : (old : Inside) (held : TransferSides) (event : SideEvent) (new : BothSides Digests ℕ) (here : CodeSide)
    (between : IssuedTickets)
    (committed : ℕ) (result came : Result MoveReply Memory) → transfer_sides_in old.header old.first old.second old.between old.committed
    ≡ held
    → held.both.committed < 2 ^ 63 → event.which ≡ which.Second → result ≡ came → new ≡ both_with old.first between (side_in here) committed
    → ActGoes (pair_of old.second.seat.header) Second (act_of event.act) (act_reach old.second old.between old.committed)
    (act_reach here between committed) came
    → Comes held (side_event_of event) new result
event_second old held event new here between committed result came view few is came_is now acts =
    let act = act_of event.act in
    let here_acts = subst (λ (h : Header). ActGoes (pair_of h) Second act (act_reach old.second old.between old.committed)
    (act_reach here between committed) came)
    old.second_headed acts in
    let within : AreWithin (act_reach old.second old.between old.committed) = record { side = old.second_within; away = old.away_within } in
    let room = subst (λ (h : TransferSides). h.both.committed < 2 ^ 63) (sym view) few in
    let comes = second_comes old.header old.first old.second here old.between between old.committed committed act came
    (here_acts old.second_fits old.between_fits within room) in
    let event : BothEvent = record { which = Second; act = act } in
    let held_comes = subst (λ (h : TransferSides). Comes h event (both_with old.first between (side_in here) committed) came) view comes in
    let new_comes = subst (λ (both : BothSides Digests ℕ). Comes held event both came) (sym now) held_comes in
    let result_comes = subst (λ (r : Result MoveReply Memory). Comes held event new r) (sym came_is) new_comes in
    subst (λ (w : CodeWhich). Comes held (record { which = which_of w; act = act }) new result) (sym is) result_comes

-- What an event leaves as it was for which memory was wanting.

-- by what both are
pub held_wants : (old : TransferSides) (event : BothEvent) (header : Header) (new : BothSides Digests ℕ) (result : Result MoveReply Memory)
    → header ≡ old.header → OnErr result (BothEventLacksMemory (pair_of old.header) event old.both new)
    → OnErr result (TransferSidesLackMemory event old (record { header = header; both = new }))
held_wants old event header new (Ok reply) is w = tt
held_wants old event header new (Err memory) is w = record { header = is; both = w }

-- no snapshot was issued on the side

read_issues : (i : Instance) (steps : List DeviceStep) (meddles : List Meddle) (stop : Stop) (old new : SideState Digests)
    → MayHaveRead i steps meddles stop old new → new.issued ≡ old.issued
read_issues i steps meddles stop old new w =
    elim w [ inl e ↦ ap (λ (s : SideState Digests). s.issued) e | inr e ↦ ap (λ (s : SideState Digests). s.issued) e ]

ask_issues : (i : Instance) (role : Role) (meddles : List Meddle) (stop : Stop) (old new : SideState Digests)
    → AskWants i role meddles stop old new → new.issued ≡ old.issued
ask_issues i Live meddles stop old new w = read_issues i _ meddles stop old new w
ask_issues i role meddles stop old new w = ap (λ (s : SideState Digests). s.issued) w

plain_issues : (i : Instance) (event : Event) (old new : SideState Digests) → PlainWants i event old new → new.issued ≡ old.issued
plain_issues i (Ask meddles stop offer b) old new w = ask_issues i old.role meddles stop old new w
plain_issues i Power old new w = absurd w
plain_issues i event old new w = ap (λ (s : SideState Digests). s.issued) w

act_issues : (i : Instance) (act : BothAct) (old new : SideState Digests) → ActWants i act old new → new.issued ≡ old.issued
act_issues i (Plain event) old new w = plain_issues i event old new w
act_issues i (Moves meddles stop command) old new w = read_issues i (Reads ∷ []) meddles stop old new w

-- what counts against the limits is as it was
pub record CountsSame (old new : BothSides Digests ℕ) : Type 0 where
  pub first : new.first.issued ≡ old.first.issued
  pub second : new.second.issued ≡ old.second.issued
  pub tickets : new.tickets ≡ old.tickets
  pub committed : new.committed ≡ old.committed

counts_by : (i : Instance) (which : SideName) (act : BothAct) (old new : BothSides Digests ℕ)
    → ActWants i act (sides_seen_from which old).first (sides_seen_from which new).first
    → sides_seen_from which new ≡ record (sides_seen_from which old) { first = (sides_seen_from which new).first } → CountsSame old new
counts_by i First act old new w e = record {
  first = act_issues i act old.first new.first w;
  second = ap (λ (b : BothSides Digests ℕ). b.second.issued) e;
  tickets = ap (λ (b : BothSides Digests ℕ). b.tickets) e;
  committed = ap (λ (b : BothSides Digests ℕ). b.committed) e;
}
counts_by i Second act old new w e = record {
  first = ap (λ (b : BothSides Digests ℕ). b.second.issued) e;
  second = act_issues i act old.second new.second w;
  tickets = ap (λ (b : BothSides Digests ℕ). b.tickets) e;
  committed = ap (λ (b : BothSides Digests ℕ). b.committed) e;
}

pub counts_same : (pair : Pair) (event : BothEvent) (old new : BothSides Digests ℕ) → BothEventLacksMemory pair event old new
    → CountsSame old new
counts_same pair event old new w = counts_by (instance_on pair event.which) event.which event.act old new w.here w.rest
