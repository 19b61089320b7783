-- What a move that was found makes of a side's cell, and what it gives. With it: what an event
-- comes to where the module isn't.
use Rattle.mm_model.specs.ListLaws.{each_append}
use Rattle.mm_model.specs.Moves.{is_long}
use Rattle.mm_model.specs.declared.refusal.Refusal.TheVariants as core
use Rattle.mm_call.specs.CallOutcome.{position_if_committed}
use Rattle.mm_move.specs.declared.refusal.MoveRefusal.TheVariants as refusal
use Rattle.mm_schedule.specs.declared.reply.Cause.TheVariants as cause
use Rattle.mm_schedule.specs.declared.reply.Reply.TheVariants as reply
use Rattle.mm_schedule.specs.declared.reply.Way.{Way}
use Rattle.mm_transfer.specs.RoleCells.{cell_after}
use Rattle.mm_transfer.proofs.Below.{◌≡◌, ◌∙◌, ◌+◌, ℕ, List, [], ◌∷◌, ◌++◌, map, Option, None, Some, Err, refl, ap, append-nil, Bool, true}
use Rattle.mm_transfer.proofs.Below.{false, if◌then◌else◌, Batch, One, Meddle, Stop, Instance, Digests, digests_after, Move, Commit}
use Rattle.mm_transfer.proofs.Below.{Foreign, PowerMove, DeviceStep, Reads, Refusal, StepsWalk, End, Done, Fails, StepFate, walk_from_step}
use Rattle.mm_transfer.proofs.Below.{has_commit, call_outcome_by, moves_seen, digest_level, state_after_moves, Event, Ask, Checkpoint}
use Rattle.mm_transfer.proofs.Below.{Power, Extend, IsPrintable, Reply, Outcome, course_of, vain_event_outcome, offered_bytes, way_of}
use Rattle.mm_transfer.proofs.Below.{moves_after_stop, outcome_without_call, read_only_outcome, vain_ask_outcome, outcome_by, broken_reply}
use Rattle.mm_transfer.proofs.Below.{any_value, AreOuter, IsOuter, foreign_outer, stop_outer, Result, Ok, sym, subst, StepFault, Standing}
use Rattle.mm_transfer.proofs.Below.{register_reading, walk, IsQuiet, ReadyMove, MoveRefusal, Role, Effect, digest_mover, DenialCause}
use Rattle.mm_transfer.proofs.Below.{FoundMove, move_steps, is_moved, effect_if, effect_of, state_after_steps, bytes_if_written}
use Rattle.mm_transfer.proofs.Below.{move_answer_of, MakesMove, cell_of_role, refusal_of, next_cell_if, MatchesRole, Memory, MoveReply}
use Rattle.mm_transfer.proofs.Below.{Denied, Refused, move_reply_of, TellsRefusalAs, has_moved, FitsEffect, FitsLive, IsSaid, Invites}
use Rattle.mm_transfer.proofs.Below.{Leaves, Enters, role_after, SideName, Pair, instance_on, SideState, stopped_moves}
use Rattle.mm_transfer.proofs.Below.{sides_after_effect_if, found_outer, stopped_outer, CodeSide, link_of, FitsRole, FitsCell, ◌≤◌}
use Rattle.mm_transfer.proofs.Below.{BothSides}
use Rattle.mm_transfer.proofs.SideStands.{fits_linked, cell_reading, fits_reading, KeepsFor, keeps_reading, IsSide, side_is}

-- What an event comes to where the module isn't: the register alone changes.

-- values of others and losses of power change the register alone

abbrev pub IsRegister : Digests → Digests → Type 0
IsRegister d d' = d' ≡ record d { register = d'.register }

abbrev Any : List ℕ → Type 0
Any v = Unit {0}

pub outer_digests : (P : List ℕ → Type 0) (i : Instance) (moves : List Move) (d : Digests) → AreOuter P moves
    → IsRegister d (state_after_moves (digest_level i) d moves)
outer_digests P i [] d h = refl
outer_digests P i (Foreign v ∷ moves) d h = outer_digests P i moves (digests_after i d (Foreign v)) h.1
outer_digests P i (PowerMove ∷ moves) d h = outer_digests P i moves (digests_after i d PowerMove) h.1
outer_digests P i (Commit b ∷ moves) d h = absurd h.0
outer_digests P i _ d h = absurd h.0

brought_outer : (fate : StepFate) → AreOuter Any (map Foreign fate.brings)
brought_outer fate = foreign_outer Any fate.brings (any_value fate.brings)

pub seen_digests : (i : Instance) (d : Digests) (fates : ℕ → StepFate) (steps : List DeviceStep) (n : ℕ)
    → IsRegister d (state_after_moves (digest_level i) d (moves_seen fates steps n))
seen_digests i d fates steps n = outer_digests Any i (moves_seen fates steps n) d (seen_outer steps n)
  where
    seen_outer : (steps : List DeviceStep) (n : ℕ) → AreOuter Any (moves_seen fates steps n)
    seen_outer [] n = tt
    seen_outer (step ∷ steps) n =
        each_append (IsOuter Any) (map Foreign (fates n).brings) (moves_seen fates steps (n + 1)) (brought_outer (fates n))
        (seen_outer steps (n + 1))

-- what an event in vain comes to

-- Nothing is issued, the reply can be printed, and the register alone has changed.
pub record IsVain (d : Digests) (before : List (List ℕ)) (o : Outcome Digests) : Type 0 where
  pub state : IsRegister d o.state
  pub issued : o.issued ≡ before
  pub printable : IsPrintable o.reply

then_made : (i : Instance) (d mid : Digests) (moves : List Move) → IsRegister d mid → AreOuter Any moves
    → IsRegister d (state_after_moves (digest_level i) mid moves)
then_made i d mid moves is are =
    let after : Digests = state_after_moves (digest_level i) mid moves in
    outer_digests Any i moves mid are ∙ ap (λ (x : Digests). record x { register = after.register }) is

kept_printed : (how : Way) (kept : Option ℕ) → IsPrintable (broken_reply how kept)
kept_printed how None = tt
kept_printed how (Some position) = tt

read_vain : (i : Instance) (d : Digests) (issued : List (List ℕ)) (stop : Stop) (why : Refusal) (fate : StepFate) (ends : End)
    → fate.ends ≡ ends → (let nothing : StepsWalk = record { moves = []; steps = 0; writes = 0; broken = None } in
    IsVain d issued (outcome_by (digest_level i) stop issued
    (call_outcome_by (digest_level i) d d (One []) (Err why) (walk_from_step Reads fate.brings ends nothing))))
read_vain i d issued stop why fate Done is = record {
  state = outer_digests Any i (map Foreign fate.brings ++ []) d
      (each_append (IsOuter Any) (map Foreign fate.brings) [] (brought_outer fate) tt);
  issued = append-nil issued;
  printable = tt;
}
read_vain i d issued stop why fate (Fails why_broken is_made) is = record {
  state = then_made i d _ (moves_after_stop stop) (outer_digests Any i (map Foreign fate.brings) d (brought_outer fate))
      (stop_outer Any stop);
  issued = append-nil issued;
  printable = kept_printed (way_of stop) (position_if_committed (has_commit (map Foreign fate.brings)) 0);
}

reads_vain : (i : Instance) (d : Digests) (issued : List (List ℕ)) (meddles : List Meddle) (stop : Stop) (why : Refusal)
    → IsVain d issued (read_only_outcome (digest_level i) d issued meddles stop why)
reads_vain i d issued meddles stop why =
    read_vain i d issued stop why ((course_of stop meddles).fates 1) ((course_of stop meddles).fates 1).ends refl

uncalled_vain : (d : Digests) (issued : List (List ℕ)) (said : Reply) → IsPrintable said
    → IsVain d issued (outcome_without_call d issued said)
uncalled_vain d issued said p = record { state = refl; issued = refl; printable = p }

ask_vain : (i : Instance) (d : Digests) (issued : List (List ℕ)) (meddles : List Meddle) (stop : Stop) (why : Refusal) (long : Bool)
    → IsVain d issued (if long then outcome_without_call d issued (reply.No cause.Long) else read_only_outcome (digest_level i) d issued
    meddles stop why)
ask_vain i d issued meddles stop why true = uncalled_vain d issued _ tt
ask_vain i d issued meddles stop why false = reads_vain i d issued meddles stop why

asked_vain : (i : Instance) (d : Digests) (issued : List (List ℕ)) (meddles : List Meddle) (stop : Stop) (why : Refusal)
    (bytes : Option (List ℕ)) (b : Batch) → IsVain d issued (vain_ask_outcome (digest_level i) d issued meddles stop why bytes b)
asked_vain i d issued meddles stop why None b = uncalled_vain d issued _ tt
asked_vain i d issued meddles stop why (Some bytes) b = ask_vain i d issued meddles stop why (is_long b)

pub event_vain : (i : Instance) (d : Digests) (issued : List (List ℕ)) (why : Refusal) (event : Event)
    → IsVain d issued (vain_event_outcome (digest_level i) d issued why event)
event_vain i d issued why (Ask meddles stop offer b) = asked_vain i d issued meddles stop why (offered_bytes issued offer) b
event_vain i d issued why (Checkpoint meddles stop) = reads_vain i d issued meddles stop why
event_vain i d issued why Power = record { state = refl; issued = refl; printable = tt }
event_vain i d issued why (Extend value) = record { state = refl; issued = refl; printable = tt }

-- What a move that was found makes of a side's cell, and what it gives; where the side stands then.

-- what a move that was found makes of the cell, and what it gives

-- the cell of a side after a move, by the effect that it had
abbrev pub cell_if : Instance → Role → Digests → Option Effect → List ℕ
cell_if i role d None = cell_of_role i role d
cell_if i role d (Some effect) = cell_after i d effect

abbrev pub CameAs : {A : Type 0} → (FoundMove → A → Type 0) → Option StepFault → Result FoundMove DenialCause → Result A MoveRefusal
    → Type 0
CameAs gives (Some fault) found came = came ≡ Err (refusal.Core (core.Device fault))
CameAs gives None (Err cause) came = came ≡ Err (refusal_of cause)
CameAs {A} gives None (Ok found) came = (answer : A) × (came ≡ Ok answer) × gives found answer

-- What is known of a move that was found, whether it was broken off or not.
pub record Knows {A : Type 0} (gives : FoundMove → A → Type 0) (role : Role) (d : Digests) (found : FoundMove) : Type 0 where
  pub answer : A
  pub gave : gives found answer
  pub fits : FitsEffect d found.effect
  pub live : FitsLive role found.again found.effect

abbrev pub KnowsOf : {A : Type 0} → (FoundMove → A → Type 0) → Role → Digests → Result FoundMove DenialCause → Type 0
KnowsOf gives role d (Ok found) = Knows gives role d found
KnowsOf gives role d (Err cause) = IsSaid cause

pub record Came {A : Type 0} (gives : FoundMove → A → Type 0) (i : Instance) (role : Role) (d : Digests) (stop : Stop)
    (meddles : List Meddle)
    (found : Result FoundMove DenialCause) (new : Standing) (came : Result A MoveRefusal) : Type 0 where
  pub cell : new.cell ≡ Some (cell_if i role d (effect_of (course_of stop meddles).fates found))
  pub register : register_reading new ≡ Some (state_after_steps digest_mover i d meddles stop (move_steps found)).register
  pub quiet : IsQuiet new
  pub says : CameAs gives (walk (course_of stop meddles).fates 1 (move_steps found)).broken found came
  pub knows : KnowsOf gives role d found

module _ {A : Type 0} (gives : FoundMove → A → Type 0) (i : Instance) (role : Role) (d : Digests) (stop : Stop) (meddles : List Meddle)
    (new : Standing) (came : Result A MoveRefusal) where
  refused_came : (cause : DenialCause) (broken : Option StepFault) → came ≡ move_answer_of broken (Err (refusal_of cause))
      → CameAs gives broken (Err cause) came
  refused_came cause None e = e
  refused_came cause (Some fault) e = e

  found_came : (found : FoundMove) (next : Option (List ℕ)) (answer : A) (broken : Option StepFault)
      → came ≡ move_answer_of broken (Ok (record { next = next; answer = answer })) → gives found answer
      → CameAs gives broken (Ok found) came
  found_came found next answer None e g = (answer, e, g)
  found_came found next answer (Some fault) e g = e

  written_cell : (moved : Bool) (effect : Effect)
      → Some (bytes_if_written (Some (cell_after i d effect)) moved (cell_of_role i role d))
      ≡ Some (cell_if i role d (effect_if moved effect))
  written_cell true effect = refl
  written_cell false effect = refl

  found_by : (again : Bool) (effect : Effect) (next : Option (List ℕ)) (answer : A) → next ≡ next_cell_if again (cell_after i d effect)
      → gives (record { again = again; effect = effect }) answer → FitsEffect d effect → FitsLive role again effect
      → MakesMove i d stop meddles (cell_of_role i role d) (Ok (record { next = next; answer = answer })) new came
      → Came gives i role d stop meddles (Ok (record { again = again; effect = effect })) new came
  found_by true effect next answer is g fits live made =
      let m : MakesMove i d stop meddles (cell_of_role i role d) (Ok (record { next = None; answer = answer })) new came =
      subst (λ (n : Option (List ℕ)). MakesMove i d stop meddles (cell_of_role i role d) (Ok (record { next = n; answer = answer })) new
      came) is made in
      record {
        cell = m.cell;
        register = m.register;
        quiet = m.quiet;
        says = found_came (record { again = true; effect = effect }) None answer _ m.says g;
        knows = record { answer = answer; gave = g; fits = fits; live = live };
      }
  found_by false effect next answer is g fits live made =
      let after : List ℕ = cell_after i d effect in
      let fates = (course_of stop meddles).fates in
      let m : MakesMove i d stop meddles (cell_of_role i role d) (Ok (record { next = Some after; answer = answer })) new came =
      subst (λ (n : Option (List ℕ)). MakesMove i d stop meddles (cell_of_role i role d) (Ok (record { next = n; answer = answer })) new
      came) is made in
      record {
        cell = m.cell ∙ written_cell (is_moved (fates 1).ends (fates 2).ends) effect;
        register = m.register;
        quiet = m.quiet;
        says = found_came (record { again = false; effect = effect }) (Some after) answer _ m.says g;
        knows = record { answer = answer; gave = g; fits = fits; live = live };
      }

  pub came_by : (expected : Result (ReadyMove A) MoveRefusal) (found : Result FoundMove DenialCause)
      → MatchesRole gives i role d expected found
      → MakesMove i d stop meddles (cell_of_role i role d) expected new came → Came gives i role d stop meddles found new came
  came_by (Err why) (Err cause) match made =
      let m : MakesMove i d stop meddles (cell_of_role i role d) (Err (refusal_of cause)) new came =
      subst (λ (w : MoveRefusal). MakesMove {A = A} i d stop meddles (cell_of_role i role d) (Err w) new came) match.0 made in
      record { cell = m.cell; register = m.register; quiet = m.quiet; says = refused_came cause _ m.says; knows = match.1 }
  came_by (Err why) (Ok found) match made = absurd match
  came_by (Ok ready) (Err cause) match made = absurd match
  came_by (Ok ready) (Ok found) match made =
      found_by found.again found.effect ready.next ready.answer match.next match.answer match.fits match.live made

-- how a cause is told

pub said_cause : (stop : Stop) (cause : DenialCause) (result : Result MoveReply Memory) → IsSaid cause
    → TellsRefusalAs stop (refusal_of cause) result → result ≡ Ok (move_reply_of (Denied cause))
said_cause stop (Refused core.Memory) result is e = absurd is
said_cause stop (Refused (core.Device fault)) result is e = absurd is
said_cause stop (Refused core.Lost) result is e = e
said_cause stop _ result is e = e

pub never_moved : (stop : Stop) (cause : DenialCause) → IsSaid cause → has_moved stop (refusal_of cause) ≡ false
never_moved stop (Refused core.Memory) is = absurd is
never_moved stop (Refused (core.Device fault)) is = absurd is
never_moved stop (Refused core.Lost) is = refl
never_moved stop _ is = refl

-- others change the register alone

pub brought_digests : (i : Instance) (d : Digests) (stop : Stop) (meddles : List Meddle) (found : Result FoundMove DenialCause)
    → state_after_steps digest_mover i d meddles stop (move_steps found)
    ≡ record d { register = (state_after_steps digest_mover i d meddles stop (move_steps found)).register }
brought_digests i d stop meddles found =
    let P : List ℕ → Type 0 = λ v. Unit {0} in
    let fates = (course_of stop meddles).fates in
    let walked = walk fates 1 (move_steps found) in
    let z : Digests = state_after_moves (digest_level i) d walked.moves in
    let end : Digests = state_after_moves (digest_level i) z (stopped_moves stop walked.broken) in
    outer_digests P i (stopped_moves stop walked.broken) z (stopped_outer P stop walked.broken)
    ∙ ap (λ (x : Digests). record x { register = end.register })
    (outer_digests P i walked.moves d (found_outer P fates found (λ n. any_value (fates n).brings)))

-- what an effect makes of a side, and of what is kept of where the module left

abbrev pub role_then : Role → Option Effect → Role
role_then role None = role
role_then role (Some effect) = role_after effect

abbrev pub at_then : ℕ → Digests → Option Effect → Digests
at_then away d (Some (Enters ticket)) = digest_mover.enters d away ticket.content
at_then away d effect = d

abbrev pub away_then : ℕ → Digests → Option Effect → ℕ
away_then away d (Some (Leaves ticket)) = d.count
away_then away d effect = away

-- both sides, of which the first is so
abbrev pub both_of : (role : Role) (at : Digests) (issued tickets : List (List ℕ)) (other : SideState Digests) (away committed : ℕ)
    → BothSides Digests ℕ
both_of role at issued tickets other away committed = record {
  first = record { role = role; at = at; issued = issued };
  second = other;
  away = away;
  tickets = tickets;
  committed = committed;
}

pub affected_is : (role : Role) (at : Digests) (issued tickets : List (List ℕ)) (other : SideState Digests) (away committed : ℕ)
    (effect : Option Effect) → sides_after_effect_if digest_mover (both_of role at issued tickets other away committed) effect
    ≡ both_of (role_then role effect) (at_then away at effect) issued tickets other (away_then away at effect) committed
affected_is role at issued tickets other away committed (Some (Invites nonce)) = refl
affected_is role at issued tickets other away committed _ = refl

-- no count is greater than the greater of both was
pub within_then : (d : Digests) (away most : ℕ) (effect : Option Effect) → d.count ≤ most → away ≤ most
    → ((at_then away d effect).count ≤ most) × (away_then away d effect ≤ most)
within_then d away most (Some (Enters ticket)) p q = (q, q)
within_then d away most (Some (Leaves ticket)) p q = (p, p)
within_then d away most _ p q = (p, q)

-- a side with another value in its register
abbrev reading : Digests → List ℕ → Digests
reading d register = record d { register = register }

cell_then : (i : Instance) (role : Role) (d : Digests) (register : List ℕ) (away : ℕ) (effect : Option Effect)
    → cell_if i role d effect ≡ cell_of_role i (role_then role effect) (at_then away (reading d register) effect)
cell_then i role d register away None = cell_reading i role d register
cell_then i role d register away (Some (Invites nonce)) = refl
cell_then i role d register away _ = refl

abbrev pub FitsThen : Digests → Option Effect → Type 0
FitsThen d None = Unit {0}
FitsThen d (Some effect) = FitsEffect d effect

fits_then : (pair : Pair) (which : SideName) (role : Role) (d : Digests) (register : List ℕ) (away : ℕ) (effect : Option Effect)
    → FitsCell (instance_on pair which) (link_of pair) role d → FitsThen d effect
    → FitsRole (instance_on pair which) (role_then role effect) (at_then away (reading d register) effect)
fits_then pair which role d register away None fit is = fits_reading (instance_on pair which) role d register fit.fits
fits_then pair which role d register away (Some (Invites nonce)) fit is = is
fits_then pair which role d register away (Some (Leaves ticket)) fit is = is
fits_then pair which role d register away (Some (Enters ticket)) fit is =
    (fits_linked (instance_on pair which).variant (instance_on pair which).barrier (link_of pair) fit.linked, is)

register_then : (d : Digests) (away : ℕ) (effect : Option Effect) → d.register ≡ (at_then away d effect).register
register_then d away (Some (Invites nonce)) = refl
register_then d away _ = refl

-- whatever the register, a side comes to the same digest and count, and as much is kept of where the module left
pub record SameThen (away : ℕ) (d x : Digests) (effect : Option Effect) : Type 0 where
  pub digest : (at_then away x effect).digest ≡ (at_then away d effect).digest
  pub count : (at_then away d effect).count ≡ (at_then away x effect).count
  pub away_is : away_then away d effect ≡ away_then away x effect

same_then : (away : ℕ) (d : Digests) (register : List ℕ) (effect : Option Effect) → SameThen away d (reading d register) effect
same_then away d register (Some (Invites nonce)) = record { digest = refl; count = refl; away_is = refl }
same_then away d register _ = record { digest = refl; count = refl; away_is = refl }

pub brought_then : (i : Instance) (d : Digests) (stop : Stop) (meddles : List Meddle) (found : Result FoundMove DenialCause) (away : ℕ)
    (effect : Option Effect) → SameThen away d (state_after_steps digest_mover i d meddles stop (move_steps found)) effect
brought_then i d stop meddles found away effect =
    let brought : Digests = state_after_steps digest_mover i d meddles stop (move_steps found) in
    subst (λ (x : Digests). SameThen away d x effect) (sym (brought_digests i d stop meddles found))
    (same_then away d brought.register effect)

-- a side whose move came to its effect
pub side_then : {A : Type 0} (gives : FoundMove → A → Type 0) (pair : Pair) (which : SideName) (role : Role) (d : Digests) (stop : Stop)
    (meddles : List Meddle) (found : Result FoundMove DenialCause) (new : CodeSide) (came : Result A MoveRefusal) (away : ℕ)
    → (let effect = effect_of (course_of stop meddles).fates found in
    Came gives (instance_on pair which) role d stop meddles found new.seat.platform came
    → FitsCell (instance_on pair which) (link_of pair) role d → FitsThen d effect → new.seat.committed ≡ (at_then away d effect).count
    → KeepsFor (role_then role effect) new.digest.bytes (at_then away d effect) → IsSide pair which (role_then role effect)
    (at_then away (state_after_steps digest_mover (instance_on pair which) d meddles stop (move_steps found)) effect) new)
side_then gives pair which role d stop meddles found new came away c fit fits count keeps =
    let i = instance_on pair which in
    let effect = effect_of (course_of stop meddles).fates found in
    let brought : Digests = state_after_steps digest_mover i d meddles stop (move_steps found) in
    let register : List ℕ = brought.register in
    let to : reading d register ≡ brought = sym (brought_digests i d stop meddles found) in
    let here : IsSide pair which (role_then role effect) (at_then away (reading d register) effect) new =
    side_is pair which (role_then role effect) (at_then away (reading d register) effect) new (record {
      fits =
          record {
            key = fit.key;
            barrier = fit.barrier;
            linked = fit.linked;
            fits = fits_then pair which role d register away effect fit
                fits;
          };
      cell = c.cell ∙ ap Some (cell_then i role d register away effect);
      register = c.register ∙ ap Some (register_then (reading d register) away effect);
    }) c.quiet (count ∙ (same_then away d register effect).count) (keeps_then role d register away effect new.digest.bytes keeps) in
    subst (λ (x : Digests). IsSide pair which (role_then role effect) (at_then away x effect) new) to here
  where
    keeps_then : (role : Role) (d : Digests) (register : List ℕ) (away : ℕ) (effect : Option Effect) (kept : List ℕ)
        → KeepsFor (role_then role effect) kept (at_then away d effect)
        → KeepsFor (role_then role effect) kept (at_then away (reading d register) effect)
    keeps_then role d register away None kept k = keeps_reading role d register kept k
    keeps_then role d register away (Some (Invites nonce)) kept k = k
    keeps_then role d register away _ kept k = k
