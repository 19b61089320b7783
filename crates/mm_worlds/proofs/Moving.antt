-- A move behind an answered request meets what is asked of a world. With it: what a move comes to,
-- by what it finds in the cell; an invitation keeps the order of a world.
use Rattle.std.specs.List.{AllByRecursion, Contains}
use Rattle.std.specs.Option.{option_map_or}
use Rattle.std.specs.Prelude.{if◌then◌else◌, length, not}
use Rattle.std.specs.Str.{bytes_eq}
use Rattle.std.proofs.Common.{arith, ◌≡◌, ◌∙◌, ℕ, Bool, true, false, List, [], ◌∷◌, Ok, refl, ap, inl, Option, None, Some, Result, Err, sym}
use Rattle.std.proofs.Common.{subst, inr, ◌++◌}
use Rattle.std.proofs.lemmas.List.{append-nil}
use Rattle.std.proofs.lemmas.Slice.Eq.{bytes_eq-Decides}
use Rattle.mm_digest.specs.Messages.{start_message}
use Rattle.mm_digest.specs.declared.variant.Variant.{Variant}
use Rattle.mm_digest.specs.declared.variant.Variant.TheVariants.{Basic}
use Rattle.mm_seal.specs.declared.cell.Cell.{Cell}
use Rattle.mm_seal.specs.declared.cell.CellFault.{CellFault}
use Rattle.mm_platform.specs.Standing.{Standing, ReadCell, StepGoes, WriteCell, cell_after}
use Rattle.mm_platform.specs.declared.fault.StepFault.{StepFault}
use Rattle.mm_module.specs.Batch.{Batch, One}
use Rattle.mm_module.specs.Meaning.{counter, Meaning}
use Rattle.mm_module.specs.RunLaws.{counter_is_lawful}
use Rattle.mm_model.specs.Chains.{Instance, basic_instance}
use Rattle.mm_model.specs.History.{first_history, History, requests_of}
use Rattle.mm_model.specs.ListLaws.{each_append, each_left, each_self}
use Rattle.mm_model.specs.Messages.{AreMessagesIn, IsClear}
use Rattle.mm_model.specs.Standing.{cell_of, issued_bytes}
use Rattle.mm_call.specs.CallFinding.{right_content}
use Rattle.mm_call.specs.CallPremises.{right_messages}
use Rattle.mm_move.specs.Cells.{moved_cell_of, AreMoveSteps, EndsAfterRead, MakesMoveStep, MoveGoesOn, move_answer, IsOrNoMemory, IsWaiting}
use Rattle.mm_move.specs.Cells.{waiting_spelling, MovePromise}
use Rattle.mm_move.specs.Orders.{invitation_in, is_same_waiting, waiting_for}
use Rattle.mm_move.specs.declared.cell.MovedCell.{MovedCell}
use Rattle.mm_move.specs.declared.cell.MovedCell.TheVariants as moved
use Rattle.mm_move.specs.declared.cell.WaitingCell.{WaitingCell}
use Rattle.mm_move.specs.declared.inviting.Invited.{Invited}
use Rattle.mm_move.specs.declared.link.Link.{Link}
use Rattle.mm_move.specs.declared.ready.ReadyMove.{ReadyMove}
use Rattle.mm_move.specs.declared.refusal.MoveRefusal.{MoveRefusal}
use Rattle.mm_move.proofs.Above.{bytes_tell, moved_back}
use Rattle.mm_outcome.specs.Laws.{one_ask}
use Rattle.mm_outcome.specs.Premises.{IsClearRun, IsGenuineRun, run_messages}
use Rattle.mm_outcome.proofs.Above.{clear_within}
use Rattle.mm_sides.specs.BothSides.{Blank, Live, Retired, Role, Waiting}
use Rattle.mm_life.specs.Deeds.{Calls, LifeCall, call_of}
use Rattle.mm_life.specs.OneStore.{add_five}
use Rattle.mm_life.specs.Stages.{Does, LifePart}
use Rattle.mm_life.proofs.Above.{basic_life, first_genuine, first_within, part_lives}
use Rattle.mm_worlds.specs.Journey.{MeetsWorldPremises, OneMove, OneMoveMeetsPremises, move_stages}
use Rattle.mm_worlds.specs.Premises.{has_same_cell, key_of, role_of, IsWorldAtStart, asked_messages, calls_at, first_offers, offers_to}
use Rattle.mm_worlds.specs.Premises.{world_messages, IsWorldLife, World, Handed, used_nonces}
use Rattle.mm_worlds.proofs.Beside.{IsBeside, move_beside}
use Rattle.mm_worlds.proofs.Between.{key_held, HoldsCell, bytes_held, held_read, held_told, reading_of, changed_at, LeftFor, left_for_on}
use Rattle.mm_worlds.proofs.Between.{papers_on, IsLiveCell}
use Rattle.mm_worlds.proofs.Living.{IsQuietHere, Stepped, WorldLaws, kept_quiet}
use Rattle.mm_worlds.proofs.Names.{fits_shut}
use Rattle.mm_worlds.proofs.Orders.{StandsInOrder, handed_more, known_back, order_invited}

-- what is kept under one key

first_there : (same : Bool) → same ≡ true → (one : List ℕ) (rest : List (List ℕ)) → Contains (if same then one ∷ rest else rest) one
first_there true e one rest = (0, omega arith, refl)
first_there false e one rest = absurd (cc)

second_there : (same : Bool) → same ≡ true → (one two : List ℕ)
    → Contains (if same then one ∷ (if same then two ∷ [] else []) else (if same then two ∷ [] else [])) two
second_there true e one two = (1, omega arith, refl)
second_there false e one two = absurd (cc)

none_before : (same : Bool) (nonce : List ℕ) → AllByRecursion (λ (n : List ℕ). Contains [] n → ⊥) (if same then [] else nonce ∷ [])
none_before true nonce = tt
none_before false nonce = (λ among. absurd (omega (arith, among.1)), tt)

-- what holds of one call holds of the calls that were made where the module is

module _ (P : List ℕ → Type 0) where
  messages_at : (i : Instance) (c : LifeCall) → AllByRecursion P (asked_messages i (c ∷ [])) → (role : Role)
      → AllByRecursion P (asked_messages i (calls_at role (c ∷ [])))
  messages_at i c h Live = h
  messages_at i c h Blank = tt
  messages_at i c h (Waiting nonce) = tt
  messages_at i c h (Retired nonce) = tt

  offers_at : (c : LifeCall) → P c.offer → (role : Role) → AllByRecursion P (first_offers (calls_at role (c ∷ [])))
  offers_at c h Live = (h, tt)
  offers_at c h Blank = tt
  offers_at c h (Waiting nonce) = tt
  offers_at c h (Retired nonce) = tt

  offered_at : (offer : List ℕ) → P offer → (role : Role) → AllByRecursion P (offers_to role offer)
  offered_at offer h Live = (h, tt)
  offered_at offer h Blank = tt
  offered_at offer h (Waiting nonce) = tt
  offered_at offer h (Retired nonce) = (h, tt)

-- the messages of the request are those of a run that is known to be clear
heard : (i : Instance) → AreMessagesIn (right_messages i (One add_five) (right_content i (issued_bytes i first_history)))
    (run_messages i one_ask)
heard i =
    let all : List (List ℕ) = run_messages i one_ask in
    each_left (Contains all) (right_messages i (One add_five) (right_content i (issued_bytes i first_history))) _
    (each_left (Contains all) _ [] (each_self [] all).1)

abbrev MetBy : Type 0
MetBy =
    (key : List ℕ) → IsClearRun (basic_instance counter key) one_ask × IsGenuineRun (basic_instance counter key) one_ask

module _ (met : MetBy) (link : Link) (world : World) (m : OneMove)
    (f : IsWorldLife Basic counter link world (move_stages link world m)) (start : IsWorldAtStart Basic counter link world) where
  abbrev key : List ℕ
  key = key_of (world 0)

  abbrev i : Instance
  i = basic_instance counter key

  abbrev all : List (List ℕ)
  all = run_messages i one_ask

  abbrev c : LifeCall
  c = call_of (issued_bytes i first_history) add_five (Ok m.answer)

  clear : IsClear all
  clear = (met key).0.clear

  started : Contains all (start_message Basic counter.id)
  started = (each_self [] all).0

  of_call : AllByRecursion (Contains all) (asked_messages i (c ∷ []))
  of_call = each_append (Contains all) (right_messages i (One add_five) (right_content i c.offer)) [] (heard i) tt

  -- the call keeps the platform's key
  key_asked : key_of m.asked ≡ key
  key_asked =
      let asked : List Batch = One add_five ∷ [] in
      let l = part_lives (basic_life counter counter_is_lawful key all asked clear) first_history (world 0) (Does (Calls c)) m.asked f.0
      start.first (first_within counter counter_is_lawful key all asked started) (inl tt)
      (first_genuine counter counter_is_lawful key) (record { messages = of_call; batches = ((0, omega arith, refl), tt) }) in
      key_held Basic counter link m.asked (moved.Live (cell_of i l.after))
      (record { formed = l.stands.spells; own = (refl, refl, refl); told = l.stands.cell })

  same_key : bytes_eq key (key_of m.asked) ≡ true
  same_key = ap (λ (k : List ℕ). bytes_eq key k) key_asked ∙ (bytes_eq-Decides key key).1 refl

  pub meets : MeetsWorldPremises link world m f
  meets = record {
    clear = clear_within all (world_messages Basic counter link world (move_stages link world m) f) clear (
      started,
      each_append (Contains all) (asked_messages i (calls_at (role_of (world 0)) (c ∷ []))) []
          (messages_at (Contains all) i c of_call (role_of (world 0))) tt,
    );
    honest = (
      record {
        offers = offers_at _ c (λ content right. first_there (bytes_eq key key) ((bytes_eq-Decides key key).1 refl) c.offer [])
            (role_of (world 0));
        tickets = tt;
        nonces = tt;
      },
      (
        record { offers = tt; tickets = tt; nonces = none_before (has_same_cell (world 1) m.waiting) m.nonce },
        (
          record {
            offers = offered_at _ m.answer.snapshot
                (λ content right. second_there (bytes_eq key (key_of m.asked)) same_key c.offer m.answer.snapshot) (role_of m.asked);
            tickets = tt;
            nonces = tt;
          },
          (record { offers = tt; tickets = (λ content right. (0, omega arith, refl), tt); nonces = tt }, tt),
        ),
      ),
    );
  }

pub one_move_meets : MetBy → OneMoveMeetsPremises
one_move_meets met link world m f start = meets met link world m f start

-- What a move comes to, by what it finds in the cell.

-- It is refused, or its write failed, and the cell is as before; it was made before, and is answered again; or it wrote the cell.
pub data MoveOutcome {A : Type 0} (found : Result (ReadyMove A) MoveRefusal) (old new : Standing)
    (result : Result A MoveRefusal) : Type 0 where
  refused : new.cell ≡ old.cell → ((answer : A) → result ≡ Ok answer → ⊥) → MoveOutcome found old new result
  repeated : (ready : ReadyMove A) → found ≡ Ok ready → ready.next ≡ None → new.cell ≡ old.cell → result ≡ Ok ready.answer
      → MoveOutcome found old new result
  made : (ready : ReadyMove A) (next : List ℕ) → found ≡ Ok ready → ready.next ≡ Some next → new.cell ≡ Some next
      → ((answer : A) → result ≡ Ok answer → answer ≡ ready.answer) → MoveOutcome found old new result

found_ready : {A : Type 0} (finds : Result (ReadyMove A) MoveRefusal) (ready : ReadyMove A) → IsOrNoMemory finds (Ok ready)
    → finds ≡ Ok ready
found_ready (Err why) ready e = absurd (cc)
found_ready (Ok it) ready (inl e) = sym e
found_ready (Ok it) ready (inr e) = absurd (cc)

answered : {A : Type 0} (it : A) (fault : Option StepFault) (result : Result A MoveRefusal) → result ≡ move_answer it fault
    → (answer : A) → result ≡ Ok answer → answer ≡ it
answered it None result gives answer is = cc
answered it (Some fault) result gives answer is = absurd (cc)

failed : {A : Type 0} (it : A) (fault : StepFault) (result : Result A MoveRefusal) → result ≡ move_answer it (Some fault)
    → (answer : A) → result ≡ Ok answer → ⊥
failed it fault result gives answer is = absurd (cc)

module _ {A : Type 0} (finds : List ℕ → Result (ReadyMove A) MoveRefusal) (old new : Standing) (result : Result A MoveRefusal)
    (cell : List ℕ) (told : old.cell ≡ Some cell) where
  abbrev Comes : Type 0
  Comes = MoveOutcome (finds cell) old new result

  module _ (ready : ReadyMove A) (f : finds cell ≡ Ok ready) (middle : Standing) (same : middle.cell ≡ old.cell) where
    written : (next : List ℕ) → ready.next ≡ Some next → (fault : Option StepFault) (g : StepGoes (WriteCell next) middle new fault)
        → result ≡ move_answer ready.answer fault → (is_made : Bool) → g.is_made ≡ is_made → Comes
    written next n fault g gives true e =
        made ready next f n
        (g.cell ∙ ap (λ (flag : Bool). cell_after (WriteCell next) flag middle.cell) e
        ∙ ap (λ (c : Option (List ℕ)). cell_after (WriteCell next) true c) (same ∙ told)) (answered ready.answer fault result gives)
    written next n None g gives false e = let clash : false ≡ true = sym e ∙ g.ends.made in absurd (cc)
    written next n (Some fault) g gives false e =
        refused (g.cell ∙ ap (λ (flag : Bool). cell_after (WriteCell next) flag middle.cell) e ∙ same)
        (failed ready.answer fault result gives)

    by_next : (next : Option (List ℕ)) → ready.next ≡ next → MakesMoveStep next ready.answer middle new result → Comes
    by_next None n g = repeated ready f n (ap (λ (s : Standing). s.cell) g.0 ∙ same) g.1
    by_next (Some next) n g = written next n g.fault g.goes g.gives g.goes.is_made refl

  goes_on : (found : Result (ReadyMove A) MoveRefusal) → IsOrNoMemory (finds cell) found → (middle : Standing) → middle.cell ≡ old.cell
      → MoveGoesOn found middle new result → Comes
  goes_on (Err why) f middle same g =
      refused (ap (λ (s : Standing). s.cell) g.0 ∙ same)
      (λ answer is. let clash : Ok answer ≡ Err why = sym is ∙ g.1 in absurd (cc))
  goes_on (Ok ready) f middle same g = by_next ready (found_ready (finds cell) ready f) middle same ready.next refl g

  by_fault : (fault : Option StepFault) (middle : Standing) → StepGoes ReadCell old middle fault
      → EndsAfterRead finds fault old middle new result → Comes
  by_fault None middle g a =
      goes_on a.found (subst (λ (bytes : List ℕ). IsOrNoMemory (finds bytes) a.found) (a.told cell told) a.found_is) middle g.cell
      a.goes_on
  by_fault (Some fault) middle g a =
      refused (ap (λ (s : Standing). s.cell) a.0 ∙ g.cell)
      (λ answer is. let clash = sym is ∙ a.1 in absurd (cc))

  pub outcome : AreMoveSteps finds old new result → Comes
  outcome m = by_fault m.fault m.middle m.reads m.after

-- where the cell holds this
pub move_comes : {A : Type 0} (variant : Variant) (meaning : Meaning) (link : Link)
    (reads : Result MovedCell CellFault → Result (ReadyMove A) MoveRefusal) (old new : Standing) (held : Option MovedCell)
    (result : Result A MoveRefusal) → HoldsCell variant meaning link old held
    → AreMoveSteps (λ bytes. reads (moved_cell_of bytes)) old new result → MoveOutcome (reads (reading_of held)) old new result
move_comes variant meaning link reads old new held result h m =
    subst (λ (r : Result MovedCell CellFault). MoveOutcome (reads r) old new result) (held_read variant meaning link old held h)
    (outcome (λ (bytes : List ℕ). reads (moved_cell_of bytes)) old new result (bytes_held held)
    (held_told variant meaning link old held h) m)

-- An invitation keeps the order of a world.

-- where an invitation writes, nothing lives and nothing waits
pub record IsInvited (next : WaitingCell) (held : Option MovedCell) (bytes : List ℕ) : Type 0 where
  pub is : bytes ≡ waiting_spelling next
  pub away : IsLiveCell held → ⊥
  pub other : reading_of held ≡ Ok (moved.Waiting next) → ⊥

writes_none : (test : Bool) (why : MoveRefusal) (ready : ReadyMove Invited) (answer : Invited) (bytes : List ℕ)
    → (if test then Err why else Ok (record { next = None; answer = answer })) ≡ Ok ready → ready.next ≡ Some bytes → ⊥
writes_none true why ready answer bytes e n = absurd (cc)
writes_none false why ready answer bytes e n = absurd (cc)

pub invited_where : (next : WaitingCell) (held : Option MovedCell) (ready : ReadyMove Invited) (bytes : List ℕ)
    → invitation_in next (reading_of held) ≡ Ok ready → ready.next ≡ Some bytes → IsInvited next held bytes
invited_where next None ready bytes e n = record { is = cc; away = λ h. h; other = λ is. absurd (cc) }
invited_where next (Some (moved.Retired c)) ready bytes e n = record { is = cc; away = λ h. h; other = λ is. absurd (cc) }
invited_where next (Some (moved.Waiting c)) ready bytes e n =
    absurd (writes_none (not (is_same_waiting c next)) _ ready _ bytes e n)
invited_where next (Some (moved.Live c)) ready bytes e n = absurd (cc)

-- where the module lives, the cell is as before
pub invited_same : (next : WaitingCell) (c : Cell) (old new : Standing) (result : Result Invited MoveRefusal)
    → MoveOutcome (invitation_in next (Ok (moved.Live c))) old new result → new.cell ≡ old.cell
invited_same next c old new result (refused same none) = same
invited_same next c old new result (repeated ready f n same gives) = same
invited_same next c old new result (made ready bytes f n wrote gives) =
    absurd ((invited_where next (Some (moved.Live c)) ready bytes f n).away tt)

module _ {variant : Variant} {meaning : Meaning} {link : Link} {all others : List (List ℕ)} {asked : List Batch}
    {IsSeen : Standing → LifePart → Standing → Type 0} {IsStill : Standing → List LifeCall → Type 0}
    (laws : WorldLaws variant meaning link all others asked IsSeen IsStill) (world : ℕ → Standing) (y : History) (handed : Handed)
    (s : StandsInOrder variant meaning link all others asked world y handed) (at : ℕ) (nonce key : List ℕ) (new : Standing) where
  abbrev next : WaitingCell
  next = waiting_for link variant meaning.id nonce key

  abbrev old : Standing
  old = world at

  abbrev Kept : Type 0
  Kept =
      Stepped laws world y handed s at new [] [] (used_nonces nonce old new)
      (λ after. after ≡ requests_of y.batches)

  abbrev AreFresh : List (List ℕ) → Type 0
  AreFresh nonces = AllByRecursion (λ (n : List ℕ). Contains handed.nonces n → ⊥) nonces

  -- the cell has other bytes
  changes : HoldsCell variant meaning link old (s.cells at) → (reading_of (s.cells at) ≡ Ok (moved.Waiting next) → ⊥) → IsWaiting next
      → new.cell ≡ Some (waiting_spelling next) → (same : Bool) → has_same_cell old new ≡ same
      → (if same then [] else nonce ∷ []) ≡ nonce ∷ []
  changes holds other is wrote false e = refl
  changes holds other is wrote true e =
      let bytes : bytes_held (s.cells at) ≡ waiting_spelling next =
      bytes_tell (bytes_held (s.cells at)) (waiting_spelling next)
      (sym (ap (λ (c : Option (List ℕ)). bytes_eq (option_map_or (λ (b : List ℕ). b) c [])
      (option_map_or (λ (b : List ℕ). b) new.cell [])) (held_told variant meaning link old (s.cells at) holds)
      ∙ ap (λ (c : Option (List ℕ)). bytes_eq (bytes_held (s.cells at)) (option_map_or (λ (b : List ℕ). b) c [])) wrote) ∙ e) in
      absurd (other (sym (held_read variant meaning link old (s.cells at) holds) ∙ ap moved_cell_of bytes
      ∙ moved_back (moved.Waiting next) is))

  writes : HoldsCell variant meaning link old (s.cells at) → IsWaiting next → (bytes : List ℕ) → IsInvited next (s.cells at) bytes
      → new.cell ≡ Some bytes → AreFresh (used_nonces nonce old new)
      → StandsInOrder variant meaning link all others asked (changed_at world at new) y
      (handed_more variant meaning link all others asked handed [] [] (used_nonces nonce old new))
  writes holds is bytes i wrote fresh =
      let wrote_so : new.cell ≡ Some (waiting_spelling next) = wrote ∙ ap (λ (b : List ℕ). Some b) i.is in
      let used : used_nonces nonce old new ≡ nonce ∷ [] = changes holds i.other is wrote_so (has_same_cell old new) refl in
      let new_nonce : Contains handed.nonces nonce → ⊥ = (subst AreFresh used fresh).0 in
      let whole : StandsInOrder variant meaning link all others asked (changed_at world at new) y
      (handed_more variant meaning link all others asked handed [] [] (nonce ∷ [])) = record {
        cells = changed_at s.cells at (Some (moved.Waiting next));
        long = s.long;
        going = s.going;
        order = order_invited variant meaning link world s.cells y handed.nonces at new next new_nonce i.away s.going
            (record { formed = is; own = (refl, refl, refl); told = wrote_so }) s.order;
        within = s.within;
        named = rw (append-nil handed.snapshots) s.named;
        papers = rw (append-nil handed.tickets)
            (papers_on variant meaning link all (LeftFor variant meaning link s.cells handed.nonces s.going y)
            (LeftFor variant meaning link (changed_at s.cells at (Some (moved.Waiting next))) (handed.nonces ++ nonce ∷ []) s.going y) y y
            (left_for_on variant meaning link s.cells (changed_at s.cells at (Some (moved.Waiting next))) handed.nonces (nonce ∷ [])
            s.going y
            (known_back variant meaning link world s.cells y handed.nonces at new next new_nonce i.away)) (λ content n. n) handed.tickets
            s.papers);
      } in
      subst (λ (ns : List (List ℕ)). StandsInOrder variant meaning link all others asked (changed_at world at new) y
      (handed_more variant meaning link all others asked handed [] [] ns)) (sym used) whole

  comes : (result : Result Invited MoveRefusal) → HoldsCell variant meaning link old (s.cells at) → IsWaiting next
      → AreFresh (used_nonces nonce old new) → IsBeside old new
      → IsQuietHere laws world y handed s at new
      → MoveOutcome (invitation_in next (reading_of (s.cells at))) old new result → Kept
  comes result holds is fresh beside shown (refused same none) =
      kept_quiet laws world y handed s at new [] [] (used_nonces nonce old new) same beside
      shown tt tt
  comes result holds is fresh beside shown (repeated ready f n same gives) =
      kept_quiet laws world y handed s at new [] [] (used_nonces nonce old new) same beside
      shown tt tt
  comes result holds is fresh beside shown (made ready bytes f n wrote gives) = record {
    after = y;
    stands = writes holds is bytes (invited_where next (s.cells at) ready bytes f n) wrote fresh;
    steps = refl;
  }

  pub kept_inviting : (result : Result Invited MoveRefusal) → length nonce ≡ 32 → length key ≡ 32
      → MovePromise (λ bytes. invitation_in next (moved_cell_of bytes)) old new result → AreFresh (used_nonces nonce old new)
      → IsQuietHere laws world y handed s at new → Kept
  kept_inviting result long_nonce long_key m fresh shown =
      comes result (s.order.holds at) (record {
        nonce = long_nonce;
        key = long_key;
        barrier = s.long;
        variant = fits_shut variant link
            false refl;
      }) fresh
      (move_beside (λ bytes. invitation_in next (moved_cell_of bytes)) old new result m.moves) shown
      (move_comes variant meaning link (invitation_in next) old new (s.cells at) result (s.order.holds at) m.moves)
