-- What is found on a platform that stands at some digests is what the call by digests finds. With
-- it: the steps of a call over a platform, each by digests, and what is read by the first two.
use Rattle.std.proofs.lemmas.List.{append-nil}
use Rattle.mm_seal.specs.FieldLaws.{parts_are}
use Rattle.mm_seal.specs.declared.snapshot.Place.{Place}
use Rattle.mm_machine.specs.OpSteps.{CellSays}
use Rattle.mm_machine.specs.declared.change.Change as change
use Rattle.mm_model.specs.declared.refusal.Refusal.TheVariants as refusal
use Rattle.mm_call.specs.CallFinding.{answer_at}
use Rattle.mm_opt.specs.AskPromise.{SeesCell}
use Rattle.mm_opt.proofs.Below.{◌≡◌, ℕ, ◌+◌, Bool, true, false, List, length, Result, Ok, Err, refl, sym, ap, ◌∙◌, subst, inl, inr}
use Rattle.mm_opt.proofs.Below.{if◌then◌else◌, nat_le, bytes_eq, last_position, Opt, Meaning, Batch, normal_batch, members_of-normal}
use Rattle.mm_opt.proofs.Below.{PartsFault, Form, Kind, InBasic, InOpt, Content, Snapshot, ReadsParts, variant_of, tag_of, guard, Instance}
use Rattle.mm_opt.proofs.Below.{opt_instance, verdict_by_digests, Digests, BatchAnswer, Refusal, Verdict, check_of_offer, check_by_tests}
use Rattle.mm_opt.proofs.Below.{IsOrMemory, digest_level, place_after_batch, Accepted, accepted_from, accepted_at, finding_with}
use Rattle.mm_opt.proofs.Below.{accepted_in, cell_at, Accepts, is_memory, lacks_in, BatchFinding, Repeat, Change, Extending, Emptying}
use Rattle.mm_opt.proofs.Below.{has_lost_power, verdict_at, verdict_of, answer_of, place_after, change_by, opened_cell, answer_in}
use Rattle.mm_opt.proofs.Below.{finding_from, finding_in_offer, finding_unless, finding_in, FindsIn, [], ◌∷◌, ◌++◌, map, Option, None, Some}
use Rattle.mm_opt.proofs.Below.{arith, nat_eq, fold, nat_tests, zero_bytes, extended_digest_of, Item, own_item, Standing, item_values}
use Rattle.mm_opt.proofs.Below.{register_after, ResetRegister, ExtendRegister, Cell, IsCell, cell_spelling, reads_cell-same, Move, Commit}
use Rattle.mm_opt.proofs.Below.{Foreign, Placed, Reset, digests_after, state_after_moves, StandsAt, items_after_move, IsChange, IsWrite}
use Rattle.mm_opt.proofs.Below.{register_of_items, reads_beside, StepFault, StepGoes, ReadCell, ReadRegister, with_register, foreign_made}
use Rattle.mm_opt.proofs.Below.{state_after_moves-append}

-- what was found is for these digests and this batch
abbrev pub IsForIn : Instance → Digests → Batch → change.Change → Type 0
IsForIn i seen b (Extending value) = (seen.flag ≡ true) × (value.bytes ≡ guard i.barrier b)
IsForIn i seen b (Emptying opening) =
    (seen.flag ≡ false) × (opening.value.bytes ≡ guard i.barrier b) × (opening.next ≡ opened_cell (cell_at i seen))
IsForIn i seen b _ = ⊥

abbrev pub IsFor : Instance → Digests → Batch → BatchFinding → Type 0
IsFor i seen b (Repeat answer) = Unit {0}
IsFor i seen b (Change ready) = IsForIn i seen b ready.change

abbrev pub is_repeat : BatchFinding → Bool
is_repeat (Repeat answer) = true
is_repeat _ = false

-- what is found, by what the call by digests finds
abbrev pub AsFound : Instance → Digests → Batch → Result Accepted Refusal → Result BatchFinding Refusal → Type 0
AsFound i seen b x (Err why) = x ≡ Err why
AsFound i seen b x (Ok it) = IsFor i seen b it × Accepts i seen b x (is_repeat it) (answer_in it)

module _ (i : Instance) (seen : Digests) (b : Batch) where
  as_unless : (lost : Bool) (x : Result Accepted Refusal) (found : Result BatchFinding Refusal)
      → AsFound i seen b x found → AsFound i seen b (if lost then Err refusal.Lost else x) (finding_unless lost found)
  as_unless true x found so = refl
  as_unless false x found so = so

  as_or : (y : Result BatchFinding Refusal) (x : Result Accepted Refusal) (found : Result BatchFinding Refusal) → AsFound i seen b x y
      → IsOrMemory y found
      → AsFound i seen b (accepted_in x (lacks_in found)) found
  as_or (Err why) x found so o = rw o (ap (λ (y : Result Accepted Refusal). accepted_in y (is_memory why)) so)
  as_or (Ok it) x found so (inl e) =
      rw e (so.0, record { offered = so.1.offered; found_is = simp so.1.found_is; answer_is = so.1.answer_is })
  as_or (Ok it) x found so (inr e) = rw e (simp so.1.found_is)

module _ (meaning : Meaning) (key barrier : List ℕ) (seen : Digests) (b : Batch) where
  abbrev here : Instance
  here = opt_instance meaning key barrier

  -- the verdict on a place of Opt
  verdict_alike : (place : Place) → variant_of place ≡ Opt → verdict_at (cell_at here seen) seen.register place b
      ≡ verdict_by_digests barrier seen.flag seen.digest seen.register place (normal_batch b)
  verdict_alike (InOpt anchor extension) is = refl
  verdict_alike (InBasic summary) is = absurd (cc)

  examined_alike : (offered : Snapshot) (v w : Verdict) → v ≡ w
      → check_of_offer meaning key offered (normal_batch b) w ≡ check_of_offer meaning key offered b v
  examined_alike offered v w e =
      ap (check_of_offer meaning key offered (normal_batch b)) (sym e)
      ∙ ap (λ (n : ℕ). check_by_tests (meaning.is_spelled offered.content.state) (bytes_eq offered.tag (tag_of key offered.content)) v
      (nat_le (offered.content.position + n) last_position)) (ap (λ (m : List (List ℕ)). length m) (members_of-normal b))

  -- the place of the answer
  place_by : (flag again : Bool) → flag ≡ seen.flag → place_after (cell_at here seen) seen.register (guard barrier (normal_batch b)) again
      ≡ place_after_batch Opt seen.flag again here seen (normal_batch b)
  place_by flag again e =
      subst (λ (f : Bool). place_after (cell_at here (record seen { flag = f })) seen.register (guard barrier (normal_batch b))
      again ≡ place_after_batch Opt f again here seen (normal_batch b)) e (places flag again)
    where
      places : (flag again : Bool) → place_after (cell_at here (record seen { flag = flag })) seen.register
          (guard barrier (normal_batch b)) again
          ≡ place_after_batch Opt flag again here seen (normal_batch b)
      places true true = refl
      places false true = refl
      places _ _ = refl

  answer_alike : (offered : Content) (again : Bool) → answer_of meaning (cell_at here seen) seen.register offered b again
      ≡ answer_at meaning key offered (place_after_batch Opt seen.flag again here seen (normal_batch b)) (normal_batch b) again
  answer_alike offered again =
      ap (λ (p : Place). answer_at meaning key offered p b again) (place_by seen.flag again refl) ∙ simp (members_of-normal b)

  -- an accepted offer
  as_change : (flag : Bool) (x : Result Accepted Refusal) (answer : BatchAnswer) → flag ≡ seen.flag
      → Accepts here seen (normal_batch b) x false answer
      → AsFound here seen (normal_batch b) x (Ok (change_by flag (guard barrier (normal_batch b)) (opened_cell (cell_at here seen)) answer))
  as_change true x answer e a = ((sym e, refl), a)
  as_change false x answer e a = ((sym e, refl, refl), a)

  as_from : (e : Result Bool Refusal) (offered : Content) → AsFound here seen (normal_batch b) (finding_with offered e)
      (finding_from e (cell_at here seen) (guard barrier (normal_batch b)) (answer_of meaning (cell_at here seen) seen.register offered b))
  as_from (Err why) offered = refl
  as_from (Ok true) offered = (tt, record { offered = offered; found_is = refl; answer_is = answer_alike offered true })
  as_from (Ok false) offered =
      as_change seen.flag (finding_with offered (Ok false)) (answer_of meaning (cell_at here seen) seen.register offered b false) refl
      (record { offered = offered; found_is = refl; answer_is = answer_alike offered false })

  as_read : (taken : Result Snapshot PartsFault) (offer : List ℕ) → ReadsParts offer Opt meaning.id taken
      → AsFound here seen (normal_batch b) (accepted_from here (digest_level here) seen (normal_batch b) taken)
      (finding_in_offer meaning (cell_at here seen) seen.register taken b)
  as_read (Err Form) offer reads = refl
  as_read (Err Kind) offer reads = refl
  as_read (Ok offered) offer reads =
      let v : Verdict = verdict_of (cell_at here seen) seen.register offered b in
      let w : Verdict = verdict_by_digests barrier seen.flag seen.digest seen.register offered.content.place (normal_batch b) in
      subst (λ (e : Result Bool Refusal). AsFound here seen (normal_batch b) (finding_with offered.content e)
      (finding_in_offer meaning (cell_at here seen) seen.register (Ok offered) b))
      (sym (examined_alike offered v w (verdict_alike offered.content.place reads.1.0)))
      (as_from (check_of_offer meaning key offered b v) offered.content)

  -- what is found in the cell and the register of these digests
  pub as_found : (offer : List ℕ) (found : Result BatchFinding Refusal) → FindsIn meaning (cell_at here seen) seen.register offer b found
      → AsFound here seen (normal_batch b) (accepted_in (accepted_at here (digest_level here) seen (normal_batch b) offer) (lacks_in found))
      found
  as_found offer found f =
      as_or here seen (normal_batch b) (finding_in meaning (cell_at here seen) seen.register f.taken b)
      (accepted_at here (digest_level here) seen (normal_batch b) offer) found
      (subst (λ (p : Result Snapshot PartsFault). AsFound here seen (normal_batch b)
      (if (digest_level here).is_lost seen then Err refusal.Lost else accepted_from here (digest_level here) seen (normal_batch b) p)
      (finding_in meaning (cell_at here seen) seen.register f.taken b)) (parts_are Opt meaning.id offer f.taken f.reads)
      (as_unless here seen (normal_batch b) (has_lost_power (cell_at here seen) seen.register)
      (accepted_from here (digest_level here) seen (normal_batch b) f.taken)
      (finding_in_offer meaning (cell_at here seen) seen.register f.taken b)
      (as_read f.taken offer f.reads))) f.found_is

-- The steps of a call over a platform, each by digests, and what is read by the first two.

-- The steps of a call

pub two_brought : (i : Instance) (d : Digests) (v w : List (List ℕ))
    → state_after_moves (digest_level i) (state_after_moves (digest_level i) d (map Foreign v)) (map Foreign w) ≡ with_register d
    (fold extended_digest_of (fold extended_digest_of d.register v) w)
two_brought i d v w =
    ap (λ (e : Digests). state_after_moves (digest_level i) e (map Foreign w)) (foreign_made i d v)
    ∙ foreign_made i (with_register d (fold extended_digest_of d.register v)) w

pub seen_is : (i : Instance) (d : Digests) (v w : List (List ℕ)) → state_after_moves (digest_level i) d
    (map Foreign v ++ (map Foreign w ++ []))
    ≡ state_after_moves (digest_level i) (state_after_moves (digest_level i) d (map Foreign v)) (map Foreign w)
seen_is i d v w =
    state_after_moves-append i d (map Foreign v) (map Foreign w ++ [])
    ∙ ap (λ (ms : List Move). state_after_moves (digest_level i) (state_after_moves (digest_level i) d (map Foreign v)) ms)
    (append-nil (map Foreign w))

-- The changing steps

pub change_inside : (meaning : Meaning) (key barrier : List ℕ) (d : Digests) (b : Batch) (value : List ℕ) → d.flag ≡ true
    → value ≡ guard barrier b → IsChange (opt_instance meaning key barrier) d (ExtendRegister value) (Commit b)
change_inside meaning key barrier d b value is_open value_is =
    let i : Instance = opt_instance meaning key barrier in
    rw value_is (subst (λ (f : Bool). IsChange i (record d { flag = f }) (ExtendRegister (guard barrier b)) (Commit b)) (sym is_open)
    (record { cell = λ r. refl; register = λ r. refl; shows = λ items. refl }))

shows_reset : (flag : Bool) (i : Instance) (items : List Item) → items_after_move Opt flag i Reset items ≡ []
shows_reset true i items = refl
shows_reset false i items = refl

shows_placed : (flag : Bool) (i : Instance) (b : Batch) (items : List Item)
    → items_after_move Opt flag i (Placed b) items ≡ items ++ own_item (guard i.barrier b) ∷ []
shows_placed true i b items = refl
shows_placed false i b items = refl

pub change_emptied : (meaning : Meaning) (key barrier : List ℕ) (d : Digests) → IsChange (opt_instance meaning key barrier) d
    ResetRegister Reset
change_emptied meaning key barrier d =
    record { cell = λ r. refl; register = λ r. refl; shows = shows_reset d.flag (opt_instance meaning key barrier) }

pub change_placed : (meaning : Meaning) (key barrier : List ℕ) (d : Digests) (b : Batch) (value : List ℕ) → value ≡ guard barrier b
    → IsChange (opt_instance meaning key barrier) d (ExtendRegister value) (Placed b)
change_placed meaning key barrier d b value value_is =
    rw value_is (record { cell = λ r. refl; register = λ r. refl; shows = shows_placed d.flag (opt_instance meaning key barrier) b })

-- the cell of these digests, with the flag set
abbrev pub opened_at : Instance → Digests → Cell
opened_at i d = record (cell_at i d) { flag = true }

pub write_opened : (meaning : Meaning) (key barrier : List ℕ) (d : Digests) (b : Batch) (next : List ℕ) → d.flag ≡ false
    → IsCell (cell_at (opt_instance meaning key barrier) d) → next ≡ cell_spelling (opened_at (opt_instance meaning key barrier) d)
    → IsWrite (opt_instance meaning key barrier) d next (Commit b)
write_opened meaning key barrier d b next shut spells next_is =
    subst (λ (f : Bool). IsWrite (opt_instance meaning key barrier) (record d { flag = f }) next (Commit b)) (sym shut) (record {
      spells = record { summary = spells.summary; key = spells.key; barrier = spells.barrier; variant = tt };
      cell = next_is;
      register = refl;
      shows = λ items. refl;
    })

-- what moves of an opening before its last leave of the digests
pub reset_kept : (i : Instance) (d : Digests) (v : List (List ℕ))
    → state_after_moves (digest_level i) d (map Foreign v ++ Reset ∷ []) ≡ with_register d zero_bytes
reset_kept i d v =
    state_after_moves-append i d (map Foreign v) (Reset ∷ []) ∙ ap (λ (e : Digests). digests_after i e Reset) (foreign_made i d v)

pub placed_kept : (i : Instance) (d : Digests) (v : List (List ℕ)) (b : Batch)
    → state_after_moves (digest_level i) d (map Foreign v ++ Placed b ∷ []) ≡ with_register d
    (extended_digest_of (fold extended_digest_of d.register v) (guard i.barrier b))
placed_kept i d v b =
    state_after_moves-append i d (map Foreign v) (Placed b ∷ []) ∙ ap (λ (e : Digests). digests_after i e (Placed b)) (foreign_made i d v)

-- What was read

same_number : (n : ℕ) → nat_eq n n ≡ true
same_number n = grind (arith, nat_tests)

-- the cell that is found
pub seen_cell : (meaning : Meaning) (key barrier : List ℕ) (d : Digests) (old : Standing) (found : Result Cell Refusal)
    → CellSays old (λ bytes. SeesCell meaning.id bytes found) → StandsAt (opt_instance meaning key barrier) old d
    → found ≡ Ok (cell_at (opt_instance meaning key barrier) d)
seen_cell meaning key barrier d old found f s =
    let i : Instance = opt_instance meaning key barrier in
    let same : f.said.read ≡ Ok (cell_at i d) =
    reads_cell-same f.bytes f.said.read (Ok (cell_at i d)) f.said.reads (s.spells, f.told (cell_spelling (cell_at i d)) s.cell) in
    f.said.found_is ∙ simp (same, same_number meaning.id)

-- the register's value that is read
read_value : (items : Option (List Item)) (r register : List ℕ) → register_of_items items ≡ Some r
    → ((xs : List Item) → items ≡ Some xs → register ≡ register_after (item_values xs)) → register ≡ r
read_value None r register e h = cc
read_value (Some xs) r register e h = let f : register_after (item_values xs) ≡ r = cc in h xs refl ∙ f

pub read_is : (meaning : Meaning) (key barrier : List ℕ) (d : Digests) (old one two : Standing) (fault : Option StepFault)
    (r : StepGoes ReadCell old one None) (g : StepGoes ReadRegister one two fault) (register : List ℕ)
    → StandsAt (opt_instance meaning key barrier) old d
    → ((xs : List Item) → two.items ≡ Some xs → register ≡ register_after (item_values xs))
    → register ≡ fold extended_digest_of (fold extended_digest_of d.register r.others) g.others
read_is meaning key barrier d old one two fault r g register s told =
    let before : List ℕ = fold extended_digest_of d.register r.others in
    read_value two.items (fold extended_digest_of before g.others) register
    (ap register_of_items g.items ∙ reads_beside one.items g.others before
    (ap register_of_items r.items ∙ reads_beside old.items r.others d.register s.reads)) told
