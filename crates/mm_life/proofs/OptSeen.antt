-- Opt: what the register shows behind a part of a life, and what is asked of it.
use Rattle.std.specs.List.{Contains}
use Rattle.std.specs.Option.{option_map}
use Rattle.std.proofs.Common.{◌≡◌, ◌∙◌, ◌++◌, ℕ, true, false, List, [], ◌∷◌, Option, None, Some, refl, sym, ap}
use Rattle.std.proofs.Common.{append_assoc}
use Rattle.std.proofs.lemmas.List.{map-append, take_at}
use Rattle.mm_digest.specs.Messages.{anchored_message, extended_message, zero_bytes}
use Rattle.mm_seal.specs.Cell.{IsCell, cell_spelling}
use Rattle.mm_seal.specs.declared.cell.Cell.{Cell}
use Rattle.mm_platform.specs.Standing.{Item, Standing, item_values, register_after}
use Rattle.mm_module.specs.Meaning.{Meaning}
use Rattle.mm_model.specs.ListLaws.{after-append, register_folds}
use Rattle.mm_model.specs.Chains.{digest_after, register_of, Instance, opt_instance}
use Rattle.mm_model.specs.FormLaws.{reads_zero}
use Rattle.mm_model.specs.History.{History, first_history, register_value_of}
use Rattle.mm_model.specs.Messages.{AreMessagesIn}
use Rattle.mm_model.specs.Standing.{StandsFor, cell_of}
use Rattle.mm_call.specs.CallPremises.{counted_part, AreShown}
use Rattle.mm_call.proofs.Above.{counted_open, shown_back, shown_shut}
use Rattle.mm_callers.specs.Opt.{MayClose}
use Rattle.mm_life.specs.Premises.{possible_closings, digest_in, IsSeen}
use Rattle.mm_life.specs.Stages.{LifePart}

-- an empty register's value
register_none : (i : Instance) → register_value_of i (counted_part first_history) ≡ zero_bytes
register_none i = reads_zero

register_is : (values : List (List ℕ)) → digest_after extended_message zero_bytes values ≡ register_of values
unfolding register_of
register_is values = refl

-- the register's items from the first on
seen_first : (all others : List (List ℕ)) (i : Instance) (old : Standing) (part : LifePart) (final : Standing) (items : List Item)
    → IsSeen all others old part final → final.items ≡ Some items → AreShown all others i first_history items
seen_first all others i old part final items seen known = record {
  messages = rw (register_none i) (rw known at seen.registers);
  values = rw known at seen.values;
}

-- the messages of each closing
closing_at : (all : List (List ℕ)) (anchor : List ℕ) (first : List (List ℕ)) (register : List ℕ) (values later : List (List ℕ))
    → AreMessagesIn (possible_closings anchor register values) all → first ++ later ≡ values
    → Contains all (anchored_message anchor (digest_after extended_message register first))
closing_at all anchor [] register [] later w e = w.0
closing_at all anchor [] register (v ∷ values) later w e = w.0
closing_at all anchor (f ∷ first) register [] later w e = absurd (cc)
closing_at all anchor (f ∷ first) register (v ∷ values) later w e =
    let same : f ≡ v = cc in
    let rest : first ++ later ≡ values = cc in
    rw same (closing_at all anchor first (digest_after extended_message register (v ∷ [])) values later w.1 rest)

-- a cell's digest stands in its bytes
digest_is : (cell : Cell) → IsCell cell → digest_in (cell_spelling cell) ≡ cell.summary.bytes
unfolding cell_spelling
digest_is cell is = take_at cell.summary.bytes (cell.key ++ cell.barrier) 32 is.summary

module _ (meaning : Meaning) (key barrier : List ℕ) where
  abbrev I : Instance
  I = opt_instance meaning key barrier

  -- where it stands for a history the items are told
  pub items_told : (reads : Option (List Item)) (value : List ℕ)
      → option_map (λ items. register_after (item_values items)) reads ≡ Some value
      → (items : List Item) × (reads ≡ Some items)
  items_told None value e = absurd (cc)
  items_told (Some items) value e = (items, refl)

  reads_value : (standing : Standing) (y : History) (items : List Item) → StandsFor I standing y → standing.items ≡ Some items
      → register_after (item_values items) ≡ register_value_of I y
  reads_value standing y items s known =
      let reads : Some (register_after (item_values items)) ≡ Some (register_value_of I y) =
      ap (λ (x : Option (List Item)). option_map (λ xs. register_after (item_values xs)) x) (sym known) ∙ s.register in
      cc

  value_from : (standing : Standing) (y : History) (items : List Item) → StandsFor I standing y → standing.items ≡ Some items
      → register_value_of I y ≡ digest_after extended_message zero_bytes (item_values items)
  value_from standing y items s known =
      sym (reads_value standing y items s known) ∙ register_folds (item_values items) ∙ sym (register_is (item_values items))

  module _ (all others : List (List ℕ)) (y : History) (old : Standing) (part : LifePart) (final : Standing)
      (seen : IsSeen all others old part final) (stands : StandsFor I old y) where
    -- with a segment open: behind what it had shown
    pub seen_open : (items more : List Item) → old.items ≡ Some items → y.is_open ≡ true → final.items ≡ Some (items ++ more)
        → AreShown all others I y more
    seen_open items more known e ends =
        shown_back all others I first_history y items more
        (ap (register_value_of I) (counted_open y e) ∙ value_from old y items stands known
        ∙ ap (λ (r : List ℕ). digest_after extended_message r (item_values items)) (sym (register_none I)))
        (seen_first all others I old part final (items ++ more) seen ends)

    pub seen_shut : (items : List Item) → y.is_open ≡ false → final.items ≡ Some items → AreShown all others I y items
    seen_shut items e ends =
        shown_shut all others I first_history y items refl e (seen_first all others I old part final items seen ends)

    -- the messages by which the segment may be closed
    pub seen_closing : (items more : List Item) → old.items ≡ Some items → y.is_open ≡ true
        → AreMessagesIn (possible_closings (digest_in (cell_spelling (cell_of I y))) zero_bytes (item_values (items ++ more))) all
        → MayClose all I y more
    seen_closing items more known e w first later s =
        let value : register_value_of I (counted_part y) ≡ digest_after extended_message zero_bytes (item_values items) =
        ap (register_value_of I) (counted_open y e) ∙ value_from old y items stands known in
        let whole : (item_values items ++ first) ++ later ≡ item_values (items ++ more) =
        append_assoc (item_values items) first later ∙ ap (λ (vs : List (List ℕ)). item_values items ++ vs) s
        ∙ sym (map-append (λ (item : Item). item.value) items more) in
        let there = closing_at all (digest_in (cell_spelling (cell_of I y))) (item_values items ++ first) zero_bytes
        (item_values (items ++ more)) later w whole in
        rw (digest_is (cell_of I y) stands.spells, after-append extended_message zero_bytes (item_values items) first, ← value) at there
