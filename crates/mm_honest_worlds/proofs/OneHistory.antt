-- Where no segment is open, and none that is closed holds a value of others, a cell stands for the batches of one history alone. With
-- it: what is known of a store goes on with a history.
use Rattle.std.specs.List.{AllByRecursion, Contains, flat_map}
use Rattle.std.specs.Prelude.{if◌then◌else◌}
use Rattle.std.proofs.Common.{◌≡◌, ◌∙◌, ◌++◌, ℕ, Bool, true, false, List, [], ◌∷◌, Option, Some, Ok, map, refl, sym, ap, subst}
use Rattle.std.proofs.Common.{inl, inr}
use Rattle.std.proofs.lemmas.List.{append-nil}
use Rattle.std.proofs.lemmas.List.Elements.{All-contains, All-from_recursion}
use Rattle.mm_digest.specs.Messages.{start_digest_of, start_message}
use Rattle.mm_digest.specs.declared.variant.Variant.{Variant}
use Rattle.mm_digest.specs.declared.variant.Variant.TheVariants.{Basic, Opt}
use Rattle.mm_seal.specs.Snapshot.{Content}
use Rattle.mm_seal.specs.declared.cell.Cell.{Cell}
use Rattle.mm_platform.specs.Standing.{Standing}
use Rattle.mm_module.specs.Batch.{Batch}
use Rattle.mm_module.specs.Meaning.{Meaning}
use Rattle.mm_model.specs.Chains.{Instance, closing_message, guard_message, opt_instance, own_values, trail}
use Rattle.mm_model.specs.History.{History, RegisterEntry, items_of_all, total_of, values_of}
use Rattle.mm_model.specs.ListLaws.{each_left, each_right, same_anchors, same_own_values, same_summaries}
use Rattle.mm_model.specs.Messages.{AreMessagesIn, AreNoGuards, IsClear, counted_entries, register_trail, values_in}
use Rattle.mm_model.specs.SegmentLaws.{has_value-append, joined-push, joined-values, meets, true_not_false, values_of-clean}
use Rattle.mm_model.specs.Standing.{IsMarred, IsSound, NamesPosition, StandsFor, batches_in, cell_of, has_value}
use Rattle.mm_model.proofs.Above.{shut_current}
use Rattle.mm_call.specs.CallPremises.{IsWithin}
use Rattle.mm_move.specs.Cells.{moved_cell_of, moved_spelling}
use Rattle.mm_move.specs.Orders.{barrier_of}
use Rattle.mm_move.specs.declared.cell.MovedCell.TheVariants as moved
use Rattle.mm_move.specs.declared.link.Link.{Link}
use Rattle.mm_move.proofs.Above.{moved_back}
use Rattle.mm_recovery.proofs.Above.{fits_on}
use Rattle.mm_worlds.specs.Premises.{instance_at}
use Rattle.mm_worlds.proofs.Above.{IsUnmarred}
use Rattle.mm_honest_worlds.specs.GoingOn.{StoreFits}
use Rattle.mm_honest_worlds.specs.HostStores.{Arrived, HostStore, LeftAs, Unknown}

-- a history whose last closed segment holds a value of others holds one
marred_has : (y : History) → IsMarred y → has_value (items_of_all y.closed) ≡ true
marred_has y h = rw (h.split, joined-push h.before h.last, has_value-append (items_of_all h.before) h.last, h.clean) h.marred

-- the batches of one that holds none, where no segment is open
shut_batches : (y : History) → IsSound y → y.is_open ≡ false → has_value (items_of_all y.closed) ≡ false
    → y.batches ≡ batches_in (items_of_all y.closed)
shut_batches y sound shut clean = elim sound.history [
  | inl h ↦
      h.batches ∙ ap (λ (bs : List Batch). batches_in (items_of_all y.closed) ++ bs) (shut_current y sound shut)
      ∙ append-nil (batches_in (items_of_all y.closed))
  | inr h ↦ absurd (true_not_false (sym (marred_has y h) ∙ clean))
]

module _ (meaning : Meaning) (key barrier : List ℕ) (all others : List (List ℕ)) (asked : List Batch) (clear : IsClear all)
    (apart : AreNoGuards barrier others asked) where
  abbrev O : Instance
  O = opt_instance meaning key barrier

  abbrev segments_in : History → List (List (List ℕ))
  segments_in y = map (values_of barrier) y.closed

  -- the messages of a history, of its batches and its closed segments
  record Listed (y : History) : Type 0 where
    starts : Contains all (start_message Opt meaning.id)
    guards : AreMessagesIn (map (guard_message barrier) y.batches) all
    inner : AllByRecursion (λ vs. AreMessagesIn (register_trail vs) all) (segments_in y)
    outer : AreMessagesIn (trail closing_message (start_digest_of Opt meaning.id) (segments_in y)) all

  each_segment : (segments : List (List RegisterEntry))
      → AreMessagesIn (flat_map (λ segment. register_trail (values_of barrier segment)) segments) all
      → AllByRecursion (λ vs. AreMessagesIn (register_trail vs) all) (map (values_of barrier) segments)
  each_segment [] h = tt
  each_segment (segment ∷ segments) h = (
    each_left (Contains all) (register_trail (values_of barrier segment)) _ h,
    each_segment segments (each_right (Contains all) (register_trail (values_of barrier segment)) _ h),
  )

  listed_of : (y : History) → IsWithin all others asked O y → Listed y
  listed_of y within =
      let four = each_left (Contains all) _ _ within.listed.1 in
      let three = each_left (Contains all) _ _ four in
      let two = each_left (Contains all) _ _ three in
      record {
        starts = within.listed.0;
        guards = each_left (Contains all) _ _ two;
        inner = each_segment y.closed (each_right (Contains all) _ _ three);
        outer = each_right (Contains all) _ _ within.listed.1;
      }

  module _ (y z : History) (v : IsWithin all others asked O y) (w : IsWithin all others asked O z) (shut : y.is_open ≡ false)
      (closed : z.is_open ≡ false) (clean : has_value (items_of_all y.closed) ≡ false)
      (values : values_of barrier (items_of_all z.closed) ≡ own_values barrier y.batches) where
    counted : counted_entries z ≡ items_of_all z.closed
    counted =
        ap (λ (flag : Bool). items_of_all z.closed ++ (if flag then z.items else [])) closed ∙ append-nil (items_of_all z.closed)

    unmarred_too : (flag : Bool) → has_value (items_of_all z.closed) ≡ flag → has_value (items_of_all z.closed) ≡ false
    unmarred_too false e = e
    unmarred_too true e =
        let m = meets barrier (items_of_all z.closed) y.batches e values in
        let outside : AllByRecursion (Contains others) (values_in (items_of_all z.closed)) =
        subst (λ (entries : List RegisterEntry). AllByRecursion (Contains others) (values_in entries)) counted w.outside in
        absurd (apart m.value m.batch
        (All-contains (Contains others) (values_in (items_of_all z.closed)) m.value (All-from_recursion (Contains others)
        (values_in (items_of_all z.closed)) outside) m.among)
        (All-contains (Contains asked) y.batches m.batch (All-from_recursion (Contains asked) y.batches v.batches) m.asked) m.same)

    opt_batches : z.batches ≡ y.batches
    opt_batches =
        let here = unmarred_too (has_value (items_of_all z.closed)) refl in
        same_own_values barrier all clear z.batches y.batches (listed_of z w).guards (listed_of y v).guards
        (ap (own_values barrier) (shut_batches z w.sound closed here)
        ∙ sym (values_of-clean barrier (items_of_all z.closed) here) ∙ values)

  opt_one : (y z : History) → IsWithin all others asked O y → IsWithin all others asked O z → y.is_open ≡ false → z.is_open ≡ false
      → has_value (items_of_all y.closed) ≡ false → (cell_of O y).summary.bytes ≡ (cell_of O z).summary.bytes → z.batches ≡ y.batches
  opt_one y z v w shut closed clean anchors =
      let s = listed_of y v in
      let t = listed_of z w in
      let segments : segments_in y ≡ segments_in z =
      same_anchors meaning.id all clear s.starts (segments_in y) (segments_in z) s.inner t.inner s.outer t.outer anchors in
      opt_batches y z v w shut closed clean
      (sym (joined-values barrier z.closed) ∙ ap items_of_all (sym segments) ∙ joined-values barrier y.closed
      ∙ values_of-clean barrier (items_of_all y.closed) clean
      ∙ ap (own_values barrier) (sym (shut_batches y v.sound shut clean)))

same_cell : (cell : Option (List ℕ)) (c d : Cell) → cell ≡ Some (moved_spelling (moved.Live c))
    → cell ≡ Some (moved_spelling (moved.Live d)) → moved_cell_of (moved_spelling (moved.Live c)) ≡ Ok (moved.Live c)
    → moved_cell_of (moved_spelling (moved.Live d)) ≡ Ok (moved.Live d) → c ≡ d
same_cell cell c d e f r s =
    let bytes : moved_spelling (moved.Live c) ≡ moved_spelling (moved.Live d) = (let both : Some (moved_spelling (moved.Live c))
    ≡ Some (moved_spelling (moved.Live d)) = sym e ∙ f in cc) in
    let both : Ok (moved.Live c) ≡ Ok (moved.Live d) = sym r ∙ ap moved_cell_of bytes ∙ s in cc

by_variant : (variant : Variant) (meaning : Meaning) (link : Link) (key : List ℕ) (all others : List (List ℕ)) (asked : List Batch)
    → IsClear all → AreNoGuards (barrier_of variant link) others asked → (y z : History)
    → IsWithin all others asked (instance_at variant meaning link key) y
    → IsWithin all others asked (instance_at variant meaning link key) z
    → y.is_open ≡ false → IsUnmarred variant y
    → cell_of (instance_at variant meaning link key) y ≡ cell_of (instance_at variant meaning link key) z → z.batches ≡ y.batches
by_variant Basic meaning link key all others asked clear apart y z v w shut unmarred cells =
    same_summaries meaning.id all clear v.listed.0 z.batches y.batches w.listed.1 v.listed.1
    (sym (ap (λ (c : Cell). c.summary.bytes) cells))
by_variant Opt meaning link key all others asked clear apart y z v w shut unmarred cells =
    opt_one meaning key link.barrier all others asked clear apart y z v w shut (sym (ap (λ (c : Cell). c.flag) cells) ∙ shut) unmarred
    (ap (λ (c : Cell). c.summary.bytes) cells)

-- what stands for both is of the same batches
pub one_history : (variant : Variant) (meaning : Meaning) (link : Link) (key : List ℕ) (all others : List (List ℕ)) (asked : List Batch)
    → IsClear all → AreNoGuards (barrier_of variant link) others asked → (standing : Standing) (y z : History)
    → StandsFor (instance_at variant meaning link key) standing y → StandsFor (instance_at variant meaning link key) standing z
    → IsWithin all others asked (instance_at variant meaning link key) y
    → IsWithin all others asked (instance_at variant meaning link key) z
    → y.is_open ≡ false → IsUnmarred variant y → z.batches ≡ y.batches
one_history variant meaning link key all others asked clear apart standing y z s t v w shut unmarred =
    let i : Instance = instance_at variant meaning link key in
    by_variant variant meaning link key all others asked clear apart y z v w shut unmarred
    (same_cell standing.cell (cell_of i y) (cell_of i z) s.cell t.cell (moved_back (moved.Live (cell_of i y)) s.spells)
    (moved_back (moved.Live (cell_of i z)) t.spells))

-- to a history of the same batches that names what this one names
pub store_on : (i : Instance) (y z : History) → z.batches ≡ y.batches
    → ((content : Content) → NamesPosition i y content → NamesPosition i z content) → (store : HostStore) → StoreFits i y store
    → StoreFits i z store
store_on i y z same names Unknown f = tt
store_on i y z same names (LeftAs kept) f = record {
  honest = f.honest;
  slots = f.slots;
  told = f.told;
  fits = record {
    waiting = f.fits.waiting;
    is_waiting = f.fits.is_waiting;
    fits = fits_on i f.slots y z same names f.fits.waiting f.fits.fits;
  };
}
store_on i y z same names (Arrived accepted) f = (
  record { content = f.0.content; right = f.0.right; names = names f.0.content f.0.names; at = f.0.at },
  f.1 ∙ ap total_of (sym same),
)
