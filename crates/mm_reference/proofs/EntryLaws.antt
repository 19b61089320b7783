-- Loops over a register's entries. With it: a machine that runs one more request.
use Rattle.std.specs.Prelude.{Vec, IsTrue}
use Rattle.std.proofs.Common.{ℕ, ◌≡◌, ◌+◌, ◌<◌, Bool, true, false, ◌||◌, List, [], ◌∷◌, ◌++◌, length, drop, get_or, refl, sym, ap, ◌∙◌}
use Rattle.std.proofs.Common.{arith, subst}
use Rattle.std.proofs.lemmas.Bool.{and_parts, false_from_ne_true}
use Rattle.std.proofs.lemmas.List.{drop_more, length-map}
use Rattle.mm_module.specs.Batch.{Batch}
use Rattle.mm_module.specs.Meaning.{IsLawful, Meaning, state_after}
use Rattle.mm_module.specs.RunLaws.{state_after-push, last_output_after-push, state_after-is_spelled}
use Rattle.mm_model.specs.History.{RegisterEntry, items_of_all}
use Rattle.mm_model.specs.History as own
use Rattle.mm_model.specs.SegmentLaws.{has_value-append, true_not_false}
use Rattle.mm_model.specs.Standing.{is_same_batch, has_value, are_own}
use Rattle.mm_model.specs.Verdicts.{kept_batch, kept_batches, kept_entries, kept_entry, kept_segments}
use Rattle.mm_model.specs.declared.kept.KeptBatch.{KeptBatch}
use Rattle.mm_model.specs.declared.kept.KeptEntry.{KeptEntry}
use Rattle.mm_reference.specs.Run.{IsStateOfRun}

-- whether a value stands in the segment or behind it, where the segments before have none
pub segment_tells : {A : Type 0} (segments : List (Vec KeptEntry A)) (i : ℕ) (segment : Vec KeptEntry A) (has : Bool) → i < length segments
    → segment ≡ get_or segments i segment → has_value (kept_entries segment.items) ≡ has
    → has_value (items_of_all (kept_segments (drop i segments))) ≡ has_value (items_of_all (kept_segments segments))
    → (has || has_value (items_of_all (kept_segments (drop (i + 1) segments)))) ≡ has_value (items_of_all (kept_segments segments))
segment_tells {A} segments i segment has l is v so_far =
    let rest = items_of_all (kept_segments (drop (i + 1) segments)) in
    sym (ap (λ (s : List (Vec KeptEntry A)). has_value (items_of_all (kept_segments s))) (drop_more segments i segment l)
    ∙ ap (λ (s : Vec KeptEntry A). has_value (kept_entries s.items ++ rest)) (sym is)
    ∙ has_value-append (kept_entries segment.items) rest ∙ ap (λ (b : Bool). b || has_value rest) v) ∙ so_far

-- entries and batches of different numbers are not the same
own_lengths : (entries : List RegisterEntry) (batches : List Batch) → are_own entries batches ≡ true → length entries ≡ length batches
own_lengths [] [] o = refl
own_lengths (own.Own b ∷ entries) (c ∷ batches) o =
    let h = own_lengths entries batches ((and_parts (is_same_batch b c) (are_own entries batches) o).1) in omega (arith, h)
own_lengths _ _ o = absurd (true_not_false (sym o))

pub other_lengths : (entries : List KeptEntry) (batches : List KeptBatch) → (length entries ≡ length batches → ⊥)
    → false ≡ are_own (kept_entries entries) (kept_batches batches)
other_lengths entries batches n =
    sym (false_from_ne_true (are_own (kept_entries entries) (kept_batches batches)) (λ o.
    n (sym (length-map entries kept_entry) ∙ own_lengths (kept_entries entries) (kept_batches batches) o ∙ length-map batches kept_batch)))

-- A machine that runs one more request.

-- the state that a machine passes to its module is spelled
pub spelled_at : (meaning : Meaning) → IsLawful meaning → (requests : List (List ℕ)) (state seen : List ℕ)
    → state ≡ state_after meaning requests → seen ≡ state → IsTrue (meaning.is_spelled seen)
spelled_at meaning lawful requests state seen e f =
    subst (λ (s : List ℕ). IsTrue (meaning.is_spelled s)) (sym (f ∙ e)) (state_after-is_spelled meaning lawful requests)

pub IsStateOfRun-push : (meaning : Meaning) (requests items : List (List ℕ)) (request state seen output next said : List ℕ)
    → IsStateOfRun meaning requests state output → seen ≡ state → next ≡ meaning.next seen request → said ≡ meaning.says seen request
    → items ≡ requests ++ request ∷ [] → IsStateOfRun meaning items next said
IsStateOfRun-push meaning requests items request state seen output next said run s n o i =
    record {
      state_is = rw (n, s, run.state_is, i) (sym (state_after-push meaning requests request));
      output_is = rw (o, s, run.state_is, i) (sym (last_output_after-push meaning requests request));
    }
