use Rattle.mm_history.proofs.Below.{ℕ, ◌≡◌, ◌+◌, List, [], ◌∷◌, ◌++◌, length, refl, sym, ap, ◌∙◌, arith, map-append, MatchOption}
use Rattle.mm_history.proofs.Below.{option_to_list, KeptBatch, KeptEntry, kept_batch, kept_entry, kept_entries, RegisterEntry}
use Rattle.mm_history.proofs.Below.{entries_with_last_batch, renamed-push}
use Rattle.std.specs.Prelude.{Option, None, Some}
use Rattle.std.proofs.Common.{vec_len}
use Rattle.mm_model.specs.declared.kept.KeptEntry.TheVariants as kept
use Rattle.mm_history.proofs.lists.rename_last.Goals as goal

length-zero : {A : Type 0} (xs : List A) → length xs ≡ 0 → xs ≡ []
length-zero [] e = refl
length-zero (x ∷ xs) e = absurd (omega (arith, e))

-- the last entry gives way
renamed_in : (old front new : List KeptEntry) (last : Option KeptEntry) (batch : KeptBatch) → old ≡ front ++ option_to_list last
    → new ≡ front ++ kept.Own batch ∷ [] → (n m : ℕ) → MatchOption last ((n ≡ 0) × (m ≡ 0)) (λ x. m + 1 ≡ n) → m ≡ length front
    → kept_entries new ≡ entries_with_last_batch (kept_entries old) (kept_batch batch)
renamed_in old front new None batch was is n m none sized =
    let empty : front ≡ [] = length-zero front (sym sized ∙ none.1) in
    ap kept_entries (is ∙ ap (λ (v : List KeptEntry). v ++ kept.Own batch ∷ []) empty)
    ∙ ap (λ (v : List KeptEntry). entries_with_last_batch (kept_entries v) (kept_batch batch))
    (sym (was ∙ ap (λ (v : List KeptEntry). v ++ []) empty))
renamed_in old front new (Some x) batch was is n m some sized = ap kept_entries is ∙ map-append kept_entry front (kept.Own batch ∷ [])
    ∙ sym (renamed-push (kept_entries front) (kept_entry x) (kept_batch batch))
    ∙ sym (ap (λ (v : List RegisterEntry). entries_with_last_batch v (kept_batch batch))
    (ap kept_entries was ∙ map-append kept_entry front (x ∷ [])))

pub returns : goal.returns
returns c = renamed_in c.args.items.now.items c.pop.new.self.items c.push_reserved.new.self.items c.pop.result c.args.batch
    c.pop.ensures.items c.push_reserved.ensures.items (vec_len c.args.items.now) (vec_len c.pop.new.self) c.pop.ensures.cases
    c.pop.new.self.ok.0
