use Rattle.mm_outcome.proofs.Below.{◌≡◌, ℕ, List, ◌+◌, ◌<◌, get_or, length, sym, ◌∙◌, arith, range_with_len, ext_get_or}
use Rattle.std.proofs.Math.ListN.{length-set}
use Rattle.std.proofs.lemmas.List.Edits.{fill_by_more}
use Rattle.std.proofs.lemmas.List.FromFn.{length-range_with_len, get_or-range_with_len}
use Rattle.mm_outcome.specs.OneRun.{rising_bytes_from}
use Rattle.mm_outcome.proofs.keys.rising.Goals as goal

is_rising : (bytes : List ℕ) (first : ℕ) → length bytes ≡ 32 → ((k : ℕ) → k < 32 → get_or bytes k 0 ≡ first + k)
    → bytes ≡ rising_bytes_from first
unfolding rising_bytes_from
is_rising bytes first size each = ext_get_or 0 bytes (range_with_len first 32) (size ∙ sym (length-range_with_len first 32))
    (λ i below. let h : i < 32 = omega arith in each i h ∙ sym (get_or-range_with_len first 32 i 0 h))

pub loop-place-preserved : goal.loop-place-preserved
loop-place-preserved c =
    let size = c.loop-place.invariant.0 in
    let below : c.loop-place.place < length c.loop-place.bytes = omega arith in (
      length-set c.loop-place.bytes c.loop-place.place (c.args.first + c.loop-place.place) ∙ size,
      fill_by_more (λ (k : ℕ). c.args.first + k) c.loop-place.bytes c.loop-place.place 0 below c.loop-place.invariant.1,
    )

pub returns : goal.returns
returns c = is_rising c.loop-place.bytes c.args.first c.loop-place.invariant.0 (λ k below. c.loop-place.invariant.1 k (omega arith))
