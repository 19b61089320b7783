-- The tally's listing.
use Rattle.std.specs.Prelude.{ℕ, ◌%◌, ◌==◌, List, codes, if◌then◌else◌}
use Rattle.std.proofs.Common.{refl, arith}
use Rattle.mm_module.specs.LineLaws.{IsText}
use Rattle.mm_listing.specs.Listing.{Listing, listing_of, IsListing}
use Rattle.mm_listing.specs.RequestLaws.{in_both, listed, word}
use Rattle.mm_tally.specs.Promise.{TellsMarks}
use Rattle.mm_tally.specs.PromiseLaws.{tells-marks}
use Rattle.mm_tally.specs.Table.{tally}
use Rattle.mm_tally.specs.TallyLaws.{tally_is_lawful}

abbrev pub tally_request : ℕ → List ℕ
tally_request choice = if choice % 4 == 0 then codes "read" else codes "mark"

abbrev pub tally_listing : Listing
tally_listing =
    listing_of (codes "tally") tally tally_request
    (λ requests tellings. TellsMarks requests tellings)

asks : (choice : ℕ) → IsText 256 (tally_request choice)
asks choice =
    in_both (IsText 256) (choice % 4 == 0) _ _ (word (codes "read") refl (omega arith))
    (word (codes "mark") refl (omega arith))

pub tally_is_listed : IsListing tally tally_listing
tally_is_listed =
    listed tally_listing (record { begins = refl; letters = refl; other = refl })
    tally_is_lawful asks tells-marks
