-- The dispenser's listing. With it: the requests of generated schedules.
use Rattle.std.specs.Fmt.{decimal}
use Rattle.std.specs.Prelude.{ℕ, ◌+◌, ◌/◌, ◌%◌, ◌==◌, List, ◌++◌, if◌then◌else◌, codes}
use Rattle.std.proofs.Common.{refl, arith}
use Rattle.mm_module.specs.LineLaws.{IsText}
use Rattle.mm_listing.specs.Listing.{Listing, listing_of, IsListing}
use Rattle.mm_listing.specs.RequestLaws.{counted, in_both, listed}
use Rattle.mm_dispenser.specs.DispenserLaws.{dispenser_is_lawful}
use Rattle.mm_dispenser.specs.PlaceLaws.{keeps-apart}
use Rattle.mm_dispenser.specs.Promise.{KeepsPlacesApart}
use Rattle.mm_dispenser.specs.Table.{dispenser}

-- The requests of generated schedules.

abbrev pub dispenser_request : ℕ → List ℕ
dispenser_request choice =
    if choice % 4 == 0
    then codes "seed 0000000000000000000000000000000000000000000000000000000000000000"
    else codes "draw " ++ decimal (choice / 4 % 16 + 1)

-- The dispenser's listing.

abbrev pub dispenser_listing : Listing
dispenser_listing =
    listing_of (codes "dispenser") dispenser dispenser_request
    (λ requests tellings. KeepsPlacesApart requests tellings)

asks : (choice : ℕ) → IsText 256 (dispenser_request choice)
asks choice =
    in_both (IsText 256) (choice % 4 == 0) _ _ (record { short = omega arith; unbroken = refl })
    (counted (codes "draw ") (choice / 4 % 16 + 1) refl (omega arith) (omega arith))

pub dispenser_is_listed : IsListing dispenser dispenser_listing
dispenser_is_listed =
    listed dispenser_listing (record { begins = refl; letters = refl; other = refl })
    dispenser_is_lawful asks keeps-apart
