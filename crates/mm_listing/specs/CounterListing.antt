-- The counter's listing.
use Rattle.std.specs.Prelude.{ℕ, ◌/◌, ◌%◌, ◌==◌, List, ◌++◌, if◌then◌else◌, codes}
use Rattle.std.proofs.Common.{refl, arith}
use Rattle.std.specs.Fmt.{decimal}
use Rattle.mm_module.specs.RunLaws.{counter_is_lawful}
use Rattle.mm_module.specs.Meaning.{counter}
use Rattle.mm_module.specs.LineLaws.{IsText}
use Rattle.mm_listing.specs.Listing.{Listing, listing_of, IsListing, PromisesNothing}
use Rattle.mm_listing.specs.RequestLaws.{counted, in_both, listed, word}

abbrev pub counter_request : ℕ → List ℕ
counter_request choice =
    if choice % 4 == 0 then codes "read"
    else codes "add " ++ decimal (choice / 4 % 1000)

abbrev pub counter_listing : Listing
counter_listing =
    listing_of (codes "counter") counter counter_request PromisesNothing

asks : (choice : ℕ) → IsText 256 (counter_request choice)
asks choice =
    in_both (IsText 256) (choice % 4 == 0) _ _ (word (codes "read") refl (omega arith))
    (counted (codes "add ") (choice / 4 % 1000) refl (omega arith) (omega arith))

pub counter_is_listed : IsListing counter counter_listing
counter_is_listed =
    listed counter_listing (record { begins = refl; letters = refl; other = refl })
    counter_is_lawful asks (λ requests tellings said. tt)
