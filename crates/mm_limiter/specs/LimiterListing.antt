-- The limiter's listing. With it: the requests of generated schedules; the values of the code as
-- those of the table.
use Rattle.std.specs.Fmt.{decimal}
use Rattle.std.specs.Prelude.{ℕ, ◌/◌, ◌%◌, ◌==◌, List, ◌++◌, if◌then◌else◌, codes}
use Rattle.std.proofs.Common.{refl, arith}
use Rattle.mm_module.specs.LineLaws.{IsText}
use Rattle.mm_listing.specs.Listing.{Listing, listing_of, IsListing}
use Rattle.mm_listing.specs.RequestLaws.{counted, in_both, listed, word}
use Rattle.mm_limiter.specs.declared.limiter.Output.{Output}
use Rattle.mm_limiter.specs.declared.limiter.Output.TheVariants as says
use Rattle.mm_limiter.specs.declared.limiter.Request.{Request}
use Rattle.mm_limiter.specs.declared.limiter.Request.TheVariants as request
use Rattle.mm_limiter.specs.declared.limiter.State.{State}
use Rattle.mm_limiter.specs.declared.limiter.State.TheVariants as state
use Rattle.mm_limiter.specs.LimiterLaws.{limiter_is_lawful, keeps-few}
use Rattle.mm_limiter.specs.Promise.{KeepsGuessesFew}
use Rattle.mm_limiter.specs.Table.{limiter}
use Rattle.mm_limiter.specs.Table as table

-- The requests of generated schedules.

abbrev pub limiter_request : ℕ → List ℕ
limiter_request choice =
    if choice % 8 == 0 then codes "set pw 50"
    else if choice % 8 == 1 then codes "left"
    else if choice % 8 == 2 then codes "guess pw"
    else codes "guess " ++ decimal (choice / 8 % 100)

-- The limiter's listing.

abbrev pub limiter_listing : Listing
limiter_listing =
    listing_of (codes "limiter") limiter limiter_request
    (λ requests tellings. KeepsGuessesFew requests tellings)

asks : (choice : ℕ) → IsText 256 (limiter_request choice)
asks choice =
    in_both (IsText 256) (choice % 8 == 0) _ _ (word (codes "set pw 50") refl (omega arith))
    (in_both (IsText 256) (choice % 8 == 1) _ _ (word (codes "left") refl (omega arith))
    (in_both (IsText 256) (choice % 8 == 2) _ _ (word (codes "guess pw") refl (omega arith))
    (counted (codes "guess ") (choice / 8 % 100) refl (omega arith) (omega arith))))

pub limiter_is_listed : IsListing limiter limiter_listing
limiter_is_listed =
    listed limiter_listing (record { begins = refl; letters = refl; other = refl })
    limiter_is_lawful asks keeps-few

-- The values of the code as those of the table.

abbrev pub as_state : State → table.TableState
as_state state.Unset = table.Unset
as_state (state.Guarded tries left secret) = table.Guarded tries left secret.now

abbrev pub as_request : Request → table.TableRequest
as_request (request.Guard secret tries) = table.Guard secret.now tries
as_request (request.Guess secret) = table.Guess secret.now
as_request request.Left = table.Left

abbrev pub as_says : Output → table.TableOutput
as_says says.Set = table.IsSet
as_says says.Taken = table.IsTaken
as_says says.Unset = table.IsUnset
as_says says.Locked = table.IsLocked
as_says says.Open = table.IsOpen
as_says (says.Wrong left) = table.IsWrong left
as_says (says.Left left) = table.HasLeft left
as_says says.Bad = table.IsBad
