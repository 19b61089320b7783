-- The list of modules, with the laws of each, and the module of a name and of an id.
use Rattle.std.specs.Prelude.{◌≡◌, ℕ, ◌≤◌, ◌==◌, List, [], ◌∷◌, ◌++◌, length, map, Option, Some, codes}
use Rattle.std.specs.List.{find}
use Rattle.std.proofs.Common.{refl, arith}
use Rattle.std.specs.Str.{bytes_eq}
use Rattle.mm_module.specs.RunLaws.{counter_is_short}
use Rattle.mm_module.specs.Meaning.{counter, Meaning}
use Rattle.mm_listing.specs.CounterListing.{counter_is_listed, counter_listing}
use Rattle.mm_listing.specs.Listing.{IsListing, Listing}
use Rattle.mm_dispenser.specs.DispenserListing.{dispenser_is_listed, dispenser_listing}
use Rattle.mm_limiter.specs.LimiterLaws.{limiter_is_short}
use Rattle.mm_limiter.specs.LimiterListing.{limiter_is_listed, limiter_listing}
use Rattle.mm_limiter.specs.Table.{limiter}
use Rattle.mm_quota.specs.LedgerListings.{small_ledger, small_ledger_is_short, ledger_is_listed, ledger_listing, quota_is_listed}
use Rattle.mm_quota.specs.LedgerListings.{quota_listing}
use Rattle.mm_receipted.specs.ReceiptListing.{receipt_is_listed, receipt_listing}
use Rattle.mm_modules.specs.declared.any.AnyModule.{AnyModule}
use Rattle.mm_modules.specs.declared.any.AnyModule.TheVariants.{Counter, Limiter, Quota, Ledger, Dispenser, ReceiptCounter, ReceiptLimiter}
use Rattle.mm_modules.specs.declared.any.AnyModule.TheVariants.{ReceiptQuota}

-- what each module brings
abbrev pub listing_of : AnyModule → Listing
listing_of Counter = counter_listing
listing_of Limiter = limiter_listing
listing_of Quota = quota_listing
listing_of Ledger = ledger_listing
listing_of Dispenser = dispenser_listing
listing_of ReceiptCounter = receipt_listing counter_listing
listing_of ReceiptLimiter = receipt_listing limiter_listing
listing_of ReceiptQuota = receipt_listing quota_listing

-- all of them
abbrev pub all_modules : List AnyModule
all_modules =
    Counter ∷ Limiter ∷ Quota ∷ Ledger ∷ Dispenser ∷ ReceiptCounter ∷ ReceiptLimiter ∷ ReceiptQuota
    ∷ []

-- what each module is
abbrev pub meaning_of : AnyModule → Meaning
meaning_of it = (listing_of it).meaning

-- the name of each module
abbrev pub name_of : AnyModule → List ℕ
name_of it = (listing_of it).name

-- the module of a name
abbrev pub module_of_name : List ℕ → Option AnyModule
module_of_name name = find (λ it. bytes_eq name (name_of it)) all_modules

-- the module of an id
abbrev pub module_of_id : ℕ → Option AnyModule
module_of_id id = find (λ it. (meaning_of it).id == id) all_modules

-- names as a text lists them: `a, b or c`
abbrev pub choice_text : List (List ℕ) → List ℕ
choice_text [] = []
choice_text (name ∷ []) = name
choice_text (name ∷ last ∷ []) = name ++ codes " or " ++ last
choice_text (name ∷ next ∷ after ∷ names) = name ++ codes ", " ++ choice_text (next ∷ after ∷ names)

-- the names of all modules
abbrev pub names_text : List ℕ
names_text = choice_text (map name_of all_modules)

-- each listing has its laws
pub any_is_listed : (it : AnyModule) → IsListing (meaning_of it) (listing_of it)
any_is_listed Counter = counter_is_listed
any_is_listed Limiter = limiter_is_listed
any_is_listed Quota = quota_is_listed
any_is_listed Ledger = ledger_is_listed
any_is_listed Dispenser = dispenser_is_listed
any_is_listed ReceiptCounter =
    receipt_is_listed counter counter_listing counter_is_listed counter_is_short
any_is_listed ReceiptLimiter =
    receipt_is_listed limiter limiter_listing limiter_is_listed limiter_is_short
any_is_listed ReceiptQuota =
    receipt_is_listed small_ledger quota_listing quota_is_listed small_ledger_is_short

-- a module is found by its id, and by its name, which has at most 32 bytes
pub record IsFound (it : AnyModule) : Type 0 where
  pub by_id : module_of_id (meaning_of it).id ≡ Some it
  pub by_name : module_of_name (name_of it) ≡ Some it
  pub short : length (name_of it) ≤ 32

pub any_is_found : (it : AnyModule) → IsFound it
any_is_found Counter = record { by_id = refl; by_name = refl; short = omega arith }
any_is_found Limiter = record { by_id = refl; by_name = refl; short = omega arith }
any_is_found Quota = record { by_id = refl; by_name = refl; short = omega arith }
any_is_found Ledger = record { by_id = refl; by_name = refl; short = omega arith }
any_is_found Dispenser = record { by_id = refl; by_name = refl; short = omega arith }
any_is_found ReceiptCounter = record { by_id = refl; by_name = refl; short = omega arith }
any_is_found ReceiptLimiter = record { by_id = refl; by_name = refl; short = omega arith }
any_is_found ReceiptQuota = record { by_id = refl; by_name = refl; short = omega arith }
