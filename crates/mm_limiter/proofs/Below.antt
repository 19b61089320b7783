-- The words and laws that the proofs of this crate take from specs/ and from the crates below.
pub use Rattle.std.specs.Prelude.{None, Option, option_map, Some, unwrap_or}
pub use Rattle.std.proofs.Common.{◌∙◌, ◌≡◌, ap, refl, rules}
pub use Rattle.mm_limiter.specs.LimiterListing.{as_request, as_state}
