pub mod Streams
pub mod Input
pub mod InputLaws
pub use Rattle.mm_bytes.specs.Limits
pub use Rattle.mm_bytes.specs.Limits
pub use Rattle.mm_bytes.specs.DecimalLaws
pub use Rattle.mm_bytes.specs.DecimalLaws
