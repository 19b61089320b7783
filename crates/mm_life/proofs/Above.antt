-- What crates above may cite of these proofs: the other files can be read and changed by this crate alone.
pub use Rattle.mm_life.proofs.BasicLife.{basic_life, first_genuine, first_within}
pub use Rattle.mm_life.proofs.Chains.{Ends, rests, session_chain, stops, AreListed}
pub use Rattle.mm_life.proofs.HonestLife.{PartGone, part_goes}
pub use Rattle.mm_life.proofs.Living.{LifeLaws, part_lives, Ran, ran_none, ran_part, ran_same}
pub use Rattle.mm_life.proofs.Sessions.{IsFirstGenuine}
pub use Rattle.mm_life.proofs.Refusing.{StandsSomewhere, deed_stands, life_stands}
pub use Rattle.mm_life.proofs.OptCaller.{Told, started_told}
pub use Rattle.mm_life.proofs.OptLife.{opt_first_genuine, opt_first_within, opt_life, seen_unless}
