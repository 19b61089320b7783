-- What crates above may cite of these proofs: the other files can be read and changed by this crate alone.
pub use Rattle.mm_host.specs.AnySlots.{CallsInTurn}
pub use Rattle.mm_host.proofs.Turning.{chain_ends, lost_shown, refused_as_offer, shown_lost, shows_loss}
pub use Rattle.mm_host.proofs.CallsMade.{among_input, chain_of, last_offer, served_calls, SomeChain, some_chain, front_of, store_untold}
pub use Rattle.mm_host.proofs.CallsMade.{told_in_part, unless_full}
pub use Rattle.mm_host.proofs.Counting.{continues_from, fits_genuine}
pub use Rattle.mm_host.proofs.InTurn.{calls_reach, May, pending_for, StandsIn, stepped_by}
pub use Rattle.mm_host.proofs.Leading.{basic_laws, Laws, Makes, Reaches, reach_same, reach_then, CallsRunOver-append, same_self, Shows}
pub use Rattle.mm_host.proofs.Leading.{ShowsAt, Stays, steps_again, steps_fresh, unspoiled}
pub use Rattle.mm_host.proofs.Lines.{by_told, tells_call, TellsCall, AreMade, IsLineAsked, IsWritten}
pub use Rattle.mm_host.proofs.NextRefused.{IsFaulty, next_in_hand, next_refused, RefusesOrFails}
pub use Rattle.mm_host.proofs.OptLeading.{opt_laws, opt_reach}
pub use Rattle.mm_host.proofs.Putting.{fits_room}
pub use Rattle.mm_host.proofs.RunningOnce.{by_fault, call_steps, foreign_of, messages_looked, only_by, register_looked, runs_once_from}
pub use Rattle.mm_host.proofs.SessionRuns.{continues_by, line_committed, same_requests}
