-- What crates above may cite of these proofs: the other files can be read and changed by this crate alone.
pub use Rattle.mm_evidence.proofs.Deciding.{clash_apart, clash_or, event_apart, event_offer, event_or, forgery_by, ForgesFrom, genuine_or}
pub use Rattle.mm_evidence.proofs.Deciding.{names_by, offer_apart, offer_or, any_in, any_some, found_or_none, pair_or_none}
pub use Rattle.mm_evidence.proofs.Fronts.{fronts_cases, IsLonger, AreDecided, fronts_longest, MeetsPremises, none_is_one, runs_decided}
pub use Rattle.mm_evidence.proofs.Fronts.{runs_longest, runs_until}
