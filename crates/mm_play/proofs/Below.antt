-- The words and laws that the proofs of this crate take from specs/ and from the crates below.
pub use Rattle.std.specs.Io.KnownBytes.{Appends, Consumes}
pub use Rattle.std.specs.List.{AllByRecursion, sum_by}
pub use Rattle.std.proofs.Common.{◌++◌, ◌+◌, ◌<◌, ◌||◌, ◌∙◌, ◌∷◌, ◌≡◌, ◌≢◌, ◌≤◌, ◌⊎◌, [], ap, append-nil, append_assoc, arith, Bool, cond}
pub use Rattle.std.proofs.Common.{drop, Err, false, inl, inr, length, length-append, length-take, List, map, nat_le, nat_lt, None, Ok}
pub use Rattle.std.proofs.Common.{Option, refl, Result, Some, subst, sym, take, take-append-drop, true, ℕ}
pub use Rattle.std.proofs.KnownBytes.{Appends-nil, Appends-trans, Consumes-nil, Consumes-trans}
pub use Rattle.std.proofs.lemmas.Bool.Decides.{nat_tests}
pub use Rattle.mm_base.specs.Input.{IsUnbroken, joined_lines, lines_of, lines_with_front, tail_with_front, tail_of}
pub use Rattle.mm_base.specs.InputLaws.{joined-append, lines_of-append, lines_of-joined, lines_of-line, lines_of-unbroken, tail_of-append}
pub use Rattle.mm_base.specs.InputLaws.{tail_of-joined, tail_of-line, tail_of-unbroken}
pub use Rattle.mm_bytes.specs.Limits.{longest_line, most_events}
pub use Rattle.mm_base.specs.declared.replay_fault.ReplayFault.{ReplayFault}
pub use Rattle.mm_base.specs.declared.replay_fault.ReplayFault.TheVariants.{BadLine, LineLong, Memory, ReadFault, TooMuch, WriteFault}
pub use Rattle.mm_play.specs.PlaysInput.{outcome_after_bytes, outcome_of_both, outcome_of_answer, outcome_at_end, outcome_of_tail}
pub use Rattle.mm_play.specs.PlaysInput.{outcome_then, refusal_at, outcome_of_lines, outcome_of_rest, outcome_of_input, stopped_outcome}
pub use Rattle.mm_play.specs.PlaysInput.{PlayOutcome, play_outcome, HoldsOfWhole, IsUnrefused, PlaysInput, AnswerFits, AnswersAllLines}
pub use Rattle.mm_play.specs.PlaysInput.{AnswersFirst, StopsAnywhere, StopsBeforeLine, AnswersWholeInput, RefusesMuch, TellsOutput}
pub use Rattle.mm_play.specs.Headline.{IsFrontOf}
pub use Rattle.mm_play.specs.LineTurn.{TurnAdvances, PlayerAnswers, IsSent, TurnPlays, PlaysNext, SendsDue, SendsAndAnswers}
pub use Rattle.mm_play.specs.declared.player.LineRefusal.{LineRefusal}
pub use Rattle.mm_play.specs.declared.player.LineRefusal.TheVariants.{Bad, Much}
