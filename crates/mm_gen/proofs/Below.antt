-- The words and laws that the proofs of this crate take from specs/ and from the crates below.
pub use Rattle.std.specs.Fmt.{decimal}
pub use Rattle.std.specs.List.{AllByRecursion, fold, list_all, position, position_or_len}
pub use Rattle.std.specs.Prelude.{◌==◌, All, codes, IfOk, if◌then◌else◌, is_some, min, nat_lt, None, not, Option}
pub use Rattle.std.proofs.Common.{◌%◌, ◌*◌, ◌++◌, ◌+◌, ◌-◌, ◌<◌, ◌^◌, ◌∙◌, ◌∷◌, ◌≡◌, ◌≢◌, ◌≤◌, [], ap, append-nil, append_assoc, arith}
pub use Rattle.std.proofs.Common.{Bool, Err, false, inl, inr, length, List, lit≤, map, Ok, refl, Result, rules, Some, subst, suc, sym, take}
pub use Rattle.std.proofs.Common.{true, zero, ℕ}
pub use Rattle.std.proofs.lemmas.Bool.{cases_lt, ne_eqb}
pub use Rattle.std.proofs.lemmas.Bool.Decides.{nat_tests}
pub use Rattle.std.proofs.lemmas.List.{length-append, length-take, length-take-le}
pub use Rattle.std.proofs.lemmas.List.Elements.{All-append, All-from_recursion, All-nil, All-take, All-weaker, recursion_from_All}
pub use Rattle.rand_chacha.specs.ChaCha.{ChaCha, key_of}
pub use Rattle.sha2.specs.Sha256.{sha256}
pub use Rattle.mm_base.specs.Input.{IsUnbroken, joined_lines, lines_of, tail_of}
pub use Rattle.mm_base.specs.InputLaws.{joined-append, lines_of-joined, tail_of-joined}
pub use Rattle.mm_bytes.specs.Limits.{longest_line, most_events}
pub use Rattle.mm_digest.specs.declared.variant.Variant.{Variant}
pub use Rattle.mm_digest.specs.declared.variant.Variant.TheVariants.{Basic, Opt}
pub use Rattle.mm_modules.specs.Modules.{any_is_found, any_is_listed, name_of}
pub use Rattle.mm_schedule.specs.Events.{Ask, Checkpoint, Event, Power, event_at}
pub use Rattle.mm_schedule.specs.Headers.{header_at, header_text, variant_text}
pub use Rattle.mm_schedule.specs.Replies.{end_line}
pub use Rattle.mm_schedule.specs.declared.header.Header.{Header}
pub use Rattle.mm_schedule.proofs.Above.{header-read, spelled_is_read}
pub use Rattle.mm_outcome.specs.Premises.{RunOutcome, outcome_of_events, outcome_by_digests}
pub use Rattle.mm_outcome.specs.OneRun.{world_of}
pub use Rattle.mm_replay.specs.Progress.{running_replay}
pub use Rattle.mm_replay.specs.Schedule.{running_replay_after, stage_among_events, header_stage, first_running_replay, is_too_much}
pub use Rattle.mm_replay.specs.Schedule.{ReplayStage, RunningReplay, running_outcome, schedule_answer, schedule_closing, text_of_replies}
pub use Rattle.mm_gen.specs.Schedules.{IsEventLine, IsSchedule, is_over, IsLimited, is_break, line_at, lines_from, schedule_lines}
pub use Rattle.mm_gen.specs.Schedules.{schedule_text, seed_from, words_at, SumsUp, ask_text, cut_word, pair, chosen_request, row_14, row_15}
pub use Rattle.mm_gen.specs.Schedules.{turn_lines}
pub use Rattle.mm_gen.specs.declared.fault.BulkFault.{BulkFault}
pub use Rattle.mm_gen.specs.declared.fault.BulkFault.TheVariants.{Memory, TooMuch}
pub use Rattle.mm_gen.specs.declared.summary.Summary.{Summary}
pub use Rattle.mm_gen.specs.declared.words.TurnWords.{TurnWords}
