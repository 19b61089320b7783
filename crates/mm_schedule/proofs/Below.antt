-- The words and laws that the proofs of this crate take from specs/ and from the crates below.
pub use Rattle.std.specs.List.{AllByRecursion, AllPass, list_all, position, position_or_len}
pub use Rattle.std.specs.Option.{option_map, option_map_or}
pub use Rattle.std.specs.Prelude.{◌&&◌, ◌==◌, ◌||◌, codes, Err, IfSome, is_some, nat_lt, None, not, Ok, Option, Result, slice_get, Some}
pub use Rattle.std.specs.Prelude.{unwrap_or}
pub use Rattle.std.specs.Result.{result_ok}
pub use Rattle.std.specs.Str.{all_ascii_digits, bytes_eq}
pub use Rattle.std.proofs.Common.{◌%◌, ◌*◌, ◌++◌, ◌+◌, ◌-◌, ◌<◌, ◌^◌, ◌∙◌, ◌∷◌, ◌≡◌, ◌≢◌, ◌≤◌, ◌⊎◌, [], add-one, ap, append-nil}
pub use Rattle.std.proofs.Common.{append_assoc, arith, Bool, cond, drop, false, get_or, inl, inr, length, List, OnOk, refl, subst, suc, sym}
pub use Rattle.std.proofs.Common.{take, true, zero, ℕ}
pub use Rattle.std.proofs.Math.Seq.{drop-append-add, drop-cons, take-append_seam}
pub use Rattle.std.proofs.lemmas.Bool.Decides.{nat_tests}
pub use Rattle.std.proofs.lemmas.Fmt.{decimal_digit, digits_decimal}
pub use Rattle.std.proofs.lemmas.List.{length-append, take-append-drop}
pub use Rattle.hex.specs.Hex.{decode_of, decode_sized, is_hex_digit}
pub use Rattle.hex.specs.declared.error.FromHexError.{FromHexError}
pub use Rattle.hex.proofs.HexLemmas.{decode_of-digits, decode_of-ok, decode_sized-ok, decode_sized-twice}
pub use Rattle.mm_bytes.specs.DecimalLaws.{read_by_spelling, spelled_by_reading}
pub use Rattle.mm_platform.specs.declared.plan.Meddle.{Meddle}
pub use Rattle.mm_platform.specs.declared.plan.Stop.{Stop}
pub use Rattle.mm_platform.specs.declared.plan.Stop.TheVariants.{Cut, Drop, Fail, Quiet}
pub use Rattle.mm_module.specs.Batch.{Batch, Many, members_of, One}
pub use Rattle.mm_module.specs.Meaning.{Meaning, outputs_from, state_after, is_space}
pub use Rattle.mm_modules.specs.Modules.{any_is_found, any_is_listed, meaning_of, module_of_name, name_of}
pub use Rattle.mm_modules.proofs.Above.{name_spelled}
pub use Rattle.mm_schedule.specs.Events.{Ask, Checkpoint, Event, Extend, meddles_of, Power, meddle_at, meddles_at, ask_call_text}
pub use Rattle.mm_schedule.specs.Events.{SpellsBytes, SpellsEvent, SpellsMeddles, SpellsNumber, SpellsOffer, SpellsPrefix, SpellsStep}
pub use Rattle.mm_schedule.specs.Events.{SpellsStop, SpellsValue, meddles_behind}
pub use Rattle.mm_schedule.specs.Replies.{IsTold, IsEventRun, IsRunStep, lines_of_reply, told_lines, told_line, tellings_from, tellings_in}
pub use Rattle.mm_schedule.specs.Replies.{tellings_of, TellsWhatWasSaid}
pub use Rattle.mm_schedule.specs.Headers.{◌>>=◌, rest_after_prefix, bytes_at, word_at}
pub use Rattle.mm_schedule.specs.declared.event.Offer.{Offer}
pub use Rattle.mm_schedule.specs.declared.event.Offer.TheVariants.{Flip, Last, Number, Raw}
pub use Rattle.mm_schedule.specs.declared.reply.Reply.{Reply}
pub use Rattle.mm_schedule.specs.declared.reply.Reply.TheVariants.{Kept, Told}
