-- The words and laws that the proofs of this crate take from specs/ and from the crates below.
pub use Rattle.std.specs.Borrow.{Bor}
pub use Rattle.std.specs.Fmt.{decimal}
pub use Rattle.std.specs.List.{AllPass, list_any}
pub use Rattle.std.specs.Option.{option_map_or}
pub use Rattle.std.specs.Prelude.{◌==◌, ◌||◌, ◌↔◌, Err, if◌then◌else◌, IsTrue, map, nat_lt, None, Ok, Option, option_map, Result, Some}
pub use Rattle.std.specs.Str.{all_ascii_digits, bytes_eq}
pub use Rattle.std.proofs.Common.{◌+◌, ◌<◌, ◌^◌, ◌∙◌, ◌∷◌, ◌≡◌, ◌≤◌, [], ap, arith, Bool, codes, false, get_or, length, List, refl, subst, sym}
pub use Rattle.std.proofs.Common.{true, ℕ}
pub use Rattle.std.proofs.lemmas.Bool.Decides.{nat_tests}
pub use Rattle.std.proofs.lemmas.Slice.Eq.{bytes_eq-Decides}
pub use Rattle.clap.specs.Simple.{App, is_simple, subcommand_of}
pub use Rattle.clap.specs.Takes.{takes}
pub use Rattle.clap.specs.Walk.{first_of, Row, rows_of, Text}
pub use Rattle.clap.specs.Words.{app_of, new_app}
pub use Rattle.clap.proofs.WalkLemmas.{first_value-rows}
pub use Rattle.hex.proofs.HexLemmas.{decode_of-ok, decode_sized-ok, decode_sized-twice}
pub use Rattle.mm_bytes.specs.DecimalLaws.{read_by_spelling}
pub use Rattle.mm_bytes.specs.Limits.{most_events}
pub use Rattle.mm_digest.specs.declared.variant.Variant.{Variant}
pub use Rattle.mm_digest.specs.declared.variant.Variant.TheVariants.{Basic, Opt}
pub use Rattle.mm_module.specs.Meaning.{value_at}
pub use Rattle.mm_modules.specs.Modules.{any_is_found, any_is_listed, module_of_name, name_of}
pub use Rattle.mm_modules.specs.declared.any.AnyModule.{AnyModule}
pub use Rattle.mm_schedule.specs.Headers.{variant_text, variant_at}
pub use Rattle.mm_schedule.specs.declared.header.Header.{Header}
pub use Rattle.mm_words.specs.Commands.{the_app, AreReceiptsWords, AreWordsOf, generated_words, header_words, IsGenerated, SpellsCommand}
pub use Rattle.mm_words.specs.Commands.{is_refused, IsMatched}
pub use Rattle.mm_words.specs.declared.command.CommandLine.{CommandLine}
pub use Rattle.mm_words.specs.declared.command.CommandLine.TheVariants.{Bulk, Check, Checkpoint, Gen, Help, Init, Power, Receipts, Replay}
pub use Rattle.mm_words.specs.declared.command.CommandLine.TheVariants.{Run, Slots, Transfer}
pub use Rattle.mm_words.specs.declared.command.GeneratedSchedule.{GeneratedSchedule}
