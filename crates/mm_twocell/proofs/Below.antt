-- The words and laws that the proofs of this crate take from specs/ and from the crates below.
pub use Rattle.std.specs.Option.{option_map}
pub use Rattle.std.specs.Prelude.{◌%◌, ◌==◌, if◌then◌else◌, slice_index}
pub use Rattle.std.proofs.Common.{◌*◌, ◌++◌, ◌+◌, ◌-◌, ◌∙◌, ◌∷◌, ◌≡◌, ◌≤◌, ◌⊎◌, [], ap, append_assoc, arith, Bool, drop, false, get_or, inl}
pub use Rattle.std.proofs.Common.{inr, length, length-append, length-drop, List, lit<, None, Option, refl, rules, Some, subst, suc, sym}
pub use Rattle.std.proofs.Common.{take, true, zero, ℕ}
pub use Rattle.std.proofs.lemmas.Bool.Decides.{nat_tests}
pub use Rattle.std.proofs.lemmas.List.{drop-drop, get_or-append-add, length-take, length-take-le, take-append-drop}
pub use Rattle.mm_bytes.specs.Limits.{next_count, CountRose, cell_length}
pub use Rattle.mm_platform.specs.CallLaws.{beside-beside, beside-none}
pub use Rattle.mm_platform.specs.Memory.{LeavesRest, range_of, ReadsRaw, bytes_with_part, WritesRaw}
pub use Rattle.mm_platform.specs.Standing.{Plan, Standing, Act, items_beside, cell_after, DeviceStepEnds, ExtendRegister, faults_after}
pub use Rattle.mm_platform.specs.Standing.{StepGoes, items_after, ReadRegister, ResetRegister, fault_by_plan, is_made_by_plan}
pub use Rattle.mm_platform.specs.Standing.{is_on_by_plan, values_by_plan, WriteCell}
pub use Rattle.mm_platform.specs.declared.fault.StepFault.{StepFault}
pub use Rattle.mm_platform.specs.declared.fault.StepFault.TheVariants.{Failed}
pub use Rattle.mm_twocell.specs.TornMemory.{picked_cell, WritesOtherCell, memory_after_call, plan_from_start, IsSteady, IsUsable}
pub use Rattle.mm_twocell.specs.TornMemory.{memory_with_part, StepsRegister, told_standing, TornMemory, whole_bytes, will_fail}
