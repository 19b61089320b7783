-- The words and laws that the proofs of this crate take from specs/ and from the crates below.
pub use Rattle.std.specs.Prelude.{if◌then◌else◌, is_none, nat_lt}
pub use Rattle.std.specs.Result.{result_err}
pub use Rattle.std.proofs.Common.{◌++◌, ◌+◌, ◌∙◌, ◌∷◌, ◌≡◌, ◌≤◌, [], ap, arith, Bool, cond, drop, List, map, None, Option, refl, Some}
pub use Rattle.std.proofs.Common.{subst, sym, take, vec_capacity, vec_len, ℕ}
pub use Rattle.mm_platform.specs.Memory.{item_of, items_of}
pub use Rattle.mm_platform.specs.Standing.{foreign_item, Item, Plan, plan_after, Standing, Act, items_beside, cell_after, ExtendRegister}
pub use Rattle.mm_platform.specs.Standing.{faults_after, StepGoes, items_after, ReadCell, ReadRegister, ResetRegister, fault_by_plan}
pub use Rattle.mm_platform.specs.Standing.{is_made_by_plan, is_on_by_plan, values_by_plan}
pub use Rattle.mm_platform.specs.CallLaws.{extends, goes, is_made_of, known_plan, resets}
pub use Rattle.mm_platform.specs.contracts.memory.MemPlatform.{the_view}
