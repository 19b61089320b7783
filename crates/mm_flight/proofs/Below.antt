-- The words and laws that the proofs of this crate take from specs/ and from the crates below.
pub use Rattle.std.specs.Option.{option_map}
pub use Rattle.std.proofs.Common.{◌++◌, ◌+◌, ◌<◌, ◌∙◌, ◌∷◌, ◌≡◌, ◌≤◌, [], ap, arith, Bool, Err, false, List, None, Ok, Option, refl, Result}
pub use Rattle.std.proofs.Common.{Some, subst, sym, true, ℕ}
pub use Rattle.mm_bytes.specs.Limits.{next_count}
pub use Rattle.mm_seal.specs.declared.cell.Cell.{Cell}
pub use Rattle.mm_platform.specs.Memory.{plan_with_meddle}
pub use Rattle.mm_platform.specs.Standing.{Plan, Standing, Act, cell_after, DeviceStepEnds, StepGoes, StepGoesByPlan, ReadCell}
pub use Rattle.mm_platform.specs.Standing.{ReadRegister, fault_by_plan}
pub use Rattle.mm_platform.specs.declared.fault.StepFault.{StepFault}
pub use Rattle.mm_platform.specs.declared.plan.Meddle.{Meddle}
pub use Rattle.mm_platform.specs.declared.plan.Stop.TheVariants.{Quiet}
pub use Rattle.mm_flight.specs.Flight.{PlanAgreesWith, IsCallInFlight, plan_by, PlansAgreeAt, standing_under}
