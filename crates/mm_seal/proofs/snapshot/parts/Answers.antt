use Rattle.std.proofs.Common.{rules, Ok, Err}
use Rattle.mm_seal.specs.declared.snapshot.PartsFault.TheVariants.{Form, Kind}
use Rattle.mm_seal.specs.FieldLaws.{parts_are}
use Rattle.mm_seal.proofs.snapshot.parts.Goals as goal

pub returns-in-None-clause-parts : goal.returns-in-None-clause-parts
returns-in-None-clause-parts c = parts_are c.args.variant c.args.id c.args.bytes.now (Err Form) (search rules)

pub returns-then-is_of_kind-clause-parts : goal.returns-then-is_of_kind-clause-parts
returns-then-is_of_kind-clause-parts c =
    parts_are c.args.variant c.args.id c.args.bytes.now (Ok c.in-Some.offered) (search rules)

pub returns-else-is_of_kind-clause-parts : goal.returns-else-is_of_kind-clause-parts
returns-else-is_of_kind-clause-parts c =
    parts_are c.args.variant c.args.id c.args.bytes.now (Err Kind) (search rules)
