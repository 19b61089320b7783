use Rattle.mm_model.proofs.Below.{sym}
use Rattle.mm_module.specs.Batches.{batch_of}
use Rattle.mm_model.specs.FormLaws.{members_are_lines}
use Rattle.mm_model.proofs.running.request_at.Goals as goal

pub returns-clause-line : goal.returns-clause-line
returns-clause-line c =
    members_are_lines (batch_of c.args.batch) c.requires.short c.args.i c.in-Some.request.now (sym c.in-Some.ensures)
