use Rattle.std.proofs.Common.{◌∙◌}
use Rattle.mm_reference.proofs.EntryLaws.{spelled_at, IsStateOfRun-push}
use Rattle.mm_reference.proofs.machine.Machine.accept.Goals as goal

pub step-requires-clause-spelled : goal.step-requires-clause-spelled
step-requires-clause-spelled g c =
    spelled_at (g.M.Module.meaning c.self.inside.runner) (g.met.M.Module.is_lawful c.self.inside.runner)
    c.self.inside.requests.items c.self.inside.state c.as_slice.result.now c.self.invariant.state_is c.as_slice.ensures.value

pub invariant_of-self-2 : goal.invariant_of-self-2
invariant_of-self-2 g c =
    IsStateOfRun-push (g.M.Module.meaning c.self.inside.runner) c.self.inside.requests.items c.push_copy.new.list.items
    c.args.request.now c.self.inside.state c.as_slice.result.now c.self.inside.output
    c.in_ok-stepped.stepped.state c.in_ok-stepped.stepped.output c.self.invariant c.as_slice.ensures.value
    c.in_ok-stepped.ensures.state c.in_ok-stepped.ensures.output c.in_ok-push_copy.ensures.ok

pub returns-clause-output : goal.returns-clause-output
returns-clause-output g c = c.in_ok-stepped.ensures.said ∙ (invariant_of-self-2 g c).output_is
