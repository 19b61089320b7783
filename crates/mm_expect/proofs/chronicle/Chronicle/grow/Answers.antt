use Rattle.std.proofs.lemmas.Result.{on_ok_weaker}
use Rattle.mm_expect.proofs.CallLaws.{grow_goes}
use Rattle.mm_expect.proofs.chronicle.Chronicle.grow.Goals as goal

pub returns : goal.returns
returns c = on_ok_weaker c.add_inside.result
    (λ grown. grow_goes c.guard_of-value.ensures.same c.requires.variant c.requires.inside c.guard_of-value.ensures.value
    c.in_ok-tell_extension.ensures grown) c.add_inside.ensures
