use Rattle.mm_platform.proofs.Below.{refl, sym, ◌∙◌, result_err, the_view, items_of, ResetRegister, goes, resets, is_made_of}
use Rattle.mm_platform.proofs.memory.MemPlatformRegister.reg_reset.Goals as goal

pub returns : goal.returns
returns c =
    let made = sym c.begin_step-fate.ensures.made ∙ is_made_of c.begin_step-fate.result.is_made c.if-not-fate.false in
    goes ResetRegister c.args.self.now _ (result_err c.answer-2.result)
    (resets c.args.self.now (the_view c.self.inside) _ (items_of c.self.inside.register.entries.items)
    (c.self.view_is ∙ c.begin_step-fate.ensures.after) made refl
    (rw c.clear.ensures.entries refl))
    (c.answer-2.ensures ∙ c.begin_step-fate.ensures.fault)
