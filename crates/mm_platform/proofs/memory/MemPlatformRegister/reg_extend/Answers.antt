use Rattle.mm_platform.proofs.Below.{refl, sym, ap, ◌∙◌, result_err, the_view, item_of, items_of, ExtendRegister, goes, extends, is_made_of}
use Rattle.std.proofs.lemmas.List.{map-append}
use Rattle.mm_platform.proofs.memory.MemPlatformRegister.reg_extend.Goals as goal

pub returns : goal.returns
returns c =
    let made = sym c.begin_step-fate.ensures.made ∙ is_made_of c.begin_step-fate.result.is_made c.if-not-fate.false in
    let recorded = ap items_of c.push.ensures.entries ∙ map-append item_of c.self.inside.register.entries.items _ in
    goes (ExtendRegister c.args.value.now.bytes) c.args.self.now _ (result_err c.answer-2.result)
    (extends c.args.value.now.bytes c.args.self.now (the_view c.self.inside) _ (items_of c.self.inside.register.entries.items)
    (c.self.view_is ∙ c.begin_step-fate.ensures.after) made refl
    (rw recorded refl))
    (c.answer-2.ensures ∙ c.begin_step-fate.ensures.fault)
