use Rattle.mm_quota.proofs.Below.{rules, arith, sym, ap, ◌∙◌, Some, as_action, as_request}
use Rattle.mm_module.specs.Meaning.{words_of}
use Rattle.mm_quota.specs.declared.request.Request.{Request}
use Rattle.mm_quota.proofs.PlaceLaws.{IsSpelled-from, few-from, asked-named}
use Rattle.mm_quota.proofs.quota.step.Goals as goal

-- a state of this size spells a ledger
pub told-requires : goal.told-requires
told-requires c = IsSpelled-from c.args.most c.args.state.now (omega (arith, c.ranges.most.fits)) (search (rules, c.requires))

pub sum_of-requires : goal.sum_of-requires
sum_of-requires c = IsSpelled-from c.args.most c.args.state.now (omega (arith, c.ranges.most.fits)) (search (rules, c.requires))

pub told-requires-in-Some-Sum : goal.told-requires-in-Some-Sum
told-requires-in-Some-Sum c = IsSpelled-from c.args.most c.args.state.now (omega (arith, c.ranges.most.fits)) (search (rules, c.requires))

pub acted-requires-clause-spelled : goal.acted-requires-clause-spelled
acted-requires-clause-spelled c =
    IsSpelled-from c.args.most c.args.state.now (omega (arith, c.ranges.most.fits)) (search (rules, c.requires))

pub acted-requires-clause-few : goal.acted-requires-clause-few
acted-requires-clause-few c = few-from c.args.most c.args.state.now (search (rules, c.requires))

pub acted-requires-clause-named : goal.acted-requires-clause-named
acted-requires-clause-named c =
    (asked-named (words_of c.args.request.now) c.in-Some-On.name.now (as_action c.in-Some-On.action)
    (sym c.in-Some-On.ensures ∙ ap (λ (r : Request). Some (as_request r)) c.in-Some-On.field-0-is)).0

pub acted-requires-clause-action : goal.acted-requires-clause-action
acted-requires-clause-action c =
    (asked-named (words_of c.args.request.now) c.in-Some-On.name.now (as_action c.in-Some-On.action)
    (sym c.in-Some-On.ensures ∙ ap (λ (r : Request). Some (as_request r)) c.in-Some-On.field-0-is)).1
