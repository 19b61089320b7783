use Rattle.mm_evidence.proofs.Below.{instance_by, IsLawful, Meaning, Variant, Basic, Opt, List, ℕ, Instance}
use Rattle.mm_evidence.proofs.Fronts.{forged_new}
use Rattle.mm_evidence.proofs.laws.forged_offers_are_new.Goals as goal

lawful_by : (variant : Variant) (meaning : Meaning) (key barrier : List ℕ) → IsLawful meaning
    → (let i : Instance = instance_by variant meaning key barrier in IsLawful i.meaning)
lawful_by Basic meaning key barrier h = h
lawful_by Opt meaning key barrier h = h

pub returns : goal.returns
returns c = λ variant meaning key barrier events lawful few.
    forged_new (instance_by variant meaning key barrier) (c.issued_snapshots_name_positions.ensures variant meaning key barrier) events
    (lawful_by variant meaning key barrier lawful) few
