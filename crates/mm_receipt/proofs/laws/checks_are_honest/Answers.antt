use Rattle.mm_receipt.proofs.HonestLaws.{honest}
use Rattle.mm_receipt.proofs.laws.checks_are_honest.Goals as goal

pub returns : goal.returns
returns c key lines written next ran inner requests counted genuine = honest key lines written next ran inner requests counted genuine
