use Rattle.mm_numbering.proofs.Below.{◌∙◌, sym, arith}
use Rattle.mm_numbering.proofs.ListingLaws.{listed_at, none_more, none_at_all}
use Rattle.mm_numbering.proofs.texts.TextList.has.Goals as goal

pub returns-then-eq : goal.returns-then-eq
returns-then-eq c =
    sym (listed_at c.args.self.now c.args.bytes.now c.at.result.now c.texts.index c.at.ensures (sym c.eq.ensures ∙ c.if-eq.true))

pub texts-preserved : goal.texts-preserved
texts-preserved c =
    none_more c.args.bytes.now c.args.self.now c.texts.index c.at.result.now c.texts.invariant c.at.ensures
    (sym c.eq.ensures ∙ c.if-eq.false)

pub returns : goal.returns
returns c =
    none_at_all c.args.bytes.now c.args.self.now c.texts.index c.texts.invariant
    (omega (arith, c.texts-test.false, c.len-index-end.ensures))
