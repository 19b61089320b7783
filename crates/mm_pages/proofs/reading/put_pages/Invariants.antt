use Rattle.mm_pages.proofs.BytesLaws.{GivesFirst}
use Rattle.mm_pages.proofs.reading.put_pages.Given as goal

abbrev pub invariant-loop-page : goal.invariant-loop-page
invariant-loop-page g l =
    GivesFirst l.slot l.size l.page (g.D.PageDevice.pages l.fn.device) (g.D.PageDevice.pages l.device) l.bytes
