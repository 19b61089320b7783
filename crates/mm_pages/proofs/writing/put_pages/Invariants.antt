use Rattle.mm_pages.specs.SlotWrites.{PutsFirstPages}
use Rattle.mm_pages.proofs.writing.put_pages.Given as goal

abbrev pub invariant-loop-page : goal.invariant-loop-page
invariant-loop-page g l =
    PutsFirstPages l.slot l.page l.bytes (g.D.PageDevice.pages l.fn.device) (g.D.PageDevice.pages l.device) l.fn.digests l.digests
