use Rattle.mm_pages.proofs.WritingLaws.{fits_synced}
use Rattle.mm_pages.proofs.writing.fit_and_sync.Goals as goal

pub returns : goal.returns
returns g c =
    fits_synced c.args.slot c.args.length _ _ _ c.sync.result c.in_ok-fit_length.ensures c.sync.ensures.syncs
