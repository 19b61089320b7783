use Rattle.mm_files.proofs.Telling.{writes_untold}
use Rattle.mm_files.proofs.platform.FilePlatformRawNv.raw_write.Goals as goal

pub returns : goal.returns
returns g c = writes_untold c.args.at c.args.bytes.now _ _ _ _ _ c.told.ensures.counts c.told.ensures.failed
