use Rattle.mm_pages.proofs.BytesLaws.{gives_size}
use Rattle.mm_pages.proofs.reading.size_seen.Goals as goal

pub returns : goal.returns
returns g c = gives_size c.in_ok-length.ensures.reads c.min.ensures
