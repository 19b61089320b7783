-- The batches of the code, as contracts see them.
use Rattle.mm_module.specs.Batch as ghost_batch
use Rattle.mm_module.specs.declared.batch.Batch.{Batch}
use Rattle.mm_module.specs.declared.batch.Batch.TheVariants.{One, Many}

-- the batch that this value lends
abbrev pub batch_of : Batch → ghost_batch.Batch
batch_of (One request) = ghost_batch.One request.now
batch_of (Many text) = ghost_batch.Many text.now
