use Rattle.mm_module.specs.Batches.{batch_of}
use Rattle.mm_module.specs.RunLaws.{size_of-pos}
use Rattle.mm_model.proofs.running.run_first.Goals as goal

pub request_at-request-requires-clause-within : goal.request_at-request-requires-clause-within
request_at-request-requires-clause-within g c = size_of-pos (batch_of c.args.batch)
