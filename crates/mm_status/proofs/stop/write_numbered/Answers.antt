use Rattle.mm_status.proofs.Below.{◌∙◌, ◌++◌, ◌∷◌, [], subst, SinkSends}
use Rattle.std.specs.Fmt.{decimal}
use Rattle.std.proofs.lemmas.Result.{err_from_is_err_and}
use Rattle.mm_status.proofs.Sending.{SinkSends-stopped, SinkSends-append}
use Rattle.mm_status.proofs.stop.write_numbered.Goals as goal

pub returns-in_err-write_all-clause-sent : goal.returns-in_err-write_all-clause-sent
returns-in_err-write_all-clause-sent g c =
    let p = err_from_is_err_and c.from_residual.result c.from_residual.ensures.1 in
    rw p.1 (SinkSends-stopped _ _ c.args.words.now (decimal c.args.number ++ 10 ∷ []) c.write_all.result _ c.write_all.ensures.sent)

pub returns-in_err-write_all-2-clause-sent : goal.returns-in_err-write_all-2-clause-sent
returns-in_err-write_all-2-clause-sent g c =
    let p = err_from_is_err_and c.from_residual-in_err-write_all-2.result c.from_residual-in_err-write_all-2.ensures.1 in
    let digits = c.as_bytes.ensures.value ∙ c.format-digits.ensures.text in
    let second = subst (λ bytes. SinkSends (g.K.Sink.received c.write_all.new.sink) (g.K.Sink.received c.write_all-2.new.sink) bytes
    c.write_all-2.result) digits c.write_all-2.ensures.sent in
    rw p.1 (SinkSends-append _ _ _ c.args.words.now (decimal c.args.number ++ 10 ∷ []) c.write_all.result _ _ c.write_all.ensures.sent
    c.in_ok-write_all.was (SinkSends-stopped _ _ (decimal c.args.number) (10 ∷ []) c.write_all-2.result _ second))

pub returns-clause-sent : goal.returns-clause-sent
returns-clause-sent g c =
    let digits = c.as_bytes.ensures.value ∙ c.format-digits.ensures.text in
    let second = subst (λ bytes. SinkSends (g.K.Sink.received c.write_all.new.sink) (g.K.Sink.received c.write_all-2.new.sink) bytes
    c.write_all-2.result) digits c.write_all-2.ensures.sent in
    SinkSends-append _ _ _ c.args.words.now (decimal c.args.number ++ 10 ∷ []) c.write_all.result c.write_all-3.result _
    c.write_all.ensures.sent c.in_ok-write_all.was (SinkSends-append _ _ _ (decimal c.args.number) (10 ∷ []) c.write_all-2.result
    c.write_all-3.result _ second c.in_ok-write_all-2.was c.write_all-3.ensures.sent)
