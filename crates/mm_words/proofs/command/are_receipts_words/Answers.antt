use Rattle.mm_words.proofs.Below.{◌∙◌, sym, bytes_eq-Decides}
use Rattle.mm_words.proofs.Reading.{tells_two}
use Rattle.mm_words.proofs.command.are_receipts_words.Goals as goal

pub returns-then-eq : goal.returns-then-eq
returns-then-eq c =
    tells_two c.gives_key.result c.args.words.now c.args.key.now _ _ c.in-len2.len_at_least c.in-len2.len_below
    ((bytes_eq-Decides _ _).0 (sym c.eq.ensures ∙ c.if-eq.true)) c.gives_key.ensures
