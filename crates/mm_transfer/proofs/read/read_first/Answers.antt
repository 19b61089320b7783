use Rattle.mm_transfer.proofs.Below.{◌≡◌, ◌∙◌, ap, Option, Some, List, ℕ, codes, Header}
use Rattle.mm_schedule.specs.Headers.{header_of_words, ◌>>=◌, rest_after_prefix}
use Rattle.mm_transfer.specs.Stage.{first_header_at}
use Rattle.mm_transfer.proofs.read.read_first.Goals as goal

reads : (line words : List ℕ) (found : Option Header) → Some words ≡ rest_after_prefix (codes "memoir transfer 1 ") line
    → found ≡ header_of_words words
    → found ≡ first_header_at line
unfolding first_header_at
reads line words found behind is = is ∙ ap (λ (rest : Option (List ℕ)). rest >>= header_of_words) behind

pub returns : goal.returns
returns c = reads c.args.line.now c.in_ok-words.words.now c.read_head.result c.in_ok-words.ensures c.read_head.ensures.read
