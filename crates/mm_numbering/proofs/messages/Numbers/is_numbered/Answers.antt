use Rattle.mm_numbering.proofs.Below.{◌∙◌, ℕ, List, ap, sym, bytes_eq, option_copied}
use Rattle.mm_numbering.proofs.ListingLaws.{listed_at}
use Rattle.mm_numbering.proofs.messages.Numbers.is_numbered.Goals as goal

pub returns-in-Some : goal.returns-in-Some
returns-in-Some c = λ same.
    listed_at c.args.self.now.texts c.args.message.now c.in-Some.text.now _ (sym c.get.ensures ∙ ap option_copied c.in-Some.is)
    (ap (λ (t : List ℕ). bytes_eq t c.in-Some.text.now) (sym c.as_slice.ensures) ∙ sym c.eq.ensures ∙ same)
