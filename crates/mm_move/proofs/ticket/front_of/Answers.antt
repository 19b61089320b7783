use Rattle.mm_move.proofs.Below.{List, ℕ, [], ◌∷◌, ◌++◌, ◌≡◌, ◌∙◌, ap, variant_byte, variant_of}
use Rattle.mm_digest.specs.declared.digest.Digest.{Digest}
use Rattle.mm_move.specs.Tickets.{ticket_front}
use Rattle.mm_move.proofs.ticket.front_of.Goals as goal

pub returns : goal.returns
unfolding ticket_front
returns c =
    let variant : c.byte.result ≡ variant_byte (variant_of c.args.ticket.now.body.place) =
    c.byte.ensures ∙ ap variant_byte c.variant-variant.ensures in
    let head = c.copy_from_slice.ensures.after
    ∙ ap (λ (byte : ℕ). 0x4d ∷ 0x4d ∷ 0x54 ∷ 0x31 ∷ byte ∷ c.args.ticket.now.body.module ∷ []) variant in
    let summary = c.copy_from_slice-3.ensures.after ∙ ap (λ (digest : Digest). digest.bytes) c.summary_of.ensures in
    let counts = c.copy_from_slice-4.ensures.after ∙ c.counts_of.ensures in
    λ j. head j ++ (c.copy_from_slice-2.ensures.after j ++ (summary j ++ counts j))
