use Rattle.std.proofs.Common.{◌∙◌, ◌∷◌, ◌++◌, [], ℕ, List, Some, None, sym, ap, append_assoc}
use Rattle.std.proofs.lemmas.List.{append-nil}
use Rattle.mm_client.specs.declared.heard.HeardReply.{HeardReply}
use Rattle.mm_client.specs.LocalLife.{replies_in}
use Rattle.mm_client.proofs.Hearings.{replies_in-unbroken, step_on}
use Rattle.mm_client.proofs.output.replies_in.Goals as goal

pub lines-preserved-in_ok-push : goal.lines-preserved-in_ok-push
lines-preserved-in_ok-push c =
    ap (λ (items : List HeardReply). items ++ replies_in c.in-Some.behind.now) c.in_ok-push.ensures.items
    ∙ append_assoc c.lines.replies.items (c.in-Some-2.reply ∷ []) (replies_in c.in-Some.behind.now)
    ∙ step_on c.lines.replies.items (Some c.in-Some-2.reply) c.in-Some.line.now c.in-Some.behind.now c.args.output.now
    (ap (λ (rest : List ℕ). c.lines.replies.items ++ replies_in rest) (sym c.in-Some.ensures.1) ∙ c.lines.invariant)
    c.in-Some.ensures.0 (sym c.in_ok-reply.ensures ∙ c.in-Some-2.is)

pub lines-preserved : goal.lines-preserved
lines-preserved c =
    step_on c.lines.replies.items None c.in-Some.line.now c.in-Some.behind.now c.args.output.now
    (ap (λ (rest : List ℕ). c.lines.replies.items ++ replies_in rest) (sym c.in-Some.ensures.1) ∙ c.lines.invariant)
    c.in-Some.ensures.0 (sym c.in_ok-reply.ensures ∙ c.in_default-2.is)

pub returns : goal.returns
returns c =
    sym (append-nil c.lines.replies.items)
    ∙ ap (λ (more : List HeardReply). c.lines.replies.items ++ more) (sym (replies_in-unbroken c.lines.rest.now c.in_default.ensures))
    ∙ c.lines.invariant
