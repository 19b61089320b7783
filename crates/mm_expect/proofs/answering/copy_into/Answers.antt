use Rattle.mm_expect.proofs.Below.{◌≡◌, ◌<◌, ◌+◌, sym, ap, ◌∙◌, subst, ℕ, length, take}
use Rattle.std.specs.Prelude.{option_copied}
use Rattle.mm_expect.proofs.CallLaws.{copied_more, some_there}
use Rattle.mm_expect.proofs.answering.copy_into.Goals as goal
use Rattle.mm_expect.proofs.answering.copy_into.Goals.{in-Some+in_ok-one+in_ok-push, in_default}

pub outputs-preserved : goal.outputs-preserved
outputs-preserved c =
    let within : c.outputs.i < length c.args.outputs.now = subst (λ (n : ℕ). c.outputs.i < n) c.len-i-end.ensures c.outputs-test.true in
    let more : c.match-get.copy ≡ take (c.outputs.i + 1) c.args.outputs.now = elim c.match-get.branch [
      | in-Some+in_ok-one+in_ok-push w ↦ copied_more c.args.outputs.now c.outputs.i within c.outputs.invariant
          (sym c.get.ensures ∙ ap option_copied w.in-Some.is) w.in_ok-one.ensures (w.copy-is ∙ w.in_ok-push.ensures.ok)
      | in_default w ↦ absurd (some_there c.get.result c.args.outputs.now c.outputs.i within c.get.ensures w.in_default.not-Some)
    ] in
    more
