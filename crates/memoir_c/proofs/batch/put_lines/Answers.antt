use Rattle.std.proofs.Common.{◌≡◌, ◌<◌, ◌+◌, ℕ, ◌∙◌, ap, length, subst, sym, take}
use Rattle.std.specs.Prelude.{option_copied}
use Rattle.memoir_c.specs.CallReplies.{lines_of}
use Rattle.memoir_c.proofs.Batching.{lined_more, some_there}
use Rattle.memoir_c.proofs.batch.put_lines.Goals as goal
use Rattle.memoir_c.proofs.batch.put_lines.Goals.{in-Some+in_ok-put_line, in_default}

pub outputs-preserved : goal.outputs-preserved
outputs-preserved c =
    let within : c.outputs.i < length c.args.outputs.now = subst (λ (n : ℕ). c.outputs.i < n) c.len-i-end.ensures c.outputs-test.true in
    let more : c.match-get.text ≡ lines_of (take (c.outputs.i + 1) c.args.outputs.now) = elim c.match-get.branch [
      | in-Some+in_ok-put_line w ↦ lined_more c.args.outputs.now c.outputs.i _ _ _ within c.outputs.invariant
          (sym c.get.ensures ∙ ap option_copied w.in-Some.is) (w.text-is ∙ w.in_ok-put_line.ensures)
      | in_default w ↦ absurd (some_there c.get.result c.args.outputs.now c.outputs.i within c.get.ensures w.in_default.not-Some)
    ] in
    more
