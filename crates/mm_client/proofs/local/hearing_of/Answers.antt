use Rattle.std.proofs.Common.{◌≡◌, ◌∙◌, true, false, arith, length, sym}
use Rattle.std.proofs.lemmas.Bool.Decides.{nat_tests}
use Rattle.mm_client.proofs.Hearings.{hears_so}
use Rattle.mm_client.proofs.local.hearing_of.Goals as goal
use Rattle.mm_client.proofs.local.hearing_of.Goals.{then-is_ok, else-is_ok}

pub returns-after-is_ok : goal.returns-after-is_ok
returns-after-is_ok c =
    hears_so c.args.output.now c.first_bytes-heard.result.now c.args.count c.args.ended c.in-Ok.replies.items c.if-is_ok.new
    c.new-in-Ok.result c.new-in-Ok.ensures c.in-Ok.ensures c.first_bytes-heard.ensures (sym c.is_cut.ensures ∙ c.if-is_cut.false)
    (λ whole. elim c.if-is_ok.branch [
      | then-is_ok w ↦
          let same = sym w.new-is ∙ whole in
          let size : length c.first_bytes-heard.result.now ≡ length c.args.output.now = grind (arith, nat_tests) in
          (sym w.if-is_ok.ensures.value, size)
      | else-is_ok w ↦ let clash : true ≡ false = sym whole ∙ w.new-is ∙ w.if-is_ok.false in absurd (cc)
    ])
