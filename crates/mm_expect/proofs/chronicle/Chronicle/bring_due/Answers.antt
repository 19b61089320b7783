use Rattle.mm_expect.proofs.Below.{map, take, ◌+◌, [], subst, sym, Foreign, due_values, ChronicleView, ChronicleGoes}
use Rattle.mm_expect.proofs.Settling.{bring_one, bring_none}
use Rattle.mm_expect.proofs.chronicle.Chronicle.bring_due.Goals as goal
use Rattle.mm_expect.proofs.chronicle.Chronicle.bring_due.Goals.{then-meddle-step+in_ok-bring, else-meddle-step}

pub meddles-preserved : goal.meddles-preserved
meddles-preserved c =
    let all = c.args.course.now.meddles.now in
    let n = c.meddles.meddle-index in
    let So : ChronicleView → Type 0 = λ r. ChronicleGoes c.args.self.now r (map Foreign (due_values c.args.step (take (n + 1) all))) in
    elim c.if-meddle-step.branch [
      | then-meddle-step+in_ok-bring w ↦
          subst So (sym w.self-is)
          (bring_one c.args.self.now c.meddles.self w.bring.new.self c.args.step all n (record { step = 0; value = record { bytes = [] } })
          c.meddles-test.true w.if-meddle-step.true c.meddles.invariant w.in_ok-bring.ensures)
      | else-meddle-step w ↦
          subst So (sym w.self-is)
          (bring_none c.args.self.now c.meddles.self c.args.step all n (record { step = 0; value = record { bytes = [] } })
          c.meddles-test.true w.if-meddle-step.false c.meddles.invariant)
    ]
