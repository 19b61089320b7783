use Rattle.mm_slots.proofs.Below.{◌≡◌, ◌∙◌, List, ap, arith, Row, SlotsState}
use Rattle.mm_slots.specs.Stage.{committed_count_in, issued_count_in}
use Rattle.mm_slots.proofs.Growing.{all_most, requests_few, snapshots_few}
use Rattle.mm_slots.proofs.stage.SlotsStage.report.Goals as goal

pub overflow_cast-result : goal.overflow_cast-result
overflow_cast-result c =
    let p = c.self.inside in
    let k = c.self.invariant in
    let few = snapshots_few p.slots.items (all_most p.slots.items p.events k) in
    let all = ap (λ (x : List Row). issued_count_in x) c.as_slice-2.ensures.value in
    omega (arith, c.snapshots_in.ensures, all, few, k.most)

pub returns-clause-committed : goal.returns-clause-committed
returns-clause-committed c =
    let p = c.self.inside in
    let k = c.self.invariant in
    let few = requests_few p.slots.items (all_most p.slots.items p.events k) in
    let all = ap (λ (x : List Row). committed_count_in x) c.as_slice.ensures.value in
    let here : c.requests_in.result ≡ committed_count_in p.slots.items = omega (arith, c.requests_in.ensures, all, few, k.most) in
    here ∙ ap (λ (r : SlotsState). committed_count_in r.rows) c.self.view_is

pub returns-clause-issued : goal.returns-clause-issued
returns-clause-issued c =
    let p = c.self.inside in
    let k = c.self.invariant in
    let few = snapshots_few p.slots.items (all_most p.slots.items p.events k) in
    let all = ap (λ (x : List Row). issued_count_in x) c.as_slice-2.ensures.value in
    let here : c.snapshots_in.result ≡ issued_count_in p.slots.items = omega (arith, c.snapshots_in.ensures, all, few, k.most) in
    here ∙ ap (λ (r : SlotsState). issued_count_in r.rows) c.self.view_is
