use Rattle.mm_history.proofs.Below.{◌≡◌, ◌++◌, ◌∙◌, sym, length, take, drop, take-append-drop}
use Rattle.std.proofs.lemmas.Slice.Eq.{bytes_eq-Decides}
use Rattle.mm_history.proofs.known_digests.is_joined.Goals as goal

pub returns-in-Some : goal.returns-in-Some
returns-in-Some c = λ yes.
    let size = length c.args.first.now in
    let front : take size c.args.bytes.now ≡ c.args.first.now =
    (bytes_eq-Decides (take size c.args.bytes.now) c.args.first.now).0 c.in-Some.ensures.cases.0 in
    let back : c.in-Some.rest.now ≡ c.args.second.now =
    (bytes_eq-Decides c.in-Some.rest.now c.args.second.now).0 (sym c.eq.ensures ∙ yes) in
    sym (take-append-drop size c.args.bytes.now) ∙ (λ j. front j ++ (sym c.in-Some.ensures.cases.1 ∙ back) j)
