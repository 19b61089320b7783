use Rattle.mm_seal.proofs.Below.{◌≡◌, ◌++◌, ◌∙◌, ap, arith, drop, length-drop, List, take, take_all, take-append-drop, ℕ}
use Rattle.mm_digest.specs.declared.digest.Digest.{Digest}
use Rattle.mm_seal.specs.Parts.{place_length}
use Rattle.mm_seal.proofs.snapshot.place_in.Goals as goal

pub returns-in-Basic-clause-spelled : goal.returns-in-Basic-clause-spelled
returns-in-Basic-clause-spelled c =
    ap (λ (digest : Digest). digest.bytes) c.digest_at-digest.ensures
    ∙ take_all 32 c.args.bytes.now (omega (arith, c.requires, ap place_length c.in-Basic.is))

pub returns-in-Opt-clause-spelled : goal.returns-in-Opt-clause-spelled
returns-in-Opt-clause-spelled c =
    let bytes = c.args.bytes.now in
    let back : c.digest_at.result.bytes ≡ drop 32 bytes =
    ap (λ (digest : Digest). digest.bytes) c.digest_at.ensures
    ∙ take_all 32 (drop 32 bytes) (omega (arith, c.requires, ap place_length c.in-Opt.is, length-drop 32 bytes)) in
    ap (λ (digest : Digest). digest.bytes ++ c.digest_at.result.bytes) c.digest_at-digest.ensures
    ∙ ap (λ (x : List ℕ). take 32 bytes ++ x) back ∙ take-append-drop 32 bytes
