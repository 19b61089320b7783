use Rattle.mm_store.proofs.Below.{◌≡◌, ◌∙◌, ap, refl, arith, List, ℕ, ◌++◌, length, true, false, length-take-le, record_word}
use Rattle.mm_store.proofs.Below.{joined}
use Rattle.std.proofs.Common.{◌<◌, length-append, length-drop}
use Rattle.mm_bytes.specs.DecimalLaws.{length-eight_bytes}
use Rattle.mm_store.proofs.PendingLaws.{no_front-short, no_front-fields, front_of_fields}
use Rattle.mm_store.proofs.pending.front_of.Goals as goal
use Rattle.mm_store.proofs.pending.front_of.Goals.{else-begins_record-via-then-begins_record+else-request-length}
use Rattle.mm_store.proofs.pending.front_of.Goals.{else-begins_record-via-else-begins_record}

pub returns-in_err-word : goal.returns-in_err-word
returns-in_err-word c =
    rw c.from_residual.ensures (no_front-short c.args.front.now (omega (arith, c.in_err-word.ensures.cases)))

pub returns-in_err-position : goal.returns-in_err-position
returns-in_err-position c =
    let rest = c.in_ok-word.ensures.cases.1 in
    let short : length c.args.front.now < 16 =
    omega (arith, ap length rest, length-drop 4 c.args.front.now, c.in_err-position.ensures) in
    rw c.from_residual-in_err-position.ensures (no_front-short c.args.front.now short)

pub returns-in_err-length : goal.returns-in_err-length
returns-in_err-length c =
    let rest = c.in_ok-word.ensures.cases.1 in
    let after = c.in_ok-position.ensures.0 in
    let short : length c.args.front.now < 16 =
    omega (
      arith,
      ap length rest,
      length-drop 4 c.args.front.now,
      ap length after,
      length-append {A = ℕ},
      length-eight_bytes,
      c.in_err-length.ensures,
    ) in
    rw c.from_residual-in_err-length.ensures (no_front-short c.args.front.now short)

pub returns-then-request-length : goal.returns-then-request-length
returns-then-request-length c =
    let parts = c.in_ok-word.ensures.cases in
    let same : c.in_ok-word.word.now ≡ record_word = c.if-begins_record.ensures.0 refl in
    record {
      position = c.in_ok-position.ensures.1;
      size = omega (arith, c.in_ok-length.ensures.1);
      spelled =
          front_of_fields c.args.front.now c.in_ok-word.rest.now c.in_ok-position.rest.now c.in_ok-position.position
          c.in_ok-length.length c.in_ok-length.request.now
          (joined 4 _ _ _ parts.0 parts.1 ∙ ap (λ (x : List ℕ). x ++ c.in_ok-word.rest.now) same)
          c.in_ok-position.ensures.0 c.in_ok-length.ensures.0 c.if-request-length.true;
    }

pub returns-else-begins_record : goal.returns-else-begins_record
returns-else-begins_record c =
    let parts = c.in_ok-word.ensures.cases in
    no_front-fields c.args.front.now c.in_ok-word.word.now c.in_ok-word.rest.now c.in_ok-position.rest.now
    c.in_ok-length.request.now c.in_ok-position.position c.in_ok-length.length (joined 4 _ _ _ parts.0 parts.1)
    (ap length parts.0 ∙ length-take-le 4 c.args.front.now (omega arith)) c.in_ok-position.ensures.0
    c.in_ok-length.ensures.0 c.in_ok-length.ensures.1
    (λ w l. elim c.else-begins_record.branch [
      | else-begins_record-via-then-begins_record+else-request-length b ↦ (b.if-request-length.false l)
      | else-begins_record-via-else-begins_record b ↦ (let h : false ≡ true = b.if-begins_record.ensures.1 w in cc)
    ])
