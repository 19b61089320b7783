use Rattle.mm_pages.proofs.Below.{◌≡◌, ℕ, ◌*◌, ◌++◌, List, length, take, drop, ap, ◌∙◌, arith, refl, subst, length-append, take-append_seam}
use Rattle.mm_pages.proofs.Below.{resized_bytes, bytes_with_page}
use Rattle.mm_pages.proofs.BytesLaws.{bytes_with_page-amid, bytes_with_page-end, length-resized}
use Rattle.mm_pages.proofs.memory.Sheet.put_page.Goals as goal

seamless : (n : ℕ) (bytes rest : List ℕ) → length bytes ≡ n → take n (bytes ++ rest) ≡ bytes
seamless n bytes rest e = subst (λ k. take k (bytes ++ rest) ≡ bytes) e (take-append_seam bytes rest)

pub returns-then-start-len : goal.returns-then-start-len
returns-then-start-len c =
    let there : List ℕ = c.as_mut_slice.result.now in
    let same : there ≡ c.args.self.now = c.as_mut_slice.ensures.value ∙ c.self.view_is in
    seamless _ c.put_at.new.bytes _ (omega arith)
    ∙ c.put_at.ensures
    ∙ bytes_with_page-amid c.args.page (256 * c.from-start.result) c.args.part.now there
    (take (256 * c.from-start.result) there) (drop (256 * c.from-start.result) there) _
    (ap (λ n. 256 * n) c.from-start.ensures) (omega arith) refl refl refl
    ∙ ap (λ (x : List ℕ). bytes_with_page c.args.page c.args.part.now x) same

pub unwrap-requires : goal.unwrap-requires
unwrap-requires c =
    c.extend_from_slice.ensures.succeeds
    (omega (
      arith,
      ap length c.self-2.view_is,
      ap length c.resize.ensures,
      length-resized (256 * c.from-start.result) c.args.self.now,
      c.from-start.ensures,
      c.self-2.invariant.0,
    ))

pub invariant_of-self-2 : goal.invariant_of-self-2
invariant_of-self-2 c =
    let items = rw c.unwrap.ensures at c.extend_from_slice.ensures.items in
    let size = ap length items ∙ length-append c.self-2.inside.bytes.items c.args.part.now in (
      omega (arith, c.self-2.invariant.0),
      omega (
        arith,
        size,
        ap length c.self-2.view_is,
        ap length c.resize.ensures,
        length-resized (256 * c.from-start.result) c.args.self.now,
        c.from-start.ensures,
      ),
    )

pub returns : goal.returns
returns c =
    let items = rw c.unwrap.ensures at c.extend_from_slice.ensures.items in
    items ∙ ap (λ (x : List ℕ). x ++ c.args.part.now) (c.self-2.view_is ∙ c.resize.ensures
    ∙ ap (λ n. resized_bytes (256 * n) c.args.self.now) c.from-start.ensures)
    ∙ bytes_with_page-end c.args.page c.args.part.now c.args.self.now (omega (arith, ap length c.self.view_is))
