use Rattle.mm_base.proofs.Below.{◌-◌, ◌∙◌, ap, List, refl, slice_range, ℕ}
use Rattle.mm_base.specs.Streams.{held_bytes}
use Rattle.mm_base.proofs.ReadingLemmas.{reads_line}
use Rattle.mm_base.proofs.lines.LineReader.next.Goals as goal

pub returns-in-Line : goal.returns-in-Line
returns-in-Line g c =
    let end = c.skip.new.self.start - 1 in
    let said = ap (λ (xs : List ℕ). slice_range xs (end - c.in-Line.size) end) c.deref.ensures.value ∙ c.skip.ensures.line in (
      (
        refl,
        λ _. tt,
        reads_line c.args.limit (g.S.Source.left c.args.source.now) (g.S.Source.left c.see.new.source) c.args.self.now
            (held_bytes c.see.new.self) _ c.in-Line.size _
            (rw (c.in-Line.is, c.self.view_is) at c.in_ok-size.ensures.seen) said c.skip.ensures.rest,
      ),
      record { after = tt; counted = record { later = c.in_ok-size.ensures.counted.later; told = c.in_ok-size.ensures.counted.told } },
    )
