-- The first line of a transfer is one; and each event that is followed is one more.
use Rattle.std.specs.Prelude.{◌≡◌, ℕ, ◌+◌, ◌<◌, ◌^◌, List, Option, None, Some}
use Rattle.std.specs.Option.{option_map}
use Rattle.std.proofs.Common.{sym, ap, arith}
use Rattle.mm_play.specs.Headline.{HeadingStep, More, Begins}
use Rattle.mm_play.specs.Stage.{heading_step_by, answer_by}
use Rattle.mm_play.specs.StageLaws.{same_stage}
use Rattle.mm_transfer.specs.Below.{BothEvent, Header}
use Rattle.mm_transfer.specs.Stage.{first_header_at, event_at, TransferState, transfer_after, first_transfer, transfer_steps}
use Rattle.mm_transfer.specs.Stage.{transfer_heads, transfer_stage}
use Rattle.mm_transfer.specs.declared.opening.FirstLine.{FirstLine}

-- no line of it leads to more lines of it
never_more : (found : Option Header) (next : FirstLine)
    → (let x : Option (HeadingStep FirstLine TransferState) =
    heading_step_by first_transfer (option_map (λ header. Begins header) found) in x ≡ Some (More next)) → ⊥
never_more None next h = cc
never_more (Some header) next h = cc

pub leads_nowhere : (it next : FirstLine) (line : List ℕ)
    → transfer_heads.behind it line ≡ Some (More next)
    → transfer_heads.left next < transfer_heads.left it
leads_nowhere it next line h = absurd (never_more (first_header_at line) next h)

pub leaves_none : (it : FirstLine) → transfer_heads.left it < 2 ^ 30
leaves_none it = omega arith

counts_by : (it next : TransferState) (found : Option BothEvent) (reply : List ℕ)
    → answer_by transfer_steps it found ≡ Some (reply, next) → next.events ≡ it.events + 1
counts_by it next None reply h = cc
counts_by it next (Some event) reply h =
    ap (λ (r : TransferState). r.events)
    (sym (same_stage (transfer_steps.reply it event) reply (transfer_after it event) next h))

pub counts_on : (it next : TransferState) (line reply : List ℕ)
    → transfer_stage.answer it line ≡ Some (reply, next)
    → transfer_stage.events next ≡ transfer_stage.events it + 1
counts_on it next line reply h = counts_by it next (event_at line) reply h
