use Rattle.mm_receipted.proofs.Below.{sym, ◌∙◌, kept_state_of}
use Rattle.mm_module.specs.LineLaws.{are_bytes-Fits}
use Rattle.mm_receipted.proofs.TaggedLaws.{spelled-then, spelled-else}
use Rattle.mm_receipted.proofs.receipted.ReceiptedModule.state_is_spelled.Goals as goal

pub returns-then-front_is_formed : goal.returns-then-front_is_formed
returns-then-front_is_formed g c =
    spelled-then (g.M.Module.meaning c.args.self.now.inner) c.args.state.now c.state_is_spelled.result (kept_state_of c.read_kept.result)
    (are_bytes-Fits c.args.state.now c.type_inv.state) (sym c.front_is_formed.ensures ∙ c.if-front_is_formed.true)
    c.state_is_spelled.ensures c.read_kept.ensures

pub returns-else-front_is_formed : goal.returns-else-front_is_formed
returns-else-front_is_formed g c =
    c.if-front_is_formed.false ∙ sym (spelled-else (g.M.Module.meaning c.args.self.now.inner) c.args.state.now
    (are_bytes-Fits c.args.state.now c.type_inv.state) (sym c.front_is_formed.ensures ∙ c.if-front_is_formed.false))
