use Rattle.mm_call.proofs.Below.{◌≡◌, ◌≤◌, ◌∙◌, ℕ, List, length, IsTrue, Meaning, IsLawful, limit_of, state_from, state_from-is_spelled}
use Rattle.mm_call.proofs.Below.{members_of, batch_of}
use Rattle.mm_call.proofs.answering.answer.Goals as goal

-- the state after a batch fits into a snapshot
small_state : (meaning : Meaning) → IsLawful meaning → (start : List ℕ) (members : List (List ℕ)) (state : List ℕ) (id : ℕ)
    → IsTrue (meaning.is_spelled start) → state ≡ state_from meaning start members → id ≡ meaning.id → length state ≤ limit_of id
small_state meaning lawful start members state id spelled state_is id_is =
    rw (state_is, id_is) (lawful.fits (state_from meaning start members) (state_from-is_spelled meaning lawful start members spelled))

pub seal-requires-clause-state : goal.seal-requires-clause-state
seal-requires-clause-state g c =
    small_state (g.M.Module.meaning c.args.module.now) (g.met.M.Module.is_lawful c.args.module.now) c.args.offered.now.state.now
    (members_of (batch_of c.args.batch)) c.as_slice.result.now c.id.result c.requires.spelled
    (c.as_slice.ensures.value ∙ c.in_ok-state.ensures.state) c.id.ensures

pub seal_new-requires-clause-state : goal.seal_new-requires-clause-state
seal_new-requires-clause-state g c =
    small_state (g.M.Module.meaning c.args.module.now) (g.met.M.Module.is_lawful c.args.module.now) c.args.offered.now.state.now
    (members_of (batch_of c.args.batch)) c.as_slice.result.now c.id.result c.requires.spelled
    (c.as_slice.ensures.value ∙ c.in_ok-state.ensures.state) c.id.ensures
