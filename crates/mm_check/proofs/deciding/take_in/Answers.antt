use Rattle.mm_check.proofs.Below.{ℕ, List, length, ap, subst, arith, fold, messages_with, ListsMessages}
use Rattle.std.proofs.lemmas.Result.{on_ok_weaker}
use Rattle.mm_check.proofs.deciding.take_in.Goals as goal

pub list_all-requires : goal.list_all-requires
list_all-requires c = omega (arith, c.requires.few, ap length c.as_slice.ensures.value)

pub returns : goal.returns
returns c = on_ok_weaker c.put_reply.result (λ told. record {
  lists = λ seen h. subst (λ (l : List (List ℕ)). ListsMessages (fold messages_with seen l) c.list_all.new.self)
      c.as_slice.ensures.value (c.in_ok-list_all.ensures seen h);
  told = told;
}) c.put_reply.ensures
