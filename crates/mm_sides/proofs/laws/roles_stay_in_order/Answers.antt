use Rattle.mm_sides.proofs.InOrder.{roles_begin, roles_swap, roles_go_on, roles_enter_last, roles_are_one}
use Rattle.mm_sides.proofs.laws.roles_stay_in_order.Goals as goal

pub returns : goal.returns
returns c = record { begin = roles_begin; swap = roles_swap; next = roles_go_on; enter = roles_enter_last; one = roles_are_one }
