use Rattle.mm_at_work.proofs.CommandsKeeping.{basic_commands_keep, opt_commands_keep}
use Rattle.mm_at_work.proofs.commands.commands_keep_promises.Goals as goal

pub returns-clause-basic : goal.returns-clause-basic
returns-clause-basic c =
    basic_commands_keep c.commands_are_one_life.ensures.life c.lives_keep_promises.ensures c.sessions_offer_slots.ensures
    c.basic_life_is_one.ensures

pub returns-clause-opt : goal.returns-clause-opt
returns-clause-opt c =
    opt_commands_keep c.commands_are_one_life.ensures.life c.lives_keep_promises.ensures c.sessions_offer_slots.ensures
    c.opt_life_is_one.ensures
