use Rattle.std.proofs.Common.{ap, subst}
use Rattle.mm_app.specs.Commands.{UsesPlatform}
use Rattle.mm_words.specs.declared.command.CommandLine.{CommandLine}
use Rattle.mm_words.proofs.Above.{one_command}
use Rattle.mm_at_work.proofs.commands.run_command.Goals as goal

pub returns : goal.returns
returns g c command spells = record {
  does = c.memoir.ensures.does command spells;
  unused = λ unused. ap (λ p. g.P.Device.standing p) (c.memoir.ensures.platform (λ other uses said.
      unused (subst (λ (it : CommandLine). UsesPlatform it) (one_command _ other command said spells) uses)));
}
