use Rattle.std.specs.Prelude.{ℕ, List, Option, Ok}
use Rattle.mm_host_commands.proofs.RunningOnce.{continues_if_found, runs_once_if_found}
use Rattle.mm_host_commands.specs.Outside.{Outside, outside}
use Rattle.mm_host_commands.proofs.run.run_instance.Given.{Over}
use Rattle.mm_host_commands.proofs.run.run_instance.Goals.{After-serve_and_stop}
use Rattle.mm_host_commands.proofs.run.run_instance.Goals as goal

-- what the objects told behind the look, and at the end
abbrev looked : (g : Over) → After-serve_and_stop g → Option (List ℕ) → ℕ → Outside
looked g c entropy takes =
    outside (g.P.Device.standing c.look.new.platform) (g.T.Store.kept c.args.store.now) (g.S.Source.left c.args.input.now)
    (g.S.Source.faults c.args.input.now) entropy takes (g.K.Sink.received c.args.out.now) (g.K.Sink.faults c.args.out.now)

abbrev served : (g : Over) → After-serve_and_stop g → Option (List ℕ) → ℕ → Outside
served g c entropy takes =
    outside (g.P.Device.standing c.serve_and_stop.new.platform) (g.T.Store.kept c.serve_and_stop.new.store)
    (g.S.Source.left c.serve_and_stop.new.input) (g.S.Source.faults c.serve_and_stop.new.input) entropy takes
    (g.K.Sink.received c.serve_and_stop.new.out) (g.K.Sink.faults c.serve_and_stop.new.out)

pub returns-in-Ok : goal.returns-in-Ok
returns-in-Ok g c entropy takes =
    let it = (goal.at.returns-in-Ok g c).After-serve_and_stop in
    record {
      middle = g.P.Device.standing c.look.new.platform;
      found = Ok c.in-Ok.header;
      looks = c.in-Ok.ensures;
      goes = c.serve_and_stop.ensures entropy takes;
      once = runs_once_if_found (Ok c.in-Ok.header) _ (looked g it entropy takes) (served g it entropy takes) c.in-Ok.ensures;
      continues = continues_if_found (Ok c.in-Ok.header) _ (looked g it entropy takes) (served g it entropy takes) c.in-Ok.ensures;
    }
