use Rattle.std.proofs.Common.{rules, sym, subst}
use Rattle.mm_platform.specs.Standing.{Standing}
use Rattle.mm_told.specs.CallPath.{bare_standing, IsMade}
use Rattle.mm_told.proofs.Playing.{made_bare}
use Rattle.mm_told.proofs.hosting.go_on.Goals as goal

pub end-requires : goal.end-requires
end-requires g c κs within =
    let old = g.P.Device.standing c.args.platform.now in
    let new = g.P.Device.standing c.make.new.platform in (
      search rules,
      (
        search rules,
        (
          made_bare c.args.one.now g.start.0 g.start.1 c.requires.1.1.1,
          (
            subst (λ (at : Standing). IsMade c.in-Ok.two (bare_standing at) (bare_standing (bare_standing new))) (sym c.requires.1.1.0)
                (made_bare c.in-Ok.two (bare_standing old) (bare_standing new) c.in-Ok.ensures.made),
            tt,
          ),
        ),
      ),
    )
