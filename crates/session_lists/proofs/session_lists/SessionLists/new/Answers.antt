use Rattle.link_format.specs.Setup.{setup_of}
use Rattle.session_lists.proofs.{Lists.holds-length, TakenLines.keeps-none, TakenLines.compares-none}
use Rattle.session_lists.specs.Guarding.{Guards, guard_taken}
use Rattle.session_lists.specs.Lines.{BoxSetup}
use Rattle.std.proofs.Common.{◌≡◌, ◌∙◌, [], false, ap, arith, refl, subst, sym}
use Rattle.session_lists.proofs.session_lists.SessionLists.new.Goals as goal

pub returns-in-Ok-clause-has : goal.returns-in-Ok-clause-has
returns-in-Ok-clause-has g c =
    let sent : BoxSetup = record {
      setup = setup_of c.args.key.now c.args.dir c.args.floors.sent;
      spaced = false;
    } in
    let got : BoxSetup = record {
      setup = setup_of c.args.key.now c.args.dir c.args.floors.got;
      spaced = c.args.timing.spaced;
    } in
    let none = subst (λ v. Guards g.G.Guard false v []) (sym c.new-in-Ok-2.ensures.guard) refl in
    let heard = subst (λ v. Guards g.G.Guard c.args.timing.spaced v [])
    (sym c.new-in-Ok-3.ensures.guard) c.in-Ok.ensures.guards in
    record {
      seals = keeps-none g.S.FrameBox g.G.Guard _ _ sent c.new.ensures.stands
          (c.new.ensures.nothing sent.setup) (c.new.ensures.no_tick sent.setup)
          c.new-in-Ok-2.ensures.frames none;
      passes = keeps-none g.C.FrameBox g.G.Guard _ _ got c.new-in-Ok.ensures.stands
          (c.new-in-Ok.ensures.nothing got.setup) (c.new-in-Ok.ensures.no_tick got.setup)
          c.new-in-Ok-3.ensures.frames heard;
      reads = compares-none g.V.Device c.fresh.result c.new-in-Ok-4.result _ _
          c.fresh.ensures.stands c.fresh.ensures.nothing (c.new-in-Ok-4.ensures.found _ _);
      timing_is = refl;
    }

pub returns-in-Ok-clause-may_list : goal.returns-in-Ok-clause-may_list
returns-in-Ok-clause-may_list g c =
    let sent : BoxSetup = record {
      setup = setup_of c.args.key.now c.args.dir c.args.floors.sent;
      spaced = false;
    } in
    let got : BoxSetup = record {
      setup = setup_of c.args.key.now c.args.dir c.args.floors.got;
      spaced = c.args.timing.spaced;
    } in
    let none = subst (λ v. Guards g.G.Guard false v []) (sym c.new-in-Ok-2.ensures.guard) refl in
    let heard = subst (λ v. Guards g.G.Guard c.args.timing.spaced v [])
    (sym c.new-in-Ok-3.ensures.guard) c.in-Ok.ensures.guards in
    let zero : guard_taken g.G.Guard c.new-in-Ok-2.result.guard ≡ 0 =
    ap (guard_taken g.G.Guard) c.new-in-Ok-2.ensures.guard in
    let unheard : guard_taken g.G.Guard c.new-in-Ok-3.result.guard ≡ 0 =
    ap (guard_taken g.G.Guard) c.new-in-Ok-3.ensures.guard ∙ c.in-Ok.ensures.taken in
    let seals = keeps-none g.S.FrameBox g.G.Guard c.new.result c.new-in-Ok-2.result sent
    c.new.ensures.stands (c.new.ensures.nothing sent.setup) (c.new.ensures.no_tick sent.setup)
    c.new-in-Ok-2.ensures.frames none in
    let passes = keeps-none g.C.FrameBox g.G.Guard c.new-in-Ok.result c.new-in-Ok-3.result got
    c.new-in-Ok.ensures.stands (c.new-in-Ok.ensures.nothing got.setup)
    (c.new-in-Ok.ensures.no_tick got.setup) c.new-in-Ok-3.ensures.frames heard in
    record {
      none = omega (
        arith,
        c.new.ensures.taken,
        c.new-in-Ok.ensures.taken,
        c.fresh.ensures.taken,
      );
      able = record {
        sealer = record { able = c.new.ensures.able; heard = omega (arith, zero) };
        checker = record { able = c.new-in-Ok.ensures.able; heard = omega (arith, unheard) };
        few_sealed = omega (
          arith,
          holds-length c.new-in-Ok-2.result.frames [] c.new-in-Ok-2.ensures.frames,
        );
        few_passed = omega (
          arith,
          holds-length c.new-in-Ok-3.result.frames [] c.new-in-Ok-3.ensures.frames,
        );
        few_read = omega (arith, c.new-in-Ok-4.ensures.none);
        holds = record { origin = got; link = []; passes = passes };
      };
      first = refl;
      short = c.requires.short;
      nothing = c.fresh.ensures.nothing;
      setups = record { sent = sent.setup; got = got.setup; timing = c.args.timing };
      has = record {
        seals = seals;
        passes = passes;
        reads = compares-none g.V.Device c.fresh.result c.new-in-Ok-4.result _ _
            c.fresh.ensures.stands c.fresh.ensures.nothing (c.new-in-Ok-4.ensures.found _ _);
        timing_is = refl;
      };
    }
