use Rattle.command_ends.specs.Links.{delay_of}
use Rattle.link_format.specs.NumberedFrame.{NumberedFrame}
use Rattle.session_audit.proofs.Lately.{delay-soon}
use Rattle.session_audit.specs.Through.{lateness_through, link_through, setups_of}
use Rattle.std.proofs.Common.{◌+◌, ◌^◌, ◌<◌, ◌≤◌, arith, length}
use Rattle.std.proofs.lemmas.List.Elements.{All-weaker}
use Rattle.session_audit.proofs.judged_lists.judge_lists.Goals as goal

pub difference-requires : goal.difference-requires
difference-requires g c =
    let some = c.requires.taken in
    let session = c.args.session.now in
    record {
      setups = setups_of session;
      device = _;
      link = _;
      received = _;
      has = some.taken.has;
      in_time = All-weaker
          (λ (f : NumberedFrame). f.start ≤ length (link_through session some.link))
          (λ (f : NumberedFrame). delay_of session.profile + f.start < 2 ^ 64)
          (λ (f : NumberedFrame) within.
          omega (arith, within, some.short, delay-soon session.profile)) _
          (c.requires.in_time (setups_of session).got (link_through session some.link));
    }

pub judge-requires-clause-sealed : goal.judge-requires-clause-sealed
judge-requires-clause-sealed g c =
    (c.sealed.ensures.frames _ _ _ _ c.requires.taken.taken.has).whole

pub judge-requires-clause-passed : goal.judge-requires-clause-passed
judge-requires-clause-passed g c =
    (c.passed.ensures.frames _ _ _ _ c.requires.taken.taken.has).whole

pub judge-requires-clause-short : goal.judge-requires-clause-short
judge-requires-clause-short g c =
    let taken = c.requires.taken.taken in record {
      sealed_ones = omega (arith, taken.few, c.sealed.ensures.few taken.able);
      passed_ones = omega (arith, taken.few, c.passed.ensures.few taken.able);
      read_ones = omega (arith, taken.few, c.read_count.ensures.few taken.able);
    }

pub returns : goal.returns
returns g c = λ device link received taken.
    c.judge.ensures (lateness_through c.args.session.now) _ _ _ _
    (c.sealed.ensures.frames (setups_of c.args.session.now) _ _ _ taken.has)
    (c.passed.ensures.frames (setups_of c.args.session.now) _ _ _ taken.has)
    (c.read_count.ensures.count (setups_of c.args.session.now) _ _ _ taken.has)
    (c.difference.ensures (setups_of c.args.session.now) _ _ _ taken.has)
    (c.requires.in_turn (setups_of c.args.session.now).sent _)
