use Rattle.session_audit.proofs.{Lately.rest-few, Parts.part-short, Unlisting.listed-ended}
use Rattle.session_audit.specs.Sessions.{rest_behind}
use Rattle.session_audit.specs.Through.{setups_of}
use Rattle.std.proofs.{Common.arith, Common.length-append, lemmas.List.length-replicate}
use Rattle.{session_lists.specs.Parts.part, yasir_ticks.specs.Ticks.silent}
use Rattle.yasir_ticks.specs.declared.tick.Tick.TheVariants.{Silent}
use Rattle.session_audit.proofs.over_input.audit_input_by.Goals as goal

pub judge_lists-requires-clause-taken : goal.judge_lists-requires-clause-taken
judge_lists-requires-clause-taken g c =
    let listed = c.in-Whole.ensures.listed in
    let lists = listed.lists in
    let few = part-short 1 listed.takes.told in
    let after = rest_behind c.args.session.now.tolerance.spaced in
    let long = length-append (part 1 listed.takes.told) (silent after) in
    let rest = length-replicate after Silent in
    let soon = rest-few c.args.session.now.tolerance.spaced in record {
      device = _;
      link = _;
      received = _;
      taken = record {
        has = lists.has (setups_of c.args.session.now) c.in-Ok.ensures.has;
        able = lists.able;
        few = lists.few;
      };
      short = omega (arith, few, long, rest, soon, listed.takes.few);
    }

pub returns-clause-audits : goal.returns-clause-audits
returns-clause-audits g c =
    let listed = c.in-Whole.ensures.listed in
    let lists = listed.lists in record {
      items = listed.items;
      takes = listed.takes;
      found = c.judge_lists.ensures _ _ _ (record {
        has = lists.has (setups_of c.args.session.now) c.in-Ok.ensures.has;
        able = lists.able;
        few = lists.few;
      });
    }

pub returns-in_default-clause-audits : goal.returns-in_default-clause-audits
returns-in_default-clause-audits g c = c.end_without_memory.ensures.ends _

pub returns-in_default-list_session : goal.returns-in_default-list_session
returns-in_default-list_session g c = record {
  audits = listed-ended _ _ _ g.S.FrameBox g.C.FrameBox g.V.Device g.G.Guard _ _ _
      c.in_default-list_session.not-Whole c.list_session.ensures.listed;
  read = c.list_session.ensures.read;
}
