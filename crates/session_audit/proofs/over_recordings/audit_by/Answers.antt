use Rattle.session_audit.proofs.Lately.{rest-few}
use Rattle.session_audit.specs.{Sessions.rest_behind, Through.setups_of}
use Rattle.std.proofs.{Common.arith, Common.length-append, lemmas.List.length-replicate}
use Rattle.yasir_ticks.specs.{Ticks.silent, declared.tick.Tick.TheVariants.Silent}
use Rattle.session_audit.proofs.over_recordings.audit_by.Goals as goal

pub list_lines-requires-clause-short : goal.list_lines-requires-clause-short
list_lines-requires-clause-short g c = omega (
  arith,
  c.requires.recordings.device_len,
  c.requires.recordings.link_len,
  c.requires.recordings.received_len,
)

pub judge_lists-requires-clause-taken : goal.judge_lists-requires-clause-taken
judge_lists-requires-clause-taken g c =
    let lists = c.in-Ok-list_lines.ensures in
    let after = rest_behind c.args.session.now.tolerance.spaced in
    let long = length-append c.args.lines.link.now (silent after) in
    let rest = length-replicate after Silent in
    let soon = rest-few c.args.session.now.tolerance.spaced in record {
      device = _;
      link = _;
      received = _;
      taken = record {
        has = lists.has (setups_of c.args.session.now) c.in-Ok.ensures.has;
        able = lists.able;
        few = lists.few;
      };
      short = omega (arith, long, rest, soon, c.requires.recordings.link_len);
    }

pub returns-in-Ok-list_lines : goal.returns-in-Ok-list_lines
returns-in-Ok-list_lines g c =
    let lists = c.in-Ok-list_lines.ensures in
    c.judge_lists.ensures _ _ _ (record {
      has = lists.has (setups_of c.args.session.now) c.in-Ok.ensures.has;
      able = lists.able;
      few = lists.few;
    })
