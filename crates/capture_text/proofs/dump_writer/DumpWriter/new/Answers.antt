use Rattle.capture_text.proofs.ChangeLaws.{changes_none}
use Rattle.capture_text.specs.{Changes.quiet_rows, Dump.dump_front, Dump.change_text}
use Rattle.std.proofs.Common.{◌∙◌, [], ◌++◌, refl, sym, ap}
use Rattle.std.{proofs.lemmas.List.append-nil, specs.List.flat_map}
use Rattle.capture_text.proofs.dump_writer.DumpWriter.new.Goals as goal

pub returns-clause-begins : goal.returns-clause-begins
returns-clause-begins c = record {
  count_a = refl;
  count_b = refl;
  text_is = sym (append-nil (dump_front c.args.wires))
      ∙ ap (λ x. dump_front c.args.wires ++ flat_map change_text x)
      (sym (changes_none c.args.rate c.args.rate.bits quiet_rows []));
}
