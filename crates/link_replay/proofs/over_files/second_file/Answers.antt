use Rattle.link_replay.{proofs.Paths.word_in-path, specs.Words.second_place}
use Rattle.std.proofs.Common.{◌∙◌, ap, option_map}
use Rattle.{std.specs.String.string_bytes}
use Rattle.link_replay.proofs.over_files.second_file.Goals as goal

pub returns : goal.returns
returns g c = λ asked asks. record {
  path = ap (option_map string_bytes) c.new.ensures.path ∙ c.in_ok-path.ensures
      ∙ word_in-path second_place _ asked _ c.second_word.ensures.place c.second_word.ensures.none
      asks;
  closed = c.new.ensures.closed;
  options = c.new.ensures.options;
  kind = c.new.ensures.kind;
  faults = c.new.ensures.faults;
}
