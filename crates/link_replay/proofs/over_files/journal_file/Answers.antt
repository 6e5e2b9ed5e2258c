use Rattle.link_replay.{proofs.Paths.word_in-path, specs.Words.journal_place}
use Rattle.std.proofs.Common.{◌∙◌, ap, option_map}
use Rattle.{std.specs.String.string_bytes, yasir_io.specs.SlotFiles.for_slots}
use Rattle.link_replay.proofs.over_files.journal_file.Goals as goal

pub returns : goal.returns
returns g c = λ asked asks.
    let kind = c.kind_of.ensures asked asks in record {
      path = ap (option_map string_bytes) c.new.ensures.path ∙ c.in_ok-path.ensures
          ∙ word_in-path journal_place _ asked _ c.journal_word.ensures.place
          c.journal_word.ensures.none asks;
      closed = c.new.ensures.closed;
      options = c.new.ensures.options ∙ ap for_slots kind;
      kind = c.new.ensures.kind ∙ kind;
      faults = c.new.ensures.faults;
    }
