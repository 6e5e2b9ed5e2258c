use Rattle.line_stamps.specs.Walks.{walk}
use Rattle.capture_text.{proofs.Reading.text_begins, specs.declared.place.Place.TheVariants.Start}
use Rattle.std.proofs.Common.{refl, []}
use Rattle.capture_text.proofs.reader.TextReader.new.Goals as goal

pub returns-clause-stands : goal.returns-clause-stands
unfolding walk
returns-clause-stands c = record { walks = refl; open_yet = refl; counted = refl; lines = refl }

pub returns-clause-begins : goal.returns-clause-begins
unfolding walk
returns-clause-begins c = text_begins Start [] [] refl
