use Rattle.capture_text.proofs.SeenTexts.{seen_begins}
use Rattle.std.proofs.Common.{[], refl}
use Rattle.capture_text.proofs.reader.TextReaderCaptureReader.start.Goals as goal

pub returns-clause-begins : goal.returns-clause-begins
returns-clause-begins c = seen_begins [] [] [] c.new.ensures.begins refl
