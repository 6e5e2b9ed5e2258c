-- The words of the program's commands.
use Rattle.std.specs.Prelude.{◌≡◌, ◌⊎◌, ℕ, List, [], ◌∷◌, codes}
use Rattle.line_stamps.specs.RateWords.{rate_word}
use Rattle.line_stamps.specs.declared.timing.Spacing.{Spacing}
use Rattle.line_stamps.specs.declared.timing.Spacing.TheVariants.{ByTime, ByRecord}
use Rattle.line_capture.specs.declared.words.Command.{Command}
use Rattle.line_capture.specs.declared.words.Command.TheVariants.{Take, Give, Help, Version}
use Rattle.line_capture.specs.declared.words.GiveForm.{GiveForm}
use Rattle.line_capture.specs.declared.words.GiveForm.TheVariants as give_forms
use Rattle.line_capture.specs.declared.words.TakeForm.{TakeForm}
use Rattle.line_capture.specs.declared.words.TakeForm.TheVariants as take_forms
use Rattle.line_capture.specs.declared.words.Ways.{Ways}
use Rattle.line_capture.specs.declared.words.Ways.TheVariants.{A, B, Both}

-- the words that name a form to take, a form to give, and the ways that are taken
abbrev pub take_form_word : TakeForm → List ℕ
take_form_word take_forms.Pcap = codes "pcap"
take_form_word take_forms.Text = codes "text"
take_form_word take_forms.Logic2 = codes "logic2"
take_form_word take_forms.Sigrok = codes "sigrok"

abbrev pub give_form_word : GiveForm → List ℕ
give_form_word give_forms.Pcap = codes "pcap"
give_form_word give_forms.Text = codes "text"
give_form_word give_forms.Vcd = codes "vcd"

abbrev pub ways_word : Ways → List ℕ
ways_word A = codes "a"
ways_word B = codes "b"
ways_word Both = codes "both"

-- what comes after the word for the ways: one word if each record is taken for a frame
abbrev pub spacing_words : Spacing → List (List ℕ)
spacing_words ByTime = []
spacing_words ByRecord = codes "frames" ∷ []

-- Holds if these words ask for the command.
abbrev pub IsCaptureCommand : List (List ℕ) → Command → Type 0
IsCaptureCommand words (Take form rate ways spacing) = words ≡ codes "take" ∷ take_form_word form
    ∷ rate_word rate ∷ ways_word ways ∷ spacing_words spacing
IsCaptureCommand words (Give form rate) =
    words ≡ codes "give" ∷ give_form_word form ∷ rate_word rate ∷ []
IsCaptureCommand words Help = (words ≡ codes "help" ∷ []) ⊎ (words ≡ codes "--help" ∷ [])
    ⊎ (words ≡ codes "-h" ∷ [])
IsCaptureCommand words Version = (words ≡ codes "version" ∷ []) ⊎ (words ≡ codes "--version" ∷ [])
