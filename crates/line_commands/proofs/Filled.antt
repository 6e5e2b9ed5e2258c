-- Two recordings that are filled_recording to the same length, and the texts that are made of them.
use Rattle.line_commands.specs.{KeptBox.TimedBox, KeptBox.AreTextsOf, Recording.steps_of}
use Rattle.line_commands.specs.Recording.{filled_recording, BothTexts, both_texts, both_lines, HoldsTexts}
use Rattle.line_commands.specs.{Recording.PrintsBoth, TimedLines.lines_before, TimedLines.AreInOrder}
use Rattle.line_commands.specs.declared.{kept_box.KeptTexts.KeptTexts, recording.Recorded.Recorded}
use Rattle.session_lists.specs.FrameList.{KeptFrames, Holds}
use Rattle.command_ends.specs.declared.status.Status.{Status}
use Rattle.command_ends.specs.declared.status.Status.TheVariants.{Done, WriteFault}
use Rattle.std.proofs.Common.{◌≡◌, ◌∙◌, ◌⊎◌, inl, inr, ℕ, ◌-◌, ◌≤◌, List, [], ◌++◌}
use Rattle.std.proofs.Common.{length, Option, ap, sym, subst, arith, length-append}
use Rattle.std.proofs.{Common.append_assoc, Common.append-nil, lemmas.List.length-replicate}
use Rattle.{std.specs.Io.KnownBytes.append_known}
use Rattle.yasir_io.{proofs.OutputLemmas.append_known-twice, specs.Output.GotPrefix}
use Rattle.yasir_ticks.specs.{CanonicalText.canonical_text, Ticks.silent}
use Rattle.yasir_ticks.specs.declared.tick.Tick.{Tick, TheVariants.Silent}

-- A line that is filled_recording to a length has this length.
pub length-filled : (steps : ℕ) (line : List Tick) → length line ≤ steps
    → length (filled_recording steps line) ≡ steps
length-filled steps line within =
    omega (
      arith,
      length-append line (silent (steps - length line)),
      length-replicate (steps - length line) Silent,
      within,
    )

-- A line with as many silent ticks as it lacks, by the count of its ticks, is filled_recording.
pub filled-by : (ticks left steps : ℕ) (line : List Tick) → ticks ≡ length line
    → left ≡ steps - ticks → line ++ silent left ≡ filled_recording steps line
filled-by ticks left steps line counted is =
    ap (λ n. line ++ silent n) (is ∙ ap (λ n. steps - n) counted)

module _ (sent got : TimedBox) (device link : List Tick) (steps : ℕ)
    (is : steps ≡ steps_of device link) where
  device-within : length device ≤ steps
  device-within = omega (arith, is)

  link-within : length link ≤ steps
  link-within = omega (arith, is)

  pub holds-both : (a b : KeptTexts) (recorded : Recorded)
      → AreTextsOf sent (filled_recording steps device) a → AreTextsOf got (filled_recording steps link) b
      → recorded.link ≡ a.text → recorded.device ≡ b.text
      → ((x y : List (KeptFrames ℕ)) → Holds a.notes x → Holds b.notes y → (n : ℕ)
      → AreInOrder 0 n x → AreInOrder 0 n y → recorded.notes.items ≡ lines_before n x y)
      → HoldsTexts recorded (both_texts sent got device link)
  holds-both a b recorded first second link_is device_is merged =
      let P : ℕ → Type 0 = λ n. recorded.notes.items ≡ lines_before n
      (sent.note_lines (filled_recording n device)) (got.note_lines (filled_recording n link)) in
      let first_order : AreInOrder 0 steps (sent.note_lines (filled_recording steps device)) =
      subst (λ n. AreInOrder 0 n (sent.note_lines (filled_recording steps device)))
      (length-filled steps device device-within) first.in_order in
      let second_order : AreInOrder 0 steps (got.note_lines (filled_recording steps link)) =
      subst (λ n. AreInOrder 0 n (got.note_lines (filled_recording steps link)))
      (length-filled steps link link-within) second.in_order in
      record {
        link = ap (λ v. v.items) link_is ∙ (first.text_is
            ∙ ap (λ n. canonical_text (sent.other_line (filled_recording n device))) is);
        device = ap (λ v. v.items) device_is ∙ (second.text_is
            ∙ ap (λ n. canonical_text (got.other_line (filled_recording n link))) is);
        notes = subst P is (merged (sent.note_lines (filled_recording steps device))
            (got.note_lines (filled_recording steps link)) first.notes second.notes steps first_order
            second_order);
      }

-- ---- fronts of a text

pub then-front : (a b c : Option (List ℕ)) (x y : List ℕ) → b ≡ append_known a x
    → GotPrefix b c y → GotPrefix a c (x ++ y)
then-front a b c x y first got = record {
  front = x ++ got.front;
  rest = got.rest;
  got = got.got ∙ (ap (λ k. append_known k got.front) first ∙ append_known-twice a x got.front);
  all = ap (λ l. x ++ l) got.all ∙ sym (append_assoc x got.front got.rest);
}

pub all-front : (a b : Option (List ℕ)) (x : List ℕ) → b ≡ append_known a x → GotPrefix a b x
all-front a b x got = record { front = x; rest = []; got = got; all = sym (append-nil x) }

-- ---- both texts were written

pub prints-all : (texts : BothTexts) (out0 out1 log0 log1 : Option (List ℕ)) (status : Status)
    → (status ≡ Done) ⊎ (status ≡ WriteFault) → out1 ≡ append_known out0 (both_lines texts)
    → log1 ≡ append_known log0 texts.notes → PrintsBoth texts out0 out1 log0 log1 status
prints-all texts out0 out1 log0 log1 status (inl done) out log =
    subst (PrintsBoth texts out0 out1 log0 log1) (sym done) (record { out = out; log = log })
prints-all texts out0 out1 log0 log1 status (inr fault) out log =
    subst (PrintsBoth texts out0 out1 log0 log1) (sym fault) (record {
      out = all-front out0 out1 (both_lines texts) out;
      log = all-front log0 log1 texts.notes log;
      notes_first = inr log;
    })
