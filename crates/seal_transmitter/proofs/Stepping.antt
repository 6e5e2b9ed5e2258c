-- The parts of a step of a transmitter, over the values that they leave.
use Rattle.frame_ending.specs.declared.box_step.BoxStep.{BoxStep}
use Rattle.frame_ending.{proofs.Running.start-tick, proofs.Running.live-tick, specs.Cuts.cut_of}
use Rattle.frame_ending.specs.{Cuts.IsPassing, SoFar.start_so_far, SoFar.live_bytes_so_far}
use Rattle.frame_ending.specs.{Stands.CutStandsFor, declared.cut.Cut.Cut}
use Rattle.frame_ending.specs.declared.cut.Cut.TheVariants.{Start, Live, Closed}
use Rattle.link_format.specs.{Tag.direction_number, declared.tag.Mac.Ghosts as Mac}
use Rattle.line_rules.specs.declared.line_rules.LineRules.{Ghosts as LineRules}
use Rattle.link_format.specs.{Setup.Setup, Trailers.bytes_unsent, Trailers.first_of}
use Rattle.link_format.specs.declared.trailer.Trailer.{Trailer}
use Rattle.link_box.specs.Sealing.Judgement.{sealed_with, unsealed}
use Rattle.link_box.specs.declared.seal_note.SealNote.{SealNote}
use Rattle.link_box.specs.declared.seal_note.SealNote.TheVariants.{Sealed, Unsealed}
use Rattle.link_box.specs.declared.seal_note.UnsealedWhy.{UnsealedWhy}
use Rattle.seal_transmitter.proofs.Advancing.{WalksOn, number-is, advance-passing, advance-early}
use Rattle.seal_transmitter.proofs.Advancing.{advance-begin, advance-live, advance-unsealed}
use Rattle.seal_transmitter.{proofs.Advancing.advance-sealed, specs.Between.SealerIsBetween}
use Rattle.seal_transmitter.specs.{Between.Judges, Between.noteless, Stands.SealerHasTaken}
use Rattle.{seal_transmitter.specs.declared.sealer.Sealer.Sealer, std.proofs.Common.◌≡◌}
use Rattle.std.proofs.Common.{ℕ, ◌+◌, ◌<◌, ◌≤◌, List, [], ◌∷◌, ◌++◌, length, drop, sym, subst, Some}
use Rattle.std.specs.Int.{w64, to_be_bytes, bytes_high_first}
use Rattle.yasir_ticks.specs.declared.tick.Tick.{Tick, TheVariants.Silent, TheVariants.Byte}

-- Holds if the step has sent the next byte of the trailer, or silence if nothing is left of it, and
-- has changed nothing else.
pub record HasSent {R M : Type 0} {B : ℕ} (old new : Sealer R M B) (step : BoxStep SealNote) :
    Type 0 where
  pub rest : new ≡ record old { trailer = new.trailer }
  pub unsent : bytes_unsent new.trailer ≡ drop 1 (bytes_unsent old.trailer)
  pub answer : step ≡ noteless (first_of (bytes_unsent old.trailer))

module _ {R M : Type 0} (proto : LineRules R) (macs : Mac M) {B : ℕ} (old : Sealer R M B) (last : ℕ)
    (setup : Setup)
    (line : List Tick) where
  abbrev Between : Tick → Cut → Type 0
  Between t cut = SealerIsBetween proto macs old last setup line t cut

  abbrev Taken : Sealer R M B → ℕ → Tick → BoxStep SealNote → Type 0
  Taken new number t step = SealerHasTaken proto macs new number setup line t step

  abbrev On : ℕ → ℕ → List ℕ → M → Tick → BoxStep SealNote → Type 0
  On number earliest unsent mac t step = WalksOn proto macs B setup number earliest unsent mac line t
      step

  -- If the walk goes on by the tick, and the value that cuts the line has taken it, then the
  -- transmitter has taken it.
  taken : (new : Sealer R M B) (number : ℕ) (t : Tick) (step : BoxStep SealNote)
      → direction_number new.direction ≡ setup.direction
      → CutStandsFor proto new.cut (line ++ t ∷ [])
      → On number new.earliest_start (bytes_unsent new.trailer) new.mac t step
      → Taken new number t step
  taken new number t step direction_is cuts on = record {
    stands = record { direction_is = direction_is; cuts = cuts; walks = on.walks };
    floor = number-is proto macs B setup (line ++ t ∷ []) number new.earliest_start
        (bytes_unsent new.trailer) new.mac on.walks;
    answers = on.answers;
  }

  sent : (new : Sealer R M B) (step : BoxStep SealNote) (t : Tick) (cut : Cut)
      → HasSent old new step
      → Between t cut
      → On last old.earliest_start (drop 1 (bytes_unsent old.trailer)) old.mac t
      (noteless (first_of (bytes_unsent old.trailer)))
      → Taken new last t step
  sent new step t cut has between on =
      let P : Sealer R M B → Type 0 = λ v. Taken v last t step in
      let Q : BoxStep SealNote → Type 0 = λ s. On last old.earliest_start
      (drop 1 (bytes_unsent old.trailer)) old.mac t s in
      let L : List ℕ → Type 0 = λ l. On last old.earliest_start l old.mac t step in
      subst P (sym has.rest)
      (taken (record old { trailer = new.trailer }) last t step between.direction_is between.cuts
      (subst L (sym has.unsent) (subst Q (sym has.answer) on)))

  pub pass-taken : (new : Sealer R M B) (step : BoxStep SealNote) → HasSent old new step
      → (t : Tick) (cut : Cut) → IsPassing cut → Between t cut → Taken new last t step
  pass-taken new step has t cut passing between =
      sent new step t cut has between
      (advance-passing proto macs B setup line last old.earliest_start (bytes_unsent old.trailer)
      old.mac between.walks
      t cut between.is_cut passing)

  early-taken : (new : Sealer R M B) (step : BoxStep SealNote) → HasSent old new step
      → (t : Tick) (b : ℕ) (cut : Cut) → t ≡ Byte b → Between t cut
      → start_so_far (line ++ t ∷ []) < old.earliest_start → Taken new last t step
  early-taken new step has t b cut is between early =
      let P : Tick → Type 0 = λ u. start_so_far (line ++ u ∷ []) < old.earliest_start
      → On last old.earliest_start (drop 1 (bytes_unsent old.trailer)) old.mac u
      (noteless (first_of (bytes_unsent old.trailer))) in
      sent new step t cut has between
      (subst P (sym is)
      (λ soon. advance-early proto macs B setup line last old.earliest_start
      (bytes_unsent old.trailer) old.mac between.walks b soon)
      early)

  -- ---- a byte that starts a burst, and another live byte

  pub begin-early : (new : Sealer R M B) (step : BoxStep SealNote) → HasSent old new step
      → (t : Tick) (b : ℕ) → Between t (Start b)
      → start_so_far (line ++ t ∷ []) < old.earliest_start → Taken new last t step
  begin-early new step has t b between early =
      early-taken new step has t b (Start b) (start-tick proto.rules line t b between.is_cut)
      between early

  pub go_on-early : (new : Sealer R M B) (step : BoxStep SealNote) → HasSent old new step
      → (t : Tick) (b : ℕ) → Between t (Live b) → start_so_far (line ++ t ∷ []) < old.earliest_start
      → Taken new last t step
  go_on-early new step has t b between early =
      early-taken new step has t b (Live b) (live-tick proto.rules line t b between.is_cut) between
      early

  pub begin-late : (mac : M) (t : Tick) (b : ℕ) → Between t (Start b)
      → old.earliest_start ≤ start_so_far (line ++ t ∷ [])
      → macs.stands mac setup.key (proto.rules.label ∷ setup.direction ∷ b ∷ [])
      → Taken (record old { mac = mac }) last t (noteless (Byte b))
  begin-late mac t b between late mac_is =
      let P : Tick → Type 0 = λ u. cut_of proto.rules line u ≡ Start b
      → old.earliest_start ≤ start_so_far (line ++ u ∷ [])
      → On last old.earliest_start (bytes_unsent old.trailer) mac u (noteless (Byte b)) in
      taken (record old { mac = mac }) last t (noteless (Byte b)) between.direction_is between.cuts
      (subst P (sym (start-tick proto.rules line t b between.is_cut))
      (λ starts from. advance-begin proto macs B setup line last old.earliest_start
      (bytes_unsent old.trailer) old.mac
      between.walks b mac starts from mac_is)
      between.is_cut late)

  pub go_on-late : (mac : M) (t : Tick) (b : ℕ) → Between t (Live b)
      → old.earliest_start ≤ start_so_far (line ++ t ∷ [])
      → ((text : List ℕ) → macs.stands old.mac setup.key text
      → macs.stands mac setup.key (text ++ b ∷ []))
      → Taken (record old { mac = mac }) last t (noteless (Byte b))
  go_on-late mac t b between late more =
      let P : Tick → Type 0 = λ u. cut_of proto.rules line u ≡ Live b
      → old.earliest_start ≤ start_so_far (line ++ u ∷ [])
      → On last old.earliest_start (bytes_unsent old.trailer) mac u (noteless (Byte b)) in
      taken (record old { mac = mac }) last t (noteless (Byte b)) between.direction_is between.cuts
      (subst P (sym (live-tick proto.rules line t b between.is_cut))
      (λ lives from. advance-live proto macs B setup line last old.earliest_start
      (bytes_unsent old.trailer) old.mac
      between.walks b mac lives from more)
      between.is_cut late)

  -- ---- the tick that closes a burst

  pub leave-taken : (trailer : Trailer B) (tick : Tick) (start : ℕ) (why : UnsealedWhy)
      → bytes_unsent trailer ≡ drop 1 (bytes_unsent old.trailer)
      → tick ≡ first_of (bytes_unsent old.trailer)
      → Between Silent Closed → start ≡ start_so_far (line ++ Silent ∷ [])
      → Judges proto macs old last setup (line ++ Silent ∷ []) (unsealed why)
      → Taken (record old { trailer = trailer }) last Silent
      (record { tick = tick; note = Some (Unsealed start why) })
  leave-taken trailer tick start why unsent answer between start_is judge =
      let earliest : ℕ = old.earliest_start in
      let L : List ℕ → Type 0 = λ l. On last earliest l old.mac Silent
      (record { tick = tick; note = Some (Unsealed start why) }) in
      let T : Tick → Type 0 = λ u. On last earliest (drop 1 (bytes_unsent old.trailer)) old.mac Silent
      (record { tick = u; note = Some (Unsealed start why) }) in
      let N : ℕ → Type 0 = λ n. On last earliest (drop 1 (bytes_unsent old.trailer)) old.mac Silent
      (record { tick = first_of (bytes_unsent old.trailer); note = Some (Unsealed n why) }) in
      taken (record old { trailer = trailer }) last Silent
      (record { tick = tick; note = Some (Unsealed start why) })
      between.direction_is between.cuts
      (subst L (sym unsent) (subst T (sym answer) (subst N (sym start_is)
      (advance-unsealed proto macs B setup line last earliest (bytes_unsent old.trailer) old.mac
      between.walks
      why between.is_cut judge))))

  pub seal-taken : (mac : M) (trailer : Trailer B) (tick : Tick) (earliest number start len : ℕ)
      (bytes : List ℕ)
      → bytes_unsent trailer ≡ drop 1 bytes → tick ≡ first_of bytes
      → Between Silent Closed → start ≡ start_so_far (line ++ Silent ∷ [])
      → len ≡ length (live_bytes_so_far proto.rules (line ++ Silent ∷ []))
      → Judges proto macs old last setup (line ++ Silent ∷ []) (sealed_with number)
      → earliest ≡ length line + 1 + (B + macs.TAG) + 3
      → ((text : List ℕ) → macs.stands old.mac setup.key text
      → bytes ≡ bytes_high_first B number ++ macs.tag_of setup.key (text ++ to_be_bytes w64 number))
      → ((text : List ℕ) → macs.stands old.mac setup.key text → macs.stands mac setup.key [])
      → Taken (record old { mac = mac; earliest_start = earliest; trailer = trailer }) number Silent
      (record { tick = tick; note = Some (Sealed number start len) })
  seal-taken mac trailer tick earliest number start len bytes unsent answer between start_is len_is
      judge earliest_is tagged begun =
      let line' : List Tick = line ++ Silent ∷ [] in
      let L : List ℕ → Type 0 = λ l. On number earliest l mac Silent
      (record { tick = tick; note = Some (Sealed number start len) }) in
      let T : Tick → Type 0 = λ u. On number earliest (drop 1 bytes) mac Silent
      (record { tick = u; note = Some (Sealed number start len) }) in
      let N : ℕ → Type 0 = λ n. On number earliest (drop 1 bytes) mac Silent
      (record { tick = first_of bytes; note = Some (Sealed number n len) }) in
      let K : ℕ → Type 0 = λ n. On number earliest (drop 1 bytes) mac Silent
      (record { tick = first_of bytes; note = Some (Sealed number (start_so_far line') n) }) in
      taken (record old { mac = mac; earliest_start = earliest; trailer = trailer }) number Silent
      (record { tick = tick; note = Some (Sealed number start len) }) between.direction_is
      between.cuts
      (subst L (sym unsent) (subst T (sym answer) (subst N (sym start_is) (subst K (sym len_is)
      (advance-sealed proto macs B setup line last old.earliest_start (bytes_unsent old.trailer)
      old.mac between.walks
      number earliest bytes mac between.is_cut judge earliest_is tagged begun)))))
