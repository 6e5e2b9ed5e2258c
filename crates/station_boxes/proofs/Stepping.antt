-- The parts of a step of a transmitter of several stations, over the values that they leave.
use Rattle.frame_ending.specs.declared.box_step.BoxStep.{BoxStep}
use Rattle.frame_ending.{proofs.Running.start-tick, proofs.Running.live-tick, specs.Cuts.cut_of}
use Rattle.frame_ending.specs.{Cuts.IsPassing, SoFar.start_so_far, SoFar.live_bytes_so_far}
use Rattle.frame_ending.specs.{Stands.CutStandsFor, declared.cut.Cut.Cut}
use Rattle.frame_ending.specs.declared.cut.Cut.TheVariants.{Start, Live, Closed}
use Rattle.link_format.specs.{Tag.direction_number, declared.tag.Mac.Ghosts as Mac}
use Rattle.link_format.specs.{Profile.trailer as trailer_of, Trailers.bytes_unsent, Trailers.first_of}
use Rattle.link_format.specs.declared.trailer.Trailer.{Trailer}
use Rattle.line_rules.specs.declared.line_rules.LineRules.{Ghosts as LineRules}
use Rattle.stations.specs.Shared.{SharedState}
use Rattle.stations.specs.Table.{StationEntry}
use Rattle.station_boxes.proofs.Advancing.{WalksOn, advance-passing, advance-early, advance-begin}
use Rattle.station_boxes.proofs.Advancing.{advance-live, advance-unsealed, advance-sealed}
use Rattle.station_boxes.proofs.Advancing.{sealed_state}
use Rattle.station_boxes.specs.Answers.{IsNamed}
use Rattle.station_boxes.specs.Between.{IsBetween, IsLeft, IsSealedNow, noteless}
use Rattle.station_boxes.specs.Names.{name_in}
use Rattle.station_boxes.specs.Stands.{Agrees, StationsHaveTaken}
use Rattle.station_boxes.specs.Walks.{HasHeard, HasText, StationSetup, stations_profile}
use Rattle.{frame_ending.specs.LiveBytes.live_bytes, yasir_ticks.specs.Bursts.Burst}
use Rattle.station_boxes.specs.declared.note.StationNote.{StationNote}
use Rattle.station_boxes.specs.declared.note.StationNote.TheVariants.{Sealed, Unsealed}
use Rattle.station_boxes.specs.declared.note.UnsealedStationWhy.{UnsealedStationWhy}
use Rattle.station_boxes.specs.declared.sealer.StationSealer.{StationSealer}
use Rattle.std.proofs.Common.{◌≡◌, ℕ, ◌+◌, ◌<◌, ◌≤◌, List, [], ◌∷◌, ◌++◌, length, drop, refl}
use Rattle.std.proofs.Common.{sym, subst, Option, Some, None, IfSome}
use Rattle.yasir_ticks.specs.declared.tick.Tick.{Tick, TheVariants.Silent, TheVariants.Byte}

-- Holds if the step has sent the next byte of the trailer, or silence if nothing is left of it, and
-- has changed nothing else.
pub record HasSent {R M : Type 0} {B : ℕ} (old new : StationSealer R M B)
    (step : BoxStep StationNote) : Type 0 where
  pub rest : new ≡ record old { trailer = new.trailer }
  pub unsent : bytes_unsent new.trailer ≡ drop 1 (bytes_unsent old.trailer)
  pub answer : step ≡ noteless (first_of (bytes_unsent old.trailer))

module _ {R M : Type 0} (proto : LineRules R) (macs : Mac M) {B : ℕ} (old : StationSealer R M B)
    (table : List StationEntry) (setup : StationSetup) (s : SharedState) (line : List Tick) where
  abbrev Between : Tick → Cut → Type 0
  Between t cut = IsBetween proto macs old table setup s line t cut

  abbrev TakenTo : StationSealer R M B → List StationEntry → Tick → BoxStep StationNote → Type 0
  TakenTo new now t step = StationsHaveTaken proto macs new now setup line t step

  abbrev Taken : StationSealer R M B → Tick → BoxStep StationNote → Type 0
  Taken new t step = TakenTo new table t step

  abbrev On : SharedState → List ℕ → M → List ℕ → Tick → BoxStep StationNote → Type 0
  On next unsent mac head t step = WalksOn proto macs B setup next unsent mac head line t step

  abbrev Named : Tick → BoxStep StationNote → Type 0
  Named t step = IfSome step.note (IsNamed setup.table
      (name_in setup.naming (live_bytes_so_far proto.rules (line ++ t ∷ []))))

  -- If the walk goes on by the tick, and the value that cuts the line has taken it, then the
  -- transmitter has taken it.
  taken : (new : StationSealer R M B) (now : List StationEntry) (t : Tick)
      (step : BoxStep StationNote) (next : SharedState)
      → new.naming ≡ setup.naming → direction_number new.direction ≡ setup.direction
      → CutStandsFor proto new.cut (line ++ t ∷ []) → next.free_from ≡ new.earliest_start
      → Agrees now setup.table next
      → On next (bytes_unsent new.trailer) new.mac new.head.items t step → Named t step
      → TakenTo new now t step
  taken new now t step next naming_is direction_is cuts free_is agrees on named = record {
    stands = record {
      naming_is = naming_is;
      direction_is = direction_is;
      cuts = cuts;
      state = next;
      free_is = free_is;
      agrees = agrees;
      walks = on.walks;
    };
    answers = on.answers;
    named = named;
  }

  sent : (new : StationSealer R M B) (step : BoxStep StationNote) (t : Tick) (cut : Cut)
      → HasSent old new step → Between t cut
      → On s (drop 1 (bytes_unsent old.trailer)) old.mac old.head.items t
      (noteless (first_of (bytes_unsent old.trailer)))
      → Taken new t step
  sent new step t cut has between on =
      let P : StationSealer R M B → Type 0 = λ v. Taken v t step in
      let S : BoxStep StationNote → Type 0 = λ x. Taken (record old { trailer = new.trailer }) t x in
      let L : List ℕ → Type 0 = λ l. On s l old.mac old.head.items t
      (noteless (first_of (bytes_unsent old.trailer))) in
      subst P (sym has.rest) (subst S (sym has.answer)
      (taken (record old { trailer = new.trailer }) table t
      (noteless (first_of (bytes_unsent old.trailer))) s between.naming_is
      between.direction_is between.cuts between.free_is between.agrees
      (subst L (sym has.unsent) on) tt))

  pub pass-taken : (new : StationSealer R M B) (step : BoxStep StationNote) → HasSent old new step
      → (t : Tick) (cut : Cut) → IsPassing cut → Between t cut → Taken new t step
  pass-taken new step has t cut passing between =
      sent new step t cut has between
      (advance-passing proto macs B setup line s (bytes_unsent old.trailer) old.mac
      old.head.items between.walks t cut between.is_cut passing)

  -- a byte of an early burst
  pub early-taken : (new : StationSealer R M B) (step : BoxStep StationNote)
      → HasSent old new step → (t : Tick) (b : ℕ) (cut : Cut) → t ≡ Byte b → Between t cut
      → start_so_far (line ++ t ∷ []) < old.earliest_start → Taken new t step
  early-taken new step has t b cut is between early =
      let P : Tick → Type 0 = λ u. start_so_far (line ++ u ∷ []) < s.free_from
      → On s (drop 1 (bytes_unsent old.trailer)) old.mac old.head.items u
      (noteless (first_of (bytes_unsent old.trailer))) in
      let F : ℕ → Type 0 = λ f. start_so_far (line ++ t ∷ []) < f in
      sent new step t cut has between
      (subst P (sym is)
      (λ soon. advance-early proto macs B setup line s (bytes_unsent old.trailer)
      old.mac old.head.items between.walks b soon)
      (subst F (sym between.free_is) early))

  -- ---- a byte that starts a burst, and another live byte

  pub begin-early : (new : StationSealer R M B) (step : BoxStep StationNote)
      → HasSent old new step → (t : Tick) (b : ℕ) → Between t (Start b)
      → start_so_far (line ++ t ∷ []) < old.earliest_start → Taken new t step
  begin-early new step has t b between early =
      early-taken new step has t b (Start b) (start-tick proto.rules line t b between.is_cut)
      between early

  pub go_on-early : (new : StationSealer R M B) (step : BoxStep StationNote)
      → HasSent old new step → (t : Tick) (b : ℕ) → Between t (Live b)
      → start_so_far (line ++ t ∷ []) < old.earliest_start → Taken new t step
  go_on-early new step has t b between early =
      early-taken new step has t b (Live b) (live-tick proto.rules line t b between.is_cut) between
      early

  -- the transmitter once it has heard a byte
  module _ (new : StationSealer R M B)
      (rest : new ≡ record old { mac = new.mac; head = new.head }) (t : Tick) (b : ℕ) where
    heard : (cut : Cut) → (between : Between t cut)
        → On s (bytes_unsent old.trailer) new.mac new.head.items t (noteless (Byte b))
        → Taken new t (noteless (Byte b))
    heard cut between on =
        let P : StationSealer R M B → Type 0 = λ v. Taken v t (noteless (Byte b)) in
        subst P (sym rest)
        (taken (record old { mac = new.mac; head = new.head }) table t (noteless (Byte b))
        s between.naming_is between.direction_is between.cuts between.free_is
        between.agrees on tt)

    pub begin-late : Between t (Start b) → old.earliest_start ≤ start_so_far (line ++ t ∷ [])
        → HasHeard proto macs new.mac new.head.items setup (b ∷ [])
        → Taken new t (noteless (Byte b))
    begin-late between late hears =
        let P : Tick → Type 0 = λ u. cut_of proto.rules line u ≡ Start b
        → s.free_from ≤ start_so_far (line ++ u ∷ [])
        → On s (bytes_unsent old.trailer) new.mac new.head.items u
        (noteless (Byte b)) in
        let F : ℕ → Type 0 = λ f. f ≤ start_so_far (line ++ t ∷ []) in
        heard (Start b) between
        (subst P (sym (start-tick proto.rules line t b between.is_cut))
        (λ starts from. advance-begin proto macs B setup line s
        (bytes_unsent old.trailer) old.mac old.head.items between.walks b new.mac new.head.items
        starts from hears)
        between.is_cut (subst F (sym between.free_is) late))

    pub go_on-late : Between t (Live b) → old.earliest_start ≤ start_so_far (line ++ t ∷ [])
        → ((live : List ℕ) → HasHeard proto macs old.mac old.head.items setup live
        → HasHeard proto macs new.mac new.head.items setup (live ++ b ∷ []))
        → Taken new t (noteless (Byte b))
    go_on-late between late hears =
        let P : Tick → Type 0 = λ u. cut_of proto.rules line u ≡ Live b
        → s.free_from ≤ start_so_far (line ++ u ∷ [])
        → On s (bytes_unsent old.trailer) new.mac new.head.items u
        (noteless (Byte b)) in
        let F : ℕ → Type 0 = λ f. f ≤ start_so_far (line ++ t ∷ []) in
        heard (Live b) between
        (subst P (sym (live-tick proto.rules line t b between.is_cut))
        (λ lives from. advance-live proto macs B setup line s
        (bytes_unsent old.trailer) old.mac old.head.items between.walks b new.mac new.head.items
        lives from hears)
        between.is_cut (subst F (sym between.free_is) late))

  -- ---- the tick that closes a burst

  pub leave-taken : (trailer : Trailer B) (tick : Tick) (start : ℕ) (why : UnsealedStationWhy)
      → bytes_unsent trailer ≡ drop 1 (bytes_unsent old.trailer)
      → tick ≡ first_of (bytes_unsent old.trailer)
      → (between : Between Silent Closed) → start ≡ start_so_far (line ++ Silent ∷ [])
      → IsLeft proto macs B setup s (line ++ Silent ∷ []) why
      → Taken (record old { trailer = trailer }) Silent
      (record { tick = tick; note = Some (Unsealed start why) })
  leave-taken trailer tick start why unsent answer between start_is left =
      let L : List ℕ → Type 0 = λ l. On s l old.mac old.head.items Silent
      (record { tick = tick; note = Some (Unsealed start why) }) in
      let T : Tick → Type 0 = λ u. On s (drop 1 (bytes_unsent old.trailer)) old.mac
      old.head.items Silent
      (record { tick = u; note = Some (Unsealed start why) }) in
      let N : ℕ → Type 0 = λ n. On s (drop 1 (bytes_unsent old.trailer)) old.mac
      old.head.items Silent
      (record { tick = first_of (bytes_unsent old.trailer); note = Some (Unsealed n why) }) in
      taken (record old { trailer = trailer }) table Silent
      (record { tick = tick; note = Some (Unsealed start why) }) s between.naming_is
      between.direction_is between.cuts between.free_is between.agrees
      (subst L (sym unsent) (subst T (sym answer) (subst N (sym start_is)
      (advance-unsealed proto macs B setup line s (bytes_unsent old.trailer) old.mac
      old.head.items between.walks why between.is_cut left.judged))))
      left.named

  pub seal-taken : (now : List StationEntry) (mac : M) (trailer : Trailer B) (tick : Tick)
      (earliest station number start len : ℕ) (bytes : List ℕ)
      → bytes_unsent trailer ≡ drop 1 bytes → tick ≡ first_of bytes
      → (between : Between Silent Closed) → start ≡ start_so_far (line ++ Silent ∷ [])
      → len ≡ length (live_bytes_so_far proto.rules (line ++ Silent ∷ []))
      → IsSealedNow proto macs B old.mac now setup s (line ++ Silent ∷ []) station
      number
      → earliest ≡ length line + 1 + (B + macs.TAG) + 3
      → bytes ≡ trailer_of (stations_profile proto macs B setup) number
      (live_bytes_so_far proto.rules (line ++ Silent ∷ []))
      → TakenTo (record old { mac = mac; earliest_start = earliest; trailer = trailer }) now Silent
      (record { tick = tick; note = Some (Sealed station number start len) })
  seal-taken now mac trailer tick earliest station number start len bytes unsent answer between
      start_is len_is is earliest_is bytes_are =
      let line' : List Tick = line ++ Silent ∷ [] in
      let next : SharedState = sealed_state proto macs B setup line s
      (bytes_unsent old.trailer) old.mac old.head.items between.walks number earliest in
      let L : List ℕ → Type 0 = λ l. On next l mac old.head.items Silent
      (record { tick = tick; note = Some (Sealed station number start len) }) in
      let T : Tick → Type 0 = λ u. On next (drop 1 bytes) mac old.head.items Silent
      (record { tick = u; note = Some (Sealed station number start len) }) in
      let N : ℕ → Type 0 = λ n. On next (drop 1 bytes) mac old.head.items Silent
      (record { tick = first_of bytes; note = Some (Sealed station number n len) }) in
      let K : ℕ → Type 0 = λ n. On next (drop 1 bytes) mac old.head.items Silent
      (record {
        tick = first_of bytes;
        note = Some (Sealed station number (start_so_far line') n);
      }) in
      taken (record old { mac = mac; earliest_start = earliest; trailer = trailer }) now Silent
      (record { tick = tick; note = Some (Sealed station number start len) }) next
      between.naming_is between.direction_is between.cuts refl (is.agrees earliest)
      (subst L (sym unsent) (subst T (sym answer) (subst N (sym start_is) (subst K (sym len_is)
      (advance-sealed proto macs B setup line s (bytes_unsent old.trailer) old.mac
      old.head.items between.walks station number earliest bytes mac old.head.items
      between.is_cut is.judged earliest_is bytes_are)))))
      is.named

  -- ---- the text of the tag is complete

  -- The transmitter once its MAC has the text of the frame's tag.
  pub completed : (mac : M) (t : Tick) (cut : Cut)
      → ((live : List ℕ) → HasHeard proto macs old.mac old.head.items setup live
      → HasText proto macs mac setup live)
      → Between t cut → IsBetween proto macs (record old { mac = mac }) table setup s line t cut
  completed mac t cut text between = record {
    naming_is = between.naming_is;
    direction_is = between.direction_is;
    cuts = between.cuts;
    is_cut = between.is_cut;
    free_is = between.free_is;
    agrees = between.agrees;
    walks = record {
      running = between.walks.running;
      walked = between.walks.walked;
      heard = heard-then between.walks.running between.walks.heard;
    };
  } where
    heard-then : (running : Option Burst)
        → IfSome running (λ d. s.free_from ≤ d.start
        → HasHeard proto macs old.mac old.head.items setup (live_bytes proto.rules d))
        → IfSome running (λ d. s.free_from ≤ d.start
        → HasHeard proto macs mac old.head.items setup (live_bytes proto.rules d))
    heard-then None heard = tt
    heard-then (Some d) heard = λ late. let was = heard late in record {
      head_is = was.head_is;
      text_is = λ whole. text (live_bytes proto.rules d) was;
    }
