-- The first byte of a burst, forwarded as a run of one tick.
use Rattle.frame_ending.proofs.BurstRuns.{run-tick}
use Rattle.frame_ending.{proofs.Cutting.cut-begin, specs.Cuts.cut_of, specs.SoFar.start_so_far}
use Rattle.frame_ending.specs.{SoFar.quiet_so_far, Stands.CutStandsFor}
use Rattle.frame_ending.specs.declared.{burst_cut.BurstCut.BurstCut, cut.Cut.TheVariants.Start}
use Rattle.link_format.specs.declared.tag.Mac.{Ghosts as Mac}
use Rattle.line_rules.specs.declared.line_rules.LineRules.{Ghosts as LineRules}
use Rattle.link_format.specs.{Profile.profile_of, Setup.Setup, Trailers.bytes_unsent}
use Rattle.link_box.specs.Sealing.{sealer, at_floor}
use Rattle.seal_transmitter.proofs.{Advancing.starts-now, Stepping.begin-late}
use Rattle.seal_transmitter.specs.{Answers.brief_seal_note, Between.SealerIsBetween, Runs.SealerHasTakenRun}
use Rattle.seal_transmitter.specs.{Stands.SealerStandsAt, declared.sealer.Sealer.Sealer}
use Rattle.sequence_journal.specs.declared.numbers.TheConstants.{LIMIT}
use Rattle.std.proofs.Common.{◌≡◌, ℕ, ◌≤◌, List, [], ◌∷◌, ◌++◌, length, take, sym, arith, Some}
use Rattle.std.specs.Prelude.{slice_get}
use Rattle.yasir_ticks.specs.declared.tick.Tick.{Tick, TheVariants.Byte}

-- If the first of some bytes is `b`, the list of their first one is `b`.
pub first-of : (x : List ℕ) (b : ℕ) → Some b ≡ slice_get x 0 → take 1 x ≡ b ∷ []
first-of [] b is = cc
first-of (a ∷ x) b is = cc

pub begun-taken : {R M : Type 0} (proto : LineRules R) (macs : Mac M) {B : ℕ} (old : Sealer R M B)
    (last : ℕ) (setup : Setup) (line : List Tick) → SealerStandsAt proto macs old last setup line
    → (cut : BurstCut R) (mac : M) (b : ℕ) → 4 ≤ quiet_so_far line
    → old.earliest_start ≤ length line → CutStandsFor proto cut (line ++ Byte b ∷ [])
    → ((text : List ℕ) → macs.stands old.mac setup.key text
    → macs.stands mac setup.key (proto.rules.label ∷ setup.direction ∷ b ∷ []))
    → SealerHasTakenRun proto macs (record old { cut = cut; mac = mac }) last setup line
    (Byte b ∷ []) (Byte b ∷ [])
begun-taken proto macs {B} old last setup line stands cut mac b quiet late cuts mac_is =
    let quiet_is = stands.cuts.quiet_is in
    let starts : cut_of proto.rules line (Byte b) ≡ Start b =
    sym (cut-begin proto old.cut line stands.cuts b (omega arith)) in
    let now : start_so_far (line ++ Byte b ∷ []) ≡ length line =
    starts-now proto macs B setup line last old.earliest_start (bytes_unsent old.trailer) old.mac
    stands.walks b starts in
    let between : SealerIsBetween proto macs (record old { cut = cut }) last setup line (Byte b)
    (Start b) = record {
      direction_is = stands.direction_is;
      cuts = cuts;
      is_cut = starts;
      walks = stands.walks;
    } in
    let one = begin-late proto macs (record old { cut = cut }) last setup line mac (Byte b) b
    between (omega arith) (mac_is stands.walks.text stands.walks.mac_is) in
    record {
      stands = one.stands;
      floor = one.floor;
      answers = run-tick (sealer (profile_of proto macs B LIMIT setup) proto.rules) brief_seal_note
          (at_floor setup.floor) line (Byte b) (Byte b) one.answers;
    }
