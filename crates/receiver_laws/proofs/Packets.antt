-- A whole packet that is on a link is among the frames that pass.
use Rattle.frame_ending.proofs.Spread.{EndBy, bursts-end}
use Rattle.frame_ending.proofs.Walks.{walked-append, before-early}
use Rattle.frame_ending.specs.Walk.{Walker, Noted, noted, walked, state_after, notes_before}
use Rattle.frame_ending.specs.LiveBytes.{live_bytes, live_end}
use Rattle.line_rules.specs.{Rules.Rules, RulesLaws.IsFramed}
use Rattle.link_format.{proofs.Profiles.length-trailer, specs.NumberedFrame.NumberedFrame}
use Rattle.link_format.specs.Profile.{Profile, HasTags, pause_len, trailer_len, trailer}
use Rattle.link_box.proofs.{Packets.packet-passes, Settling.after-long}
use Rattle.link_box.specs.Checking.{FullNote, note_tick, note_by, checker, at_floor}
use Rattle.link_box.specs.{Checking.passed_in, Checking.passed, Packet.IsPacket}
use Rattle.link_box.specs.Verdicts.{CheckState, after_live, checked, Verdict.passed_with}
use Rattle.receiver_laws.proofs.{Notes.frames_in, Standing.byte_ticks}
use Rattle.receiver_laws.specs.Standing.{numbered_frame}
use Rattle.std.proofs.Common.{◌≡◌, ◌∙◌, ℕ, ◌+◌, ◌<◌, ◌≤◌, List, [], ◌∷◌, ◌++◌, length, refl, sym}
use Rattle.std.proofs.Common.{ap, subst, arith, nat_lt, length-append, Some}
use Rattle.std.proofs.lemmas.List.{length-map, length-take}
use Rattle.std.proofs.lemmas.List.Elements.{Contains-append_right, filter-append, filter_map-append}
use Rattle.std.specs.List.{Contains, cons_option}
use Rattle.yasir_ticks.specs.{Bursts.Burst, Bursts.bursts, Bursts.end_of, Ticks.silent}
use Rattle.yasir_ticks.specs.declared.tick.Tick.{Tick, TheVariants.Byte}

-- A whole packet ends within its burst.
module _ (profile : Profile) (tags : HasTags profile) (rules : Rules) (s : CheckState) (d : Burst)
    (n : ℕ) (packet : IsPacket profile rules s d n) where
  abbrev bytes : List ℕ
  bytes = trailer profile n (live_bytes rules d)

  pub packet-ends : live_end rules d + pause_len + trailer_len profile ≤ end_of d
  packet-ends =
      let ticks : length (silent pause_len ++ byte_ticks bytes) ≡ pause_len + trailer_len profile =
      length-append (silent pause_len) (byte_ticks bytes)
      ∙ ap (λ k. pause_len + k)
      (length-map bytes (λ b. Byte b)
      ∙ length-trailer profile tags n (live_bytes rules d)) in
      let first = length-take (pause_len + trailer_len profile) (after_live rules d) in
      let same = ap length packet.trailed in
      let long = after-long rules d in
      omega arith

-- ---- on a link

pub ends-in : (m : ℕ) (front : List Burst) (d : Burst) (back : List Burst)
    → EndBy m (front ++ d ∷ back) → end_of d ≤ m
ends-in m [] d back ends = ends.0
ends-in m (e ∷ front) d back ends = ends-in m front d back ends.1

-- Of a walk whose note of a burst has a frame in time, that frame is among the frames.
pub noted-contained : {S : Type 0} (w : Walker S FullNote) (m : ℕ) (s : S) (front : List Burst)
    (d : Burst) (back : List Burst) (f : NumberedFrame)
    → passed_in (w.note (state_after w s front) d) ≡ Some f → w.tick (state_after w s front) d < m
    → Contains (frames_in (notes_before m (walked w s (front ++ d ∷ back)))) f
noted-contained w m s front d back f passes early =
    let told : Noted FullNote = noted w (state_after w s front) d in
    let rest : List (Noted FullNote) = walked w (w.next (state_after w s front) d) back in
    let before : List NumberedFrame = frames_in (notes_before m (walked w s front)) in
    let later : List NumberedFrame = frames_in (notes_before m rest) in
    let all : frames_in (notes_before m (walked w s (front ++ d ∷ back))) ≡ before ++ f ∷ later =
    ap (λ l. frames_in (notes_before m l)) (walked-append w s front (d ∷ back))
    ∙ (ap frames_in (filter-append (λ x. nat_lt x.tick m) (walked w s front) (told ∷ rest))
    ∙ (filter_map-append (λ x. passed_in x.note) (notes_before m (walked w s front))
    (notes_before m (told ∷ rest))
    ∙ ap (λ l. before ++ l)
    (ap frames_in (before-early m told rest early) ∙ ap (λ o. cons_option o later) passes))) in
    subst (λ l. Contains l f) (sym all)
    (Contains-append_right before (f ∷ later) f (0, omega arith, refl))

module _ (profile : Profile) (tags : HasTags profile) (rules : Rules) (well : IsFramed rules) where
  -- A whole packet is noted as passed, before the line ends.
  pub packet-noted : (m : ℕ) (s : CheckState) (d : Burst) (n : ℕ) → IsPacket profile rules s d n
      → end_of d ≤ m
      → (passed_in (note_by rules d (checked profile rules s d)) ≡ Some (numbered_frame rules d n))
      × (note_tick profile rules d (checked profile rules s d) < m)
  packet-noted m s d n packet within =
      let passes = packet-passes profile tags rules well s d n packet in
      let ends = packet-ends profile tags rules s d n packet in
      let early : note_tick profile rules d (passed_with n) < m = grind arith in (
        ap (λ v. passed_in (note_by rules d v)) passes,
        subst (λ v. note_tick profile rules d v < m) (sym passes) early,
      )

  pub packet-contained : (floor : ℕ) (link : List Tick) (front : List Burst) (d : Burst)
      (back : List Burst) (n : ℕ)
      → bursts link ≡ front ++ d ∷ back
      → IsPacket profile rules (state_after (checker profile rules) (at_floor floor) front) d n
      → Contains (passed profile rules floor link) (numbered_frame rules d n)
  packet-contained floor link front d back n is packet =
      let m : ℕ = length link in
      let s : CheckState = state_after (checker profile rules) (at_floor floor) front in
      let within : end_of d ≤ m = ends-in m front d back
      (subst (λ ds. EndBy m ds) is (bursts-end link)) in
      let noted = packet-noted m s d n packet within in
      subst (λ ds. Contains (frames_in (notes_before m (walked (checker profile rules)
      (at_floor floor) ds))) (numbered_frame rules d n)) (sym is)
      (noted-contained (checker profile rules) m (at_floor floor) front d back
      (numbered_frame rules d n) noted.0 noted.1)
