-- Laws of numbers that are drawn one after the other, and that drawn frames are frames.
use Rattle.std.specs.Prelude.{◌≤◌, ◌≡◌, ℕ, zero, suc, ◌-◌, ◌%◌, ◌<◌, true, List}
use Rattle.std.specs.Prelude.{length, map, refl, slice_index_or}
use Rattle.std.proofs.Common.{arith, ◌∙◌, length-append, lit<}
use Rattle.std.proofs.lemmas.List.{length-map}
use Rattle.std.proofs.lemmas.List.Elements.{All-map}
use Rattle.std.proofs.lemmas.Nat.{mod_below}
use Rattle.line_rules.specs.Bytes.{AreBytes, low_first}
use Rattle.rtu_frame.specs.Crc.{crc_rtu}
use Rattle.rtu_frame.specs.Rules.{rtu_rules}
use Rattle.rtu_frame.proofs.FrameLaws.{is_frame-from}
use Rattle.dnp_link_frame.specs.Rules.{dnp_rules}
use Rattle.dnp_link_frame.proofs.FrameLaws.{frame-is_frame}
use Rattle.dnp_link_frame.proofs.FrameParts.{length-frame_of}
use Rattle.device_model.specs.Stated.{StatedDevice}
use Rattle.device_model.specs.Stated.StatedDevice.{rtu, dnp, rtu_member, dnp_member}
use Rattle.trial_session.specs.DrawnFrames.{Drawing}
use Rattle.trial_session.specs.Draws.{next_state, draws, bytes_drawn, draw_state_after, nth_drawn}
use Rattle.trial_session.specs.RtuDrawn.{rtu_drawing, rtu_body, rtu_frame_len}
use Rattle.trial_session.specs.DnpDrawn.{dnp_drawing, drawn_dnp_header, dnp_user, dnp_user_len}

pub length-draws : (n x : ℕ) → length (draws n x) ≡ n
unfolding draws
length-draws zero x = refl
length-draws (suc n) x =
    let rest = length-draws n (next_state x) in
    omega (arith, rest)

pub length-bytes_drawn : (n x : ℕ) → length (bytes_drawn n x) ≡ n
length-bytes_drawn n x = length-map (draws n x) (λ d. d % 256) ∙ length-draws n x

are-bytes : (l : List ℕ) → AreBytes (map (λ d. d % 256) l)
are-bytes l = All-map (λ b. b < 256) (λ d. d % 256) l
    (λ k d within. mod_below (slice_index_or l k d) 256 (omega arith))

pub rtu_are_frames : (x : ℕ) → rtu_rules.is_frame (rtu_drawing.frame x) ≡ true
rtu_are_frames x =
    let few = mod_below (nth_drawn 1 x) 253 (omega arith) in
    let body_len = length-bytes_drawn (rtu_frame_len x - 2) (draw_state_after 1 x) in
    let long = length-append (rtu_body x) (low_first (crc_rtu (rtu_body x))) in
    is_frame-from (rtu_drawing.frame x) (record {
      at_least = omega (arith, few, body_len, long);
      at_most = omega (arith, few, body_len, long);
      ends_in_crc = record { body = rtu_body x; ends = refl };
    })

pub dnp_are_frames : (x : ℕ) → dnp_rules.is_frame (dnp_drawing.frame x) ≡ true
dnp_are_frames x =
    let user_len = length-bytes_drawn (dnp_user_len x) (draw_state_after 3 x) in
    let few = mod_below (nth_drawn 1 x) 251 (omega arith) in
    frame-is_frame (dnp_drawing.frame x) (record {
      header = drawn_dnp_header x;
      user = dnp_user x;
      of = record {
        header_fits = record {
          control_fits = lit< tt;
          destination_fits = mod_below (nth_drawn 2 x) 65536 (omega arith);
          source_fits = mod_below (nth_drawn 3 x) 65536 (omega arith);
        };
        user_bytes = are-bytes (draws (dnp_user_len x) (draw_state_after 3 x));
        user_fits = omega (arith, user_len, few);
        is = refl;
      };
    })

-- Drawn frames have at most 292 bytes.
pub rtu_are_short : (x : ℕ) → length (rtu_drawing.frame x) ≤ 292
rtu_are_short x =
    let few = mod_below (nth_drawn 1 x) 253 (omega arith) in
    let body_len = length-bytes_drawn (rtu_frame_len x - 2) (draw_state_after 1 x) in
    let long = length-append (rtu_body x) (low_first (crc_rtu (rtu_body x))) in
    omega (arith, few, body_len, long)

pub dnp_are_short : (x : ℕ) → length (dnp_drawing.frame x) ≤ 292
dnp_are_short x =
    let user_len = length-bytes_drawn (dnp_user_len x) (draw_state_after 3 x) in
    let few = mod_below (nth_drawn 1 x) 251 (omega arith) in
    let long = length-frame_of (drawn_dnp_header x) (dnp_user x) in
    omega (arith, user_len, few, long)

-- how the frames are drawn that a stated device reads
abbrev pub stated_drawing : StatedDevice → Drawing
stated_drawing rtu = rtu_drawing
stated_drawing dnp = dnp_drawing
stated_drawing (rtu_member cut gap) = rtu_drawing
stated_drawing (dnp_member cut) = dnp_drawing
