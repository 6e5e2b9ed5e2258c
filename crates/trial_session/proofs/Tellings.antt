-- What the numbers of a session's line say about one another, for each stated device.
use Rattle.device_model.specs.Stated.{StatedDevice, stated_rules, stated_reads, stated_silence}
use Rattle.device_model.specs.Stated.{IsStatedWithin}
use Rattle.device_model.specs.Stated.StatedDevice.{rtu, dnp, rtu_member, dnp_member}
use Rattle.link_format.specs.Profile.{Profile, HasTags, delay, pause_len, trailer_len}
use Rattle.receiver_laws.proofs.Stated.{stated_lawful, stated_framed, stated_reads_what_passed}
use Rattle.link_box.specs.Sealing.{link_line}
use Rattle.std.proofs.Common.{◌≡◌, ℕ, ◌+◌, ◌≤◌, true, length, arith}
use Rattle.trial_session.proofs.SealsAll.{all-sealed, reads-all}
use Rattle.trial_session.specs.DrawLaws.{rtu_are_frames, rtu_are_short, dnp_are_frames}
use Rattle.trial_session.specs.DrawLaws.{dnp_are_short, stated_drawing}
use Rattle.trial_session.specs.{Session.session_line, Session.altered_link}
use Rattle.trial_session.specs.{Summaries.trial_summary, Telling.Tells}

are-frames : (device : StatedDevice) (x : ℕ)
    → (stated_rules device).is_frame ((stated_drawing device).frame x) ≡ true
are-frames rtu = rtu_are_frames
are-frames dnp = dnp_are_frames
are-frames (rtu_member cut gap) = rtu_are_frames
are-frames (dnp_member cut) = dnp_are_frames

are-short : (device : StatedDevice) (x : ℕ) → length ((stated_drawing device).frame x) ≤ 292
are-short rtu = rtu_are_short
are-short dnp = dnp_are_short
are-short (rtu_member cut gap) = rtu_are_short
are-short (dnp_member cut) = dnp_are_short

-- A stated device awaits no more silence than is stated.
awaits-within : (device : StatedDevice) (most : ℕ) → 4 ≤ most → IsStatedWithin most device
    → stated_silence device ≤ most
awaits-within rtu most wide any = wide
awaits-within dnp most wide any = omega arith
awaits-within (rtu_member cut gap) most wide member = member.1
awaits-within (dnp_member cut) most wide member = omega arith

pub stated-tells : (device : StatedDevice) (profile : Profile)
    → IsStatedWithin (delay profile) device → HasTags profile → 1 ≤ profile.word_len
    → trailer_len profile ≤ 20 → (seed count : ℕ) → count ≤ profile.limit
    → Tells (trial_summary (stated_drawing device) profile (stated_rules device)
    (stated_reads device) seed count) count
stated-tells device profile within tags some short seed count enough =
    let rules = stated_rules device in let drawing = stated_drawing device in
    let link = altered_link drawing (pause_len + trailer_len profile) seed count
    (link_line profile rules 0 (session_line drawing seed count)) in
    let soon = awaits-within device (delay profile) (omega arith) within in
    record {
      all_sealed = all-sealed profile tags some short rules (stated_lawful device)
          (stated_framed device) drawing (are-frames device) (are-short device) seed count enough;
      reads_passed = reads-all profile tags some short rules (stated_reads device)
          (stated_silence device) link (omega (arith, soon, short))
          (stated_reads_what_passed device profile within 0 link);
    }
