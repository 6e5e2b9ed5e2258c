use Rattle.frame_ending.proofs.Spread.{EndBy, bursts-end}
use Rattle.frame_ending.specs.Walk.{Walker, walked, state_after, notes_before}
use Rattle.link_box.specs.Checking.{FullNote}
use Rattle.receiver_laws.proofs.{Notes.frames_in, Packets.ends-in, Packets.packet-noted}
use Rattle.receiver_laws.proofs.Packets.{noted-contained}
use Rattle.receiver_laws.specs.Standing.{numbered_frame}
use Rattle.std.proofs.Common.{ℕ, sym, subst, length}
use Rattle.std.specs.List.{Contains}
use Rattle.stations.specs.Shared.{SharedState, at_floors, its_state, shared, checking_box}
use Rattle.stations.proofs.Free.{free-after}
use Rattle.stations.proofs.laws.shared_links_recover.Goals as goal

pub returns-clause-free : goal.returns-clause-free
returns-clause-free g c = λ profile station most lack floors link ticks.
    free-after station profile g.R.LineRules.rules g.R.LineRules.lawful most lack floors link ticks

pub returns-clause-passes : goal.returns-clause-passes
returns-clause-passes g c = λ profile tags station floors link front d back number is packet.
    let rules = g.R.LineRules.rules in
    let w : Walker SharedState FullNote = shared station rules (checking_box profile rules) in
    let m : ℕ = length link in
    let s : SharedState = state_after w (at_floors floors) front in
    let noted = packet-noted profile tags rules g.R.LineRules.framed m
    (its_state station rules (checking_box profile rules) s d) d number packet
    (ends-in m front d back (subst (λ ds. EndBy m ds) is (bursts-end link))) in
    subst (λ ds. Contains (frames_in (notes_before m (walked w (at_floors floors) ds)))
    (numbered_frame rules d number)) (sym is)
    (noted-contained w m (at_floors floors) front d back (numbered_frame rules d number) noted.0
    noted.1)
