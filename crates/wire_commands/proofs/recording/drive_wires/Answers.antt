use Rattle.line_commands.specs.Recording.{steps_of, filled_recording}
use Rattle.link_format.specs.{Directions.opposite_of, Setup.Setup, Setup.setup_of}
use Rattle.std.proofs.Common.{◌≡◌, ◌+◌, ℕ, List, arith}
use Rattle.std.proofs.lemmas.List.{drop_all}
use Rattle.wire_commands.proofs.Filling.{whole-filled, filled-size}
use Rattle.yasir_ticks.specs.declared.tick.Tick.{Tick}
use Rattle.wire_commands.proofs.recording.drive_wires.Goals as goal

pub take_all-requires-clause-able : goal.take_all-requires-clause-able
take_all-requires-clause-able g c = c.new-lines.ensures.able _

pub returns-in-Ok-finish : goal.returns-in-Ok-finish
returns-in-Ok-finish g c =
    let device : List Tick = c.args.device.now in
    let link : List Tick = c.args.link.now in
    let sent : Setup = setup_of c.args.key.now c.args.at.outgoing 0 in
    let got : Setup = setup_of c.args.key.now (opposite_of c.args.at.outgoing) 0 in
    let n : ℕ = steps_of device link in
    let steps : ℕ = c.max-steps.result + 320 in
    let is : steps ≡ n = omega (arith, c.max-steps.ensures) in
    let d : List Tick = filled_recording n device in
    let l : List Tick = filled_recording n link in
    let d_size = filled-size n device (omega arith) in
    let l_size = filled-size n link (omega arith) in
    let made = c.in-Ok.ensures c.args.at.side c.args.at.waits sent got
    (c.new-lines.ensures.made (filled_recording steps device) (filled_recording steps link)) in
    c.in-Ok-finish.ensures c.args.at.side c.args.at.waits sent got d l
    (rw (
      is,
      whole-filled device n (omega arith),
      whole-filled link n (omega arith),
      drop_all n d (omega (arith, d_size)),
      drop_all n l (omega (arith, l_size)),
    ) at made)
