-- What the line of a session of polls tells, for both protocols and profiles.
use Rattle.command_ends.specs.Links.{delay_of}
use Rattle.command_ends.specs.Outside.{Outside}
use Rattle.command_ends.specs.declared.status.Status.{Status, TheVariants.NoMemory}
use Rattle.command_ends.specs.declared.link.Profile.{Profile, TheVariants.Y18, TheVariants.Y24}
use Rattle.command_ends.specs.declared.link.Proto.{Proto, TheVariants.Rtu, TheVariants.Dnp3}
use Rattle.device_model.specs.Stated.{StatedDevice, IsStatedWithin}
use Rattle.device_model.specs.Stated.StatedDevice.{rtu, dnp}
use Rattle.link_format.specs.Profile.{Profile as LinkProfile, delay}
use Rattle.link_replay.specs.PollCommand.{Polls, PrintsPolls, TellsPolls}
use Rattle.poll_session.specs.Polled.{PollsTell, SessionsTell}
use Rattle.std.proofs.Common.{◌≤◌, ℕ, List, arith}
use Rattle.yasir_io.specs.declared.sink.Sink.{Ghosts as Sink}

soon : (profile : Profile) → delay_of profile ≤ 37
soon Y18 = omega arith
soon Y24 = omega arith

pub polls-tell : ((device : StatedDevice) (requests answers : LinkProfile)
    → IsStatedWithin (delay requests) device → IsStatedWithin (delay answers) device
    → SessionsTell device requests answers) → (proto : Proto) (profile : Profile) (seed count : ℕ)
    (text : List ℕ) (line : TellsPolls proto profile seed count text) → PollsTell line.polled
polls-tell law Rtu profile seed count text line =
    law rtu _ _ tt tt _ (delay_of profile) seed count line.summary (soon profile) line.polled
polls-tell law Dnp3 profile seed count text line =
    law dnp _ _ tt tt _ (delay_of profile) seed count line.summary (soon profile) line.polled

-- A line that was printed isn't the end of a run without memory.
pub polls-by : {K S O L D : Type 0} (o : Sink O) (l : Sink L) (proto : Proto) (profile : Profile)
    (seed count : ℕ) (before after : Outside K S O L D) (status : Status)
    → PrintsPolls o l proto profile seed count before after status
    → Polls o l proto profile seed count before after status
polls-by o l proto profile seed count before after NoMemory prints = absurd prints.prints.printed
polls-by o l proto profile seed count before after status prints = prints
