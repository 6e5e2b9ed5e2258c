use Rattle.device_model.specs.Stated.{stated_rules, stated_reads}
use Rattle.receiver_laws.proofs.Stated.{stated_lawful}
use Rattle.two_wire.proofs.{Devices.stated-given, Ends.reads-only-sealed}
use Rattle.two_wire.proofs.laws.two_wire_devices_read_what_was_sealed.Goals as goal

pub returns : goal.returns
returns c = λ device end within w seal_floor line is.
    reads-only-sealed (stated_rules device) (stated_lawful device) (stated_reads device) end
    seal_floor line
    (λ link given gives. stated-given device end.incoming within seal_floor end.got_floor end.late
    line link given gives) w is
