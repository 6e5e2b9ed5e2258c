use Rattle.std.proofs.Common.{ℕ, ◌≡◌, ◌<◌, length, arith, Result, Ok, Err, OnOk, OnErr}
use Rattle.check_receiver.proofs.arriving.Arriving.take.Goals as goal

on-room : {T E : Type 0} (r : Result T E) (n cap : ℕ) (P : Type 0) → n < cap
    → OnErr r (n ≡ cap) → OnOk r P → P
on-room (Ok v) n cap P room full ok = ok
on-room (Err e) n cap P room full ok = absurd (omega arith)

pub returns : goal.returns
returns g c = λ room.
    on-room c.try_push.result (length c.args.self.now.bytes.items) 20 _ room
    c.try_push.ensures.full c.try_push.ensures.ok
