use Rattle.std.proofs.Common.{refl}
use Rattle.yasir_io.proofs.FileLemmas.{always_ok, always_on_ok, nothing_elapses}
use Rattle.yasir_io.proofs.OutputLemmas.{always_on_err}
use Rattle.yasir_io.proofs.files.FileSlotsSlotDisk.TheImpl.Goals as goal

pub read_old-tells : goal.read_old-tells
read_old-tells g c = record {
  bytes = always_ok _ c.result (λ bytes. tt);
  told = refl;
  images = λ image none. none;
  images_back = λ image none. none;
  time = nothing_elapses;
  cause = c.ensures.cause;
}

pub read_slot-tells : goal.read_slot-tells
read_slot-tells g c = record {
  bytes = always_ok _ c.result (λ bytes. tt);
  told = refl;
  images = λ image none. none;
  images_back = λ image none. none;
  time = nothing_elapses;
  cause = c.ensures.cause;
}

pub write_slot-tells : goal.write_slot-tells
write_slot-tells g c = record {
  written = always_on_ok c.result refl;
  unwritten = always_on_err c.result refl;
  images = λ image none. absurd none;
  images_back = λ image none. absurd none;
  time = nothing_elapses;
  cause = c.ensures.cause;
}

pub sync-tells : goal.sync-tells
sync-tells g c = record {
  durable = always_on_ok c.result (λ image none. absurd none);
  as_read = always_on_ok c.result (λ image none. absurd none);
  told = refl;
  images = λ image none. none;
  images_back = always_on_err c.result (λ image none. none);
  time = nothing_elapses;
  cause = c.ensures.cause;
}
