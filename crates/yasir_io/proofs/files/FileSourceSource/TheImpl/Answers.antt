use Rattle.std.proofs.Common.{refl}
use Rattle.yasir_io.proofs.{FileLemmas.always_ok, OutputLemmas.always_on_err}
use Rattle.yasir_io.proofs.files.FileSourceSource.TheImpl.Goals as goal

pub read-tells : goal.read-tells
read-tells g c = record {
  within = c.ensures.within;
  bytes = always_ok _ c.result (λ n. refl);
  end = always_ok _ c.result (λ n none room. tt);
  err = always_on_err c.result refl;
  cause = c.ensures.cause;
}
