use Rattle.line_rules.specs.Crc.{bit_steps}
use Rattle.std.proofs.Common.{◌*◌, ◌∙◌, sym, ap, arith, ⊎_elim, slice_index}
use Rattle.std.proofs.{Math.ListN.length-set, lemmas.Bool.cases_eq, lemmas.List.get_or-set_same}
use Rattle.std.{proofs.lemmas.List.get_or-set_other, specs.Prelude.slice_set}
use Rattle.line_rules.proofs.crc_table.CrcTable.after_bytes.Goals as goal

pub loop-byte-preserved : goal.loop-byte-preserved
loop-byte-preserved g c = (
  (length-set c.loop-byte.entries c.loop-byte.byte c.after_bits.result ∙ c.loop-byte.invariant.0),
  (λ k below.
      ⊎_elim
      (λ last.
      ap (slice_index (slice_set c.loop-byte.entries c.loop-byte.byte c.after_bits.result)) last
      ∙ (get_or-set_same c.loop-byte.entries c.loop-byte.byte c.after_bits.result 0
      (omega (arith, c.loop-byte.invariant.0))
      ∙ (c.after_bits.ensures ∙ ap (bit_steps g.row.POLY (8 * c.args.count)) (sym last))))
      (λ other.
      get_or-set_other c.loop-byte.entries c.loop-byte.byte k c.after_bits.result 0 other
      ∙ c.loop-byte.invariant.1 k (omega arith))
      (cases_eq k c.loop-byte.byte)),
)
