use Rattle.capture_text.proofs.RowLaws.{lf_ends, long_stops, plain_step}
use Rattle.capture_text.specs.RowReader.{state_of}
use Rattle.std.proofs.Common.{◌∙◌, ◌+◌, [], ◌∷◌, length, Ok, None, refl, ap, sym, arith}
use Rattle.std.proofs.lemmas.Bool.{eq-eqb, ne_eqb, cond-true, cond-false}
use Rattle.{std.proofs.lemmas.List.length-append, yasir_ticks.specs.Characters.line_feed}
use Rattle.capture_text.proofs.row_reader.RowReader.step.Goals as goal

pub returns-in-Err : goal.returns-in-Err
returns-in-Err g c = (
  lf_ends g.F.RowForm.row_at g.F.RowForm.name_of (state_of c.args.self.now)
      c.args.self.now.line.items c.args.b _ c.if-b-eq10.true c.in-Err.ensures.0,
  c.in-Err.ensures.1,
  c.in-Err.ensures.2,
)

pub returns-then-b-eq10 : goal.returns-then-b-eq10
returns-then-b-eq10 g c = (
  lf_ends g.F.RowForm.row_at g.F.RowForm.name_of (state_of c.args.self.now)
      c.args.self.now.line.items c.args.b _ c.if-b-eq10.true c.in-Ok.ensures.0
      ∙ ap (λ x. Ok ((state_of c.end_line.new.self, x), c.in-Ok.seen)) (sym c.in-Ok.ensures.1),
  ap (λ n. n + 1) c.in-Ok.ensures.2,
  c.in-Ok.ensures.3,
  λ h. omega (arith, ap length c.in-Ok.ensures.1),
  ap (λ n. n + 1) c.in-Ok.ensures.5
      ∙ sym (cond-true _ _ _ (eq-eqb c.args.b line_feed c.if-b-eq10.true)),
)

pub returns-then-len-ge-MAX_LINE : goal.returns-then-len-ge-MAX_LINE
returns-then-len-ge-MAX_LINE g c = (
  long_stops g.F.RowForm.row_at g.F.RowForm.name_of (state_of c.args.self.now)
      c.args.self.now.line.items c.args.b c.if-b-eq10.false
      (omega (arith, c.len.ensures.value, c.if-len-ge-MAX_LINE.true)),
  refl,
  refl,
)

pub returns : goal.returns
returns g c = (
  plain_step g.F.RowForm.row_at g.F.RowForm.name_of (state_of c.args.self.now)
      c.args.self.now.line.items c.args.b (ne_eqb c.args.b line_feed c.if-b-eq10.false)
      (omega (arith, c.len.ensures.value, c.if-len-ge-MAX_LINE.false))
      ∙ ap (λ x. Ok ((state_of c.args.self.now, x), None)) (sym c.push.ensures.items),
  refl,
  refl,
  λ h. omega (
    arith,
    h,
    ap length c.push.ensures.items,
    length-append c.args.self.now.line.items (c.args.b ∷ []),
  ),
  sym (cond-false _ _ _ (ne_eqb c.args.b line_feed c.if-b-eq10.false)),
)
