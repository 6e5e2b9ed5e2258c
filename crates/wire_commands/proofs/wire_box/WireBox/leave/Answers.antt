use Rattle.std.proofs.Common.{◌≡◌, ◌∙◌, ◌+◌, ◌-◌, ◌<◌, ◌≤◌, ◌∷◌, ℕ, List, length, drop}
use Rattle.std.proofs.Common.{refl, ap, arith, slice_index_or}
use Rattle.std.proofs.lemmas.List.{length-drop}
use Rattle.frame_ending.specs.Answered.{answered}
use Rattle.wire_commands.proofs.Ahead.{bytes-leave, silence-leaves, silent-some, silent-none}
use Rattle.wire_commands.proofs.Ahead.{some-size, none-size}
use Rattle.yasir_ticks.specs.declared.tick.Tick.TheVariants.{Byte}
use Rattle.wire_commands.proofs.wire_box.WireBox.leave.Goals as goal

-- the bytes that may leave are there
inside : (n at ticks : ℕ) (items : List ℕ) → at < length items → 0 < ticks
    → ticks ≤ length (answered n (drop at items)) → at + ticks ≤ length items
inside n at ticks items some more within =
    let size = length-drop at items in
    let all = some-size n (drop at items) (omega (arith, size, some)) in
    omega (arith, size, all, within, some)

pub bounds-as_slice-last : goal.bounds-as_slice-last
bounds-as_slice-last g c =
    let value = c.args.self.now in
    let bound = inside value.next value.at c.args.ticks value.bytes.items
    (omega (arith, c.len.ensures.value, c.if-self-len.true)) c.requires.some c.requires.within in
    omega (arith, bound, ap length c.as_slice.ensures.value, c.requires.some)

pub invariant_of-self : goal.invariant_of-self
invariant_of-self g c =
    let value = c.args.self.now in
    record {
      inside = inside value.next value.at c.args.ticks value.bytes.items
          (omega (arith, c.len.ensures.value, c.if-self-len.true)) c.requires.some c.requires.within;
    }

pub returns-then-self-len : goal.returns-then-self-len
returns-then-self-len g c =
    let value = c.args.self.now in
    let items : List ℕ = value.bytes.items in
    let some : value.at < length items = omega (arith, c.len.ensures.value, c.if-self-len.true) in
    let bound = inside value.next value.at c.args.ticks items some c.requires.some c.requires.within in
    record {
      box_is = refl;
      journal_is = refl;
      disk_is = refl;
      leaving_is =
          ap (λ l. Byte (slice_index_or l (value.at + (c.args.ticks - 1)) 0)
          ∷ answered 0 (drop (value.at + c.args.ticks) items)) c.as_slice.ensures.value
          ∙ bytes-leave value.first value.next items value.at c.args.ticks (c.args.ticks - 1)
          (omega (arith, c.requires.some)) (omega (arith, bound, c.requires.some));
      silent_is = λ silent within. absurd (omega (
        arith,
        silent,
        silent-some value.next (drop value.at items)
            (omega (arith, some, length-drop value.at items)),
      ));
    }

pub returns-else-self-len : goal.returns-else-self-len
returns-else-self-len g c =
    let value = c.args.self.now in
    let items : List ℕ = value.bytes.items in
    let past : length items ≤ value.at = omega (arith, c.len.ensures.value, c.if-self-len.false) in
    let empty : length (drop value.at items) ≡ 0 = omega (arith, past, length-drop value.at items) in
    let size = none-size value.next (drop value.at items) empty in
    let left : ℕ = value.next - c.args.ticks in
    record {
      box_is = refl;
      journal_is = refl;
      disk_is = refl;
      leaving_is = silence-leaves value.first value.next items value.at c.args.ticks left past
          c.requires.some (omega (arith, size, c.requires.within));
      silent_is = λ some within. (
        refl,
        omega (
          arith,
          silent-none value.next (drop value.at items) empty,
          silent-none left (drop value.at items) empty,
          size,
          c.requires.within,
        ),
      );
    }
