use Rattle.std.proofs.Common.{◌≡◌, ◌∙◌, ℕ, ◌+◌, ◌*◌, ◌≤◌, [], ◌∷◌, ◌++◌, length, take, ◌==◌, refl, ap, sym, subst, arith}
use Rattle.std.proofs.Common.{get_or, append_assoc}
use Rattle.std.proofs.lemmas.List.{take_more}
use Rattle.std.proofs.Math.Seq.{take-length}
use Rattle.live_line.proofs.LetteredBytes.{lettering_of, lettered_byte, next_put}
use Rattle.live_line.specs.WayText.{HasLettered, letter_of}
use Rattle.live_line.specs.declared.ways.Way.{Way}
use Rattle.live_line.proofs.lettered.Lettering.put.Goals as goal
use Rattle.live_line.proofs.lettered.Lettering.put.Goals.{then-begins, else-begins}

pub loop-byte-preserved : goal.loop-byte-preserved
loop-byte-preserved c =
    let b : ℕ = get_or c.args.text.now c.loop-byte.byte-index 0 in
    let way : Way = c.args.self.now.way in
    let put : c.push-in-loop-byte.new.self.items
    ≡ c.loop-byte.lettered.items ++ lettered_byte c.args.self.now.way c.loop-byte.begins (get_or c.args.text.now c.loop-byte.byte-index 0) =
    elim c.if-begins.branch [
      | then-begins w ↦ c.push-in-loop-byte.ensures.items
          ∙ (ap (λ t. t.items ++ get_or c.args.text.now c.loop-byte.byte-index 0 ∷ []) w.lettered-is
          ∙ (ap (λ l. l ++ get_or c.args.text.now c.loop-byte.byte-index 0 ∷ []) (w.push.ensures.items
          ∙ ap (λ n. c.loop-byte.lettered.items ++ n ∷ []) w.letter.ensures)
          ∙ (append_assoc c.loop-byte.lettered.items (letter_of c.args.self.now.way ∷ []) (get_or c.args.text.now c.loop-byte.byte-index 0 ∷ [])
          ∙ ap (λ f. c.loop-byte.lettered.items ++ lettered_byte c.args.self.now.way f (get_or c.args.text.now c.loop-byte.byte-index 0)) (sym w.if-begins.true))))
      | else-begins w ↦ c.push-in-loop-byte.ensures.items
          ∙ (ap (λ t. t.items ++ get_or c.args.text.now c.loop-byte.byte-index 0 ∷ []) w.lettered-is
          ∙ ap (λ f. c.loop-byte.lettered.items ++ lettered_byte c.args.self.now.way f (get_or c.args.text.now c.loop-byte.byte-index 0)) (sym w.if-begins.false))
    ] in
    let few : length c.if-begins.lettered.items ≤ 2 * c.loop-byte.byte-index + 1 = elim c.if-begins.branch [
      | then-begins w ↦ omega (arith, ap (λ t. length t.items) w.lettered-is, w.push.ensures.len, c.loop-byte.invariant.few)
      | else-begins w ↦ omega (arith, ap (λ t. length t.items) w.lettered-is, c.loop-byte.invariant.few)
    ] in
    record {
      few = omega (arith, c.push-in-loop-byte.ensures.len, few);
      so_far = λ way stream before bytes has.
          let so = c.loop-byte.invariant.so_far way stream before bytes has in
          subst (λ l. HasLettered (lettering_of way (get_or c.args.text.now c.loop-byte.byte-index 0 == 10)) way stream l
          (bytes ++ c.push-in-loop-byte.new.self.items))
          (append_assoc before (take c.loop-byte.byte-index c.args.text.now) (get_or c.args.text.now c.loop-byte.byte-index 0 ∷ [])
          ∙ ap (λ l. before ++ l) (sym (take_more c.args.text.now c.loop-byte.byte-index 0 c.loop-byte-test.true)))
          (subst (λ l. HasLettered (lettering_of way (get_or c.args.text.now c.loop-byte.byte-index 0 == 10)) way stream
          ((before ++ take c.loop-byte.byte-index c.args.text.now) ++ get_or c.args.text.now c.loop-byte.byte-index 0 ∷ []) l)
          (append_assoc bytes c.loop-byte.lettered.items (lettered_byte way c.loop-byte.begins (get_or c.args.text.now c.loop-byte.byte-index 0))
          ∙ ap (λ l. bytes ++ l) (ap (λ w. c.loop-byte.lettered.items ++ lettered_byte w c.loop-byte.begins (get_or c.args.text.now c.loop-byte.byte-index 0)) (sym has.is_way)
          ∙ sym put))
          (next_put way stream (before ++ take c.loop-byte.byte-index c.args.text.now) (bytes ++ c.loop-byte.lettered.items)
          (get_or c.args.text.now c.loop-byte.byte-index 0) c.loop-byte.begins (get_or c.args.text.now c.loop-byte.byte-index 0 == 10) refl so));
    }

pub returns : goal.returns
returns c = λ way stream before bytes has.
    let so = c.loop-byte.invariant.so_far way stream before bytes has in
    subst (λ w. HasLettered (record { way = w; begins = c.loop-byte.begins }) way stream
    (before ++ c.args.text.now) (bytes ++ c.loop-byte.lettered.items)) (sym has.is_way)
    (subst (λ l. HasLettered (lettering_of way c.loop-byte.begins) way stream (before ++ l)
    (bytes ++ c.loop-byte.lettered.items))
    (ap (λ n. take n c.args.text.now) (grind arith) ∙ take-length c.args.text.now) so)
