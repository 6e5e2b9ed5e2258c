use Rattle.poll_session.proofs.Asks.{next-is, one-more, requests-next, said-byte, state-next}
use Rattle.poll_session.specs.Asking.{request_drawn, request_state, requests_drawn}
use Rattle.std.proofs.Common.{◌≡◌, ◌∙◌, ◌+◌, ◌++◌, ◌∷◌, [], ap, arith, length, refl, suc, sym, take}
use Rattle.std.proofs.lemmas.List.{append_assoc, append-nil, take_all}
use Rattle.std.proofs.lemmas.Option.{slice_get_within}
use Rattle.trial_session.specs.Draws.{draw_state_after}
use Rattle.poll_session.proofs.master.Master.say_next.Goals as goal

pub overflow_add-self : goal.overflow_add-self
overflow_add-self g c =
    let next = next-is c.args.self.now c.args.byte c.requires in
    let within = slice_get_within c.args.self.now.frame.items c.args.self.now.at c.args.byte next.get in
    let items = c.as_slice-len.ensures.fits in
    let is = ap length c.as_slice-len.ensures.value in
    omega (arith, within, items, is)

pub returns-then-self-len-clause-asks : goal.returns-then-self-len-clause-asks
returns-then-self-len-clause-asks g c = λ seed ticks asked.
    let value = c.args.self.now in
    let byte = c.args.byte in
    let next = next-is value byte c.requires in
    let left = next.left in
    let more : suc value.at ≡ value.at + 1 = omega arith in
    let front = requests_drawn g.R.DrawnFrames.drawing seed value.asked in
    record {
      state_is = asked.state_is;
      frame_is = asked.frame_is;
      asks = said-byte ticks byte ∙ (ap (λ l. l ++ byte ∷ []) asked.asks
          ∙ (append_assoc front (take value.at value.frame.items) (byte ∷ [])
          ∙ (ap (λ l. front ++ l) (sym (one-more value.frame.items value.at byte next.get))
          ∙ ap (λ n. front ++ take n value.frame.items) more)));
      ends = λ all. absurd (omega (arith, left, all));
    }

pub returns-clause-asks : goal.returns-clause-asks
returns-clause-asks g c = λ seed ticks asked.
    let value = c.args.self.now in
    let byte = c.args.byte in
    let drawing = g.R.DrawnFrames.drawing in
    let next = next-is value byte c.requires in
    let within = slice_get_within value.frame.items value.at byte next.get in
    let items = ap length c.as_slice-len.ensures.value in
    let over = c.if-self-len.false in
    let more : suc value.asked ≡ value.asked + 1 = omega arith in
    let front = requests_drawn drawing seed value.asked in
    let state = asked.state_is ∙ ap (request_state drawing seed) more in
    record {
      state_is = c.draw_frame-self.ensures.state
          ∙ (ap (λ x. draw_state_after (drawing.draws x) x) asked.state_is
          ∙ (sym (state-next drawing seed (suc value.asked))
          ∙ ap (λ n. request_state drawing seed (suc n)) more));
      frame_is = c.draw_frame-self.ensures.frame ∙ ap drawing.frame state;
      asks = said-byte ticks byte ∙ (ap (λ l. l ++ byte ∷ []) asked.asks
          ∙ (append_assoc front (take value.at value.frame.items) (byte ∷ [])
          ∙ (ap (λ l. front ++ l) (sym (one-more value.frame.items value.at byte next.get)
          ∙ (take_all (suc value.at) value.frame.items (omega (arith, within, items, over))
          ∙ asked.frame_is))
          ∙ (sym (requests-next drawing seed value.asked)
          ∙ (ap (requests_drawn drawing seed) more
          ∙ sym (append-nil (requests_drawn drawing seed (value.asked + 1))))))));
      ends = λ all. refl;
    }
