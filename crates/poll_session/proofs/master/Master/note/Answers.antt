use Rattle.poll_session.proofs.Asks.{said-silent}
use Rattle.poll_session.specs.Asking.{HasAsked}
use Rattle.std.proofs.Common.{◌∙◌, ◌++◌, ◌∷◌, [], subst, sym}
use Rattle.poll_session.proofs.master.Master.note.Goals as goal

pub returns-in-Silent-clause-asks : goal.returns-in-Silent-clause-asks
returns-in-Silent-clause-asks g c = λ seed ticks asked. rw c.in-Silent.is (record {
  state_is = asked.state_is;
  frame_is = asked.frame_is;
  asks = said-silent ticks ∙ asked.asks;
  ends = asked.ends;
})

pub returns-in-Byte-clause-asks : goal.returns-in-Byte-clause-asks
returns-in-Byte-clause-asks g c = λ seed ticks asked. subst
    (λ t. HasAsked g.R.DrawnFrames.drawing seed c.say_next.new.self (ticks ++ t ∷ []))
    (sym c.in-Byte.is) (c.say_next.ensures.asks seed ticks asked)
