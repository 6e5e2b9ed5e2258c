use Rattle.line_capture.proofs.LawOfGiven.{given_again, given_right}
use Rattle.line_capture.proofs.laws.what_was_given_is_taken.Goals as goal

pub returns : goal.returns
returns c = record {
  same = λ form taken rate text a b file in_before in_now before now outcome same lines given told
      takes done. given_again form taken rate text a b file c.written_header.ensures.header same lines given
      in_before in_now before now outcome told takes done;
  right = λ form taken rate text a b file same lines given few.
      given_right form taken rate text a b file c.written_header.ensures.header same lines given few;
}
