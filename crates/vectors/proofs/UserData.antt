-- `user_of` is the user data that a frame carries, and there is none if the text is no frame.
use Rattle.dnp_link_frame.proofs.FrameLaws.{is_frame-frame, frame-is_frame}
use Rattle.dnp_link_frame.proofs.FrameParts.{length-frame_of, user_in-frame_of}
use Rattle.dnp_link_frame.specs.{Beginnings.user_in, Blocks.is_frame, Frame.IsDnpFrame}
use Rattle.dnp_link_frame.specs.{Frame.IsFrameOf, declared.header.Header.Header}
use Rattle.line_rules.specs.Bytes.{AreBytes}
use Rattle.std.proofs.Common.{◌≡◌, ℕ, ◌≤◌, List, length, Some, None, arith, ◌∙◌, ap, subst, ⊎_elim}
use Rattle.std.proofs.lemmas.Bool.{cases_Bool, cond-true, cond-false, false_from_ne_true}
use Rattle.vectors.specs.Cases.{user_of}

pub user_of-frame : (header : Header) (user text : List ℕ) → IsFrameOf header user text
    → user_of text ≡ Some user
user_of-frame header user text of =
    cond-true (is_frame text) (Some (user_in text)) None
    (frame-is_frame text (record { header = header; user = user; of = of }))
    ∙ ap Some (ap user_in of.is ∙ user_in-frame_of header user)

pub user_of-none : (text : List ℕ) → AreBytes text → (IsDnpFrame text → ⊥) → user_of text ≡ None
user_of-none text bytes none =
    cond-false (is_frame text) (Some (user_in text)) None
    (false_from_ne_true (is_frame text) (λ yes. none (is_frame-frame text bytes yes)))

-- A frame has at least as many bytes as its user data.
pub user_data-within : (header : Header) (user text : List ℕ) → IsFrameOf header user text
    → length user ≤ length text
user_data-within header user text of =
    let size = ap length of.is ∙ length-frame_of header user in
    omega arith

pub user_of-is : (text user : List ℕ) → AreBytes text
    → (user_of text ≡ Some user → (header : Header) × IsFrameOf header user text)
    × ((header : Header) × IsFrameOf header user text → user_of text ≡ Some user)
user_of-is text user bytes = (
  (λ is. ⊎_elim
      (λ yes.
      let framed = is_frame-frame text bytes yes in
      let found = user_of-frame framed.header framed.user text framed.of in
      let same : framed.user ≡ user = cc in
      (framed.header, subst (λ u. IsFrameOf framed.header u text) same framed.of))
      (λ no.
      let none = cond-false (is_frame text) (Some (user_in text)) None no in
      absurd cc)
      (cases_Bool (is_frame text))),
  (λ of. user_of-frame of.0 user text of.1),
)
