-- The draws of a frame.
use Rattle.dnp_link_frame.specs.{Frame.frame_of, declared.header.Header.Header}
use Rattle.std.proofs.Common.{◌≡◌, ◌∙◌, ℕ, ◌+◌, ◌-◌, ◌%◌, List, [], ◌++◌, ap, sym, arith}
use Rattle.trial_session.proofs.Drawing.{after-one, one-is, two-is, three-is, state_after-add}
use Rattle.trial_session.specs.DnpDrawn.{drawn_dnp_header, dnp_user, dnp_user_len, dnp_drawing}
use Rattle.trial_session.specs.Draws.{next_state, drawn, draw_state_after, bytes_drawn, nth_drawn}
use Rattle.trial_session.specs.RtuDrawn.{rtu_body, rtu_frame_len}

-- An empty frame has the bytes that are put into it.
pub rtu-filled : (items before more body : List ℕ) → items ≡ before ++ more → before ≡ []
    → more ≡ body → items ≡ body
rtu-filled items before more body is none same = is ∙ ap (λ l. l ++ more) none ∙ same

module _ (x one value : ℕ) (first : one ≡ next_state x) (value_is : value ≡ drawn one) where
  begun : one ≡ draw_state_after 1 x
  begun = first ∙ sym (after-one x)

  length-is : value % 253 + 2 ≡ rtu_frame_len x - 2
  length-is =
      let same : value % 253 ≡ nth_drawn 1 x % 253 =
      ap (λ v. v % 253) (value_is ∙ ap drawn begun) in
      omega (arith, same)

  pub rtu-body-is : (bytes : List ℕ) → bytes ≡ bytes_drawn (value % 253 + 2) one
      → bytes ≡ rtu_body x
  rtu-body-is bytes is =
      is ∙ ap (λ n. bytes_drawn n one) length-is
      ∙ ap (λ s. bytes_drawn (rtu_frame_len x - 2) s) begun

  pub rtu-state-is : (end : ℕ) → end ≡ draw_state_after (value % 253 + 2) one
      → end ≡ draw_state_after (1 + (rtu_frame_len x - 2)) x
  rtu-state-is end is =
      is ∙ ap (λ n. draw_state_after n one) length-is
      ∙ ap (λ s. draw_state_after (rtu_frame_len x - 2) s) begun
      ∙ sym (state_after-add 1 (rtu_frame_len x - 2) x)

module _ (x one two three a b c : ℕ) (first : one ≡ next_state x) (second : two ≡ next_state one)
    (third : three ≡ next_state two) (a_is : a ≡ drawn one) (b_is : b ≡ drawn two)
    (c_is : c ≡ drawn three) where
  first-is : a ≡ nth_drawn 1 x
  first-is = a_is ∙ ap drawn (one-is x one two three a b c first second third)

  second-is : b ≡ nth_drawn 2 x
  second-is = b_is ∙ ap drawn (two-is x one two three a b c first second third)

  third-is : c ≡ nth_drawn 3 x
  third-is = c_is ∙ ap drawn (three-is x one two three a b c first second third)

  begun-three : three ≡ draw_state_after 3 x
  begun-three = three-is x one two three a b c first second third

  header-is : (let header : Header = record {
    control = 0xC4;
    destination = b % 65536;
    source = c % 65536;
  } in
      header ≡ drawn_dnp_header x)
  header-is =
      ap (λ d. record { control = 0xC4; destination = d % 65536; source = c % 65536 }) second-is
      ∙ ap (λ s. record {
        control = 0xC4;
        destination = nth_drawn 2 x % 65536;
        source = s % 65536;
      }) third-is

  pub user-is : (user : List ℕ) → user ≡ bytes_drawn (a % 251) three → user ≡ dnp_user x
  user-is user is =
      is ∙ ap (λ v. bytes_drawn (v % 251) three) first-is
      ∙ ap (λ s. bytes_drawn (dnp_user_len x) s) begun-three

  pub dnp-frame-is : (frame user : List ℕ)
      → frame ≡ frame_of (record { control = 0xC4; destination = b % 65536; source = c % 65536 })
      user → user ≡ bytes_drawn (a % 251) three → frame ≡ dnp_drawing.frame x
  dnp-frame-is frame user is of =
      is ∙ ap (λ h. frame_of h user) header-is ∙ ap (frame_of (drawn_dnp_header x)) (user-is user of)

  pub dnp-state-is : (end : ℕ) → end ≡ draw_state_after (a % 251) three
      → end ≡ draw_state_after (3 + dnp_user_len x) x
  dnp-state-is end is =
      is ∙ ap (λ v. draw_state_after (v % 251) three) first-is
      ∙ ap (λ s. draw_state_after (dnp_user_len x) s) begun-three
      ∙ sym (state_after-add 3 (dnp_user_len x) x)
