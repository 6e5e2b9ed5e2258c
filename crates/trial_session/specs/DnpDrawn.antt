-- The frames of the DNP3 link layer that are drawn: the first draw says how many bytes of user data
-- there are, the next two give destination and source, and each one after them a byte of user data.
use Rattle.std.specs.Prelude.{ℕ, ◌+◌, ◌%◌, List}
use Rattle.dnp_link_frame.specs.Frame.{frame_of}
use Rattle.dnp_link_frame.specs.declared.header.Header.{Header}
use Rattle.trial_session.specs.Draws.{draw_state_after, nth_drawn, bytes_drawn}
use Rattle.trial_session.specs.DrawnFrames.{Drawing}

-- how many bytes of user data: 0 to 250
abbrev pub dnp_user_len : ℕ → ℕ
dnp_user_len x = nth_drawn 1 x % 251

-- the header, whose control byte says: from the master, unconfirmed user data
abbrev pub drawn_dnp_header : ℕ → Header
drawn_dnp_header x = record {
  control = 0xC4;
  destination = nth_drawn 2 x % 65536;
  source = nth_drawn 3 x % 65536;
}

-- the user data, drawn after the first three draws
abbrev pub dnp_user : ℕ → List ℕ
dnp_user x = bytes_drawn (dnp_user_len x) (draw_state_after 3 x)

-- how a frame of DNP3 is drawn
abbrev pub dnp_drawing : Drawing
dnp_drawing = record {
  frame = λ x. frame_of (drawn_dnp_header x) (dnp_user x);
  draws = λ x. 3 + dnp_user_len x;
}
