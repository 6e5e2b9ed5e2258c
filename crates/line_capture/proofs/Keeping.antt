-- What is kept of items, with one item more.
use Rattle.{line_stamps.specs.declared.capture.CaptureByte.CaptureByte, std.proofs.Common.◌≡◌}
use Rattle.std.proofs.Common.{◌∙◌, ℕ, ◌+◌, ◌-◌, ◌^◌, min, Bool, not, true, false, cond, List, [], ◌∷◌}
use Rattle.std.proofs.Common.{◌++◌, Some, None, refl, sym, ap, arith, append-nil, zero, suc, length}
use Rattle.std.proofs.{Common.take, Common.get_or, lemmas.List.Elements.filter_map-append}
use Rattle.line_stamps.specs.declared.capture.Way.TheVariants as way
use Rattle.line_capture.specs.Captures.{takes, byte_of, way_bytes, is_error, is_break}
use Rattle.line_capture.specs.Captures.{is_control_line, is_other, count_of, NoError, TakesItem}
use Rattle.line_capture.specs.Captures.{without_wrong}
use Rattle.line_capture.specs.declared.{collect.Kept.Kept, words.Ways.Ways}
use Rattle.line_stamps.specs.declared.seen.{LineEvent.LineEvent, Seen.Seen}
use Rattle.line_stamps.specs.declared.seen.Seen.TheVariants.{Byte, Event}

-- One more item is counted if it passes the test.
count_more : (such : Seen → Bool) (items : List Seen) (item : Seen)
    → count_of such (items ++ item ∷ []) ≡ count_of such items + cond (such item) 1 0
count_more such [] item = omega arith
count_more such (x ∷ items) item =
    let h = count_more such items item in omega (arith, h)

-- a count that stops at 2^64 - 1, after one more item that passes the test or doesn't
more_counted : (such : Seen → Bool) (items : List Seen) (item : Seen) (old new : ℕ)
    → such item ≡ true → old ≡ min (count_of such items) (2 ^ 64 - 1)
    → new ≡ min (old + 1) (2 ^ 64 - 1)
    → new ≡ min (count_of such (items ++ item ∷ [])) (2 ^ 64 - 1)
more_counted such items item old new is had adds =
    let all = count_more such items item in
    let one : ◌≡◌ {A = ℕ} (cond (such item) 1 0) 1 = ap (λ b. cond b 1 0) is in omega (arith, all, one, had, adds)

none_counted : (such : Seen → Bool) (items : List Seen) (item : Seen) (old : ℕ)
    → such item ≡ false → old ≡ min (count_of such items) (2 ^ 64 - 1)
    → old ≡ min (count_of such (items ++ item ∷ [])) (2 ^ 64 - 1)
none_counted such items item old is had =
    let all = count_more such items item in
    let none : ◌≡◌ {A = ℕ} (cond (such item) 1 0) 0 = ap (λ b. cond b 1 0) is in omega (arith, all, none, had)

module _ (chosen : Ways) where
  way_more : (w : _) (items : List Seen) (item : Seen)
      → way_bytes chosen w (items ++ item ∷ []) ≡ way_bytes chosen w items ++ way_bytes chosen w (item ∷ [])
  way_more w items item = filter_map-append (byte_of chosen w) items (item ∷ [])

  -- An item that isn't a byte of a way doesn't change the bytes of the way.
  way_same : (w : _) (items : List Seen) (item : Seen) → byte_of chosen w item ≡ None
      → way_bytes chosen w (items ++ item ∷ []) ≡ way_bytes chosen w items
  way_same w items item none = way_more w items item
      ∙ ap (λ l. way_bytes chosen w items ++ l) (alone none) ∙ append-nil _
    where
      alone : byte_of chosen w item ≡ None → way_bytes chosen w (item ∷ []) ≡ []
      alone none = rw none refl

  way_one : (w : _) (items : List Seen) (item : Seen) (c : CaptureByte)
      → byte_of chosen w item ≡ Some c
      → way_bytes chosen w (items ++ item ∷ []) ≡ way_bytes chosen w items ++ c ∷ []
  way_one w items item c some = way_more w items item
      ∙ ap (λ l. way_bytes chosen w items ++ l) (alone some)
    where
      alone : byte_of chosen w item ≡ Some c → way_bytes chosen w (item ∷ []) ≡ c ∷ []
      alone some = rw some refl

  -- An event is taken by setting the counts to these values, if they are right with it.
  pub takes_event : (old : Kept) (e : LineEvent) (breaks lines : ℕ)
      → ((items : List Seen) → old.breaks ≡ min (count_of is_break items) (2 ^ 64 - 1)
      → breaks ≡ min (count_of is_break (items ++ Event e ∷ [])) (2 ^ 64 - 1))
      → ((items : List Seen) → old.control_lines ≡ min (count_of is_control_line items) (2 ^ 64 - 1)
      → lines ≡ min (count_of is_control_line (items ++ Event e ∷ [])) (2 ^ 64 - 1))
      → TakesItem chosen old (record old { breaks = breaks; control_lines = lines }) (Event e)
  takes_event old e breaks lines b l = λ items had. record {
    a_is = had.a_is ∙ sym (way_same way.A items (Event e) refl);
    b_is = had.b_is ∙ sym (way_same way.B items (Event e) refl);
    breaks_are = b items had.breaks_are;
    lines_are = l items had.lines_are;
    others_are = none_counted (is_other chosen) items (Event e) old.others refl had.others_are;
  }

pub event_counted : (such : Seen → Bool) (e : LineEvent) (old new : ℕ) → such (Event e) ≡ true
    → new ≡ min (old + 1) (2 ^ 64 - 1) → (items : List Seen)
    → old ≡ min (count_of such items) (2 ^ 64 - 1)
    → new ≡ min (count_of such (items ++ Event e ∷ [])) (2 ^ 64 - 1)
event_counted such e old new is adds items had = more_counted such items (Event e) old new is had adds

pub event_passed : (such : Seen → Bool) (e : LineEvent) (old : ℕ) → such (Event e) ≡ false
    → (items : List Seen) → old ≡ min (count_of such items) (2 ^ 64 - 1)
    → old ≡ min (count_of such (items ++ Event e ∷ [])) (2 ^ 64 - 1)
event_passed such e old is items had = none_counted such items (Event e) old is had

module _ (chosen : Ways) (old : Kept) (c : CaptureByte) where
  -- A byte of a way that isn't taken is counted.
  pub passes_byte : (others : ℕ) → takes chosen c.way ≡ false
      → others ≡ min (old.others + 1) (2 ^ 64 - 1)
      → TakesItem chosen old (record old { others = others }) (Byte c)
  passes_byte others other adds = λ items had. record {
    a_is = had.a_is ∙ sym (way_same chosen way.A items (Byte c) (none way.A));
    b_is = had.b_is ∙ sym (way_same chosen way.B items (Byte c) (none way.B));
    breaks_are = none_counted is_break items (Byte c) old.breaks refl had.breaks_are;
    lines_are = none_counted is_control_line items (Byte c) old.control_lines refl had.lines_are;
    others_are = more_counted (is_other chosen) items (Byte c) old.others others (ap not other)
        had.others_are adds;
  }
    where
      none : (w : _) → byte_of chosen w (Byte c) ≡ None
      none w = rw other refl

  pub takes_a : (new : Kept) → takes chosen c.way ≡ true → c.way ≡ way.A
      → new.b.items ≡ old.b.items → new.breaks ≡ old.breaks → new.control_lines ≡ old.control_lines
      → new.others ≡ old.others → new.a.items ≡ old.a.items ++ c ∷ []
      → TakesItem chosen old new (Byte c)
  takes_a new taken is b breaks lines others more = λ items had. record {
    a_is = more ∙ ap (λ l. l ++ c ∷ []) had.a_is
        ∙ sym (way_one chosen way.A items (Byte c) c (rw taken (rw is refl)));
    b_is = b ∙ had.b_is ∙ sym (way_same chosen way.B items (Byte c) (rw taken (rw is refl)));
    breaks_are = none_counted is_break items (Byte c) new.breaks refl (breaks ∙ had.breaks_are);
    lines_are = none_counted is_control_line items (Byte c) new.control_lines refl
        (lines ∙ had.lines_are);
    others_are = none_counted (is_other chosen) items (Byte c) new.others (ap not taken)
        (others ∙ had.others_are);
  }

  pub takes_b : (new : Kept) → takes chosen c.way ≡ true → c.way ≡ way.B
      → new.a.items ≡ old.a.items → new.breaks ≡ old.breaks → new.control_lines ≡ old.control_lines
      → new.others ≡ old.others → new.b.items ≡ old.b.items ++ c ∷ []
      → TakesItem chosen old new (Byte c)
  takes_b new taken is a breaks lines others more = λ items had. record {
    a_is = a ∙ had.a_is ∙ sym (way_same chosen way.A items (Byte c) (rw taken (rw is refl)));
    b_is = more ∙ ap (λ l. l ++ c ∷ []) had.b_is
        ∙ sym (way_one chosen way.B items (Byte c) c (rw taken (rw is refl)));
    breaks_are = none_counted is_break items (Byte c) new.breaks refl (breaks ∙ had.breaks_are);
    lines_are = none_counted is_control_line items (Byte c) new.control_lines refl
        (lines ∙ had.lines_are);
    others_are = none_counted (is_other chosen) items (Byte c) new.others (ap not taken)
        (others ∙ had.others_are);
  }

-- Items without an error, and one more that isn't an error, have no error.
pub right_more : (items : List Seen) (item : Seen) → NoError items → is_error item ≡ false
    → NoError (items ++ item ∷ [])
right_more [] item right is = (is, tt)
right_more (x ∷ items) item right is = (right.0, right_more items item right.1 is)

-- If the last byte is wrong, `without_wrong` leaves the others.
pub last_wrong : (wrong : CaptureByte → Bool) (bytes : List CaptureByte) (i : ℕ) (d : CaptureByte)
    → length bytes ≡ suc i → wrong (get_or bytes i d) ≡ true
    → take i bytes ≡ without_wrong wrong bytes
last_wrong wrong [] i d long is = cc
last_wrong wrong (x ∷ []) zero d long is = rw is refl
last_wrong wrong (x ∷ []) (suc i) d long is = absurd (omega arith)
last_wrong wrong (x ∷ y ∷ bytes) zero d long is = absurd (omega arith)
last_wrong wrong (x ∷ y ∷ bytes) (suc i) d long is =
    ap (λ l. x ∷ l) (last_wrong wrong (y ∷ bytes) i d (omega arith) is)

-- If the last byte isn't wrong, `without_wrong` leaves all bytes.
pub last_right : (wrong : CaptureByte → Bool) (bytes : List CaptureByte) (i : ℕ) (d : CaptureByte)
    → length bytes ≡ suc i → wrong (get_or bytes i d) ≡ false
    → bytes ≡ without_wrong wrong bytes
last_right wrong [] i d long is = cc
last_right wrong (x ∷ []) zero d long is = rw is refl
last_right wrong (x ∷ []) (suc i) d long is = absurd (omega arith)
last_right wrong (x ∷ y ∷ bytes) zero d long is = absurd (omega arith)
last_right wrong (x ∷ y ∷ bytes) (suc i) d long is =
    ap (λ l. x ∷ l) (last_right wrong (y ∷ bytes) i d (omega arith) is)
