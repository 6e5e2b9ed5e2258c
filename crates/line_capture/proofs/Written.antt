-- The texts of lines in the output, and what was counted in the log.
use Rattle.line_capture.specs.Placed.{PlacedIsFront, WrittenLine, WrittenPart}
use Rattle.line_capture.specs.Takes.{mark_of, WrittenLines, WrittenFront}
use Rattle.line_capture.specs.declared.{collect.Kept.Kept, placing.LineEnd.LineEnd, words.Ways.Ways}
use Rattle.line_stamps.specs.{Places.line_of_places, declared.capture.CaptureByte.CaptureByte}
use Rattle.{line_stamps.specs.declared.timing.Timing.Timing, yasir_io.proofs.OutputLemmas.prefix_of_more}
use Rattle.line_texts.{proofs.Sending.always_on_ok, specs.Sending.HaveCause}
use Rattle.std.proofs.Common.{◌≡◌, ◌∙◌, ℕ, inl, List, [], ◌++◌, Option, Result, Ok, refl, sym, ap}
use Rattle.std.proofs.Common.{subst, arith, append_assoc, append-nil}
use Rattle.std.{proofs.lemmas.Result.on_err_weaker, specs.Io.KnownBytes.append_known}
use Rattle.yasir_io.proofs.OutputLemmas.{append_known-nil, append_known-twice}
use Rattle.yasir_io.specs.{Causes.HasCause, Output.GotPrefix}
use Rattle.yasir_ticks.specs.CanonicalText.{canonical_text}

-- ---- a text after another one

pub prefix_behind : (a b c : Option (List ℕ)) (x y : List ℕ) → b ≡ append_known a x
    → GotPrefix b c y → GotPrefix a c (x ++ y)
prefix_behind a b c x y is p = record {
  front = x ++ p.front;
  rest = p.rest;
  got = p.got ∙ ap (λ known. append_known known p.front) is ∙ append_known-twice a x p.front;
  all = ap (λ l. x ++ l) p.all ∙ sym (append_assoc x p.front p.rest);
}

pub all_got : (a b : Option (List ℕ)) (x : List ℕ) → b ≡ append_known a x → GotPrefix a b x
all_got a b x is = record { front = x; rest = []; got = is; all = sym (append-nil x) }

pub none_got : (a : Option (List ℕ)) (x : List ℕ) → GotPrefix a a x
none_got a x = record { front = []; rest = x; got = sym (append_known-nil a); all = refl }

pub got_three : (a b c d : Option (List ℕ)) (x y z : List ℕ) → b ≡ append_known a x
    → c ≡ append_known b y → d ≡ append_known c z → d ≡ append_known a (x ++ (y ++ z))
got_three a b c d x y z first second third =
    third ∙ ap (λ known. append_known known z) (second ∙ ap (λ known. append_known known y) first
    ∙ append_known-twice a x y) ∙ append_known-twice a (x ++ y) z
    ∙ ap (append_known a) (append_assoc x y z)

-- ---- the lines of both ways

module _ (t : Timing) (ways : Ways) (kept : Kept) where
  no_front : (cs : List CaptureByte) → PlacedIsFront t cs [] cs
  no_front cs = record { is = refl; placed = tt; few = omega arith }

  pub first_line_fails : (before now : Option (List ℕ)) → WrittenPart t kept.a.items before now
      → WrittenFront t ways kept before now
  first_line_fails before now part = record {
    front_a = part.front;
    rest_a = part.rest;
    a_is_front = part.is_front;
    a = part.ticks;
    later_a = part.later;
    a_are = part.are;
    front_b = [];
    rest_b = kept.b.items;
    b_is_front = no_front kept.b.items;
    b = [];
    later_b = [];
    b_are = refl;
    got = prefix_of_more before now (canonical_text part.ticks) (mark_of ways ++ canonical_text [])
        part.got;
  }

  pub mark_fails : (before mid now : Option (List ℕ)) (end : LineEnd)
      → WrittenLine t kept.a.items before mid end → GotPrefix mid now (mark_of ways)
      → WrittenFront t ways kept before now
  mark_fails before mid now end line got = record {
    front_a = line.front;
    rest_a = line.rest;
    a_is_front = line.is_front;
    a = line_of_places t line.front;
    later_a = [];
    a_are = sym (append-nil _);
    front_b = [];
    rest_b = kept.b.items;
    b_is_front = no_front kept.b.items;
    b = [];
    later_b = [];
    b_are = refl;
    got = prefix_behind before mid now (canonical_text (line_of_places t line.front))
        (mark_of ways ++ canonical_text []) line.text
        (prefix_of_more mid now (mark_of ways) (canonical_text []) got);
  }

  pub second_line_fails : (before mid marked now : Option (List ℕ)) (end : LineEnd)
      → WrittenLine t kept.a.items before mid end → marked ≡ append_known mid (mark_of ways)
      → WrittenPart t kept.b.items marked now → WrittenFront t ways kept before now
  second_line_fails before mid marked now end line mark part = record {
    front_a = line.front;
    rest_a = line.rest;
    a_is_front = line.is_front;
    a = line_of_places t line.front;
    later_a = [];
    a_are = sym (append-nil _);
    front_b = part.front;
    rest_b = part.rest;
    b_is_front = part.is_front;
    b = part.ticks;
    later_b = part.later;
    b_are = part.are;
    got = prefix_behind before mid now (canonical_text (line_of_places t line.front))
        (mark_of ways ++ canonical_text part.ticks) line.text
        (prefix_behind mid marked now (mark_of ways) (canonical_text part.ticks) mark part.got);
  }

  pub both_lines : (before mid marked now : Option (List ℕ)) (a b : LineEnd)
      → WrittenLine t kept.a.items before mid a → marked ≡ append_known mid (mark_of ways)
      → WrittenLine t kept.b.items marked now b → WrittenLines t ways kept before now a b
  both_lines before mid marked now a b line mark other = record {
    a = line_of_places t line.front;
    b = line_of_places t other.front;
    places = record {
      front_a = line.front;
      rest_a = line.rest;
      a_is_front = line.is_front;
      a_stop = line.stop;
      a_is = refl;
      front_b = other.front;
      rest_b = other.rest;
      b_is_front = other.is_front;
      b_stop = other.stop;
      b_is = refl;
      a_placed = line.placed;
      b_placed = other.placed;
    };
    text = got_three before mid marked now (canonical_text (line_of_places t line.front)) (mark_of ways)
        (canonical_text (line_of_places t other.front)) line.text mark other.text;
  }

  -- If whole lines were written, a front of them was.
  pub lines_front : (before now : Option (List ℕ)) (a b : LineEnd)
      → WrittenLines t ways kept before now a b → WrittenFront t ways kept before now
  lines_front before now a b lines = record {
    front_a = lines.places.front_a;
    rest_a = lines.places.rest_a;
    a_is_front = lines.places.a_is_front;
    a = lines.a;
    later_a = [];
    a_are = sym lines.places.a_is ∙ sym (append-nil _);
    front_b = lines.places.front_b;
    rest_b = lines.places.rest_b;
    b_is_front = lines.places.b_is_front;
    b = lines.b;
    later_b = [];
    b_are = sym lines.places.b_is ∙ sym (append-nil _);
    got = all_got before now _ lines.text;
  }

-- ---- causes

pub cause_then : {T U E : Type 0} (x : T) (o0 o1 o2 l0 l1 l2 : ℕ) (r : Result U E)
    → HaveCause {T = T} {E = E} o0 o1 l0 l1 (Ok x) → HaveCause o1 o2 l1 l2 r → HaveCause o0 o2 l0 l2 r
cause_then x o0 o1 o2 l0 l1 l2 r first second =
    subst (λ n. HaveCause n o2 l0 l2 r) first.out_same
    (subst (λ n. HaveCause o1 o2 n l2 r) first.log_same second)

pub cause_of_out : {T E : Type 0} (o0 o1 l : ℕ) (r : Result T E) → HasCause o0 o1 r
    → HaveCause o0 o1 l l r
cause_of_out o0 o1 l r h = record {
  out_never_falls = h.never_falls;
  log_never_falls = omega arith;
  failed = on_err_weaker r (λ rose. inl rose) h.failed;
  out_same = h.same;
  log_same = always_on_ok r refl;
}
