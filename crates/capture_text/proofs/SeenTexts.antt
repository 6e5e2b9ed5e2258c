-- A text capture as a list of items, one for each of its bytes.
use Rattle.line_stamps.specs.Walks.{HaveFirst, WalkBegins, WalkBeginsNone}
use Rattle.capture_text.specs.{CaptureText.IsTextCapture, Reader.IsSeenText}
use Rattle.line_stamps.specs.declared.capture.CaptureByte.{CaptureByte}
use Rattle.line_stamps.specs.declared.seen.Seen.{Seen, TheVariants.Byte, TheVariants.Event}
use Rattle.std.proofs.Common.{◌≡◌, ◌∙◌, ℕ, List, [], ◌∷◌, ◌++◌, map, Option, Some, None, refl, ap}
use Rattle.std.proofs.Common.{append_assoc, sym, option_map}
use Rattle.std.{proofs.lemmas.List.append_cancel_left, specs.Option.option_to_list}

pub seen-append : (first second : List CaptureByte) → map Byte (first ++ second)
    ≡ map Byte first ++ map Byte second
seen-append [] second = refl
seen-append (byte ∷ first) second = ap (λ x. Byte byte ∷ x) (seen-append first second)

pub seen-one : (byte : Option CaptureByte) → map Byte (option_to_list byte)
    ≡ option_to_list (option_map Byte byte)
seen-one (Some byte) = refl
seen-one None = refl

-- these bytes and one more, as items
pub seen_more : (bytes : List CaptureByte) (byte : Option CaptureByte) (items : List Seen)
    → items ≡ map Byte bytes
    → items ++ option_to_list (option_map Byte byte) ≡ map Byte (bytes ++ option_to_list byte)
seen_more bytes byte items e =
    ap (λ x. x ++ option_to_list (option_map Byte byte)) e
    ∙ ap (λ x. map Byte bytes ++ x) (sym (seen-one byte))
    ∙ sym (seen-append bytes (option_to_list byte))

-- Each right text that begins with this text has these items first.
pub seen_each : (text : List ℕ) (bytes : List CaptureByte) (items : List Seen)
    → WalkBegins IsTextCapture text bytes → items ≡ map Byte bytes → HaveFirst IsSeenText text items
seen_each text bytes items begins e = λ more all whole.
    let goes_on = begins.each more whole.bytes whole.right in (
      map Byte goes_on.0,
      whole.items_are ∙ ap (map Byte) goes_on.1 ∙ seen-append bytes goes_on.0
          ∙ ap (λ x. x ++ map Byte goes_on.0) (sym e),
    )

-- the bytes among items
abbrev bytes_in : List Seen → List CaptureByte
bytes_in [] = []
bytes_in (Byte c ∷ items) = c ∷ bytes_in items
bytes_in (Event e ∷ items) = bytes_in items

bytes_in-append : (first second : List Seen)
    → bytes_in (first ++ second) ≡ bytes_in first ++ bytes_in second
bytes_in-append [] second = refl
bytes_in-append (Byte c ∷ first) second = ap (λ x. c ∷ x) (bytes_in-append first second)
bytes_in-append (Event e ∷ first) second = bytes_in-append first second

bytes_in-map : (bytes : List CaptureByte) → bytes_in (map Byte bytes) ≡ bytes
bytes_in-map [] = refl
bytes_in-map (c ∷ bytes) = ap (λ x. c ∷ x) (bytes_in-map bytes)

-- Items that come first among bytes are bytes.
are_bytes : (all : List CaptureByte) (first others : List Seen) → map Byte all ≡ first ++ others
    → first ≡ map Byte (bytes_in first)
are_bytes all [] others e = refl
are_bytes [] (i ∷ first) others e = cc
are_bytes (c ∷ all) (Byte d ∷ first) others e =
    ap (λ x. Byte d ∷ x) (are_bytes all first others (ap behind e))
  where
    behind : List Seen → List Seen
    behind [] = []
    behind (i ∷ items) = items
are_bytes (c ∷ all) (Event v ∷ first) others e = cc

-- No more items come first in each right text that begins with this text.
no_further : (text : List ℕ) (bytes : List CaptureByte) (items : List Seen)
    → WalkBegins IsTextCapture text bytes → items ≡ map Byte bytes → (further : List Seen)
    → HaveFirst IsSeenText text (items ++ further) → further ≡ []
no_further text bytes items begins e further first =
    let one = first begins.more (map Byte (bytes ++ begins.others)) (record {
      bytes = bytes ++ begins.others;
      right = begins.right;
      items_are = refl;
    }) in
    let behind : map Byte begins.others ≡ further ++ one.0 =
    append_cancel_left (map Byte bytes) (map Byte begins.others) (further ++ one.0)
    (sym (seen-append bytes begins.others) ∙ one.1 ∙ append_assoc items further one.0
    ∙ ap (λ x. x ++ (further ++ one.0)) e) in
    are_bytes begins.others further one.0 behind
    ∙ ap (map Byte) (begins.no_more (bytes_in further) (λ more all r.
    let came = first more (map Byte all) (record { bytes = all; right = r; items_are = refl }) in (
      bytes_in came.0,
      sym (bytes_in-map all) ∙ ap bytes_in came.1 ∙ bytes_in-append (items ++ further) came.0
          ∙ ap (λ x. x ++ bytes_in came.0) (bytes_in-append items further
          ∙ ap (λ x. x ++ bytes_in further) (ap bytes_in e ∙ bytes_in-map bytes)),
    )))

-- A text begins a capture with the same items as with its bytes.
pub seen_begins : (text : List ℕ) (bytes : List CaptureByte) (items : List Seen)
    → WalkBegins IsTextCapture text bytes → items ≡ map Byte bytes → WalkBegins IsSeenText text items
seen_begins text bytes items begins e = record {
  more = begins.more;
  others = map Byte begins.others;
  right = record {
    bytes = bytes ++ begins.others;
    right = begins.right;
    items_are = ap (λ x. x ++ map Byte begins.others) e ∙ sym (seen-append bytes begins.others);
  };
  each = seen_each text bytes items begins e;
  no_more = no_further text bytes items begins e;
}

pub seen_none : (text : List ℕ) → WalkBeginsNone IsTextCapture text → WalkBeginsNone IsSeenText text
seen_none text none = λ more items whole. none more whole.bytes whole.right
