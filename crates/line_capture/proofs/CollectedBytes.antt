-- A capture, collected byte by byte.
use Rattle.line_capture.{proofs.Keeping.right_more, specs.Captures.TakesItem}
use Rattle.line_capture.specs.Captures.{CaptureIsRefused, Collects, EndsSo, TakesItems, is_error}
use Rattle.line_capture.specs.Captures.CaptureIsRefused.{at_byte, at_error, at_end}
use Rattle.line_capture.specs.Collecting.{Collecting, StopsNext}
use Rattle.line_capture.specs.Collecting.StopsNext.{refused, in_error}
use Rattle.line_capture.specs.declared.bad_capture.BadCapture.{BadCapture}
use Rattle.line_capture.specs.declared.collect.CaptureEnd.{CaptureEnd}
use Rattle.line_capture.specs.declared.collect.CaptureEnd.TheVariants.{Whole, Open, Bad}
use Rattle.line_capture.specs.declared.{collect.Kept.Kept, reader.FormReader.Ghosts as FormReader}
use Rattle.line_capture.specs.declared.take.Taking.{Taking}
use Rattle.line_stamps.specs.declared.seen.Seen.{Seen}
use Rattle.std.proofs.Common.{◌≡◌, ◌∙◌, ℕ, ◌+◌, ◌<◌, List, [], ◌∷◌, ◌++◌, Bool, true, false, length}
use Rattle.std.proofs.Common.{take, drop, get_or, suc, sym, ap, subst, append-nil, arith}
use Rattle.std.proofs.{Common.append_assoc, Math.Seq.drop-cons}
use Rattle.std.proofs.lemmas.List.{take-append-drop, take_more, length-take}

-- a list, divided at one of its items
pub item_parts : {X : Type 0} (xs : List X) (i : ℕ) (d : X) → i < length xs
    → xs ≡ take i xs ++ get_or xs i d ∷ drop (suc i) xs
item_parts xs i d within =
    sym (take-append-drop i xs) ∙ ap (λ l. take i xs ++ l) (drop-cons xs i d within)

pub item_front : {X : Type 0} (xs : List X) (i : ℕ) (d : X) → i < length xs
    → xs ≡ (take i xs ++ get_or xs i d ∷ []) ++ drop (suc i) xs
item_front xs i d within = item_parts xs i d within
    ∙ sym (append_assoc (take i xs) (get_or xs i d ∷ []) (drop (suc i) xs))

pub length-front : {X : Type 0} (xs : List X) (i n : ℕ) → i < length xs → n ≡ i
    → n ≡ length (take i xs)
length-front xs i n within is = let h = length-take i xs in omega (arith, h, is, within)

module _ {F : Type 0} (f : FormReader F) (taking : Taking) where
  pub collects_none : (reader new : F) (kept : Kept) (file next : List ℕ)
      (so_far : Collecting f taking reader kept file) → f.stands new next (so_far.items ++ [])
      → f.format.begins next (so_far.items ++ []) → Collecting f taking new kept next
  collects_none reader new kept file next so_far stands begins = record {
    items = so_far.items;
    stands = subst (f.stands new next) (append-nil so_far.items) stands;
    begins = subst (f.format.begins next) (append-nil so_far.items) begins;
    holds = so_far.holds;
    right = so_far.right;
  }

  pub collects_one : (reader new : F) (kept more : Kept) (item : Seen) (file next : List ℕ)
      (so_far : Collecting f taking reader kept file)
      → f.stands new next (so_far.items ++ item ∷ [])
      → f.format.begins next (so_far.items ++ item ∷ []) → TakesItem taking.ways kept more item
      → is_error item ≡ false → Collecting f taking new more next
  collects_one reader new kept more item file next so_far stands begins takes right = record {
    items = so_far.items ++ item ∷ [];
    stands = stands;
    begins = begins;
    holds = takes so_far.items so_far.holds;
    right = right_more so_far.items item so_far.right right;
  }

  pub collects_refused : (reader : F) (kept : Kept) (file : List ℕ) (b : ℕ) (bad : BadCapture)
      (so_far : Collecting f taking reader kept file)
      → f.format.refuses file so_far.items b bad → StopsNext f taking kept file b bad
  collects_refused reader kept file b bad so_far refuses = refused (record {
    items = so_far.items;
    begins = so_far.begins;
    holds = so_far.holds;
    right = so_far.right;
    refused = refuses;
  })

  -- ---- over a whole file

  pub collects_more : (reader : F) (kept : Kept) (file : List ℕ) (i d : ℕ) → i < length file
      → Collecting f taking reader kept (take i file ++ get_or file i d ∷ [])
      → Collecting f taking reader kept (take (i + 1) file)
  collects_more reader kept file i d within so_far =
      subst (Collecting f taking reader kept) (sym (take_more file i d within)) so_far

  pub stops_at : (whole : Bool) (kept : Kept) (file : List ℕ) (i d : ℕ) (bad : BadCapture)
      → i < length file → StopsNext f taking kept (take i file) (get_or file i d) bad
      → CaptureIsRefused f.format taking whole file kept bad
  stops_at whole kept file i d bad within (refused at) = at_byte (record {
    front = take i file;
    byte = get_or file i d;
    more = drop (suc i) file;
    is = item_parts file i d within;
    items = at.items;
    begins = at.begins;
    holds = at.holds;
    right = at.right;
    refused = at.refused;
  })
  stops_at whole kept file i d bad within (in_error at) = at_error (record {
    front = take i file;
    byte = get_or file i d;
    more = drop (suc i) file;
    is = item_parts file i d within;
    items = at.items;
    error = at.error;
    holds = at.holds;
    right = at.right;
    begins = at.begins;
    wrong = at.wrong;
    bad_is = at.bad_is;
  })

  pub taken_items : (reader : F) (kept : Kept) (front file : List ℕ) → front ≡ file
      → Collecting f taking reader kept front → TakesItems f.format taking.ways file kept
  taken_items reader kept front file is so_far = record {
    items = so_far.items;
    begins = subst (λ l. f.format.begins l so_far.items) is so_far.begins;
    holds = so_far.holds;
    right = so_far.right;
  }

  pub ends_whole : (reader : F) (kept : Kept) (front file : List ℕ) (whole : Bool) (end : CaptureEnd)
      → front ≡ file → whole ≡ true → (so_far : Collecting f taking reader kept front)
      → EndsSo f.format front so_far.items end → Collects f.format taking whole file kept end
  ends_whole reader kept front file whole Whole is all so_far ends = (
    all,
    record {
      items = so_far.items;
      is = subst (λ l. f.format.is l so_far.items) is ends;
      holds = so_far.holds;
      right = so_far.right;
    },
  )
  ends_whole reader kept front file whole Open is all so_far ends = absurd ends
  ends_whole reader kept front file whole (Bad bad) is all so_far ends = at_end all (record {
    taken = record {
      items = so_far.items;
      begins = subst (λ l. f.format.begins l so_far.items) is so_far.begins;
      holds = so_far.holds;
      right = so_far.right;
    };
    lacks = subst (λ l. f.format.lacks l so_far.items bad) is ends;
  })
