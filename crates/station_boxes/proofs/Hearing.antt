-- What has been heard of a burst: the bytes that name its station, and the text of its tag.
use Rattle.link_format.specs.declared.tag.Mac.{Ghosts as Mac}
use Rattle.line_rules.specs.declared.line_rules.LineRules.{Ghosts as LineRules}
use Rattle.stations.specs.Table.{table_key}
use Rattle.station_boxes.specs.Names.{byte_of, name_in, name_len}
use Rattle.station_boxes.specs.Walks.{HasHeard, StationSetup}
use Rattle.station_boxes.specs.declared.naming.Naming.{Naming}
use Rattle.station_boxes.specs.declared.naming.Naming.TheVariants.{FirstByte, Destination, Source}
use Rattle.std.proofs.Common.{◌≡◌, ◌∙◌, ℕ, ◌+◌, ◌*◌, ◌<◌, ◌≤◌, List, [], ◌∷◌, ◌++◌, length, take}
use Rattle.std.proofs.Common.{sym, ap, subst, arith, length-append, ⊎_elim}
use Rattle.std.proofs.lemmas.Bool.{cases_lt}
use Rattle.std.proofs.lemmas.List.{get_or-take, take-append-le, take_all, length-take-le}

-- There is at least one byte in a name.
pub some-name : (naming : Naming) → 1 ≤ name_len naming
some-name FirstByte = omega arith
some-name Destination = omega arith
some-name Source = omega arith

-- The station is named by the first bytes alone.
pub name-front : (naming : Naming) (x : List ℕ)
    → name_in naming (take (name_len naming) x) ≡ name_in naming x
name-front FirstByte x = get_or-take 1 x 0 0 (omega arith)
name-front Destination x =
    ap (λ b. b + 256 * byte_of (take 6 x) 5) (get_or-take 6 x 4 0 (omega arith))
    ∙ ap (λ b. byte_of x 4 + 256 * b) (get_or-take 6 x 5 0 (omega arith))
name-front Source x =
    ap (λ b. b + 256 * byte_of (take 8 x) 7) (get_or-take 8 x 6 0 (omega arith))
    ∙ ap (λ b. byte_of x 6 + 256 * b) (get_or-take 8 x 7 0 (omega arith))

-- If the front of a list is short, it is the whole list.
short-front : (n : ℕ) (live head : List ℕ) → head ≡ take n live → length head < n → live ≡ head
short-front n live head is short =
    ⊎_elim
    (λ few. sym (is ∙ take_all n live (omega arith)))
    (λ many. let long : length (take n live) ≡ n = length-take-le n live many in
    let same : length head ≡ length (take n live) = ap length is in absurd (omega arith))
    (cases_lt (length live) n)

-- If the front of a list is whole, the list is long enough for it.
long-enough : (n : ℕ) (live head : List ℕ) → head ≡ take n live → n ≤ length head
    → n ≤ length live
long-enough n live head is whole =
    ⊎_elim
    (λ few. let all : take n live ≡ live = take_all n live (omega arith) in
    let same : length head ≡ length live = ap length (is ∙ all) in absurd (omega arith))
    (λ many. many)
    (cases_lt (length live) n)

module _ {R M : Type 0} (proto : LineRules R) (macs : Mac M) (setup : StationSetup) where
  abbrev n : ℕ
  n = name_len setup.naming

  abbrev Heard : M → List ℕ → List ℕ → Type 0
  Heard mac head live = HasHeard proto macs mac head setup live

  -- Before a burst's first byte nothing is heard.
  pub hears-none : (mac : M) → Heard mac [] []
  hears-none mac = let some : 1 ≤ n = some-name setup.naming in record {
    head_is = sym (take_all n [] (omega arith));
    text_is = λ whole. absurd (omega arith);
  }

  module _ (mac : M) (head live : List ℕ) (old : Heard mac head live) (byte : ℕ) where
    -- A byte after those that name the station goes into the text.
    pub hears-more : (new : M) → n ≤ length head
        → ((key text : List ℕ) → macs.stands mac key text → macs.stands new key (text ++ byte ∷ []))
        → Heard new head (live ++ byte ∷ [])
    hears-more new full more =
        let long : n ≤ length live = long-enough n live head old.head_is full in
        let same : take n (live ++ byte ∷ []) ≡ take n live =
        take-append-le n live (byte ∷ []) long in
        let name : name_in setup.naming (live ++ byte ∷ []) ≡ name_in setup.naming live =
        sym (name-front setup.naming (live ++ byte ∷ []))
        ∙ (ap (λ x. name_in setup.naming x) same ∙ name-front setup.naming live) in
        let K : ℕ → Type 0 = λ i. macs.stands new (table_key setup.table i)
        (proto.rules.label ∷ setup.direction ∷ live ++ byte ∷ []) in
        record {
          head_is = old.head_is ∙ sym same;
          text_is = λ whole. subst K (sym name)
              (more (table_key setup.table (name_in setup.naming live))
              (proto.rules.label ∷ setup.direction ∷ live) (old.text_is long));
        }

    -- A byte before those that name the station are whole is kept.
    pub hears-kept : (new : M) (front : List ℕ) → front ≡ head ++ byte ∷ [] → length head < n
        → (n ≤ length front
        → macs.stands new (table_key setup.table (name_in setup.naming front))
        (proto.rules.label ∷ setup.direction ∷ front))
        → Heard new front (live ++ byte ∷ [])
    hears-kept new front front_is short text =
        let same : live ≡ head = short-front n live head old.head_is short in
        let is : front ≡ live ++ byte ∷ [] = front_is ∙ ap (λ x. x ++ byte ∷ []) (sym same) in
        let long : length front ≡ length head + 1 =
        ap length front_is ∙ length-append head (byte ∷ []) in
        let P : List ℕ → Type 0 = λ x. n ≤ length x
        → macs.stands new (table_key setup.table (name_in setup.naming x))
        (proto.rules.label ∷ setup.direction ∷ x) in
        record {
          head_is = sym (ap (λ x. take n x) (sym is) ∙ take_all n front (omega arith));
          text_is = subst P is text;
        }

    -- If a burst has ended before the bytes that name its station, all its bytes are kept.
    pub hears-ended : (new : M) → length head < n
        → macs.stands new (table_key setup.table (name_in setup.naming head))
        (proto.rules.label ∷ setup.direction ∷ head)
        → macs.stands new (table_key setup.table (name_in setup.naming live))
        (proto.rules.label ∷ setup.direction ∷ live)
    hears-ended new short text =
        let same : live ≡ head = short-front n live head old.head_is short in
        let P : List ℕ → Type 0 = λ x. macs.stands new
        (table_key setup.table (name_in setup.naming x))
        (proto.rules.label ∷ setup.direction ∷ x) in
        subst P (sym same) text

  -- If the bytes that name the station are whole, the text is that of the burst's bytes.
  pub hears-whole : (mac : M) (head live : List ℕ) → Heard mac head live → n ≤ length head
      → macs.stands mac (table_key setup.table (name_in setup.naming live))
      (proto.rules.label ∷ setup.direction ∷ live)
  hears-whole mac head live old whole =
      old.text_is (long-enough n live head old.head_is whole)

  -- The bytes that are kept name the station.
  pub hears-name : (mac : M) (head live : List ℕ) → Heard mac head live
      → name_in setup.naming head ≡ name_in setup.naming live
  hears-name mac head live old =
      ap (λ x. name_in setup.naming x) old.head_is ∙ name-front setup.naming live

  -- The text that the code begins, in the terms of the setup.
  pub begun-text : (naming : Naming) (direction : ℕ) (keys : ℕ → List ℕ) (mac : M) (head : List ℕ)
      → naming ≡ setup.naming → direction ≡ setup.direction
      → ((i : ℕ) → keys i ≡ table_key setup.table i)
      → macs.stands mac (keys (name_in naming head)) (proto.rules.label ∷ direction ∷ head)
      → macs.stands mac (table_key setup.table (name_in setup.naming head))
      (proto.rules.label ∷ setup.direction ∷ head)
  begun-text naming direction keys mac head naming_is direction_is keys_are text =
      let N : Naming → Type 0 = λ x. macs.stands mac (keys (name_in x head))
      (proto.rules.label ∷ direction ∷ head) in
      let D : ℕ → Type 0 = λ x. macs.stands mac (keys (name_in setup.naming head))
      (proto.rules.label ∷ x ∷ head) in
      let K : List ℕ → Type 0 = λ k. macs.stands mac k
      (proto.rules.label ∷ setup.direction ∷ head) in
      subst K (keys_are (name_in setup.naming head)) (subst D direction_is (subst N naming_is text))
