-- What a packet so far is at each place of its reader, and after one more field or byte.
use Rattle.line_stamps.proofs.{FieldLaws.field_walk, FieldLaws.single_walk, WalkLaws.walk-join}
use Rattle.line_stamps.specs.{Fields.Spot, Fields.before_field, Fields.spot_step, Walks.walk}
use Rattle.capture_pcap.specs.BodyStep.{takes_data, data_of, body_event, body_field_at}
use Rattle.capture_pcap.specs.BodyStep.{body_byte_at, body_or}
use Rattle.capture_pcap.specs.Record.{IsRecord, event_way, seen_byte, seen_bytes, seen_data}
use Rattle.capture_pcap.specs.{Record.seen_event, declared.body.Body.Body}
use Rattle.capture_pcap.specs.declared.body.Body.TheVariants.{Seconds, Fraction, Event, Data}
use Rattle.line_stamps.specs.declared.{capture.Way.Way, seen.Seen.Seen}
use Rattle.std.proofs.Common.{◌≡◌, ◌∙◌, ℕ, ◌+◌, ◌-◌, ◌<◌, nat_lt, Bool, true, false, List, [], ◌∷◌}
use Rattle.std.proofs.Common.{◌++◌, length, Option, Some, None, Result, Ok, refl, ap, sym, arith}
use Rattle.std.proofs.Common.{append_assoc, append-nil, lt-ltb, slice_index, option_map}
use Rattle.std.proofs.lemmas.{Bool.ltb-true, Bool.ltb-false, Bool.cond_both, List.length-append}
use Rattle.std.specs.Option.{option_to_list}

-- ---- what is seen of data

seen_data-none : (start : ℕ) (way : Option Way) (first : Bool) → seen_data start way first [] ≡ []
seen_data-none start (Some way) first = refl
seen_data-none start None first = refl

-- whether the byte after these is the first one
abbrev pub first_behind : Bool → List ℕ → Bool
first_behind first [] = first
first_behind first (b ∷ bytes) = false

seen_bytes-more : (start : ℕ) (way : Way) (first : Bool) (bytes : List ℕ) (b : ℕ)
    → seen_bytes start way first bytes ++ seen_byte start way (first_behind first bytes) b ∷ []
    ≡ seen_bytes start way first (bytes ++ b ∷ [])
seen_bytes-more start way first (c ∷ d ∷ bytes) b =
    ap (λ x. seen_byte start way first c ∷ x) (seen_bytes-more start way false (d ∷ bytes) b)
seen_bytes-more start way first bytes b = refl

seen_data-more : (start : ℕ) (way : Option Way) (first : Bool) (bytes : List ℕ) (b : ℕ)
    → seen_data start way first bytes
    ++ option_to_list (option_map (λ w. seen_byte start w (first_behind first bytes) b) way)
    ≡ seen_data start way first (bytes ++ b ∷ [])
seen_data-more start (Some way) first bytes b = seen_bytes-more start way first bytes b
seen_data-more start None first bytes b = refl

-- ---- what a packet so far is

pub record HasPayload (start count left : ℕ) (way : Option Way) (first : Bool) (bytes : List ℕ)
    (items : List Seen) : Type 0 where
  pub seconds : List ℕ
  pub microseconds : List ℕ
  pub event : ℕ
  pub others : List ℕ
  pub front : List ℕ
  pub is : bytes ≡ ((seconds ++ microseconds) ++ event ∷ others) ++ front
  pub seconds_long : length seconds ≡ 4
  pub microseconds_long : length microseconds ≡ 4
  pub others_long : length others ≡ 3
  pub left_is : length front + left ≡ count
  pub some : 0 < left
  pub way_is : way ≡ event_way event
  pub first_is : first ≡ first_behind true front
  pub items_are : items ≡ option_to_list (seen_event start event count (event_way event))
      ++ seen_data start (event_way event) true front

-- what the bytes of a packet after its header are so far, if its reader is at this place
pub data AtBody (start count : ℕ) : Body → List ℕ → List Seen → Type 0 where
  seconds : AtBody start count (Seconds start count) [] []
  fraction : (stamp : List ℕ) → length stamp ≡ 4
      → AtBody start count (Fraction start count) stamp []
  event : (stamp more : List ℕ) → length stamp ≡ 4 → length more ≡ 4
      → AtBody start count (Event start count) (stamp ++ more) []
  payload : (left : ℕ) (way : Option Way) (first : Bool) (bytes : List ℕ) (items : List Seen)
      → HasPayload start count left way first bytes items
      → AtBody start count (Data start left way first) bytes items

-- what the bytes of a packet are so far, if this comes next: all of it, if nothing does
abbrev pub BodyGoes : ℕ → ℕ → List ℕ → List Seen → Option Body → Type 0
BodyGoes start count bytes items (Some body) = AtBody start count body bytes items
BodyGoes start count bytes items None = IsRecord start count bytes items

data_goes : (start count left : ℕ) (way : Option Way) (first : Bool) (bytes : List ℕ)
    (items : List Seen)
    → (0 < left → HasPayload start count left way first bytes items)
    → (left ≡ 0 → IsRecord start count bytes items)
    → BodyGoes start count bytes items (data_of start left way first)
data_goes start count left way first bytes items some none =
    cond_both (nat_lt 0 left) (Some (Data start left way first)) None
    (BodyGoes start count bytes items)
    (λ e. payload left way first bytes items (some (ltb-true 0 left e)))
    (λ e. none (omega (arith, ltb-false 0 left e)))

event_goes : (start count : ℕ) (stamp more : List ℕ) (e : ℕ) (others : List ℕ)
    → length stamp ≡ 4 → length more ≡ 4 → length others ≡ 3
    → BodyGoes start count ((stamp ++ more) ++ e ∷ others)
    (option_to_list (seen_event start e count (event_way e))) (data_of start count (event_way e)
    true)
event_goes start count stamp more e others stamp_long more_long others_long =
    let seen : List Seen = option_to_list (seen_event start e count (event_way e)) in
    let whole : seen ≡ seen ++ seen_data start (event_way e) true [] =
    sym (append-nil seen) ∙ ap (λ x. seen ++ x) (sym (seen_data-none start (event_way e) true))
    in
    data_goes start count count (event_way e) true ((stamp ++ more) ++ e ∷ others) seen
    (λ some. record {
      seconds = stamp;
      microseconds = more;
      event = e;
      others = others;
      front = [];
      is = sym (append-nil ((stamp ++ more) ++ e ∷ others));
      seconds_long = stamp_long;
      microseconds_long = more_long;
      others_long = others_long;
      left_is = omega arith;
      some = some;
      way_is = refl;
      first_is = refl;
      items_are = whole;
    })
    (λ none. record {
      seconds = stamp;
      microseconds = more;
      event = e;
      others = others;
      payload = [];
      is = sym (append-nil ((stamp ++ more) ++ e ∷ others));
      seconds_long = stamp_long;
      microseconds_long = more_long;
      others_long = others_long;
      payload_long = omega (arith, none);
      items_are = whole ∙ ap (λ n. option_to_list (seen_event start e n (event_way e))
          ++ seen_data start (event_way e) true []) none;
    })

field_of_event : (start count : ℕ) (stamp more field : List ℕ) → length stamp ≡ 4
    → length more ≡ 4 → length field ≡ 4 → BodyGoes start count ((stamp ++ more) ++ field)
    (option_to_list (body_event start count (slice_index field 0)).1)
    (body_event start count (slice_index field 0)).0
field_of_event start count stamp more [] long long_more four = absurd (omega arith)
field_of_event start count stamp more (e ∷ others) long long_more four =
    event_goes start count stamp more e others long long_more (omega arith)

-- A field of a packet leads to what comes next.
pub body_field_goes : (start count : ℕ) (body : Body) (front field : List ℕ) (items : List Seen)
    → AtBody start count body front items → takes_data body ≡ false → length field ≡ 4
    → BodyGoes start count (front ++ field)
    (items ++ option_to_list (body_field_at body field).1) (body_field_at body field).0
unfolding body_field_at
body_field_goes start count body front field items seconds h four = fraction field four
body_field_goes start count body front field items (fraction stamp long) h four =
    event stamp field long four
body_field_goes start count body front field items (event stamp more long long_more) h four =
    field_of_event start count stamp more field long long_more four
body_field_goes start count body front field items (payload left way first _ _ p) h four = cc

-- A byte of data leads to what comes next.
pub body_byte_goes : (start count : ℕ) (body : Body) (front : List ℕ) (items : List Seen) (b : ℕ)
    → AtBody start count body front items → takes_data body ≡ true
    → BodyGoes start count (front ++ b ∷ []) (items ++ option_to_list (body_byte_at body b).1)
    (body_byte_at body b).0
body_byte_goes start count body front items b seconds h = cc
body_byte_goes start count body front items b (fraction stamp long) h = cc
body_byte_goes start count body front items b (event stamp more long long_more) h = cc
body_byte_goes start count body front items b (payload left way first _ _ p) h =
    data_goes start count (left - 1) way false (front ++ b ∷ []) (items ++ seen)
    (λ some. record {
      seconds = p.seconds;
      microseconds = p.microseconds;
      event = p.event;
      others = p.others;
      front = p.front ++ b ∷ [];
      is = spelled;
      seconds_long = p.seconds_long;
      microseconds_long = p.microseconds_long;
      others_long = p.others_long;
      left_is = omega (arith, length-append p.front (b ∷ []), p.left_is, p.some);
      some = some;
      way_is = p.way_is;
      first_is = behind p.front;
      items_are = longer;
    })
    (λ none. record {
      seconds = p.seconds;
      microseconds = p.microseconds;
      event = p.event;
      others = p.others;
      payload = p.front ++ b ∷ [];
      is = spelled;
      seconds_long = p.seconds_long;
      microseconds_long = p.microseconds_long;
      others_long = p.others_long;
      payload_long = all none;
      items_are = longer ∙ ap (λ n. option_to_list (seen_event start p.event n (event_way p.event))
          ++ seen_data start (event_way p.event) true (p.front ++ b ∷ [])) (sym (all none));
    })
  where
    seen : List Seen
    seen = option_to_list (option_map (λ w. seen_byte start w first b) way)

    spelled : front ++ b ∷ [] ≡ ((p.seconds ++ p.microseconds) ++ p.event ∷ p.others) ++ (p.front ++
        b ∷ [])
    spelled = ap (λ x. x ++ b ∷ []) p.is
        ∙ append_assoc ((p.seconds ++ p.microseconds) ++ p.event ∷ p.others) p.front (b ∷ [])

    all : left - 1 ≡ 0 → length (p.front ++ b ∷ []) ≡ count
    all none = omega (arith, length-append p.front (b ∷ []), p.left_is, p.some, none)

    behind : (x : List ℕ) → false ≡ first_behind true (x ++ b ∷ [])
    behind [] = refl
    behind (c ∷ x) = refl

    same_seen : seen ≡ option_to_list (option_map
        (λ w. seen_byte start w (first_behind true p.front) b) (event_way p.event))
    same_seen = ap (λ f. option_to_list (option_map (λ w. seen_byte start w f b) way)) p.first_is
        ∙ ap (λ v. option_to_list (option_map
        (λ w. seen_byte start w (first_behind true p.front) b) v)) p.way_is

    longer : items ++ seen
        ≡ option_to_list (seen_event start p.event count (event_way p.event))
        ++ seen_data start (event_way p.event) true (p.front ++ b ∷ [])
    longer =
        let begun : List Seen =
        option_to_list (seen_event start p.event count (event_way p.event)) in
        ap (λ x. x ++ seen) p.items_are
        ∙ append_assoc begun (seen_data start (event_way p.event) true p.front) seen
        ∙ ap (λ x. begun ++ (seen_data start (event_way p.event) true p.front ++ x)) same_seen
        ∙ ap (λ x. begun ++ x) (seen_data-more start (event_way p.event) true p.front b)

-- ---- where a reader gets to over a packet, whatever it does after it

module _ {S F : Type 0} (takes_bytes : S → Bool)
    (field_at : S → List ℕ → Result (S × Option Seen) F)
    (byte_at : S → ℕ → Result (S × Option Seen) F) (within : Body → S) (behind : S)
    (takes : (body : Body) → takes_bytes (within body) ≡ takes_data body)
    (fields : (body : Body) (field : List ℕ) → field_at (within body) field
    ≡ Ok (body_or within behind (body_field_at body field).0, (body_field_at body field).1))
    (bytes : (body : Body) (b : ℕ) → byte_at (within body) b
    ≡ Ok (body_or within behind (body_byte_at body b).0, (body_byte_at body b).1)) where
  abbrev step : Spot S → ℕ → Result (Spot S × Option Seen) F
  step = spot_step takes_bytes field_at byte_at

  pub data_walk : (start : ℕ) (way : Option Way) (first : Bool) (front : List ℕ)
      → walk step (before_field (body_or within behind (data_of start (length front) way first)))
      front ≡ Ok (before_field behind, seen_data start way first front)
  unfolding walk
  data_walk start way first [] = ap (λ x. Ok (before_field behind, x)) (sym (seen_data-none start
      way first))
  data_walk start way first (b ∷ front) =
      let seen : List Seen = option_to_list (option_map (λ w. seen_byte start w first b) way) in
      let left : length (b ∷ front) - 1 ≡ length front = omega arith in
      let next : S = body_or within behind (data_of start (length front) way false) in
      let stepped : byte_at (within (Data start (length (b ∷ front)) way first)) b
      ≡ Ok (next, option_map (λ w. seen_byte start w first b) way) =
      bytes (Data start (length (b ∷ front)) way first) b
      ∙ ap (λ n. Ok (
        body_or within behind (data_of start n way false),
        option_map (λ w. seen_byte start w first b) way,
      )) left in
      let some : nat_lt 0 (length (b ∷ front)) ≡ true = lt-ltb 0 (length (b ∷ front)) (omega arith)
      in
      let here : body_or within behind (data_of start (length (b ∷ front)) way first)
      ≡ within (Data start (length (b ∷ front)) way first) = rw some refl in
      ap (λ s. walk step (before_field s) (b ∷ front)) here
      ∙ walk-join step (before_field (within (Data start (length (b ∷ front)) way first)))
      (before_field next) (before_field behind) (b ∷ []) front seen
      (seen_data start way false front)
      (single_walk takes_bytes field_at byte_at
      (within (Data start (length (b ∷ front)) way first)) next b
      (option_map (λ w. seen_byte start w first b) way)
      (takes (Data start (length (b ∷ front)) way first)) stepped)
      (data_walk start way false front)
      ∙ ap (λ x. Ok (before_field behind, x)) (joined way)
    where
      joined : (way : Option Way)
          → option_to_list (option_map (λ w. seen_byte start w first b) way)
          ++ seen_data start way false front ≡ seen_data start way first (b ∷ front)
      joined (Some w) = refl
      joined None = refl

  pub record_walk : (start count : ℕ) (packet : List ℕ) (items : List Seen)
      → IsRecord start count packet items
      → walk step (before_field (within (Seconds start count))) packet
      ≡ Ok (before_field behind, items)
  unfolding body_field_at
  record_walk start count packet items r =
      let seen : Option Seen = seen_event start r.event count (event_way r.event) in
      let after : S = body_or within behind (data_of start count (event_way r.event) true) in
      let walked : walk step (before_field after) r.payload
      ≡ Ok (before_field behind, seen_data start (event_way r.event) true r.payload) =
      ap (λ n. walk step (before_field (body_or within behind
      (data_of start n (event_way r.event) true))) r.payload) (sym r.payload_long)
      ∙ data_walk start (event_way r.event) true r.payload in
      let same : option_to_list seen ++ seen_data start (event_way r.event) true r.payload ≡ items =
      ap (λ n. option_to_list (seen_event start r.event n (event_way r.event))
      ++ seen_data start (event_way r.event) true r.payload) (sym r.payload_long)
      ∙ sym r.items_are in
      ap (walk step (before_field (within (Seconds start count)))) r.is
      ∙ walk-join step (before_field (within (Seconds start count))) (before_field after)
      (before_field behind) ((r.seconds ++ r.microseconds) ++ r.event ∷ r.others) r.payload
      (option_to_list seen) (seen_data start (event_way r.event) true r.payload)
      (walk-join step (before_field (within (Seconds start count)))
      (before_field (within (Event start count))) (before_field after)
      (r.seconds ++ r.microseconds) (r.event ∷ r.others) [] (option_to_list seen)
      (walk-join step (before_field (within (Seconds start count)))
      (before_field (within (Fraction start count)))
      (before_field (within (Event start count))) r.seconds r.microseconds [] []
      (field_walk takes_bytes field_at byte_at (within (Seconds start count))
      (within (Fraction start count)) r.seconds None
      (takes (Seconds start count)) r.seconds_long
      (fields (Seconds start count) r.seconds))
      (field_walk takes_bytes field_at byte_at (within (Fraction start count))
      (within (Event start count)) r.microseconds None
      (takes (Fraction start count)) r.microseconds_long
      (fields (Fraction start count) r.microseconds)))
      (field_walk takes_bytes field_at byte_at (within (Event start count)) after
      (r.event ∷ r.others) seen (takes (Event start count))
      (omega (arith, r.others_long)) (fields (Event start count) (r.event ∷ r.others))))
      walked
      ∙ ap (λ x. Ok (before_field behind, x)) same
