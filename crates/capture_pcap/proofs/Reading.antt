-- The reader reads pcap files exactly.
use Rattle.line_stamps.proofs.FieldLaws.{ReachedSpot, reached_spot}
use Rattle.line_stamps.proofs.WalkLaws.{walk-more, reads_begins, reads_none, reads_each, reads_open}
use Rattle.line_stamps.specs.Fields.{Spot, before_field, at_spot, RefusesField, AreFieldsSoFar}
use Rattle.line_stamps.specs.Walks.{walk, ReadsFormat, WalkBegins, WalkBeginsNone}
use Rattle.capture_pcap.proofs.Stages.{AtStage, Moves, field_goes, byte_goes, field_cause}
use Rattle.capture_pcap.proofs.Stages.{byte_taken}
use Rattle.capture_pcap.proofs.Stages.AtStage.{magic, free, link, seconds, fraction, captured}
use Rattle.capture_pcap.proofs.Stages.AtStage.{original, packet, blocks}
use Rattle.capture_pcap.specs.{BlockStep.may_end as may_end_block, Blocks.section_kind}
use Rattle.capture_pcap.specs.Pcap.{IsCapture, IsCause, IsCapture.pcap, IsCapture.pcapng}
use Rattle.capture_pcap.specs.PcapStep.{SteppedPcap, takes_bytes, field_at, byte_at, step_at, pcap_may_end}
use Rattle.capture_pcap.specs.PcapStep.{may_end_at}
use Rattle.capture_pcap.specs.declared.{block.Block.Block, fault.PcapFault.PcapFault}
use Rattle.capture_pcap.specs.declared.stage.Stage.{Stage, TheVariants.Magic}
use Rattle.line_stamps.specs.declared.seen.Seen.{Seen}
use Rattle.std.proofs.Common.{◌≡◌, ◌∙◌, ℕ, ◌+◌, ◌==◌, Bool, true, false, List, [], ◌∷◌, ◌++◌}
use Rattle.std.proofs.Common.{length, Option, Some, None, Ok, Err, refl, ap, sym, subst, arith}
use Rattle.std.proofs.Common.{append_assoc, append-nil, nat_lt, ◌⊎◌, inl, inr, Result}
use Rattle.std.proofs.lemmas.Bool.{and_parts, eqb-true, ltb-false, cond-true, cond-false}
use Rattle.std.{proofs.lemmas.List.length-append, specs.Option.option_to_list}
use Rattle.capture_pcap.specs.declared.block.Block.TheVariants as b
use Rattle.capture_pcap.proofs.{BlockSpelled.blocks_walk, BlockStands.AtBlock, Going.both_ways, GoingOn.on_stage}
use Rattle.capture_pcap.proofs.Spelled.{packets_walk}

pub fields : (stage next : Stage) (front field : List ℕ) (items : List Seen) (item : Option Seen)
    → AtStage stage front items → takes_bytes stage ≡ false → length field ≡ 4
    → field_at stage field ≡ Ok (next, item)
    → AtStage next (front ++ field) (items ++ option_to_list item)
fields stage next front field items item at h four e =
    let Q : SteppedPcap → Type 0 = λ s. Moves front field items s in
    subst Q e (field_goes stage front field items at h four)

pub bytes : (stage next : Stage) (front : List ℕ) (items : List Seen) (b : ℕ) (item : Option Seen)
    → AtStage stage front items → takes_bytes stage ≡ true → byte_at stage b ≡ Ok (next, item)
    → AtStage next (front ++ b ∷ []) (items ++ option_to_list item)
bytes stage next front items b item at h e =
    let Q : SteppedPcap → Type 0 = λ s. Moves front (b ∷ []) items s in
    subst Q e (byte_goes stage front items b at h)

-- what a file so far is, if its reader has reached this spot
abbrev pub Reached : Spot Stage → List ℕ → List Seen → Type 0
Reached = ReachedSpot takes_bytes field_at byte_at Magic AtStage fields bytes

pub reached : (spot : Spot Stage) (file : List ℕ) (items : List Seen)
    → walk step_at (before_field Magic) file ≡ Ok (spot, items) → Reached spot file items
reached spot file items e =
    reached_spot takes_bytes field_at byte_at Magic AtStage fields bytes magic spot file items e

block_ends : (block : Block) (file : List ℕ) (items : List Seen) → AtBlock block file items
    → may_end_block block ≡ true → IsCapture file items
block_ends (b.Kind s) file items at m = pcapng file items (record { last = s; blocks = at })
block_ends block file items at m = cc

-- If a file may end here, it is a pcap or pcapng file.
ends_so : (stage : Stage) (front : List ℕ) (items : List Seen) → AtStage stage front items
    → pcap_may_end stage ≡ true → IsCapture front items
ends_so stage front items magic m = cc
ends_so stage front items (free clock before word words g long few) m = cc
ends_so stage front items (link clock word words g long) m = cc
ends_so stage front items (seconds clock _ _ p) m =
    pcap front items (record { clock = clock; packets = p })
ends_so stage front items (blocks block bytes _ at live) m = block_ends block (section_kind ++ bytes) items at m
ends_so stage front items (fraction clock packets first _ p long) m = cc
ends_so stage front items (captured clock packets time start _ p t) m = cc
ends_so stage front items (original clock packets time size start _ p t long most) m = cc
ends_so stage front items
    (packet clock packets time lengths bytes start count body before these p t l at) m = cc

nothing_left : (partial : List ℕ) → (length partial == 0) ≡ true → partial ≡ []
nothing_left [] h = refl
nothing_left (b ∷ partial) h = absurd (omega (arith, eqb-true (length (b ∷ partial)) 0 h))

sound : (file : List ℕ) (spot : Spot Stage) (items : List Seen)
    → walk step_at (before_field Magic) file ≡ Ok (spot, items) → may_end_at spot ≡ true
    → IsCapture file items
sound file spot items e m =
    let r = reached spot file items e in
    let parts = and_parts (pcap_may_end spot.stage) (length spot.partial == 0) m in
    let whole : file ≡ r.front = r.text_is
    ∙ ap (λ x. r.front ++ x) (nothing_left spot.partial parts.1) ∙ append-nil r.front in
    let Q : List ℕ → Type 0 = λ x. IsCapture x items in
    subst Q (sym whole) (ends_so spot.stage r.front items r.holds_there parts.0)

complete : (file : List ℕ) (items : List Seen) → IsCapture file items
    → (spot : Spot Stage) × (walk step_at (before_field Magic) file ≡ Ok (spot, items))
    × (may_end_at spot ≡ true)
complete file items (pcap _ _ p) = (_, (packets_walk p.clock file items p.packets).is, refl)
complete file items (pcapng _ _ p) = (_, (blocks_walk (Some p.last) file items p.blocks).is, refl)

pub reads_pcap : ReadsFormat step_at (before_field Magic) may_end_at IsCapture
reads_pcap = record {
  sound = sound;
  complete = complete;
}

-- ---- what a reader says of the file over which it got to a spot

-- one more byte of a field that isn't whole yet
abbrev goes_on : Spot Stage → ℕ → Result (Spot Stage × Option Seen) PcapFault
goes_on spot b = Ok (record { stage = spot.stage; partial = spot.partial ++ b ∷ [] }, None)

module _ (spot : Spot Stage) (file : List ℕ) (items : List Seen)
    (walks : walk step_at (before_field Magic) file ≡ Ok (spot, items)) where
  pub file_more : (b : ℕ) (next : Spot Stage) (item : Option Seen)
      → step_at spot b ≡ Ok (next, item)
      → walk step_at (before_field Magic) (file ++ b ∷ []) ≡ Ok (next, items ++ option_to_list item)
  file_more b next item e =
      walk-more step_at (before_field Magic) spot next file items b item walks e

  pub file_each : (more : List ℕ) (all : List Seen) → IsCapture (file ++ more) all
      → (others : List Seen) × (all ≡ items ++ others)
  file_each = reads_each step_at (before_field Magic) may_end_at IsCapture reads_pcap file spot items
      walks

  pub front_begins : (front : List ℕ) (stage : Stage) → AtStage stage front items
      → walk step_at (before_field Magic) front ≡ Ok (before_field stage, items)
      → WalkBegins IsCapture front items
  front_begins front stage at came =
      reads_begins step_at (before_field Magic) may_end_at IsCapture reads_pcap front
      (before_field stage) items came
      (both_ways stage (on_stage 0 stage front items at) (on_stage 1 stage front items at))

  pub file_so_far : AreFieldsSoFar IsCapture file items
  file_so_far =
      let r = reached spot file items walks in
      record {
        front = r.front;
        partial = spot.partial;
        is = r.text_is;
        short = r.short;
        begins = front_begins r.front spot.stage r.holds_there r.came;
        each = file_each;
      }

  bool_cases : (t : Bool) → (t ≡ true) ⊎ (t ≡ false)
  bool_cases true = inl refl
  bool_cases false = inr refl

  err_of : (r : SteppedPcap) (why : PcapFault) → at_spot r ≡ Err why → r ≡ Err why
  err_of (Ok next) why e = cc
  err_of (Err other) why e = ap (λ f. Err f) (ap (fault_of other) e)
    where
      fault_of : PcapFault → Result (Spot Stage × Option Seen) PcapFault → PcapFault
      fault_of d (Ok next) = d
      fault_of d (Err f) = f

  cause_of : (b : ℕ) (why : PcapFault) (r : Reached spot file items) → step_at spot b ≡ Err why
      → IsCause r.front (spot.partial ++ b ∷ []) why
  cause_of b why r e = elim (bool_cases (takes_bytes spot.stage)) [
    | inl t ↦ absurd (byte_taken spot.stage b why t
        (err_of (byte_at spot.stage b) why (sym (cond-true _ _ _ t) ∙ e)))
    | inr t ↦ elim (bool_cases (nat_lt (length spot.partial) 3)) [
      | inl few ↦ absurd (never (sym (cond-true _ _ _ few) ∙ sym (cond-false _ _ _ t) ∙ e))
      | inr many ↦ field_cause spot.stage r.front (spot.partial ++ b ∷ []) items why r.holds_there t
          (omega (
            arith,
            length-append spot.partial (b ∷ []),
            r.short,
            ltb-false (length spot.partial) 3 many,
          ))
          r.came
          (err_of (field_at spot.stage (spot.partial ++ b ∷ [])) why
          (sym (cond-false _ _ _ many) ∙ sym (cond-false _ _ _ t) ∙ e))
    ]
  ]
    where
      never : goes_on spot b ≡ Err why → ⊥
      never g = cc

  -- A refusal has the place and the cause of its field.
  pub file_refused : (b offset : ℕ) (why : PcapFault) → step_at spot b ≡ Err why
      → offset + length spot.partial ≡ length file
      → RefusesField IsCapture IsCause file items b offset why
  file_refused b offset why e place =
      let r = reached spot file items walks in
      let whole : file ++ b ∷ [] ≡ r.front ++ (spot.partial ++ b ∷ []) =
      ap (λ x. x ++ b ∷ []) r.text_is ∙ append_assoc r.front spot.partial (b ∷ []) in
      let Q : List ℕ → Type 0 = λ x. WalkBeginsNone IsCapture x in
      record {
        front = r.front;
        field = spot.partial ++ b ∷ [];
        is = whole;
        short = omega (arith, length-append spot.partial (b ∷ []), r.short);
        begins = front_begins r.front spot.stage r.holds_there r.came;
        wrong = subst Q whole (reads_none step_at (before_field Magic) may_end_at IsCapture reads_pcap
            file spot items b why walks e);
        place = omega (arith, place, ap length r.text_is, length-append r.front spot.partial);
        cause = cause_of b why r e;
      }

  pub file_right : may_end_at spot ≡ true → IsCapture file items
  file_right m = sound file spot items walks m

  pub file_open : may_end_at spot ≡ false → (all : List Seen) → IsCapture file all → ⊥
  file_open m = reads_open step_at (before_field Magic) may_end_at IsCapture reads_pcap file spot items
      walks m

pub nothing_begins : WalkBegins IsCapture [] []
unfolding walk
nothing_begins = front_begins (before_field Magic) [] [] refl [] Magic magic refl

pub nothing_so_far : AreFieldsSoFar IsCapture [] []
unfolding walk
nothing_so_far = file_so_far (before_field Magic) [] [] refl

pub nothing_walks : (partial : List ℕ) → partial ≡ []
    → walk step_at (before_field Magic) [] ≡ Ok (record { stage = Magic; partial = partial }, [])
unfolding walk
nothing_walks partial e = ap (λ x. Ok (record { stage = Magic; partial = x }, [])) (sym e)
