-- A two-wire box over whole recordings, part by part.
use Rattle.link_box.specs.declared.box_trait.LinkBox.{Ghosts as LinkBox}
use Rattle.link_format.specs.Setup.{Setup}
use Rattle.line_commands.specs.Recording.{filled_recording}
use Rattle.std.proofs.Common.{◌≡◌, ◌∙◌, ℕ, zero, suc, ◌+◌, ◌-◌, ◌<◌, ◌≤◌, List, [], ◌∷◌, ◌++◌, length, take}
use Rattle.std.proofs.Common.{drop, get_or, refl, sym, ap, subst, arith}
use Rattle.std.proofs.Math.Seq.{take-nil}
use Rattle.std.proofs.lemmas.List.{length-take-le, length-replicate, replicate_more, drop-drop}
use Rattle.two_wire.specs.Gate.{GateState, lets, let_through, gate_after}
use Rattle.two_wire.specs.Wires.{heard, hears}
use Rattle.two_wire.specs.declared.{gate.Side.Side, gate.Waits.Waits}
use Rattle.wire_commands.proofs.Filling.{filled-long, filled-next, filled-behind}
use Rattle.wire_commands.proofs.Gates.{gate-append}
use Rattle.wire_commands.specs.Hearing.{gate_through}
use Rattle.wire_commands.specs.Making.{HasMade, MakesSome}
use Rattle.wire_commands.specs.declared.wire_lines.WireLines.{WireLines}
use Rattle.yasir_ticks.specs.{Ticks.silent, declared.tick.Tick.Tick}
use Rattle.yasir_ticks.specs.declared.tick.Tick.TheVariants.{Silent}

-- one more silent tick of the receiver
waits-more : (side : Side) (waits : Waits) (g : GateState) (device : List Tick) (left done : ℕ)
    → done < left
    → gate_after side waits (gate_through side waits g (silent done)
    (take done (filled_recording left device))) Silent (get_or device done Silent)
    ≡ gate_through side waits g (silent (done + 1)) (take (done + 1) (filled_recording left device))
waits-more side waits g device left done inside =
    let filled : List Tick = filled_recording left device in
    let long = filled-long left device in
    let size : length (silent done) ≡ length (take done filled) =
    length-replicate done Silent ∙ sym (length-take-le done filled (omega arith)) in
    sym (ap (λ l. gate_through side waits g (silent (done + 1)) l) (filled-next left device done inside)
    ∙ (ap (λ l. gate_through side waits g l (take done filled ++ get_or device done Silent ∷ []))
    (sym (replicate_more done Silent))
    ∙ gate-append side waits g (silent done) (Silent ∷ []) (take done filled)
    (get_or device done Silent ∷ []) size))

pub waits-on : (side own_side : Side) (waits own_waits : Waits) (g old new : GateState) (t : Tick)
    (device : List Tick) (left done : ℕ) → own_side ≡ side → own_waits ≡ waits
    → t ≡ get_or device done Silent → new ≡ gate_after own_side own_waits old Silent t
    → old ≡ gate_through side waits g (silent done) (take done (filled_recording left device))
    → done < left
    → new ≡ gate_through side waits g (silent (done + 1)) (take (done + 1) (filled_recording left device))
waits-on side own_side waits own_waits g old new t device left done side_is waits_is tick_is next before
    inside =
    next
    ∙ (ap (λ s. gate_after s own_waits old Silent t) side_is
    ∙ (ap (λ w. gate_after side w old Silent t) waits_is
    ∙ (ap (λ o. gate_after side waits o Silent t) before
    ∙ (ap (λ u. gate_after side waits (gate_through side waits g (silent done)
    (take done (filled_recording left device))) Silent u) tick_is
    ∙ waits-more side waits g device left done inside))))

filled-begins : (left : ℕ) (device : List Tick) → 0 < left → filled_recording left device
    ≡ get_or device 0 Silent ∷ filled_recording (left - 1) (drop 1 device)
filled-begins left [] some =
    let same : left - 0 ≡ suc ((left - 1) - 0) = omega (arith, some) in ap silent same
filled-begins left (t ∷ device) some =
    let same : left - suc (length device) ≡ (left - 1) - length device = omega arith in
    ap (λ n. t ∷ (device ++ silent n)) same

hears-all : (n : ℕ) (ws : List Tick) → length ws ≡ n → hears (silent n) ws ≡ ws
hears-all zero [] size = refl
hears-all zero (w ∷ ws) size = absurd (omega (arith, size))
hears-all (suc n) [] size = absurd (omega (arith, size))
hears-all (suc n) (w ∷ ws) size = ap (λ l. w ∷ l) (hears-all n ws (omega (arith, size)))

-- a tick of the receiver, and silent ones behind it
pub gate-goes : (side : Side) (waits : Waits) (g mid last : GateState) (t : Tick)
    (device : List Tick) (left count : ℕ) → 0 < count → count ≤ left
    → mid ≡ gate_after side waits g t
    (heard (let_through t (lets side waits g)) (get_or device 0 Silent))
    → ((n : ℕ) → count - 1 ≤ n → last ≡ gate_through side waits mid (silent (count - 1))
    (take (count - 1) (filled_recording n (drop 1 device))))
    → (hear : List Tick) → length hear ≡ count
    → hear ≡ hears (let_through t (lets side waits g) ∷ silent (count - 1))
    (take count (filled_recording left device))
    → last ≡ gate_through side waits g (t ∷ silent (count - 1)) hear
gate-goes side waits g mid last t device left zero some within first rest hear size is =
    absurd (omega arith)
gate-goes side waits g mid last t device left (suc k) some within first rest hear size is =
    let own : Tick = let_through t (lets side waits g) in
    let wire : Tick = get_or device 0 Silent in
    let behind : List Tick = filled_recording (left - 1) (drop 1 device) in
    let m : ℕ = suc k - 1 in
    let same : k ≡ m = omega arith in
    let long = filled-long (left - 1) (drop 1 device) in
    let hear_is : hear ≡ heard own wire ∷ take m behind =
    is ∙ (ap (λ l. hears (own ∷ silent m) (take (suc k) l))
    (filled-begins left device (omega (arith, within)))
    ∙ ap (λ l. heard own wire ∷ l)
    (ap (λ n. hears (silent m) (take n behind)) same
    ∙ hears-all m (take m behind) (length-take-le m behind (omega (arith, within, long))))) in
    rest (left - 1) (omega (arith, within))
    ∙ (ap (λ s. gate_through side waits s (silent m) (take m behind)) first
    ∙ sym (ap (λ l. gate_through side waits g (t ∷ silent m) l) hear_is))

take-more : (n m : ℕ) (line : List Tick) → take (n + m) line ≡ take n line ++ take m (drop n line)
take-more zero m line = let same : 0 + m ≡ m = omega arith in ap (λ k. take k line) same
take-more (suc n) m [] = take-nil (suc n + m) ∙ sym (take-nil m)
take-more (suc n) m (t ∷ line) =
    let same : suc n + m ≡ suc (n + m) = omega arith in
    ap (λ k. take k (t ∷ line)) same ∙ ap (λ l. t ∷ l) (take-more n m line)

module _ {S C A B : Type 0} (sends : LinkBox S A) (sent_line : A → List ℕ) (gets : LinkBox C B)
    (got_line : B → List ℕ) (side : Side) (waits : Waits) (sent_setup got_setup : Setup) where
  abbrev Made : WireLines S C → List Tick → List Tick → List Tick → List Tick → Type 0
  Made value device link device_rest link_rest =
      HasMade sends sent_line gets got_line side waits sent_setup got_setup value device link
      device_rest link_rest

  made-as : (value : WireLines S C) (a b c d e f g h : List Tick) → a ≡ e → b ≡ f → c ≡ g → d ≡ h
      → Made value a b c d → Made value e f g h
  made-as value a b c d e f g h first second third fourth made =
      subst (λ l. Made value e f g l) fourth (subst (λ l. Made value e f l d) third
      (subst (λ l. Made value e l c d) second (subst (λ l. Made value l b c d) first made)))

  pub goes-on : (mid new : WireLines S C) (count n steps : ℕ) (device link : List Tick)
      → MakesSome sends sent_line gets got_line mid new
      (filled_recording (steps - count) (drop count device))
      (filled_recording (steps - count) (drop count link)) (steps - count) n
      → HasMade sends sent_line gets got_line side waits sent_setup got_setup mid
      (take count (filled_recording steps device)) (take count (filled_recording steps link))
      (drop count (filled_recording steps device)) (drop count (filled_recording steps link))
      → HasMade sends sent_line gets got_line side waits sent_setup got_setup new
      (take (count + n) (filled_recording steps device))
      (take (count + n) (filled_recording steps link))
      (drop (count + n) (filled_recording steps device))
      (drop (count + n) (filled_recording steps link))
  goes-on mid new count n steps device link some made =
      let d : List Tick = filled_recording steps device in
      let l : List Tick = filled_recording steps link in
      let d_rest : List Tick = filled_recording (steps - count) (drop count device) in
      let l_rest : List Tick = filled_recording (steps - count) (drop count link) in
      let d_is : drop count d ≡ d_rest = filled-behind count steps device in
      let l_is : drop count l ≡ l_rest = filled-behind count steps link in
      made-as new (take count d ++ take n d_rest) (take count l ++ take n l_rest) (drop n d_rest)
      (drop n l_rest) (take (count + n) d) (take (count + n) l) (drop (count + n) d)
      (drop (count + n) l)
      (sym (take-more count n d ∙ ap (λ r. take count d ++ take n r) d_is))
      (sym (take-more count n l ∙ ap (λ r. take count l ++ take n r) l_is))
      (sym (sym (drop-drop n count d) ∙ ap (λ r. drop n r) d_is))
      (sym (sym (drop-drop n count l) ∙ ap (λ r. drop n r) l_is))
      (some.makes side waits sent_setup got_setup (take count d) (take count l)
      (made-as mid (take count d) (take count l) (drop count d) (drop count l) (take count d)
      (take count l) d_rest l_rest refl refl d_is l_is made))
