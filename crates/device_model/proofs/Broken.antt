-- When ticks can be no frame, whatever their bytes are, and how a byte that follows changes that.
use Rattle.device_model.specs.{RtuFamily.is_cut_off_frame, RtuReads.begins_silent, RtuReads.has_silence}
use Rattle.frame_ending.proofs.Pauses.{contiguous-ends}
use Rattle.std.proofs.Common.{◌≡◌, ◌∙◌, ℕ, zero, suc, ◌+◌, ◌<◌, ◌≤◌, nat_lt, nat_le, Bool, true}
use Rattle.std.proofs.Common.{false, ◌||◌, List, [], ◌∷◌, ◌++◌, length, refl, sym, ap, arith}
use Rattle.std.proofs.Common.{⊎_elim, length-append, append_assoc}
use Rattle.std.proofs.lemmas.Bool.{cases_lt, lt-ltb, le-ltb, le-leb, lt-leb, or_right, ltb-true}
use Rattle.yasir_ticks.{proofs.SilenceLaws.bytes_in-append, specs.BurstsOf.IsContiguous}
use Rattle.yasir_ticks.specs.Ticks.{silent, bytes_in}
use Rattle.yasir_ticks.specs.declared.tick.Tick.{Tick, TheVariants.Silent, TheVariants.Byte}

-- ---- silent ticks in a row

-- Silent ticks in a row end at a byte, whatever follows it.
begins-seam : (k : ℕ) (w : List Tick) (a : ℕ) (z : List Tick)
    → begins_silent k (w ++ Byte a ∷ z) ≡ begins_silent k (w ++ Byte a ∷ [])
begins-seam zero w a z = refl
begins-seam (suc k) [] a z = refl
begins-seam (suc k) (Silent ∷ w) a z = begins-seam k w a z
begins-seam (suc k) (Byte b ∷ w) a z = refl

or-assoc : (x y z : Bool) → (x || (y || z)) ≡ ((x || y) || z)
or-assoc true y z = refl
or-assoc false y z = refl

-- Silent ticks in a row come before the byte or after it.
silence-seam : (g : ℕ) (w : List Tick) (a : ℕ) (z : List Tick)
    → has_silence (suc g) (w ++ Byte a ∷ z)
    ≡ (has_silence (suc g) (w ++ Byte a ∷ []) || has_silence (suc g) z)
unfolding has_silence
silence-seam g [] a z = refl
silence-seam g (t ∷ w) a z =
    ap (λ v. v || has_silence (suc g) (w ++ Byte a ∷ z)) (begins-seam (suc g) (t ∷ w) a z)
    ∙ (ap (λ v. begins_silent (suc g) (t ∷ (w ++ Byte a ∷ [])) || v) (silence-seam g w a z)
    ∙ or-assoc (begins_silent (suc g) (t ∷ (w ++ Byte a ∷ [])))
    (has_silence (suc g) (w ++ Byte a ∷ [])) (has_silence (suc g) z))

begins-few : (k q b : ℕ) → q < k → begins_silent k (silent q ++ Byte b ∷ []) ≡ false
begins-few zero q b few = absurd (omega arith)
begins-few (suc k) zero b few = refl
begins-few (suc k) (suc q) b few = let h : q < k = omega arith in begins-few k q b h

begins-many : (k q b : ℕ) → k ≤ q → begins_silent k (silent q ++ Byte b ∷ []) ≡ true
begins-many zero q b many = refl
begins-many (suc k) zero b many = absurd (omega arith)
begins-many (suc k) (suc q) b many = let h : k ≤ q = omega arith in begins-many k q b h

silence-few : (g q b : ℕ) → q ≤ g → has_silence (suc g) (silent q ++ Byte b ∷ []) ≡ false
unfolding has_silence
silence-few g zero b few = refl
silence-few g (suc q) b few =
    let h : q ≤ g = omega arith in
    let less : suc q < suc g = omega arith in
    ap (λ v. v || has_silence (suc g) (silent q ++ Byte b ∷ [])) (begins-few (suc g) (suc q) b less)
    ∙ silence-few g q b h

silence-many : (g q b : ℕ) → g < q → has_silence (suc g) (silent q ++ Byte b ∷ []) ≡ true
unfolding has_silence
silence-many g zero b many = absurd (omega arith)
silence-many g (suc q) b many =
    let enough : suc g ≤ suc q = omega arith in
    ap (λ v. v || has_silence (suc g) (silent q ++ Byte b ∷ []))
    (begins-many (suc g) (suc q) b enough)

silence-run : (g q b : ℕ) → has_silence (suc g) (silent q ++ Byte b ∷ []) ≡ nat_lt g q
silence-run g q b =
    ⊎_elim
    (λ many. silence-many g q b many ∙ sym (lt-ltb g q many))
    (λ few. silence-few g q b few ∙ sym (le-ltb g q few))
    (cases_lt g q)

-- ---- a byte

bytes-run : (q b : ℕ) → bytes_in (silent q ++ Byte b ∷ []) ≡ b ∷ []
bytes-run zero b = refl
bytes-run (suc q) b = bytes-run q b

pub grown-bytes : (body : List Tick) (q b : ℕ)
    → bytes_in (body ++ (silent q ++ Byte b ∷ [])) ≡ bytes_in body ++ b ∷ []
grown-bytes body q b =
    bytes_in-append body (silent q ++ Byte b ∷ []) ∙ ap (λ x. bytes_in body ++ x) (bytes-run q b)

pub grown-silence : (g c : ℕ) (body : List Tick) (q b : ℕ) → IsContiguous c body
    → has_silence (suc g) (body ++ (silent q ++ Byte b ∷ []))
    ≡ (has_silence (suc g) body || nat_lt g q)
grown-silence g c body q b contiguous =
    let last = contiguous-ends c body contiguous in
    let w : List Tick = last.0 in
    let tail : List Tick = silent q ++ Byte b ∷ [] in
    ap (λ x. has_silence (suc g) (x ++ tail)) last.2
    ∙ (ap (has_silence (suc g)) (append_assoc w (Byte last.1 ∷ []) tail)
    ∙ (silence-seam g w last.1 tail
    ∙ (ap (λ v. has_silence (suc g) (w ++ Byte last.1 ∷ []) || v) (silence-run g q b)
    ∙ ap (λ x. has_silence (suc g) x || nat_lt g q) (sym last.2))))

over-many : (n : ℕ) → nat_lt 256 (n + 1) ≡ nat_le 256 n
over-many n =
    ⊎_elim
    (λ below.
    let le : n + 1 ≤ 256 = omega arith in
    le-ltb 256 (n + 1) le ∙ sym (lt-leb 256 n below))
    (λ full.
    let lt : 256 < n + 1 = omega arith in
    lt-ltb 256 (n + 1) lt ∙ sym (le-leb 256 n full))
    (cases_lt n 256)

-- A single byte isn't broken.
pub alone-whole : (gap b : ℕ) → is_cut_off_frame gap (Byte b ∷ []) ≡ false
unfolding has_silence
alone-whole gap b = refl

-- With one more byte, ticks are broken if they were before, if too much silence comes before the
-- byte, or if there was no room for it.
grown-broken : (gap c : ℕ) (body : List Tick) (q b : ℕ) → IsContiguous c body
    → is_cut_off_frame gap (body ++ (silent q ++ Byte b ∷ []))
    ≡ ((has_silence (suc gap) body || nat_lt gap q) || nat_le 256 (length (bytes_in body)))
grown-broken gap c body q b contiguous =
    let n : ℕ = length (bytes_in body) in
    ap (λ v. v || nat_lt 256 (length (bytes_in (body ++ (silent q ++ Byte b ∷ [])))))
    (grown-silence gap c body q b contiguous)
    ∙ ap (λ v. (has_silence (suc gap) body || nat_lt gap q) || v)
    (ap (nat_lt 256)
    (ap length (grown-bytes body q b) ∙ length-append (bytes_in body) (b ∷ [])) ∙ over-many n)

both-broken : (s m q k : Bool) → (m ≡ true → k ≡ true) → (s || m) ≡ true
    → ((s || q) || k) ≡ true
both-broken true m q k then is = refl
both-broken false m q k then is = or_right q k (then is)

both-whole : (s m q k : Bool) → (s || m) ≡ false → ((s || q) || k) ≡ (q || k)
both-whole true m q k is = absurd (cc)
both-whole false m q k is = refl

-- Ticks that are broken stay so.
broken-stays : (gap c : ℕ) (body : List Tick) (q b : ℕ) → IsContiguous c body
    → is_cut_off_frame gap body ≡ true → is_cut_off_frame gap (body ++ (silent q ++ Byte b ∷ [])) ≡ true
broken-stays gap c body q b contiguous broken =
    let n : ℕ = length (bytes_in body) in
    grown-broken gap c body q b contiguous
    ∙ both-broken (has_silence (suc gap) body) (nat_lt 256 n) (nat_lt gap q) (nat_le 256 n)
    (λ more. le-leb 256 n (omega (arith, ltb-true 256 n more))) broken

whole-grown : (gap c : ℕ) (body : List Tick) (q b : ℕ) → IsContiguous c body
    → is_cut_off_frame gap body ≡ false
    → is_cut_off_frame gap (body ++ (silent q ++ Byte b ∷ []))
    ≡ (nat_lt gap q || nat_le 256 (length (bytes_in body)))
whole-grown gap c body q b contiguous whole =
    let n : ℕ = length (bytes_in body) in
    grown-broken gap c body q b contiguous
    ∙ both-whole (has_silence (suc gap) body) (nat_lt 256 n) (nat_lt gap q) (nat_le 256 n) whole

-- A device can tell whether the ticks are broken with one more byte, as it knows whether there is
-- room as long as they aren't broken.
pub grown-is : (gap c : ℕ) (body : List Tick) (q b : ℕ) (broken full : Bool)
    → IsContiguous c body → broken ≡ is_cut_off_frame gap body
    → (broken ≡ false → full ≡ nat_le 256 (length (bytes_in body)))
    → (broken || (nat_lt gap q || full))
    ≡ is_cut_off_frame gap (body ++ (silent q ++ Byte b ∷ []))
grown-is gap c body q b true full contiguous is known =
    sym (broken-stays gap c body q b contiguous (sym is))
grown-is gap c body q b false full contiguous is known =
    ap (λ v. nat_lt gap q || v) (known refl)
    ∙ sym (whole-grown gap c body q b contiguous (sym is))
