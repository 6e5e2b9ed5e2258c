-- Tags of zeros in place of tags that nobody needs, and the frames that a transmitter seals all the
-- same.
use Rattle.std.specs.Prelude.{◌≡◌, ℕ, ◌<◌, ◌≤◌, List, length, take, replicate, All, ⊤}
use Rattle.std.proofs.Common.{arith, subst, sym, ⊎_elim}
use Rattle.std.proofs.lemmas.List.{length-take-le, length-replicate}
use Rattle.std.proofs.lemmas.List.Elements.{All-replicate, All-take}
use Rattle.line_rules.specs.declared.line_rules.LineRules.{Ghosts as LineRules}
use Rattle.link_format.specs.declared.tag.Mac.{Ghosts as Mac}
use Rattle.link_format.specs.Tag.{IsTagSize}
use Rattle.link_box.specs.Walking.{other_line, frames_of}
use Rattle.link_format.specs.Setup.{Setup}
use Rattle.session_lists.specs.FrameBox.{Numbering}
use Rattle.seal_transmitter.specs.Boxed.{seal_walking}
use Rattle.session_audit.specs.declared.untagged.Untagged.{Untagged}

-- zeros in place of a tag of this many bytes, 16 at most
abbrev pub no_tag : ℕ → List ℕ
no_tag size = take size (replicate 16 0)

pub length-no_tag : (size : ℕ) → IsTagSize size → length (no_tag size) ≡ size
length-no_tag size sized =
    let few : size ≤ 16 =
    ⊎_elim (λ short. omega (arith, short)) (λ long. omega (arith, long)) sized in
    length-take-le size (replicate 16 0)
    (subst (λ n. size ≤ n) (sym (length-replicate {A = ℕ} 16 0)) few)

pub All-no_tag : (size : ℕ) → All (λ b. b < 256) (no_tag size)
All-no_tag size = All-take (λ b. b < 256) size (replicate 16 0)
    (All-replicate (λ b. b < 256) 16 0 (omega arith))

-- the MAC whose tags are zeros, as many as those of `macs` have bytes
abbrev pub untagged : {M : Type 0} → Mac M → Mac (Untagged M)
untagged macs = record {
  tag_of = λ key text. no_tag macs.TAG;
  stands = λ value key text. ⊤;
  TAG = macs.TAG;
  tag_size = macs.tag_size;
  tag_len = λ key text. length-no_tag macs.TAG macs.tag_size;
  tag_bytes = λ key text. All-no_tag macs.TAG;
}

-- The numbering of a transmitter whose frames are those that one with tags by `macs` seals, and
-- whose other line is what one with tags by `blank` sends.
abbrev pub sealed_numbering : {R M U : Type 0} → LineRules R → Mac M → Mac U → ℕ → Setup → Numbering
sealed_numbering proto macs blank word_len setup = record {
  other_line = other_line (seal_walking proto blank word_len) setup;
  frames = frames_of (seal_walking proto macs word_len) setup;
}
