use Rattle.link_replay.proofs.{Flushing.input-causes, Flushing.disk-of-spacing}
use Rattle.link_replay.specs.declared.words.Command.TheVariants.{Space}
use Rattle.link_replay.proofs.Spaced.{same-outside}
use Rattle.std.proofs.Common.{refl}
use Rattle.link_replay.proofs.commands.space.space_with.Goals as goal

pub returns-clause-spaces : goal.returns-clause-spaces
returns-clause-spaces g c = record {
  line = c.space_frames.ensures.spaces;
  untouched = λ none. let is = c.space_frames.ensures.untouched none in
      same-outside _ _ _ _ _ _ _ _ is.0 is.1.0 is.1.1;
  key = refl;
  disk = refl;
}

pub returns-clause-causes : goal.returns-clause-causes
returns-clause-causes g c = λ proto profile.
    input-causes _ _ _ _ _ (Space proto profile) _ _ _ _ _ _ _ _ c.space_frames.result
    c.space_frames.ensures.input c.space_frames.ensures.sinks c.space_frames.ensures.flushes (
      c.space_frames.ensures.input,
      disk-of-spacing _ _ _ _ _ _ c.space_frames.result c.space_frames.ensures.spaces,
    )
