use Rattle.link_replay.proofs.commands.live.live_line.Goals as goal

pub returns-in-Rtu-Y18-with_link-clause-lives : goal.returns-in-Rtu-Y18-with_link-clause-lives
returns-in-Rtu-Y18-with_link-clause-lives g c =
    rw (c.in-Rtu-Y18-with_link.is-0, c.in-Rtu-Y18-with_link.is-1)
    (rw (
      c.link_of-sent.ensures.link,
      c.link_of-got.ensures.link,
      c.opposite-back.ensures,
      c.in-Rtu-Y18-with_link.is-0,
      c.in-Rtu-Y18-with_link.is-1,
    ) at c.line_over.ensures.lives)

pub returns-in-Rtu-Y18-with_link-clause-any_moment : goal.returns-in-Rtu-Y18-with_link-clause-any_moment
returns-in-Rtu-Y18-with_link-clause-any_moment g c =
    rw (c.link_of-sent.ensures.link, c.link_of-got.ensures.link, c.opposite-back.ensures)
    at c.line_over.ensures.any_moment

pub returns-in-Rtu-Y18-with_link-clause-done : goal.returns-in-Rtu-Y18-with_link-clause-done
returns-in-Rtu-Y18-with_link-clause-done g c =
    rw (c.link_of-sent.ensures.link, c.link_of-got.ensures.link, c.opposite-back.ensures)
    at c.line_over.ensures.done

pub returns-in-Dnp3-Y18-with_link-clause-lives : goal.returns-in-Dnp3-Y18-with_link-clause-lives
returns-in-Dnp3-Y18-with_link-clause-lives g c =
    rw (c.in-Dnp3-Y18-with_link.is-0, c.in-Dnp3-Y18-with_link.is-1)
    (rw (
      c.link_of-sent.ensures.link,
      c.link_of-got.ensures.link,
      c.opposite-back.ensures,
      c.in-Dnp3-Y18-with_link.is-0,
      c.in-Dnp3-Y18-with_link.is-1,
    ) at c.line_over-3.ensures.lives)

pub returns-in-Dnp3-Y18-with_link-clause-any_moment : goal.returns-in-Dnp3-Y18-with_link-clause-any_moment
returns-in-Dnp3-Y18-with_link-clause-any_moment g c =
    rw (c.link_of-sent.ensures.link, c.link_of-got.ensures.link, c.opposite-back.ensures)
    at c.line_over-3.ensures.any_moment

pub returns-in-Dnp3-Y18-with_link-clause-done : goal.returns-in-Dnp3-Y18-with_link-clause-done
returns-in-Dnp3-Y18-with_link-clause-done g c =
    rw (c.link_of-sent.ensures.link, c.link_of-got.ensures.link, c.opposite-back.ensures)
    at c.line_over-3.ensures.done

pub returns-in-Rtu-Y24-with_link-clause-lives : goal.returns-in-Rtu-Y24-with_link-clause-lives
returns-in-Rtu-Y24-with_link-clause-lives g c =
    rw (c.in-Rtu-Y24-with_link.is-0, c.in-Rtu-Y24-with_link.is-1)
    (rw (
      c.link_of-sent.ensures.link,
      c.link_of-got.ensures.link,
      c.opposite-back.ensures,
      c.in-Rtu-Y24-with_link.is-0,
      c.in-Rtu-Y24-with_link.is-1,
    ) at c.line_over-2.ensures.lives)

pub returns-in-Rtu-Y24-with_link-clause-any_moment : goal.returns-in-Rtu-Y24-with_link-clause-any_moment
returns-in-Rtu-Y24-with_link-clause-any_moment g c =
    rw (c.link_of-sent.ensures.link, c.link_of-got.ensures.link, c.opposite-back.ensures)
    at c.line_over-2.ensures.any_moment

pub returns-in-Rtu-Y24-with_link-clause-done : goal.returns-in-Rtu-Y24-with_link-clause-done
returns-in-Rtu-Y24-with_link-clause-done g c =
    rw (c.link_of-sent.ensures.link, c.link_of-got.ensures.link, c.opposite-back.ensures)
    at c.line_over-2.ensures.done

pub returns-in-Dnp3-Y24-with_link-clause-lives : goal.returns-in-Dnp3-Y24-with_link-clause-lives
returns-in-Dnp3-Y24-with_link-clause-lives g c =
    rw (c.in-Dnp3-Y24-with_link.is-0, c.in-Dnp3-Y24-with_link.is-1)
    (rw (
      c.link_of-sent.ensures.link,
      c.link_of-got.ensures.link,
      c.opposite-back.ensures,
      c.in-Dnp3-Y24-with_link.is-0,
      c.in-Dnp3-Y24-with_link.is-1,
    ) at c.line_over-4.ensures.lives)

pub returns-in-Dnp3-Y24-with_link-clause-any_moment : goal.returns-in-Dnp3-Y24-with_link-clause-any_moment
returns-in-Dnp3-Y24-with_link-clause-any_moment g c =
    rw (c.link_of-sent.ensures.link, c.link_of-got.ensures.link, c.opposite-back.ensures)
    at c.line_over-4.ensures.any_moment

pub returns-in-Dnp3-Y24-with_link-clause-done : goal.returns-in-Dnp3-Y24-with_link-clause-done
returns-in-Dnp3-Y24-with_link-clause-done g c =
    rw (c.link_of-sent.ensures.link, c.link_of-got.ensures.link, c.opposite-back.ensures)
    at c.line_over-4.ensures.done
