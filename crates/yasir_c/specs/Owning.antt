-- What an owner of what C holds owns: nothing, or the value behind its pointer and the right to
-- free it.
use Rattle.std.specs.Prelude.{ℕ, Option, Some, None}
use base.Fml.{Fml, ftrue, fex}
use denote.RawPtr.{Ptr}
use Rattle.std.specs.Box.Ownership.{box_owns}
use Rattle.std.specs.declared.alloc.Global.{Global}
use Rattle.std.specs.contracts.impls.GlobalAllocator.TheImpl.{ghosts}
use Rattle.yasir_c.specs.declared.held.Held.{Held}
use Rattle.yasir_c.specs.contracts.held.Held.{the_row}

abbrev pub owner_owns : Ptr → Option Held → Fml
owner_owns at None = ftrue
owner_owns at (Some value) =
    fex Global (λ heap. box_owns (ghosts.dealloc_token heap) the_row at value)

-- the number by which a handle tells whether it holds something
abbrev pub number_in_handle : Option Held → ℕ
number_in_handle None = 0
number_in_handle (Some value) = 1
